use native.Mathlib.Omega.{arith}
use Rattle.store.proofs.Places.{rows_few}
use Rattle.pending.proofs.Laws.{push_row_is}
use Rattle.pending.proofs.push_row.Goals as goal

pub overflow_add-n : goal.overflow_add-n
overflow_add-n c =
    omega (arith, c.get-n.ensures, c.requires.1.row_is, rows_few c.args.b c.requires.1.block_is)

pub returns : goal.returns
returns c = search (push_row_is, arith)
