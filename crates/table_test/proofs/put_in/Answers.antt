use Rattle.table_test.proofs.Laws.{put_in_to}
use native.Mathlib.Omega.{arith}
use Rattle.table_test.proofs.put_in.Goals as goal

pub returns : goal.returns
returns c =
    rw (c.put_u64.ensures, c.write_row.ensures) (put_in_to c.args.n c.args.i c.args.r c.requires (omega (arith, c.well_formed)) c.open_at.ensures)
