use Rattle.table_test.proofs.Laws.{sorted, remove_to, did, found_at}
use native.Mathlib.Omega.{arith}
use Rattle.table_test.proofs.remove.Goals as goal

pub find-requires : goal.find-requires
find-requires c = (sorted c.requires c.size-n.ensures, omega arith)

pub strike-requires : goal.strike-requires
strike-requires c = omega (arith, (found_at c.args.m.now c.in-Some.is c.find.ensures).0)

pub returns-in-Some : goal.returns-in-Some
returns-in-Some c =
    rw c.strike.ensures (did (remove_to _ _ _ c.requires c.size-n.ensures (found_at c.args.m.now c.in-Some.is c.find.ensures)))
