use Rattle.table_test.proofs.Laws.{sorted, change_to, did, found_at}
use native.Mathlib.Omega.{arith}
use Rattle.table_test.proofs.change.Goals as goal

pub find-requires : goal.find-requires
find-requires c = (sorted c.requires c.size-n.ensures, omega arith)

pub overflow_mul-i : goal.overflow_mul-i
overflow_mul-i c = omega (arith, (found_at c.args.m.now c.in-Some.is c.find.ensures).0)

pub overflow_add-i : goal.overflow_add-i
overflow_add-i c = omega (arith, (found_at c.args.m.now c.in-Some.is c.find.ensures).0)

pub overflow_add-i-in-Some : goal.overflow_add-i-in-Some
overflow_add-i-in-Some c = omega (arith, (found_at c.args.m.now c.in-Some.is c.find.ensures).0)

pub put_u64-requires : goal.put_u64-requires
put_u64-requires c = omega (arith, (found_at c.args.m.now c.in-Some.is c.find.ensures).0)

pub returns-in-Some : goal.returns-in-Some
returns-in-Some c =
    rw c.put_u64.ensures (did (change_to _ _ _ c.args.v c.requires c.size-n.ensures c.ranges.v.fits (found_at c.args.m.now c.in-Some.is c.find.ensures)))
