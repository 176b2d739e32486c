use native.Mathlib.Omega.{arith}
use Rattle.le.proofs.Laws.{le_split}
use Rattle.le.proofs.get_u64.Goals as goal

pub returns : goal.returns
returns c =
    let a = c.args in
    omega (arith, le_split 4 4 a.m.now a.o)
