use native.Mathlib.Omega.{arith}
use mathlib.Core.Path.{ap}
use Prim.Native.Nat.{ℕ}
use lib.ListN.{set}
use Rattle.le.specs.Le.{put}
use Rattle.le.proofs.put_u8.Goals as goal

pub returns : goal.returns
unfolding put
returns c = ap (λ (b : ℕ). set c.args.m.now c.args.o b) (omega arith)
