use Prim.Native.Nat.{◌-◌}
use Rattle.playing.proofs.Laws.{laws, alike_more}
use native.Mathlib.Omega.{arith}
use borrow.Author.Tests.{not-false}
use Rattle.playing.proofs.are_alike.Goals as goal

pub loop-a-init : goal.loop-a-init
loop-a-init c = search laws

pub returns-then-not-agrees : goal.returns-then-not-agrees
returns-then-not-agrees c = search laws

pub loop-a-preserved : goal.loop-a-preserved
loop-a-preserved c =
    alike_more _ _ _ _ _ _ c.standing-first.ensures c.standing-second.ensures c.agrees.ensures.tells c.loop-a.invariant c.if-not-agrees.false

pub returns : goal.returns
returns c = search laws
