use mathlib.Core.Path.{◌≡◌}
use Prim.Native.Nat.{◌+◌, max}
use native.Mathlib.Omega.{arith}
use Rattle.risk.proofs.Bucket.update.Goals as goal

pub returns : goal.returns
returns c =
    let a = c.args in
    let h : a.self.refilled + c.saturating_sub-elapsed.result ≡ max a.self.refilled a.now = omega arith in
    cc
