-- The throttle is RFC 2697's meter: what specs/Claims.antt claims. Assumes nothing.
use mathlib.Core.Path.{◌≡◌, refl, sym, ◌∙◌, ap}
use mathlib.Core.Bool.{Bool, true, false, cond}
use Prim.Native.Nat.{ℕ, zero, suc, ◌+◌, ◌-◌, ◌*◌, ◌≤◌, min}
use native.Mathlib.Omega.{arith}
use lib.Dec.{ltb}
use borrow.Author.Tests.{ltb-true, ltb-false}
use Rattle.risk.specs.declared.Bucket.{Bucket}
use Rattle.risk.specs.Meter.{grow, grows, green}
use Rattle.risk.specs.Throttle.{burst, filled, update, colored, take_token}
use Rattle.risk.specs.Claims.{Claims}

one : (cbs m : ℕ) → grow cbs (min m cbs) ≡ min (suc m) cbs
one cbs m = go (ltb (min m cbs) cbs) refl
  where
    go : (t : Bool) → ltb (min m cbs) cbs ≡ t → cond t (suc (min m cbs)) (min m cbs) ≡ min (suc m) cbs
    go true e = omega (arith, ltb-true (min m cbs) cbs e)
    go false e = omega (arith, ltb-false (min m cbs) cbs e)

many : (cbs n tc : ℕ) → tc ≤ cbs → grows cbs n tc ≡ min (tc + n) cbs
unfolding grows
many cbs zero tc h = omega arith
many cbs (suc n) tc h = ap (grow cbs) (many cbs n tc h) ∙ one cbs (tc + n) ∙ omega arith

-- the updates of a time at once are those of the RFC, one by one, `rate` in each nanosecond
meter : (rate elapsed tc : ℕ) → tc ≤ burst rate → filled rate elapsed tc ≡ grows (burst rate) (rate * elapsed) tc
unfolding filled
meter rate elapsed tc h = sym (many (burst rate) (rate * elapsed) tc h)

-- the count never passes CBS
capped : (rate now : ℕ) (b : Bucket) → (take_token rate now b).bucket.tokens ≤ burst rate
unfolding filled
capped rate now b = go (green _ _)
  where
    go : (t : Bool) → (colored t (update rate now b)).bucket.tokens ≤ burst rate
    go true = omega arith
    go false = omega arith

-- rate 0 always throttles
rate_zero : (now : ℕ) (b : Bucket) → (take_token 0 now b).passed ≡ false
unfolding filled green
rate_zero now b = rw empty
  where
    empty : min (b.tokens + 0 * (now - b.refilled)) (burst 0) ≡ 0
    empty = omega arith

pub claimed : Claims
claimed = record { meter = meter; capped = capped; rate_zero = rate_zero }
