-- Tests one behind the other: the first that fails decides. Assumes nothing.
use Rattle.std.specs.Prelude.{Option, Some, None}
use Rattle.std.specs.Option.{option_or}
use Rattle.std.specs.Bool.{then_some}
use mathlib.Core.Path.{◌≡◌, refl, ap, ap₂, ◌∙◌}
use mathlib.Core.Bool.{Bool, true, false, not, ◌&&◌}
use mathlib.Core.List.{[], ◌∷◌, ◌++◌}
use Prim.Native.Nat.{ℕ}
use native.Mathlib.Omega.{arith}
use Rattle.protocol.specs.declared.RejectCode.{RejectCode}
use Rattle.gateway.specs.Core.{Tests}
use Rattle.gateway.specs.Entry.{Plan, unless}
use Rattle.pretrade.specs.Pretrade.{first}

-- one test
pub one_test : (k : RejectCode) (b : Bool) → then_some (not b) k ≡ first ((k, b) ∷ [])
one_test k true = refl
one_test k false = refl

-- some, and some more
pub or_append : (ts us : Tests RejectCode) → option_or (first ts) (first us) ≡ first (ts ++ us)
or_append [] us = refl
or_append ((k, true) ∷ ts) us = or_append ts us
or_append ((k, false) ∷ ts) us = refl

pub or_more : (v w r : Option RejectCode) (ts us : Tests RejectCode) → v ≡ first ts → w ≡ first us → r ≡ option_or v w → r ≡ first (ts ++ us)
or_more v w r ts us p q e = e ∙ ap₂ option_or p q ∙ or_append ts us

-- two tests of one code are one
pub joined : (k : RejectCode) (x y : Bool) (ts : Tests RejectCode) → first ((k, x) ∷ (k, y) ∷ ts) ≡ first ((k, x && y) ∷ ts)
joined k true y ts = refl
joined k false y ts = refl

-- ---- what a plan does

pub unless_passed : (ts : Tests RejectCode) (no_way : RejectCode → Plan) (p : Plan) → first ts ≡ None → unless ts no_way p ≡ p
unfolding unless
unless_passed [] no_way p e = refl
unless_passed ((k, true) ∷ ts) no_way p e = unless_passed ts no_way p e
unless_passed ((k, false) ∷ ts) no_way p e = absurd (let z : ◌≡◌ {A = ℕ} 0 1 = cc in omega (arith, z))

pub unless_failed : (ts : Tests RejectCode) (no_way : RejectCode → Plan) (p : Plan) (k : RejectCode) → first ts ≡ Some k → unless ts no_way p ≡ no_way k
unfolding unless
unless_failed [] no_way p j e = absurd (let z : ◌≡◌ {A = ℕ} 0 1 = cc in omega (arith, z))
unless_failed ((k, true) ∷ ts) no_way p j e = unless_failed ts no_way p j e
unless_failed ((k, false) ∷ ts) no_way p j e = let q : k ≡ j = cc in ap no_way q
