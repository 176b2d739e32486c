-- Plans that tests guard. Assumes nothing.
use Prim.Native.Nat.{ℕ}
use mathlib.Core.Bool.{true, false, not, and-eq-true_iff}
use mathlib.Core.Path.{◌≡◌, refl}
use mathlib.Core.Logic.{◌⊎◌, inl, inr}
use mathlib.Core.List.{[], ◌∷◌}
use lib.Dec.{eqb}
use Rattle.gateway.specs.Core.{Tests}
use Rattle.gateway.specs.Entry.{Plan, refuse, unless}
use Rattle.outcome.proofs.Calls.{codes}
use Rattle.opening.proofs.Codes.{code_not_0}

-- tests lead to a refusal with a code, or to the plan behind them
abbrev pub Either : Tests ℕ → Plan → Type 0
Either ts p = ((k : ℕ) × (unless ts refuse p ≡ refuse k) × (k ≡ 0 → ⊥)) ⊎ (unless ts refuse p ≡ p)

pub unless_either : (ts : Tests ℕ) (p : Plan) → codes ts ≡ true → Either ts p
unfolding unless
unless_either [] p c = inr refl
unless_either ((k, true) ∷ ts) p c = unless_either ts p ((and-eq-true_iff (not (eqb k 0)) (codes ts)).0 c).1
unless_either ((k, false) ∷ ts) p c = inl (k, refl, code_not_0 k ts c)
