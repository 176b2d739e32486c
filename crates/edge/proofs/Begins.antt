-- A start with the accounts of lent rows, or 11 and nothing changed. Assumes nothing.
use Prim.Native.Nat.{ℕ}
use mathlib.Core.Path.{◌≡◌, refl, sym, ap, subst, ◌∙◌}
use mathlib.Core.Bool.{Bool, true, false, cond}
use mathlib.Core.List.{List}
use borrow.Author.Rules.{rules}
use Rattle.accounts.specs.declared.Account.{Account}
use Rattle.gateway.specs.Limits.{malformed}
use Rattle.gateway.specs.Start.{Started, not_started}
use Rattle.roster.specs.declared.Roster.{Roster}
use Rattle.roster.specs.Rostered.{nobody, enter, entered, Numbered}
use Rattle.roster.proofs.Tables.{gathered}
use Rattle.opening.specs.Starts.{Starts, Begins}
use Rattle.edge.specs.Entering.{whole, begins}
use Rattle.edge.proofs.Laws.{whole_holds}

-- ---- the start, and its refusal

pub roster_numbered : (limit : ℕ) (l : List Account) (r : Roster) → r ≡ entered limit nobody l → Numbered limit r
roster_numbered limit l r e = (gathered limit l r e).numbered

module _ (xs : List ℕ) (b d ok : Bool) (f : d ≡ ok) (e : b ≡ whole d xs) where
  is : (c : Bool) (s : Started) → b ≡ c → begins ok xs s ≡ cond c s (not_started malformed)
  unfolding begins
  is c s t = ap (λ (z : Bool). cond z s (not_started malformed)) (ap (λ (z : Bool). whole z xs) (sym f) ∙ sym e ∙ t)

  pub starts_at : (limit : ℕ) (l : List Account) (r : Roster) (s : List Account → Started) (code : ℕ) (ys : List ℕ) → b ≡ true → r ≡ entered limit nobody l
      → Begins limit r s code xs ys → Starts (begins ok xs (s l)) code xs ys
  starts_at limit l r s code ys t g h = subst (λ (o : Started). Starts o code xs ys) (sym (is true (s l) t)) (h.starts l (gathered limit l r g))

  pub starts_no : (s : Started) → b ≡ false → Starts (begins ok xs s) 11 xs xs
  unfolding Starts
  starts_no s t = subst (λ (o : Started). Starts o 11 xs xs) (sym (is false s t)) (record { code_is = refl; state_kept = refl; rest_kept = tt })

pub ruleset begin_laws = (rules, whole_holds, roster_numbered, starts_no)
