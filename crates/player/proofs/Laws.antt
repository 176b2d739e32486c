-- A set-up of account 0 is accepted. Assumes nothing.
use Prim.Native.Nat.{ℕ}
use mathlib.Core.Path.{◌≡◌, refl, ap, subst}
use mathlib.Core.List.{List, [], ◌∷◌}
use native.Mathlib.Omega.{arith}
use borrow.Author.Rules.{rules}
use lib.IntN.{pos}
use lib.Signed.{le_z}
use Rattle.words.specs.Words.{int}
use Rattle.words.proofs.Int.{int_zero}
use Rattle.accounts.specs.declared.Account.{Account}
use Rattle.accounts.specs.declared.Timing.{Timing}
use Rattle.gateway.specs.Start.{Started, set_up}
use Rattle.start.proofs.Begun.{begun_started}
use Rattle.store.specs.View.{listed}
use Rattle.listing.specs.Rows.{listing}
use Rattle.opening.specs.Starts.{Starts}
use Rattle.edge.specs.Entering.{Lent}
use Rattle.replaying.proofs.Laws.{starts_lent}

pub set_up_lent : (xs ys : List ℕ) (code : ℕ) (c : Account) (t : Timing) → c.id ≡ 0 → Starts (set_up (int 0) 1 0 (c ∷ []) (listing []) t) code xs ys → Lent ys
unfolding Starts listed
set_up_lent xs ys code c t e h =
    record { between = λ _. (subst (λ (x : Started). Starts x code xs ys) (begun_started 0 1 0 t (omega arith) (c ∷ []) (ap (le_z (pos 0)) int_zero) (rw e refl)) h).between }

pub ruleset laws = (rules, starts_lent, set_up_lent)
