-- A roster says what the definitions say of any list of accounts that it is of. Assumes nothing.
use Rattle.std.specs.Prelude.{Option, Some, None}
use Prim.Native.Nat.{ℕ, suc, ◌≤◌}
use mathlib.Core.Path.{◌≡◌, refl, sym, ap, ap₂, ◌∙◌}
use mathlib.Core.Bool.{Bool, true, false, cond, ◌&&◌}
use mathlib.Core.List.{List, [], ◌∷◌, ◌++◌}
use borrow.Author.Tests.{leb-true}
use lib.Dec.{leb}
use lib.IntN.{ℤ}
use Rattle.accounts.specs.declared.Account.{Account}
use Rattle.accounts.specs.declared.Funds.{Funds}
use Rattle.gateway.specs.Limits.{owner_slots, outside}
use Rattle.gateway.specs.Ledger.{Order, holds_fit, wallet_fits}
use Rattle.gateway.specs.Ledger as Ledger
use Rattle.gateway.specs.Saved.{Saved, slots}
use Rattle.gateway.specs.Start.{accounts_of, all_below, by_slot, funds_in, wallets_below, order_tests, restored_wallets, restored_ledger, restore_tests}
use Rattle.outcome.specs.Answers.{verdict}
use Rattle.roster.specs.declared.Roster.{Roster}
use Rattle.roster.specs.Rostered.{Gathered}
use Rattle.totals.specs.Totals.{wallets_fit}
use Rattle.totals.proofs.Brought.{funds_are}
use Rattle.restore.specs.Judging.{roster_tests}

-- whether totals fit depends on where there are wallets, which the funds say
fit_restored : (fee : ℤ) (a : ℕ) (fs ws : List (Option Funds)) (os : List Order) → Ledger.wallets_fit fee a (restored_wallets fs ws) os ≡ Ledger.wallets_fit fee a fs os
fit_restored fee a [] ws os = refl
fit_restored fee a (f ∷ fs) [] os = ap (λ b. wallet_fits fee a f os && b) (fit_restored fee (suc a) fs [] os)
fit_restored fee a (None ∷ fs) (w ∷ ws) os = fit_restored fee (suc a) fs ws os
fit_restored fee a (Some f ∷ fs) (w ∷ ws) os = ap (λ b. wallet_fits fee a (Some f) os && b) (fit_restored fee (suc a) fs ws os)

module _ (fee : ℤ) (limit : ℕ) (l : List Account) (r : Roster) (h : Gathered limit l r) where
  totals_are : limit ≤ owner_slots → (s : Saved) → holds_fit (restored_ledger fee (accounts_of limit l) s) ≡ wallets_fit fee r 0 s.orders
  unfolding holds_fit
  totals_are few s =
      fit_restored fee 0 (by_slot funds_in owner_slots (accounts_of limit l)) (slots owner_slots 0 s.wallets) s.orders
      ∙ ap (λ fs. Ledger.wallets_fit fee 0 fs s.orders) (funds_are limit l r h few)

  pub verdict_is : (s : Saved) → verdict (restore_tests fee limit l s) ≡ verdict (roster_tests fee limit r s)
  verdict_is s = go (leb limit owner_slots) refl
    where
      after : Bool → Bool → ℕ
      after b t = cond b (cond (wallets_below limit s.wallets) (verdict (order_tests limit s.last s.orders ++ ((outside, t) ∷ []))) 1) 1

      go : (few : Bool) → leb limit owner_slots ≡ few → cond few (after (all_below limit l) (holds_fit (restored_ledger fee (accounts_of limit l) s))) 5 ≡ cond few (after r.below (wallets_fit fee r 0 s.orders)) 5
      go true e = ap₂ after (sym h.below) (totals_are (leb-true limit owner_slots e) s)
      go false e = refl
