-- A stored balance is that of the definitions. Assumes nothing.
use Rattle.std.specs.Prelude.{Option, Some, None, option_map, is_some}
use mathlib.Core.Path.{◌≡◌, refl, sym, ap, ◌∙◌}
use mathlib.Core.Bool.{Bool, true, false, cond, false≢true}
use mathlib.Core.List.{List, []}
use Prim.Native.Nat.{ℕ, ◌≤◌, ◌<◌}
use native.Mathlib.Omega.{arith}
use lib.ListN.{get_or-eq_default}
use Rattle.orderbook.specs.declared.Side.{Side}
use Rattle.orderbook.specs.declared.Side.TheVariants.{Buy, Sell}
use Rattle.protocol.specs.declared.Balance.{Balance}
use Rattle.accounts.specs.declared.Funds.{Funds}
use Rattle.words.specs.Words.{int}
use Rattle.wallet.specs.declared.Wallet.{Wallet}
use Rattle.wallet.specs.Wallet as W
use Rattle.gateway.specs.Limits.{owner_slots}
use Rattle.gateway.specs.Ledger.{Order, held, fits, holds_fit}
use Rattle.gateway.proofs.Holds.{holds_each, side_fits}
use Rattle.gateway.specs.Rest.{Rest}
use Rattle.gateway.specs.Entry.{wallet_is, quiet, wallet_at, balance_with, balance}
use Rattle.gateway.specs.Calls as Calls
use Rattle.gateway.specs.Calls.{Gateway, call, plan}
use Rattle.store.specs.Cells as C
use Rattle.store.specs.Layout.{cell}
use Rattle.store.specs.View.{Row, flag, wallet, ledger, gateway}
use Rattle.clients.specs.Clients.{wallet_words}
use Rattle.clients.proofs.Views.{wallet_at_row}
use Rattle.sound.specs.Sound.{Becomes}
use Rattle.sound.proofs.Totals.{total_exact}
use Rattle.outcome.specs.Between.{Between}
use Rattle.outcome.specs.Parts.{with_rest}
use Rattle.outcome.specs.Answers.{Says}
use Rattle.outcome.proofs.Calls.{says_done}
use Rattle.store.proofs.Listed.{listed_length}
use Rattle.balances.specs.Balances.{Exact}

-- ---- when the totals are exact

pub exact_between : {xs : List ℕ} → Between xs → Exact xs
exact_between b = record { state = b.state; fit = b.ok.core_is.holds }

-- what changes the rest alone leaves them
pub exact_becomes : {xs ys : List ℕ} (f : Rest → Rest) → Exact xs → Becomes ys (with_rest f (gateway (cell xs))) → Exact ys
exact_becomes f e b = record { state = b.state; fit = ap (λ (g : Gateway). holds_fit g.core.ledger) b.gateway_is ∙ e.fit }

-- ---- the totals of one wallet

module _ (xs : List ℕ) (a : ℕ) (x : Exact xs) (l : a < owner_slots) where
  abbrev row : Row
  row = cell xs C.accounts a

  abbrev os : List Order
  os = (ledger (cell xs)).orders

  one_fits : is_some (wallet row) ≡ true → (z : Side) → fits (held (ledger (cell xs)).fee a z os) ≡ true
  one_fits t = side_fits (ledger (cell xs)).fee a (wallet_at a (gateway (cell xs)).core) os (ap is_some (wallet_at_row a (cell xs) l) ∙ t) (holds_each (ledger (cell xs)) x.fit a)

  -- of a row with a wallet
  with_wallet : (b : Bool) (f : Funds) → is_some (cond b (Some f) None) ≡ true → cond b (Some f) None ≡ Some f
  with_wallet true f t = refl
  with_wallet false f t = absurd (false≢true t)

  pub balance_is : (w : Wallet) (r : Balance) → is_some (wallet row) ≡ true → w ≡ wallet_words row → r ≡ W.balance_of w → Some r ≡ balance a (gateway (cell xs)).core
  balance_is w r t e g =
      let p = total_exact (cell xs) a Buy x.state.sound.held l (one_fits t Buy) in
      let q = total_exact (cell xs) a Sell x.state.sound.held l (one_fits t Sell) in
      ap Some (g ∙ ap W.balance_of e)
      ∙ (λ i. Some (record { cash = int (row C.account_cash); position = int (row C.account_position); cash_held = p i; position_held = q i }))
      ∙ sym (ap (option_map (balance_with (ledger (cell xs)).fee a os)) (wallet_at_row a (cell xs) l ∙ with_wallet (flag (row C.account_funded)) _ t))

  without : (o : Option Funds) → is_some o ≡ false → None ≡ option_map (balance_with (ledger (cell xs)).fee a os) o
  without None t = refl
  without (Some w) t = absurd (false≢true (sym t))

  pub balance_none : (b : Bool) → b ≡ is_some (wallet row) → b ≡ false → None ≡ balance a (gateway (cell xs)).core
  balance_none b e t = without (wallet_at a (gateway (cell xs)).core) (ap is_some (wallet_at_row a (cell xs) l) ∙ sym e ∙ t)

-- ---- the call `wallet`

module _ (xs : List ℕ) (a : ℕ) (b : Between xs) where
  pub wallet_found : (r : Option Balance) → r ≡ balance a (gateway (cell xs)).core → Says (wallet_is r) (call (gateway (cell xs)) (Calls.wallet a)) 0 xs xs
  unfolding plan
  wallet_found r e =
      says_done xs (Calls.wallet a) tt b (wallet_is r) (gateway (cell xs)).rest (ap (λ o. quiet (wallet_is o) [] (gateway (cell xs)).rest) (sym e)) (record { state = b.state; gateway_is = refl })

  -- past the slots there is nobody
  pub wallet_past : owner_slots ≤ a → Says (wallet_is None) (call (gateway (cell xs)) (Calls.wallet a)) 0 xs xs
  wallet_past l =
      wallet_found None
      (sym (ap (option_map (balance_with (gateway (cell xs)).core.ledger.fee a (gateway (cell xs)).core.ledger.orders)) (get_or-eq_default (gateway (cell xs)).core.ledger.wallets None {n = a} (rw (listed_length (λ i. wallet (cell xs C.accounts i)) owner_slots) l))))

pub ruleset laws = (wallet_found, wallet_past, exact_between, balance_is, balance_none, arith)
