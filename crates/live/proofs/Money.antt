-- A trade moves the wallet of the order's account, where it has one, and nothing else. Assumes nothing.
use Rattle.std.specs.Prelude.{Option, Some, None, option_map}
use mathlib.Core.Path.{◌≡◌, refl, sym, ap, ◌∙◌}
use mathlib.Core.Bool.{true, cond}
use mathlib.Core.List.{List}
use Prim.Native.Nat.{ℕ, ◌<◌}
use borrow.Author.Tests.{ne_eqb}
use lib.ListN.{get_or, set}
use lib.IntN.{ℤ, ◌+ℤ◌, ◌-ℤ◌}
use Rattle.accounts.specs.declared.Funds.{Funds}
use Rattle.orderbook.specs.declared.Side.{Side}
use Rattle.orderbook.specs.declared.Side.TheVariants.{Buy, Sell}
use Rattle.words.specs.Words.{int, wrap}
use Rattle.words.proofs.Wrap.{clamp_wraps}
use Rattle.wallet.specs.Wallet as W
use Rattle.gateway.specs.Limits.{owner_slots}
use Rattle.gateway.specs.Ledger.{Order, Ledger, wallet_of, paid_to}
use Rattle.gateway.proofs.Base.{split}
use Rattle.store.specs.Cells as C
use Rattle.store.specs.View.{Store, flag, wallet, gateway}
use Rattle.store.proofs.Listed.{listed_set, listed_at}
use Rattle.clients.specs.Clients as Clients
use Rattle.clients.proofs.Rows.{cells_block}
use Rattle.clients.proofs.Views.{money_view}
use Rattle.sound.specs.Sound.{Sound}
use Rattle.sound.proofs.Clients.{money_sound}
use Rattle.live.specs.Live.{with_ledger, funds, settle, pay}

abbrev pub with_wallets : List (Option Funds) → Ledger → Ledger
with_wallets ws l = record { last = l.last; wallets = ws; orders = l.orders; mark = l.mark; fee = l.fee }

-- what a trade leaves is in range
settled_wraps : (z : Side) (p : ℤ) (q : ℕ) (f : Funds) → record { cash = int (wrap (W.settle z p q f).cash); position = int (wrap (W.settle z p q f).position) } ≡ W.settle z p q f
settled_wraps Buy p q f = λ i. record { cash = clamp_wraps (f.cash -ℤ W.paid p q) i; position = clamp_wraps (f.position +ℤ W.lots q) i }
settled_wraps Sell p q f = λ i. record { cash = clamp_wraps (f.cash +ℤ W.paid p q) i; position = clamp_wraps (f.position -ℤ W.lots q) i }

module _ (a : ℕ) (z : Side) (p q : ℕ) (s : Store) (l : a < owner_slots) where
  abbrev fee : ℤ
  fee = (gateway s).core.ledger.fee

  abbrev after : Funds
  after = W.settle z (W.charged fee z (int p)) q (funds a s)

  abbrev paid : Store
  paid = Clients.set_money a (wrap after.cash) (wrap after.position) s

  abbrev wallets : List (Option Funds)
  wallets = (gateway s).core.ledger.wallets

  -- the wallet of the account moves, where there is one
  paid_view : flag (s C.accounts a C.account_funded) ≡ true → gateway paid ≡ with_ledger (with_wallets (set wallets a (Some after))) (gateway s)
  paid_view e =
      money_view a (wrap after.cash) (wrap after.position) s l e
      ∙ ap (λ f. with_ledger (with_wallets (set wallets a (Some f))) (gateway s)) (settled_wraps z (W.charged fee z (int p)) q (funds a s))

  module _ (o : Order) (at : o.account ≡ a) (on : o.side ≡ z) where
    wallet_is : wallet_of wallets o ≡ wallet (s C.accounts a)
    wallet_is = ap (λ k. get_or wallets k None) at ∙ listed_at (λ i. wallet (s C.accounts i)) owner_slots a None l

    paid_is : (w : Option Funds) → wallet (s C.accounts a) ≡ w → set wallets a (option_map (W.settle z (W.charged fee z (int p)) q) w) ≡ paid_to fee (int p) q wallets o
    paid_is w e = sym (λ i. set wallets (at i) (option_map (W.settle (on i) (W.charged fee (on i) (int p)) q) ((wallet_is ∙ e) i)))

    pub pay_view : gateway (pay a z p q s) ≡ with_ledger (λ l. with_wallets (paid_to l.fee (int p) q l.wallets o) l) (gateway s)
    unfolding pay settle
    pay_view =
        split (λ b. (flag (s C.accounts a C.account_funded) ≡ b) → gateway (cond b paid s) ≡ with_ledger (λ l. with_wallets (paid_to l.fee (int p) q l.wallets o) l) (gateway s))
        (flag (s C.accounts a C.account_funded))
        (λ _ e. paid_view e ∙ ap (λ ws. with_ledger (with_wallets ws) (gateway s)) (paid_is (Some (funds a s)) (ap (λ b. cond b (Some (funds a s)) None) e)))
        (λ _ e.
        ap (λ ws. with_ledger (with_wallets ws) (gateway s))
        (listed_set (λ i. wallet (s C.accounts i)) (λ i. wallet (s C.accounts i)) owner_slots a None l (ap (λ b. cond b (Some (funds a s)) None) e) (λ j m n. refl)
        ∙ paid_is None (ap (λ b. cond b (Some (funds a s)) None) e)))
        refl

  pub pay_sound : Sound s → Sound (pay a z p q s)
  unfolding pay settle
  pay_sound d = split (λ b. Sound (cond b paid s)) (flag (s C.accounts a C.account_funded)) (λ e. money_sound s d a (wrap after.cash) (wrap after.position)) (λ e. d)

  -- all but the account's row is as before
  pub pay_elsewhere : (b i k : ℕ) → (b ≡ C.accounts → ⊥) → pay a z p q s b i k ≡ s b i k
  unfolding pay settle
  pay_elsewhere b i k n =
      split (λ c. cond c paid s b i k ≡ s b i k) (flag (s C.accounts a C.account_funded))
      (λ e. cells_block C.accounts a (Clients.money_cells (wrap after.cash) (wrap after.position)) s b i k (ne_eqb b C.accounts n)) (λ e. refl)
