-- An accepted trade settles: what `Settling` of specs/Claims.antt claims. Assumes nothing.
use Rattle.std.specs.Prelude.{Option, Some, None, option_map}
use Prim.Native.Nat.{ℕ}
use mathlib.Core.Bool.{Bool, true, not, ◌&&◌, and-eq-true_iff, true≢false}
use mathlib.Core.Path.{◌≡◌, refl, ap, ap₂, sym, ◌∙◌}
use mathlib.Core.Logic.{◌⊎◌, inl, inr}
use mathlib.Core.List.{List}
use borrow.Author.Tests.{eq-eqb}
use lib.IntN.{ℤ, pos, ◌+ℤ◌, ◌-ℤ◌, ◌*ℤ◌}
use lib.ListN.{get_or}
use lib.Seq.{get_or-set_same, get_or-set_other}
use lib.Dec.{eqb, leb}
use Rattle.orderbook.specs.declared.Side.{Side}
use Rattle.orderbook.specs.declared.Side.TheVariants.{Buy, Sell}
use Rattle.orderbook.specs.declared.Event.TheVariants.{Trade}
use Rattle.accounts.specs.declared.Funds.{Funds}
use Rattle.words.specs.Words.{place_of, inside}
use Rattle.wallet.specs.Wallet as W
use Rattle.gateway.specs.Ledger.{Order, Ledger, Change, event, find, fill, changes, change, changed, pay, step, same_side, order_hold, fits}
use Rattle.gateway.specs.Deliver.{hold_after}
use Rattle.gateway.specs.Core.{Pass, Origin, Core, numbers_agree, tests, core_step}
use Rattle.gateway.proofs.Money.{bounds}
use Rattle.gateway.proofs.Invariant.{Rise}
use Rattle.gateway.proofs.Moves.{fills, find_changed, rise_changed, held_changed}
use Rattle.gateway.proofs.Calls.{held_slot}
use Rattle.gateway.specs.Invariant.{CoreOk}
use Rattle.gateway.specs.Claims.{Settles, exactly, hold_move, Settling}

-- ---- wallets

module _ (fee p : ℤ) (q : ℕ) (ws : List (Option Funds)) where
  -- the account of a filled order is paid
  pay_own : (x : Option Order) (o : Order) (w : Funds) → x ≡ Some o → get_or ws o.account None ≡ Some w →
      get_or (pay fee p q x ws) o.account None ≡ Some (W.settle o.side (W.charged fee o.side p) q w)
  unfolding pay
  pay_own x o w h e =
      ap (λ y. get_or (pay fee p q y ws) o.account None) h
      ∙ get_or-set_same ws o.account _ None (held_slot ws o.account w e) ∙ ap (option_map (W.settle o.side (W.charged fee o.side p) q)) e

  -- and no other
  pay_other : (x : Option Order) (b : ℕ) → ((o : Order) → x ≡ Some o → b ≡ o.account → ⊥) → get_or (pay fee p q x ws) b None ≡ get_or ws b None
  unfolding pay
  pay_other None b h = refl
  pay_other (Some o) b h = get_or-set_other ws o.account b _ None (h o refl)

-- where the numbers fit, settling is exact
fit_inside : (z : ℤ) → fits z ≡ true → place_of z ≡ inside z
unfolding place_of
fit_inside z h = let b = bounds z h in rw (b.0, b.1) refl

exact : (s : Side) (p : ℤ) (q : ℕ) (f : Funds) → fits (p *ℤ pos q) ≡ true → fits (pos q) ≡ true →
    fits (exactly s (p *ℤ pos q) (pos q) f).cash ≡ true → fits (exactly s (p *ℤ pos q) (pos q) f).position ≡ true →
    W.settle s p q f ≡ exactly s (p *ℤ pos q) (pos q) f
exact Buy p q f a b c d = simp (fit_inside _ a, fit_inside _ b, fit_inside _ c, fit_inside _ d)
exact Sell p q f a b c d = simp (fit_inside _ a, fit_inside _ b, fit_inside _ c, fit_inside _ d)

-- ---- holds

-- for the order's own account and side: what it holds afterwards, less what it held
own_hold : (fee : ℤ) (x : Change) (o : Order) → hold_move fee o.account o.side x (Some o) ≡ hold_after fee x o -ℤ order_hold fee o
own_hold fee x o = simp (eq-eqb o.account o.account refl, self o.side)
  where
    self : (s : Side) → same_side s s ≡ true
    self Buy = refl
    self Sell = refl

-- ---- an accepted trade

trade_settles : (n t taker maker : ℕ) (s : Side) (p : ℤ) (q tl ml : ℕ) (l : Ledger) → (taker ≡ maker → ⊥) → Rise 0 l.orders →
    Settles l (changed (changes n (Trade t taker maker s p q tl ml)) l) taker maker p q tl ml
unfolding changes change
trade_settles n t taker maker s p q tl ml l h u =
    let same = find_changed taker maker h (fills p q tl) l in
    let next = change (fill taker p q tl) l in
    record {
      fee = refl;
      wallets = ap (λ x. pay l.fee p q x (pay l.fee p q (find taker l.orders) l.wallets)) same;
      holds = λ a b.
          held_changed l.fee a b (fills p q ml) next (rise_changed (fill taker p q tl) l u)
          ∙ ap₂ (λ x y. x +ℤ hold_move l.fee a b (fill maker p q ml) y) (held_changed l.fee a b (fills p q tl) l u) same;
    }

differ : (n : ℕ) (new : Bool) (t taker maker : ℕ) (s : Side) (p : ℤ) (q tl ml : ℕ) → numbers_agree n new (Trade t taker maker s p q tl ml) ≡ true → taker ≡ maker → ⊥
unfolding numbers_agree
differ n new t taker maker s p q tl ml h e =
    let u = ((and-eq-true_iff (leb maker n) (not (eqb taker maker))).0 ((and-eq-true_iff (leb taker n) (leb maker n && not (eqb taker maker))).0 h).1).1 in
    true≢false (sym (rw (eq-eqb taker maker e) at u))

pub accepted_settles : (from : Origin) (n t taker maker : ℕ) (s : Side) (p : ℤ) (q tl ml : ℕ) (c : Core) → CoreOk c → Pass (tests (event n (Trade t taker maker s p q tl ml)) c) →
    Settles c.ledger (core_step from (event n (Trade t taker maker s p q tl ml)) c).ledger taker maker p q tl ml
unfolding step tests
accepted_settles from n t taker maker s p q tl ml c ok h =
    trade_settles n t taker maker s p q tl ml c.ledger (differ n _ t taker maker s p q tl ml h.1.1.0) ok.rise

-- ---- one side of it

-- the taker's account, where the maker's order is not of it; and the maker's likewise
one_side : (c d : Ledger) (taker maker : ℕ) (p : ℤ) (q tl ml : ℕ) → Settles c d taker maker p q tl ml → (i j : ℕ) → ((i ≡ taker) × (j ≡ maker)) ⊎ ((i ≡ maker) × (j ≡ taker)) →
    (o : Order) (w : Funds) → find i c.orders ≡ Some o → get_or c.wallets o.account None ≡ Some w →
    ((x : Order) → find j c.orders ≡ Some x → o.account ≡ x.account → ⊥) → get_or d.wallets o.account None ≡ Some (W.settle o.side (W.charged c.fee o.side p) q w)
one_side c d taker maker p q tl ml h i j (inl z) o w e f g =
    ap (λ ws. get_or ws o.account None) h.wallets
    ∙ pay_other c.fee p q _ (find maker c.orders) o.account (λ x k. g x (ap (λ m. find m c.orders) z.1 ∙ k))
    ∙ pay_own c.fee p q c.wallets (find taker c.orders) o w (ap (λ m. find m c.orders) (sym z.0) ∙ e) f
one_side c d taker maker p q tl ml h i j (inr z) o w e f g =
    ap (λ ws. get_or ws o.account None) h.wallets
    ∙ pay_own c.fee p q _ (find maker c.orders) o w (ap (λ m. find m c.orders) (sym z.0) ∙ e)
    (pay_other c.fee p q c.wallets (find taker c.orders) o.account (λ x k. g x (ap (λ m. find m c.orders) z.1 ∙ k)) ∙ f)

-- an account that neither order names
others : (c d : Ledger) (taker maker : ℕ) (p : ℤ) (q tl ml : ℕ) → Settles c d taker maker p q tl ml → (b : ℕ) →
    ((o : Order) → find taker c.orders ≡ Some o → b ≡ o.account → ⊥) → ((o : Order) → find maker c.orders ≡ Some o → b ≡ o.account → ⊥) →
    get_or d.wallets b None ≡ get_or c.wallets b None
others c d taker maker p q tl ml h b u v =
    ap (λ ws. get_or ws b None) h.wallets ∙ pay_other c.fee p q _ (find maker c.orders) b v ∙ pay_other c.fee p q c.wallets (find taker c.orders) b u

pub settling : Settling
settling = record { settles = accepted_settles; one_side = one_side; others = others; exact = exact; own_hold = own_hold }
