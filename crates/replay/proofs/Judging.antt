-- Each test of a replayed command is the definitions' test. Assumes nothing.
use Rattle.std.specs.Prelude.{None, is_some}
use mathlib.Core.Path.{◌≡◌, refl, sym, ap, ◌∙◌}
use mathlib.Core.Bool.{Bool, true, false, cond, not}
use mathlib.Core.Logic.{⊎_elim}
use mathlib.Core.List.{List}
use Prim.Native.Nat.{ℕ, ◌-◌, ◌≤◌, ◌<◌}
use native.Mathlib.Omega.{arith}
use borrow.Author.Tests.{eq-eqb, ne_eqb}
use lib.Dec.{eqb, ltb}
use lib.IntN.{ℤ, pos, ◌+ℤ◌, ◌-ℤ◌}
use lib.ListN.{get_or, get_or-eq_default}
use Rattle.orderbook.specs.declared.Side.{Side}
use Rattle.words.specs.Words.{int}
use Rattle.words.proofs.Int.{int_zero}
use Rattle.table.proofs.Live.{same?}
use Rattle.gateway.specs.Limits.{owner_slots, most_orders, most_in_flight}
use Rattle.gateway.specs.Ledger.{Ledger, held, order_hold, fits, holds_fit}
use Rattle.gateway.specs.Core.{owner_limit}
use Rattle.gateway.specs.Rest.{no_session}
use Rattle.gateway.specs.Entry.{next}
use Rattle.gateway.specs.Calls.{Gateway}
use Rattle.store.specs.Cells as C
use Rattle.store.specs.Layout.{cell}
use Rattle.store.specs.View.{word, side, wallet, ledger, gateway}
use Rattle.store.proofs.Listed.{listed_length}
use Rattle.clients.proofs.Views.{wallet_at_row}
use Rattle.orders.specs.declared.Live.{Live}
use Rattle.orders.specs.Orders.{order_of}
use Rattle.sound.specs.Sound.{held_cell, State}
use Rattle.live.specs.Live.{hold_word, placing}
use Rattle.live.proofs.Accounts.{hold_is}
use Rattle.live.proofs.Fits.{held_exact}
use Rattle.outcome.specs.Between.{Between}
use Rattle.outcome.specs.Answers.{verdict}
use Rattle.outcome.specs.Parts.{rest_of}
use Rattle.commands.proofs.Numbering.{flights_are}
use Rattle.pretrade.proofs.Testing.{more_fits}
use Rattle.replay.specs.declared.Terms.{Terms}
use Rattle.replay.specs.Replay.{tests, enter, below, has_room, command_tests}

-- ---- by the words of the header

module _ (xs : List ℕ) where
  abbrev g : Gateway
  g = gateway (cell xs)

  pub never_next : (n : ℕ) → n ≡ 0 → false ≡ eqb n (next g.core)
  never_next n e = sym (ne_eqb n (next g.core) (λ h. omega (arith, e, h)))

  pub next_is : (n w : ℕ) → (n ≡ 0 → ⊥) → w ≡ word (cell xs) C.last → eqb (n - 1) w ≡ eqb n (next g.core)
  next_is n w ne e =
      ⊎_elim (λ (q : n - 1 ≡ w). eq-eqb (n - 1) w q ∙ sym (eq-eqb n (next g.core) (omega (arith, q, e, ne))))
      (λ q. ne_eqb (n - 1) w q ∙ sym (ne_eqb n (next g.core) (λ h. q (omega (arith, h, e))))) (same? (n - 1) w)

  module _ (t : Terms) where
    pub below_owner : (r : Bool) → t.owned ≡ true → r ≡ ltb t.order.account (owner_limit g.core) → r ≡ below t g
    below_owner r f e =
        e ∙ sym (ap (λ (b : Bool). cond b (ltb t.order.account (owner_limit g.core)) true) f)

    pub below_nobody : t.owned ≡ false → true ≡ below t g
    below_nobody f = sym (ap (λ (b : Bool). cond b (ltb t.order.account (owner_limit g.core)) true) f)

    pub room_plain : t.places ≡ 0 → true ≡ has_room t g
    room_plain e = rw (eq-eqb t.places 0 e) refl

    pub room_order : State xs → (w : ℕ) → (t.places ≡ 0 → ⊥) → w ≡ word (cell xs) C.live_orders → ltb w most_orders ≡ has_room t g
    room_order st w ne e = ap (λ k. ltb k most_orders) (e ∙ st.sound.tables.ordered.counted.live_count) ∙ sym (rw (ne_eqb t.places 0 ne) refl)

-- ---- code 7

module _ {xs : List ℕ} (b : Between xs) (n : ℕ) (o : Live) where
  abbrev l : Ledger
  l = ledger (cell xs)

  abbrev total : ℤ
  total = held l.fee o.account (side o.side) l.orders -ℤ pos 0 +ℤ order_hold l.fee (order_of n o)

  by_wallet : (f : Bool) → is_some (get_or l.wallets o.account None) ≡ f → cond f (fits total) true ≡ holds_fit (placing n o l)
  by_wallet f e = sym (more_fits l (order_of n o) b.ok.core_is.holds ∙ ap (λ (c : Bool). cond c (fits total) true) e)

  pub fits_past : owner_slots ≤ o.account → true ≡ holds_fit (placing n o (ledger (cell xs)))
  fits_past h =
      by_wallet false (ap is_some (get_or-eq_default l.wallets None {n = o.account} (rw (listed_length (λ i. wallet (cell xs C.accounts i)) owner_slots) h)))

  module _ (h : o.account < owner_slots) (f : Bool) (f_is : f ≡ is_some (wallet (cell xs C.accounts o.account))) where
    funded : is_some (get_or l.wallets o.account None) ≡ f
    funded = ap is_some (wallet_at_row o.account (cell xs) h) ∙ sym f_is

    pub fits_without : f ≡ false → true ≡ holds_fit (placing n o (ledger (cell xs)))
    fits_without e = by_wallet false (funded ∙ e)

    pub fits_with : f ≡ true → (fee k : ℕ) → fee ≡ word (cell xs) C.fee → k ≡ hold_word fee o.side o.priced o.price o.leaves → (z : Side) → z ≡ side o.side → (r : Bool) →
        r ≡ fits (int (cell xs C.accounts o.account (held_cell z)) -ℤ int 0 +ℤ int k) → r ≡ holds_fit (placing n o (ledger (cell xs)))
    fits_with e fee k fee_is k_is z z_is r r_is =
        r_is
        ∙ (λ i.
        fits
        ((held_exact (cell xs) o.account b.state.sound.held b.ok.core_is.holds h (funded ∙ e) z ∙ ap (λ y. held l.fee o.account y l.orders) z_is) i -ℤ int_zero i
        +ℤ (ap int (k_is ∙ ap (λ f. hold_word f o.side o.priced o.price o.leaves) fee_is) ∙ hold_is (word (cell xs) C.fee) o.side o.priced o.price o.leaves) i))
        ∙ by_wallet true (funded ∙ e)

module _ {xs : List ℕ} (b : Between xs) (n : ℕ) (t : Terms) where
  pub holds_plain : t.places ≡ 0 → true ≡ holds_fit (enter n t (ledger (cell xs)))
  holds_plain e =
      sym (ap (λ (c : Bool). holds_fit (cond (not c) (placing n t.order (ledger (cell xs))) (ledger (cell xs)))) (eq-eqb t.places 0 e) ∙ b.ok.core_is.holds)

  pub holds_order : (t.places ≡ 0 → ⊥) → (r : Bool) → r ≡ holds_fit (placing n t.order (ledger (cell xs))) → r ≡ holds_fit (enter n t (ledger (cell xs)))
  holds_order ne r e =
      e ∙ sym (ap (λ (c : Bool). holds_fit (cond (not c) (placing n t.order (ledger (cell xs))) (ledger (cell xs)))) (ne_eqb t.places 0 ne))

-- ---- all tests

pub judge_is : (xs : List ℕ) (n : ℕ) (t : Terms) (alone nxt blw : Bool) (w : ℕ) (ord hol : Bool) (v : ℕ) → alone ≡ no_session (rest_of xs).sessions → nxt ≡ eqb n (next (gateway (cell xs)).core) → blw ≡ below t (gateway (cell xs)) →
    w ≡ word (cell xs) C.flying → ord ≡ has_room t (gateway (cell xs)) → hol ≡ holds_fit (enter n t (ledger (cell xs))) →
    v ≡ verdict (tests (record { alone = alone; next = nxt; own = t.own; below = blw; flights = ltb w most_in_flight; orders = ord; holds = hol })) →
    v ≡ verdict (tests (command_tests n t (gateway (cell xs))))
judge_is xs n t alone nxt blw w ord hol v p1 p2 p3 p4 p5 p6 e =
    e
    ∙ (λ k.
    verdict
    (tests (record { alone = p1 k; next = p2 k; own = t.own; below = p3 k; flights = ltb ((p4 ∙ sym (flights_are (cell xs))) k) most_in_flight; orders = p5 k; holds = p6 k })))

pub ruleset judging = (never_next, next_is, below_owner, below_nobody, room_plain, room_order, fits_past, fits_without, fits_with, holds_plain, holds_order, judge_is, arith)
