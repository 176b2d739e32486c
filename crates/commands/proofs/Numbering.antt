-- Numbering: what can be numbered, and the gateway after it. Assumes nothing.
use mathlib.Core.Path.{◌≡◌, refl, sym, ap, ◌∙◌}
use mathlib.Core.Bool.{true, ◌&&◌, and-eq-true_iff}
use mathlib.Core.Logic.{◌⊎◌, ⊎_elim}
use mathlib.Core.List.{List, append-nil}
use Prim.Native.Nat.{ℕ, ◌+◌, ◌-◌, ◌≤◌, ◌<◌}
use native.Mathlib.Omega.{arith}
use borrow.Author.Tests.{ltb-true, lt-ltb, le-ltb}
use lib.ListN.{length}
use lib.Dec.{ltb}
use Rattle.orderbook.specs.declared.Command.{Command}
use Rattle.le.proofs.Laws.{lt_or_le}
use Rattle.words.specs.Words.{modulus}
use Rattle.gateway.specs.Limits.{most_in_flight, most_in_batch}
use Rattle.gateway.specs.Ledger.{step}
use Rattle.gateway.specs.Entry.{next, queued}
use Rattle.gateway.specs.Calls.{Gateway}
use Rattle.store.specs.Cells as C
use Rattle.store.specs.Layout.{cell}
use Rattle.store.specs.View.{Store, word, fill, in_slot, command, gateway, Is, Ready}
use Rattle.store.proofs.Listed.{listed_length}
use Rattle.store.proofs.Places.{header_cell, order_cell}
use Rattle.pending.specs.Pending as Pending
use Rattle.pending.specs.Pending.{Batched, Typed}
use Rattle.pending.proofs.Views.{take_off_view}
use Rattle.pending.proofs.Commands.{command_view}
use Rattle.sound.specs.Sound.{State, Becomes}
use Rattle.sound.proofs.Kept.{becomes}
use Rattle.sound.proofs.Waiting.{take_off_sound, command_sound}
use Rattle.outcome.specs.Parts.{with_rest, rest_of}
use Rattle.outcome.proofs.Laws.{then_becomes}
use Rattle.commands.specs.Commands.{can_number, CanFly, flying, Plain, numbered, Unplaced}

-- ---- the tests, by the words of the header

pub flights_are : (s : Store) → length (gateway s).core.flights ≡ word s C.flying
flights_are s = listed_length (λ j. in_slot s (word s C.last + 1 + j - word s C.flying)) (word s C.flying)

pub batch_is : (s : Store) → length (gateway s).rest.batch ≡ word s C.waiting
batch_is s = listed_length (λ i. command (s C.batch i)) (word s C.waiting)

module _ (xs : List ℕ) where
  abbrev g : Gateway
  g = gateway (cell xs)

  below : (l : ℕ) → ltb l 18446744073709551615 ≡ ltb (l + 1) modulus
  below l =
      ⊎_elim (λ (h : l < 18446744073709551615). lt-ltb l 18446744073709551615 h ∙ sym (lt-ltb (l + 1) modulus (omega arith)))
      (λ h. le-ltb l 18446744073709551615 h ∙ sym (le-ltb (l + 1) modulus (omega arith))) (lt_or_le l 18446744073709551615)

  pub number_left : (f w l : ℕ) → f ≡ word (cell xs) C.flying → w ≡ word (cell xs) C.waiting → l ≡ word (cell xs) C.last → f < most_in_flight → w < most_in_batch → ltb l 18446744073709551615 ≡ can_number g
  number_left f w l e d h p q =
      rw (flights_are (cell xs), batch_is (cell xs), ← e, ← d, ← h, lt-ltb f most_in_flight p, lt-ltb w most_in_batch q) (below l)

  pub many_flying : (f : ℕ) → f ≡ word (cell xs) C.flying → most_in_flight ≤ f → ltb f most_in_flight ≡ can_number g
  many_flying f e p = rw (flights_are (cell xs), ← e, le-ltb f most_in_flight p) refl

  pub many_waiting : (f w : ℕ) → f ≡ word (cell xs) C.flying → w ≡ word (cell xs) C.waiting → f < most_in_flight → (f < most_in_flight × most_in_batch ≤ w) ⊎ (most_in_flight ≤ f) →
      ltb w most_in_batch ≡ can_number g
  many_waiting f w e d p q =
      let h : most_in_batch ≤ w = omega arith in
      rw (flights_are (cell xs), batch_is (cell xs), ← e, ← d, lt-ltb f most_in_flight p, le-ltb w most_in_batch h) refl

  -- and back
  pub record Room : Type 0 where
    pub flight : word (cell xs) C.flying < most_in_flight
    pub batch : word (cell xs) C.waiting < most_in_batch
    pub number : word (cell xs) C.last + 1 < modulus

  pub room : can_number g ≡ true → Room
  room h =
      let a = (and-eq-true_iff (ltb (length g.core.flights) most_in_flight) (ltb (length g.rest.batch) most_in_batch && ltb (next g.core) modulus)).0 h in
      let b = (and-eq-true_iff (ltb (length g.rest.batch) most_in_batch) (ltb (next g.core) modulus)).0 a.1 in
      record {
        flight = omega (arith, ltb-true (length g.core.flights) most_in_flight a.0, flights_are (cell xs));
        batch = omega (arith, ltb-true (length g.rest.batch) most_in_batch b.0, batch_is (cell xs));
        number = ltb-true (next g.core) modulus b.1;
      }

  pub can_fly : can_number g ≡ true → CanFly g
  can_fly h = let r = room h in record { flight = omega (arith, r.flight, flights_are (cell xs)); number = r.number }

-- ---- the parts

pub ready : {xs : List ℕ} → State xs → Ready xs
ready st = record { holds = st.holds; bounds = st.sound.tables.ordered.bounds }

few_fly : (xs : List ℕ) → CanFly (gateway (cell xs)) → word (cell xs) C.flying < most_in_flight
few_fly xs can = omega (arith, can.flight, flights_are (cell xs))

pub take_off_needs : {xs : List ℕ} → State xs → CanFly (gateway (cell xs)) → Ready xs × (word (cell xs) C.last + 1 < modulus) × (word (cell xs) C.flying < most_in_flight)
take_off_needs {xs} st can = (ready st, can.number, few_fly xs can)

module _ {xs ys : List ℕ} (st : State xs) (can : CanFly (gateway (cell xs))) (sender owner places : ℕ) (h : Is ys (Pending.take_off sender owner places (cell xs))) where
  flies : Becomes ys (flying sender owner places (gateway (cell xs)))
  flies =
      becomes h (take_off_sound (cell xs) st.sound sender owner places (few_fly xs can))
      (take_off_view sender owner places (cell xs) (few_fly xs can) st.sound.tables.run)

  unplaced : Unplaced ys
  unfolding fill
  unplaced j l =
      let n : word (cell ys) C.order_rows ≡ word (cell xs) C.order_rows = h.same C.header 0 C.order_rows (header_cell C.order_rows (omega arith)) in
      let k : j < word (cell xs) C.order_rows = omega (arith, n, l) in
      let few = st.sound.tables.ordered.bounds.orders_fit in
      let e : cell ys C.orders j C.order_number ≡ cell xs C.orders j C.order_number = h.same C.orders j C.order_number (order_cell j C.order_number (omega (arith, few, k)) (omega arith)) in
      let d : word (cell ys) C.last ≡ word (cell xs) C.last + 1 = h.same C.header 0 C.last (header_cell C.last (omega arith)) in
      omega (arith, e, d, st.sound.tables.numbered j k)

  pub take_off_becomes : Becomes ys (flying sender owner places (gateway (cell xs))) × Unplaced ys
  take_off_becomes = (flies, unplaced)

pub queue_needs : (xs : List ℕ) (k : Command) → State xs → length (rest_of xs).batch < most_in_batch → Batched k → Ready xs × (word (cell xs) C.waiting < most_in_batch) × Batched k
queue_needs xs k st l b = (ready st, omega (arith, l, batch_is (cell xs)), b)

pub queue_becomes : {xs ys : List ℕ} (k : Command) → State xs → length (rest_of xs).batch < most_in_batch → Batched k → Is ys (Pending.command_push k (cell xs)) → Typed k →
    Becomes ys (with_rest (queued k) (gateway (cell xs)))
queue_becomes {xs} k st l b h t =
    becomes h (command_sound (cell xs) st.sound k t (omega (arith, l, batch_is (cell xs)))) (command_view k (cell xs) t b)

-- ---- a command that places nothing

pub push_room : (xs : List ℕ) {ys : List ℕ} (sender owner places : ℕ) → can_number (gateway (cell xs)) ≡ true → Becomes ys (flying sender owner places (gateway (cell xs))) → length (rest_of ys).batch < most_in_batch
push_room xs {ys} sender owner places can b =
    let e : (rest_of ys).batch ≡ (rest_of xs).batch = ap (λ (h : Gateway). h.rest.batch) b.gateway_is in
    omega (arith, (room xs can).batch, batch_is (cell xs), ap length e)

module _ (sender owner : ℕ) (k : Command) (p : Plain owner k) (g : Gateway) where
  plain_is : with_rest (queued k) (flying sender owner 0 g) ≡ numbered sender k g
  unfolding step
  plain_is = rw (p.places_nothing, ← p.owner_is, append-nil g.core.ledger.orders) refl

pub push_becomes : (xs : List ℕ) {ys zs : List ℕ} (sender owner : ℕ) (k : Command) → Plain owner k → Becomes ys (flying sender owner 0 (gateway (cell xs))) × Unplaced ys → Becomes zs (with_rest (queued k) (gateway (cell ys))) →
    Becomes zs (numbered sender k (gateway (cell xs)))
push_becomes xs sender owner k p b d =
    let e = then_becomes (with_rest (queued k)) b.0 d in
    record { state = e.state; gateway_is = e.gateway_is ∙ plain_is sender owner k p (gateway (cell xs)) }
