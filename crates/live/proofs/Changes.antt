-- What each function leaves in the bytes is the ledger's change. Assumes nothing.
use mathlib.Core.Path.{◌≡◌, refl, sym, ap, ap₂, ◌∙◌}
use mathlib.Core.Bool.{cond}
use mathlib.Core.List.{List}
use Prim.Native.Nat.{ℕ, ◌≤◌, ◌<◌}
use native.Mathlib.Omega.{arith}
use lib.Dec.{eqb}
use Rattle.orderbook.specs.declared.Side.{Side}
use Rattle.words.specs.Words.{int}
use Rattle.gateway.specs.Limits.{owner_slots, most_orders}
use Rattle.gateway.specs.Table.{update}
use Rattle.gateway.specs.Ledger.{Order, Ledger, number_of, remove, with_orders, with_leaves, with_price, change, paid_to}
use Rattle.gateway.specs.Ledger as Ledger
use Rattle.gateway.proofs.Base.{split}
use Rattle.store.specs.Cells as C
use Rattle.store.specs.Layout.{cell, Holds}
use Rattle.store.specs.View.{Row, Store, word, side, order, ledger, gateway, order_room, Is}
use Rattle.store.proofs.Places.{header_cell, order_cell}
use Rattle.store.proofs.Frames.{Agree}
use Rattle.orders.specs.declared.Live.{Live}
use Rattle.orders.specs.Orders.{live_row, number_at, make_room}
use Rattle.orders.proofs.Views.{revised, find_at, live_some}
use Rattle.orders.proofs.Kept.{stays_then}
use Rattle.sound.specs.Sound.{Sound, State, Becomes, InPlace}
use Rattle.sound.proofs.Kept.{becomes, in_place}
use Rattle.sound.proofs.Totals.{open_few}
use Rattle.live.specs.Live.{At, hold_word, with_ledger, placing, CanPlace, Seeds, revise, retire, left, pay, place}
use Rattle.live.proofs.Views.{revise_view, revise_sound, revise_stays, retire_view, retire_sound, retire_stays, open_some}
use Rattle.live.proofs.Money.{with_wallets, pay_view, pay_sound, pay_elsewhere}
use Rattle.live.proofs.Placed.{room, word_kept, place_view, place_sound, place_last}

abbrev leaving : ℕ → (Order → Order) → ℕ → Ledger → Ledger
leaving n f v l = with_orders (Ledger.left n f v l.orders) l

live_row_same : (q r : Row) → Agree 16 q r → live_row q ≡ live_row r
live_row_same q r h = rw (h C.order_account (omega arith), h C.order_client_ref (omega arith), h C.order_side (omega arith), h C.order_priced (omega arith), h C.order_price (omega arith), h C.order_leaves (omega arith), h C.order_hold (omega arith))

-- o is what was read of the row
pub record Reads (i : ℕ) (o : Live) (s : Store) : Type 0 where
  pub at : At i s
  pub is : o ≡ live_row (s C.orders i)

pub reads : {i : ℕ} {o : Live} {s : Store} → At i s → o ≡ live_row (s C.orders i) → Reads i o s
reads a e = record { at = a; is = e }

-- what reading it asks
pub row_fits : {xs : List ℕ} {i : ℕ} → State xs → At i (cell xs) → Holds xs × (i < order_room)
row_fits st a = (st.holds, omega (arith, a.inside, st.sound.tables.ordered.bounds.orders_fit))

-- what it holds with the flag c, the price p and v open, by its row and by what was read
pub hold_as : {i : ℕ} {o : Live} {s : Store} → Reads i o s → (c p : Live → ℕ) (h v : ℕ) →
    h ≡ hold_word (word s C.fee) (s C.orders i C.order_side) (c (live_row (s C.orders i))) (p (live_row (s C.orders i))) v → h ≡ hold_word (word s C.fee) o.side (c o) (p o) v
hold_as {s = s} a c p h v k = k ∙ sym (ap (λ (o : Live). hold_word (word s C.fee) o.side (c o) (p o) v) a.is)

module _ {xs : List ℕ} (st : State xs) {i : ℕ} {o : Live} (a : Reads i o (cell xs)) where
  abbrev s : Store
  s = cell xs

  abbrev d : Sound s
  d = st.sound

  abbrev n : ℕ
  n = number_at i s

  abbrev was : Order
  was = order (s C.orders i)

  -- what the operations need
  row_small : i < order_room
  row_small = omega (arith, a.at.inside, d.tables.ordered.bounds.orders_fit)

  pub owner_small : o.account < owner_slots
  owner_small = rw a.is (d.held.rows i a.at.inside a.at.live).owner_is

  some_live : 0 < word s C.live_orders
  some_live = live_some s i d.tables.ordered a.at.inside a.at.live

  some_open : 0 < s C.accounts o.account C.account_open_orders
  some_open = rw a.is (open_some s d i a.at.inside a.at.live)

  pub set_leaves_becomes : {ys : List ℕ} (v : ℕ) → Is ys (revise i o o.priced o.price v s) → InPlace xs ys (with_ledger (change (Ledger.set_leaves n v)) (gateway s))
  unfolding change
  set_leaves_becomes v h =
      let r = s C.orders i in
      let k = rw a.is at h in
      in_place st k (revise_sound s d i a.at.inside a.at.live (r C.order_priced) (r C.order_price) v) (revise_view s d i a.at.inside a.at.live (r C.order_priced) (r C.order_price) v (with_leaves v) refl)
      (revise_stays s d i a.at.inside a.at.live (r C.order_priced) (r C.order_price) v)

  pub retire_becomes : {ys : List ℕ} → Is ys (retire i o s) → InPlace xs ys (with_ledger (change (Ledger.retire n)) (gateway s))
  unfolding change
  retire_becomes h = in_place st (rw a.is at h) (retire_sound s d i a.at.inside a.at.live) (retire_view s d i a.at.inside a.at.live) (retire_stays s d i a.at.inside a.at.live)

  -- what `end` and `leave` ask, and `revise`
  abbrev pub Needs : Type 0
  Needs = Holds xs × (i < order_room) × (o.account < owner_slots) × (0 < word s C.live_orders) × (0 < s C.accounts o.account C.account_open_orders) × (s C.orders i C.order_resting ≤ 1)

  pub needs_met : Needs
  needs_met = (st.holds, row_small, owner_small, some_live, some_open, (d.tables.ordered.sorted.flags i a.at.inside).resting_is)

  left_becomes : {ys : List ℕ} (c p v : ℕ) (f : Order → Order) → with_leaves v (f was) ≡ revised c p v was → Is ys (left i o c p v s) → InPlace xs ys (with_ledger (leaving n f v) (gateway s))
  unfolding left
  left_becomes {ys} c p v f e h =
      split
      (λ b. Is ys (cond b (retire i (live_row (s C.orders i)) s) (revise i (live_row (s C.orders i)) c p v s)) →
      InPlace xs ys (with_ledger (λ l. with_orders (cond b (remove n l.orders) (update number_of n (λ x. with_leaves v (f x)) l.orders)) l) (gateway s)))
      (eqb v 0)
      (λ _ k. in_place st k (retire_sound s d i a.at.inside a.at.live) (retire_view s d i a.at.inside a.at.live) (retire_stays s d i a.at.inside a.at.live))
      (λ _ k. in_place st k (revise_sound s d i a.at.inside a.at.live c p v) (revise_view s d i a.at.inside a.at.live c p v (λ x. with_leaves v (f x)) e) (revise_stays s d i a.at.inside a.at.live c p v))
      (rw a.is at h)

  pub reprice_becomes : {ys : List ℕ} (p v : ℕ) → Is ys (left i o 1 p v s) → InPlace xs ys (with_ledger (change (Ledger.reprice n (int p) v)) (gateway s))
  unfolding change
  reprice_becomes p v h = left_becomes 1 p v (with_price (int p)) refl h

  pub pay_becomes : {ys : List ℕ} (p q : ℕ) → Is ys (pay o.account (side o.side) p q s) → InPlace xs ys (with_ledger (λ l. with_wallets (paid_to l.fee (int p) q l.wallets was) l) (gateway s))
  pay_becomes p q h =
      in_place st h (pay_sound o.account (side o.side) p q s owner_small d)
      (pay_view o.account (side o.side) p q s owner_small was (ap (λ x. x.account) (sym a.is)) (ap (λ x. side x.side) (sym a.is)))
      (record { rows_are = elsewhere C.header 0 C.order_rows (λ e. omega arith); numbers_are = λ j l. elsewhere C.orders j C.order_number (λ e. omega arith) })
    where
      elsewhere : (b j k : ℕ) → (b ≡ C.accounts → ⊥) → pay o.account (side o.side) p q s b j k ≡ s b j k
      elsewhere = pay_elsewhere o.account (side o.side) p q s owner_small

  -- the order is still there
  pub pay_at : {ys : List ℕ} (p q : ℕ) → Is ys (pay o.account (side o.side) p q s) → Reads i o (cell ys)
  pay_at {ys} p q h =
      record {
        at = record { inside = rw (pay_becomes p q h).stays.rows_are a.at.inside; live = rw (row_is C.order_live (omega arith)) a.at.live };
        is = a.is ∙ sym (live_row_same (cell ys C.orders i) (s C.orders i) row_is);
      }
    where
      row_is : Agree 16 (cell ys C.orders i) (s C.orders i)
      row_is k l = h.same C.orders i k (order_cell i k row_small l) ∙ pay_elsewhere o.account (side o.side) p q s owner_small C.orders i k (λ e. omega arith)

  -- the fee is the same, and so is what it holds
  pub hold_paid : {ys : List ℕ} (p q : ℕ) → Is ys (pay o.account (side o.side) p q s) → (c y h v : ℕ) → h ≡ hold_word (word s C.fee) o.side c y v → h ≡ hold_word (word (cell ys) C.fee) o.side c y v
  hold_paid p q k c y h v e =
      e
      ∙ sym (ap (λ f. hold_word f o.side c y v)
      (k.same C.header 0 C.fee (header_cell C.fee (omega arith)) ∙ pay_elsewhere o.account (side o.side) p q s owner_small C.header 0 C.fee (λ e. omega arith)))

  -- the side as the code reads it
  pub paid : {ys : List ℕ} (p q : ℕ) (w : Side) → w ≡ side o.side → Is ys (pay o.account w p q s) → Is ys (pay o.account (side o.side) p q s)
  paid p q w e h = rw (← e) h

pub traded_becomes : {xs ys zs : List ℕ} (st : State xs) {i : ℕ} {o : Live} (a : Reads i o (cell xs)) (p q v : ℕ) →
    Is ys (pay o.account (side o.side) p q (cell xs)) → Is zs (left i o o.priced o.price v (cell ys)) →
    InPlace xs zs (with_ledger (change (Ledger.fill (number_at i (cell xs)) (int p) q v)) (gateway (cell xs)))
unfolding change Ledger.pay
traded_becomes {xs} {ys} st {i} {o} a p q v h k =
    let b = pay_becomes st a p q h in
    let c = pay_at st a p q h in
    let e = left_becomes b.becomes.state c o.priced o.price v (λ x. x) (rw c.is refl) k in
    record {
      becomes =
          record {
            state = e.becomes.state;
            gateway_is =
                e.becomes.gateway_is
                ∙ ap₂ (λ m g. with_ledger (leaving m (λ x. x) v) g) (b.stays.numbers_are i a.at.inside) b.becomes.gateway_is
                ∙ sym (ap (λ f. with_ledger (λ l. leaving (number_at i (cell xs)) (λ x. x) v (with_wallets (Ledger.pay l.fee (int p) q f l.wallets) l)) (gateway (cell xs)))
                (find_at (cell xs) i st.sound.tables.ordered a.at.inside a.at.live));
          };
      stays = stays_then b.stays e.stays;
    }

pub place_becomes : {xs ys : List ℕ} (st : State xs) (n : ℕ) (o : Live) → CanPlace n o (cell xs) → Is ys (place n o (cell xs)) → Becomes ys (with_ledger (placing n o) (gateway (cell xs)))
place_becomes {xs} st n o c h = becomes h (place_sound (cell xs) st.sound n o c) (place_view (cell xs) st.sound n o c)

pub place_seeds : {xs ys : List ℕ} (st : State xs) (n : ℕ) (o : Live) → CanPlace n o (cell xs) → Is ys (place n o (cell xs)) → Seeds n o xs ys
place_seeds {xs} {ys} st n o c h =
    let rows : word (cell ys) C.order_rows ≡ word (place n o (cell xs)) C.order_rows = h.same C.header 0 C.order_rows (header_cell C.order_rows (omega arith)) in
    let b = place_becomes st n o c h in
    record {
      becomes = b;
      last = λ j l.
          let m : j < word (place n o (cell xs)) C.order_rows = rw (← rows) l in
          let r : j < order_room = omega (arith, l, b.state.sound.tables.ordered.bounds.orders_fit) in
          rw (h.same C.orders j C.order_number (order_cell j C.order_number r (omega arith))) (place_last (cell xs) st.sound n o c j m);
    }

-- the table has room, and the count of the account's orders is far from its end
pub place_room : {xs ys : List ℕ} (st : State xs) (n : ℕ) (o : Live) → CanPlace n o (cell xs) → Is ys (make_room (cell xs)) →
    Holds ys × (word (cell ys) C.order_rows < order_room) × (word (cell ys) C.live_orders < order_room)
place_room {xs} {ys} st n o c h =
    let at : (k : ℕ) → k < 32 → word (cell ys) k ≡ word (make_room (cell xs)) k = λ k l. h.same C.header 0 k (header_cell k l) in (
      h.holds,
      rw (at C.order_rows (omega arith)) (room (cell xs) st.sound n o c),
      omega (arith, at C.live_orders (omega arith), word_kept (cell xs) st.sound n o c C.live_orders (λ e. omega arith), c.room),
    )

pub open_small : {xs : List ℕ} → State xs → (a : ℕ) → a < owner_slots → cell xs C.accounts a C.account_open_orders ≤ most_orders
open_small {xs} st a l =
    omega (arith, st.sound.held.counts a l, open_few a (ledger (cell xs)).orders, st.sound.tables.ordered.counted.live_count, st.sound.tables.live_few)
