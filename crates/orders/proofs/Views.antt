-- What the operations do to the gateway that the cells hold, and that they keep the table in order. Assumes nothing.
use Rattle.std.specs.Prelude.{Some, option_map}
use mathlib.Core.Path.{◌≡◌, refl, sym, ap, ap₂, ◌∙◌}
use mathlib.Core.Logic.{⊎_elim}
use mathlib.Core.Bool.{cond}
use mathlib.Core.List.{List, [], ◌∷◌, ◌++◌}
use Prim.Native.Nat.{ℕ, zero, suc, ◌+◌, ◌-◌, ◌%◌, ◌≤◌, ◌<◌}
use native.Mathlib.Omega.{arith}
use borrow.Author.Tests.{eq-eqb, ne_eqb, lt-ltb, le-ltb}
use lib.Dec.{ltb}
use lib.ListN.{length, length-append}
use Rattle.le.proofs.Laws.{lt_or_le}
use Rattle.table.specs.Live.{Changed, pick, live, look, without, insert, replace, Ascends}
use Rattle.table.proofs.Live.{same?, look_some, ascends_ext, ascends_open, gap_end}
use Rattle.gateway.specs.Calls.{Gateway}
use Rattle.gateway.specs.Depth as D
use Rattle.gateway.specs.Ledger.{Order, number_of, remove, with_leaves}
use Rattle.gateway.specs.Ledger as L
use Rattle.gateway.specs.Table.{update, Rises}
use Rattle.store.specs.Cells as C
use Rattle.store.specs.Layout.{cell}
use Rattle.store.specs.View.{Row, Store, Same, Is, word, write, fill, side, maybe_price, order, resting, marked, ledger, depth, gateway, order_room, Bounds}
use Rattle.store.proofs.Places.{header_cell, order_cell, order_map_cell}
use Rattle.store.proofs.Rows.{put_cell, row_here, row_there}
use Rattle.store.proofs.Frames.{Agree, order_same, resting_same, gateway_same}
use Rattle.orders.specs.declared.Live.{Live}
use Rattle.orders.specs.declared.Resting.{Resting}
use Rattle.orders.specs.Orders.{set_hint, set_bit, either, Flags, Sorted, kept_at, KeptMap, Ordered, order_of, resting_of, set_leaves, revise, show, strike, retire, take_off, rest, append}
use Rattle.orders.proofs.Bits.{OneBit, one_bit, mapped_same, mapped_row}
use Rattle.orders.proofs.Shown.{shown, shown_ext, shown_more, shown_dead, shown_strike, shown_replace, shown_revive, shown_update, shown_length, shown_parts, shown_rises, look_map}

-- the gateway with other lists of orders
abbrev pub with_lists : List Order → List D.Resting → Gateway → Gateway
with_lists os rs g =
    let r = g.rest in
    record {
      core = record { ledger = L.with_orders os g.core.ledger; flights = g.core.flights; accounts = g.core.accounts };
      rest =
          record {
            timing = r.timing;
            clock = r.clock;
            sessions = r.sessions;
            buckets = r.buckets;
            batch = r.batch;
            delivered = r.delivered;
            published = r.published;
            depth = record { resting = rs; changed = r.depth.changed };
            trades = r.trades;
            notices = r.notices;
            collar = r.collar;
          };
    }

-- r with vs in the cells from k on
abbrev pub put_cells : ℕ → List ℕ → Row → Row
put_cells k [] r = r
put_cells k (v ∷ vs) r = put_cells (k + 1) vs (put_cell k v r)

-- t is s but for the row i, which is r, the hints, the map and three words
pub record Touched (i : ℕ) (r : Row) (s t : Store) : Type 0 where
  pub here : t C.orders i ≡ r
  pub others : (j : ℕ) → (j ≡ i → ⊥) → t C.orders j ≡ s C.orders j
  pub words : (k : ℕ) → (k ≡ C.order_rows → ⊥) → (k ≡ C.live_orders → ⊥) → (k ≡ C.resting_orders → ⊥) → word t k ≡ word s k

write_touched : (i k v : ℕ) (r : Row) (s t : Store) → Touched i r s t → Touched i (put_cell k v r) s (write C.orders i k v t)
write_touched i k v r s t c =
    record {
      here = row_here C.orders i k v t ∙ ap (put_cell k v) c.here;
      others = λ j ne. row_there C.orders i k v t j ne ∙ c.others j ne;
      words = c.words;
    }

pub fill_touched : (i k : ℕ) (vs : List ℕ) (r : Row) (s t : Store) → Touched i r s t → Touched i (put_cells k vs r) s (fill C.orders i k vs t)
unfolding fill
fill_touched i k [] r s t c = c
fill_touched i k (v ∷ vs) r s t c = fill_touched i (k + 1) vs (put_cell k v r) s (write C.orders i k v t) (write_touched i k v r s t c)

-- one of the three words is set
pub count_touched : (i k v : ℕ) (r : Row) (s t : Store) → ((j : ℕ) → (j ≡ C.order_rows → ⊥) → (j ≡ C.live_orders → ⊥) → (j ≡ C.resting_orders → ⊥) → j ≡ k → ⊥) → Touched i r s t →
    Touched i r s (write C.header 0 k v t)
count_touched i k v r s t h c =
    record { here = c.here; others = c.others; words = λ j x y z. rw (ne_eqb j k (h j x y z)) (c.words j x y z) }

pub hint_touched : (i n v : ℕ) (r : Row) (s t : Store) → Touched i r s t → Touched i r s (set_hint n v t)
hint_touched i n v r s t c = record { here = c.here; others = c.others; words = c.words }

pub bit_touched : (i j v : ℕ) (r : Row) (s t : Store) → Touched i r s t → Touched i r s (set_bit j v t)
bit_touched i j v r s t c = record { here = c.here; others = c.others; words = c.words }

pub untouched : (i : ℕ) (s : Store) → Touched i (s C.orders i) s s
untouched i s = record { here = refl; others = λ j ne. refl; words = λ k x y z. refl }

-- what is read of a row, behind its flag
abbrev read : {A : Type 0} → ℕ → (Row → A) → Row → ℕ × A
read k f r = (r k, f r)

-- a row's number and flags
abbrev head : Row → ℕ × ℕ × ℕ × ℕ
head r = (r C.order_number, r C.order_live, r C.order_resting, r C.order_kept)

same_flags : (q r : Row) → head r ≡ head q → Flags q → Flags r
same_flags q r e f =
    record {
      live_is = rw (ap (λ x. x.1) e) f.live_is;
      resting_is = rw (ap (λ x. x.2) e) f.resting_is;
      kept_is = ap (λ x. x.3) e ∙ f.kept_is ∙ ap (λ x. either x.1 x.2) (sym e);
    }

-- the other flag where one is 0 or 1
either_zero : (a : ℕ) → a ≤ 1 → a ≡ either a 0
either_zero zero h = refl
either_zero (suc zero) h = refl
either_zero (suc (suc a)) h = absurd (omega arith)

either_one : (a : ℕ) → 1 ≡ either a 1
either_one zero = refl
either_one (suc a) = refl

-- how many rows are in use, are live, and rest
abbrev counts : Store → ℕ × ℕ × ℕ
counts s = (word s C.order_rows, word s C.live_orders, word s C.resting_orders)

-- a state is in bounds where its words are those of one that is, but for three
pub bounds_from : (s t : Store) → ((k : ℕ) → k < 32 → (k ≡ C.order_rows → ⊥) → (k ≡ C.live_orders → ⊥) → (k ≡ C.resting_orders → ⊥) → word t k ≡ word s k) →
    word t C.order_rows ≤ order_room → Bounds s → Bounds t
bounds_from s t w h b =
    record {
      accounts_fit = rw (w C.owner_limit (omega arith) (λ e. omega arith) (λ e. omega arith) (λ e. omega arith)) b.accounts_fit;
      flights_fit = rw (w C.flying (omega arith) (λ e. omega arith) (λ e. omega arith) (λ e. omega arith)) b.flights_fit;
      batch_fits = rw (w C.waiting (omega arith) (λ e. omega arith) (λ e. omega arith) (λ e. omega arith)) b.batch_fits;
      orders_fit = h;
      bids_fit = rw (w C.bid_rows (omega arith) (λ e. omega arith) (λ e. omega arith) (λ e. omega arith)) b.bids_fit;
      asks_fit = rw (w C.ask_rows (omega arith) (λ e. omega arith) (λ e. omega arith) (λ e. omega arith)) b.asks_fit;
      trades_fit = rw (w C.trade_rows (omega arith) (λ e. omega arith) (λ e. omega arith) (λ e. omega arith)) b.trades_fit;
      notices_fit = rw (w C.notice_rows (omega arith) (λ e. omega arith) (λ e. omega arith) (λ e. omega arith)) b.notices_fit;
      changed_fit = rw (w C.changed_rows (omega arith) (λ e. omega arith) (λ e. omega arith) (λ e. omega arith)) b.changed_fit;
    }

module _ (i : ℕ) (r : Row) (s t : Store) (c : Touched i r s t) where
  bounds_kept : word t C.order_rows ≤ order_room → Bounds s → Bounds t
  bounds_kept = bounds_from s t (λ k l. c.words k)

  -- what is the same in the row i is the same in every row
  pub same_rows : {B : Type 0} (f : Row → B) → f r ≡ f (s C.orders i) → (j : ℕ) → f (t C.orders j) ≡ f (s C.orders j)
  same_rows f e j = ⊎_elim (λ (q : j ≡ i). rw q (ap f c.here ∙ e)) (λ q. ap f (c.others j q)) (same? j i)

  changed : {A : Type 0} (k : ℕ) (f : Row → A) (n : ℕ) → i < n → Changed (λ j. read k f (s C.orders j)) (λ j. read k f (t C.orders j)) n i
  changed k f n l = record { inside = l; other = λ j h ne. ap (read k f) (c.others j ne) }

  sorted_kept : word t C.order_rows ≡ word s C.order_rows → r C.order_number ≡ s C.orders i C.order_number → Flags r → Sorted s → Sorted t
  sorted_kept w e f d =
      record {
        ascends = rw w (ascends_ext (λ k. k) (λ j. s C.orders j C.order_number) (λ j. t C.orders j C.order_number) (word s C.order_rows) (λ j l. same_rows (λ r. r C.order_number) e j) d.ascends);
        flags = λ j l. ⊎_elim (λ (q : j ≡ i). rw (q, c.here) f) (λ q. rw (c.others j q) (d.flags j (rw w at l))) (same? j i);
      }

  -- the other rows are kept as they were
  kept_others : word t C.order_rows ≡ word s C.order_rows → (j : ℕ) → (j ≡ i → ⊥) → kept_at t j ≡ kept_at s j
  kept_others w j ne = ap₂ (λ (n : ℕ) (q : Row). cond (ltb j n) (q C.order_kept) 0) w (c.others j ne)

  -- where the row is in use, and has its bit
  mapped_touched : word t C.order_rows ≡ word s C.order_rows → i < word s C.order_rows → OneBit i (r C.order_kept) s t → KeptMap s → KeptMap t
  mapped_touched w l f =
      mapped_row i s t (record { here = f.here ∙ ap (λ (q : Row). q C.order_kept) (sym c.here); others = f.others }) (rw w l) (kept_others w)

-- the order with the price of these words, and v open
abbrev pub revised : ℕ → ℕ → ℕ → Order → Order
revised c p v o =
    record { number = o.number; account = o.account; client_ref = o.client_ref; side = o.side; price = maybe_price c p; leaves = v }

-- t is in order and holds the gateway of s, but for the lists of orders
pub record Did (s t : Store) (os : List Order) (rs : List D.Resting) : Type 0 where
  pub view : gateway t ≡ with_lists os rs (gateway s)
  pub ordered : Ordered t

-- ---- what leaves the table alone

-- t has the rows of s, its map and its three words
pub record Keeps (s t : Store) : Type 0 where
  pub rows_are : word t C.order_rows ≡ word s C.order_rows
  pub live_are : word t C.live_orders ≡ word s C.live_orders
  pub resting_are : word t C.resting_orders ≡ word s C.resting_orders
  pub cells : (j k : ℕ) → j < word s C.order_rows → k < 16 → t C.orders j k ≡ s C.orders j k
  pub map_is : (j : ℕ) → j < 32 → t C.order_map j C.map_bits ≡ s C.order_map j C.map_bits
  pub fee_is : word t C.fee ≡ word s C.fee

module _ {s t : Store} (e : Keeps s t) where
  marked_kept : {A : Type 0} (k : ℕ) (f : Row → A) → k < 16 → ((q r : Row) → Agree 16 q r → f q ≡ f r) → marked t k f ≡ marked s k f
  marked_kept {A} k f l h =
      rw e.rows_are
      (shown_ext (λ j. read k f (s C.orders j)) (λ j. read k f (t C.orders j)) (word s C.order_rows)
      (λ j m. ap₂ (λ (x : ℕ) (y : A). (x, y)) (e.cells j k m l) (h (t C.orders j) (s C.orders j) (λ c q. e.cells j c m q))))

  pub live_kept : (ledger t).orders ≡ (ledger s).orders
  live_kept = marked_kept C.order_live order (omega arith) order_same

  pub resting_kept : (depth t).resting ≡ (depth s).resting
  resting_kept = marked_kept C.order_resting resting (omega arith) resting_same

  kept_same : (j : ℕ) → kept_at t j ≡ kept_at s j
  kept_same j =
      rw e.rows_are
      (⊎_elim
      (λ (l : j < word s C.order_rows). rw (lt-ltb j (word s C.order_rows) l) (e.cells j C.order_kept l (omega arith)))
      (λ l. rw (le-ltb j (word s C.order_rows) l) refl)
      (lt_or_le j (word s C.order_rows)))

  pub ordered_kept : Bounds t → Ordered s → Ordered t
  ordered_kept b d =
      record {
        bounds = b;
        sorted =
            record {
              ascends =
                  rw e.rows_are
                  (ascends_ext (λ k. k) (λ j. s C.orders j C.order_number) (λ j. t C.orders j C.order_number) (word s C.order_rows) (λ j l. e.cells j C.order_number l (omega arith)) d.sorted.ascends);
              flags = λ j l.
                  let h : j < word s C.order_rows = rw e.rows_are at l in
                  same_flags (s C.orders j) (t C.orders j)
                  (λ z. (e.cells j C.order_number h (omega arith) z, e.cells j C.order_live h (omega arith) z, e.cells j C.order_resting h (omega arith) z, e.cells j C.order_kept h (omega arith) z))
                  (d.sorted.flags j h);
            };
        counted =
            record {
              live_count = e.live_are ∙ d.counted.live_count ∙ sym (ap length live_kept);
              resting_count = e.resting_are ∙ d.counted.resting_count ∙ sym (ap length resting_kept);
            };
        mapped = mapped_same s t e.map_is (λ j l. kept_same j) d.mapped;
      }

-- ---- from the program to the bytes

module _ (s t : Store) (e : Same s t) (b : Bounds s) where
  word_same : (k : ℕ) → k < 32 → word t k ≡ word s k
  word_same k l = sym (e C.header 0 k (header_cell k l))

  pub same_keeps : Keeps s t
  same_keeps =
      record {
        rows_are = word_same C.order_rows (omega arith);
        live_are = word_same C.live_orders (omega arith);
        resting_are = word_same C.resting_orders (omega arith);
        cells = λ j k h l. sym (e C.orders j k (order_cell j k (omega (arith, b.orders_fit)) l));
        map_is = λ j l. sym (e C.order_map j C.map_bits (order_map_cell j C.map_bits l (omega arith)));
        fee_is = word_same C.fee (omega arith);
      }

  pub bounds_same : Bounds t
  bounds_same = bounds_from s t (λ k l x y z. word_same k l) (rw (word_same C.order_rows (omega arith)) b.orders_fit) b

-- what a function's contract says and what its program does, together: the bytes hold the new gateway, in order
pub did_bytes : (s t : Store) (os : List Order) (rs : List D.Resting) (ys : List ℕ) → Is ys t → Did s t os rs → Did s (cell ys) os rs
did_bytes s t os rs ys h d =
    let e : Same t (cell ys) = λ b i k c. sym (h.same b i k c) in
    let b = d.ordered.bounds in
    record { view = sym (gateway_same t (cell ys) b e) ∙ d.view; ordered = ordered_kept (same_keeps t (cell ys) e b) (bounds_same t (cell ys) e b) d.ordered }

-- the numbers of the resting orders rise
pub resting_rises : (s : Store) → Sorted s → Rises D.resting_number 0 (depth s).resting
resting_rises s d = shown_rises D.resting_number (λ j. read C.order_resting resting (s C.orders j)) (word s C.order_rows) d.ascends

-- a row in use is changed
module _ (s : Store) (i : ℕ) (d : Ordered s) (l : i < word s C.order_rows) where
  abbrev was : Row
  was = s C.orders i

  module _ {A : Type 0} (k : ℕ) (f : Row → A) (number : A → ℕ) (e : (r : Row) → number (f r) ≡ r C.order_number) where
    rising : Ascends (λ (x : ℕ × A). number x.1) (λ j. read k f (s C.orders j)) (word s C.order_rows)
    rising a b h m = rw (e (s C.orders a), e (s C.orders b)) (d.sorted.ascends a b h m)

    module _ (r : Row) (t : Store) (c : Touched i r s t) where
      -- a count that moves with the row's flag stays right
      count_kept : (w v : ℕ) → word t C.order_rows ≡ word s C.order_rows → was k ≤ 1 → r k ≤ 1 → v ≡ length (marked s k f) → w + was k ≡ v + r k → w ≡ length (marked t k f)
      count_kept w v n a b p q =
          let x = shown_length number (changed i r s t c k f (word s C.order_rows) l) rising a (rw c.here b) in
          let y = ap (λ m. length (shown (λ j. read k f (t C.orders j)) m)) n in
          let z = ap (λ (q : Row). q k) c.here in
          omega arith
          -- what stands before the row and behind it stays

      row_parts : word t C.order_rows ≡ word s C.order_rows →
          (low : List A) × (high : List A) × (marked s k f ≡ low ++ (pick (was k) (f was) ++ high)) × (marked t k f ≡ low ++ (pick (r k) (f r) ++ high))
      row_parts n =
          let (low, high, p, q) = shown_parts number (changed i r s t c k f (word s C.order_rows) l) rising in
          (low, high, p, ap (shown (λ j. read k f (t C.orders j))) n ∙ q ∙ ap (λ (x : Row). low ++ (pick (x k) (f x) ++ high)) c.here)

    -- what a lookup of the row's number finds
    look_at : 0 < was k → look number (was C.order_number) (marked s k f) ≡ Some (f was)
    look_at m =
        look_map (λ (x : ℕ × A). x.1) number (was C.order_number) (live (λ (x : ℕ × A). x.0) (λ j. read k f (s C.orders j)) (word s C.order_rows))
        ∙ ap (option_map (λ (x : ℕ × A). x.1))
        (look_some (λ (x : ℕ × A). x.0) (λ (x : ℕ × A). number x.1) (λ j. read k f (s C.orders j)) (was C.order_number) i (word s C.order_rows) rising l (e was) m)

    -- where the row is marked, there is one to count
    marked_some : was k ≤ 1 → 0 < was k → 0 < length (marked s k f)
    marked_some a m =
        let t = write C.orders i k 0 s in
        let c = write_touched i k 0 was s s (untouched i s) in
        let z : t C.orders i k ≡ 0 = ap (λ (q : Row). q k) c.here ∙ rw (eq-eqb k k refl) refl in
        let x = shown_length number (changed i (put_cell k 0 was) s t c k f (word s C.order_rows) l) rising a (rw z (omega arith)) in
        omega arith

  module _ (r : Row) (t : Store) (c : Touched i r s t) (g : gateway t ≡ with_lists (marked t C.order_live order) (marked t C.order_resting resting) (gateway s)) where
    row_did : (os : List Order) (rs : List D.Resting) → word t C.order_rows ≡ word s C.order_rows → r C.order_number ≡ was C.order_number → Flags r → KeptMap t →
        word t C.live_orders + was C.order_live ≡ word s C.live_orders + r C.order_live →
        word t C.resting_orders + was C.order_resting ≡ word s C.resting_orders + r C.order_resting →
        marked t C.order_live order ≡ os → marked t C.order_resting resting ≡ rs → Did s t os rs
    row_did os rs w e f m p q a b =
        let h = d.sorted.flags i l in
        record {
          view = g ∙ ap₂ (λ x y. with_lists x y (gateway s)) a b;
          ordered =
              record {
                bounds = bounds_kept i r s t c (rw w d.bounds.orders_fit) d.bounds;
                sorted = sorted_kept i r s t c w e f d.sorted;
                counted =
                    record {
                      live_count = count_kept C.order_live order number_of (λ r. refl) r t c (word t C.live_orders) (word s C.live_orders) w h.live_is f.live_is d.counted.live_count p;
                      resting_count = count_kept C.order_resting resting D.resting_number (λ r. refl) r t c (word t C.resting_orders) (word s C.resting_orders) w h.resting_is f.resting_is d.counted.resting_count q;
                    };
                mapped = m;
              };
        }

    still : {A : Type 0} (k : ℕ) (f : Row → A) → word t C.order_rows ≡ word s C.order_rows → read k f r ≡ read k f was → marked t k f ≡ marked s k f
    still k f w e = rw w (shown_ext _ _ (word s C.order_rows) (λ j m. same_rows i r s t c (read k f) e j))

    -- a half is changed, and the flags stay, and the map
    half_did : (os : List Order) (rs : List D.Resting) → ((j : ℕ) → t C.order_map j C.map_bits ≡ s C.order_map j C.map_bits) → counts t ≡ counts s → head r ≡ head was → marked t C.order_live order ≡ os → marked t C.order_resting resting ≡ rs → Did s t os rs
    half_did os rs m w h a b =
        row_did os rs (ap (λ x. x.0) w) (ap (λ x. x.0) h) (same_flags was r h (d.sorted.flags i l))
        (mapped_same s t (λ j _. m j) (λ j _. ap₂ (λ (n v : ℕ). cond (ltb j n) v 0) (ap (λ x. x.0) w) (same_rows i r s t c (λ q. q C.order_kept) (ap (λ x. x.3) h) j)) d.mapped)
        (ap₂ (λ x y. x.1 + y.1) w (sym h)) (ap₂ (λ x y. x.2 + y.2) w (sym h)) a b

    live_did : (f : Order → Order) → ((j : ℕ) → t C.order_map j C.map_bits ≡ s C.order_map j C.map_bits) → counts t ≡ counts s → head r ≡ head was → f (order was) ≡ order r → resting r ≡ resting was → 0 < was C.order_live →
        Did s t (update number_of (was C.order_number) f (ledger s).orders) (depth s).resting
    live_did f k w h e u m =
        half_did _ _ k w h
        (rw (ap (λ x. x.0) w)
        (shown_update number_of (changed i r s t c C.order_live order (word s C.order_rows) l) (rising C.order_live order number_of (λ r. refl)) f
        (e ∙ ap order (sym c.here)) (ap (λ (q : Row). q C.order_number) c.here ∙ ap (λ x. x.0) h) m (rw (c.here, ap (λ x. x.1) h) m)))
        (still C.order_resting resting (ap (λ x. x.0) w) (ap₂ (λ x y. (x, y)) (ap (λ x. x.2) h) u))

    resting_did : ((j : ℕ) → t C.order_map j C.map_bits ≡ s C.order_map j C.map_bits) → counts t ≡ counts s → head r ≡ head was → order r ≡ order was → 0 < was C.order_resting →
        Did s t (ledger s).orders (replace D.resting_number (resting r) (depth s).resting)
    resting_did k w h u m =
        half_did _ _ k w h
        (still C.order_live order (ap (λ x. x.0) w) (ap₂ (λ x y. (x, y)) (ap (λ x. x.1) h) u))
        (rw (ap (λ x. x.0) w, ← c.here)
        (shown_replace D.resting_number (changed i r s t c C.order_resting resting (word s C.order_rows) l) (rising C.order_resting resting D.resting_number (λ r. refl))
        (ap (λ (q : Row). q C.order_number) c.here ∙ ap (λ x. x.0) h) m (rw (c.here, ap (λ x. x.2) h) m)))

  pub set_leaves_view : (v h : ℕ) → 0 < was C.order_live → Did s (set_leaves i v h s) (update number_of (was C.order_number) (with_leaves v) (ledger s).orders) (depth s).resting
  unfolding fill
  set_leaves_view v h m =
      live_did _ (set_leaves i v h s) (fill_touched i C.order_leaves (v ∷ h ∷ []) was s s (untouched i s)) refl (with_leaves v) (λ j. refl) refl refl refl refl m

  pub revise_view : (c p v h : ℕ) (f : Order → Order) → f (order was) ≡ revised c p v (order was) → 0 < was C.order_live →
      Did s (revise i c p v h s) (update number_of (was C.order_number) f (ledger s).orders) (depth s).resting
  unfolding fill
  revise_view c p v h f e m =
      live_did _ (revise i c p v h s) (fill_touched i C.order_priced (c ∷ p ∷ v ∷ h ∷ []) was s s (untouched i s)) refl f (λ j. refl) refl refl e refl m

  pub show_touched : (v w : ℕ) → Touched i (put_cells C.order_visible (v ∷ w ∷ []) was) s (show i v w s)
  show_touched v w = fill_touched i C.order_visible (v ∷ w ∷ []) was s s (untouched i s)

  pub show_view : (v w : ℕ) → 0 < was C.order_resting → Did s (show i v w s) (ledger s).orders (replace D.resting_number (D.showing v w (resting was)) (depth s).resting)
  unfolding fill
  show_view v w m =
      resting_did _ (show i v w s) (show_touched v w) refl (λ j. refl) refl refl refl m

  -- its order
  pub find_at : 0 < was C.order_live → L.find (was C.order_number) (ledger s).orders ≡ Some (order was)
  find_at m = look_at C.order_live order number_of (λ r. refl) m

  pub resting_at : 0 < was C.order_resting → D.find_resting (was C.order_number) (depth s).resting ≡ Some (resting was)
  resting_at m = look_at C.order_resting resting D.resting_number (λ r. refl) m

  -- how an operation moves the live orders, by its row
  pub live_parts : (r : Row) (t : Store) (c : Touched i r s t) → word t C.order_rows ≡ word s C.order_rows →
      (low : List Order) × (high : List Order) × ((ledger s).orders ≡ low ++ (pick (was C.order_live) (order was) ++ high)) × ((ledger t).orders ≡ low ++ (pick (r C.order_live) (order r) ++ high))
  live_parts = row_parts C.order_live order number_of (λ r. refl)

  pub live_some : 0 < was C.order_live → 0 < word s C.live_orders
  live_some m = rw d.counted.live_count (marked_some C.order_live order number_of (λ r. refl) (d.sorted.flags i l).live_is m)

  pub resting_some : 0 < was C.order_resting → 0 < word s C.resting_orders
  resting_some m = rw d.counted.resting_count (marked_some C.order_resting resting D.resting_number (λ r. refl) (d.sorted.flags i l).resting_is m)

  pub revise_touched : (c p v h : ℕ) → Touched i (put_cells C.order_priced (c ∷ p ∷ v ∷ h ∷ []) was) s (revise i c p v h s)
  revise_touched c p v h = fill_touched i C.order_priced (c ∷ p ∷ v ∷ h ∷ []) was s s (untouched i s)

  pub retire_touched : Touched i (put_cell C.order_kept (was C.order_resting) (put_cell C.order_live 0 was)) s (retire i s)
  unfolding strike
  retire_touched =
      bit_touched i i (was C.order_resting) _ s _
      (count_touched i C.live_orders (word s C.live_orders - 1) _ s _ (λ j x y z. y)
      (write_touched i C.order_kept (was C.order_resting) _ s _ (write_touched i C.order_live 0 was s s (untouched i s))))

  pub retire_view : 0 < was C.order_live → Did s (retire i s) (remove (was C.order_number) (ledger s).orders) (depth s).resting
  unfolding strike
  retire_view m =
      let f = d.sorted.flags i l in
      let t = retire i s in
      let c = retire_touched in
      row_did _ t c refl _ _ refl refl
      (record { live_is = omega arith; resting_is = f.resting_is; kept_is = refl })
      (mapped_touched i _ s t c refl l (one_bit i (was C.order_resting) s _ f.resting_is (λ j. refl)) d.mapped)
      (omega (arith, live_some m, f.live_is)) refl
      (shown_strike number_of (changed i _ s t c C.order_live order (word s C.order_rows) l) (rising C.order_live order number_of (λ r. refl)) (ap (λ (q : Row). q C.order_live) c.here))
      (still _ t c refl C.order_resting resting refl refl)

  pub take_off_touched : Touched i (put_cell C.order_kept (was C.order_live) (put_cell C.order_resting 0 was)) s (take_off i s)
  unfolding strike
  take_off_touched =
      bit_touched i i (was C.order_live) _ s _
      (count_touched i C.resting_orders (word s C.resting_orders - 1) _ s _ (λ j x y z. z)
      (write_touched i C.order_kept (was C.order_live) _ s _ (write_touched i C.order_resting 0 was s s (untouched i s))))

  pub take_off_view : 0 < was C.order_resting → Did s (take_off i s) (ledger s).orders (without D.resting_number (was C.order_number) (depth s).resting)
  unfolding strike
  take_off_view m =
      let f = d.sorted.flags i l in
      let t = take_off i s in
      let c = take_off_touched in
      row_did _ t c refl _ _ refl refl
      (record { live_is = f.live_is; resting_is = omega arith; kept_is = either_zero (was C.order_live) f.live_is })
      (mapped_touched i _ s t c refl l (one_bit i (was C.order_live) s _ f.live_is (λ j. refl)) d.mapped)
      refl (omega (arith, resting_some m, f.resting_is))
      (still _ t c refl C.order_live order refl refl)
      (shown_strike D.resting_number (changed i _ s t c C.order_resting resting (word s C.order_rows) l) (rising C.order_resting resting D.resting_number (λ r. refl)) (ap (λ (q : Row). q C.order_resting) c.here))

  pub rest_touched : (o : Resting) (h : ℕ) → Touched i (put_cells C.order_resting (1 ∷ 1 ∷ []) (put_cells C.order_rest_side (o.side ∷ o.price ∷ o.visible ∷ o.leaves ∷ h ∷ []) was)) s (rest i o h s)
  unfolding rest
  rest_touched o h =
      bit_touched i i 1 _ s _
      (count_touched i C.resting_orders (word s C.resting_orders + 1) _ s _ (λ j x y z. z)
      (fill_touched i C.order_resting (1 ∷ 1 ∷ []) _ s _ (fill_touched i C.order_rest_side (o.side ∷ o.price ∷ o.visible ∷ o.leaves ∷ h ∷ []) was s s (untouched i s))))

  pub rest_view : (o : Resting) (h : ℕ) → was C.order_resting ≡ 0 → Did s (rest i o h s) (ledger s).orders (insert D.resting_number (resting_of (was C.order_number) o) (depth s).resting)
  unfolding rest fill
  rest_view o h m =
      let f = d.sorted.flags i l in
      let t = rest i o h s in
      let c = rest_touched o h in
      row_did _ t c refl _ _ refl refl
      (record { live_is = f.live_is; resting_is = omega arith; kept_is = either_one (was C.order_live) })
      (mapped_touched i _ s t c refl l (one_bit i 1 s _ (omega arith) (λ j. refl)) d.mapped)
      refl (omega (arith, m))
      (still _ t c refl C.order_live order refl refl)
      (shown_revive D.resting_number (changed i _ s t c C.order_resting resting (word s C.order_rows) l) (rising C.order_resting resting D.resting_number (λ r. refl))
      (ap (λ (q : Row). q C.order_number) c.here) m (omega (arith, ap (λ (q : Row). q C.order_resting) c.here))
      ∙ ap (λ q. insert D.resting_number (resting q) (depth s).resting) c.here)

-- ---- a row more

module _ (s : Store) (n : ℕ) (o : Live) where
  abbrev pub next : ℕ
  next = word s C.order_rows

  abbrev pub new_row : Row
  new_row = put_cells C.order_number (n ∷ 1 ∷ 0 ∷ 1 ∷ o.account ∷ o.client_ref ∷ o.side ∷ o.priced ∷ o.price ∷ o.leaves ∷ o.hold ∷ []) (s C.orders next)

  pub append_touched : Touched next new_row s (append n o s)
  unfolding append fill
  append_touched =
      bit_touched next next 1 _ s _
      (hint_touched next n next _ s _
      (count_touched next C.live_orders (word s C.live_orders + 1) _ s _ (λ j x y z. y)
      (count_touched next C.order_rows (next + 1) _ s _ (λ j x y z. x)
      (fill_touched next C.order_number (n ∷ 1 ∷ 0 ∷ 1 ∷ o.account ∷ o.client_ref ∷ o.side ∷ o.priced ∷ o.price ∷ o.leaves ∷ o.hold ∷ []) (s C.orders next) s s (untouched next s)))))

  -- the rows before the new one
  before : (j : ℕ) → j < next → append n o s C.orders j ≡ s C.orders j
  before j l = append_touched.others j (λ e. omega arith)

  append_sorted : Sorted s → ((j : ℕ) → j < next → s C.orders j C.order_number < n) → Sorted (append n o s)
  unfolding append fill
  append_sorted d h =
      record {
        ascends =
            ascends_open (λ k. k) (gap_end (λ k. k) (λ j. s C.orders j C.order_number) (λ j. append n o s C.orders j C.order_number) next (λ j l. ap (λ (q : Row). q C.order_number) (before j l)))
            d.ascends (λ j l. rw (ap (λ (q : Row). q C.order_number) append_touched.here) (h j l)) (λ j a b. absurd (omega arith));
        flags = λ j l.
            ⊎_elim
            (λ (q : j ≡ next). rw (q, append_touched.here) (record { live_is = omega arith; resting_is = omega arith; kept_is = refl }))
            (λ q. rw (append_touched.others j q) (d.flags j (omega (arith, q))))
            (same? j next);
      }

  -- the rows that are in use, but for the new one
  kept_before : (j : ℕ) → (j ≡ next → ⊥) → kept_at (append n o s) j ≡ kept_at s j
  unfolding append fill
  kept_before j ne =
      ⊎_elim
      (λ (l : j < next). rw (lt-ltb j (next + 1) (omega arith), lt-ltb j next l) (ap (λ (q : Row). q C.order_kept) (append_touched.others j ne)))
      (λ l. rw (le-ltb j (next + 1) (omega (arith, ne)), le-ltb j next l) refl)
      (lt_or_le j next)

  append_mapped : KeptMap s → KeptMap (append n o s)
  unfolding append fill
  append_mapped =
      let f = one_bit next 1 s _ (omega arith) (λ j. refl) in
      mapped_row next s (append n o s) (record { here = f.here ∙ ap (λ (q : Row). q C.order_kept) (sym append_touched.here); others = f.others }) (omega arith) kept_before

  pub append_view : Ordered s → next < order_room → ((j : ℕ) → j < next → s C.orders j C.order_number < n) →
      Did s (append n o s) ((ledger s).orders ++ (order_of n o ∷ [])) (depth s).resting
  unfolding append fill
  append_view d m h =
      let t = append n o s in
      let c = append_touched in
      let a : marked t C.order_live order ≡ marked s C.order_live order ++ (order_of n o ∷ []) =
      shown_more (λ j. read C.order_live order (s C.orders j)) (λ j. read C.order_live order (t C.orders j)) next (λ j l. ap (read C.order_live order) (before j l))
      (omega (arith, ap (λ (q : Row). q C.order_live) c.here))
      ∙ ap (λ q. marked s C.order_live order ++ (order q ∷ [])) c.here in
      let b : marked t C.order_resting resting ≡ marked s C.order_resting resting =
      shown_dead (λ j. read C.order_resting resting (s C.orders j)) (λ j. read C.order_resting resting (t C.orders j)) next (λ j l. ap (read C.order_resting resting) (before j l))
      (ap (λ (q : Row). q C.order_resting) c.here) in
      record {
        view = ap₂ (λ x y. with_lists x y (gateway s)) a b;
        ordered =
            record {
              bounds = bounds_kept next new_row s t c (omega arith) d.bounds;
              sorted = append_sorted d.sorted h;
              counted =
                  record {
                    live_count = rw (a, length-append (marked s C.order_live order) (order_of n o ∷ []), d.counted.live_count) refl;
                    resting_count = rw b d.counted.resting_count;
                  };
              mapped = append_mapped d.mapped;
            };
      }
