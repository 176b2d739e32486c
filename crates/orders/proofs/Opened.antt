-- A tombstone between other rows, in place of the nearest one: the gateway stays, and so does the order. Assumes nothing.
use mathlib.Core.Path.{◌≡◌, refl, sym, ap, ap₂, ◌∙◌}
use mathlib.Core.Bool.{cond}
use mathlib.Core.Logic.{◌⊎◌, inl, inr, ⊎_elim}
use mathlib.Core.List.{map}
use Prim.Native.Nat.{ℕ, zero, suc, ◌+◌, ◌-◌, ◌%◌, ◌≤◌, ◌<◌}
use native.Mathlib.Omega.{arith}
use borrow.Author.Tests.{ne_eqb, lt-ltb, le-ltb}
use lib.Dec.{ltb}
use lib.ListN.{length}
use Rattle.le.proofs.Laws.{lt_or_le}
use Rattle.table.specs.Live.{Gap, Ascends}
use Rattle.table.proofs.Lists.{swap_same}
use Rattle.table.proofs.Live.{same?, live_all, gap_swap, ascends_ext, ascends_open, ascends_close}
use Rattle.bitmap.specs.Bitmap.{bit, Nearest}
use Rattle.bitmap.proofs.Laws.{same_bit, near_up, near_down}
use Rattle.gateway.specs.Depth as D
use Rattle.gateway.specs.Ledger.{number_of}
use Rattle.store.specs.Cells as C
use Rattle.store.specs.View.{Row, Store, word, write, fill, order, resting, marked, ledger, depth, gateway, order_room}
use Rattle.orders.specs.Orders.{kept_at, Flags, KeptMap, Ordered, set_hint, set_bit, new_place, moved, opened, rows_with, tombstone, open_row}
use Rattle.orders.proofs.Bits.{OneBit, one_bit}
use Rattle.orders.proofs.Laws.{neither}
use Rattle.orders.proofs.Room.{kept_few}
use Rattle.orders.proofs.Shown.{shown, shown_ext}
use Rattle.orders.proofs.Views.{with_lists, Did, Touched, put_cells, fill_touched, count_touched, hint_touched, bit_touched, untouched, bounds_from}

-- ---- a dead row more

module _ {a b : ℕ → Row} {n i : ℕ} (g : Gap a b n i) where
  gap_of : {A : Type 0} (h : Row → A) → Gap (λ j. h (a j)) (λ j. h (b j)) n i
  gap_of h = record { inside = g.inside; before = λ j l. ap h (g.before j l); behind = λ j m l. ap h (g.behind j m l) }

  -- the list of the marked rows is as it was
  dead_more : {A : Type 0} (k : ℕ) (f : Row → A) (number : A → ℕ) → ((r : Row) → number (f r) ≡ r C.order_number) → Ascends (λ k. k) (λ j. b j C.order_number) (n + 1) → b i k ≡ 0 →
      shown (λ j. (b j k, f (b j))) (n + 1) ≡ shown (λ j. (a j k, f (a j))) n
  dead_more {A} k f number e s z =
      ap (map (λ (p : ℕ × A). p.1))
      (swap_same (λ (p : ℕ × A). number p.1)
      (rw z at
      (gap_swap (λ (p : ℕ × A). p.0) (λ (p : ℕ × A). number p.1) (gap_of (λ r. (r k, f r))) (λ x y h l. rw (e (b x), e (b y)) (s x y h l)))))

-- ---- the nearest tombstone

module _ (s : Store) (o : Ordered s) where
  -- a row whose bit is 1 is in use and kept
  taken_kept : (a : ℕ) → a < order_room → bit C.order_map s a ≡ 1 → (a < word s C.order_rows) × (s C.orders a C.order_kept ≡ 1)
  taken_kept a l e =
      let m = o.mapped.bits a l in
      ⊎_elim
      (λ (h : a < word s C.order_rows). let q : bit C.order_map s a ≡ s C.orders a C.order_kept = rw (lt-ltb a (word s C.order_rows) h) at m in (h, sym q ∙ e))
      (λ h. let q : bit C.order_map s a ≡ 0 = rw (le-ltb a (word s C.order_rows) h) at m in absurd (omega arith))
      (lt_or_le a (word s C.order_rows))

  -- there is one, since fewer rows are kept than there are
  pub tombstone_there : (i d : ℕ) → word s C.live_orders + word s C.resting_orders < order_room → Nearest C.order_map s order_room i d → d < order_room
  tombstone_there i d few near = ⊎_elim (λ (l : d < order_room). l) (λ l. absurd (full (near.full (omega (arith, near.to))))) (lt_or_le d order_room)
    where
      full : ((a : ℕ) → 0 ≤ a → a < order_room → bit C.order_map s a ≡ 1) → ⊥
      full t =
          let last = taken_kept 2047 (omega arith) (t 2047 (omega arith) (omega arith)) in
          let all = live_all (λ j. s C.orders j C.order_kept) (λ j. j) (word s C.order_rows) (λ j l. let q = (taken_kept j (omega (arith, o.bounds.orders_fit)) (t j (omega arith) (omega (arith, o.bounds.orders_fit)))).1 in omega arith) in
          omega (arith, last.0, all, kept_few s o few)

-- ---- its place given to a new row: n is no row's number, and i rows are below it

module _ (s : Store) (n i d : ℕ) (o : Ordered s) (few : word s C.live_orders + word s C.resting_orders < order_room) (top : i ≤ word s C.order_rows)
    (low : (j : ℕ) → j < i → s C.orders j C.order_number < n) (high : (j : ℕ) → i ≤ j → j < word s C.order_rows → n < s C.orders j C.order_number)
    (near : Nearest C.order_map s order_room i d) where
  abbrev next : ℕ
  next = word s C.order_rows

  abbrev p : ℕ
  p = new_place d i

  abbrev t : Store
  t = open_row d p n s

  abbrev row : ℕ → Row
  row j = t C.orders j

  -- the tombstone is behind the new row, or before it
  place_is : ((i ≤ d) × (p ≡ i)) ⊎ ((d < i) × (p + 1 ≡ i))
  place_is =
      ⊎_elim
      (λ (l : d < i). let e : i - 1 + 1 ≡ i = omega arith in inr (l, ap (λ b. cond b (i - 1) i + 1) (lt-ltb d i l) ∙ e))
      (λ l. inl (l, ap (λ b. cond b (i - 1) i) (le-ltb d i l)))
      (lt_or_le d i)

  d_room : d < order_room
  d_room = tombstone_there s o i d few near

  small : i ≤ order_room
  small = omega (arith, top, o.bounds.orders_fit)

  d_used : d ≤ next
  d_used =
      ⊎_elim (λ (l : next < d). let q = (taken_kept s o next (omega (arith, d_room)) (near_up small near next top l)).0 in absurd (omega arith)) (λ l. l) (lt_or_le next d)

  pub open_asks : (d < order_room) × (p < order_room)
  open_asks = (d_room, ⊎_elim (λ (q : (i ≤ d) × (p ≡ i)). omega (arith, d_room)) (λ (q : (d < i) × (p + 1 ≡ i)). omega (arith, o.bounds.orders_fit)) place_is)

  -- the rows without the tombstone
  abbrev skip : ℕ → ℕ
  skip j = cond (ltb j d) j (j + 1)

  abbrev less : ℕ → Row
  less j = s C.orders (skip j)

  abbrev size : ℕ
  size = cond (ltb d next) (next - 1) next

  size_is : ((d < next) × (size + 1 ≡ next)) ⊎ ((d ≡ next) × (size ≡ next))
  size_is =
      ⊎_elim
      (λ (l : d < next). let e : next - 1 + 1 ≡ next = omega arith in inl (l, ap (λ b. cond b (next - 1) next + 1) (lt-ltb d next l) ∙ e))
      (λ l. inr (omega (arith, d_used), ap (λ b. cond b (next - 1) next) (le-ltb d next l)))
      (lt_or_le d next)

  d_size : d ≤ size
  d_size = ⊎_elim (λ (q : (d < next) × (size + 1 ≡ next)). omega arith) (λ (q : (d ≡ next) × (size ≡ next)). omega arith) size_is

  next_size : (size ≤ next) × (next ≤ size + 1)
  next_size = ⊎_elim (λ (q : (d < next) × (size + 1 ≡ next)). (omega arith, omega arith)) (λ (q : (d ≡ next) × (size ≡ next)). (omega arith, omega arith)) size_is

  p_size : p ≤ size
  p_size = ⊎_elim (λ (q : (i ≤ d) × (p ≡ i)). omega (arith, d_size)) (λ (q : (d < i) × (p + 1 ≡ i)). omega (arith, next_size)) place_is

  size_fits : size + 1 ≤ order_room
  size_fits =
      ⊎_elim (λ (q : (d < next) × (size + 1 ≡ next)). omega (arith, o.bounds.orders_fit)) (λ (q : (d ≡ next) × (size ≡ next)). omega (arith, d_room)) size_is

  pub rows_are : word t C.order_rows ≡ size + 1
  unfolding open_row
  rows_are =
      ⊎_elim
      (λ (q : (d < next) × (size + 1 ≡ next)). ap (λ b. cond b next (d + 1)) (lt-ltb d next q.0) ∙ sym q.1)
      (λ (q : (d ≡ next) × (size ≡ next)). ap (λ b. cond b next (d + 1)) (le-ltb d next (omega arith)) ∙ omega arith)
      size_is

  -- ---- the rows

  abbrev new_row : Row
  new_row = put_cells C.order_number (tombstone n) (opened d p s C.orders p)

  touched : Touched p new_row (opened d p s) t
  unfolding open_row
  touched =
      hint_touched p n p _ _ _
      (bit_touched p p 0 _ _ _
      (bit_touched p d 1 _ _ _
      (count_touched p C.order_rows (rows_with d next) _ _ _ (λ j x y z. x)
      (fill_touched p C.order_number (tombstone n) (opened d p s C.orders p) (opened d p s) (opened d p s) (untouched p (opened d p s))))))

  before : (j : ℕ) → j < p → row j ≡ less j
  unfolding opened
  before j l = touched.others j (λ e. omega arith) ∙ ap (λ b. s C.orders (cond b (cond (ltb d j) j (j - 1)) (skip j))) (le-ltb p j (omega arith))

  behind : (j : ℕ) → p ≤ j → row (j + 1) ≡ less j
  unfolding opened
  behind j h =
      touched.others (j + 1) (λ e. omega arith)
      ∙ ap (λ b. s C.orders (cond b (cond (ltb d (j + 1)) (j + 1) (j + 1 - 1)) (cond (ltb (j + 1) d) (j + 1) (j + 1 + 1)))) (lt-ltb p (j + 1) (omega arith))
      ∙ ⊎_elim
      (λ (l : j < d).
      let e : j + 1 - 1 ≡ j = omega arith in
      ap₂ (λ b m. s C.orders (cond b (j + 1) m)) (le-ltb d (j + 1) (omega arith)) e ∙ sym (ap (λ b. s C.orders (cond b j (j + 1))) (lt-ltb j d l)))
      (λ l. ap (λ b. s C.orders (cond b (j + 1) (j + 1 - 1))) (lt-ltb d (j + 1) (omega arith)) ∙ sym (ap (λ b. s C.orders (cond b j (j + 1))) (le-ltb j d l)))
      (lt_or_le j d)

  less_low : (j : ℕ) → j < d → less j ≡ s C.orders j
  less_low j l = ap (λ b. s C.orders (cond b j (j + 1))) (lt-ltb j d l)

  less_high : (j : ℕ) → d ≤ j → less j ≡ s C.orders (j + 1)
  less_high j l = ap (λ b. s C.orders (cond b j (j + 1))) (le-ltb j d l)

  new_gap : Gap less row size p
  new_gap = record { inside = p_size; before = before; behind = λ j h l. behind j h }

  -- one row before the tombstone, or behind it
  each_less : (P : Row → Type 0) (j : ℕ) → (j < d → P (s C.orders j)) → (d ≤ j → P (s C.orders (j + 1))) → P (less j)
  each_less P j a b = ⊎_elim (λ (l : j < d). rw (less_low j l) (a l)) (λ l. rw (less_high j l) (b l)) (lt_or_le j d)

  -- where the tombstone is in use
  old_gap : d < next → size + 1 ≡ next → Gap less (λ j. s C.orders j) size d
  old_gap l e = record { inside = d_size; before = λ j h. sym (less_low j h); behind = λ j h q. sym (less_high j h) }

  -- ---- what is true of each

  pub open_row_each : (P : Row → Type 0) → ((j : ℕ) → j < next → P (s C.orders j)) → P (row p) → (j : ℕ) → j < word t C.order_rows → P (row j)
  open_row_each P h x j l =
      ⊎_elim
      (λ (e : j ≡ p). rw e x)
      (λ ne.
      ⊎_elim
      (λ (g : j < p). rw (before j g) (of j (omega (arith, p_size))))
      (λ g.
      let e : j ≡ j - 1 + 1 = omega (arith, ne) in
      rw (e, behind (j - 1) (omega (arith, ne))) (of (j - 1) (omega (arith, rows_are, ne))))
      (lt_or_le j p))
      (same? j p)
    where
      of : (j : ℕ) → j < size → P (less j)
      of j l = each_less P j (λ m. h j (omega (arith, next_size))) (λ m. ⊎_elim (λ (q : (d < next) × (size + 1 ≡ next)). h (j + 1) (omega arith)) (λ (q : (d ≡ next) × (size ≡ next)). absurd (omega arith)) size_is)

  number_here : row p C.order_number ≡ n
  number_here = ap (λ (r : Row). r C.order_number) touched.here

  -- ---- the numbers ascend

  abbrev number : Row → ℕ
  number r = r C.order_number

  ascends_less : Ascends (λ k. k) (λ j. number (less j)) size
  ascends_less =
      ⊎_elim
      (λ (q : (d < next) × (size + 1 ≡ next)). ascends_close (λ k. k) (gap_of (old_gap q.0 q.1) number) (rw q.1 o.sorted.ascends))
      (λ (q : (d ≡ next) × (size ≡ next)).
      ascends_ext (λ k. k) (λ j. number (s C.orders j)) (λ j. number (less j)) size (λ j l. ap number (less_low j (omega arith))) (rw q.1 o.sorted.ascends))
      size_is

  ascends : Ascends (λ k. k) (λ j. number (row j)) (size + 1)
  ascends =
      ascends_open (λ k. k) (gap_of new_gap number) ascends_less
      (λ j l. rw number_here (each_less (λ r. number r < n) j (λ m. low j (before_i j l m)) (λ m. low (j + 1) (behind_i j l m))))
      (λ j h l. rw number_here (each_less (λ r. n < number r) j (λ m. high j (from_i j h m) (omega (arith, next_size))) (λ m. high (j + 1) (past_i j h) (inside_next j l m))))
    where
      before_i : (j : ℕ) → j < p → j < d → j < i
      before_i j l m = ⊎_elim (λ (q : (i ≤ d) × (p ≡ i)). omega arith) (λ (q : (d < i) × (p + 1 ≡ i)). omega arith) place_is

      behind_i : (j : ℕ) → j < p → d ≤ j → j + 1 < i
      behind_i j l m = ⊎_elim (λ (q : (i ≤ d) × (p ≡ i)). absurd (omega arith)) (λ (q : (d < i) × (p + 1 ≡ i)). omega arith) place_is

      from_i : (j : ℕ) → p ≤ j → j < d → i ≤ j
      from_i j l m = ⊎_elim (λ (q : (i ≤ d) × (p ≡ i)). omega arith) (λ (q : (d < i) × (p + 1 ≡ i)). absurd (omega arith)) place_is

      past_i : (j : ℕ) → p ≤ j → i ≤ j + 1
      past_i j l = ⊎_elim (λ (q : (i ≤ d) × (p ≡ i)). omega arith) (λ (q : (d < i) × (p + 1 ≡ i)). omega arith) place_is

      inside_next : (j : ℕ) → j < size → d ≤ j → j + 1 < next
      inside_next j l m = ⊎_elim (λ (q : (d < next) × (size + 1 ≡ next)). omega arith) (λ (q : (d ≡ next) × (size ≡ next)). absurd (omega arith)) size_is

  -- ---- the lists stay

  tombstone_dead : d < next → (s C.orders d C.order_live ≡ 0) × (s C.orders d C.order_resting ≡ 0)
  tombstone_dead l =
      let q : bit C.order_map s d ≡ s C.orders d C.order_kept = rw (lt-ltb d next l) at (o.mapped.bits d d_room) in
      neither (s C.orders d C.order_live) (s C.orders d C.order_resting) (sym (o.sorted.flags d l).kept_is ∙ sym q ∙ near.free d_room)

  marked_open : {A : Type 0} (k : ℕ) (f : Row → A) (key : A → ℕ) → ((r : Row) → key (f r) ≡ number r) → row p k ≡ 0 → (d < next → s C.orders d k ≡ 0) → marked t k f ≡ marked s k f
  marked_open {A} k f key e z w =
      ap (shown (λ j. (row j k, f (row j)))) rows_are
      ∙ dead_more new_gap k f key e ascends z
      ∙ ⊎_elim
      (λ (q : (d < next) × (size + 1 ≡ next)).
      sym (dead_more (old_gap q.0 q.1) k f key e (rw q.1 o.sorted.ascends) (w q.0)) ∙ ap (shown (λ j. (s C.orders j k, f (s C.orders j)))) q.1)
      (λ (q : (d ≡ next) × (size ≡ next)).
      shown_ext (λ j. (s C.orders j k, f (s C.orders j))) (λ j. (less j k, f (less j))) size (λ j l. ap (λ (r : Row). (r k, f r)) (less_low j (omega arith)))
      ∙ ap (shown (λ j. (s C.orders j k, f (s C.orders j)))) q.1)
      size_is

  live_open : marked t C.order_live order ≡ (ledger s).orders
  live_open = marked_open C.order_live order number_of (λ r. refl) (ap (λ (r : Row). r C.order_live) touched.here) (λ l. (tombstone_dead l).0)

  resting_open : marked t C.order_resting resting ≡ (depth s).resting
  resting_open = marked_open C.order_resting resting D.resting_number (λ r. refl) (ap (λ (r : Row). r C.order_resting) touched.here) (λ l. (tombstone_dead l).1)

  -- ---- the map

  -- before its bits are put
  abbrev written : Store
  written = write C.header 0 C.order_rows (rows_with d next) (fill C.orders p C.order_number (tombstone n) (opened d p s))

  hinted : (j : ℕ) → bit C.order_map t j ≡ bit C.order_map (set_bit p 0 (set_bit d 1 written)) j
  unfolding open_row
  hinted j = same_bit C.order_map t (set_bit p 0 (set_bit d 1 written)) j refl

  first : OneBit d 1 s (set_bit d 1 written)
  unfolding fill opened
  first = one_bit d 1 s written (omega arith) (λ j. refl)

  second : OneBit p 0 (set_bit d 1 written) (set_bit p 0 (set_bit d 1 written))
  second = one_bit p 0 (set_bit d 1 written) (set_bit d 1 written) (omega arith) (λ j. refl)

  -- the new row's bit is 0, that of a row that was kept is 1, and so is the tombstone's; the others are as they were
  bit_new : bit C.order_map t p ≡ 0
  bit_new = hinted p ∙ second.here

  bit_other : (j : ℕ) → (j ≡ p → ⊥) → (j ≡ d → ⊥) → bit C.order_map t j ≡ bit C.order_map s j
  bit_other j ne md = hinted j ∙ second.others j ne ∙ first.others j md

  bit_taken : (j : ℕ) → (j ≡ p → ⊥) → ((j ≡ d → ⊥) → bit C.order_map s j ≡ 1) → bit C.order_map t j ≡ 1
  bit_taken j ne e = ⊎_elim (λ (q : j ≡ d). rw q (hinted d ∙ second.others d (λ x. ne (q ∙ x)) ∙ first.here)) (λ q. bit_other j ne q ∙ e q) (same? j d)

  kept_row : (j : ℕ) → j < next → (j ≡ p → ⊥) → (j ≡ d → ⊥) → bit C.order_map t j ≡ s C.orders j C.order_kept
  kept_row j l ne md = bit_other j ne md ∙ o.mapped.bits j (omega (arith, o.bounds.orders_fit)) ∙ ap (λ b. cond b (s C.orders j C.order_kept) 0) (lt-ltb j next l)

  -- the rows that have moved are kept
  moved_up : (j : ℕ) → p < j → j ≤ d → bit C.order_map t j ≡ less (j - 1) C.order_kept
  moved_up j l m =
      ⊎_elim
      (λ (q : (i ≤ d) × (p ≡ i)).
      bit_taken j (λ e. omega arith) (λ e. near_up small near j (omega arith) (omega (arith, e)))
      ∙ sym (ap (λ (r : Row). r C.order_kept) (less_low (j - 1) (omega arith)) ∙ (taken_kept s o (j - 1) (omega (arith, d_room)) (near_up small near (j - 1) (omega arith) (omega arith))).1))
      (λ (q : (d < i) × (p + 1 ≡ i)). absurd (omega arith))
      place_is

  moved_down : (j : ℕ) → j < p → d ≤ j → bit C.order_map t j ≡ less j C.order_kept
  moved_down j l m =
      ⊎_elim
      (λ (q : (i ≤ d) × (p ≡ i)). absurd (omega arith))
      (λ (q : (d < i) × (p + 1 ≡ i)).
      bit_taken j (λ e. omega arith) (λ e. near_down small near j (omega (arith, e)) (omega arith))
      ∙ sym (ap (λ (r : Row). r C.order_kept) (less_high j m) ∙ (taken_kept s o (j + 1) (omega (arith, o.bounds.orders_fit)) (near_down small near (j + 1) (omega arith) (omega arith))).1))
      place_is

  row_bit : (j : ℕ) → j < size + 1 → bit C.order_map t j ≡ row j C.order_kept
  row_bit j l =
      ⊎_elim
      (λ (e : j ≡ p). rw e (bit_new ∙ ap (λ (r : Row). r C.order_kept) (sym touched.here)))
      (λ ne.
      ⊎_elim
      (λ (g : j < p).
      rw (before j g)
      (⊎_elim (λ (m : j < d). kept_row j (omega (arith, d_used)) ne (λ e. omega arith) ∙ sym (ap (λ (r : Row). r C.order_kept) (less_low j m))) (λ m. moved_down j g m) (lt_or_le j d)))
      (λ g.
      let u : j - 1 + 1 ≡ j = omega (arith, ne) in
      (⊎_elim
      (λ (m : d < j).
      kept_row j (⊎_elim (λ (q : (d < next) × (size + 1 ≡ next)). omega arith) (λ (q : (d ≡ next) × (size ≡ next)). absurd (omega arith)) size_is) ne (λ e. omega arith)
      ∙ sym (ap (λ (r : Row). r C.order_kept) (less_high (j - 1) (omega arith) ∙ ap (s C.orders) u)))
      (λ m. moved_up j (omega (arith, ne)) m)
      (lt_or_le d j))
      ∙ sym (ap (λ (r : Row). r C.order_kept) (ap (λ k. row k) (sym u) ∙ behind (j - 1) (omega (arith, ne)))))
      (lt_or_le j p))
      (same? j p)

  open_mapped : KeptMap t
  open_mapped =
      record {
        bits = λ j h.
            rw rows_are
            (⊎_elim
            (λ (l : j < size + 1). rw (lt-ltb j (size + 1) l) (row_bit j l))
            (λ l.
            rw (le-ltb j (size + 1) l)
            (bit_other j (λ e. omega (arith, p_size)) (λ e. omega (arith, d_size)) ∙ o.mapped.bits j h ∙ ap (λ b. cond b (s C.orders j C.order_kept) 0) (le-ltb j next (omega (arith, next_size)))))
            (lt_or_le j (size + 1)));
      }

  -- ---- the whole

  open_flags : (j : ℕ) → j < word t C.order_rows → Flags (row j)
  open_flags = open_row_each Flags o.sorted.flags (rw touched.here (record { live_is = omega arith; resting_is = omega arith; kept_is = refl }))

  open_view : gateway t ≡ with_lists (ledger t).orders (depth t).resting (gateway s)
  unfolding open_row fill opened
  open_view = refl

  open_words : (k : ℕ) → (k ≡ C.order_rows → ⊥) → word t k ≡ word s k
  unfolding open_row fill opened
  open_words k x = rw (ne_eqb k C.order_rows x) refl

  pub open_row_view : Did s t (ledger s).orders (depth s).resting
  open_row_view =
      record {
        view = open_view ∙ ap₂ (λ x y. with_lists x y (gateway s)) live_open resting_open;
        ordered =
            record {
              bounds = bounds_from s t (λ k l x y z. open_words k x) (rw rows_are size_fits) o.bounds;
              sorted = record { ascends = rw rows_are ascends; flags = open_flags };
              counted =
                  record {
                    live_count = open_words C.live_orders (λ e. omega arith) ∙ o.counted.live_count ∙ sym (ap length live_open);
                    resting_count = open_words C.resting_orders (λ e. omega arith) ∙ o.counted.resting_count ∙ sym (ap length resting_open);
                  };
              mapped = open_mapped;
            };
      }

  -- it bears the number, and an order can rest there
  pub open_row_here : (p < word t C.order_rows) × (row p C.order_number ≡ n) × (row p C.order_resting ≡ 0) × (row p C.order_live ≡ 0)
  open_row_here = (rw rows_are (omega (arith, p_size)), number_here, ap (λ (r : Row). r C.order_resting) touched.here, ap (λ (r : Row). r C.order_live) touched.here)
