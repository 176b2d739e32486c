-- What each operation makes of a side's levels, from the laws of `table` and of the layout. Assumes nothing.
use Rattle.std.specs.Prelude.{Option, Some, None}
use mathlib.Core.Path.{◌≡◌, refl, sym, ap, ap₂, subst, ◌∙◌}
use mathlib.Core.Logic.{◌⊎◌, inl, inr, ⊎_elim}
use mathlib.Core.Bool.{true, false, cond, not}
use mathlib.Core.List.{List, [], ◌∷◌}
use Prim.Native.Nat.{ℕ, suc, ◌+◌, ◌*◌, ◌-◌, ◌/◌, ◌%◌, ◌≤◌, ◌<◌}
use native.Mathlib.Nat.{eq-or-lt_of_le}
use native.Mathlib.Omega.{arith}
use borrow.Author.Tests.{eq-eqb, ne_eqb, lt-ltb, le-ltb}
use lib.Dec.{eqb, ltb}
use lib.ListN.{length, get_or}
use Rattle.orderbook.specs.declared.Side.{Side}
use Rattle.orderbook.specs.declared.Side.TheVariants.{Buy, Sell}
use Rattle.le.specs.Le.{le, put, Outside, Local}
use Rattle.le.specs.Row.{puts, Fit}
use Rattle.le.proofs.Laws.{lt_or_le, outside_trans, outside_wider, local_wider, local_map, local_outside}
use Rattle.le.proofs.Rows.{outside_puts, gets_local, gets_puts}
use Rattle.table.specs.Live.{live, look, insert, replace, without, Ascends, Gap, Changed}
use Rattle.table.specs.Table.{key_at, rows, Sorted, Between, Opened, Closed}
use Rattle.table.proofs.Lists.{insert_length, replace_length}
use Rattle.table.proofs.Live.{same?, live_ext, live_few, live_all, live_some, live_insert, live_strike, live_struck, live_replace, live_over, live_under, look_some, look_none, ascends_ext, ascends_change, ascends_open, ascends_close, ascends_join, gap_end}
use Rattle.table.proofs.Search.{between_above, finds_none}
use Rattle.table.proofs.Readers.{row_changed, row_other, opened_gap, closed_gap}
use Rattle.gateway.specs.Limits.{most_levels}
use Rattle.store.specs.Cells as C
use Rattle.store.specs.Layout.{blocks, start, spot, cell, store, Cell, Holds, Set, starts, cells}
use Rattle.store.specs.View.{Store, word, Is}
use Rattle.store.proofs.Places.{header_cell, bid_cell, ask_cell, bid_map_cell, ask_map_cell, cell_block, cell_same, cell_other}
use Rattle.levels.specs.declared.Row.{Row}
use Rattle.levels.specs.Rows.{widths, values, made, read}
use Rattle.levels.specs.Levels.{block, map_block, used_cell, size_cell, base, key, orders, row, used, size, bits, is_level, entries, grown, opened, one_more, changed, one_less, added, shown, removed, Joins, CanAdd, CanShow, CanRemove, Other, Table, Recounted, Did, Sought, IsFirst, IsAt, Place, Alive, Free}
use Rattle.words.specs.Words.{modulus}
use Rattle.bitmap.specs.Bitmap.{put_bit, Map, Mapped, Nearest}
use Rattle.bitmap.proofs.Laws.{near_up, near_down, near_here, same_bit, put_block, put_same, put_other}
use Rattle.bitmap.proofs.Mapped.{mapped_ext, mapped_one}

-- ---- the block in bytes

block_from : (s : Side) → 8 * start (block s) ≡ base s
unfolding start
block_from Buy = refl
block_from Sell = refl

block_to : (s : Side) → 8 * start (suc (block s)) ≡ base s + 16384
unfolding start
block_to Buy = refl
block_to Sell = refl

block_below : (s : Side) → block s < blocks
block_below Buy = omega arith
block_below Sell = omega arith

pub used_place : (s : Side) → Cell C.header 0 (used_cell s)
used_place Buy = header_cell C.bid_rows (omega arith)
used_place Sell = header_cell C.ask_rows (omega arith)

pub size_place : (s : Side) → Cell C.header 0 (size_cell s)
size_place Buy = header_cell C.bid_levels (omega arith)
size_place Sell = header_cell C.ask_levels (omega arith)

apart : (s : Side) → used_cell s ≡ size_cell s → ⊥
apart Buy e = omega arith
apart Sell e = omega arith

pub block_cell : (s : Side) (i k : ℕ) → i < most_levels → k < 4 → Cell (block s) i k
block_cell Buy i k h l = bid_cell i k h l
block_cell Sell i k h l = ask_cell i k h l

pub map_row : (s : Side) (i : ℕ) → i < 8 → Cell (map_block s) i C.map_bits
map_row Buy i h = bid_map_cell i C.map_bits h (omega arith)
map_row Sell i h = ask_map_cell i C.map_bits h (omega arith)

pub map_cell : (s : Side) (j : ℕ) → j < most_levels → Cell (map_block s) (j / 64) C.map_bits
map_cell s j h = map_row s (j / 64) (omega arith)

map_not_block : (s : Side) → map_block s ≡ block s → ⊥
map_not_block Buy e = omega arith
map_not_block Sell e = omega arith

pub map_not_header : (s : Side) → map_block s ≡ C.header → ⊥
map_not_header Buy e = omega arith
map_not_header Sell e = omega arith

-- rows of a state are in its slice
pub base_fits : (s : Side) → base s + 16384 ≤ 8 * cells
base_fits Buy = omega arith
base_fits Sell = omega arith

pub header_not_block : (s : Side) → C.header ≡ block s → ⊥
header_not_block Buy e = omega arith
header_not_block Sell e = omega arith

cell_at : (s : Side) (xs : List ℕ) (i k : ℕ) → le 8 xs (base s + 32 * i + 8 * k) ≡ cell xs (block s) i k
unfolding cell spot start
cell_at Buy xs i k = let e : base Buy + 32 * i + 8 * k ≡ 8 * (get_or starts C.bids 0 + (4 * i + k)) = omega arith in ap (le 8 xs) e
cell_at Sell xs i k = let e : base Sell + 32 * i + 8 * k ≡ 8 * (get_or starts C.asks 0 + (4 * i + k)) = omega arith in ap (le 8 xs) e

module _ (s : Side) (xs : List ℕ) where
  pub row_at : (i : ℕ) → rows read (base s) 32 xs i ≡ row s (cell xs) i
  unfolding read
  row_at i =
      let o = base s + 32 * i in
      let a : o ≡ o + 8 * 0 = omega arith in
      let b : o + 8 ≡ o + 8 * 1 = omega arith in
      let c : o + 8 + 8 ≡ o + 8 * 2 = omega arith in
      λ z. record { key = (ap (le 8 xs) a ∙ cell_at s xs i 0) z; qty = (ap (le 8 xs) b ∙ cell_at s xs i 1) z; orders = (ap (le 8 xs) c ∙ cell_at s xs i 2) z }

  rows_at : rows read (base s) 32 xs ≡ row s (cell xs)
  rows_at = λ z i. row_at i z

  pub keys_at : key_at (base s) 32 xs ≡ (λ j. (row s (cell xs) j).key)
  unfolding read
  keys_at = λ z j. (row_at j z).key

  pub sorted : {n : ℕ} → Table s xs → n ≡ used s (cell xs) → Sorted (base s) 32 n xs
  sorted {n} t e =
      record {
        room = record { fits = omega (arith, t.holds, t.few, base_fits s); wide = omega arith; words = refl };
        asc = rw e (subst (λ ks. Ascends (λ k. k) ks (used s (cell xs))) (sym keys_at) t.asc);
      }

read_local : Local 32 read
unfolding read
read_local = local_wider (omega arith) (local_map made (gets_local widths))

-- what changed in the block alone is seen nowhere else
elsewhere : (s : Side) {xs ys : List ℕ} {b i k : ℕ} → Outside (base s) (base s + 16384) xs ys → Cell b i k → (b ≡ block s → ⊥) → cell ys b i k ≡ cell xs b i k
elsewhere s p c ne = cell_block (block s) (block_below s) (rw (block_from s, block_to s) p) c ne

bits_elsewhere : (s : Side) {xs ys : List ℕ} → Outside (base s) (base s + 16384) xs ys → (j : ℕ) → j < most_levels → bits s (cell ys) j ≡ bits s (cell xs) j
bits_elsewhere s {xs} {ys} p j h = same_bit (map_block s) (cell ys) (cell xs) j (elsewhere s p (map_cell s j h) (map_not_block s))

-- ---- which rows are levels

-- a row is as live as it was
abbrev pub Alike : (ℕ → Row) → (ℕ → Row) → ℕ → Type 0
Alike f g j = ((g j).orders ≡ (f j).orders) ⊎ ((0 < (g j).orders) × (0 < (f j).orders))

module _ (f : ℕ → Row) (n j : ℕ) where
  level_unused : n ≤ j → is_level f n j ≡ 0
  level_unused h = rw (le-ltb j n h) refl

  level_dead : (f j).orders ≡ 0 → is_level f n j ≡ 0
  level_dead z = ⊎_elim (λ (h : j < n). rw (lt-ltb j n h, eq-eqb (f j).orders 0 z) refl) level_unused (lt_or_le j n)

  level_live : j < n → 0 < (f j).orders → is_level f n j ≡ 1
  level_live h l = rw (lt-ltb j n h, ne_eqb (f j).orders 0 (λ e. omega arith)) refl

  level_taken : is_level f n j ≡ 1 → (j < n) × (0 < (f j).orders)
  level_taken e =
      ⊎_elim
      (λ (h : j < n).
      (h, ⊎_elim (λ (z : (f j).orders ≡ 0). absurd (omega (arith, e, level_dead z))) (λ (z : (f j).orders ≡ 0 → ⊥). omega (arith, z)) (same? (f j).orders 0)))
      (λ h. absurd (omega (arith, e, level_unused h)))
      (lt_or_le j n)

  level_free : j < n → is_level f n j ≡ 0 → (f j).orders ≡ 0
  level_free h e = ⊎_elim (λ (z : (f j).orders ≡ 0). z) (λ (z : (f j).orders ≡ 0 → ⊥). absurd (omega (arith, e, level_live h (omega (arith, z))))) (same? (f j).orders 0)

level_inside : (f : ℕ → Row) (n m j : ℕ) → j < n → j < m → is_level f n j ≡ is_level f m j
level_inside f n m j h l = ap (λ b. cond b (cond (eqb (f j).orders 0) 0 1) 0) (lt-ltb j n h ∙ sym (lt-ltb j m l))

pub levels_alike : (f g : ℕ → Row) (n j : ℕ) → (j < n → Alike f g j) → is_level g n j ≡ is_level f n j
levels_alike f g n j h =
    ⊎_elim
    (λ (l : j < n).
    ⊎_elim
    (λ (e : (g j).orders ≡ (f j).orders). ap (λ x. cond (ltb j n) (cond (eqb x 0) 0 1) 0) e)
    (λ (p : (0 < (g j).orders) × (0 < (f j).orders)). level_live g n j l p.0 ∙ sym (level_live f n j l p.1))
    (h l))
    (λ l. level_unused g n j l ∙ sym (level_unused f n j l))
    (lt_or_le j n)

-- ---- what is found

module _ (s : Side) {xs : List ℕ} (t : Table s xs) {k i : ℕ} (b : Sought s xs k i) where
  pub at_some : i < used s (cell xs) → (row s (cell xs) i).key ≡ k → 0 < (row s (cell xs) i).orders → look key k (entries s (cell xs)) ≡ Some (row s (cell xs) i)
  unfolding entries
  at_some h e l = look_some orders key (row s (cell xs)) k i (used s (cell xs)) t.asc h e l

  pub at_none : (i < used s (cell xs) → (row s (cell xs) i).key ≡ k → (row s (cell xs) i).orders ≡ 0) → look key k (entries s (cell xs)) ≡ None
  unfolding entries
  at_none d = look_none orders key (row s (cell xs)) k (used s (cell xs)) (finds_none (λ j. (row s (cell xs) j).orders) t.asc b d)

-- ---- what is written

module _ (s : Side) {xs : List ℕ} (t : Table s xs) where
  -- the block changed, and then the counts
  recounted_did : {ys zs : List ℕ} {l : List Row} (u v d x : ℕ) → Outside (base s) (base s + 16384) xs ys → Recounted s ys zs u v d x → u ≤ most_levels →
      Ascends key (row s (cell ys)) u → live orders (row s (cell ys)) u ≡ l → v ≡ length l →
      is_level (row s (cell ys)) u d ≡ x → ((j : ℕ) → j < most_levels → (j ≡ d → ⊥) → is_level (row s (cell ys)) u j ≡ is_level (row s (cell xs)) (used s (cell xs)) j) → Did s xs zs l
  unfolding entries
  recounted_did {ys} {zs} {l} u v d x q w few asc e n one others =
      let mine : (i k : ℕ) → i < u → k < 4 → cell zs (block s) i k ≡ cell ys (block s) i k =
      λ i k h m. w.kept (block s) i k (block_cell s i k (omega arith) m) (λ a. map_not_block s (sym a)) (λ a _. header_not_block s (sym a), λ a _. header_not_block s (sym a)) in
      let same : (j : ℕ) → j < u → row s (cell zs) j ≡ row s (cell ys) j =
      λ j h. λ z. record { key = mine j 0 h (omega arith) z; qty = mine j 1 h (omega arith) z; orders = mine j 2 h (omega arith) z } in
      let list : entries s (cell zs) ≡ l = rw w.used_is (live_ext orders (row s (cell ys)) (row s (cell zs)) u same ∙ e) in
      record {
        table = record {
          holds = w.holds;
          few = rw w.used_is few;
          asc = rw w.used_is (ascends_ext key (row s (cell ys)) (row s (cell zs)) u (λ j h. ap key (same j h)) asc);
          counted = w.size_is ∙ n ∙ ap length (sym list);
          mapped =
              rw w.used_is
              (mapped_one (map_block s) most_levels (cell xs) (cell zs) d (w.bit_is ∙ sym (levels_alike (row s (cell ys)) (row s (cell zs)) u d (λ h. inl (ap orders (same d h))) ∙ one))
              (λ j h ne. w.bits_are j h ne ∙ bits_elsewhere s q j h)
              (λ j h ne. levels_alike (row s (cell ys)) (row s (cell zs)) u j (λ l. inl (ap orders (same j l))) ∙ others j h ne) t.mapped);
        };
        list = list;
        kept = λ b i k z ne nm no. w.kept b i k z nm no ∙ elsewhere s q z ne;
      }

  module _ {ys : List ℕ} (i : ℕ) (r : Row) (h : i < used s (cell xs)) (f : Fit widths (values r)) (w : ys ≡ puts widths xs (base s + 32 * i) (values r)) where
    row_out : Outside (base s + 32 * i) (base s + 32 * i + 32) xs ys
    row_out = rw w (outside_puts (base s + 32 * i) (base s + 32 * i + 32) widths xs (base s + 32 * i) (values r) (omega arith) (omega arith))

    block_out : Outside (base s) (base s + 16384) xs ys
    block_out = outside_wider (base s) (base s + 16384) (omega arith) (omega (arith, t.few)) row_out

    row_here : row s (cell ys) i ≡ r
    unfolding read
    row_here =
        sym (row_at s ys i) ∙ ap (λ zs. read zs (base s + 32 * i)) w ∙ ap made (gets_puts widths xs (base s + 32 * i) (values r) f (omega (arith, t.holds, t.few, base_fits s)))

    row_only : Changed (row s (cell xs)) (row s (cell ys)) (used s (cell xs)) i
    row_only = rw (rows_at s xs, rows_at s ys) at (row_changed read_local (base s) h row_out)

    -- a level changes, and not its key
    pub replace_did : 0 < (row s (cell xs) i).orders → 0 < r.orders → r.key ≡ (row s (cell xs) i).key → Did s xs ys (replace key r (entries s (cell xs)))
    unfolding entries used size
    replace_did old new e =
        let c : word (cell ys) (used_cell s) ≡ word (cell xs) (used_cell s) = elsewhere s block_out (used_place s) (header_not_block s) in
        let n : word (cell ys) (size_cell s) ≡ word (cell xs) (size_cell s) = elsewhere s block_out (size_place s) (header_not_block s) in
        let same : (row s (cell ys) i).key ≡ (row s (cell xs) i).key = ap key row_here ∙ e in
        let one_live : (j : ℕ) → j < used s (cell xs) → Alike (row s (cell xs)) (row s (cell ys)) j =
        λ j h.
        ⊎_elim
        (λ (q : j ≡ i).
        inr (omega (arith, new, ap (λ y. (row s (cell ys) y).orders) q, ap orders row_here), omega (arith, old, ap (λ y. (row s (cell xs) y).orders) q)))
        (λ ne. inl (ap orders (row_only.other j h ne)))
        (same? j i) in
        let list : entries s (cell ys) ≡ replace key r (entries s (cell xs)) =
        rw c
        (live_replace orders key row_only t.asc same old (omega (arith, new, ap orders row_here)) ∙ ap (λ x. replace key x (entries s (cell xs))) row_here) in
        record {
          table = record {
            holds = rw block_out.len t.holds;
            few = rw c t.few;
            asc = rw c (ascends_change key row_only same t.asc);
            counted = n ∙ t.counted ∙ sym (ap length list ∙ replace_length key r (entries s (cell xs)));
            mapped = rw c (mapped_ext (map_block s) most_levels (cell xs) (cell ys) (bits_elsewhere s block_out) (λ j h. levels_alike (row s (cell xs)) (row s (cell ys)) (used s (cell xs)) j (one_live j)) t.mapped);
          };
          list = list;
          kept = λ b j k z ne nm no. elsewhere s block_out z ne;
        }

    -- a level goes: its row stays, dead
    struck_did : {zs : List ℕ} (u v : ℕ) → 0 < (row s (cell xs) i).orders → r.orders ≡ 0 → r.key ≡ (row s (cell xs) i).key →
        u ≡ used s (cell xs) → v ≡ size s (cell xs) → Recounted s ys zs u (v - 1) i 0 → Did s xs zs (without key r.key (entries s (cell xs)))
    unfolding entries
    struck_did u v old dead e u_is v_is c =
        let same : (row s (cell ys) i).key ≡ (row s (cell xs) i).key = ap key row_here ∙ e in
        let gone : (row s (cell ys) i).orders ≡ 0 = ap orders row_here ∙ dead in
        let list : ◌≡◌ {A = List Row} _ _ = live_strike orders key row_only t.asc gone ∙ ap (λ k. without key k (entries s (cell xs))) (sym e) in
        recounted_did (used s (cell xs)) (size s (cell xs) - 1) i 0 block_out (rw (u_is, v_is) at c) t.few (ascends_change key row_only same t.asc) list
        (omega (arith, t.counted, ap length list, live_struck orders key row_only t.asc old gone))
        (level_dead (row s (cell ys)) (used s (cell xs)) i gone)
        (λ j g ne. levels_alike (row s (cell xs)) (row s (cell ys)) (used s (cell xs)) j (λ l. inl (ap orders (row_only.other j l ne))))

never : {r : Row} {m : Option Row} → m ≡ Some r → m ≡ None → ⊥
never p q = let z : ◌≡◌ {A = ℕ} 0 1 = cc in omega (arith, z)

-- a level k comes, whose place is i: where the row i is live, it and those behind it are above
module _ (s : Side) {xs : List ℕ} {k i d : ℕ} (p : Place s xs k i) (q : Free s xs i d) where
  abbrev t : Table s xs
  t = p.table

  above : (d ≡ i → ⊥) → (j : ℕ) → i ≤ j → j < used s (cell xs) → k < (row s (cell xs) j).key
  above ne = between_above t.asc p.sought (λ h e. never (at_some s t p.sought h e (q.live ne h)) p.absent)

-- it is written at `at`, after rows have moved
module _ (s : Side) (ys : List ℕ) {zs : List ℕ} (at k x : ℕ) (kf : k < modulus) (xf : x < modulus) (h : at < most_levels) (len : length ys ≡ 8 * cells)
    (w : zs ≡ puts widths ys (base s + 32 * at) (values (opened k x))) where
  new_out : Outside (base s + 32 * at) (base s + 32 * at + 32) ys zs
  new_out = rw w (outside_puts (base s + 32 * at) (base s + 32 * at + 32) widths ys (base s + 32 * at) (values (opened k x)) (omega arith) (omega arith))

  new_here : row s (cell zs) at ≡ opened k x
  unfolding read
  new_here =
      sym (row_at s zs at) ∙ ap (λ vs. read vs (base s + 32 * at)) w
      ∙ ap made (gets_puts widths ys (base s + 32 * at) (values (opened k x)) (kf, (xf, (omega arith, tt))) (omega (arith, base_fits s)))

  new_other : (j : ℕ) → (j ≡ at → ⊥) → row s (cell zs) j ≡ row s (cell ys) j
  new_other j ne = sym (row_at s zs j) ∙ row_other read_local (base s) at new_out j ne ∙ row_at s ys j

module _ (s : Side) {xs : List ℕ} (ys : List ℕ) {zs : List ℕ} {k i d : ℕ} (p : Place s xs k i) (q : Free s xs i d) (r : i ≤ d) (x : ℕ) (kf : k < modulus) (xf : x < modulus)
    (o : Opened (base s) 32 d i xs ys) (w : zs ≡ puts widths ys (base s + 32 * i) (values (opened k x))) where
  up_len : length ys ≡ 8 * cells
  up_len = o.frame.len ∙ p.table.holds

  up_here : row s (cell zs) i ≡ opened k x
  up_here = new_here s ys i k x kf xf (omega (arith, r, q.fits)) up_len w

  up_gap : Gap (row s (cell xs)) (row s (cell zs)) d i
  up_gap = rw (rows_at s xs, rows_at s zs) at (opened_gap read_local (base s) o (new_out s ys i k x kf xf (omega (arith, r, q.fits)) up_len w))

  up_out : Outside (base s) (base s + 16384) xs zs
  up_out =
      outside_trans (outside_wider (base s) (base s + 16384) (omega arith) (omega arith) o.frame)
      (outside_wider (base s) (base s + 16384) (omega arith) (omega (arith, r, q.fits)) (new_out s ys i k x kf xf (omega (arith, r, q.fits)) up_len w))

  up_same : (j : ℕ) → d < j → j < used s (cell xs) → row s (cell zs) j ≡ row s (cell xs) j
  up_same j h l =
      new_other s ys i k x kf xf (omega (arith, r, q.fits)) up_len w j (λ e. omega (arith, r, q.fits))
      ∙ sym (row_at s ys j) ∙ local_outside read_local (base s + 32 * j) o.frame (inr (omega arith)) ∙ row_at s xs j

  up_first : Ascends key (row s (cell zs)) (d + 1)
  up_first =
      ascends_open key up_gap (λ a b u v. p.table.asc a b u (omega (arith, q.to))) (λ j h. rw (ap key up_here) (p.sought.below j h))
      (λ j h l. rw (ap key up_here) (above s p q (λ e. omega arith) j h (omega (arith, q.to))))

  up_cross : d < used s (cell xs) → (a j : ℕ) → a < d + 1 → d + 1 ≤ j → j < used s (cell xs) → (row s (cell zs) a).key < (row s (cell xs) j).key
  up_cross h a j l m n =
      ⊎_elim
      (λ (b : a < i). omega (arith, ap key (up_gap.before a b), p.table.asc a j (omega arith) n))
      (λ (b : i ≤ a).
      ⊎_elim
      (λ (e : i ≡ a).
      let f : (row s (cell zs) a).key ≡ k = ap (λ y. (row s (cell zs) y).key) (sym e) ∙ ap key up_here in
      omega (arith, f, p.sought.above d r h, p.table.asc d j (omega arith) n))
      (λ (c : i < a).
      let e : a ≡ a - 1 + 1 = omega arith in
      let f : (row s (cell zs) a).key ≡ (row s (cell xs) (a - 1)).key = ap (λ y. (row s (cell zs) y).key) e ∙ ap key (up_gap.behind (a - 1) (omega arith) (omega arith)) in
      omega (arith, f, p.table.asc (a - 1) j (omega arith) n))
      (eq-or-lt_of_le b))
      (lt_or_le a i)

  -- the rows from i up to d are live, and so were those before d
  up_live : (j : ℕ) → i ≤ j → j ≤ d → 0 < (row s (cell zs) j).orders
  up_live j h l =
      ⊎_elim
      (λ (e : i ≡ j). omega (arith, ap (λ y. (row s (cell zs) y).orders) (sym e), ap orders up_here))
      (λ (g : i < j).
      let e : j ≡ j - 1 + 1 = omega arith in
      let f : (row s (cell zs) j).orders ≡ (row s (cell xs) (j - 1)).orders = ap (λ y. (row s (cell zs) y).orders) e ∙ ap orders (up_gap.behind (j - 1) (omega arith) (omega arith)) in
      omega (arith, f, q.up (j - 1) (omega arith) (omega arith)))
      (eq-or-lt_of_le h)

  up_new : 0 < (row s (cell zs) d).orders
  up_new = up_live d r (omega arith)

  up_alike : (j : ℕ) → (d < j → j < used s (cell xs)) → (j ≡ d → ⊥) → Alike (row s (cell xs)) (row s (cell zs)) j
  up_alike j h ne =
      ⊎_elim
      (λ (l : j < i). inl (ap orders (up_gap.before j l)))
      (λ (l : i ≤ j).
      ⊎_elim
      (λ (b : j < d). inr (up_live j l (omega arith), q.up j l b))
      (λ (b : d ≤ j). let g : d < j = omega (arith, ne) in inl (ap orders (up_same j g (h g))))
      (lt_or_le j d))
      (lt_or_le j i)

  up_did : {us : List ℕ} (n v : ℕ) → n ≡ used s (cell xs) → v ≡ size s (cell xs) → Recounted s zs us (grown n d) (v + 1) d 1 → Did s xs us (insert key (opened k x) (entries s (cell xs)))
  unfolding entries
  up_did n v n_is v_is c =
      ⊎_elim
      (λ (h : d < used s (cell xs)).
      let asc : Ascends key (row s (cell zs)) (used s (cell xs)) =
      ascends_join key (row s (cell xs)) (row s (cell zs)) (d + 1) (used s (cell xs)) up_first p.table.asc (λ j g l. up_same j (omega arith) l) (up_cross h) in
      recounted_did s p.table (used s (cell xs)) (size s (cell xs) + 1) d 1 up_out (rw (n_is, v_is, lt-ltb d (used s (cell xs)) h) at c) p.table.few asc
      (live_over orders key up_gap h (q.dead h) up_same asc new ∙ ap (λ y. insert key y (entries s (cell xs))) up_here) many
      (level_live (row s (cell zs)) (used s (cell xs)) d h up_new)
      (λ j g ne. levels_alike (row s (cell xs)) (row s (cell zs)) (used s (cell xs)) j (λ l. up_alike j (λ _. l) ne)))
      (λ (h : used s (cell xs) ≤ d).
      let e : d ≡ used s (cell xs) = omega (arith, q.to) in
      recounted_did s p.table (d + 1) (size s (cell xs) + 1) d 1 up_out (rw (n_is, v_is, le-ltb d (used s (cell xs)) h) at c) (omega arith) up_first
      (live_insert orders key up_gap up_first new ∙ ap₂ (λ (y : Row) m. insert key y (live orders (row s (cell xs)) m)) up_here e) many
      (level_live (row s (cell zs)) (d + 1) d (omega arith) up_new)
      (λ j g ne.
      ⊎_elim
      (λ (l : j < used s (cell xs)).
      level_inside (row s (cell zs)) (d + 1) (used s (cell xs)) j (omega arith) l
      ∙ levels_alike (row s (cell xs)) (row s (cell zs)) (used s (cell xs)) j (λ l. up_alike j (λ m. absurd (omega arith)) ne))
      (λ l. level_unused (row s (cell zs)) (d + 1) j (omega (arith, ne)) ∙ sym (level_unused (row s (cell xs)) (used s (cell xs)) j l))
      (lt_or_le j (used s (cell xs)))))
      (lt_or_le d (used s (cell xs)))
    where
      new : 0 < (row s (cell zs) i).orders
      new = omega (arith, ap orders up_here)

      many : size s (cell xs) + 1 ≡ length (insert key (opened k x) (entries s (cell xs)))
      many = omega (arith, p.table.counted, insert_length key (opened k x) (entries s (cell xs)))

module _ (s : Side) {xs : List ℕ} (ys : List ℕ) {zs : List ℕ} {k i d : ℕ} (p : Place s xs k i) (q : Free s xs i d) (h : d < i) (x : ℕ)
    (kf : k < modulus) (xf : x < modulus) (o : Closed (base s) 32 i d xs ys) (w : zs ≡ puts widths ys (base s + 32 * (i - 1)) (values (opened k x))) where
  in_use : i ≤ used s (cell xs)
  in_use = p.sought.top

  down_len : length ys ≡ 8 * cells
  down_len = o.frame.len ∙ p.table.holds

  few_rows : i - 1 < most_levels
  few_rows = omega (arith, in_use, p.table.few)

  down_here : row s (cell zs) (i - 1) ≡ opened k x
  down_here = new_here s ys (i - 1) k x kf xf few_rows down_len w

  down_other : (j : ℕ) → (j ≡ i - 1 → ⊥) → row s (cell zs) j ≡ row s (cell ys) j
  down_other = new_other s ys (i - 1) k x kf xf few_rows down_len w

  down_gap : Gap (row s (cell zs)) (row s (cell xs)) (i - 1) d
  down_gap =
      let m : i ≡ i - 1 + 1 = omega arith in
      let g : Gap (row s (cell ys)) (row s (cell xs)) (i - 1) d = rw (rows_at s xs, rows_at s ys) at (closed_gap read_local (base s) (i - 1) m o) in
      record {
        inside = g.inside;
        before = λ j l. g.before j l ∙ sym (down_other j (λ e. omega arith));
        behind = λ j l b. g.behind j l b ∙ sym (down_other j (λ e. omega arith));
      }

  down_out : Outside (base s) (base s + 16384) xs zs
  down_out =
      outside_trans (outside_wider (base s) (base s + 16384) (omega arith) (omega (arith, few_rows)) o.frame)
      (outside_wider (base s) (base s + 16384) (omega arith) (omega (arith, few_rows)) (new_out s ys (i - 1) k x kf xf few_rows down_len w))

  down_same : (j : ℕ) → i - 1 < j → j < used s (cell xs) → row s (cell zs) j ≡ row s (cell xs) j
  down_same j b l =
      down_other j (λ e. omega arith) ∙ sym (row_at s ys j) ∙ local_outside read_local (base s + 32 * j) o.frame (inr (omega arith)) ∙ row_at s xs j

  -- a row before the new one was before its place
  down_low : (j : ℕ) → j < i - 1 → (c : ℕ) → ((b : ℕ) → b < i → (row s (cell xs) b).key < c) → (row s (cell zs) j).key < c
  down_low j l c below =
      ⊎_elim
      (λ (b : j < d). omega (arith, ap key (down_gap.before j b), below j (omega arith)))
      (λ (b : d ≤ j). omega (arith, ap key (down_gap.behind j b l), below (j + 1) (omega arith)))
      (lt_or_le j d)

  down_first : Ascends key (row s (cell zs)) (i - 1 + 1)
  down_first =
      ascends_open key (gap_end key (row s (cell zs)) (row s (cell zs)) (i - 1) (λ j l. refl))
      (ascends_close key down_gap (λ a b u v. p.table.asc a b u (omega (arith, in_use))))
      (λ j l. rw (ap key down_here) (down_low j l k p.sought.below))
      (λ j b l. absurd (omega arith))

  down_asc : Ascends key (row s (cell zs)) (used s (cell xs))
  down_asc =
      ascends_join key (row s (cell xs)) (row s (cell zs)) (i - 1 + 1) (used s (cell xs)) down_first p.table.asc (λ j b l. down_same j (omega arith) l)
      (λ a j l m n.
      ⊎_elim
      (λ (b : a < i - 1). down_low a b (row s (cell xs) j).key (λ c e. p.table.asc c j (omega arith) n))
      (λ (b : i - 1 ≤ a).
      let e : a ≡ i - 1 = omega arith in
      let f : (row s (cell zs) a).key ≡ k = ap (λ y. (row s (cell zs) y).key) e ∙ ap key down_here in
      omega (arith, f, above s p q (λ e. omega arith) j (omega arith) n))
      (lt_or_le a (i - 1)))

  -- the rows from d up to i are live, and so were those behind d
  down_live : (j : ℕ) → d ≤ j → j < i → 0 < (row s (cell zs) j).orders
  down_live j l b =
      ⊎_elim
      (λ (g : j < i - 1). omega (arith, ap orders (down_gap.behind j l g), q.down (j + 1) (omega arith) (omega arith)))
      (λ (g : i - 1 ≤ j). let e : j ≡ i - 1 = omega arith in omega (arith, ap (λ y. (row s (cell zs) y).orders) e, ap orders down_here))
      (lt_or_le j (i - 1))

  down_alike : (j : ℕ) → j < used s (cell xs) → (j ≡ d → ⊥) → Alike (row s (cell xs)) (row s (cell zs)) j
  down_alike j g ne =
      ⊎_elim
      (λ (l : j < d). inl (ap orders (sym (down_gap.before j l))))
      (λ (l : d ≤ j).
      ⊎_elim
      (λ (b : j < i). inr (down_live j l b, q.down j (omega (arith, ne)) b))
      (λ (b : i ≤ j). inl (ap orders (down_same j (omega arith) g)))
      (lt_or_le j i))
      (lt_or_le j d)

  down_did : {us : List ℕ} (n v : ℕ) → n ≡ used s (cell xs) → v ≡ size s (cell xs) → Recounted s zs us n (v + 1) d 1 → Did s xs us (insert key (opened k x) (entries s (cell xs)))
  unfolding entries
  down_did n v n_is v_is c =
      recounted_did s p.table (used s (cell xs)) (size s (cell xs) + 1) d 1 down_out (rw (n_is, v_is) at c) p.table.few down_asc
      (live_under orders key down_gap (omega (arith, in_use)) (q.dead (omega (arith, in_use))) down_same p.table.asc down_asc (omega (arith, ap orders down_here))
      ∙ ap (λ y. insert key y (entries s (cell xs))) down_here)
      (omega (arith, p.table.counted, insert_length key (opened k x) (entries s (cell xs))))
      (level_live (row s (cell zs)) (used s (cell xs)) d (omega (arith, in_use)) (down_live d (omega arith) h))
      (λ j g ne. levels_alike (row s (cell xs)) (row s (cell zs)) (used s (cell xs)) j (λ l. down_alike j l ne))

-- ---- the functions, one law for each way

module _ (s : Side) (xs : List ℕ) where
  pub read_is : (i b x y z : ℕ) → b ≡ base s → x ≡ le 8 xs (b + 32 * i) → y ≡ le 8 xs (b + 32 * i + 8) → z ≡ le 8 xs (b + 32 * i + 8 + 8) →
      ◌≡◌ {A = Row} (record { key = x; qty = y; orders = z }) (row s (cell xs) i)
  unfolding read
  read_is i b x y z e p q r = rw (p, q, r, e) (row_at s xs i)

  pub write_is : {ys zs us : List ℕ} (i b x y z : ℕ) → b ≡ base s → ys ≡ put 8 xs (b + 32 * i) x → zs ≡ put 8 ys (b + 32 * i + 8) y → us ≡ put 8 zs (b + 32 * i + 8 + 8) z →
      us ≡ puts widths xs (base s + 32 * i) (x ∷ y ∷ z ∷ [])
  write_is i b x y z e p q r = rw (r, q, p, e) refl

  pub used_is : (n k : ℕ) → k ≡ used_cell s → n ≡ cell xs C.header 0 k → n ≡ used s (cell xs)
  unfolding used
  used_is n k e p = p ∙ ap (cell xs C.header 0) e

  pub size_is : (n k : ℕ) → k ≡ size_cell s → n ≡ cell xs C.header 0 k → n ≡ size s (cell xs)
  unfolding size
  size_is n k e p = p ∙ ap (cell xs C.header 0) e

  module _ {ys zs us : List ℕ} (u v j k b d x : ℕ) (h : Holds xs) (few : d < most_levels) (one : x ≤ 1) (e : j ≡ used_cell s) (f : k ≡ size_cell s) (g : b ≡ map_block s)
      (p : Set xs ys C.header 0 j u) (q : Set ys zs C.header 0 k v) (r : Is us (put_bit b d x (cell zs))) where
    set_used : ys ≡ store xs C.header 0 (used_cell s) u
    set_used = rw e at p.exact

    set_size : zs ≡ store ys C.header 0 (size_cell s) v
    set_size = rw f at q.exact

    set_bit : Is us (put_bit (map_block s) d x (cell zs))
    set_bit = rw g at r

    counts_only : (c i n : ℕ) → Cell c i n → Other s c n → cell zs c i n ≡ cell xs c i n
    counts_only c i n z o =
        ap (λ vs. cell vs c i n) set_size ∙ cell_other ys v (size_place s) z (λ x _ y. o.1 (sym x) (sym y))
        ∙ ap (λ vs. cell vs c i n) set_used ∙ cell_other xs u (used_place s) z (λ x _ y. o.0 (sym x) (sym y))

    bit_only : (c i n : ℕ) → Cell c i n → (c ≡ map_block s → ⊥) → cell us c i n ≡ cell zs c i n
    bit_only c i n z ne = set_bit.same c i n z ∙ ap (λ w. w i n) (put_block (map_block s) d x (cell zs) c ne)

    bits_put : (i : ℕ) → i < most_levels → bits s (cell us) i ≡ bits s (put_bit (map_block s) d x (cell zs)) i
    bits_put i l = same_bit (map_block s) (cell us) (put_bit (map_block s) d x (cell zs)) i (set_bit.same (map_block s) (i / 64) 0 (map_cell s i l))

    bits_before : (i : ℕ) → i < most_levels → bits s (cell zs) i ≡ bits s (cell xs) i
    bits_before i l =
        same_bit (map_block s) (cell zs) (cell xs) i
        (counts_only (map_block s) (i / 64) 0 (map_cell s i l) (λ z _. map_not_header s z, λ z _. map_not_header s z))

    pub recount_is : Recounted s xs us u v d x
    unfolding used size
    recount_is =
        record {
          holds = set_bit.holds;
          used_is =
              bit_only C.header 0 (used_cell s) (used_place s) (λ z. map_not_header s (sym z))
              ∙ ap (λ vs. cell vs C.header 0 (used_cell s)) set_size ∙ cell_other ys v (size_place s) (used_place s) (λ _ _ e. apart s (sym e))
              ∙ ap (λ vs. cell vs C.header 0 (used_cell s)) set_used ∙ cell_same xs u (used_place s) h p.fits;
          size_is =
              bit_only C.header 0 (size_cell s) (size_place s) (λ z. map_not_header s (sym z))
              ∙ ap (λ vs. cell vs C.header 0 (size_cell s)) set_size ∙ cell_same ys v (size_place s) p.holds q.fits;
          bit_is = bits_put d few ∙ put_same (map_block s) d x (cell zs) one;
          bits_are = λ i l ne. bits_put i l ∙ put_other (map_block s) i d x (cell zs) one ne ∙ bits_before i l;
          kept = λ c i n z ne o. bit_only c i n z ne ∙ counts_only c i n z o;
        }

  pub sorted_at : (b n : ℕ) → Table s xs → n ≡ used s (cell xs) → b ≡ base s → Sorted b 32 n xs
  sorted_at b n t e h = rw h (sorted s xs t e)

  pub sought_is : (b n k i : ℕ) → n ≡ used s (cell xs) → b ≡ base s → Between (key_at b 32 xs) n k i i → Sought s xs k i
  sought_is b n k i e h p = rw (← e) (subst (λ ks. Between ks n k i i) (keys_at s xs) (rw h at p))

module _ (s : Side) {xs : List ℕ} (t : Table s xs) where
  pub past_is : (k i n : ℕ) → Sought s xs k i → n ≡ used s (cell xs) → n ≤ i → look key k (entries s (cell xs)) ≡ None
  past_is k i n b e h = at_none s t b (λ l q. absurd (omega arith))

  pub here_is : (k i n : ℕ) (r : Row) → Sought s xs k i → n ≡ used s (cell xs) → i < n → r ≡ row s (cell xs) i → r.key ≡ k → IsAt s xs i k (not (eqb r.orders 0))
  here_is k i n r b e h q w =
      ⊎_elim
      (λ (z : r.orders ≡ 0). rw (eq-eqb r.orders 0 z) (at_none s t b (λ _ _. ap orders (sym q) ∙ z)))
      (λ (z : r.orders ≡ 0 → ⊥).
      let l : 0 < (row s (cell xs) i).orders = omega (arith, z, ap orders q) in
      rw (ne_eqb r.orders 0 z) (omega arith, at_some s t b (omega arith) (ap key (sym q) ∙ w) l, l))
      (same? r.orders 0)

  pub not_here_is : (k i : ℕ) (r : Row) → Sought s xs k i → r ≡ row s (cell xs) i → (r.key ≡ k → ⊥) → look key k (entries s (cell xs)) ≡ None
  not_here_is k i r b q w = at_none s t b (λ l e. absurd (w (ap key q ∙ e)))

  -- whether a row is the first one whose key is not below k
  pub low_is : (k i n : ℕ) (r : Row) → n ≡ used s (cell xs) → i < n → r ≡ row s (cell xs) i → r.key < k → IsFirst s xs k i false
  low_is k i n r e h q w b = omega (arith, b.above i (omega arith) (omega arith), ap key q)

  module _ (k i : ℕ) (h : i ≤ used s (cell xs)) (a : i < used s (cell xs) → k ≤ (row s (cell xs) i).key) where
    above_is : (j : ℕ) → i ≤ j → j < used s (cell xs) → k ≤ (row s (cell xs) j).key
    above_is j g l =
        ⊎_elim (λ (q : i < j). omega (arith, a (omega arith), t.asc i j q l))
        (λ q. let e : i ≡ j = omega arith in rw e at (a (omega arith))) (lt_or_le i j)

    pub first_is : i ≡ 0 → Sought s xs k i
    first_is z = record { inside = omega arith; top = h; below = λ j l. absurd (omega arith); above = above_is }

    pub after_is : (r : Row) → (i ≡ 0 → ⊥) → r ≡ row s (cell xs) (i - 1) → IsFirst s xs k i (ltb r.key k)
    after_is r z q =
        ⊎_elim
        (λ (w : r.key < k). rw (lt-ltb r.key k w) (record { inside = omega arith; top = h; below = below_is w; above = above_is }))
        (λ w. rw (le-ltb r.key k w) (λ b. omega (arith, b.below (i - 1) (omega arith), w, ap key q)))
        (lt_or_le r.key k)
      where
        below_is : r.key < k → (j : ℕ) → j < i → (row s (cell xs) j).key < k
        below_is w j l =
            ⊎_elim (λ (g : j < i - 1). omega (arith, t.asc j (i - 1) g (omega arith), w, ap key q))
            (λ (g : i - 1 ≤ j). let e : j ≡ i - 1 = omega arith in rw e (omega (arith, w, ap key q))) (lt_or_le j (i - 1))

  -- the row that bears k is that one
  pub bears_is : (k i n : ℕ) (r : Row) → n ≡ used s (cell xs) → i < n → r ≡ row s (cell xs) i → r.key ≡ k → Sought s xs k i
  bears_is k i n r e h q w =
      record {
        inside = omega arith;
        top = omega arith;
        below = λ j l. omega (arith, t.asc j i l (omega arith), w, ap key q);
        above = above_is k i (omega arith) (λ _. omega (arith, w, ap key q));
      }

  pub join_is : {ys : List ℕ} (i v : ℕ) (r : Row) → i < used s (cell xs) → 0 < (row s (cell xs) i).orders → Joins v (row s (cell xs) i) → r ≡ row s (cell xs) i → r.key < modulus →
      ys ≡ puts widths xs (base s + 32 * i) (r.key ∷ (r.qty + v) ∷ (r.orders + 1) ∷ []) → Did s xs ys (replace key (one_more v (row s (cell xs) i)) (entries s (cell xs)))
  join_is {ys} i v r h l j e f w =
      let q = ap (λ (x : Row). x.qty) e in
      let o = ap (λ (x : Row). x.orders) e in
      subst (λ x. Did s xs ys (replace key (one_more v x) (entries s (cell xs)))) e
      (replace_did s t i (one_more v r) h (f, (omega (arith, j.0), (omega (arith, j.1), tt))) w l (omega arith) (ap key e))

  -- the level is there, so it is in the row that was sought
  pub there : (P : Option Row → Type 0) (k i : ℕ) → Sought s xs k i → (P None → ⊥) → P (look key k (entries s (cell xs))) →
      (i < used s (cell xs)) × ((row s (cell xs) i).key ≡ k) × (0 < (row s (cell xs) i).orders) × P (Some (row s (cell xs) i))
  there P k i b not p =
      ⊎_elim
      (λ (h : i < used s (cell xs)).
      ⊎_elim
      (λ (e : (row s (cell xs) i).key ≡ k).
      ⊎_elim
      (λ (z : (row s (cell xs) i).orders ≡ 0). absurd (not (rw (at_none s t b (λ _ _. z)) at p)))
      (λ (z : (row s (cell xs) i).orders ≡ 0 → ⊥).
      let l : 0 < (row s (cell xs) i).orders = omega (arith, z) in
      (h, e, l, rw (at_some s t b h e l) at p))
      (same? (row s (cell xs) i).orders 0))
      (λ ne. absurd (not (rw (at_none s t b (λ l e. absurd (ne e))) at p)))
      (same? (row s (cell xs) i).key k))
      (λ h. absurd (not (rw (at_none s t b (λ l e. absurd (omega arith))) at p)))
      (lt_or_le i (used s (cell xs)))

  pub show_in : (k i v w : ℕ) → Sought s xs k i → CanShow v w (look key k (entries s (cell xs))) → (i < used s (cell xs)) × ((row s (cell xs) i).key ≡ k) × (0 < (row s (cell xs) i).orders) × CanShow v w (Some (row s (cell xs) i))
  show_in k i v w b p = there (CanShow v w) k i b (λ x. x) p

  pub show_is : {ys : List ℕ} (k i v w : ℕ) (r : Row) → CanShow v w (look key k (entries s (cell xs))) → Sought s xs k i → r ≡ row s (cell xs) i → r.key < modulus → r.qty < modulus → r.orders < modulus →
      ys ≡ puts widths xs (base s + 32 * i) (r.key ∷ (r.qty - v + w) ∷ r.orders ∷ []) → Did s xs ys (shown k v w (entries s (cell xs)))
  show_is {ys} k i v w r p b e f c g u =
      let h = show_in k i v w b p in
      let q = ap (λ (x : Row). x.qty) e in
      rw (at_some s t b h.0 h.1 h.2)
      (subst (λ x. Did s xs ys (replace key (changed v w x) (entries s (cell xs)))) e
      (replace_did s t i (changed v w r) h.0 (f, (omega (arith, h.3.1 (rw (← q) c)), (g, tt))) u h.2 (omega (arith, h.2, ap orders e)) (ap key e)))

  pub remove_in : (k i v : ℕ) → Sought s xs k i → CanRemove v (look key k (entries s (cell xs))) → (i < used s (cell xs)) × ((row s (cell xs) i).key ≡ k) × (0 < (row s (cell xs) i).orders) × CanRemove v (Some (row s (cell xs) i))
  remove_in k i v b p = there (CanRemove v) k i b (λ x. x) p

  pub remove_last_is : {ys : List ℕ} (k i v : ℕ) (r : Row) → CanRemove v (look key k (entries s (cell xs))) → Sought s xs k i → r ≡ row s (cell xs) i → r.orders ≡ 1 →
      Did s xs ys (without key k (entries s (cell xs))) → Did s xs ys (removed k v (entries s (cell xs)))
  remove_last_is {ys} k i v r p b e one d =
      let h = remove_in k i v b p in
      rw (at_some s t b h.0 h.1 h.2, eq-eqb (row s (cell xs) i).orders 1 (ap orders (sym e) ∙ one)) d

  pub remove_one_is : {ys : List ℕ} (k i v : ℕ) (r : Row) → CanRemove v (look key k (entries s (cell xs))) → Sought s xs k i → r ≡ row s (cell xs) i → (r.orders ≡ 1 → ⊥) →
      r.key < modulus → r.qty < modulus → r.orders < modulus →
      ys ≡ puts widths xs (base s + 32 * i) (r.key ∷ (r.qty - v) ∷ (r.orders - 1) ∷ []) → Did s xs ys (removed k v (entries s (cell xs)))
  remove_one_is {ys} k i v r p b e more f g o u =
      let h = remove_in k i v b p in
      rw (at_some s t b h.0 h.1 h.2, ne_eqb (row s (cell xs) i).orders 1 (λ q. more (ap orders e ∙ q)))
      (subst (λ x. Did s xs ys (replace key (one_less v x) (entries s (cell xs)))) e
      (replace_did s t i (one_less v r) h.0 (f, (omega arith, (omega arith, tt))) u h.2 (omega (arith, more, h.2, ap orders e)) (ap key e)))

  pub add_join_is : {ys : List ℕ} (k i v : ℕ) → look key k (entries s (cell xs)) ≡ Some (row s (cell xs) i) → Did s xs ys (replace key (one_more v (row s (cell xs) i)) (entries s (cell xs))) →
      Did s xs ys (added k v (entries s (cell xs)))
  add_join_is k i v e d = rw e d

  pub add_new_is : {ys : List ℕ} (k v : ℕ) → look key k (entries s (cell xs)) ≡ None → Did s xs ys (insert key (opened k v) (entries s (cell xs))) → Did s xs ys (added k v (entries s (cell xs)))
  add_new_is k v e d = rw e d

  pub join_in : (k i n v : ℕ) → CanAdd n v (look key k (entries s (cell xs))) → IsAt s xs i k true → Joins v (row s (cell xs) i)
  join_in k i n v p a = rw a.1 at p

  -- ---- a level comes or goes

  pub size_few : size s (cell xs) ≤ used s (cell xs)
  unfolding entries
  size_few = omega (arith, t.counted, live_few orders (row s (cell xs)) (used s (cell xs)))

  pub take_out_is : {ys zs : List ℕ} (i k u v : ℕ) → i < used s (cell xs) → 0 < (row s (cell xs) i).orders → k ≡ (row s (cell xs) i).key → k < modulus →
      u ≡ used s (cell xs) → v ≡ size s (cell xs) → ys ≡ puts widths xs (base s + 32 * i) (k ∷ 0 ∷ 0 ∷ []) → Recounted s ys zs u (v - 1) i 0 → Did s xs zs (without key k (entries s (cell xs)))
  take_out_is i k u v h l e f u_is v_is w c =
      struck_did s t i (record { key = k; qty = 0; orders = 0 }) h (f, (omega arith, (omega arith, tt))) w u v l refl e u_is v_is c

  pub some_level : (i : ℕ) → i < used s (cell xs) → 0 < (row s (cell xs) i).orders → 0 < size s (cell xs)
  unfolding entries
  some_level i h l = omega (arith, t.counted, live_some orders (row s (cell xs)) i (used s (cell xs)) h l)

  pub place_is : (k i v : ℕ) → CanAdd (size s (cell xs)) v (look key k (entries s (cell xs))) → Sought s xs k i → look key k (entries s (cell xs)) ≡ None → Place s xs k i
  place_is k i v p b a = record { table = t; room = rw a at p; sought = b; absent = a }

-- ---- the nearest dead row, by the map

side_map : (s : Side) → Map (map_block s) most_levels
side_map Buy = record { block_is = omega arith; wide = omega arith; size = refl }
side_map Sell = record { block_is = omega arith; wide = omega arith; size = refl }

pub map_has : (s : Side) (b : ℕ) → b ≡ map_block s → Map b most_levels
map_has s b e = rw e (side_map s)

pub map_of_cell : (s : Side) (b j : ℕ) → b ≡ map_block s → j < most_levels → Cell b (j / 64) 0
map_of_cell s b j e h = rw e (map_cell s j h)

pub free_is : (s : Side) {xs : List ℕ} (b i d : ℕ) → Table s xs → i ≤ used s (cell xs) → size s (cell xs) < most_levels → b ≡ map_block s → Nearest b (cell xs) most_levels i d → Free s xs i d
unfolding entries
free_is s {xs} b i d t h few e f =
    record {
      to = ⊎_elim (λ (l : used s (cell xs) < d). absurd (omega (arith, (taken (used s (cell xs)) (omega (arith, n.to)) (near_up small n (used s (cell xs)) h l)).0))) (λ l. l) (lt_or_le (used s (cell xs)) d);
      fits = fits;
      dead = λ l. level_free (row s (cell xs)) (used s (cell xs)) d l (sym (t.mapped.bits d fits) ∙ n.free fits);
      up = λ j a l. (taken j (omega arith) (near_up small n j a l)).1;
      down = λ j a l. (taken j (omega (arith, t.few)) (near_down small n j a l)).1;
      live = λ ne l. (taken i (omega (arith, t.few)) (near_here small n ne (omega (arith, t.few)))).1;
    }
  where
    n : Nearest (map_block s) (cell xs) most_levels i d
    n = rw e at f

    small : i ≤ most_levels
    small = omega (arith, t.few)

    taken : (j : ℕ) → j < most_levels → bits s (cell xs) j ≡ 1 → (j < used s (cell xs)) × (0 < (row s (cell xs) j).orders)
    taken j l q = level_taken (row s (cell xs)) (used s (cell xs)) j (sym (t.mapped.bits j l) ∙ q)

    -- where all rows are taken there are as many levels
    full : d ≡ most_levels → ⊥
    full q =
        let many : most_levels ≤ used s (cell xs) = omega (arith, (taken 511 (omega arith) (n.full q 511 (omega arith) (omega arith))).0) in
        let length_is = live_all orders (row s (cell xs)) (used s (cell xs)) (λ j l. (taken j (omega (arith, t.few)) (n.full q j (omega arith) (omega (arith, t.few)))).1) in
        omega (arith, t.counted, length_is)

    fits : d < most_levels
    fits = ⊎_elim (λ (l : d < most_levels). l) (λ l. absurd (full (omega (arith, n.to)))) (lt_or_le d most_levels)

pub grown_in : (n d : ℕ) → d < n → n ≡ grown n d
grown_in n d h = rw (lt-ltb d n h) refl

pub grown_behind : (n d : ℕ) → n ≤ d → d + 1 ≡ grown n d
grown_behind n d h = rw (le-ltb d n h) refl

pub put_up_is : (s : Side) {xs : List ℕ} (ys : List ℕ) {zs us : List ℕ} (n g v b i d k x : ℕ) → Place s xs k i → Free s xs i d → i ≤ d → k < modulus → x < modulus →
    n ≡ used s (cell xs) → v ≡ size s (cell xs) → b ≡ base s → Opened b 32 d i xs ys → zs ≡ puts widths ys (base s + 32 * i) (values (opened k x)) → g ≡ grown n d → Recounted s zs us g (v + 1) d 1 →
    Did s xs us (insert key (opened k x) (entries s (cell xs)))
put_up_is s ys n g v b i d k x p q r kf xf n_is v_is e o w g_is c = up_did s ys p q r x kf xf (rw e at o) w n v n_is v_is (rw g_is at c)

pub put_down_is : (s : Side) {xs : List ℕ} (ys : List ℕ) {zs us : List ℕ} (n v b i d k x : ℕ) → Place s xs k i → Free s xs i d → d < i → k < modulus → x < modulus →
    n ≡ used s (cell xs) → v ≡ size s (cell xs) → b ≡ base s → Closed b 32 i d xs ys → zs ≡ puts widths ys (base s + 32 * (i - 1)) (values (opened k x)) → Recounted s zs us n (v + 1) d 1 →
    Did s xs us (insert key (opened k x) (entries s (cell xs)))
put_down_is s ys n v b i d k x p q h kf xf n_is v_is e o w c = down_did s ys p q h x kf xf (rw e at o) w n v n_is v_is c

-- no rows
pub no_levels : (z : Side) (s : Store) → ((j : ℕ) → j < most_levels → bits z s j ≡ 0) → Mapped (map_block z) most_levels s (is_level (row z s) 0)
no_levels z s e = record { bits = λ j h. e j h ∙ sym (level_unused (row z s) 0 j (omega arith)) }

pub ruleset laws = (read_is, write_is, used_is, size_is, recount_is, sorted_at, sought_is, past_is, here_is, not_here_is, low_is, bears_is, join_is, show_is, remove_last_is, remove_one_is, add_join_is, add_new_is, take_out_is, some_level, size_few, map_of_cell, map_has, free_is, grown_in, grown_behind, put_up_is, put_down_is, arith)
