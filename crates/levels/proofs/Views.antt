-- The levels are a cache: what changes them leaves the gateway that the cells hold, and the other side's levels. Assumes nothing.
use mathlib.Core.Path.{◌≡◌, refl, sym, ap, ◌∙◌}
use mathlib.Core.Bool.{Bool, true, false, cond, ◌&&◌, ◌||◌, true≢false}
use mathlib.Core.List.{List}
use mathlib.Core.Logic.{inl}
use Prim.Native.Nat.{ℕ, ◌/◌, ◌<◌}
use native.Mathlib.Omega.{arith}
use borrow.Author.Tests.{eq-eqb, eqb-false}
use lib.Dec.{eqb}
use lib.ListN.{length}
use Rattle.orderbook.specs.declared.Side.{Side}
use Rattle.orderbook.specs.declared.Side.TheVariants.{Buy, Sell}
use Rattle.store.specs.Cells as C
use Rattle.store.specs.Layout.{cell, Holds}
use Rattle.store.specs.View.{Store, Same, Bounds, gateway}
use Rattle.store.proofs.Frames.{gateway_same}
use Rattle.table.proofs.Live.{live_ext, ascends_ext}
use Rattle.gateway.specs.Limits.{most_levels}
use Rattle.bitmap.proofs.Laws.{same_bit}
use Rattle.bitmap.proofs.Mapped.{mapped_ext}
use Rattle.levels.specs.declared.Row.{Row}
use Rattle.levels.specs.Levels.{block, map_block, used_cell, size_cell, key, orders, row, used, size, bits, entries, Other, Table, Did}
use Rattle.levels.proofs.Laws.{used_place, size_place, block_cell, map_cell, header_not_block, map_not_header, levels_alike}

-- t with the side's levels of s
abbrev mixed : Side → Store → Store → Store
mixed z s t b i k = cond ((eqb b (block z) || eqb b (map_block z)) || (eqb b C.header && (eqb k (used_cell z) || eqb k (size_cell z)))) (s b i k) (t b i k)

unseen : (z : Side) (s t : Store) → gateway (mixed z s t) ≡ gateway t
unseen Buy s t = refl
unseen Sell s t = refl

either : {A : Type 0} (a b c : Bool) (x y : A) → (a ≡ false → b && c ≡ false → x ≡ y) → x ≡ cond (a || (b && c)) x y
either true b c x y h = refl
either false true true x y h = refl
either false true false x y h = h refl refl
either false false c x y h = h refl refl

neither : (a b : Bool) → a || b ≡ false → (a ≡ false) × (b ≡ false)
neither true b p = absurd (true≢false p)
neither false b p = (refl, p)

both : (a b : Bool) → a ≡ true → b ≡ true → a && b ≡ true
both true true p q = refl
both true false p q = q
both false b p q = p

first : (a b : Bool) → a ≡ true → a || b ≡ true
first true b p = refl
first false true p = refl
first false false p = p

second : (a b : Bool) → b ≡ true → a || b ≡ true
second true b p = refl
second false b p = p

module _ (z : Side) {xs ys : List ℕ} {l : List Row} (d : Did z xs ys l) where
  mixed_same : Same (cell xs) (mixed z (cell xs) (cell ys))
  mixed_same b i k c =
      either (eqb b (block z) || eqb b (map_block z)) (eqb b C.header) (eqb k (used_cell z) || eqb k (size_cell z)) (cell xs b i k) (cell ys b i k)
      (λ p q.
      sym
      (d.kept b i k c (eqb-false b (block z) (neither (eqb b (block z)) (eqb b (map_block z)) p).0) (eqb-false b (map_block z) (neither (eqb b (block z)) (eqb b (map_block z)) p).1) (
        λ e f. true≢false (sym (both (eqb b C.header) (eqb k (used_cell z) || eqb k (size_cell z)) (eq-eqb b C.header e) (first (eqb k (used_cell z)) (eqb k (size_cell z)) (eq-eqb k (used_cell z) f))) ∙ q),
        λ e f. true≢false (sym (both (eqb b C.header) (eqb k (used_cell z) || eqb k (size_cell z)) (eq-eqb b C.header e) (second (eqb k (used_cell z)) (eqb k (size_cell z)) (eq-eqb k (size_cell z) f))) ∙ q),
      )))

  pub levels_view : Bounds (cell xs) → gateway (cell ys) ≡ gateway (cell xs)
  levels_view b = sym (gateway_same (cell xs) (mixed z (cell xs) (cell ys)) b mixed_same ∙ unseen z (cell xs) (cell ys))

-- ---- a table that is left alone

-- t has the side's rows, map and counts of s
pub record Untouched (w : Side) (s t : Store) : Type 0 where
  pub used_is : used w t ≡ used w s
  pub size_is : size w t ≡ size w s
  pub rows_are : (j k : ℕ) → j < most_levels → k < 4 → t (block w) j k ≡ s (block w) j k
  pub map_is : (j : ℕ) → j < most_levels → t (map_block w) (j / 64) C.map_bits ≡ s (map_block w) (j / 64) C.map_bits

module _ (w : Side) (xs ys : List ℕ) (h : Holds ys) (e : Untouched w (cell xs) (cell ys)) (t : Table w xs) where
  row_kept : (j : ℕ) → j < used w (cell xs) → row w (cell ys) j ≡ row w (cell xs) j
  row_kept j l = λ i. record { key = at 0 (omega arith) i; qty = at 1 (omega arith) i; orders = at 2 (omega arith) i }
    where
      at : (k : ℕ) → k < 4 → cell ys (block w) j k ≡ cell xs (block w) j k
      at k q = e.rows_are j k (omega (arith, t.few)) q

  pub entries_kept : entries w (cell ys) ≡ entries w (cell xs)
  unfolding entries
  entries_kept = rw e.used_is (live_ext orders (row w (cell xs)) (row w (cell ys)) (used w (cell xs)) row_kept)

  pub table_kept : Table w ys
  table_kept =
      record {
        holds = h;
        few = rw e.used_is t.few;
        asc = rw e.used_is (ascends_ext key (row w (cell xs)) (row w (cell ys)) (used w (cell xs)) (λ j l. ap key (row_kept j l)) t.asc);
        counted = e.size_is ∙ t.counted ∙ sym (ap length entries_kept);
        mapped = rw e.used_is (mapped_ext (map_block w) most_levels (cell xs) (cell ys) (λ j l. same_bit (map_block w) (cell ys) (cell xs) j (e.map_is j l)) (λ j l. levels_alike (row w (cell xs)) (row w (cell ys)) (used w (cell xs)) j (λ m. inl (ap orders (row_kept j m)))) t.mapped);
      }

-- ---- the other side's

pub record Apart (z w : Side) : Type 0 where
  pub rows : block w ≡ block z → ⊥
  pub rows_map : block w ≡ map_block z → ⊥
  pub map_rows : map_block w ≡ block z → ⊥
  pub maps : map_block w ≡ map_block z → ⊥
  pub used_cells : Other z C.header (used_cell w)
  pub size_cells : Other z C.header (size_cell w)

other_untouched : {z w : Side} {xs ys : List ℕ} {l : List Row} → Did z xs ys l → Apart z w → Untouched w (cell xs) (cell ys)
unfolding used size
other_untouched {z} {w} d n =
    record {
      used_is = d.kept C.header 0 (used_cell w) (used_place w) (header_not_block z) (λ e. map_not_header z (sym e)) n.used_cells;
      size_is = d.kept C.header 0 (size_cell w) (size_place w) (header_not_block z) (λ e. map_not_header z (sym e)) n.size_cells;
      rows_are = λ j k l q. d.kept (block w) j k (block_cell w j k l q) n.rows n.rows_map (λ e _. header_not_block w (sym e), λ e _. header_not_block w (sym e));
      map_is = λ j l. d.kept (map_block w) (j / 64) C.map_bits (map_cell w j l) n.map_rows n.maps (λ e _. map_not_header w e, λ e _. map_not_header w e);
    }

-- a buy leaves the asks, a sell the bids
buys_apart : Apart Buy Sell
buys_apart =
    record {
      rows = λ e. omega arith;
      rows_map = λ e. omega arith;
      map_rows = λ e. omega arith;
      maps = λ e. omega arith;
      used_cells = (λ _ e. omega arith, λ _ e. omega arith);
      size_cells = (λ _ e. omega arith, λ _ e. omega arith);
    }

sells_apart : Apart Sell Buy
sells_apart =
    record {
      rows = λ e. omega arith;
      rows_map = λ e. omega arith;
      map_rows = λ e. omega arith;
      maps = λ e. omega arith;
      used_cells = (λ _ e. omega arith, λ _ e. omega arith);
      size_cells = (λ _ e. omega arith, λ _ e. omega arith);
    }

pub asks_stay : {xs ys : List ℕ} {l : List Row} → Did Buy xs ys l → Table Sell xs → Table Sell ys × (entries Sell (cell ys) ≡ entries Sell (cell xs))
asks_stay {xs} {ys} d t = let e = other_untouched d buys_apart in (table_kept Sell xs ys d.table.holds e t, entries_kept Sell xs ys d.table.holds e t)

pub bids_stay : {xs ys : List ℕ} {l : List Row} → Did Sell xs ys l → Table Buy xs → Table Buy ys × (entries Buy (cell ys) ≡ entries Buy (cell xs))
bids_stay {xs} {ys} d t = let e = other_untouched d sells_apart in (table_kept Buy xs ys d.table.holds e t, entries_kept Buy xs ys d.table.holds e t)
