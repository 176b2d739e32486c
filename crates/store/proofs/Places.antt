-- Cells of the layout do not overlap: a cell keeps its number where another is stored. Assumes nothing.
use mathlib.Core.Path.{◌≡◌, refl}
use mathlib.Core.Logic.{◌⊎◌, inl, inr, ⊎_elim}
use mathlib.Core.Bool.{Bool, true, ◌&&◌, and-eq-true_iff}
use mathlib.Core.List.{List}
use Prim.Native.Nat.{ℕ, zero, suc, ◌+◌, ◌*◌, ◌≤◌, ◌<◌}
use native.Mathlib.Nat.{not-suc-le-zero, le_of_suc-le-suc, eq-or-lt_of_le}
use native.Mathlib.Omega.{arith}
use borrow.Author.Tests.{eqb-true, leb-true}
use lib.Dec.{eqb, leb}
use Rattle.le.specs.Le.{Outside}
use Rattle.le.proofs.Laws.{le_put, le_put_other, le_outside, lt_or_le}
use Rattle.table.proofs.Live.{same?}
use Rattle.table.proofs.Moves.{step}
use Rattle.store.specs.Cells as C
use Rattle.store.specs.Layout.{blocks, cells, rows, width, start, spot, cell, store, Cell, Holds}
use Rattle.words.specs.Words.{modulus}

-- a test that passes for each number below n
abbrev passes : (ℕ → Bool) → ℕ → Bool
passes f zero = true
passes f (suc n) = f n && passes f n

pass_at : (f : ℕ → Bool) (n : ℕ) → passes f n ≡ true → (b : ℕ) → b < n → f b ≡ true
pass_at f zero t b h = absurd (not-suc-le-zero h)
pass_at f (suc n) t b h =
    let u = (and-eq-true_iff (f n) (passes f n)).0 t in
    ⊎_elim (λ (e : b ≡ n). rw e u.0) (λ l. pass_at f n u.1 b l) (eq-or-lt_of_le (le_of_suc-le-suc h))

-- each block ends where the next one starts
ends : (b : ℕ) → b < blocks → start b + width b * rows b ≡ start (suc b)
unfolding start
ends b h = eqb-true _ _ (pass_at (λ c. eqb (start c + width c * rows c) (start (suc c))) blocks refl b h)

pub rows_few : (b : ℕ) → b < blocks → rows b ≤ 4096
rows_few b h = leb-true (rows b) 4096 (pass_at (λ c. leb (rows c) 4096) blocks refl b h)

-- blocks stand in their order
later : (b c : ℕ) → b < c → c ≤ blocks → start (suc b) ≤ start c
later b zero h m = absurd (not-suc-le-zero h)
later b (suc c) h m =
    ⊎_elim (λ (e : b ≡ c). rw e (omega arith)) (λ l. let t = later b c l (omega arith) in omega (arith, ends c (omega arith)))
    (eq-or-lt_of_le (le_of_suc-le-suc h))

module _ {b i k : ℕ} (c : Cell b i k) where
  in_block : (start b ≤ spot b i k) × (spot b i k < start (suc b))
  unfolding spot
  in_block = let t = step (width b) c.row_is in let e = ends b c.block_is in (omega arith, omega (arith, c.cell_is))

  pub spot_below : spot b i k < cells
  unfolding start
  spot_below = let t = in_block.1 in omega (arith, later b blocks c.block_is (omega arith))

-- the same, as the code computes it
pub spot_fits : {b i k : ℕ} → Cell b i k → start b + (width b * i + k) < cells
unfolding spot
spot_fits c = spot_below c

-- another cell
abbrev pub Other : ℕ → ℕ → ℕ → ℕ → ℕ → ℕ → Type 0
Other b i k c j l = (b ≡ c → i ≡ j → k ≡ l → ⊥)

apart : (m n : ℕ) → (m ≡ n → ⊥) → (m < n) ⊎ (n < m)
apart m n h = ⊎_elim (λ l. inl l) (λ l. inr (omega arith)) (lt_or_le m n)

-- two cells of one row, of two rows of one block, and of two blocks
same_row : (b i k l : ℕ) → (k < l) → spot b i k < spot b i l
unfolding spot
same_row b i k l h = omega arith

same_block : {b i k j : ℕ} (l : ℕ) → Cell b i k → i < j → spot b i k < spot b j l
unfolding spot
same_block {b} l c h = let t = step (width b) h in omega (arith, c.cell_is)

two_blocks : {b i k c j l : ℕ} → Cell b i k → Cell c j l → b < c → spot b i k < spot c j l
two_blocks {b} {c = c} p q h = omega (arith, (in_block p).1, (in_block q).0, later b c h (omega (arith, q.block_is)))

-- what changes in the bytes of one block is not seen in another
pub cell_block : (b : ℕ) {xs ys : List ℕ} {d j l : ℕ} → b < blocks → Outside (8 * start b) (8 * start (suc b)) xs ys → Cell d j l → (d ≡ b → ⊥) → cell ys d j l ≡ cell xs d j l
unfolding cell
cell_block b {d = d} {j} {l} h p q ne =
    le_outside 8 (8 * spot d j l) p
    (⊎_elim (λ g. inl (omega (arith, (in_block q).1, later d b g (omega arith)))) (λ g. inr (omega (arith, (in_block q).0, later b d g (omega (arith, q.block_is)))))
    (apart d b ne))

one_side : {b i k c j l : ℕ} → Cell b i k → Cell c j l → Other b i k c j l → (spot b i k < spot c j l) ⊎ (spot c j l < spot b i k)
one_side {b} {i} {k} {c} {j} {l} p q ne =
    ⊎_elim
    (λ (e : b ≡ c).
    ⊎_elim
    (λ (f : i ≡ j).
    ⊎_elim (λ (g : k ≡ l). absurd (ne e f g))
    (λ g. ⊎_elim (λ h. inl (rw (e, f) (same_row c j k l h))) (λ h. inr (rw (e, f) (same_row c j l k h))) (apart k l g)) (same? k l))
    (λ f. ⊎_elim (λ h. inl (rw (← e) (same_block l p h))) (λ h. inr (rw e (same_block k q h))) (apart i j f)) (same? i j))
    (λ e. ⊎_elim (λ h. inl (two_blocks p q h)) (λ h. inr (two_blocks q p h)) (apart b c e))
    (same? b c)

module _ (xs : List ℕ) {b i k : ℕ} (v : ℕ) (c : Cell b i k) where
  -- a cell that was stored is read back
  pub cell_same : Holds xs → v < modulus → cell (store xs b i k v) b i k ≡ v
  unfolding cell store
  cell_same h f = le_put 8 xs (8 * spot b i k) v (omega (arith, spot_below c)) (omega arith)

  -- any other keeps its number
  pub cell_other : {d j l : ℕ} → Cell d j l → Other b i k d j l → cell (store xs b i k v) d j l ≡ cell xs d j l
  unfolding cell store
  cell_other {d} {j} {l} q ne =
      le_put_other 8 (8 * spot d j l) 8 xs (8 * spot b i k) v
      (⊎_elim (λ h. inr (omega arith)) (λ h. inl (omega arith)) (one_side c q ne))

-- ---- the cells of each block

pub header_cell : (k : ℕ) → k < 32 → Cell C.header 0 k
header_cell k l = record { block_is = omega arith; row_is = omega arith; cell_is = l }

pub account_cell : (i k : ℕ) → i < 256 → k < 16 → Cell C.accounts i k
account_cell i k h l = record { block_is = omega arith; row_is = h; cell_is = l }

pub session_cell : (i k : ℕ) → i < 64 → k < 8 → Cell C.sessions i k
session_cell i k h l = record { block_is = omega arith; row_is = h; cell_is = l }

pub command_cell : (i k : ℕ) → i < 256 → k < 12 → Cell C.batch i k
command_cell i k h l = record { block_is = omega arith; row_is = h; cell_is = l }

pub order_cell : (i k : ℕ) → i < 2048 → k < 16 → Cell C.orders i k
order_cell i k h l = record { block_is = omega arith; row_is = h; cell_is = l }

pub bid_cell : (i k : ℕ) → i < 512 → k < 4 → Cell C.bids i k
bid_cell i k h l = record { block_is = omega arith; row_is = h; cell_is = l }

pub ask_cell : (i k : ℕ) → i < 512 → k < 4 → Cell C.asks i k
ask_cell i k h l = record { block_is = omega arith; row_is = h; cell_is = l }

pub notice_cell : (i k : ℕ) → i < 2049 → k < 1 → Cell C.notices i k
notice_cell i k h l = record { block_is = omega arith; row_is = h; cell_is = l }

pub changed_cell : (i k : ℕ) → i < 1024 → k < 3 → Cell C.changed i k
changed_cell i k h l = record { block_is = omega arith; row_is = h; cell_is = l }

pub hint_cell : (i k : ℕ) → i < 4096 → k < 1 → Cell C.hints i k
hint_cell i k h l = record { block_is = omega arith; row_is = h; cell_is = l }

pub top_cell : (i k : ℕ) → i < 2048 → k < 1 → Cell C.tops i k
top_cell i k h l = record { block_is = omega arith; row_is = h; cell_is = l }

pub bid_map_cell : (i k : ℕ) → i < 8 → k < 1 → Cell C.bid_map i k
bid_map_cell i k h l = record { block_is = omega arith; row_is = h; cell_is = l }

pub ask_map_cell : (i k : ℕ) → i < 8 → k < 1 → Cell C.ask_map i k
ask_map_cell i k h l = record { block_is = omega arith; row_is = h; cell_is = l }

pub order_map_cell : (i k : ℕ) → i < 32 → k < 1 → Cell C.order_map i k
order_map_cell i k h l = record { block_is = omega arith; row_is = h; cell_is = l }
