-- What writes in one row leave as it was, and the lists that are read from a block's rows. Assumes nothing.
use mathlib.Core.Path.{◌≡◌, refl, ap, ◌∙◌}
use mathlib.Core.Logic.{⊎_elim}
use mathlib.Core.Bool.{Bool, true, false, not, ◌&&◌, and-eq-true_iff}
use mathlib.Core.List.{List, [], ◌∷◌}
use Prim.Native.Nat.{ℕ, ◌<◌}
use borrow.Author.Tests.{eq-eqb, ne_eqb, eqb-false, not-true}
use lib.ListN.{set}
use lib.Dec.{eqb}
use Rattle.table.proofs.Live.{same?}
use Rattle.store.specs.View.{Row, Store, write, listed}
use Rattle.store.proofs.Rows.{row_there}
use Rattle.store.proofs.Listed.{listed_ext, listed_set}
use Rattle.clients.specs.Clients.{put_cells}

-- t is s but for the row i of the block b
abbrev pub Rows : ℕ → ℕ → Store → Store → Type 0
Rows b i s t = (j : ℕ) → (j ≡ i → ⊥) → t b j ≡ s b j

-- where f reads the same in that row, the list stays; else one of it changes
module _ {A : Type 0} (f : ℕ → Row → A) (b i n : ℕ) (s t : Store) (h : Rows b i s t) where
  pub rows_kept : f i (t b i) ≡ f i (s b i) → listed (λ j. f j (t b j)) n ≡ listed (λ j. f j (s b j)) n
  rows_kept e =
      listed_ext (λ j. f j (s b j)) (λ j. f j (t b j)) n
      (λ j l. ⊎_elim (λ (q : j ≡ i). rw q e) (λ ne. ap (f j) (h j ne)) (same? j i))

  pub rows_set : (v : A) → i < n → f i (t b i) ≡ v → listed (λ j. f j (t b j)) n ≡ set (listed (λ j. f j (s b j)) n) i v
  rows_set v l e = listed_set (λ j. f j (s b j)) (λ j. f j (t b j)) n i v l e (λ j m ne. ap (f j) (h j ne))

-- what a write leaves: other rows, other cells of its row, other blocks
pub write_row : (b i k v : ℕ) (s : Store) (j l : ℕ) → (j ≡ i → ⊥) → write b i k v s b j l ≡ s b j l
write_row b i k v s j l ne = ap (λ (r : Row). r l) (row_there b i k v s j ne)

pub write_rows : (b i k v : ℕ) (s : Store) → Rows b i s (write b i k v s)
write_rows = row_there

pub write_cell : (b i k v : ℕ) (s : Store) (j l : ℕ) → (l ≡ k → ⊥) → write b i k v s b j l ≡ s b j l
write_cell b i k v s j l ne =
    ⊎_elim (λ (e : j ≡ i). rw (e, eq-eqb b b refl, eq-eqb i i refl, ne_eqb l k ne) refl) (λ n. write_row b i k v s j l n) (same? j i)

write_block : (b i k v : ℕ) (s : Store) (d j l : ℕ) → eqb d b ≡ false → write b i k v s d j l ≡ s d j l
write_block b i k v s d j l e = rw e refl

pub cells_rows : (b i : ℕ) (cs : List (ℕ × ℕ)) (s : Store) → Rows b i s (put_cells b i cs s)
unfolding put_cells
cells_rows b i [] s j ne = refl
cells_rows b i (c ∷ cs) s j ne = cells_rows b i cs (write b i c.0 c.1 s) j ne ∙ write_rows b i c.0 c.1 s j ne

-- none of the cells is k
abbrev pub spares : ℕ → List (ℕ × ℕ) → Bool
spares k [] = true
spares k (c ∷ cs) = not (eqb k c.0) && spares k cs

pub cells_spare : (b i k : ℕ) (cs : List (ℕ × ℕ)) (s : Store) (j : ℕ) → spares k cs ≡ true → put_cells b i cs s b j k ≡ s b j k
unfolding put_cells
cells_spare b i k [] s j t = refl
cells_spare b i k (c ∷ cs) s j t =
    let u = (and-eq-true_iff (not (eqb k c.0)) (spares k cs)).0 t in
    cells_spare b i k cs (write b i c.0 c.1 s) j u.1 ∙ write_cell b i c.0 c.1 s j k (eqb-false k c.0 (not-true (eqb k c.0) u.0))

pub cells_block : (b i : ℕ) (cs : List (ℕ × ℕ)) (s : Store) (d j l : ℕ) → eqb d b ≡ false → put_cells b i cs s d j l ≡ s d j l
unfolding put_cells
cells_block b i [] s d j l e = refl
cells_block b i (c ∷ cs) s d j l e = cells_block b i cs (write b i c.0 c.1 s) d j l e ∙ write_block b i c.0 c.1 s d j l e
