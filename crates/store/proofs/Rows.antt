-- A store in the bytes writes one cell, and none other. Assumes nothing.
use mathlib.Core.Path.{◌≡◌, refl, sym, ap, ◌∙◌}
use mathlib.Core.Logic.{⊎_elim}
use mathlib.Core.Bool.{false, cond, ◌&&◌, and-eq-true_iff}
use mathlib.Core.List.{List, [], ◌∷◌, ◌++◌}
use Prim.Native.Nat.{ℕ, ◌+◌, ◌≤◌, ◌<◌}
use borrow.Author.Tests.{eq-eqb, ne_eqb, eqb-true}
use native.Mathlib.Numerals.{add-one}
use native.Mathlib.Omega.{arith}
use lib.ListN.{length, get_or, take}
use lib.Seq.{take-suc, take_all, length-take-le}
use lib.Dec.{eqb}
use Rattle.table.proofs.Live.{same?}
use Rattle.gateway.proofs.Base.{split}
use Rattle.store.specs.Layout.{cell, store, Cell, Cells, Holds, Set}
use Rattle.store.specs.View.{Row, Store, write, fill, Same, Is}
use Rattle.store.proofs.Places.{cell_same, cell_other}
use Rattle.words.specs.Words.{modulus}

-- what `write` leaves in its own cell, and in another
here : (b i k v : ℕ) (s : Store) → write b i k v s b i k ≡ v
here b i k v s = simp (eq-eqb b b refl, eq-eqb i i refl, eq-eqb k k refl)

there : (b i k v : ℕ) (s : Store) (d j l : ℕ) → (eqb d b && (eqb j i && eqb l k)) ≡ false → write b i k v s d j l ≡ s d j l
there b i k v s d j l h = rw h refl

pub stored : (xs : List ℕ) {b i k : ℕ} (v : ℕ) → Cell b i k → Holds xs → v < modulus → Same (cell (store xs b i k v)) (write b i k v (cell xs))
stored xs {b} {i} {k} v c h f d j l q =
    ⊎_elim
    (λ (e : d ≡ b).
    ⊎_elim
    (λ (e' : j ≡ i).
    ⊎_elim
    (λ (e'' : l ≡ k). rw (e, e', e'') (cell_same xs v c h f ∙ sym (here b i k v (cell xs))))
    (λ ne. cell_other xs v c q (λ x y z. ne (sym z)) ∙ sym (there b i k v (cell xs) d j l (rw (e, e', eq-eqb b b refl, eq-eqb i i refl, ne_eqb l k ne) refl)))
    (same? l k))
    (λ ne. cell_other xs v c q (λ x y z. ne (sym y)) ∙ sym (there b i k v (cell xs) d j l (rw (e, eq-eqb b b refl, ne_eqb j i ne) refl)))
    (same? j i))
    (λ ne. cell_other xs v c q (λ x y z. ne (sym x)) ∙ sym (there b i k v (cell xs) d j l (rw (ne_eqb d b ne) refl)))
    (same? d b)

-- one write after another, and the same written to the same
pub same_refl : (s : Store) → Same s s
same_refl s b i k c = refl

pub same_trans : (s t u : Store) → Same s t → Same t u → Same s u
same_trans s t u p q b i k c = p b i k c ∙ q b i k c

pub same_write : (s t : Store) (b i k v : ℕ) → Same s t → Same (write b i k v s) (write b i k v t)
same_write s t b i k v p d j l c = ap (λ n. cond (eqb d b && (eqb j i && eqb l k)) v n) (p d j l c)

-- what a store leaves, after stores that left s
pub then_set : {xs ys : List ℕ} {s : Store} {b i k v : ℕ} → Is xs s → Cell b i k → Set xs ys b i k v → Is ys (write b i k v s)
then_set {xs} {ys} {s} {b} {i} {k} {v} h c e =
    record {
      holds = e.holds;
      same = λ d j l q. ap (λ zs. cell zs d j l) e.exact ∙ stored xs v c h.holds e.fits d j l q ∙ same_write (cell xs) s b i k v h.same d j l q;
    }

-- what a cell has is written to it again
pub write_same : (b i k : ℕ) (s : Store) → write b i k (s b i k) s ≡ s
write_same b i k s = λ z d j l. at d j l z
  where
    at : (d j l : ℕ) → write b i k (s b i k) s d j l ≡ s d j l
    at d j l =
        split (λ t. cond t (s b i k) (s d j l) ≡ s d j l) (eqb d b && (eqb j i && eqb l k))
        (λ e.
        let (p, e') = (and-eq-true_iff (eqb d b) (eqb j i && eqb l k)).0 e in
        let (q, r) = (and-eq-true_iff (eqb j i) (eqb l k)).0 e' in
        sym (λ z. s (eqb-true d b p z) (eqb-true j i q z) (eqb-true l k r z)))
        (λ _. refl)

pub is_itself : {xs : List ℕ} → Holds xs → Is xs (cell xs)
is_itself {xs} h = record { holds = h; same = same_refl (cell xs) }

-- ---- a row after a write

-- r with v in the cell k
abbrev pub put_cell : ℕ → ℕ → Row → Row
put_cell k v r l = cond (eqb l k) v (r l)

module _ (b i k v : ℕ) (s : Store) where
  pub row_here : write b i k v s b i ≡ put_cell k v (s b i)
  row_here = λ z l. at l z
    where
      at : (l : ℕ) → write b i k v s b i l ≡ put_cell k v (s b i) l
      at l = rw (eq-eqb b b refl, eq-eqb i i refl) refl

  pub row_there : (j : ℕ) → (j ≡ i → ⊥) → write b i k v s b j ≡ s b j
  row_there j n = λ z l. at l z
    where
      at : (l : ℕ) → write b i k v s b j l ≡ s b j l
      at l = rw (eq-eqb b b refl, ne_eqb j i n) refl

  -- what does not read the cell
  pub row_unread : {B : Type 0} (f : Row → B) → ((r : Row) → f (put_cell k v r) ≡ f r) → (j : ℕ) → f (write b i k v s b j) ≡ f (s b j)
  row_unread f h j = ⊎_elim (λ (e : j ≡ i). rw e (ap f row_here ∙ h (s b i))) (λ n. ap f (row_there j n)) (same? j i)

-- ---- several cells of a row

pub same_fill : (s t : Store) (b i k : ℕ) (vs : List ℕ) → Same s t → Same (fill b i k vs s) (fill b i k vs t)
unfolding fill
same_fill s t b i k [] p = p
same_fill s t b i k (v ∷ vs) p = same_fill (write b i k v s) (write b i k v t) b i (k + 1) vs (same_write s t b i k v p)

-- what is filled in after writes that left s
pub then_fill : {ys zs : List ℕ} {s : Store} (b i k : ℕ) (vs : List ℕ) → Is ys s → Is zs (fill b i k vs (cell ys)) → Is zs (fill b i k vs s)
then_fill {ys} {zs} {s} b i k vs p q =
    record { holds = q.holds; same = λ d j l c. q.same d j l c ∙ same_fill (cell ys) s b i k vs p.same d j l c }

-- another block
pub fill_elsewhere : (b i k : ℕ) (vs : List ℕ) (s : Store) (d j l : ℕ) → (d ≡ b → ⊥) → fill b i k vs s d j l ≡ s d j l
unfolding fill
fill_elsewhere b i k [] s d j l n = refl
fill_elsewhere b i k (v ∷ vs) s d j l n = fill_elsewhere b i (k + 1) vs (write b i k v s) d j l n ∙ rw (ne_eqb d b n) refl

-- one cell more
fill_more : (b i k : ℕ) (vs : List ℕ) (v : ℕ) (s : Store) → fill b i k (vs ++ (v ∷ [])) s ≡ write b i (k + length vs) v (fill b i k vs s)
unfolding fill
fill_more b i k [] v s = let e : k + 0 ≡ k = omega arith in rw e refl
fill_more b i k (u ∷ vs) v s =
    let e : k + 1 + length vs ≡ k + length (u ∷ vs) = omega arith in
    fill_more b i (k + 1) vs v (write b i k u s) ∙ ap (λ l. write b i l v (fill b i (k + 1) vs (write b i k u s))) e

pub cell_in : {b i k n : ℕ} (j : ℕ) → Cells b i k n → j < n → Cell b i (k + j)
cell_in j c h = record { block_is = c.block_is; row_is = c.row_is; cell_is = omega (arith, c.cells_are) }

-- ys is xs with the first j of vs filled in
abbrev pub Filled : List ℕ → ℕ → ℕ → ℕ → List ℕ → ℕ → List ℕ → Type 0
Filled xs b i k vs j ys = Is ys (fill b i k (take j vs) (cell xs))

module _ (xs : List ℕ) (b i k : ℕ) (vs : List ℕ) where
  pub filled_none : Holds xs → Filled xs b i k vs 0 xs
  unfolding fill
  filled_none h = is_itself h

  pub filled_more : (j : ℕ) (ys zs : List ℕ) → Cells b i k (length vs) → j < length vs → Filled xs b i k vs j ys → Set ys zs b i (k + j) (get_or vs j 0) → Filled xs b i k vs (j + 1) zs
  filled_more j ys zs c l p q =
      rw (add-one j, take-suc vs j 0 l, fill_more b i k (take j vs) (get_or vs j 0) (cell xs), length-take-le j vs (omega arith))
      (then_set p (cell_in j c l) q)

  pub filled_all : (j : ℕ) (ys : List ℕ) → length vs ≤ j → Filled xs b i k vs j ys → Is ys (fill b i k vs (cell xs))
  filled_all j ys l p = rw (take_all j vs l) at p
