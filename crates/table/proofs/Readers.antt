-- From bytes to rows: what a reader of a row's own bytes sees of each operation.
-- Assumes nothing.
use mathlib.Core.Path.{◌≡◌, sym}
use mathlib.Core.Logic.{◌⊎◌, inl, inr, ⊎_elim}
use mathlib.Core.List.{List}
use Prim.Native.Nat.{ℕ, ◌+◌, ◌*◌, ◌≤◌, ◌<◌}
use native.Mathlib.Omega.{arith}
use Rattle.le.specs.Le.{put, Outside, Local}
use Rattle.le.proofs.Laws.{lt_or_le, outside_put, local_outside, same_outside, same_trans}
use Rattle.table.specs.Live.{Gap, Changed}
use Rattle.table.specs.Table.{mark_at, rows, Opened, Closed, Compacted}
use Rattle.table.proofs.Moves.{next, mono, step}
use Rattle.table.proofs.Packed.{Packed}

-- a row that is not the row i is before or behind it
apart : (s : ℕ) (base j i : ℕ) → (j ≡ i → ⊥) → (base + s * j + s ≤ base + s * i) ⊎ (base + s * i + s ≤ base + s * j)
apart s base j i ne =
    ⊎_elim
    (λ (h : j < i). inl (omega (arith, step s h)))
    (λ (h : i ≤ j). let l : i < j = omega arith in inr (omega (arith, step s l)))
    (lt_or_le j i)

module _ {A : Type 0} {s : ℕ} {f : List ℕ → ℕ → A} (l : Local s f) (base : ℕ) where
  -- nothing in the table was touched
  pub rows_outside : {lo hi : ℕ} {xs ys : List ℕ} (n : ℕ) → Outside lo hi xs ys → (base + s * n ≤ lo) ⊎ (hi ≤ base) → (j : ℕ) → j < n → rows f base s ys j ≡ rows f base s xs j
  rows_outside n p w j h =
      local_outside l (base + s * j) p (⊎_elim (λ q. inl (omega (arith, step s h))) (λ q. inr (omega arith)) w)

  -- only the row i was
  pub row_other : {xs ys : List ℕ} (i : ℕ) → Outside (base + s * i) (base + s * i + s) xs ys → (j : ℕ) → (j ≡ i → ⊥) → rows f base s ys j ≡ rows f base s xs j
  row_other i p j ne = local_outside l (base + s * j) p (apart s base j i ne)

  pub row_changed : {xs ys : List ℕ} {n i : ℕ} → i < n → Outside (base + s * i) (base + s * i + s) xs ys → Changed (rows f base s xs) (rows f base s ys) n i
  row_changed {i = i} h p = record { inside = h; other = λ j q. row_other i p j }

  -- a row was put in: room was made, and the row written
  pub opened_gap : {xs ys zs : List ℕ} {n i : ℕ} → Opened base s n i xs ys → Outside (base + s * i) (base + s * i + s) ys zs → Gap (rows f base s xs) (rows f base s zs) n i
  opened_gap {i = i} o p =
      record {
        inside = o.inside;
        before = λ j h. l.same (same_trans (o.before j h) (same_outside s (base + s * j) p (inl (omega (arith, step s h)))));
        behind = λ j h k.
            l.same (same_trans (o.behind j h k) (same_outside s (base + s * (j + 1)) p (inr (omega (arith, next s j, mono s h)))));
      }

  -- the row i was taken out
  pub closed_gap : {xs ys : List ℕ} {n i : ℕ} (m : ℕ) → n ≡ m + 1 → Closed base s n i xs ys → Gap (rows f base s ys) (rows f base s xs) m i
  closed_gap m e c =
      record {
        inside = omega (arith, c.inside);
        before = λ j h. sym (l.same (c.before j h));
        behind = λ j h k. sym (l.same (c.behind j h (omega arith)));
      }

  pub compacted_packed : {xs ys : List ℕ} {mark n w : ℕ} → Compacted base s mark n w xs ys → Packed (mark_at base s mark xs) (rows f base s xs) (rows f base s ys) n w
  compacted_packed c = record { count = c.count; rows = λ j h. l.same (c.rows j h) }

-- a row struck out: its mark is 0, and nothing else has changed
module _ (xs : List ℕ) (base s mark i : ℕ) (h : mark < s) where
  pub strike_outside : Outside (base + s * i) (base + s * i + s) xs (put 1 xs (base + s * i + mark) 0)
  strike_outside = outside_put (base + s * i) (base + s * i + s) 1 xs (base + s * i + mark) 0 (omega arith) (omega arith)
