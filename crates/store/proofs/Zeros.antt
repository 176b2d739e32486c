-- Cells that are set to 0 one after the other. Assumes nothing.
use mathlib.Core.Path.{◌≡◌, ◌∙◌}
use mathlib.Core.Logic.{inl, ⊎_elim}
use mathlib.Core.List.{List}
use Prim.Native.Nat.{ℕ, ◌+◌, ◌*◌, ◌<◌}
use native.Mathlib.Nat.{not-suc-le-zero, eq-or-lt_of_le, le_of_suc-le-suc}
use native.Mathlib.Numerals.{add-one}
use native.Mathlib.Omega.{arith}
use Rattle.le.specs.Le.{le, put}
use Rattle.le.proofs.Laws.{length_put, le_put, le_put_other}
use Rattle.store.specs.Layout.{cells, cell, spot, Holds}
use Rattle.store.specs.View.{Is, zeros}
use Rattle.store.proofs.Places.{spot_below}

-- the first n cells are 0
pub record Cleared (xs : List ℕ) (n : ℕ) : Type 0 where
  pub holds : Holds xs
  pub none_left : (j : ℕ) → j < n → le 8 xs (8 * j) ≡ 0

pub cleared_none : (xs : List ℕ) → Holds xs → Cleared xs 0
cleared_none xs h = record { holds = h; none_left = λ j l. absurd (not-suc-le-zero l) }

pub cleared_one : (xs : List ℕ) (n : ℕ) → n < cells → Cleared xs n → Cleared (put 8 xs (8 * n) 0) (n + 1)
cleared_one xs n l c =
    record {
      holds = rw (length_put 8 xs (8 * n) 0) c.holds;
      none_left = λ j k.
          ⊎_elim
          (λ (e : j ≡ n). rw e (le_put 8 xs (8 * n) 0 (omega (arith, c.holds)) (omega arith)))
          (λ (h : j < n). le_put_other 8 (8 * j) 8 xs (8 * n) 0 (inl (omega arith)) ∙ c.none_left j h)
          (eq-or-lt_of_le (le_of_suc-le-suc (rw add-one at k)));
    }

pub cleared_all : {xs : List ℕ} → Cleared xs cells → Is xs zeros
unfolding cell
cleared_all c = record { holds = c.holds; same = λ b i k p. c.none_left (spot b i k) (spot_below p) }
