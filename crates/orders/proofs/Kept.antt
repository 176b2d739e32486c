-- A place survives what moves no row. Assumes nothing.
use Rattle.std.specs.Prelude.{Option, Some, None, is_some}
use mathlib.Core.Path.{◌≡◌, refl, sym, ap, ◌∙◌}
use mathlib.Core.Bool.{false≢true}
use mathlib.Core.Logic.{⊎_elim}
use mathlib.Core.List.{List}
use Prim.Native.Nat.{ℕ, ◌<◌}
use native.Mathlib.Omega.{arith}
use Rattle.table.specs.Live.{look}
use Rattle.table.specs.Table.{found}
use Rattle.table.proofs.Live.{same?}
use Rattle.gateway.specs.Depth.{resting_number}
use Rattle.gateway.specs.Ledger.{number_of}
use Rattle.store.specs.Cells as C
use Rattle.store.specs.Layout.{cell}
use Rattle.store.specs.View.{Row, Store, word, order, resting, marked, ledger, depth, Is, Bounds}
use Rattle.store.proofs.Places.{header_cell, order_cell}
use Rattle.orders.specs.Orders.{Sorted, FindsRow, Sees, Stays}
use Rattle.orders.proofs.Views.{Touched, same_rows, Keeps}
use Rattle.orders.proofs.Laws.{sees, half_gone}

-- ---- what moves no row

pub stays_same : (s : Store) → Stays s s
stays_same s = record { rows_are = refl; numbers_are = λ j l. refl }

pub stays_then : {s t u : Store} → Stays s t → Stays t u → Stays s u
stays_then a b = record { rows_are = b.rows_are ∙ a.rows_are; numbers_are = λ j l. b.numbers_are j (rw a.rows_are l) ∙ a.numbers_are j l }

-- one row changes, and keeps its number
pub stays_touched : {i : ℕ} {r : Row} {s t : Store} → Touched i r s t → word t C.order_rows ≡ word s C.order_rows → r C.order_number ≡ s C.orders i C.order_number → Stays s t
stays_touched {i} {r} {s} {t} c w e = record { rows_are = w; numbers_are = λ j l. same_rows i r s t c (λ (q : Row). q C.order_number) e j }

-- the whole table stays
pub stays_keeps : {s t : Store} → Keeps s t → Stays s t
stays_keeps e = record { rows_are = e.rows_are; numbers_are = λ j l. e.cells j C.order_number l (omega arith) }

-- the bytes that a program leaves
pub stays_bytes : {ys : List ℕ} {s t : Store} → Bounds s → Stays s t → Is ys t → Stays s (cell ys)
stays_bytes b e h =
    record {
      rows_are = h.same C.header 0 C.order_rows (header_cell C.order_rows (omega arith)) ∙ e.rows_are;
      numbers_are = λ j l. h.same C.orders j C.order_number (order_cell j C.order_number (omega (arith, b.orders_fit)) (omega arith)) ∙ e.numbers_are j l;
    }

-- ---- what was seen is still there, where the list has the order as before

module _ {A : Type 0} (k : ℕ) (f : Row → A) (number : A → ℕ) (s t : Store) (n : ℕ) (e : (q : Row) → number (f q) ≡ q C.order_number) (a : Stays s t) (d : Sorted t)
    (same : is_some (look number n (marked t k f)) ≡ is_some (look number n (marked s k f))) where
  both : (q r : Option ℕ) → FindsRow k t n q → Sees k f number s n r → is_some (found (λ j. f (t C.orders j)) q) ≡ is_some (found (λ j. f (s C.orders j)) r)
  both q r h g = sym (ap is_some (sees k f number t n q e d h).order) ∙ same ∙ ap is_some g.order

  still : (r : Option ℕ) → Sees k f number s n r → FindsRow k t n r
  still (Some i) h =
      let l : i < word t C.order_rows = rw a.rows_are h.row.0 in
      let m = a.numbers_are i h.row.0 ∙ h.row.1 in
      ⊎_elim (λ z. absurd (false≢true (both None (Some i) (rw m at (half_gone k t d i l _ refl z)) h))) (λ ne. (l, m, omega (arith, ne))) (same? (t C.orders i k) 0)
  still None h = λ j l m. ⊎_elim (λ z. z) (λ ne. absurd (false≢true (sym (both (Some j) None (l, m, omega (arith, ne)) h)))) (same? (t C.orders j k) 0)

  still_seen : (r : Option ℕ) → Sees k f number s n r → Sees k f number t n r
  still_seen r h = sees k f number t n r e d (still r h)

module _ {s t : Store} (n : ℕ) (r : Option ℕ) (a : Stays s t) (d : Sorted t) where
  pub still_live : is_some (look number_of n (ledger t).orders) ≡ is_some (look number_of n (ledger s).orders) → Sees C.order_live order number_of s n r → Sees C.order_live order number_of t n r
  still_live same = still_seen C.order_live order number_of s t n (λ q. refl) a d same r

  pub still_resting : is_some (look resting_number n (depth t).resting) ≡ is_some (look resting_number n (depth s).resting) →
      Sees C.order_resting resting resting_number s n r → Sees C.order_resting resting resting_number t n r
  still_resting same = still_seen C.order_resting resting resting_number s t n (λ q. refl) a d same r
