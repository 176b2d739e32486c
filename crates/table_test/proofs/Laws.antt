-- What each operation makes of the test's table, from the laws of `table`.
-- Assumes nothing.
use Rattle.std.specs.Prelude.{Option, Some}
use mathlib.Core.Path.{◌≡◌, refl, ap, ◌∙◌, subst}
use mathlib.Core.Logic.{inl, inr}
use mathlib.Core.List.{List}
use mathlib.Core.Bool.{true}
use Prim.Native.Nat.{ℕ, ◌+◌, ◌*◌, ◌-◌, ◌^◌, ◌≤◌, ◌<◌}
use native.Mathlib.Omega.{arith}
use lib.ListN.{length}
use Rattle.le.specs.Le.{le, put, Outside, Local}
use Rattle.le.specs.Row.{puts, Fit}
use Rattle.le.proofs.Laws.{outside_put, local_wider, local_map, le_put, le_outside}
use Rattle.le.proofs.Rows.{outside_puts, gets_local, gets_puts, gets_field}
use Rattle.table.specs.Live.{live, without, look, insert, replace, Ascends, Gap}
use Rattle.table.specs.Table.{key_at, mark_at, Sorted, Between, Finds, Opened, Closed, Compacted}
use Rattle.table.proofs.Live.{live_ext, live_insert, live_close, live_strike, live_replace, look_some, ascends_ext, ascends_change, ascends_open, ascends_close}
use Rattle.table.proofs.Search.{between_above}
use Rattle.table.proofs.Packed.{Packed, packed_live, packed_count, packed_ascends}
use Rattle.table.proofs.Readers.{rows_outside, row_changed, opened_gap, closed_gap, compacted_packed, strike_outside}
use Rattle.table_test.specs.declared.Row.{Row}
use Rattle.table_test.specs.Test.{widths, values, row, read, key, mark, row_at, count, entries, Table, To, Did, Place, live_row, revalued}

read_local : Local 24 read
unfolding read
read_local = local_wider (omega arith) (local_map row (gets_local widths))

pub sorted : {xs : List ℕ} {n : ℕ} → Table xs → n ≡ count xs → Sorted 8 24 n xs
unfolding read
sorted t e =
    record { room = record { fits = omega (arith, t.room, t.few); wide = omega arith; words = refl }; asc = rw e t.asc }

-- the count is set, and the rows are as they were
pub counted : (ys : List ℕ) (v : ℕ) (l : List Row) → 200 ≤ length ys → v ≤ 8 → Ascends key (row_at ys) v → live mark (row_at ys) v ≡ l → To (put 8 ys 0 v) l
unfolding entries count
counted ys v l room few s e =
    let p : Outside 0 8 ys (put 8 ys 0 v) = outside_put 0 8 8 ys 0 v (omega arith) (omega arith) in
    let c : le 8 (put 8 ys 0 v) 0 ≡ v = le_put 8 ys 0 v (omega arith) (omega arith) in
    let re : (j : ℕ) → j < v → row_at (put 8 ys 0 v) j ≡ row_at ys j = rows_outside read_local 8 v p (inr (omega arith)) in
    record {
      table = record {
        room = rw p.len room;
        few = rw c few;
        asc = rw c (ascends_ext key (row_at ys) (row_at (put 8 ys 0 v)) v (λ j h. ap key (re j h)) s);
      };
      list = rw c (live_ext mark (row_at ys) (row_at (put 8 ys 0 v)) v re ∙ e);
    }

-- one row is changed, and not its key
pub changed : {xs ys : List ℕ} (i : ℕ) (l : List Row) → Table xs → i < count xs → Outside (8 + 24 * i) (8 + 24 * i + 24) xs ys → (row_at ys i).key ≡ (row_at xs i).key
    → live mark (row_at ys) (count xs) ≡ l → To ys l
unfolding entries count
changed {xs} {ys} i l t h p k e =
    let c : count ys ≡ count xs = le_outside 8 0 p (inl (omega arith)) in
    record {
      table = record {
        room = rw p.len t.room;
        few = rw c t.few;
        asc = rw c (ascends_change key (row_changed read_local 8 h p) k t.asc);
      };
      list = rw c e;
    }

row_put : (ys : List ℕ) (o : ℕ) (r : Row) → Fit widths (values r) → o + 17 ≤ length ys → read (puts widths ys o (values r)) o ≡ r
unfolding read
row_put ys o r f h = ap row (gets_puts widths ys o (values r) f h)

pub put_in_to : {xs ys : List ℕ} (n i : ℕ) (r : Row) → Place xs n i r → Fit widths (values r) → Opened 8 24 n i xs ys
    → To (put 8 (puts widths ys (8 + 24 * i) (values r)) 0 (n + 1)) (insert key r (entries xs))
unfolding entries
put_in_to {xs} {ys} n i r q f o =
    let zs : List ℕ = puts widths ys (8 + 24 * i) (values r) in
    let p : Outside (8 + 24 * i) (8 + 24 * i + 24) ys zs = outside_puts (8 + 24 * i) (8 + 24 * i + 24) widths ys (8 + 24 * i) (values r) (omega arith) (omega arith) in
    let room : 200 ≤ length ys = omega (arith, o.frame.len, q.table.room) in
    let g : Gap (row_at xs) (row_at zs) n i = opened_gap read_local 8 o p in
    let here : row_at zs i ≡ r = row_put ys (8 + 24 * i) r f (omega (arith, q.room, q.inside)) in
    let s : Ascends key (row_at zs) (n + 1) =
    ascends_open key g (rw q.size q.table.asc) (rw here q.low) (rw here q.high) in
    counted zs (n + 1) (insert key r (entries xs)) (rw p.len room) (omega (arith, q.room)) s
    (live_insert mark key g s (rw here q.live) ∙ rw (here, q.size))

pub place : {xs : List ℕ} (n i k v : ℕ) → Table xs → n ≡ count xs → n < 8 → Between (key_at 8 24 xs) n k i i → (i < n → (row_at xs i).key ≡ k → ⊥) → Place xs n i (live_row k v)
unfolding read
place n i k v t e f b d =
    record {
      table = t;
      size = e;
      room = f;
      inside = b.top;
      low = b.below;
      high = between_above (sorted t e).asc b d;
      live = omega arith;
    }

-- the mark and the key that `table` sees are those of the row

mark_is : (xs : List ℕ) (j : ℕ) → mark (row_at xs j) ≡ mark_at 8 24 16 xs j
unfolding read
mark_is xs j = let e : 8 + 24 * j + 8 + 8 ≡ 8 + 24 * j + 16 = omega arith in ap (le 1 xs) e

key_is : (xs : List ℕ) (j : ℕ) → key (row_at xs j) ≡ key_at 8 24 xs j
unfolding read
key_is xs j = refl

-- what was found, where it is At i
pub found_at : (xs : List ℕ) {n k i : ℕ} {f : Option ℕ} → f ≡ Some i → Finds (key_at 8 24 xs) (mark_at 8 24 16 xs) n k f → Finds (key_at 8 24 xs) (mark_at 8 24 16 xs) n k (Some i)
found_at xs {n} {k} e h = subst (λ (g : Option ℕ). Finds (key_at 8 24 xs) (mark_at 8 24 16 xs) n k g) e h

-- a field is set

set_value : (xs : List ℕ) (o v : ℕ) → v < 256 ^ 8 → o + 17 ≤ length xs → read (put 8 xs (o + 8) v) o ≡ record { key = (read xs o).key; value = v; mark = (read xs o).mark }
unfolding read
set_value xs o v f h = ap row (gets_field widths 1 xs o v (omega arith) f h)

set_mark : (xs : List ℕ) (o v : ℕ) → v < 256 ^ 1 → o + 17 ≤ length xs → read (put 1 xs (o + 16) v) o ≡ record { key = (read xs o).key; value = (read xs o).value; mark = v }
unfolding read
set_mark xs o v f h = ap row (gets_field widths 2 xs o v (omega arith) f h)

pub change_to : {xs : List ℕ} (n i k v : ℕ) → Table xs → n ≡ count xs → v < 256 ^ 8 → Finds (key_at 8 24 xs) (mark_at 8 24 16 xs) n k (Some i)
    → To (put 8 xs (8 + 24 * i + 8) v) (revalued (look key k (entries xs)) v (entries xs))
unfolding entries
change_to {xs} n i k v t e f h =
    let o : ℕ = 8 + 24 * i in
    let ys : List ℕ = put 8 xs (o + 8) v in
    let l : i < count xs = rw e at h.0 in
    let p : Outside o (o + 24) xs ys = outside_put o (o + 24) 8 xs (o + 8) v (omega arith) (omega arith) in
    let here : row_at ys i ≡ record { key = (row_at xs i).key; value = v; mark = (row_at xs i).mark } = set_value xs o v f (omega (arith, t.room, t.few)) in
    let m : 0 < mark (row_at xs i) = rw (mark_is xs i) h.2 in
    let some_row : look key k (live mark (row_at xs) (count xs)) ≡ Some (row_at xs i) =
    look_some mark key (row_at xs) k i (count xs) t.asc l (key_is xs i ∙ h.1) m in
    rw some_row
    (changed i _ t l p (ap key here)
    (live_replace mark key (row_changed read_local 8 l p) t.asc (ap key here) m (rw here m)
    ∙ ap (λ (r : Row). replace key r (live mark (row_at xs) (count xs))) here))

pub remove_to : {xs : List ℕ} (n i k : ℕ) → Table xs → n ≡ count xs → Finds (key_at 8 24 xs) (mark_at 8 24 16 xs) n k (Some i)
    → To (put 1 xs (8 + 24 * i + 16) 0) (without key k (entries xs))
unfolding entries
remove_to {xs} n i k t e h =
    let o : ℕ = 8 + 24 * i in
    let ys : List ℕ = put 1 xs (o + 16) 0 in
    let l : i < count xs = rw e at h.0 in
    let p : Outside o (o + 24) xs ys = strike_outside xs 8 24 16 i (omega arith) in
    let here : row_at ys i ≡ record { key = (row_at xs i).key; value = (row_at xs i).value; mark = 0 } = set_mark xs o 0 (omega arith) (omega (arith, t.room, t.few)) in
    changed i _ t l p (ap key here)
    (live_strike mark key (row_changed read_local 8 l p) t.asc (ap mark here)
    ∙ ap (λ (k : ℕ). without key k (live mark (row_at xs) (count xs))) (key_is xs i ∙ h.1))

pub cut_to : {xs ys : List ℕ} (n i : ℕ) → Table xs → n ≡ count xs → Closed 8 24 n i xs ys → To (put 8 ys 0 (n - 1)) (without key (row_at xs i).key (entries xs))
unfolding entries
cut_to {xs} {ys} n i t e c =
    let m : n ≡ n - 1 + 1 = omega (arith, c.inside) in
    let g : Gap (row_at ys) (row_at xs) (n - 1) i = closed_gap read_local 8 (n - 1) m c in
    let s : Ascends key (row_at xs) (n - 1 + 1) = rw (← m, e) t.asc in
    counted ys (n - 1) (without key (row_at xs i).key (entries xs)) (omega (arith, c.frame.len, t.room)) (omega (arith, t.few)) (ascends_close key g s)
    (live_close mark key g s ∙ rw (← m, e))

pub tidy_to : {xs ys : List ℕ} (n w : ℕ) → Table xs → n ≡ count xs → Compacted 8 24 16 n w xs ys
    → To (put 8 ys 0 w) (entries xs) × (count (put 8 ys 0 w) ≡ length (entries xs))
unfolding entries count
tidy_to {xs} {ys} n w t e c =
    let p : Packed (mark_at 8 24 16 xs) (row_at xs) (row_at ys) n w = compacted_packed read_local 8 c in
    let same : live mark (row_at ys) w ≡ live mark (row_at xs) n = packed_live p mark (λ j h. mark_is xs j) mark (λ r q. q) in
    let size : w ≡ length (live mark (row_at xs) n) = packed_count p mark (λ j h. mark_is xs j) in
    let few : w ≤ 8 = omega (arith, c.fewer, t.few) in
    let room : 200 ≤ length ys = omega (arith, c.frame.len, t.room) in
    (counted ys w (entries xs) room few (packed_ascends p key (rw e t.asc)) (same ∙ rw e), le_put 8 ys 0 w (omega arith) (omega arith) ∙ size ∙ rw e)

pub did : {xs ys : List ℕ} {l : List Row} → To ys l → Did xs ys l true
did t = record { table = t.table; done = t.list }
