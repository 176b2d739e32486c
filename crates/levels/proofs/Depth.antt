-- The stored levels follow the resting orders: where they are the definitions' levels before an operation, they are so after it.
-- Assumes nothing.
use Rattle.std.specs.Prelude.{Some}
use Prim.Native.Nat.{ℕ, zero, suc, ◌<◌, ◌≤◌}
use mathlib.Core.Path.{◌≡◌, refl, sym, ap, ◌∙◌}
use mathlib.Core.Bool.{true}
use mathlib.Core.List.{List, [], ◌∷◌, ◌++◌, append-nil}
use native.Mathlib.Omega.{arith}
use Rattle.orderbook.specs.declared.Side.{Side}
use Rattle.table.specs.Live.{Each, pick, live, look, insert, replace, without, Ascends}
use Rattle.table.proofs.Live.{each_live}
use Rattle.gateway.specs.Ledger.{same_side}
use Rattle.gateway.specs.Depth.{Resting, resting_number, joined, levels}
use Rattle.gateway.proofs.Levels.{parted, reshown, levels_insert, levels_without, levels_replace}
use Rattle.store.specs.Layout.{cell}
use Rattle.levels.specs.declared.Row.{Row}
use Rattle.levels.specs.Levels.{key, orders, row, used, entries, price, best, added, shown, removed, Table, Did}
use Rattle.levels.proofs.Best.{best_added, best_shown, best_removed}
use Rattle.gateway.specs.Table.{Rises}

rises_more : (a : ℕ) (l : List Row) (y : Row) → Rises key a l → Each (λ r. key r < key y) l → a ≤ key y → Rises key a (l ++ (y ∷ []))
rises_more a [] y t e h = (h, tt)
rises_more a (x ∷ l) y t e h = (t.0, rises_more (suc x.key) l y t.1 e.1 e.0)

rises_pick : (m : ℕ) (l : List Row) (y : Row) → Rises key 0 l → Each (λ r. key r < key y) l → Rises key 0 (l ++ pick m y)
rises_pick zero l y t e = rw (append-nil l) t
rises_pick (suc m) l y t e = rises_more 0 l y t e (omega arith)

rises_live : (f : ℕ → Row) (n : ℕ) → Ascends key f n → Rises key 0 (live orders f n)
unfolding live
rises_live f zero s = tt
rises_live f (suc n) s =
    rises_pick (f n).orders (live orders f n) (f n) (rises_live f n (λ i j h l. s i j h (omega arith)))
    (each_live orders (λ r. key r < key (f n)) f n (λ j l m. s j n l (omega arith)))

pub entries_rise : (s : Side) {xs : List ℕ} → Table s xs → Rises key 0 (entries s (cell xs))
unfolding entries
entries_rise s {xs} t = rises_live (row s (cell xs)) (used s (cell xs)) t.asc

-- xs holds the levels of a side of os
abbrev pub Holding : Side → List ℕ → List Resting → Type 0
Holding s xs os = best s (entries s (cell xs)) ≡ levels s os

module _ (s : Side) (k : ℕ) (o : Resting) (os : List Resting) {xs ys : List ℕ} (t : Table s xs) (f : Holding s xs os) (m : same_side s o.side ≡ true) (e : o.price ≡ price k) where
  pub add_view : Did s xs ys (added k o.visible (entries s (cell xs))) → Holding s ys (insert resting_number o os)
  add_view d =
      ap (best s) d.list ∙ best_added s k o.visible 0 (entries s (cell xs)) (entries_rise s t) ∙ ap (joined s (price k) o.visible) f
      ∙ sym (levels_insert s o os ∙ rw (m, e) refl)

  module _ (asc : Rises resting_number 0 os) (there : look resting_number o.number os ≡ Some o) (x : Row) (h : look key k (entries s (cell xs)) ≡ Some x) where
    pub remove_view : Did s xs ys (removed k o.visible (entries s (cell xs))) → Holding s ys (without resting_number o.number os)
    remove_view d =
        ap (best s) d.list ∙ best_removed k o.visible s x 0 (entries s (cell xs)) (entries_rise s t) h ∙ ap (parted (price k) o.visible) f
        ∙ sym (levels_without s o os asc there ∙ rw (m, e) refl)

    pub show_view : (r : Resting) → r.number ≡ o.number → r.side ≡ o.side → r.price ≡ o.price → Did s xs ys (shown k o.visible r.visible (entries s (cell xs))) →
        Holding s ys (replace resting_number r os)
    show_view r n i p d =
        ap (best s) d.list ∙ best_shown k o.visible r.visible s x 0 (entries s (cell xs)) (entries_rise s t) h ∙ ap (reshown (price k) o.visible r.visible) f
        ∙ sym (levels_replace s o os asc there r n i p ∙ rw (m, e) refl)
