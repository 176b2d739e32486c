-- What the calls of levels answer, from what the functions below them ensure. Assumes nothing.
use Rattle.std.specs.Prelude.{Option, Some, None}
use mathlib.Core.Path.{◌≡◌, refl, sym, ap, ◌∙◌}
use mathlib.Core.Bool.{Bool, true, false, and-false, and-eq-true_iff}
use mathlib.Core.List.{List}
use Prim.Native.Nat.{ℕ, ◌+◌, ◌-◌, ◌≤◌, ◌<◌}
use native.Mathlib.Omega.{arith}
use borrow.Author.Rules.{rules}
use borrow.Author.Tests.{lt-ltb, le-ltb, le-leb, lt-leb, ltb-true, leb-true}
use lib.Dec.{leb, ltb}
use Rattle.orderbook.specs.declared.Side.{Side}
use Rattle.words.specs.Words.{modulus}
use Rattle.gateway.specs.Basics.{option}
use Rattle.gateway.specs.Limits.{most_levels}
use Rattle.store.specs.Layout.{cell}
use Rattle.levels.specs.Levels as L
use Rattle.levels.specs.declared.Row.{Row}
use Rattle.maps.specs.Tables.{Stands, join_code, show_code, leave_code, level_of, Ends}
use Rattle.maps.proofs.Stands.{levels_stand}
use Rattle.maps.proofs.Entering.{does, refuses, zero_then, table_of}

-- ---- a level

pub qty_is : (xs : List ℕ) (s : Side) (k : ℕ) (f : Option ℕ) (i : ℕ) (r : Row) → L.Finds s xs k f → f ≡ Some i → r ≡ L.row s (cell xs) i →
    r.qty ≡ option 0 (λ l. l.qty) (level_of s k xs)
qty_is xs s k f i r h e q = let g : L.Finds s xs k (Some i) = rw e at h in rw g.1 (ap (λ (x : Row). x.qty) q)

pub qty_none : (xs : List ℕ) (s : Side) (k : ℕ) (f : Option ℕ) → L.Finds s xs k f → f ≡ None → 0 ≡ option 0 (λ l. l.qty) (level_of s k xs)
qty_none xs s k f h e = let g : L.Finds s xs k None = rw e at h in rw g refl

pub level_inside : (xs : List ℕ) (s : Side) (k : ℕ) (f : Option ℕ) (i : ℕ) → L.Table s xs → L.Finds s xs k f → f ≡ Some i → i < 512
level_inside xs s k f i t h e = let g : L.Finds s xs k (Some i) = rw e at h in omega (arith, g.0, t.few)

module _ (xs : List ℕ) (s : Side) (i k : ℕ) (b : Bool) (h : L.IsAt s xs i k b) where
  pub place_inside : L.Table s xs → b ≡ true → i < 512
  place_inside t e = let g : L.IsAt s xs i k true = rw e at h in omega (arith, g.0, t.few)

  module _ (e : b ≡ false) where
    none_is : level_of s k xs ≡ None
    none_is = rw e at h

    pub join_new : {n : ℕ} (v : ℕ) → n ≡ L.size s (cell xs) → n < most_levels → 0 ≡ join_code (L.size s (cell xs)) v (level_of s k xs)
    unfolding join_code
    join_new {n} v q l = rw (none_is, ← q, lt-ltb n most_levels l) refl

    pub join_full : {n : ℕ} (v : ℕ) → n ≡ L.size s (cell xs) → most_levels ≤ n → 5 ≡ join_code (L.size s (cell xs)) v (level_of s k xs)
    unfolding join_code
    join_full {n} v q l = rw (none_is, ← q, le-ltb n most_levels l) refl

    pub show_none : (v w : ℕ) → 8 ≡ show_code v w (level_of s k xs)
    unfolding show_code
    show_none v w = rw none_is refl

    pub leave_none : (v : ℕ) → (8 ≡ leave_code v (level_of s k xs)) × (◌≡◌ {A = ℕ} 8 0 → L.CanRemove v (level_of s k xs))
    unfolding leave_code
    leave_none v = (rw none_is refl, λ z. absurd (omega arith))

  module _ (e : b ≡ true) (r : Row) (q : r ≡ L.row s (cell xs) i) where
    some_is : level_of s k xs ≡ Some r
    some_is = let g : L.IsAt s xs i k true = rw e at h in g.1 ∙ ap Some (sym q)

    module _ (n v : ℕ) where
      pub join_fits : r.qty + v < modulus → r.orders + 1 < modulus → 0 ≡ join_code n v (level_of s k xs)
      unfolding join_code
      join_fits f g = rw (some_is, lt-ltb (r.qty + v) modulus f, lt-ltb (r.orders + 1) modulus g) refl

      pub join_many : modulus ≤ r.orders + 1 → 7 ≡ join_code n v (level_of s k xs)
      unfolding join_code
      join_many g = rw (some_is, le-ltb (r.orders + 1) modulus g, and-false (ltb (r.qty + v) modulus)) refl

      pub join_outside : modulus ≤ r.qty + v → 7 ≡ join_code n v (level_of s k xs)
      unfolding join_code
      join_outside f = rw (some_is, le-ltb (r.qty + v) modulus f) refl

    module _ (v w : ℕ) where
      pub show_fits : v ≤ r.qty → r.qty - v + w < modulus → 0 ≡ show_code v w (level_of s k xs)
      unfolding show_code
      show_fits f g = rw (some_is, le-leb v r.qty f, lt-ltb (r.qty - v + w) modulus g) refl

      pub show_outside : v ≤ r.qty → modulus ≤ r.qty - v + w → 7 ≡ show_code v w (level_of s k xs)
      unfolding show_code
      show_outside f g = rw (some_is, le-leb v r.qty f, le-ltb (r.qty - v + w) modulus g) refl

      pub show_more : r.qty < v → 8 ≡ show_code v w (level_of s k xs)
      unfolding show_code
      show_more f = rw (some_is, lt-leb v r.qty f) refl

    module _ (v : ℕ) where
      pub leave_fits : v ≤ r.qty → (0 ≡ leave_code v (level_of s k xs)) × (◌≡◌ {A = ℕ} 0 0 → L.CanRemove v (level_of s k xs))
      unfolding leave_code
      leave_fits f =
          let g : L.IsAt s xs i k true = rw e at h in
          (rw (some_is, le-leb v r.qty f) refl, λ _. rw some_is (f, omega (arith, g.2, ap (λ (x : Row). x.orders) q)))

      pub leave_more : r.qty < v → (8 ≡ leave_code v (level_of s k xs)) × (◌≡◌ {A = ℕ} 8 0 → L.CanRemove v (level_of s k xs))
      unfolding leave_code
      leave_more f = (rw (some_is, lt-leb v r.qty f) refl, λ z. absurd (omega arith))

pub can_join : (n v : ℕ) (o : Option Row) {c : ℕ} → c ≡ join_code n v o → c ≡ 0 → L.CanAdd n v o
unfolding join_code
can_join n v None e z = ltb-true n most_levels (zero_then (ltb n most_levels) 0 4 (sym e ∙ z)).0
can_join n v (Some r) e z =
    let t = (and-eq-true_iff (ltb (r.qty + v) modulus) (ltb (r.orders + 1) modulus)).0 (zero_then _ 0 6 (sym e ∙ z)).0 in
    (ltb-true (r.qty + v) modulus t.0, ltb-true (r.orders + 1) modulus t.1)

pub can_show : (v w : ℕ) (o : Option Row) {c : ℕ} → c ≡ show_code v w o → c ≡ 0 → L.CanShow v w o
unfolding show_code
can_show v w None e z = absurd (omega (arith, e, z))
can_show v w (Some r) e z =
    let t = zero_then (leb v r.qty) _ 7 (sym e ∙ z) in
    (leb-true v r.qty t.0, λ _. ltb-true (r.qty - v + w) modulus (zero_then (ltb (r.qty - v + w) modulus) 0 6 t.1).0)

pub levels_done : {xs ys : List ℕ} {s : Side} {l : List Row} (code : ℕ) {c : ℕ} → Stands xs → c ≡ code → c ≡ 0 → L.Did s xs ys l → Ends code (L.Did s xs ys l) (ys ≡ xs) c ys
levels_done code st e z d = does code e z d (levels_stand st d)

pub ruleset of_levels = (rules, refuses, table_of, qty_is, qty_none, level_inside, place_inside, join_new, join_full, show_none, levels_done)
