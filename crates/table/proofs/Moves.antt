-- Rows moved by their bytes.
-- Assumes nothing.
use mathlib.Core.Path.{◌≡◌, refl, ap}
use mathlib.Core.Logic.{inl, inr, ⊎_elim}
use mathlib.Core.List.{List}
use Prim.Native.Nat.{ℕ, ◌+◌, ◌*◌, ◌-◌, ◌/◌, ◌%◌, ◌≤◌, ◌<◌}
use native.Mathlib.Nat.{mul-suc, mul_assoc, mul-sub, mul-mod_right, mul-le-mul_left, mod-add-div}
use native.Mathlib.Numerals.{add-one}
use native.Mathlib.Omega.{arith}
use lib.ListN.{length}
use Rattle.std.specs.List.{CopiedTo, SameBelow, SameFrom}
use Rattle.le.specs.Le.{le, put, Bytes}
use Rattle.le.proofs.Laws.{outside_refl, outside_trans, outside_wider, outside_put, same_trans, same_outside, same_join, same_part, same_put}
use Rattle.table.specs.Table.{Moved, Opened, Closed}

-- ---- products, which omega takes for unknowns

pub next : (s i : ℕ) → s * (i + 1) ≡ s * i + s
next s i = rw add-one (mul-suc s i)

pub mono : (s : ℕ) {i j : ℕ} → i ≤ j → s * i ≤ s * j
mono s h = mul-le-mul_left s h

-- a row ends before the next one starts
pub step : (s : ℕ) {i j : ℕ} → i < j → s * i + s ≤ s * j
step s {i} {j} h =
    let k : i + 1 ≤ j = omega arith in
    omega (arith, next s i, mono s k)

pub minus : (s : ℕ) {i n : ℕ} → i ≤ n → s * i + s * (n - i) ≡ s * n
minus s {i} {n} h = omega (arith, mul-sub s n i, mono s h)

pub rest : (s : ℕ) {i n : ℕ} → i < n → s * i + s * (n - 1 - i) + s ≡ s * n
rest s {i} {n} h =
    let l : ℕ = n - 1 in
    let a : i ≤ l = omega arith in
    let e : l + 1 ≡ n = omega arith in
    omega (arith, minus s a, next s l, ap (λ (k : ℕ). s * k) e)

-- ---- bytes

pub moved_still : (xs : List ℕ) (o n : ℕ) → Moved xs xs o o n
moved_still xs o n = record { same = record { at = λ k l. refl }; frame = outside_refl o (o + n) xs }

pub moved_within : (xs ys : List ℕ) (o p n : ℕ) → length ys ≡ length xs → CopiedTo xs ys o p n × SameBelow xs ys p × SameFrom xs ys (p + n) → Moved xs ys o p n
moved_within xs ys o p n l h =
    record {
      same = record { at = λ k m. let e : p + k - p ≡ k = omega arith in rw e at (h.0 (p + k) 0 (omega arith) (omega arith)) };
      frame = record { len = l; at = λ i w. ⊎_elim (λ m. h.1 i 0 m) (λ m. h.2 i 0 m) w };
    }

-- ---- rows

-- rows of 32 bytes
pub up_by : {xs ys : List ℕ} (o s n : ℕ) → s ≡ 32 → Moved xs ys o (o + 32) n → Moved xs ys o (o + s) n
up_by o s n e m = rw e m

pub down_by : {xs ys : List ℕ} (p s n : ℕ) → s ≡ 32 → Moved xs ys (p + 32) p n → Moved xs ys (p + s) p n
down_by p s n e m = rw e m

-- the bytes of the rows from i up to n
pub bytes : (base s : ℕ) {i n : ℕ} → i ≤ n → base + s * n - (base + s * i) ≡ s * (n - i)
bytes base s h = omega (arith, minus s h)

-- and of those behind i
pub behind : (base s : ℕ) {i n : ℕ} → i < n → base + s * n - (base + s * i + s) ≡ s * (n - 1 - i)
behind base s h = omega (arith, rest s h)

pub opened : {xs ys : List ℕ} (base s n i : ℕ) → i ≤ n → Moved xs ys (base + s * i) (base + s * i + s) (base + s * n - (base + s * i)) → Opened base s n i xs ys
opened {xs} {ys} base s n i h d =
    let m : Moved xs ys (base + s * i) (base + s * i + s) (s * (n - i)) = rw (bytes base s h) at d in
    record {
      inside = h;
      before = λ j l. same_outside s (base + s * j) m.frame (inl (omega (arith, step s l)));
      behind = λ j l k.
          let a : ℕ = s * (j - i) in
          let e : base + s * i + a ≡ base + s * j = omega (arith, minus s l) in
          let e' : base + s * i + s + a ≡ base + s * (j + 1) = omega (arith, minus s l, next s j) in
          let q : j - i < n - i = omega arith in
          rw (e, e') at (same_part a s (step s q) m.same);
      frame = outside_wider _ _ (omega (arith, next s i)) (omega (arith, minus s h, next s n)) m.frame;
    }

pub closed : {xs ys : List ℕ} (base s n i : ℕ) → i < n → Moved xs ys (base + s * i + s) (base + s * i) (base + s * n - (base + s * i + s)) → Closed base s n i xs ys
closed {xs} {ys} base s n i h d =
    let m : Moved xs ys (base + s * i + s) (base + s * i) (s * (n - 1 - i)) = rw (behind base s h) at d in
    record {
      inside = h;
      before = λ j l. same_outside s (base + s * j) m.frame (inl (omega (arith, step s l)));
      behind = λ j l k.
          let a : ℕ = s * (j - i) in
          let e : base + s * i + s + a ≡ base + s * (j + 1) = omega (arith, minus s l, next s j) in
          let e' : base + s * i + a ≡ base + s * j = omega (arith, minus s l) in
          let q : j - i < n - 1 - i = omega arith in
          rw (e, e') at (same_part a s (step s q) m.same);
      frame = outside_wider _ _ (omega arith) (omega (arith, rest s h)) m.frame;
    }
