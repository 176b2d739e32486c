-- The map of the rows that are in use and kept: what is put into it, and what keeps it. Assumes nothing.
use mathlib.Core.Path.{◌≡◌, refl, sym, ap, ap₂, ◌∙◌}
use mathlib.Core.Logic.{⊎_elim}
use mathlib.Core.Bool.{Bool, cond}
use Prim.Native.Nat.{ℕ, zero, suc, ◌+◌, ◌*◌, ◌-◌, ◌/◌, ◌%◌, ◌^◌, ◌≤◌, ◌<◌}
use native.Mathlib.Omega.{arith}
use borrow.Author.Tests.{ne_eqb, lt-ltb, le-ltb}
use lib.Dec.{ltb}
use lib.Pow.{pow_pos}
use Rattle.le.proofs.Laws.{lt_or_le}
use Rattle.table.proofs.Live.{same?}
use Rattle.bitmap.specs.Bitmap.{digit, bit}
use Rattle.bitmap.proofs.Digits.{digit_beyond, digit_not}
use Rattle.bitmap.proofs.Laws.{put_same, put_other, same_bit}
use Rattle.bitmap.proofs.Mapped.{mapped_ext, mapped_one}
use Rattle.store.specs.Cells as C
use Rattle.store.specs.View.{Row, Store, word, order_room}
use Rattle.orders.specs.Orders.{kept_at, KeptMap, set_bit, map_row, map_rows, remap, ones, map_words}

-- ---- one bit

-- the map of t has v for the bit i, and the other bits of s
pub record OneBit (i v : ℕ) (s t : Store) : Type 0 where
  pub here : bit C.order_map t i ≡ v
  pub others : (j : ℕ) → (j ≡ i → ⊥) → bit C.order_map t j ≡ bit C.order_map s j

-- t is u with the bit i set, where the map of u is that of s
pub one_bit : (i v : ℕ) (s u : Store) → v ≤ 1 → ((j : ℕ) → u C.order_map j C.map_bits ≡ s C.order_map j C.map_bits) → OneBit i v s (set_bit i v u)
one_bit i v s u h e =
    record {
      here = put_same C.order_map i v u h;
      others = λ j n. put_other C.order_map j i v u h n ∙ same_bit C.order_map u s j (e (j / 64));
    }

-- ---- what keeps the map

-- the same map, and the same rows in use
pub mapped_same : (s t : Store) → ((j : ℕ) → j < 32 → t C.order_map j C.map_bits ≡ s C.order_map j C.map_bits) → ((j : ℕ) → j < order_room → kept_at t j ≡ kept_at s j) → KeptMap s → KeptMap t
mapped_same s t e = mapped_ext C.order_map order_room s t (λ j h. same_bit C.order_map t s j (e (j / 64) (omega arith)))

-- the row i, in use now, has its bit, and the others are as they were
pub mapped_row : (i : ℕ) (s t : Store) → OneBit i (t C.orders i C.order_kept) s t → i < word t C.order_rows → ((j : ℕ) → (j ≡ i → ⊥) → kept_at t j ≡ kept_at s j) → KeptMap s → KeptMap t
mapped_row i s t f l k =
    mapped_one C.order_map order_room s t i (f.here ∙ sym (ap (λ b. cond b (t C.orders i C.order_kept) 0) (lt-ltb i (word t C.order_rows) l)))
    (λ j _ ne. f.others j ne) (λ j _ ne. k j ne)

-- ---- the map made anew

pub map_rows_other : (n : ℕ) (s : Store) (b i k : ℕ) → (b ≡ C.order_map → ⊥) → map_rows n s b i k ≡ s b i k
unfolding map_rows map_row
map_rows_other zero s b i k h = refl
map_rows_other (suc n) s b i k h = rw (ne_eqb b C.order_map h) (map_rows_other n s b i k h)

kept_same : (n : ℕ) (s : Store) (j : ℕ) → kept_at (map_rows n s) j ≡ kept_at s j
kept_same n s j =
    ap₂ (λ (r v : ℕ). cond (ltb j r) v 0) (map_rows_other n s C.header 0 C.order_rows (λ e. omega arith)) (map_rows_other n s C.orders j C.order_kept (λ e. omega arith))

map_rows_bit : (n : ℕ) (s : Store) (j : ℕ) → j < n → bit C.order_map (map_rows n s) j ≡ kept_at s j % 2
unfolding map_rows map_row
map_rows_bit zero s j h = absurd (omega arith)
map_rows_bit (suc n) s j h =
    let t = map_rows n s in
    let f = one_bit n (kept_at t n % 2) t t (omega arith) (λ i. refl) in
    ⊎_elim
    (λ (q : j ≡ n). rw q (f.here ∙ ap (λ v. v % 2) (kept_same n s n)))
    (λ q. f.others j q ∙ map_rows_bit n s j (omega (arith, q)))
    (same? j n)

-- of rows that are all kept
ones_bit : (n j : ℕ) → digit (ones n (j / 64)) (j % 64) ≡ cond (ltb j n) 1 0
ones_bit n j =
    let g = j / 64 in
    let k = j % 64 in
    let m = n - 64 * g in
    ⊎_elim
    (λ (l : m < 64).
    rw (lt-ltb m 64 l)
    (⊎_elim (λ (h : k < m). full m k h ∙ sym (ap (λ b. cond b 1 0) (lt-ltb j n (omega arith))))
    (λ h. digit_beyond (2 ^ m - 1) m k (omega (arith, pow_pos m)) h ∙ sym (ap (λ b. cond b 1 0) (le-ltb j n (omega arith))))
    (lt_or_le k m)))
    (λ l. rw (le-ltb m 64 l) (full 64 k (omega arith) ∙ sym (ap (λ b. cond b 1 0) (lt-ltb j n (omega arith)))))
    (lt_or_le m 64)
  where
    full : (d i : ℕ) → i < d → digit (2 ^ d - 1) i ≡ 1
    full d i h =
        let z = digit_beyond 0 0 i (omega arith) (omega arith) in
        let e : 2 ^ d - 1 ≡ 2 ^ d - 1 - 0 = omega arith in
        ap (λ w. digit w i) e ∙ digit_not d 0 i (pow_pos d) h ∙ omega arith

words_bit : (s : Store) (n j : ℕ) → j < order_room → bit C.order_map (map_words 32 n s) j ≡ cond (ltb j n) 1 0
unfolding bit map_words
words_bit s n j l = rw (lt-ltb (j / 64) 32 (omega arith)) (ones_bit n j)

pub words_mapped : (s : Store) (n : ℕ) → word s C.order_rows ≡ n → ((j : ℕ) → j < n → s C.orders j C.order_kept ≡ 1) → KeptMap (map_words 32 n s)
unfolding map_words
words_mapped s n e h =
    record {
      bits = λ j l.
          words_bit s n j l
          ∙ rw e
          (⊎_elim
          (λ (q : j < n). rw (lt-ltb j n q) (sym (h j q)))
          (λ q. rw (le-ltb j n q) refl)
          (lt_or_le j n));
    }

-- where the rows in use have 0 or 1
pub remapped : (s : Store) → ((j : ℕ) → j < word s C.order_rows → s C.orders j C.order_kept ≤ 1) → KeptMap (remap s)
unfolding remap
remapped s h =
    record { bits = λ j l. same_bit C.order_map (remap s) (map_rows order_room s) j refl ∙ map_rows_bit order_room s j l ∙ small j }
  where
    small : (j : ℕ) → kept_at s j % 2 ≡ kept_at s j
    small j =
        ⊎_elim
        (λ (l : j < word s C.order_rows). let k = h j l in rw (lt-ltb j (word s C.order_rows) l) (omega arith))
        (λ l. rw (le-ltb j (word s C.order_rows) l) refl)
        (lt_or_le j (word s C.order_rows))
