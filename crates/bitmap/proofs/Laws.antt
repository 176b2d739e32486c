-- The bits of a block, and what a search in them has passed. Assumes nothing.
use mathlib.Core.Path.{◌≡◌, refl, sym, ap, ◌∙◌}
use mathlib.Core.Logic.{⊎_elim}
use mathlib.Core.List.{List}
use Prim.Native.Nat.{ℕ, zero, suc, ◌+◌, ◌*◌, ◌-◌, ◌/◌, ◌%◌, ◌≤◌, ◌<◌}
use native.Mathlib.Numerals.{add-one}
use native.Mathlib.Omega.{arith}
use borrow.Author.Tests.{eq-eqb, ne_eqb, lt-ltb, le-ltb}
use Rattle.table.proofs.Live.{same?}
use Rattle.le.proofs.Laws.{lt_or_le}
use Rattle.store.specs.Layout.{cell, Cell, Holds, Set}
use Rattle.store.specs.View.{Store, Same, Is}
use Rattle.store.proofs.Rows.{is_itself, same_write, same_trans, then_set}
use Rattle.bitmap.specs.Bitmap.{digit, with_digit, FirstZero, LastZero, Map, bit, put_cell, put_bit, emptied, Taken, FirstFree, LastFree, far, Nearest}
use Rattle.bitmap.proofs.Digits.{digit_beyond, digit_put, digit_kept}

-- ---- a bit of a block

-- a block of zeros
pub zeros_bit : (b : ℕ) (s : Store) (j : ℕ) → s b (j / 64) 0 ≡ 0 → bit b s j ≡ 0
unfolding bit
zeros_bit b s j e = ap (λ w. digit w (j % 64)) e ∙ digit_beyond 0 0 (j % 64) (omega arith) (omega arith)

-- the bits of a block are those of its cells
pub same_bit : (b : ℕ) (s t : Store) (j : ℕ) → s b (j / 64) 0 ≡ t b (j / 64) 0 → bit b s j ≡ bit b t j
unfolding bit
same_bit b s t j e = ap (λ w. digit w (j % 64)) e

module _ (b j v : ℕ) (s : Store) where
  -- every other block, and every other cell
  pub put_block : (d : ℕ) → (d ≡ b → ⊥) → put_bit b j v s d ≡ s d
  unfolding put_cell
  put_block d n = λ z i k. at i k z
    where
      at : (i k : ℕ) → put_bit b j v s d i k ≡ s d i k
      at i k = rw (ne_eqb d b n) refl

  pub put_there : (d i k : ℕ) → (d ≡ b → i ≡ j / 64 → k ≡ 0 → ⊥) → put_bit b j v s d i k ≡ s d i k
  unfolding put_cell
  put_there d i k n =
      ⊎_elim
      (λ (e : d ≡ b).
      ⊎_elim
      (λ (f : i ≡ j / 64). rw (e, f, eq-eqb b b refl, eq-eqb (j / 64) (j / 64) refl, ne_eqb k 0 (n e f)) refl)
      (λ ne. rw (e, eq-eqb b b refl, ne_eqb i (j / 64) ne) refl)
      (same? i (j / 64)))
      (λ ne. rw (ne_eqb d b ne) refl)
      (same? d b)

  put_word : put_bit b j v s b (j / 64) 0 ≡ with_digit (s b (j / 64) 0) (j % 64) v
  unfolding put_cell
  put_word = simp (eq-eqb b b refl, eq-eqb (j / 64) (j / 64) refl)

pub put_same : (b j v : ℕ) (s : Store) → v ≤ 1 → bit b (put_bit b j v s) j ≡ v
unfolding bit
put_same b j v s h =
    ap (λ w. digit w (j % 64)) (put_word b j v s) ∙ digit_put (s b (j / 64) 0) (j % 64) v (omega arith) h

pub put_other : (b i j v : ℕ) (s : Store) → v ≤ 1 → (i ≡ j → ⊥) → bit b (put_bit b j v s) i ≡ bit b s i
unfolding bit
put_other b i j v s h n =
    ⊎_elim
    (λ (e : i / 64 ≡ j / 64).
    rw e
    (ap (λ w. digit w (i % 64)) (put_word b j v s)
    ∙ digit_kept (s b (j / 64) 0) (j % 64) v (omega arith) h (i % 64) (λ f. n (omega arith))))
    (λ ne. ap (λ w. digit w (i % 64)) (put_there b j v s b (i / 64) 0 (λ d e k. ne e)))
    (same? (i / 64) (j / 64))

-- ---- what is written

pub put_is : {xs ys : List ℕ} (b j w v r : ℕ) → Holds xs → Cell b (j / 64) 0 → w ≡ cell xs b (j / 64) 0 → r ≡ with_digit w (j % 64) v →
    Set xs ys b (j / 64) 0 r → Is ys (put_bit b j v (cell xs))
unfolding put_cell
put_is {xs} b j w v r h c e f p = then_set (is_itself h) c (rw (f, e) at p)

-- after writes that left s
pub same_put : (b j v : ℕ) (s t : Store) → Cell b (j / 64) 0 → Same s t → Same (put_bit b j v s) (put_bit b j v t)
unfolding put_cell
same_put b j v s t c p = rw (p b (j / 64) 0 c) (same_write s t b (j / 64) 0 (with_digit (t b (j / 64) 0) (j % 64) v) p)

pub then_put : {ys zs : List ℕ} {s : Store} (b j v : ℕ) → Cell b (j / 64) 0 → Is ys s → Is zs (put_bit b j v (cell ys)) → Is zs (put_bit b j v s)
then_put {ys} {zs} {s} b j v c p q =
    record { holds = q.holds; same = same_trans (cell zs) (put_bit b j v (cell ys)) (put_bit b j v s) q.same (same_put b j v (cell ys) s c p.same) }

-- ---- what is searched

taken_on : (b : ℕ) (s : Store) (i j k : ℕ) → Taken b s i j → Taken b s j k → Taken b s i k
taken_on b s i j k p q a l h = ⊎_elim (p a l) (λ m. q a m h) (lt_or_le a j)

-- a bit of the row g
bit_in : (b : ℕ) (s : Store) (g a : ℕ) → 64 * g ≤ a → a < 64 * g + 64 → bit b s a ≡ digit (s b g 0) (a - 64 * g)
unfolding bit
bit_in b s g a l h =
    let e : a / 64 ≡ g = omega arith in
    let f : a % 64 ≡ a - 64 * g = omega arith in
    rw (e, f) refl

-- the row of cells in which a bit stands
pub map_cell : (b n i : ℕ) → Map b n → i < n → Cell b (i / 64) 0
map_cell b n i m l = record { block_is = m.block_is; row_is = omega (arith, m.size); cell_is = m.wide }

-- the rows from j up to i are taken
pub record Up (b : ℕ) (s : Store) (n j i : ℕ) : Type 0 where
  pub from : j ≤ i
  pub to : i ≤ n
  pub taken : Taken b s j i

pub up_none : (b : ℕ) (s : Store) (n j : ℕ) → j ≤ n → Up b s n j j
up_none b s n j h = record { from = omega arith; to = h; taken = λ a l k. absurd (omega arith) }

module _ (b : ℕ) (s : Store) (n j i w r : ℕ) (m : Map b n) (u : Up b s n j i) (l : i < n) (e : w ≡ s b (i / 64) 0) (z : FirstZero w (i % 64) r) where
  pub up_more : Up b s n j (64 * (i / 64) + r)
  up_more =
      record {
        from = omega (arith, u.from, z.from);
        to = omega (arith, z.to, m.size);
        taken = taken_on b s j i (64 * (i / 64) + r) u.taken
            (λ a h k. bit_in b s (i / 64) a (omega arith) (omega (arith, z.to)) ∙ ap (λ x. digit x (a - 64 * (i / 64))) (sym e) ∙ z.ones (a - 64 * (i / 64)) (omega arith) (omega arith));
      }

  pub up_found : r < 64 → FirstFree b s n j (64 * (i / 64) + r)
  up_found h =
      let f : 64 * (i / 64) + r - 64 * (i / 64) ≡ r = omega arith in
      record {
        from = up_more.from;
        to = up_more.to;
        taken = up_more.taken;
        free = λ k. bit_in b s (i / 64) (64 * (i / 64) + r) (omega arith) (omega arith) ∙ rw (f, ← e) (z.zero_at h);
      }

pub up_all : (b : ℕ) (s : Store) (n j i : ℕ) → Up b s n j i → n ≤ i → FirstFree b s n j n
up_all b s n j i u l =
    let e : i ≡ n = omega (arith, u.to) in
    record { from = omega (arith, u.from); to = omega arith; taken = rw e at u.taken; free = λ h. absurd (omega arith) }

-- and those from i up to j
pub record Down (b : ℕ) (s : Store) (j i : ℕ) : Type 0 where
  pub to : i ≤ j
  pub taken : Taken b s i j

pub down_none : (b : ℕ) (s : Store) (j : ℕ) → Down b s j j
down_none b s j = record { to = omega arith; taken = λ a l k. absurd (omega arith) }

module _ (b : ℕ) (s : Store) (j i w r : ℕ) (d : Down b s j i) (l : 0 < i) (e : w ≡ s b ((i - 1) / 64) 0) (z : LastZero w (i - 64 * ((i - 1) / 64)) r) where
  abbrev g : ℕ
  g = (i - 1) / 64

  pub down_more : Down b s j (64 * g + r)
  down_more =
      record {
        to = omega (arith, d.to, z.to);
        taken = taken_on b s (64 * g + r) i j
            (λ a h k. bit_in b s g a (omega arith) (omega arith) ∙ ap (λ x. digit x (a - 64 * g)) (sym e) ∙ z.ones (a - 64 * g) (omega arith) (omega arith))
            d.taken;
      }

  pub down_found : 0 < r → LastFree b s j (64 * g + r)
  down_found h =
      let f : 64 * g + r - 1 - 64 * g ≡ r - 1 = omega arith in
      record {
        to = down_more.to;
        taken = down_more.taken;
        free = λ k. bit_in b s g (64 * g + r - 1) (omega arith) (omega (arith, z.to)) ∙ rw (f, ← e) (z.zero_at h);
      }

pub down_all : (b : ℕ) (s : Store) (j i : ℕ) → Down b s j i → i ≤ 0 → LastFree b s j 0
down_all b s j i d l =
    let e : i ≡ 0 = omega arith in
    record { to = omega arith; taken = rw e at d.taken; free = λ h. absurd (omega arith) }

-- ---- the nearest of the two that are found

far_before : (j a : ℕ) → a < j → far j a ≡ 2 * (j - 1 - a) + 1
far_before j a h = rw (lt-ltb a j h) refl

far_from : (j a : ℕ) → j ≤ a → far j a ≡ 2 * (a - j)
far_from j a h = rw (le-ltb a j h) refl

module _ (b : ℕ) (s : Store) (n j up down : ℕ) (l : j ≤ n) (u : FirstFree b s n j up) (d : LastFree b s j down) where
  -- the first one from j on, where those before it are taken as far as it is away
  up_is : ((a : ℕ) → a < j → j - 1 - a < up - j → down ≤ a) → (up ≡ n → down ≡ 0) → Nearest b s n j up
  up_is low e =
      record {
        to = u.to;
        free = u.free;
        near = λ a k f.
            ⊎_elim
            (λ (h : a < j). d.taken a (low a h (omega (arith, far_before j a h, far_from j up u.from))) h)
            (λ (h : j ≤ a). u.taken a h (omega (arith, far_from j a h, far_from j up u.from)))
            (lt_or_le a j);
        full = λ f. taken_on b s 0 j n (rw (e f) at d.taken) (rw f at u.taken);
      }

  pub only_up : down ≡ 0 → Nearest b s n j up
  only_up e = up_is (λ a h k. omega arith) (λ _. e)

  pub nearer_up : up < n → up - j ≤ j - down → Nearest b s n j up
  nearer_up k near = up_is (λ a h m. omega arith) (λ e. absurd (omega arith))

  -- the last one before j, where those from j on are taken as far as it is away
  down_is : (down ≡ 0 → ⊥) → ((a : ℕ) → a < n → a - j ≤ j - down → a < up) → Nearest b s n j (down - 1)
  down_is h high =
      record {
        to = omega (arith, d.to);
        free = λ k. d.free (omega arith);
        near = λ a k f.
            let e = far_before j (down - 1) (omega (arith, d.to)) in
            ⊎_elim
            (λ (g : a < j). d.taken a (omega (arith, far_before j a g, e)) g)
            (λ (g : j ≤ a). u.taken a g (high a k (omega (arith, far_from j a g, e))))
            (lt_or_le a j);
        full = λ f. absurd (omega (arith, d.to));
      }

  pub nearer_down : (down ≡ 0 → ⊥) → j - down < up - j → Nearest b s n j (down - 1)
  nearer_down h k = down_is h (λ a g m. omega arith)

  pub only_down : (down ≡ 0 → ⊥) → n ≤ up → Nearest b s n j (down - 1)
  only_down h k = down_is h (λ a g m. omega arith)

-- what stands between, and at j itself
module _ {b : ℕ} {s : Store} {n j d : ℕ} (h : j ≤ n) (q : Nearest b s n j d) where
  pub near_up : Taken b s j d
  near_up a k l = q.near a (omega (arith, q.to)) (omega (arith, far_from j a k, far_from j d (omega arith)))

  pub near_down : Taken b s (d + 1) j
  near_down a k l = q.near a (omega arith) (omega (arith, far_before j a l, far_before j d (omega arith)))

  pub near_here : (d ≡ j → ⊥) → j < n → bit b s j ≡ 1
  near_here ne k =
      ⊎_elim
      (λ (l : d < j). q.near j k (omega (arith, far_from j j (omega arith), far_before j d l)))
      (λ l. near_up j (omega arith) (omega (arith, ne)))
      (lt_or_le d j)

-- ---- no bit is 1

pub emptied_none : {xs : List ℕ} (b : ℕ) → Holds xs → Is xs (emptied b 0 (cell xs))
unfolding emptied
emptied_none b h = is_itself h

pub emptied_more : (xs : List ℕ) {ys zs : List ℕ} (b g : ℕ) → Cell b g 0 → Is ys (emptied b g (cell xs)) → Set ys zs b g 0 0 → Is zs (emptied b (g + 1) (cell xs))
unfolding emptied
emptied_more xs b g c p q = rw (add-one g) (then_set p c q)

pub same_emptied : (b g : ℕ) (s t : Store) → Same s t → Same (emptied b g s) (emptied b g t)
unfolding emptied
same_emptied b zero s t e = e
same_emptied b (suc g) s t e = same_write (emptied b g s) (emptied b g t) b g 0 0 (same_emptied b g s t e)

pub then_emptied : {ys zs : List ℕ} {s : Store} (b g : ℕ) → Is ys s → Is zs (emptied b g (cell ys)) → Is zs (emptied b g s)
then_emptied {ys} {zs} {s} b g p q =
    record { holds = q.holds; same = same_trans (cell zs) (emptied b g (cell ys)) (emptied b g s) q.same (same_emptied b g (cell ys) s p.same) }

emptied_cell : (b g i : ℕ) (s : Store) → i < g → emptied b g s b i 0 ≡ 0
unfolding emptied
emptied_cell b zero i s h = absurd (omega arith)
emptied_cell b (suc g) i s h =
    ⊎_elim
    (λ (e : i ≡ g). simp (e, eq-eqb b b refl, eq-eqb g g refl))
    (λ ne. rw (eq-eqb b b refl, ne_eqb i g ne) (emptied_cell b g i s (omega (arith, ne))))
    (same? i g)

pub emptied_bit : (b g j : ℕ) (s : Store) → j < 64 * g → bit b (emptied b g s) j ≡ 0
emptied_bit b g j s h = zeros_bit b (emptied b g s) j (emptied_cell b g (j / 64) s (omega arith))

emptied_block : (b g : ℕ) (s : Store) (d i k : ℕ) → (d ≡ b → ⊥) → emptied b g s d i k ≡ s d i k
unfolding emptied
emptied_block b zero s d i k n = refl
emptied_block b (suc g) s d i k n = rw (ne_eqb d b n) (emptied_block b g s d i k n)

pub emptied_other : (b g d j : ℕ) (s : Store) → (d ≡ b → ⊥) → bit d (emptied b g s) j ≡ bit d s j
emptied_other b g d j s n = same_bit d (emptied b g s) s j (emptied_block b g s d (j / 64) 0 n)

pub ruleset laws = (put_is, map_cell, up_none, up_more, up_found, up_all, down_none, down_more, down_found, down_all, only_up, nearer_up, nearer_down, only_down, arith)
