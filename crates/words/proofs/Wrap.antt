-- Numbers modulo 2^64: the word of a number, and what changes with it. Assumes nothing.
use Rattle.std.specs.Prelude.{Some, None, unwrap_or}
use mathlib.Core.Path.{◌≡◌, refl, sym, ap, ◌∙◌}
use mathlib.Core.Bool.{Bool, true, false}
use Prim.Native.Nat.{ℕ, ◌+◌, ◌-◌, ◌*◌, ◌/◌, ◌%◌, ◌≤◌, ◌<◌}
use native.Mathlib.Omega.{arith}
use lib.Dec.{ltb}
use borrow.Author.Tests.{ltb-true, ltb-false}
use lib.IntN.{ℤ, pos, negsuc, ◌+ℤ◌, ◌-ℤ◌}
use Rattle.words.specs.Words.{half, least, most, int, ◌⊖◌, Place, inside, above, below, place_of, nearest_to, fit_in, fit, clamp, wrap, modulus}
use Rattle.words.proofs.Diff.{⊖_ind, pos_is, negsuc_is, ⊖_add, ⊖_sub}
use Rattle.words.proofs.Int.{int_zero, int_most, int_least, low_is, high, high_is}
use Rattle.words.proofs.Fit.{lies_in, lies_above, lies_below}

by_order : {P : Type 0} (m n : ℕ) → (m < n → P) → (n ≤ m → P) → P
by_order {P} m n f g = go (ltb m n) refl
  where
    go : (b : Bool) → ltb m n ≡ b → P
    go true e = f (ltb-true m n e)
    go false e = g (ltb-false m n e)

-- r is p − q modulo 2^64
pub record Wraps (r p q : ℕ) : Type 0 where
  pub small : r < modulus
  pub up : ℕ
  pub down : ℕ
  pub same : r + q + modulus * up ≡ p + modulus * down

pub wrap_is : (r p q : ℕ) → Wraps r p q → wrap (p ⊖ q) ≡ r
unfolding wrap
wrap_is r p q w = ⊖_ind (λ z. wrap z ≡ r) p q (λ n e. omega (arith, w.small, w.same)) (λ n e. omega (arith, w.small, w.same))

pub wraps : (p q : ℕ) → Wraps (wrap (p ⊖ q)) p q
unfolding wrap
wraps p q =
    ⊖_ind (λ z. Wraps (wrap z) p q) p q
    (λ n e. record { small = omega arith; up = n / modulus; down = 0; same = omega arith })
    (λ n e. record { small = omega arith; up = 0; down = n / modulus + 1; same = omega arith })

-- every number is a difference; a word's is the word less a multiple of 2^64
pub diff_of : (z : ℤ) → (p : ℕ) × (q : ℕ) × (z ≡ p ⊖ q)
diff_of (pos n) = (n, 0, pos_is n n 0 (omega arith))
diff_of (negsuc n) = (0, n + 1, negsuc_is n 0 (n + 1) (omega arith))

pub word_diff : (w : ℕ) → w < modulus → (j : ℕ) × (int w ≡ w ⊖ (modulus * j))
word_diff w f = by_order w half (λ l. (0, low_is w w (modulus * 0) l (omega arith))) (λ l. (1, high w f l))

pub wrap_small : (z : ℤ) → wrap z < modulus
unfolding wrap
wrap_small (pos n) = omega arith
wrap_small (negsuc n) = omega arith

pub wrap_int : (w : ℕ) → w < modulus → wrap (int w) ≡ w
wrap_int w f = let (j, e) = word_diff w f in ap wrap e ∙ wrap_is w w (modulus * j) (record { small = f; up = 0; down = j; same = omega arith })

-- the sum of three differences
sum_is : (x y z : ℤ) (p q u v m n : ℕ) → x ≡ p ⊖ q → y ≡ u ⊖ v → z ≡ m ⊖ n → x -ℤ y +ℤ z ≡ (p + v + m) ⊖ (q + u + n)
sum_is x y z p q u v m n e f g = (λ i. e i -ℤ f i +ℤ g i) ∙ ap (λ (k : ℤ). k +ℤ (m ⊖ n)) (⊖_sub p q u v) ∙ ⊖_add (p + v) (q + u) m n

shift_words : (t o n d r a b c j k : ℕ) → r < modulus → d + o ≡ t + modulus * j → d + n ≡ r + modulus * k → Wraps r (t + modulus * b + n) (modulus * a + o + modulus * c)
shift_words t o n d r a b c j k f p q = record { small = f; up = b + k; down = a + c + j; same = omega arith }

-- a part of a total changes from the number of o to the number of n
pub shift_is : (t o n d r : ℕ) → t < modulus → o < modulus → n < modulus → (d + o) % modulus ≡ t → r ≡ (d + n) % modulus → r ≡ wrap (int t -ℤ int o +ℤ int n)
shift_is t o n d r ft fo fn p q =
    let (a, ea) = word_diff t ft in
    let (b, eb) = word_diff o fo in
    let (c, ec) = word_diff n fn in
    let x : d + o ≡ t + modulus * ((d + o) / modulus) = omega (arith, p) in
    let y : d + n ≡ r + modulus * ((d + n) / modulus) = omega (arith, q) in
    sym
    (ap wrap (sum_is (int t) (int o) (int n) t (modulus * a) o (modulus * b) n (modulus * c) ea eb ec)
    ∙ wrap_is r (t + modulus * b + n) (modulus * a + o + modulus * c) (shift_words t o n d r a b c _ _ (omega (arith, q)) x y))

shift_sum : (w r p q v u m n a su sd tu td : ℕ) → w + q + modulus * su ≡ p + modulus * sd → r + (q + u + n) + modulus * tu ≡ p + v + m + modulus * td →
    r + (modulus * a + u + n) + modulus * (tu + sd) ≡ w + v + m + modulus * (td + su + a)
shift_sum w r p q v u m n a su sd tu td s t = omega arith

-- only the total's word counts
pub wrap_shift : (z x y : ℤ) → wrap (int (wrap z) -ℤ x +ℤ y) ≡ wrap (z -ℤ x +ℤ y)
wrap_shift z x y =
    let (p, q, e) = diff_of z in
    let (u, v, f) = diff_of x in
    let (m, n, g) = diff_of y in
    let s = wraps p q in
    let t = wraps (p + v + m) (q + u + n) in
    let w = wrap (p ⊖ q) in
    let (a, ea) = word_diff w s.small in
    ap wrap (sum_is (int (wrap z)) x y w (modulus * a) u v m n (ap (λ k. int (wrap k)) e ∙ ea) f g)
    ∙ wrap_is _ (w + v + m) (modulus * a + u + n)
    (record { small = t.small; up = t.up + s.down; down = t.down + s.up + a; same = shift_sum w _ p q v u m n a s.up s.down t.up t.down s.same t.same })
    ∙ sym (ap wrap (sum_is z x y p q u v m n e f g))

-- a number that fits is its word's
fits_wrap : (p q : ℕ) → p < q + half → q ≤ p + half → int (wrap (p ⊖ q)) ≡ p ⊖ q
fits_wrap p q l k =
    let r = wrap (p ⊖ q) in
    let w = wraps p q in
    by_order r half (λ h. low_is r p q h (omega (arith, w.small, w.same))) (λ h. high_is r p q w.small h (omega (arith, w.small, w.same)))

-- where a number lies, and what its word is there
by_place : (P : Place → Type 0) (p q : ℕ) → (int (wrap (p ⊖ q)) ≡ p ⊖ q → P (inside (p ⊖ q))) → P above → P below → P (place_of (p ⊖ q))
by_place P p q f g h =
    by_order p (q + half)
    (λ l. by_order (p + half) q (λ k. rw (← lies_below p q refl k) h) (λ k. let e = fits_wrap p q l k in rw (← lies_in (wrap (p ⊖ q)) p q refl e l k, e) (f e)))
    (λ l. rw (← lies_above p q refl l) g)

int_most_wraps : int (wrap most) ≡ most
int_most_wraps = ap (λ z. int (wrap z)) (sym int_most) ∙ ap int (wrap_int (half - 1) (omega arith)) ∙ int_most

int_least_wraps : int (wrap least) ≡ least
int_least_wraps = ap (λ z. int (wrap z)) (sym int_least) ∙ ap int (wrap_int half (omega arith)) ∙ int_least

pub int_zero_wraps : int (wrap (pos 0)) ≡ pos 0
int_zero_wraps = ap (λ z. int (wrap z)) (sym int_zero) ∙ ap int (wrap_int 0 (omega arith)) ∙ int_zero

pub int_wrap : (z : ℤ) → (fit z ≡ None → ⊥) → int (wrap z) ≡ z
int_wrap z h = let (p, q, e) = diff_of z in rw e (by_place (λ x. (fit_in x ≡ None → ⊥) → int (wrap (p ⊖ q)) ≡ p ⊖ q) p q (λ f _. f) (λ n. absurd (n refl)) (λ n. absurd (n refl)) (λ x. h (ap fit e ∙ x)))

-- the nearest number that fits, and a number that fits or else d
pub clamp_wraps : (z : ℤ) → int (wrap (clamp z)) ≡ clamp z
clamp_wraps z = let (p, q, e) = diff_of z in rw e (by_place (λ x. int (wrap (nearest_to x)) ≡ nearest_to x) p q (λ f. f) int_most_wraps int_least_wraps)

pub fit_wraps : (z d : ℤ) → int (wrap d) ≡ d → int (wrap (unwrap_or (fit z) d)) ≡ unwrap_or (fit z) d
fit_wraps z d k = let (p, q, e) = diff_of z in rw e (by_place (λ x. int (wrap (unwrap_or (fit_in x) d)) ≡ unwrap_or (fit_in x) d) p q (λ f. f) k k)

-- a word's number fits
pub fit_int : (w : ℕ) → w < modulus → fit (int w) ≡ Some (int w)
fit_int w f =
    by_order w half
    (λ l. sym (ap fit_in (lies_in w w 0 (low_is w w 0 l (omega arith)) (low_is w w 0 l (omega arith)) (omega arith) (omega arith))))
    (λ l. sym (ap fit_in (lies_in w w modulus (high w f l) (high w f l) (omega arith) (omega arith))))
