-- The difference kit: an integer is p ⊖ q, p − q for two naturals. Sums, orders and equations of such integers are those of naturals, which `omega` proves.
-- Assumes nothing.
use mathlib.Core.Path.{◌≡◌, refl, sym, ◌∙◌, ap}
use mathlib.Core.Bool.{Bool, true, false, cond}
use Prim.Native.Nat.{ℕ, zero, suc, ◌+◌, ◌-◌, ◌≤◌, ◌<◌}
use native.Mathlib.Omega.{arith}
use lib.Dec.{ltb, leb}
use lib.IntN.{ℤ, pos, negsuc, neg_ℤ, ◌+ℤ◌, ◌-ℤ◌}
use lib.Signed.{le_z}
use borrow.Author.Tests.{ltb-true, ltb-false, leb-true, leb-false, le-leb, lt-leb}
use Rattle.words.specs.Words.{◌⊖◌}

-- a difference is one of the two forms, with an equation that omega reads
pub ⊖_ind : (P : ℤ → Type 0) (p q : ℕ) → ((n : ℕ) → p ≡ q + n → P (pos n)) → ((n : ℕ) → q ≡ p + suc n → P (negsuc n)) → P (p ⊖ q)
unfolding ◌⊖◌
⊖_ind P p q f g = go (ltb p q) refl
  where
    go : (b : Bool) → ltb p q ≡ b → P (cond b (negsuc (q - suc p)) (pos (p - q)))
    go true e = g (q - suc p) (omega (arith, ltb-true p q e))
    go false e = f (p - q) (omega (arith, ltb-false p q e))

pub pos_is : (n p q : ℕ) → p ≡ q + n → pos n ≡ p ⊖ q
pos_is n p q h = ⊖_ind (λ z. pos n ≡ z) p q (λ m e. ap pos (omega arith)) (λ m e. absurd (omega arith))

pub negsuc_is : (n p q : ℕ) → q ≡ p + suc n → negsuc n ≡ p ⊖ q
negsuc_is n p q h = ⊖_ind (λ z. negsuc n ≡ z) p q (λ m e. absurd (omega arith)) (λ m e. ap negsuc (omega arith))

pub ⊖_same : (p q r s : ℕ) → p + s ≡ r + q → p ⊖ q ≡ r ⊖ s
⊖_same p q r s h = ⊖_ind (λ z. z ≡ r ⊖ s) p q (λ n e. pos_is n r s (omega arith)) (λ n e. negsuc_is n r s (omega arith))

pub ⊖_neg : (p q : ℕ) → neg_ℤ (p ⊖ q) ≡ q ⊖ p
⊖_neg p q = ⊖_ind (λ z. neg_ℤ z ≡ q ⊖ p) p q (λ n e. go n e) (λ n e. pos_is (suc n) q p (omega arith))
  where
    go : (n : ℕ) → p ≡ q + n → neg_ℤ (pos n) ≡ q ⊖ p
    go zero e = pos_is 0 q p (omega arith)
    go (suc n) e = negsuc_is n q p (omega arith)

pub ⊖_add : (p q r s : ℕ) → (p ⊖ q) +ℤ (r ⊖ s) ≡ (p + r) ⊖ (q + s)
unfolding ◌⊖◌
⊖_add p q r s =
    ⊖_ind (λ z. z +ℤ (r ⊖ s) ≡ (p + r) ⊖ (q + s)) p q
    (λ n e. ⊖_ind (λ z. pos n +ℤ z ≡ (p + r) ⊖ (q + s)) r s
    (λ m d. pos_is (n + m) (p + r) (q + s) (omega arith))
    (λ m d. ⊖_same n (suc m) (p + r) (q + s) (omega arith)))
    (λ n e. ⊖_ind (λ z. negsuc n +ℤ z ≡ (p + r) ⊖ (q + s)) r s
    (λ m d. ⊖_same m (suc n) (p + r) (q + s) (omega arith))
    (λ m d. negsuc_is (suc (n + m)) (p + r) (q + s) (omega arith)))

pub ⊖_sub : (p q r s : ℕ) → (p ⊖ q) -ℤ (r ⊖ s) ≡ (p + s) ⊖ (q + r)
⊖_sub p q r s = rw ⊖_neg (⊖_add p q s r)

pub leb_same : (a b c d : ℕ) → (a ≤ b → c ≤ d) → (b < a → d < c) → leb a b ≡ leb c d
leb_same a b c d f g = go (leb a b) refl
  where
    go : (t : Bool) → leb a b ≡ t → t ≡ leb c d
    go true e = sym (le-leb c d (f (leb-true a b e)))
    go false e = sym (lt-leb c d (g (leb-false a b e)))

pub ⊖_le : (p q r s : ℕ) → le_z (p ⊖ q) (r ⊖ s) ≡ leb (p + s) (r + q)
⊖_le p q r s =
    ⊖_ind (λ z. le_z z (r ⊖ s) ≡ leb (p + s) (r + q)) p q
    (λ n e. ⊖_ind (λ z. le_z (pos n) z ≡ leb (p + s) (r + q)) r s
    (λ m d. leb_same n m (p + s) (r + q) (omega arith) (omega arith))
    (λ m d. sym (lt-leb (p + s) (r + q) (omega arith))))
    (λ n e. ⊖_ind (λ z. le_z (negsuc n) z ≡ leb (p + s) (r + q)) r s
    (λ m d. sym (le-leb (p + s) (r + q) (omega arith)))
    (λ m d. leb_same m n (p + s) (r + q) (omega arith) (omega arith)))

pub neg_is : (n : ℕ) → neg_ℤ (pos n) ≡ 0 ⊖ n
neg_is n = ap neg_ℤ (pos_is n n 0 (omega arith)) ∙ ⊖_neg n 0

pub sum3 : {x y z : ℤ} (b t o n : ℕ) → x ≡ t ⊖ b → y ≡ o ⊖ b → z ≡ n ⊖ b → x -ℤ y +ℤ z ≡ (t + n) ⊖ (o + b)
sum3 b t o n p q r = (λ i. p i -ℤ q i +ℤ r i) ∙ ap (λ (v : ℤ). v +ℤ (n ⊖ b)) (⊖_sub t b o b) ∙ ⊖_add (t + b) (b + o) n b ∙ ⊖_same (t + b + n) (b + o + b) (t + n) (o + b) (omega arith)

pub sum5 : {x y z u v : ℤ} (b t o n o2 n2 : ℕ) → x ≡ t ⊖ b → y ≡ o ⊖ b → z ≡ n ⊖ b → u ≡ o2 ⊖ b → v ≡ n2 ⊖ b → x -ℤ y +ℤ z -ℤ u +ℤ v ≡ (t + (n + n2)) ⊖ (o + o2 + b)
sum5 b t o n o2 n2 p q r d e =
    (λ i. sum3 b t o n p q r i -ℤ d i +ℤ e i) ∙ ap (λ (w : ℤ). w +ℤ (n2 ⊖ b)) (⊖_sub (t + n) (o + b) o2 b) ∙ ⊖_add (t + n + b) (o + b + o2) n2 b
    ∙ ⊖_same (t + n + b + n2) (o + b + o2 + b) (t + (n + n2)) (o + o2 + b) (omega arith)

pub diff2 : {x y : ℤ} (b t o : ℕ) → x ≡ t ⊖ b → y ≡ o ⊖ b → x -ℤ y ≡ t ⊖ o
diff2 b t o p q = (λ i. p i -ℤ q i) ∙ ⊖_sub t b o b ∙ ⊖_same (t + b) (b + o) t o (omega arith)

-- orders of numbers by sign and size
pub le_neg_neg : (m n : ℕ) → le_z (neg_ℤ (pos m)) (neg_ℤ (pos n)) ≡ leb n m
le_neg_neg m n = rw (neg_is m, neg_is n) (⊖_le 0 m 0 n ∙ leb_same (0 + n) (0 + m) n m (omega arith) (omega arith))

pub le_neg_pos : (m n : ℕ) → le_z (neg_ℤ (pos m)) (pos n) ≡ true
le_neg_pos m n = rw (neg_is m, pos_is n n 0 (omega arith)) (⊖_le 0 m n 0 ∙ le-leb (0 + 0) (n + m) (omega arith))

pub le_pos_neg : (m n : ℕ) → le_z (pos m) (neg_ℤ (pos n)) ≡ leb (m + n) 0
le_pos_neg m n = rw (neg_is n, pos_is m m 0 (omega arith)) (⊖_le m 0 0 n ∙ leb_same (m + n) (0 + 0) (m + n) 0 (omega arith) (omega arith))

-- amount ≤ total − held
pub within : {x y z : ℤ} (b t h a : ℕ) → x ≡ t ⊖ b → y ≡ h ⊖ b → z ≡ a ⊖ b → le_z z (x -ℤ y) ≡ leb (a + h) (t + b)
within b t h a p q r = (λ i. le_z (r i) (diff2 b t h p q i)) ∙ ⊖_le a b t h
