-- A list in three parts, rows of smaller keys than k, what stands at k, and rows of larger ones: what `without`, `insert`, `replace` and
-- `look` make of it.
-- Assumes nothing.
use Rattle.std.specs.Prelude.{Some, None}
use mathlib.Core.Path.{◌≡◌, refl, sym, ap, ◌∙◌}
use mathlib.Core.List.{List, [], ◌∷◌, ◌++◌, append-nil, append_assoc}
use mathlib.Core.Bool.{Bool, true, false, cond}
use Prim.Native.Nat.{ℕ, zero, suc, ◌+◌, ◌≤◌, ◌<◌}
use native.Mathlib.Omega.{arith}
use lib.Dec.{ltb}
use lib.ListN.{length, length-append}
use borrow.Author.Tests.{eq-eqb, ne_eqb, lt-ltb, le-ltb}
use Rattle.table.specs.Live.{pick, Each, without, look, insert, replace}

module _ {A : Type 0} where
  pub each_map : {P Q : A → Type 0} → ((r : A) → P r → Q r) → (l : List A) → Each P l → Each Q l
  each_map h [] e = tt
  each_map h (r ∷ l) e = (h r e.0, each_map h l e.1)

  pub each_append : (P : A → Type 0) (l m : List A) → Each P l → Each P m → Each P (l ++ m)
  each_append P [] m a b = b
  each_append P (r ∷ l) m a b = (a.0, each_append P l m a.1 b)

  pub each_pick : (P : A → Type 0) (n : ℕ) (r : A) → (0 < n → P r) → Each P (pick n r)
  each_pick P zero r h = tt
  each_pick P (suc n) r h = (h (omega arith), tt)

module _ {A : Type 0} (key : A → ℕ) where
  -- rows of other keys stay

  without_other : (k : ℕ) (l m : List A) → Each (λ r. key r ≡ k → ⊥) l → without key k (l ++ m) ≡ l ++ without key k m
  unfolding without
  without_other k [] m e = refl
  without_other k (r ∷ l) m e = rw (ne_eqb (key r) k e.0) (ap (λ (x : List A). r ∷ x) (without_other k l m e.1))

  replace_other : (r : A) (l m : List A) → Each (λ x. key x ≡ key r → ⊥) l → replace key r (l ++ m) ≡ l ++ replace key r m
  unfolding replace
  replace_other r [] m e = refl
  replace_other r (x ∷ l) m e = rw (ne_eqb (key x) (key r) e.0) (ap (λ (y : List A). x ∷ y) (replace_other r l m e.1))

  look_other : (k : ℕ) (l m : List A) → Each (λ r. key r ≡ k → ⊥) l → look key k (l ++ m) ≡ look key k m
  unfolding look
  look_other k [] m e = refl
  look_other k (r ∷ l) m e = rw (ne_eqb (key r) k e.0) (look_other k l m e.1)

  insert_low : (r : A) (l m : List A) → Each (λ x. key x < key r) l → insert key r (l ++ m) ≡ l ++ insert key r m
  unfolding insert
  insert_low r [] m e = refl
  insert_low r (x ∷ l) m e =
      let h : key x ≤ key r = omega (arith, e.0) in
      rw (le-ltb (key r) (key x) h) (ap (λ (y : List A). x ∷ y) (insert_low r l m e.1))

  insert_high : (r : A) (m : List A) → Each (λ x. key r < key x) m → insert key r m ≡ r ∷ m
  unfolding insert
  insert_high r [] e = refl
  insert_high r (x ∷ m) e = rw (lt-ltb (key r) (key x) e.0)

  -- a row that is looked for is found, and nothing is where no row has the key
  pub look_here : (k : ℕ) (l : List A) (r : A) (m : List A) → Each (λ x. key x ≡ k → ⊥) l → key r ≡ k → look key k (l ++ (r ∷ m)) ≡ Some r
  unfolding look
  look_here k l r m e h = look_other k l (r ∷ m) e ∙ rw (eq-eqb (key r) k h)

  pub look_nowhere : (k : ℕ) (l : List A) → Each (λ x. key x ≡ k → ⊥) l → look key k l ≡ None
  unfolding look
  look_nowhere k l e = rw (← append-nil l) (look_other k l [] e)

  -- p and q have x and y between rows of smaller and rows of larger keys than k
  pub record Swap (k : ℕ) (x y p q : List A) : Type 0 where
    pub low : List A
    pub high : List A
    pub from : p ≡ low ++ (x ++ high)
    pub to : q ≡ low ++ (y ++ high)
    pub less : Each (λ r. key r < k) low
    pub more : Each (λ r. k < key r) high

  pub swap_sym : {k : ℕ} {x y p q : List A} → Swap k x y p q → Swap k y x q p
  swap_sym s = record { low = s.low; high = s.high; from = s.to; to = s.from; less = s.less; more = s.more }

  pub swap_same : {k : ℕ} {x p q : List A} → Swap k x x p q → q ≡ p
  swap_same s = s.to ∙ sym s.from

  -- rows of larger keys behind both
  pub swap_behind : {k : ℕ} {x y p q : List A} (t : List A) → Swap k x y p q → Each (λ r. k < key r) t → Swap k x y (p ++ t) (q ++ t)
  swap_behind {k} {x} {y} {p} {q} t s e =
      record {
        low = s.low;
        high = s.high ++ t;
        from = ap (λ (l : List A). l ++ t) s.from ∙ behind x;
        to = ap (λ (l : List A). l ++ t) s.to ∙ behind y;
        less = s.less;
        more = each_append (λ r. k < key r) s.high t s.more e;
      }
    where
      behind : (v : List A) → (s.low ++ (v ++ s.high)) ++ t ≡ s.low ++ (v ++ (s.high ++ t))
      behind v = append_assoc s.low (v ++ s.high) t ∙ ap (λ (l : List A). s.low ++ l) (append_assoc v s.high t)

  pub swap_length : {k : ℕ} {x y p q : List A} → Swap k x y p q → length q + length x ≡ length p + length y
  swap_length {k} {x} {y} s =
      let a = ap length s.to ∙ length-append s.low (y ++ s.high) in
      let b = ap length s.from ∙ length-append s.low (x ++ s.high) in
      omega (arith, a, b, length-append y s.high, length-append x s.high)

  others_low : {k : ℕ} {x y p q : List A} (s : Swap k x y p q) → Each (λ r. key r ≡ k → ⊥) s.low
  others_low s = each_map (λ r h e. omega arith) s.low s.less

  others_high : {k : ℕ} {x y p q : List A} (s : Swap k x y p q) → Each (λ r. key r ≡ k → ⊥) s.high
  others_high s = each_map (λ r h e. omega arith) s.high s.more

  pub without_nowhere : (k : ℕ) (m : List A) → Each (λ r. key r ≡ k → ⊥) m → without key k m ≡ m
  unfolding without
  without_nowhere k m e = rw (← append-nil m) (without_other k m [] e)

  without_same : (k : ℕ) (x m : List A) → Each (λ r. key r ≡ k) x → without key k (x ++ m) ≡ without key k m
  unfolding without
  without_same k [] m e = refl
  without_same k (r ∷ x) m e = rw (eq-eqb (key r) k e.0) (without_same k x m e.1)

  pub swap_without : {k : ℕ} {x p q : List A} → Swap k x [] p q → Each (λ r. key r ≡ k) x → q ≡ without key k p
  swap_without {k} {x} {p} {q} s e =
      s.to
      ∙ sym
      (ap (without key k) s.from
      ∙ without_other k s.low (x ++ s.high) (others_low s)
      ∙ ap (λ (y : List A). s.low ++ y) (without_same k x s.high e ∙ without_nowhere k s.high (others_high s)))

  pub swap_insert : {p q : List A} (r : A) → Swap (key r) [] (r ∷ []) p q → q ≡ insert key r p
  swap_insert {p} {q} r s =
      s.to
      ∙ sym
      (ap (insert key r) s.from
      ∙ insert_low r s.low s.high s.less
      ∙ ap (λ (y : List A). s.low ++ y) (insert_high r s.high s.more))

  pub replace_nowhere : (r : A) (m : List A) → Each (λ x. key x ≡ key r → ⊥) m → replace key r m ≡ m
  unfolding replace
  replace_nowhere r m e = rw (← append-nil m) (replace_other r m [] e)

  pub swap_replace : {p q : List A} (o r : A) → key o ≡ key r → Swap (key r) (o ∷ []) (r ∷ []) p q → q ≡ replace key r p
  unfolding replace
  swap_replace {p} {q} o r h s =
      s.to
      ∙ sym
      (ap (replace key r) s.from
      ∙ replace_other r s.low (o ∷ s.high) (others_low s)
      ∙ ap (λ (y : List A). s.low ++ y) (rw (eq-eqb (key o) (key r) h) (ap (λ (y : List A). r ∷ y) (replace_nowhere r s.high (others_high s)))))

  -- ---- how many there are

  pub insert_length : (r : A) (l : List A) → length (insert key r l) ≡ length l + 1
  unfolding insert
  insert_length r [] = refl
  insert_length r (x ∷ l) = go (ltb (key r) (key x)) (insert_length r l)
    where
      go : (b : Bool) → length (insert key r l) ≡ length l + 1 → length (cond b (r ∷ x ∷ l) (x ∷ insert key r l)) ≡ length (x ∷ l) + 1
      go true e = omega arith
      go false e = omega (arith, e)

  pub replace_length : (r : A) (l : List A) → length (replace key r l) ≡ length l
  unfolding replace
  replace_length r [] = refl
  replace_length r (x ∷ l) = ap suc (replace_length r l)
