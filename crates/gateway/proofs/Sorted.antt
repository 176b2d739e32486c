-- Tables ascending by key, over the row's type. Assumes nothing.
use Rattle.std.specs.Prelude.{Option, Some, None, is_some}
use Prim.Native.Nat.{ℕ, suc, ◌≤◌}
use mathlib.Core.Bool.{Bool, true, false, cond}
use mathlib.Core.Path.{◌≡◌, refl, sym, ap, ◌∙◌}
use mathlib.Core.List.{List, [], ◌∷◌}
use native.Mathlib.Omega.{arith}
use borrow.Author.Tests.{ltb-true, ltb-false, eqb-true, eqb-false, ne_eqb}
use lib.ListN.{length}
use lib.Dec.{eqb, ltb}
use Rattle.table.specs.Live.{Each, look, without, insert, replace}
use Rattle.gateway.specs.Table.{Rises}
use Rattle.gateway.proofs.Base.{split}

module _ {A : Type 0} (key : A → ℕ) where
  pub rises_from : (m n : ℕ) → m ≤ n → (l : List A) → Rises key n l → Rises key m l
  rises_from m n h [] t = tt
  rises_from m n h (x ∷ l) t = (omega (arith, t.0), t.1)

  pub rises_without : (k n : ℕ) (l : List A) → Rises key n l → Rises key n (without key k l)
  unfolding without
  rises_without k n [] t = tt
  rises_without k n (x ∷ l) t =
      let u = rises_without k (suc (key x)) l t.1 in
      split (λ b. Rises key n (cond b (without key k l) (x ∷ without key k l))) (eqb (key x) k)
      (λ e. rises_from n (suc (key x)) (omega (arith, t.0)) (without key k l) u) (λ e. (t.0, u))

  pub rises_replace : (r : A) (n : ℕ) (l : List A) → Rises key n l → Rises key n (replace key r l)
  unfolding replace
  rises_replace r n [] t = tt
  rises_replace r n (x ∷ l) t =
      split (λ b. (eqb (key x) (key r) ≡ b) → Rises key n (cond b r x ∷ replace key r l)) (eqb (key x) (key r))
      (λ _ e. let q = eqb-true (key x) (key r) e in (omega (arith, t.0), rises_replace r (suc (key r)) l (rises_from (suc (key r)) (suc (key x)) (omega arith) l t.1)))
      (λ _ e. (t.0, rises_replace r (suc (key x)) l t.1)) refl

  -- no row of the table has the key
  abbrev pub Absent : ℕ → List A → Type 0
  Absent k l = look key k l ≡ None

  not_some : (b : Bool) (x : A) (o : Option A) → cond b (Some x) o ≡ None → (b ≡ false) × (o ≡ None)
  not_some true x o e = let z : ◌≡◌ {A = ℕ} 0 1 = cc in absurd (omega (arith, z))
  not_some false x o e = (refl, e)

  pub absent_head : (k : ℕ) (x : A) (l : List A) → Absent k (x ∷ l) → (key x ≡ k → ⊥) × Absent k l
  unfolding look
  absent_head k x l h = let t = not_some (eqb (key x) k) x (look key k l) h in (eqb-false (key x) k t.0, t.1)

  pub rises_insert : (r : A) (n : ℕ) (l : List A) → n ≤ key r → Absent (key r) l → Rises key n l → Rises key n (insert key r l)
  unfolding insert
  rises_insert r n [] h a t = (h, tt)
  rises_insert r n (x ∷ l) h a t =
      let b = absent_head (key r) x l a in
      split (λ c. (ltb (key r) (key x) ≡ c) → Rises key n (cond c (r ∷ x ∷ l) (x ∷ insert key r l))) (ltb (key r) (key x))
      (λ _ e. (h, (ltb-true (key r) (key x) e, t.1)))
      (λ _ e. (t.0, rises_insert r (suc (key x)) l (let p = b.0 in let q : key x ≤ key r = ltb-false (key r) (key x) e in omega arith) b.1 t.1)) refl

  pub each_insert : (P : A → Type 0) (r : A) (l : List A) → P r → Each P l → Each P (insert key r l)
  unfolding insert
  each_insert P r [] h t = (h, tt)
  each_insert P r (x ∷ l) h t =
      let u = each_insert P r l h t.1 in
      split (λ c. Each P (cond c (r ∷ x ∷ l) (x ∷ insert key r l))) (ltb (key r) (key x)) (λ e. (h, t)) (λ e. (t.0, u))

  pub insert_each : (P : A → Type 0) (r : A) (l : List A) → Each P (insert key r l) → P r × Each P l
  unfolding insert
  insert_each P r [] t = (t.0, tt)
  insert_each P r (x ∷ l) t =
      split (λ c. Each P (cond c (r ∷ x ∷ l) (x ∷ insert key r l)) → P r × Each P (x ∷ l)) (ltb (key r) (key x))
      (λ e u. (u.0, u.1)) (λ e u. let v = insert_each P r l u.1 in (v.0, (u.0, v.1))) t

  pub length_insert : (r : A) (l : List A) → length (insert key r l) ≡ suc (length l)
  unfolding insert
  length_insert r [] = refl
  length_insert r (x ∷ l) =
      let u = length_insert r l in
      split (λ c. length (cond c (r ∷ x ∷ l) (x ∷ insert key r l)) ≡ suc (suc (length l))) (ltb (key r) (key x)) (λ e. refl) (λ e. ap suc u)

  pub absent_insert : (k : ℕ) (r : A) (l : List A) → (key r ≡ k → ⊥) → Absent k l → Absent k (insert key r l)
  unfolding insert look
  absent_insert k r [] h a = missing h a
    where
      missing : (key r ≡ k → ⊥) → Absent k [] → cond (eqb (key r) k) (Some r) None ≡ None
      missing h a = split (λ c. (eqb (key r) k ≡ c) → cond c (Some r) None ≡ None) (eqb (key r) k) (λ _ e. absurd (h (eqb-true (key r) k e))) (λ _ e. refl) refl
  absent_insert k r (x ∷ l) h a =
      let b = absent_head k x l a in
      let u = absent_insert k r l h b.1 in
      let nr : eqb (key r) k ≡ false = split (λ c. (eqb (key r) k ≡ c) → c ≡ false) (eqb (key r) k) (λ _ e. absurd (h (eqb-true (key r) k e))) (λ _ e. refl) refl in
      let nx : eqb (key x) k ≡ false = split (λ c. (eqb (key x) k ≡ c) → c ≡ false) (eqb (key x) k) (λ _ e. absurd (b.0 (eqb-true (key x) k e))) (λ _ e. refl) refl in
      split (λ c. look key k (cond c (r ∷ x ∷ l) (x ∷ insert key r l)) ≡ None) (ltb (key r) (key x))
      (λ e. rw (nr, nx) b.1) (λ e. rw nx u)

  pub absent_is : (k : ℕ) (l : List A) → is_some (look key k l) ≡ false → Absent k l
  absent_is k l h = go (look key k l) h
    where
      go : (o : Option A) → is_some o ≡ false → o ≡ None
      go None e = refl
      go (Some x) e = let z : ◌≡◌ {A = ℕ} 0 1 = cc in absurd (omega (arith, z))

  -- ---- what is found, and how many are left

  pub look_key : (k : ℕ) (x : A) (l : List A) → look key k l ≡ Some x → key x ≡ k
  unfolding look
  look_key k x [] e = let z : ◌≡◌ {A = ℕ} 0 1 = cc in absurd (omega (arith, z))
  look_key k x (r ∷ l) e =
      split (λ b. (eqb (key r) k ≡ b) → cond b (Some r) (look key k l) ≡ Some x → key x ≡ k) (eqb (key r) k)
      (λ _ q w. let j : r ≡ x = cc in ap key (sym j) ∙ eqb-true (key r) k q) (λ _ q w. look_key k x l w) refl e

  -- another row is found as before
  pub look_without : (k n : ℕ) → (k ≡ n → ⊥) → (l : List A) → look key k (without key n l) ≡ look key k l
  unfolding look without
  look_without k n h [] = refl
  look_without k n h (x ∷ l) =
      let u = look_without k n h l in
      split (λ b. (eqb (key x) n ≡ b) → look key k (cond b (without key n l) (x ∷ without key n l)) ≡ cond (eqb (key x) k) (Some x) (look key k l)) (eqb (key x) n)
      (λ _ e. let q = eqb-true (key x) n e in u ∙ sym (rw (ne_eqb (key x) k (λ w. h (sym w ∙ q))) refl)) (λ _ e. ap (cond (eqb (key x) k) (Some x)) u) refl

  pub look_replace : (k : ℕ) (r : A) → (k ≡ key r → ⊥) → (l : List A) → look key k (replace key r l) ≡ look key k l
  unfolding look replace
  look_replace k r h [] = refl
  look_replace k r h (x ∷ l) =
      let u = look_replace k r h l in
      split (λ b. (eqb (key x) (key r) ≡ b) → cond (eqb (key (cond b r x)) k) (Some (cond b r x)) (look key k (replace key r l)) ≡ cond (eqb (key x) k) (Some x) (look key k l)) (eqb (key x) (key r))
      (λ _ e.
      let q = eqb-true (key x) (key r) e in
      rw (ne_eqb (key r) k (λ w. h (sym w)), ne_eqb (key x) k (λ w. h (sym w ∙ q))) u)
      (λ _ e. ap (cond (eqb (key x) k) (Some x)) u) refl

  pub length_without : (k : ℕ) (l : List A) → length (without key k l) ≤ length l
  unfolding without
  length_without k [] = omega arith
  length_without k (x ∷ l) =
      let u = length_without k l in
      split (λ b. length (cond b (without key k l) (x ∷ without key k l)) ≤ suc (length l)) (eqb (key x) k) (λ _. omega arith) (λ _. omega arith)

  pub length_replace : (r : A) (l : List A) → length (replace key r l) ≡ length l
  unfolding replace
  length_replace r [] = refl
  length_replace r (x ∷ l) = ap suc (length_replace r l)
