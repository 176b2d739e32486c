-- The list of what is shown of the marked rows: a row more, a row changed, struck out or marked again. Assumes nothing.
use Rattle.std.specs.Prelude.{option_map}
use mathlib.Core.Path.{◌≡◌, refl, sym, ap, ap₂, ◌∙◌}
use mathlib.Core.Bool.{cond}
use mathlib.Core.Logic.{⊎_elim}
use mathlib.Core.List.{List, [], ◌∷◌, ◌++◌, map}
use Prim.Native.Nat.{ℕ, zero, suc, ◌+◌, ◌≤◌, ◌<◌}
use native.Mathlib.Nat.{eq-or-lt_of_le}
use native.Mathlib.Omega.{arith}
use borrow.Author.Tests.{eqb-true}
use lib.Dec.{eqb, ltb}
use lib.ListN.{length, length-append, length-map}
use Rattle.le.proofs.Laws.{lt_or_le}
use Rattle.table.specs.Live.{pick, Each, Changed, live, look, without, insert, replace, Ascends}
use Rattle.table.proofs.Live.{live_ext, live_more, live_dead, live_strike, live_replace, live_revive, each_live, change_swap}
use Rattle.gateway.specs.Table.{update, Rises}
use Rattle.gateway.proofs.Base.{split, if_map}

-- ---- a map over what the tables of the definitions do, where it keeps the keys

module _ {A B : Type 0} (h : A → B) (key : B → ℕ) where
  pub look_map : (k : ℕ) (l : List A) → look key k (map h l) ≡ option_map h (look (λ a. key (h a)) k l)
  unfolding look
  look_map k [] = refl
  look_map k (x ∷ l) = sym (if_map (option_map h) (eqb (key (h x)) k) refl (sym (look_map k l)))

  map_without : (k : ℕ) (l : List A) → map h (without (λ a. key (h a)) k l) ≡ without key k (map h l)
  unfolding without
  map_without k [] = refl
  map_without k (x ∷ l) = if_map (map h) (eqb (key (h x)) k) (map_without k l) (ap (λ y. h x ∷ y) (map_without k l))

  map_insert : (r : A) (l : List A) → map h (insert (λ a. key (h a)) r l) ≡ insert key (h r) (map h l)
  unfolding insert
  map_insert r [] = refl
  map_insert r (x ∷ l) = if_map (map h) (ltb (key (h r)) (key (h x))) refl (ap (λ y. h x ∷ y) (map_insert r l))

  map_replace : (r : A) (l : List A) → map h (replace (λ a. key (h a)) r l) ≡ replace key (h r) (map h l)
  unfolding replace
  map_replace r [] = refl
  map_replace r (x ∷ l) = ap₂ (λ y z. y ∷ z) (if_map h (eqb (key (h x)) (key (h r))) refl refl) (map_replace r l)

  -- a change of the one row that has the key
  map_update : (r : A) (f : B → B) (k : ℕ) (l : List A) → key (h r) ≡ k → Each (λ x. key (h x) ≡ k → f (h x) ≡ h r) l →
      map h (replace (λ a. key (h a)) r l) ≡ update key k f (map h l)
  unfolding replace update
  map_update r f k [] e t = refl
  map_update r f k (x ∷ l) e t =
      ap₂ (λ y z. y ∷ z)
      (rw e
      (split (λ b. (eqb (key (h x)) k ≡ b) → h (cond b r x) ≡ cond b (f (h x)) (h x)) (eqb (key (h x)) k) (λ _ q. sym (t.0 (eqb-true (key (h x)) k q))) (λ _ q. refl) refl))
      (map_update r f k l e t.1)

-- ---- the list

abbrev pub shown : {A : Type 0} → (ℕ → ℕ × A) → ℕ → List A
shown {A} p n = map (λ (q : ℕ × A). q.1) (live (λ (q : ℕ × A). q.0) p n)

pub map_append : {A B : Type 0} (h : A → B) (l m : List A) → map h (l ++ m) ≡ map h l ++ map h m
map_append h [] m = refl
map_append h (x ∷ l) m = ap (λ y. h x ∷ y) (map_append h l m)

pub map_pick : {A B : Type 0} (h : A → B) (k : ℕ) (x : A) → map h (pick k x) ≡ pick k (h x)
map_pick h zero x = refl
map_pick h (suc k) x = refl

pub pick_length : {A : Type 0} (m : ℕ) (r : A) → m ≤ 1 → length (pick m r) ≡ m
pick_length zero r h = refl
pick_length (suc zero) r h = refl
pick_length (suc (suc m)) r h = absurd (omega arith)

module _ {A : Type 0} (p q : ℕ → ℕ × A) (n : ℕ) where
  pub shown_ext : ((j : ℕ) → j < n → q j ≡ p j) → shown q n ≡ shown p n
  shown_ext h = ap (map (λ (x : ℕ × A). x.1)) (live_ext (λ (x : ℕ × A). x.0) p q n h)

  pub shown_more : ((j : ℕ) → j < n → q j ≡ p j) → 0 < (q n).0 → shown q (n + 1) ≡ shown p n ++ ((q n).1 ∷ [])
  shown_more h m =
      ap (map (λ (x : ℕ × A). x.1)) (live_more (λ (x : ℕ × A). x.0) q n m)
      ∙ map_append (λ (x : ℕ × A). x.1) (live (λ (x : ℕ × A). x.0) q n) (q n ∷ [])
      ∙ ap (λ l. l ++ ((q n).1 ∷ [])) (shown_ext h)

  pub shown_dead : ((j : ℕ) → j < n → q j ≡ p j) → (q n).0 ≡ 0 → shown q (n + 1) ≡ shown p n
  shown_dead h m = ap (map (λ (x : ℕ × A). x.1)) (live_dead (λ (x : ℕ × A). x.0) q n m) ∙ shown_ext h

-- the numbers rise
module _ {A : Type 0} (number : A → ℕ) where
  rises_more : (a : ℕ) (l : List A) (k : ℕ) (y : A) → Rises number a l → Each (λ r. number r < number y) l → a ≤ number y → Rises number a (l ++ pick k y)
  rises_more a [] zero y t e h = tt
  rises_more a [] (suc k) y t e h = (h, tt)
  rises_more a (x ∷ l) k y t e h = (t.0, rises_more (suc (number x)) l k y t.1 e.1 e.0)

  each_value : (P : A → Type 0) (l : List (ℕ × A)) → Each (λ (x : ℕ × A). P x.1) l → Each P (map (λ (x : ℕ × A). x.1) l)
  each_value P [] t = tt
  each_value P (x ∷ l) t = (t.0, each_value P l t.1)

  pub shown_rises : (p : ℕ → ℕ × A) (n : ℕ) → Ascends (λ (x : ℕ × A). number x.1) p n → Rises number 0 (shown p n)
  unfolding live
  shown_rises p zero s = tt
  shown_rises p (suc n) s =
      rw (map_append (λ (x : ℕ × A). x.1) (live (λ (x : ℕ × A). x.0) p n) (pick (p n).0 (p n)), map_pick (λ (x : ℕ × A). x.1) (p n).0 (p n))
      (rises_more 0 (shown p n) (p n).0 (p n).1 (shown_rises p n (λ i j h l. s i j h (omega arith)))
      (each_value (λ r. number r < number (p n).1) (live (λ (x : ℕ × A). x.0) p n) (each_live (λ (x : ℕ × A). x.0) (λ (x : ℕ × A). number x.1 < number (p n).1) p n (λ j l m. s j n l (omega arith))))
      (omega arith))

module _ {A : Type 0} (number : A → ℕ) {p q : ℕ → ℕ × A} {n i : ℕ} (c : Changed p q n i) (s : Ascends (λ (x : ℕ × A). number x.1) p n) where
  abbrev mark : ℕ × A → ℕ
  mark x = x.0

  abbrev key : ℕ × A → ℕ
  key x = number x.1

  abbrev value : ℕ × A → A
  value x = x.1

  pub shown_strike : (q i).0 ≡ 0 → shown q n ≡ without number (number (p i).1) (shown p n)
  shown_strike d = ap (map value) (live_strike mark key c s d) ∙ map_without value number (number (p i).1) (live mark p n)

  pub shown_replace : number (q i).1 ≡ number (p i).1 → 0 < (p i).0 → 0 < (q i).0 → shown q n ≡ replace number (q i).1 (shown p n)
  shown_replace e a b = ap (map value) (live_replace mark key c s e a b) ∙ map_replace value number (q i) (live mark p n)

  pub shown_revive : number (q i).1 ≡ number (p i).1 → (p i).0 ≡ 0 → 0 < (q i).0 → shown q n ≡ insert number (q i).1 (shown p n)
  shown_revive e a b = ap (map value) (live_revive mark key c s e a b) ∙ map_insert value number (q i) (live mark p n)

  -- no other row has the number
  only : (j : ℕ) → j < n → number (p j).1 ≡ number (p i).1 → j ≡ i
  only j l e =
      ⊎_elim
      (λ (h : j < i). absurd (omega (arith, s j i h c.inside)))
      (λ (h : i ≤ j). ⊎_elim (λ (w : i ≡ j). sym w) (λ w. absurd (omega (arith, s i j w l))) (eq-or-lt_of_le h))
      (lt_or_le j i)

  pub shown_update : (f : A → A) → f (p i).1 ≡ (q i).1 → number (q i).1 ≡ number (p i).1 → 0 < (p i).0 → 0 < (q i).0 →
      shown q n ≡ update number (number (p i).1) f (shown p n)
  shown_update f g e a b =
      ap (map value) (live_replace mark key c s e a b)
      ∙ map_update value number (q i) f (number (p i).1) (live mark p n) e
      (each_live mark (λ x. key x ≡ number (p i).1 → f (value x) ≡ value (q i)) p n (λ j l m w. rw (only j l w) g))

  pub shown_length : (p i).0 ≤ 1 → (q i).0 ≤ 1 → length (shown p n) + (q i).0 ≡ length (shown q n) + (p i).0
  shown_length a b =
      let w = change_swap mark key c s in
      omega (
        arith,
        length-map (live mark p n) value,
        length-map (live mark q n) value,
        pick_length (p i).0 (p i) a,
        pick_length (q i).0 (q i) b,
        simp length-append at (ap length w.from),
        simp length-append at (ap length w.to),
      )

  -- what stands before the row and behind it stays
  pub shown_parts : (l : List A) × (h : List A) × (shown p n ≡ l ++ (pick (p i).0 (p i).1 ++ h)) × (shown q n ≡ l ++ (pick (q i).0 (q i).1 ++ h))
  shown_parts =
      let w = change_swap mark key c s in
      (map value w.low, map value w.high, ap (map value) w.from ∙ parts w.low w.high (p i), ap (map value) w.to ∙ parts w.low w.high (q i))
    where
      parts : (l h : List (ℕ × A)) (x : ℕ × A) → map value (l ++ (pick x.0 x ++ h)) ≡ map value l ++ (pick x.0 x.1 ++ map value h)
      parts l h x =
          map_append value l (pick x.0 x ++ h)
          ∙ ap (λ y. map value l ++ y) (map_append value (pick x.0 x) h ∙ ap (λ y. y ++ map value h) (map_pick value x.0 x))
