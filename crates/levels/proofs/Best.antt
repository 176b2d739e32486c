-- The stored levels are those of the definitions: the asks in their order, the bids from the last to the first. Assumes nothing.
use Rattle.std.specs.Prelude.{Option, Some, None}
use Prim.Native.Nat.{ℕ, suc, ◌+◌, ◌-◌, ◌<◌}
use mathlib.Core.Path.{◌≡◌, refl, sym, ap, ap₂, ◌∙◌}
use mathlib.Core.Logic.{⊎_elim}
use mathlib.Core.Bool.{true, false, cond, not}
use mathlib.Core.List.{List, [], ◌∷◌, ◌++◌, append_assoc, append-nil}
use native.Mathlib.Omega.{arith}
use borrow.Author.Tests.{lt-ltb, le-ltb, lt-leb, le-leb, eq-eqb, ne_eqb}
use lib.Dec.{eqb, ltb, leb}
use lib.ListN.{length, length-append}
use lib.IntN.{ℤ, pos, negsuc}
use lib.Signed.{le_z, lt_z}
use Rattle.orderbook.specs.declared.Side.{Side}
use Rattle.orderbook.specs.declared.Side.TheVariants.{Buy, Sell}
use Rattle.words.specs.Words.{half, ◌⊖◌}
use Rattle.words.proofs.Diff.{⊖_le}
use Rattle.table.specs.Live.{Each, look, insert, replace, without}
use Rattle.table.proofs.Lists.{each_append, look_nowhere, replace_nowhere, without_nowhere}
use native.Mathlib.Nat.{eq-or-lt_of_le}
use native.Mathlib.Numerals.{add-one}
use Rattle.gateway.proofs.Base.{split, if_map}
use Rattle.le.proofs.Laws.{lt_or_le}
use Rattle.gateway.specs.Basics.{option}
use Rattle.gateway.specs.Depth.{Level, same_price, better, joined, level_in}
use Rattle.gateway.proofs.Sorted.{look_key}
use Rattle.gateway.proofs.Levels.{same_itself, better_apart, better_differs, one, at_level, before_level, after_level, compared, parted, reshown}
use Rattle.levels.specs.declared.Row.{Row}
use Rattle.levels.specs.Levels.{key, price, level, best, opened, one_more, changed, one_less, added, shown, removed}
use Rattle.gateway.specs.Table.{Rises}

-- ---- prices as their keys

flip : (a b : ℕ) → ltb a b ≡ not (leb b a)
flip a b = ⊎_elim (λ h. lt-ltb a b h ∙ sym (ap not (lt-leb b a h))) (λ h. le-ltb a b h ∙ sym (ap not (le-leb b a h))) (lt_or_le a b)

less_is : (a b : ℤ) → lt_z a b ≡ not (le_z b a)
less_is (pos a) (pos b) = flip a b
less_is (pos a) (negsuc b) = refl
less_is (negsuc a) (pos b) = refl
less_is (negsuc a) (negsuc b) = flip b a

-- a smaller key is better for an ask, worse for a bid
lower : (a b : ℕ) → a < b → lt_z (price a) (price b) ≡ true
lower a b h = less_is (price a) (price b) ∙ ap not (⊖_le b half a half ∙ lt-leb (b + half) (a + half) (omega arith))

-- ---- the list after an order came, by the first row

others : (k n : ℕ) → k < n → (l : List Row) → Rises key n l → Each (λ r. key r ≡ k → ⊥) l
others k n h [] t = tt
others k n h (r ∷ l) t = (λ e. omega (arith, t.0), others k (suc r.key) (omega (arith, t.0)) l t.1)

three : {P : Type 0} (a b : ℕ) → (a ≡ b → P) → (a < b → P) → (b < a → P) → P
three a b f g h = ⊎_elim g (λ l. ⊎_elim (λ e. f (sym e)) h (eq-or-lt_of_le l)) (lt_or_le a b)

module _ (k v : ℕ) (r : Row) (l : List Row) (asc : Rises key (suc r.key) l) where
  added_at : k ≡ r.key → added k v (r ∷ l) ≡ one_more v r ∷ l
  unfolding look replace
  added_at e =
      rw (eq-eqb r.key k (sym e), eq-eqb r.key r.key refl)
      (ap (λ m. one_more v r ∷ m) (replace_nowhere key (one_more v r) l (others r.key (suc r.key) (omega arith) l asc)))

  added_before : k < r.key → added k v (r ∷ l) ≡ opened k v ∷ r ∷ l
  unfolding look insert
  added_before h =
      rw (ne_eqb r.key k (λ e. omega arith), look_nowhere key k l (others k (suc r.key) (omega arith) l asc), lt-ltb k r.key h) refl

  added_after : r.key < k → added k v (r ∷ l) ≡ r ∷ added k v l
  unfolding look insert replace
  added_after h = rw (ne_eqb r.key k (λ e. omega arith)) (go h (look key k l) refl)
    where
      go : r.key < k → (o : Option Row) → look key k l ≡ o →
          option (insert key (opened k v) (r ∷ l)) (λ x. replace key (one_more v x) (r ∷ l)) o ≡ r ∷ option (insert key (opened k v) l) (λ x. replace key (one_more v x) l) o
      go h None e = rw (le-ltb k r.key (omega arith)) refl
      go h (Some x) e = let q = look_key key k x l e in rw (ne_eqb r.key x.key (λ w. omega arith)) refl

-- ---- levels with one more behind

module _ (s : Side) (p : ℤ) (v : ℕ) where
  joined_past : (xs ys : List Level) → Each (λ m. better s m.price p ≡ true) xs → joined s p v (xs ++ ys) ≡ xs ++ joined s p v ys
  joined_past [] ys t = refl
  joined_past (x ∷ xs) ys t = after_level s p v x (xs ++ ys) t.0 ∙ ap (λ l. x ∷ l) (joined_past xs ys t.1)

  joined_ahead : (x : Level) → better s p x.price ≡ true → (xs : List Level) → joined s p v (xs ++ (x ∷ [])) ≡ joined s p v xs ++ (x ∷ [])
  joined_ahead x h [] = before_level s p v x [] h
  joined_ahead x h (y ∷ xs) =
      compared s p y
      (λ e. at_level s p v y (xs ++ (x ∷ [])) e ∙ ap (λ l. l ++ (x ∷ [])) (sym (at_level s p v y xs e)))
      (λ b. before_level s p v y (xs ++ (x ∷ [])) b ∙ ap (λ l. l ++ (x ∷ [])) (sym (before_level s p v y xs b)))
      (λ b. after_level s p v y (xs ++ (x ∷ [])) b ∙ ap (λ l. y ∷ l) (joined_ahead x h xs) ∙ ap (λ l. l ++ (x ∷ [])) (sym (after_level s p v y xs b)))

-- bids of larger keys are better
above : (k n : ℕ) → k < n → (l : List Row) → Rises key n l → Each (λ m. better Buy m.price (price k) ≡ true) (best Buy l)
above k n h [] t = tt
above k n h (r ∷ l) t = each_append _ (best Buy l) (level r ∷ []) (above k (suc r.key) (omega (arith, t.0)) l t.1) (lower k r.key (omega (arith, t.0)), tt)

pub best_added : (s : Side) (k v n : ℕ) (l : List Row) → Rises key n l → best s (added k v l) ≡ joined s (price k) v (best s l)
unfolding look insert
best_added Sell k v n [] t = refl
best_added Buy k v n [] t = refl
best_added Sell k v n (r ∷ l) t =
    three k r.key
    (λ e. ap (best Sell) (added_at k v r l t.1 e) ∙ ap (λ z. record { price = price z; qty = r.qty + v; orders = r.orders + 1 } ∷ best Sell l) (sym e) ∙ ap (λ m. record { price = price k; qty = r.qty + v; orders = m } ∷ best Sell l) (add-one r.orders) ∙ sym (at_level Sell (price k) v (level r) (best Sell l) (ap price e)))
    (λ h. ap (best Sell) (added_before k v r l t.1 h) ∙ sym (before_level Sell (price k) v (level r) (best Sell l) (lower k r.key h)))
    (λ h. ap (best Sell) (added_after k v r l t.1 h) ∙ ap (λ m. level r ∷ m) (best_added Sell k v (suc r.key) l t.1) ∙ sym (after_level Sell (price k) v (level r) (best Sell l) (lower r.key k h)))
best_added Buy k v n (r ∷ l) t =
    let u = best Buy l in
    three k r.key
    (λ e. ap (best Buy) (added_at k v r l t.1 e) ∙ ap (λ z. u ++ (record { price = price z; qty = r.qty + v; orders = r.orders + 1 } ∷ [])) (sym e) ∙ ap (λ m. u ++ (record { price = price k; qty = r.qty + v; orders = m } ∷ [])) (add-one r.orders)
    ∙ sym (joined_past Buy (price k) v u (level r ∷ []) (above k (suc r.key) (omega arith) l t.1) ∙ ap (λ m. u ++ m) (at_level Buy (price k) v (level r) [] (ap price e))))
    (λ h. ap (best Buy) (added_before k v r l t.1 h) ∙ append_assoc u (level r ∷ []) (one (price k) v ∷ [])
    ∙ sym (joined_past Buy (price k) v u (level r ∷ []) (above k (suc r.key) (omega arith) l t.1) ∙ ap (λ m. u ++ m) (after_level Buy (price k) v (level r) [] (lower k r.key h))))
    (λ h. ap (best Buy) (added_after k v r l t.1 h) ∙ ap (λ m. m ++ (level r ∷ [])) (best_added Buy k v (suc r.key) l t.1)
    ∙ sym (joined_ahead Buy (price k) v (level r) (lower r.key k h) u))

-- ---- a level that is there changes or goes

apart : (a b : ℕ) → a < b → (same_price (price a) (price b) ≡ false) × (same_price (price b) (price a) ≡ false)
apart a b h = let e = lower a b h in (better_differs Sell (price a) (price b) e, (better_apart Sell (price a) (price b) e).0)

apart_above : (k n : ℕ) → k < n → (l : List Row) → Rises key n l → Each (λ m. same_price (price k) m.price ≡ false) (best Buy l)
apart_above k n h [] t = tt
apart_above k n h (r ∷ l) t =
    each_append _ (best Buy l) (level r ∷ []) (apart_above k (suc r.key) (omega (arith, t.0)) l t.1) ((apart k r.key (omega (arith, t.0))).0, tt)

-- f does g to the level at k and to what follows it, and F is f on rows
module _ (k : ℕ) (f : List Level → List Level) (g : Level → List Level → List Level)
    (step : (l : Level) (ls : List Level) → f (l ∷ ls) ≡ cond (same_price (price k) l.price) (g l ls) (l ∷ f ls))
    (nil : f [] ≡ []) (more_behind : (l : Level) (ls ms : List Level) → g l (ls ++ ms) ≡ g l ls ++ ms)
    (F : List Row → List Row)
    (at_sell : (r : Row) (l : List Row) → Rises key (suc r.key) l → k ≡ r.key → best Sell (F (r ∷ l)) ≡ g (level r) (best Sell l))
    (at_buy : (r : Row) (l : List Row) → Rises key (suc r.key) l → k ≡ r.key → best Buy (F (r ∷ l)) ≡ best Buy l ++ g (level r) [])
    (after : (r : Row) (l : List Row) → r.key < k → F (r ∷ l) ≡ r ∷ F l) where
  here : (l : Level) (ls : List Level) → price k ≡ l.price → f (l ∷ ls) ≡ g l ls
  here l ls e = step l ls ∙ ap (λ b. cond b (g l ls) (l ∷ f ls)) (ap (same_price (price k)) (sym e) ∙ same_itself (price k))

  past : (l : Level) (ls : List Level) → same_price (price k) l.price ≡ false → f (l ∷ ls) ≡ l ∷ f ls
  past l ls e = step l ls ∙ ap (λ b. cond b (g l ls) (l ∷ f ls)) e

  past_all : (xs ys : List Level) → Each (λ m. same_price (price k) m.price ≡ false) xs → f (xs ++ ys) ≡ xs ++ f ys
  past_all [] ys t = refl
  past_all (x ∷ xs) ys t = past x (xs ++ ys) t.0 ∙ ap (λ l. x ∷ l) (past_all xs ys t.1)

  ahead : (x : Level) → same_price (price k) x.price ≡ false → (xs : List Level) → f (xs ++ (x ∷ [])) ≡ f xs ++ (x ∷ [])
  ahead x h [] = past x [] h ∙ ap (λ l. x ∷ l) nil ∙ ap (λ l. l ++ (x ∷ [])) (sym nil)
  ahead x h (y ∷ xs) =
      let u = ahead x h xs in
      step y (xs ++ (x ∷ []))
      ∙ split (λ b. cond b (g y (xs ++ (x ∷ []))) (y ∷ f (xs ++ (x ∷ []))) ≡ cond b (g y xs) (y ∷ f xs) ++ (x ∷ [])) (same_price (price k) y.price)
      (λ _. more_behind y xs (x ∷ [])) (λ _. ap (λ l. y ∷ l) u)
      ∙ ap (λ l. l ++ (x ∷ [])) (sym (step y xs))

  touched : (s : Side) (x : Row) (n : ℕ) (l : List Row) → Rises key n l → look key k l ≡ Some x → best s (F l) ≡ f (best s l)
  unfolding look
  touched s x n [] t e = let z : ◌≡◌ {A = ℕ} 0 1 = cc in absurd (omega (arith, z))
  touched s x n (r ∷ l) t e =
      three k r.key (λ q. at s q)
      (λ h.
      let w : None ≡ Some x = sym (look_nowhere key k (r ∷ l) (λ q. omega arith, others k (suc r.key) (omega arith) l t.1)) ∙ e in
      let z : ◌≡◌ {A = ℕ} 0 1 = cc in absurd (omega (arith, z)))
      (λ h. behind s h (λ s. touched s x (suc r.key) l t.1 (rw (ne_eqb r.key k (λ q. omega arith)) at e)))
    where
      at : (s : Side) → k ≡ r.key → best s (F (r ∷ l)) ≡ f (best s (r ∷ l))
      at Sell q = at_sell r l t.1 q ∙ sym (here (level r) (best Sell l) (ap price q))
      at Buy q =
          at_buy r l t.1 q
          ∙ sym (past_all (best Buy l) (level r ∷ []) (apart_above k (suc r.key) (omega arith) l t.1) ∙ ap (λ m. best Buy l ++ m) (here (level r) [] (ap price q)))

      behind : (s : Side) → r.key < k → ((s : Side) → best s (F l) ≡ f (best s l)) → best s (F (r ∷ l)) ≡ f (best s (r ∷ l))
      behind Sell h u = ap (best Sell) (after r l h) ∙ ap (λ m. level r ∷ m) (u Sell) ∙ sym (past (level r) (best Sell l) (apart r.key k h).1)
      behind Buy h u = ap (best Buy) (after r l h) ∙ ap (λ m. m ++ (level r ∷ [])) (u Buy) ∙ sym (ahead (level r) (apart r.key k h).1 (best Buy l))

module _ (k v w : ℕ) where
  shown_at : (r : Row) (l : List Row) → Rises key (suc r.key) l → k ≡ r.key → shown k v w (r ∷ l) ≡ changed v w r ∷ l
  unfolding look replace
  shown_at r l t e =
      rw (eq-eqb r.key k (sym e), eq-eqb r.key r.key refl)
      (ap (λ m. changed v w r ∷ m) (replace_nowhere key (changed v w r) l (others r.key (suc r.key) (omega arith) l t)))

  shown_after : (r : Row) (l : List Row) → r.key < k → shown k v w (r ∷ l) ≡ r ∷ shown k v w l
  unfolding look replace
  shown_after r l h = rw (ne_eqb r.key k (λ e. omega arith)) (go h (look key k l) refl)
    where
      go : r.key < k → (o : Option Row) → look key k l ≡ o → option (r ∷ l) (λ x. replace key (changed v w x) (r ∷ l)) o ≡ r ∷ option l (λ x. replace key (changed v w x) l) o
      go h None e = refl
      go h (Some x) e = let q = look_key key k x l e in rw (ne_eqb r.key x.key (λ w. omega arith)) refl

  pub best_shown : (s : Side) (x : Row) (n : ℕ) (l : List Row) → Rises key n l → look key k l ≡ Some x → best s (shown k v w l) ≡ reshown (price k) v w (best s l)
  best_shown =
      touched k (reshown (price k) v w) (λ m ls. record { price = m.price; qty = m.qty - v + w; orders = m.orders } ∷ ls) (λ m ls. refl) refl (λ m ls ms. refl) (shown k v w)
      (λ r l t e. ap (best Sell) (shown_at r l t e)) (λ r l t e. ap (best Buy) (shown_at r l t e)) shown_after

module _ (k v : ℕ) where
  removed_at : (r : Row) (l : List Row) → Rises key (suc r.key) l → k ≡ r.key → removed k v (r ∷ l) ≡ cond (eqb r.orders 1) l (one_less v r ∷ l)
  unfolding look replace without
  removed_at r l t e =
      rw (eq-eqb r.key k (sym e), eq-eqb r.key r.key refl)
      (ap₂ (λ a b. cond (eqb r.orders 1) a (one_less v r ∷ b))
      (without_nowhere key k l (others k (suc r.key) (omega arith) l t)) (replace_nowhere key (one_less v r) l (others r.key (suc r.key) (omega arith) l t)))

  removed_after : (r : Row) (l : List Row) → r.key < k → removed k v (r ∷ l) ≡ r ∷ removed k v l
  unfolding look replace without
  removed_after r l h = rw (ne_eqb r.key k (λ e. omega arith)) (go h (look key k l) refl)
    where
      go : r.key < k → (o : Option Row) → look key k l ≡ o →
          option (r ∷ l) (λ x. cond (eqb x.orders 1) (r ∷ without key k l) (replace key (one_less v x) (r ∷ l))) o
          ≡ r ∷ option l (λ x. cond (eqb x.orders 1) (without key k l) (replace key (one_less v x) l)) o
      go h None e = refl
      go h (Some x) e =
          let q = look_key key k x l e in
          rw (ne_eqb r.key x.key (λ w. omega arith)) (sym (if_map (λ m. r ∷ m) (eqb x.orders 1) refl refl))

  pub best_removed : (s : Side) (x : Row) (n : ℕ) (l : List Row) → Rises key n l → look key k l ≡ Some x → best s (removed k v l) ≡ parted (price k) v (best s l)
  best_removed =
      touched k (parted (price k) v) (λ m ls. cond (eqb m.orders 1) ls (less m ∷ ls)) (λ m ls. refl) refl
      (λ m ls ms. sym (if_map (λ xs. xs ++ ms) (eqb m.orders 1) refl refl)) (removed k v)
      (λ r l t e. ap (best Sell) (removed_at r l t e) ∙ if_map (best Sell) (eqb r.orders 1) refl refl)
      (λ r l t e.
      ap (best Buy) (removed_at r l t e)
      ∙ split (λ b. best Buy (cond b l (one_less v r ∷ l)) ≡ best Buy l ++ cond b [] (less (level r) ∷ [])) (eqb r.orders 1) (λ _. sym (append-nil (best Buy l))) (λ _. refl))
      removed_after
    where
      less : Level → Level
      less m = record { price = m.price; qty = m.qty - v; orders = m.orders - 1 }

-- ---- the level of a key

-- behind others of other prices, and before one of another
level_past : (p : ℤ) (xs ys : List Level) → Each (λ m. same_price p m.price ≡ false) xs → level_in p (xs ++ ys) ≡ level_in p ys
level_past p [] ys t = refl
level_past p (x ∷ xs) ys t = rw t.0 (level_past p xs ys t.1)

level_ahead : (p : ℤ) (xs : List Level) (y : Level) → same_price p y.price ≡ false → level_in p (xs ++ (y ∷ [])) ≡ level_in p xs
level_ahead p [] y h = rw h refl
level_ahead p (x ∷ xs) y h = ap (cond (same_price p x.price) x) (level_ahead p xs y h)

-- what a lookup finds, as a level
abbrev pub level_of : ℕ → Option Row → Level
level_of k o = option (record { price = price k; qty = 0; orders = 0 }) level o

-- the lookup of a key finds the level at its price
pub level_found : (s : Side) (k n : ℕ) (l : List Row) → Rises key n l → level_in (price k) (best s l) ≡ level_of k (look key k l)
unfolding look
level_found Sell k n [] t = refl
level_found Buy k n [] t = refl
level_found Sell k n (r ∷ l) t =
    let u = level_found Sell k (suc r.key) l t.1 in
    three k r.key
    (λ e. rw (eq-eqb r.key k (sym e), ap (same_price (price k)) (ap price (sym e)) ∙ same_itself (price k)) refl)
    (λ h. rw (ne_eqb r.key k (λ e. omega arith), (apart k r.key h).0) u)
    (λ h. rw (ne_eqb r.key k (λ e. omega arith), (apart r.key k h).1) u)
level_found Buy k n (r ∷ l) t =
    let u = level_found Buy k (suc r.key) l t.1 in
    three k r.key
    (λ e.
    level_past (price k) (best Buy l) (level r ∷ []) (apart_above k (suc r.key) (omega arith) l t.1)
    ∙ rw (eq-eqb r.key k (sym e), ap (same_price (price k)) (ap price (sym e)) ∙ same_itself (price k)) refl)
    (λ h. level_ahead (price k) (best Buy l) (level r) (apart k r.key h).0 ∙ rw (ne_eqb r.key k (λ e. omega arith)) u)
    (λ h. level_ahead (price k) (best Buy l) (level r) (apart r.key k h).1 ∙ rw (ne_eqb r.key k (λ e. omega arith)) u)

-- as many levels as rows
pub best_length : (s : Side) (l : List Row) → length (best s l) ≡ length l
best_length Sell [] = refl
best_length Buy [] = refl
best_length Sell (r ∷ l) = ap suc (best_length Sell l)
best_length Buy (r ∷ l) = length-append (best Buy l) (level r ∷ []) ∙ add-one (length (best Buy l)) ∙ ap suc (best_length Buy l)
