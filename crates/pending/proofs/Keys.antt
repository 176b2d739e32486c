-- The changed levels: what a scan from the newest finds, and that one that is pushed or found is remembered. Assumes nothing.
use mathlib.Core.Path.{◌≡◌, refl, sym, ap, ◌∙◌}
use mathlib.Core.Logic.{⊎_elim}
use mathlib.Core.Bool.{Bool, true, false, cond, not, ◌||◌, and-true, and-false}
use mathlib.Core.List.{List, [], ◌∷◌, ◌++◌}
use Prim.Native.Nat.{ℕ, ◌+◌, ◌-◌, ◌≤◌, ◌<◌}
use native.Mathlib.Omega.{arith}
use borrow.Author.Tests.{eq-eqb, ne_eqb}
use lib.Dec.{eqb}
use lib.ListN.{length, length-append}
use Rattle.orderbook.specs.declared.Side.TheVariants.{Buy, Sell}
use Rattle.words.specs.Words.{int, modulus}
use Rattle.words.proofs.Int.{int_injective}
use Rattle.table.proofs.Live.{same?}
use Rattle.gateway.specs.Depth.{Key, same_price, same_key, is_changed, remember}
use Rattle.gateway.specs.Ledger.{same_side}
use Rattle.gateway.specs.Limits.{most_changed}
use Rattle.gateway.proofs.Counted.{same_is}
use Rattle.gateway.proofs.Levels.{same_itself}
use Rattle.store.specs.Cells as C
use Rattle.store.specs.Layout.{cell, Holds}
use Rattle.store.specs.View.{Store, listed, side, word, changed_key, depth, Is}
use Rattle.store.proofs.Listed.{listed_length, listed_more}
use Rattle.store.proofs.Rows.{is_itself}
use Rattle.pending.specs.Pending as P

-- ---- one level

side_buy : (t : Bool) → t ≡ same_side Buy (cond (not t) Sell Buy)
side_buy true = refl
side_buy false = refl

side_sell : (t : Bool) → not t ≡ same_side Sell (cond (not t) Sell Buy)
side_sell true = refl
side_sell false = refl

pub same_as_buy : (a b : ℕ) → a ≡ 0 → eqb b 0 ≡ same_side (side a) (side b)
same_as_buy a b e = rw (eq-eqb a 0 e) (side_buy (eqb b 0))

pub same_as_sell : (a b : ℕ) → (a ≡ 0 → ⊥) → not (eqb b 0) ≡ same_side (side a) (side b)
same_as_sell a b e = rw (ne_eqb a 0 e) (side_sell (eqb b 0))

-- two words have the same number where they are the same
pub same_price_is : (a b : ℕ) → a < modulus → b < modulus → eqb a b ≡ same_price (int a) (int b)
same_price_is a b h k =
    ⊎_elim
    (λ (e : a ≡ b). rw (e, eq-eqb b b refl) (sym (same_itself (int b))))
    (λ ne. ne_eqb a b ne ∙ sym (not_same (same_price (int a) (int b)) refl ne))
    (same? a b)
  where
    not_same : (t : Bool) → same_price (int a) (int b) ≡ t → (a ≡ b → ⊥) → t ≡ false
    not_same true e ne = absurd (ne (int_injective a b h k (same_is (int a) (int b) e)))
    not_same false e ne = refl

module _ (xs : List ℕ) (i x p b : ℕ) (u : Bool) (be : b ≡ cell xs C.changed i C.changed_price) (ue : u ≡ same_price (int p) (int b)) where
  pub key_by_side : (a : ℕ) (t : Bool) → u ≡ true → a ≡ cell xs C.changed i C.changed_side → t ≡ same_side (side x) (side a) →
      t ≡ same_key (P.key x p) (changed_key (cell xs C.changed i))
  key_by_side a t h ae te = rw (← ae, ← be, ← ue, h, and-true) te

  pub key_by_price : u ≡ false → false ≡ same_key (P.key x p) (changed_key (cell xs C.changed i))
  key_by_price h = rw (← be, ← ue, h, and-false) refl

-- ---- the list

or_swap : (a b c : Bool) → (a || (b || c)) ≡ (b || (a || c))
or_swap true true c = refl
or_swap true false c = refl
or_swap false true c = refl
or_swap false false c = refl

pub last_first : (k x : Key) (xs : List Key) → is_changed k (xs ++ (x ∷ [])) ≡ (same_key k x || is_changed k xs)
last_first k x [] = refl
last_first k x (y ∷ xs) = ap (λ t. same_key k y || t) (last_first k x xs) ∙ or_swap (same_key k y) (same_key k x) (is_changed k xs)

pub scan_none : (f : ℕ → Key) (k : Key) (n : ℕ) → n ≤ 0 → is_changed k (listed f n) ≡ false
unfolding listed
scan_none f k n h = let e : n ≡ 0 = omega arith in rw e refl

module _ (f : ℕ → Key) (k : Key) (n : ℕ) (h : 0 < n) where
  scan : is_changed k (listed f n) ≡ (same_key k (f (n - 1)) || is_changed k (listed f (n - 1)))
  scan =
      let e : n ≡ n - 1 + 1 = omega arith in
      ap (λ m. is_changed k (listed f m)) e ∙ ap (is_changed k) (listed_more f (n - 1)) ∙ last_first k (f (n - 1)) (listed f (n - 1))

  pub scan_hit : same_key k (f (n - 1)) ≡ true → is_changed k (listed f n) ≡ true
  scan_hit t = scan ∙ ap (λ b. b || is_changed k (listed f (n - 1))) t

  pub scan_miss : same_key k (f (n - 1)) ≡ false → is_changed k (listed f n) ≡ is_changed k (listed f (n - 1))
  scan_miss t = scan ∙ ap (λ b. b || is_changed k (listed f (n - 1))) t

-- ---- the operation

-- a level that is not there wants a row
pub room_for : (k : Key) (s : Store) → is_changed k (depth s).changed ≡ false → length (remember k (depth s).changed) ≤ most_changed → word s C.changed_rows < most_changed
room_for k s t h =
    let l : length ((depth s).changed ++ (k ∷ [])) ≤ most_changed = rw t at h in
    omega (arith, length-append (depth s).changed (k ∷ []), listed_length (λ i. changed_key (s C.changed i)) (word s C.changed_rows))

pub remember_found : (xs : List ℕ) (x p : ℕ) → Holds xs → is_changed (P.key x p) (depth (cell xs)).changed ≡ true → Is xs (P.remember x p (cell xs))
unfolding P.remember
remember_found xs x p h t = rw t (is_itself h)

pub remember_pushed : (xs ys : List ℕ) (x p : ℕ) → is_changed (P.key x p) (depth (cell xs)).changed ≡ false →
    Is ys (P.push_level x p (cell xs)) → Is ys (P.remember x p (cell xs))
unfolding P.remember
remember_pushed xs ys x p t h = rw t h
