-- A listing with an entry more: its levels, codes 5 and 7, and that what can rest can rest without its first entry. Assumes nothing.
use Rattle.std.specs.Prelude.{None}
use mathlib.Core.Path.{◌≡◌, refl, sym, ap, ◌∙◌}
use mathlib.Core.Bool.{Bool, true, false, cond, ◌&&◌, and-true, and-eq-true_iff, true≢false}
use mathlib.Core.List.{List, [], ◌∷◌}
use Prim.Native.Nat.{ℕ, suc, ◌+◌, ◌≤◌, ◌<◌}
use native.Mathlib.Omega.{arith}
use borrow.Author.Tests.{le-leb, eqb-false}
use lib.Dec.{eqb, ltb, leb}
use lib.IntN.{ℤ}
use lib.ListN.{length}
use Rattle.orderbook.specs.declared.Side.{Side}
use Rattle.orderbook.specs.declared.Side.TheVariants.{Buy, Sell}
use Rattle.orderbook.specs.declared.Listed.{Listed}
use Rattle.orderbook.specs.declared.Listed.TheVariants as L
use Rattle.words.specs.Words.{modulus}
use Rattle.table.specs.Live.{Each, look}
use Rattle.gateway.specs.Limits.{most_orders, most_levels}
use Rattle.gateway.specs.Ledger.{same_side}
use Rattle.gateway.specs.Depth.{Resting, Level, Key, same_price, joined, levels, level, level_in, resting_number, find_resting, quantities_fit, levels_fit, levels_few}
use Rattle.gateway.specs.Depth as D
use Rattle.gateway.specs.Listing.{listed_number, listed_times, resting_in, listed_depth}
use Rattle.gateway.proofs.Base.{split}
use Rattle.gateway.proofs.Counted.{same_is, levels_best}
use Rattle.gateway.proofs.Levels.{levels_peopled, levels_insert, same_itself}
use Rattle.gateway.proofs.AtPrice.{side_fits, few_levels, joined_length}
use Rattle.gateway.proofs.Joins.{joined_there, add_fits}
use Rattle.gateway.proofs.Listing.{Distinct}
use Rattle.gateway.proofs.Sorted.{absent_insert}
use Rattle.listing.specs.Rests.{rests_at}
use Rattle.listing.proofs.Joined.{joined_level, joined_most, joined_least, joined_back}

-- the order of an entry
abbrev pub order_in : ℕ → Side → ℤ → ℕ → ℕ → Resting
order_in i s p v w = record { number = i; side = s; price = p; visible = w; leaves = v }

-- what an entry shows
abbrev pub shown_by : Listed → ℕ
shown_by (L.Order i o s p v w) = w
shown_by (L.Stop i o s l q) = 0

-- ---- the level of a key

abbrev Level_more : Key → Listed → List Listed → Type 0
Level_more k x xs =
    ((level k (listed_depth (x ∷ xs))).orders ≡ cond (rests_at k x) 1 0 + (level k (listed_depth xs)).orders)
    × ((level k (listed_depth (x ∷ xs))).qty ≡ cond (rests_at k x) (shown_by x) 0 + (level k (listed_depth xs)).qty)

pub level_more : (k : Key) (x : Listed) (xs : List Listed) → Level_more k x xs
level_more k (L.Stop i o s l q) xs = (omega arith, omega arith)
level_more k (L.Order i o s p v w) xs =
    rw (levels_insert k.0 (order_in i s p v w) (resting_in xs))
    (split
    (λ b. ((level_in k.1 (cond b (joined k.0 p w ls) ls)).orders ≡ cond (b && same_price k.1 p) 1 0 + (level_in k.1 ls).orders)
    × ((level_in k.1 (cond b (joined k.0 p w ls) ls)).qty ≡ cond (b && same_price k.1 p) w 0 + (level_in k.1 ls).qty))
    (same_side k.0 s)
    (λ _. joined_level k.0 p w k.1 ls (levels_best k.0 (resting_in xs)))
    (λ _. (omega arith, omega arith)))
  where
    ls : List Level
    ls = levels k.0 (resting_in xs)

-- ---- how many levels a side has

module _ (z : Side) where
  abbrev side_levels : List Listed → List Level
  side_levels xs = levels z (resting_in xs)

  -- with one entry more, by whether it is of this side
  more_is : (i o : ℕ) (s : Side) (p : ℤ) (v w : ℕ) (xs : List Listed) (b : Bool) → same_side z s ≡ b →
      side_levels (L.Order i o s p v w ∷ xs) ≡ cond b (joined z p w (side_levels xs)) (side_levels xs)
  more_is i o s p v w xs b e =
      levels_insert z (order_in i s p v w) (resting_in xs) ∙ ap (λ c. cond c (joined z p w (side_levels xs)) (side_levels xs)) e

  -- an entry at a level that no other has, at one that is there, and of the other side
  pub opens_one : (p : ℤ) (x : Listed) (xs : List Listed) → rests_at (z, p) x ≡ true → (level (z, p) (listed_depth xs)).orders ≡ 0 → length (side_levels (x ∷ xs)) ≡ 1 + length (side_levels xs)
  opens_one p (L.Stop i o s l q) xs h n = absurd (true≢false (sym h))
  opens_one p (L.Order i o s q v w) xs h n =
      let t = (and-eq-true_iff (same_side z s) (same_price p q)).0 h in
      let m : (level_in q (side_levels xs)).orders ≡ 0 = rw (← same_is p q t.1) n in
      omega (arith, ap length (more_is i o s q v w xs true t.0), joined_length z q w (side_levels xs) (levels_peopled z (resting_in xs)) m)

  pub opens_none : (p : ℤ) (x : Listed) (xs : List Listed) → rests_at (z, p) x ≡ true → ((level (z, p) (listed_depth xs)).orders ≡ 0 → ⊥) → length (side_levels (x ∷ xs)) ≡ 0 + length (side_levels xs)
  opens_none p (L.Stop i o s l q) xs h n = absurd (true≢false (sym h))
  opens_none p (L.Order i o s q v w) xs h n =
      let t = (and-eq-true_iff (same_side z s) (same_price p q)).0 h in
      let m : 0 < (level_in q (side_levels xs)).orders = rw (← same_is p q t.1) (omega (arith, n)) in
      omega (arith, ap length (more_is i o s q v w xs true t.0), joined_there z q w (side_levels xs) (levels_best z (resting_in xs)) m)

  pub other_side : (i o : ℕ) (s : Side) (p : ℤ) (v w : ℕ) (xs : List Listed) → rests_at (z, p) (L.Order i o s p v w) ≡ false →
      length (side_levels (L.Order i o s p v w ∷ xs)) ≡ 0 + length (side_levels xs)
  other_side i o s p v w xs h =
      let t : same_side z s ≡ false = sym (ap (λ b. same_side z s && b) (same_itself p) ∙ and-true (same_side z s)) ∙ h in
      omega (arith, ap length (more_is i o s p v w xs false t))

  -- one more entry adds at most a level, and takes none away
  by_side : (P : List Level → Type 0) (i o : ℕ) (s : Side) (p : ℤ) (v w : ℕ) (xs : List Listed) → P (joined z p w (side_levels xs)) → P (side_levels xs) → P (side_levels (L.Order i o s p v w ∷ xs))
  by_side P i o s p v w xs f g =
      rw (levels_insert z (order_in i s p v w) (resting_in xs)) (split (λ b. P (cond b (joined z p w (side_levels xs)) (side_levels xs))) (same_side z s) (λ _. f) (λ _. g))

  pub levels_most : (xs : List Listed) → length (side_levels xs) ≤ length xs
  levels_most [] = omega arith
  levels_most (L.Stop i o s l q ∷ xs) = let u = levels_most xs in omega arith
  levels_most (L.Order i o s p v w ∷ xs) =
      let u = levels_most xs in
      by_side (λ ls. length ls ≤ suc (length xs)) i o s p v w xs (omega (arith, joined_most z p w (side_levels xs))) (omega arith)

  levels_tail : (x : Listed) (xs : List Listed) → length (side_levels xs) ≤ length (side_levels (x ∷ xs))
  levels_tail (L.Stop i o s l q) xs = omega arith
  levels_tail (L.Order i o s p v w) xs = by_side (λ ls. length (side_levels xs) ≤ length ls) i o s p v w xs (joined_least z p w (side_levels xs)) (omega arith)

  fits_tail : (x : Listed) (xs : List Listed) → quantities_fit (side_levels (x ∷ xs)) ≡ true → quantities_fit (side_levels xs) ≡ true
  fits_tail (L.Stop i o s l q) xs h = h
  fits_tail (L.Order i o s p v w) xs h =
      by_side (λ ls. quantities_fit ls ≡ true → quantities_fit (side_levels xs) ≡ true) i o s p v w xs (joined_back z p w (side_levels xs)) (λ k. k) h

-- ---- codes 5 and 7

pub few_tail : (x : Listed) (xs : List Listed) → levels_few (resting_in (x ∷ xs)) ≡ true → levels_few (resting_in xs) ≡ true
unfolding levels_few
few_tail x xs h = (and-eq-true_iff (few Buy) (few Sell)).1 (side Buy, side Sell)
  where
    few : Side → Bool
    few z = leb (length (levels z (resting_in xs))) most_levels

    side : (z : Side) → few z ≡ true
    side z = le-leb (length (levels z (resting_in xs))) most_levels (omega (arith, levels_tail z x xs, few_levels z (resting_in (x ∷ xs)) h))

pub fit_tail : (x : Listed) (xs : List Listed) → levels_fit (resting_in (x ∷ xs)) ≡ true → levels_fit (resting_in xs) ≡ true
unfolding levels_fit
fit_tail x xs h = (and-eq-true_iff (quantities_fit (levels Buy (resting_in xs))) (quantities_fit (levels Sell (resting_in xs)))).1 (side Buy, side Sell)
  where
    side : (z : Side) → quantities_fit (levels z (resting_in xs)) ≡ true
    side z = fits_tail z x xs (side_fits (resting_in (x ∷ xs)) h z)

-- an entry more: its level decides
pub order_fits : (i o : ℕ) (s : Side) (p : ℤ) (v w : ℕ) (xs : List Listed) → levels_fit (resting_in xs) ≡ true →
    levels_fit (resting_in (L.Order i o s p v w ∷ xs)) ≡ ltb ((level (s, p) (listed_depth xs)).qty + w) modulus
unfolding D.add
order_fits i o s p v w xs h = add_fits (order_in i s p v w) (listed_depth xs) h

-- ---- what can rest

-- a listing whose numbers differ and are at most the last, within codes 5 and 7
pub record Fine (last : ℕ) (xs : List Listed) : Type 0 where
  pub distinct : Distinct xs
  pub numbered : Each (λ x. listed_number x ≤ last) xs
  pub few_orders : length xs ≤ most_orders
  pub few : levels_few (resting_in xs) ≡ true
  pub fit : levels_fit (resting_in xs) ≡ true

pub fine_tail : (last : ℕ) (x : Listed) (xs : List Listed) → Fine last (x ∷ xs) → Fine last xs
fine_tail last x xs f =
    record {
      distinct = f.distinct.1;
      numbered = f.numbered.1;
      few_orders = omega (arith, f.few_orders);
      few = few_tail x xs f.few;
      fit = fit_tail x xs f.fit;
    }

-- a number that is not listed does not rest
other_number : (n : ℕ) (x : Listed) (xs : List Listed) → listed_times n (x ∷ xs) ≡ 0 → (listed_number x ≡ n → ⊥) × (listed_times n xs ≡ 0)
other_number n x xs h =
    split (λ b. (eqb (listed_number x) n ≡ b) → cond b (suc (listed_times n xs)) (listed_times n xs) ≡ 0 → (listed_number x ≡ n → ⊥) × (listed_times n xs ≡ 0))
    (eqb (listed_number x) n) (λ _ e v. absurd (omega (arith, v))) (λ _ e v. (eqb-false (listed_number x) n e, v)) refl h

pub unlisted : (n : ℕ) (xs : List Listed) → listed_times n xs ≡ 0 → find_resting n (resting_in xs) ≡ None
unfolding look
unlisted n [] h = refl
unlisted n (L.Stop i o s l q ∷ xs) h = unlisted n xs (other_number n (L.Stop i o s l q) xs h).1
unlisted n (L.Order i o s p v w ∷ xs) h =
    let u = other_number n (L.Order i o s p v w) xs h in
    absent_insert resting_number n (order_in i s p v w) (resting_in xs) u.0 (unlisted n xs u.1)
