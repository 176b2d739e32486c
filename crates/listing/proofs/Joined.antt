-- An order more in a side's levels: the level at a price, and how many levels there are. Assumes nothing.
use mathlib.Core.Path.{◌≡◌, refl, sym, ap, ◌∙◌}
use mathlib.Core.Bool.{true, false, cond, and-eq-true_iff}
use mathlib.Core.List.{List, [], ◌∷◌}
use Prim.Native.Nat.{ℕ, suc, ◌+◌, ◌≤◌}
use native.Mathlib.Omega.{arith}
use borrow.Author.Tests.{ltb-true, lt-ltb}
use lib.Dec.{ltb}
use lib.IntN.{ℤ}
use lib.ListN.{length}
use Rattle.orderbook.specs.declared.Side.{Side}
use Rattle.words.specs.Words.{modulus}
use Rattle.gateway.specs.Depth.{Level, same_price, joined, level_in, quantities_fit}
use Rattle.gateway.proofs.Base.{split}
use Rattle.gateway.specs.Claims.{Best}
use Rattle.gateway.proofs.Counted.{same_is, better_trans, joins}
use Rattle.gateway.proofs.Levels.{same_itself, better_apart, better_differs, at_level, before_level, after_level, compared}
use Rattle.gateway.proofs.AtPrice.{worse_none, joined_at}
use Rattle.table.proofs.Lists.{each_map}

module _ (s : Side) (p : ℤ) (v : ℕ) where
  -- the level that it joins has one order more
  joined_counts : (ls : List Level) → Best s ls → (level_in p (joined s p v ls)).orders ≡ suc (level_in p ls).orders
  joined_counts [] t = rw (same_itself p) refl
  joined_counts (l ∷ ls) t =
      compared s p l
      (λ e. ap (λ ms. (level_in p ms).orders) (at_level s p v l ls e) ∙ rw (same_itself p, ap (same_price p) (sym e) ∙ same_itself p) refl)
      (λ b.
      ap (λ ms. (level_in p ms).orders) (before_level s p v l ls b)
      ∙ rw (same_itself p, better_differs s p l.price b, worse_none s p ls (each_map (λ m h. better_trans s p l.price m.price b h) ls t.0)) refl)
      (λ b. ap (λ ms. (level_in p ms).orders) (after_level s p v l ls b) ∙ rw (better_apart s l.price p b).0 (joined_counts ls t.1))

  -- any other level stays
  joined_other : (q : ℤ) → same_price q p ≡ false → (ls : List Level) → level_in q (joined s p v ls) ≡ level_in q ls
  joined_other q h [] = rw h refl
  joined_other q h (l ∷ ls) =
      compared s p l
      (λ e. ap (level_in q) (at_level s p v l ls e) ∙ rw (h, ap (same_price q) (sym e) ∙ h) refl)
      (λ b. ap (level_in q) (before_level s p v l ls b) ∙ rw h refl)
      (λ b. ap (level_in q) (after_level s p v l ls b) ∙ ap (λ m. cond (same_price q l.price) l m) (joined_other q h ls))

  -- the level at the price q
  pub joined_level : (q : ℤ) (ls : List Level) → Best s ls →
      ((level_in q (joined s p v ls)).orders ≡ cond (same_price q p) 1 0 + (level_in q ls).orders) × ((level_in q (joined s p v ls)).qty ≡ cond (same_price q p) v 0 + (level_in q ls).qty)
  joined_level q ls t =
      split
      (λ b. (same_price q p ≡ b) → ((level_in q (joined s p v ls)).orders ≡ cond b 1 0 + (level_in q ls).orders) × ((level_in q (joined s p v ls)).qty ≡ cond b v 0 + (level_in q ls).qty))
      (same_price q p)
      (λ _ e. rw (same_is q p e) (omega (arith, joined_counts ls t), omega (arith, joined_at s p v ls t)))
      (λ _ e. rw (joined_other q e ls) (omega arith, omega arith)) refl

  -- ---- at most one level more, and none less; quantities only grow

  pub joined_most : (ls : List Level) → length (joined s p v ls) ≤ suc (length ls)
  joined_most [] = omega arith
  joined_most (l ∷ ls) = let u = joined_most ls in joins s p v (λ ms. length ms ≤ suc (suc (length ls))) l ls (λ _. omega arith) (λ _. omega arith) (λ _. omega arith)

  pub joined_least : (ls : List Level) → length ls ≤ length (joined s p v ls)
  joined_least [] = omega arith
  joined_least (l ∷ ls) = let u = joined_least ls in joins s p v (λ ms. suc (length ls) ≤ length ms) l ls (λ _. omega arith) (λ _. omega arith) (λ _. omega arith)

  pub joined_back : (ls : List Level) → quantities_fit (joined s p v ls) ≡ true → quantities_fit ls ≡ true
  joined_back [] h = refl
  joined_back (l ∷ ls) h =
      joins s p v (λ ms. quantities_fit ms ≡ true → quantities_fit (l ∷ ls) ≡ true) l ls
      (λ _ k.
      let t = (and-eq-true_iff (ltb (l.qty + v) modulus) (quantities_fit ls)).0 k in
      let q = ltb-true (l.qty + v) modulus t.0 in
      (and-eq-true_iff (ltb l.qty modulus) (quantities_fit ls)).1 (lt-ltb l.qty modulus (omega arith), t.1))
      (λ _ k. ((and-eq-true_iff (ltb v modulus) (quantities_fit (l ∷ ls))).0 k).1)
      (λ _ k.
      let t = (and-eq-true_iff (ltb l.qty modulus) (quantities_fit (joined s p v ls))).0 k in
      (and-eq-true_iff (ltb l.qty modulus) (quantities_fit ls)).1 (t.0, joined_back ls t.1))
      h
