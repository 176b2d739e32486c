-- The level of a price in a side's levels: its quantity is in range where all are, and what an order that comes or shows something else makes
-- of it.
-- Assumes nothing.
use Prim.Native.Nat.{ℕ, suc, ◌+◌, ◌-◌, ◌<◌, ◌≤◌}
use mathlib.Core.Bool.{true, cond, ◌&&◌, and-eq-true_iff}
use mathlib.Core.Path.{◌≡◌, refl, sym, ap, ◌∙◌}
use mathlib.Core.List.{List, [], ◌∷◌}
use native.Mathlib.Omega.{arith}
use borrow.Author.Tests.{ltb-true, leb-true}
use lib.Dec.{ltb, leb}
use lib.IntN.{ℤ}
use lib.ListN.{length}
use Rattle.orderbook.specs.declared.Side.{Side}
use Rattle.orderbook.specs.declared.Side.TheVariants.{Buy, Sell}
use Rattle.table.specs.Live.{Each}
use Rattle.table.proofs.Lists.{each_map}
use Rattle.gateway.specs.Limits.{most_orders, most_levels, most_changed}
use Rattle.gateway.specs.Ledger.{same_side}
use Rattle.gateway.specs.Depth.{Resting, Level, Depth, same_price, better, joined, levels, level_in, quantities_fit, levels_fit, levels_few, depth_few}
use Rattle.gateway.proofs.Base.{split}
use Rattle.gateway.specs.Claims.{Best}
use Rattle.gateway.proofs.Counted.{better_trans, joins}
use Rattle.gateway.proofs.Levels.{Peopled, reshown, same_itself, better_apart, better_differs, one, more, at_level, before_level, after_level, compared}
use Rattle.words.specs.Words.{modulus}

pub same_mine : (z : Side) → same_side z z ≡ true
same_mine Buy = refl
same_mine Sell = refl

fits_at : (p : ℤ) (ls : List Level) → quantities_fit ls ≡ true → (level_in p ls).qty < modulus
fits_at p [] h = omega arith
fits_at p (l ∷ ls) h =
    let t = (and-eq-true_iff (ltb l.qty modulus) (quantities_fit ls)).0 h in
    let u = fits_at p ls t.1 in
    split (λ b. (cond b l (level_in p ls)).qty < modulus) (same_price p l.price) (λ _. ltb-true l.qty modulus t.0) (λ _. u)

pub side_fits : (os : List Resting) → levels_fit os ≡ true → (z : Side) → quantities_fit (levels z os) ≡ true
unfolding levels_fit
side_fits os h Buy = ((and-eq-true_iff (quantities_fit (levels Buy os)) (quantities_fit (levels Sell os))).0 h).0
side_fits os h Sell = ((and-eq-true_iff (quantities_fit (levels Buy os)) (quantities_fit (levels Sell os))).0 h).1

pub level_fits : (z : Side) (p : ℤ) (os : List Resting) → levels_fit os ≡ true → (level_in p (levels z os)).qty < modulus
level_fits z p os h = fits_at p (levels z os) (side_fits os h z)

pub reshown_at : (p : ℤ) (v w : ℕ) (ls : List Level) → 0 < (level_in p ls).orders → (level_in p (reshown p v w ls)).qty ≡ (level_in p ls).qty - v + w
reshown_at p v w [] h = absurd (omega arith)
reshown_at p v w (l ∷ ls) h =
    split
    (λ b. (same_price p l.price ≡ b) → 0 < (cond b l (level_in p ls)).orders →
    (level_in p (cond b (record { price = l.price; qty = l.qty - v + w; orders = l.orders } ∷ ls) (l ∷ reshown p v w ls))).qty ≡ (cond b l (level_in p ls)).qty - v + w)
    (same_price p l.price) (λ _ e k. rw e refl) (λ _ e k. rw e (reshown_at p v w ls k)) refl h

-- ---- an order joins

module _ (s : Side) (p : ℤ) where
  -- no level that is worse than the price is at it
  pub worse_none : (ls : List Level) → Each (λ m. better s p m.price ≡ true) ls → level_in p ls ≡ level_in p []
  worse_none [] t = refl
  worse_none (l ∷ ls) t = rw (better_differs s p l.price t.0) (worse_none ls t.1)

  pub joined_at : (v : ℕ) (ls : List Level) → Best s ls → (level_in p (joined s p v ls)).qty ≡ (level_in p ls).qty + v
  joined_at v [] t = rw (same_itself p) (omega arith)
  joined_at v (l ∷ ls) t =
      compared s p l
      (λ e. ap (λ ms. (level_in p ms).qty) (at_level s p v l ls e) ∙ rw (same_itself p, ap (same_price p) (sym e) ∙ same_itself p) refl)
      (λ b.
      ap (λ ms. (level_in p ms).qty) (before_level s p v l ls b)
      ∙ rw (same_itself p, better_differs s p l.price b, worse_none ls (each_map (λ m h. better_trans s p l.price m.price b h) ls t.0)) (omega arith))
      (λ b. ap (λ ms. (level_in p ms).qty) (after_level s p v l ls b) ∙ rw (better_apart s l.price p b).0 (joined_at v ls t.1))

  -- at a level of its own
  pub joined_length : (v : ℕ) (ls : List Level) → Peopled ls → (level_in p ls).orders ≡ 0 → length (joined s p v ls) ≡ suc (length ls)
  joined_length v [] t h = refl
  joined_length v (l ∷ ls) t h =
      compared s p l
      (λ e. let q : l.orders ≡ 0 = rw (ap (same_price p) (sym e) ∙ same_itself p) at h in absurd (omega (arith, t.0)))
      (λ b. ap length (before_level s p v l ls b))
      (λ b. ap length (after_level s p v l ls b) ∙ ap suc (joined_length v ls t.1 (rw (better_apart s l.price p b).0 at h)))

  joined_orders : (q : ℤ) (v : ℕ) (ls : List Level) → (level_in p (joined s q v ls)).orders ≤ suc (level_in p ls).orders
  joined_orders q v [] = split (λ b. (cond b (one q v) (level_in p [])).orders ≤ 1) (same_price p q) (λ _. omega arith) (λ _. omega arith)
  joined_orders q v (l ∷ ls) =
      let u = joined_orders q v ls in
      joins s q v (λ ms. (level_in p ms).orders ≤ suc (level_in p (l ∷ ls)).orders) l ls
      (λ e. rw e (split (λ b. (cond b (more l.price v l) (level_in p ls)).orders ≤ suc (cond b l (level_in p ls)).orders) (same_price p l.price) (λ _. omega arith) (λ _. omega arith)))
      (λ _. split (λ b. (cond b (one q v) (level_in p (l ∷ ls))).orders ≤ suc (level_in p (l ∷ ls)).orders) (same_price p q) (λ _. omega arith) (λ _. omega arith))
      (λ _. split (λ b. (cond b l (level_in p (joined s q v ls))).orders ≤ suc (cond b l (level_in p ls)).orders) (same_price p l.price) (λ _. omega arith) (λ _. u))

  -- a level has at most all orders
  pub levels_orders : (os : List Resting) → (level_in p (levels s os)).orders ≤ length os
  levels_orders [] = omega arith
  levels_orders (o ∷ os) =
      let u = levels_orders os in
      split (λ b. (level_in p (cond b (joined s o.price o.visible (levels s os)) (levels s os))).orders ≤ suc (length os)) (same_side s o.side)
      (λ _. omega (arith, joined_orders o.price o.visible (levels s os))) (λ _. omega arith)

pub few_levels : (z : Side) (os : List Resting) → levels_few os ≡ true → length (levels z os) ≤ most_levels
unfolding levels_few
few_levels Buy os h = leb-true (length (levels Buy os)) most_levels ((and-eq-true_iff (leb (length (levels Buy os)) most_levels) (leb (length (levels Sell os)) most_levels)).0 h).0
few_levels Sell os h = leb-true (length (levels Sell os)) most_levels ((and-eq-true_iff (leb (length (levels Buy os)) most_levels) (leb (length (levels Sell os)) most_levels)).0 h).1

-- code 5, in its parts
pub few_parts : (d : Depth) → depth_few d ≡ true → (length d.resting ≤ most_orders) × (levels_few d.resting ≡ true) × (length d.changed ≤ most_changed)
unfolding depth_few
few_parts d h =
    let t = (and-eq-true_iff (leb (length d.resting) most_orders) (levels_few d.resting && leb (length d.changed) most_changed)).0 h in
    let u = (and-eq-true_iff (levels_few d.resting) (leb (length d.changed) most_changed)).0 t.1 in
    (leb-true (length d.resting) most_orders t.0, u.0, leb-true (length d.changed) most_changed u.1)
