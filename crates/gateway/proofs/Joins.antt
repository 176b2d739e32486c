-- Codes 7 and 5 for an order that comes to rest: where every level is in range, its own level decides; the tables by three counts.
-- Assumes nothing.
use mathlib.Core.Path.{◌≡◌, sym, ap, ap₂, ◌∙◌}
use mathlib.Core.Bool.{Bool, true, cond, ◌&&◌, and-true, and-eq-true_iff}
use mathlib.Core.List.{List, [], ◌∷◌}
use Prim.Native.Nat.{ℕ, suc, ◌+◌, ◌<◌}
use native.Mathlib.Omega.{arith}
use lib.ListN.{length}
use lib.Dec.{ltb, leb}
use lib.IntN.{ℤ}
use Rattle.orderbook.specs.declared.Side.{Side}
use Rattle.words.specs.Words.{modulus}
use Rattle.table.proofs.Lists.{each_map}
use Rattle.gateway.specs.Limits.{most_orders, most_levels, most_changed}
use Rattle.gateway.specs.Depth.{Resting, Level, Depth, same_price, better, joined, levels, level_in, key_of, remember, resting_number, add, quantities_fit, levels_fit, depth_few}
use Rattle.gateway.proofs.Sorted.{length_insert}
use Rattle.gateway.specs.Claims.{Best}
use Rattle.gateway.proofs.Counted.{better_trans, levels_best}
use Rattle.gateway.proofs.Levels.{same_itself, better_apart, at_level, before_level, after_level, compared, add_levels}
use Rattle.gateway.proofs.AtPrice.{side_fits, worse_none}
use Rattle.gateway.proofs.Depths.{Few, own_fits, own_few}

module _ (s : Side) (p : ℤ) (v : ℕ) where
  at_none : (l : Level) (ls : List Level) → Best s (l ∷ ls) → better s p l.price ≡ true → level_in p (l ∷ ls) ≡ level_in p []
  at_none l ls t b = worse_none s p (l ∷ ls) (b, each_map (λ m h. better_trans s p l.price m.price b h) ls t.0)

  -- the level that it joins decides
  joined_fits : (ls : List Level) → Best s ls → quantities_fit ls ≡ true → quantities_fit (joined s p v ls) ≡ ltb ((level_in p ls).qty + v) modulus
  joined_fits [] t h = and-true (ltb v modulus) ∙ ap (λ n. ltb n modulus) (let e : v ≡ 0 + v = omega arith in e)
  joined_fits (l ∷ ls) t h =
      let u = (and-eq-true_iff (ltb l.qty modulus) (quantities_fit ls)).0 h in
      compared s p l
      (λ e.
      ap quantities_fit (at_level s p v l ls e) ∙ ap (λ (b : Bool). ltb (l.qty + v) modulus && b) u.1 ∙ and-true (ltb (l.qty + v) modulus)
      ∙ ap (λ (b : Bool). ltb ((cond b l (level_in p ls)).qty + v) modulus) (sym (ap (same_price p) (sym e) ∙ same_itself p)))
      (λ b.
      ap quantities_fit (before_level s p v l ls b) ∙ ap (λ (c : Bool). ltb v modulus && c) h ∙ and-true (ltb v modulus)
      ∙ ap (λ n. ltb n modulus) (let e : v ≡ 0 + v = omega arith in e) ∙ ap (λ (m : Level). ltb (m.qty + v) modulus) (sym (at_none l ls t b)))
      (λ b.
      ap quantities_fit (after_level s p v l ls b) ∙ ap₂ ◌&&◌ u.0 (joined_fits ls t.1 u.1)
      ∙ ap (λ (c : Bool). ltb ((cond c l (level_in p ls)).qty + v) modulus) (sym (better_apart s l.price p b).0))

  -- at a level that is there
  pub joined_there : (ls : List Level) → Best s ls → 0 < (level_in p ls).orders → length (joined s p v ls) ≡ length ls
  joined_there [] t h = absurd (omega arith)
  joined_there (l ∷ ls) t h =
      compared s p l
      (λ e. ap length (at_level s p v l ls e))
      (λ b. absurd (omega (arith, h, ap (λ (m : Level). m.orders) (at_none l ls t b))))
      (λ b. ap length (after_level s p v l ls b) ∙ ap suc (joined_there ls t.1 (rw (better_apart s l.price p b).0 at h)))

-- ---- the tests

module _ (r : Resting) (d : Depth) where
  abbrev mine : List Level
  mine = levels r.side d.resting

  pub add_fits : levels_fit d.resting ≡ true → levels_fit (add r d).resting ≡ ltb ((level_in r.price mine).qty + r.visible) modulus
  add_fits h =
      own_fits r d.resting (add r d).resting (λ z. joined z r.price r.visible) (λ z. add_levels z r d) h
      ∙ joined_fits r.side r.price r.visible mine (levels_best r.side d.resting) (side_fits d.resting h r.side)

  pub add_few : Few d →
      depth_few (add r d)
      ≡ (leb (suc (length d.resting)) most_orders && (leb (length (joined r.side r.price r.visible mine)) most_levels && leb (length (remember (key_of r) d.changed)) most_changed))
  unfolding depth_few add
  add_few f =
      ap₂ (λ (n : ℕ) (b : Bool). leb n most_orders && (b && leb (length (remember (key_of r) d.changed)) most_changed)) (length_insert resting_number r d.resting)
      (own_few r d.resting (add r d).resting (λ z. joined z r.price r.visible) (λ z. add_levels z r d) f.sides)
