-- A level has at most as many orders as rest. Assumes nothing.
use mathlib.Core.Bool.{cond}
use mathlib.Core.List.{List, [], ◌∷◌}
use Prim.Native.Nat.{ℕ, zero, suc, ◌≤◌, ◌<◌}
use native.Mathlib.Nat.{not-suc-le-zero, le_of_suc-le-suc}
use native.Mathlib.Omega.{arith}
use lib.ListN.{length, get_or}
use lib.IntN.{ℤ}
use Rattle.orderbook.specs.declared.Side.{Side}
use Rattle.table.specs.Live.{Each}
use Rattle.table.proofs.Lists.{each_map}
use Rattle.gateway.specs.Ledger.{same_side}
use Rattle.gateway.specs.Depth.{Resting, Level, joined, levels}
use Rattle.gateway.proofs.Base.{split}
use Rattle.gateway.proofs.Counted.{joins}

module _ (s : Side) where
  joined_few : (p : ℤ) (v n : ℕ) (ls : List Level) → Each (λ l. l.orders ≤ n) ls → Each (λ l. l.orders ≤ suc n) (joined s p v ls)
  joined_few p v n [] t = (omega arith, tt)
  joined_few p v n (l ∷ ls) t =
      let rest = each_map (λ (m : Level) (h : m.orders ≤ n). let k : m.orders ≤ suc n = omega arith in k) ls t.1 in
      joins s p v (λ ms. Each (λ m. m.orders ≤ suc n) ms) l ls (λ e. (omega (arith, t.0), rest)) (λ b. (omega arith, (omega (arith, t.0), rest)))
      (λ b. (omega (arith, t.0), joined_few p v n ls t.1))

  each_few : (os : List Resting) → Each (λ l. l.orders ≤ length os) (levels s os)
  each_few [] = tt
  each_few (o ∷ os) =
      split (λ b. Each (λ l. l.orders ≤ suc (length os)) (cond b (joined s o.price o.visible (levels s os)) (levels s os))) (same_side s o.side)
      (λ _. joined_few o.price o.visible (length os) (levels s os) (each_few os))
      (λ _. each_map (λ (m : Level) (h : m.orders ≤ length os). let k : m.orders ≤ suc (length os) = omega arith in k) (levels s os) (each_few os))

each_at : {A : Type 0} (P : A → Type 0) (l : List A) (j : ℕ) (d : A) → Each P l → j < length l → P (get_or l j d)
each_at P [] j d e h = absurd (not-suc-le-zero h)
each_at P (x ∷ l) zero d e h = e.0
each_at P (x ∷ l) (suc j) d e h = each_at P l j d e.1 (le_of_suc-le-suc h)

pub level_few : (s : Side) (os : List Resting) (j : ℕ) (d : Level) → j < length (levels s os) → (get_or (levels s os) j d).orders ≤ length os
level_few s os j d h = each_at (λ l. l.orders ≤ length os) (levels s os) j d (each_few s os) h
