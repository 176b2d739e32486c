-- What each way through the code shows, one law for each, for `search`. Assumes nothing.
use Rattle.std.specs.Prelude.{Option, Some, None, option_map, unwrap_or}
use mathlib.Core.Path.{◌≡◌, refl, sym, ◌∙◌, ap}
use mathlib.Core.Bool.{Bool, true, false, cond}
use Prim.Native.Nat.{ℕ, suc, ◌-◌, ◌*◌, ◌≤◌, ◌<◌}
use native.Mathlib.Nat.{mul-le-mul}
use native.Mathlib.Omega.{arith}
use lib.Dec.{leb}
use lib.IntN.{ℤ, pos, negsuc, ◌+ℤ◌, ◌-ℤ◌, ◌*ℤ◌, +ℤ_idr, *ℤ-zero}
use lib.Signed.{le_z}
use borrow.Author.Rules.{rules}
use borrow.Author.Tests.{leb-false}
use Rattle.orderbook.specs.declared.Side.{Side}
use Rattle.orderbook.specs.declared.Side.TheVariants.{Buy, Sell}
use Rattle.protocol.specs.declared.Balance.{Balance}
use Rattle.words.specs.declared.Signed128.{Signed128}
use Rattle.words.specs.Words.{half, least, most, int, value, amount, Place, inside, above, below, place_of, fit_in, fit, clamp}
use Rattle.words.proofs.Int.{int_zero, int_most, low}
use Rattle.words.proofs.Laws.{less_zero, not_pos, not_neg}
use Rattle.wallet.specs.declared.Wallet.{Wallet}
use Rattle.wallet.specs.Wallet as W

pub covered : (side : Side) (b : Balance) (a o h : ℕ) (r : Bool) → int o ≡ W.owned_on side b → int h ≡ W.held_on side b → r ≡ le_z (int a) (int o -ℤ int h) → r ≡ W.covers side (int a) b
covered side b a o h r eo eh e = e ∙ (λ i. le_z (int a) (eo i -ℤ eh i))

change : (side : Side) (b : Balance) (old new h : ℕ) (a q : Option ℕ) → int h ≡ W.held_on side b → amount a ≡ fit (int h -ℤ int old +ℤ int new) → a ≡ q → option_map (λ total. W.with_held side total b) (amount q) ≡ W.hold side (int old) (int new) b
change side b old new h a q eh e f = ap (option_map (λ total. W.with_held side total b)) (sym (ap amount f) ∙ e ∙ (λ i. fit (eh i -ℤ int old +ℤ int new)))

pub holds : (side : Side) (b : Balance) (old new h : ℕ) (a : Option ℕ) (t : ℕ) (r : Balance) → int h ≡ W.held_on side b → amount a ≡ fit (int h -ℤ int old +ℤ int new) → a ≡ Some t → r ≡ W.with_held side (int t) b → Some r ≡ W.hold side (int old) (int new) b
holds side b old new h a t r eh e f p = ap Some p ∙ change side b old new h a (Some t) eh e f

pub overflows : (side : Side) (b : Balance) (old new h : ℕ) (a : Option ℕ) → int h ≡ W.held_on side b → amount a ≡ fit (int h -ℤ int old +ℤ int new) → a ≡ None → None ≡ W.hold side (int old) (int new) b
overflows side b old new h a eh e f = change side b old new h a None eh e f

-- the word of a number that fits, or another word
or_else : (a : Option ℕ) (d : ℕ) → int (unwrap_or a d) ≡ unwrap_or (amount a) (int d)
or_else None d = refl
or_else (Some w) d = refl

pub at_price : (fee : ℕ) (side : Side) (p : Bool) (price leaves r : ℕ) (a : Option ℕ) → p ≡ true → amount a ≡ W.hold_of side (W.charged (int fee) side (int price)) leaves → r ≡ unwrap_or a 0 →
    int r ≡ W.held side (option_map (W.charged (int fee) side) (W.price_of p (int price))) leaves
at_price fee side p price leaves r a t e f = rw t (ap int f ∙ or_else a 0 ∙ (λ i. unwrap_or (e i) (int_zero i)))

pub no_price : (fee : ℕ) (side : Side) (p : Bool) (price leaves : ℕ) → p ≡ false → int 0 ≡ W.held side (option_map (W.charged (int fee) side) (W.price_of p (int price))) leaves
no_price fee side p price leaves t = rw t int_zero

-- ---- the price with the fee

-- what fits is itself
itself_fits : (x z : ℤ) → Some x ≡ fit z → x ≡ z
unfolding place_of
itself_fits x z = by (le_z least z) (le_z z most)
  where
    by : (b c : Bool) → Some x ≡ fit_in (cond b (cond c (inside z) above) below) → x ≡ z
    by true true e = cc
    by true false e = absurd (let k : ◌≡◌ {A = ℕ} 0 1 = cc in omega (arith, k))
    by false c e = absurd (let k : ◌≡◌ {A = ℕ} 0 1 = cc in omega (arith, k))

past : (n m : ℕ) (z : ℤ) (p : Place) (b : Bool) → leb n m ≡ b → None ≡ fit_in (cond b (inside z) p) → m < n
past n m z p true e h = absurd (let k : ◌≡◌ {A = ℕ} 0 1 = cc in omega (arith, k))
past n m z p false e h = leb-false n m e

-- a sum that does not fit costs what does not fit, for any lots at all
beyond : (z : ℤ) (q : ℕ) → None ≡ fit z → (q ≡ 0 → ⊥) → None ≡ fit (z *ℤ pos q)
unfolding place_of
beyond (pos n) q e h =
    let k = past n (half - 1) (pos n) above _ refl e in
    let g : n * 1 ≤ n * q = mul-le-mul (omega arith) (omega arith) in
    not_pos (n * q) (omega (arith, k, g))
beyond (negsuc n) q e h =
    let k = past n (half - 1) (negsuc n) below _ refl e in
    let g : suc n * 1 ≤ suc n * q = mul-le-mul (omega arith) (omega arith) in
    not_neg (suc n * q) (omega (arith, k, g))

sum_is : (price fee : ℕ) (a b : Option ℕ) → amount a ≡ fit (int price -ℤ int 0 +ℤ int fee) → a ≡ b → amount b ≡ fit (int price +ℤ int fee)
sum_is price fee a b e f = sym (ap amount f) ∙ e ∙ ap fit (less_zero price fee)

pub sum_fits : (price fee qty sum : ℕ) (a r : Option ℕ) (s : Signed128) → amount a ≡ fit (int price -ℤ int 0 +ℤ int fee) → a ≡ Some sum → value s ≡ int sum *ℤ pos qty → amount r ≡ fit (value s) →
    amount r ≡ W.cost (int price +ℤ int fee) qty
sum_fits price fee qty sum a r s e f g h = h ∙ ap fit g ∙ ap (λ (z : ℤ). fit (z *ℤ pos qty)) (itself_fits (int sum) _ (sum_is price fee a (Some sum) e f))

pub sum_of_none : (price fee qty : ℕ) → qty ≡ 0 → Some (int 0) ≡ W.cost (int price +ℤ int fee) qty
unfolding place_of
sum_of_none price fee qty e = rw (e, *ℤ-zero, int_zero)

pub sum_past : (price fee qty : ℕ) (a : Option ℕ) → amount a ≡ fit (int price -ℤ int 0 +ℤ int fee) → a ≡ None → (qty ≡ 0 → ⊥) → None ≡ W.cost (int price +ℤ int fee) qty
sum_past price fee qty a e f h = beyond _ qty (sum_is price fee a None e f) h

-- a fee that is chosen by the side
chosen : (side : Side) (fee price : ℕ) → int price +ℤ int (W.pick side fee 0) ≡ W.charged (int fee) side (int price)
chosen Buy fee price = refl
chosen Sell fee price = rw int_zero (+ℤ_idr (int price))

-- what is chosen is small where what it is chosen from is
pub fee_small : (side : Side) (fee f : ℕ) → f ≡ W.pick side fee 0 → fee < W.small → f < W.small
fee_small Buy fee f e l = rw e l
fee_small Sell fee f e l = omega (arith, e)

pub picked_small : (side : Side) (price p : ℕ) → p ≡ W.pick side price 1 → price < W.small → p < W.small
picked_small Buy price p e l = rw e l
picked_small Sell price p e l = omega (arith, e)

itself : (q : ℕ) → (int 1 +ℤ int 0) *ℤ pos q ≡ pos q
itself q = rw int_zero (ap (λ (z : ℤ). z *ℤ pos q) (+ℤ_idr (int 1) ∙ low 1 (omega arith)) ∙ ap pos (omega arith))

pub hold_is : (side : Side) (fee price leaves f p : ℕ) (a : Option ℕ) → f ≡ W.pick side fee 0 → p ≡ W.pick side price 1 → amount a ≡ W.cost (int p +ℤ int f) leaves →
    amount a ≡ W.hold_of side (W.charged (int fee) side (int price)) leaves
hold_is Buy fee price leaves f p a d e g = g ∙ (λ i. W.cost (int (e i) +ℤ int (d i)) leaves)
hold_is Sell fee price leaves f p a d e g = g ∙ (λ i. W.cost (int (e i) +ℤ int (d i)) leaves) ∙ ap fit (itself leaves)

pub cost_is : (side : Side) (fee price qty f : ℕ) (a : Option ℕ) → f ≡ W.pick side fee 0 → amount a ≡ W.cost (int price +ℤ int f) qty → amount a ≡ W.cost (W.charged (int fee) side (int price)) qty
cost_is side fee price qty f a d g = g ∙ ap (λ (w : ℕ). W.cost (int price +ℤ int w) qty) d ∙ ap (λ (z : ℤ). W.cost z qty) (chosen side fee price)

-- the picks and sums of a settling, the last ones first
pub settles : (side : Side) (w : Wallet) (price : ℤ) (qty cash position given taken from spent to won paid lots : ℕ) (a l : Option ℕ) → cash ≡ W.pick side given taken → position ≡ W.pick side taken given →
    int taken ≡ clamp (int to +ℤ int won) → won ≡ W.pick side lots paid → to ≡ W.pick side w.position w.cash →
    int given ≡ clamp (int from -ℤ int spent) → spent ≡ W.pick side paid lots → from ≡ W.pick side w.cash w.position →
    lots ≡ unwrap_or l (half - 1) → amount l ≡ fit (pos qty) → paid ≡ unwrap_or a (half - 1) → amount a ≡ W.cost price qty →
    W.with_funds (record { cash = int cash; position = int position }) (W.balance_of w) ≡ W.settled side price qty (W.balance_of w)
settles Buy w price qty cash position given taken from spent to won paid lots a l e1 e2 e3 e4 e5 e6 e7 e8 e9 e10 e11 e12 = cc (int_most, ap int e9 ∙ or_else l (half - 1), ap int e11 ∙ or_else a (half - 1))
settles Sell w price qty cash position given taken from spent to won paid lots a l e1 e2 e3 e4 e5 e6 e7 e8 e9 e10 e11 e12 = cc (int_most, ap int e9 ∙ or_else l (half - 1), ap int e11 ∙ or_else a (half - 1))

pub ruleset laws = (rules, covered, holds, overflows, at_price, no_price, sum_fits, sum_of_none, sum_past, fee_small, picked_small, hold_is, cost_is, settles)
