use Rattle.std.specs.Prelude.{Some}
use mathlib.Core.Path.{◌≡◌, sym, ◌∙◌}
use Prim.Native.Nat.{ℕ, ◌+◌, ◌*◌, ◌<◌, ◌≤◌}
use native.Mathlib.Nat.{mul-le-mul}
use native.Mathlib.Omega.{arith}
use lib.IntN.{pos, ◌+ℤ◌, ◌*ℤ◌}
use Rattle.words.specs.Words.{half, int, fit}
use Rattle.words.proofs.Int.{low}
use Rattle.words.proofs.Laws.{fits_pos}
use Rattle.wallet.specs.Wallet as W
use Rattle.wallet.proofs.charge_within.Goals as goal

small : (p f q : ℕ) → p < W.small → f < W.small → q < W.small → (p + f) * q < half
small p f q h g k =
    let most : (p + f) * q ≤ 4294967294 * 2147483647 = mul-le-mul {n₂ = 4294967294} {m₂ = 2147483647} (omega arith) (omega arith) in
    omega (arith, most)

fits : (p f q : ℕ) → p < W.small → f < W.small → q < W.small → Some (int ((p + f) * q)) ≡ fit ((int p +ℤ int f) *ℤ pos q)
fits p f q h g k = fits_pos ((p + f) * q) (small p f q h g k) ∙ (λ i. fit ((sym (low p (omega arith)) i +ℤ sym (low f (omega arith)) i) *ℤ pos q))

pub overflow_add-amount : goal.overflow_add-amount
overflow_add-amount c = omega (arith, c.requires.price_small c.if-bound-lt-SMALL.true, c.requires.fee_small c.if-highest-lt-SMALL.true)

pub overflow_mul-amount : goal.overflow_mul-amount
overflow_mul-amount c = omega (arith, small _ _ _ (c.requires.price_small c.if-bound-lt-SMALL.true) (c.requires.fee_small c.if-highest-lt-SMALL.true) c.if-qty-lt-SMALL.true)

pub returns-then-qty-lt-SMALL : goal.returns-then-qty-lt-SMALL
returns-then-qty-lt-SMALL c = fits _ _ _ (c.requires.price_small c.if-bound-lt-SMALL.true) (c.requires.fee_small c.if-highest-lt-SMALL.true) c.if-qty-lt-SMALL.true
