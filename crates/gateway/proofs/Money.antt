-- Amounts that fit: settling leaves such, and a word keeps them. Assumes nothing.
use Rattle.std.specs.Prelude.{is_some}
use mathlib.Core.Path.{◌≡◌, refl}
use mathlib.Core.Bool.{true, cond}
use Prim.Native.Nat.{ℕ}
use native.Mathlib.Omega.{arith}
use borrow.Author.Tests.{leb-true}
use lib.IntN.{ℤ, pos, negsuc}
use lib.Signed.{le_z}
use mir.Syntax.{w64}
use mir.Val.{of_z, to_z}
use mir.ValLaws.{to_z-of_z}
use Rattle.orderbook.specs.declared.Side.{Side}
use Rattle.orderbook.specs.declared.Side.TheVariants.{Buy, Sell}
use Rattle.accounts.specs.declared.Funds.{Funds}
use Rattle.words.specs.Words.{least, most, place_of, fit_in, nearest_to, clamp, inside, above, below}
use Rattle.wallet.specs.Wallet.{settle}
use Rattle.gateway.specs.Ledger.{fits}
use Rattle.gateway.specs.Fits.{FundsFit}
use Rattle.gateway.proofs.Base.{split}

pub zero_fits : fits (pos 0) ≡ true
unfolding fits place_of
zero_fits = refl

-- a number between the two ends
pub between : (z : ℤ) → le_z least z ≡ true → le_z z most ≡ true → fits z ≡ true
unfolding fits place_of
between z a b = rw (a, b) refl

clamp_fits : (z : ℤ) → fits (clamp z) ≡ true
unfolding fits place_of
clamp_fits z =
    split (λ x. (le_z least z ≡ x) → fits (nearest_to (cond x (cond (le_z z most) (inside z) above) below)) ≡ true) (le_z least z)
    (λ _ a. split (λ y. (le_z z most ≡ y) → fits (nearest_to (cond y (inside z) above)) ≡ true) (le_z z most) (λ _ b. between z a b) (λ _ b. refl) refl)
    (λ _ a. refl) refl

pub settle_fits : (s : Side) (p : ℤ) (q : ℕ) (w : Funds) → FundsFit (settle s p q w)
settle_fits Buy p q w = (clamp_fits _, clamp_fits _)
settle_fits Sell p q w = (clamp_fits _, clamp_fits _)

pub bounds : (z : ℤ) → fits z ≡ true → (le_z least z ≡ true) × (le_z z most ≡ true)
unfolding fits place_of
bounds z =
    split (λ x. (le_z least z ≡ x) → is_some (fit_in (cond x (cond (le_z z most) (inside z) above) below)) ≡ true → (x ≡ true) × (le_z z most ≡ true)) (le_z least z)
    (λ _ a. split (λ y. is_some (fit_in (cond y (inside z) above)) ≡ true → (true ≡ true) × (y ≡ true)) (le_z z most) (λ b e. (refl, refl)) (λ b e. (refl, e)))
    (λ _ a e. (e, absurd (let f : ◌≡◌ {A = ℕ} 0 1 = cc in omega (arith, f)))) refl

-- a number that fits is read back from its word
pub word_back : (z : ℤ) → fits z ≡ true → to_z w64 (of_z w64 z) ≡ z
word_back (pos n) h = to_z-of_z w64 (pos n) (record { sfits = omega (arith, leb-true n 9223372036854775807 (bounds (pos n) h).1) })
word_back (negsuc n) h = to_z-of_z w64 (negsuc n) (record { sfits = omega (arith, leb-true n 9223372036854775807 (bounds (negsuc n) h).0) })
