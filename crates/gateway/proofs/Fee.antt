-- What a booking fee changes, and that the fee 0 changes nothing: what `Charges` and `NoFee` of specs/Claims.antt claim. It enters the definitions in `hold`,
-- `pay`, `covered` and `charging`, and every other one hands it on. Assumes nothing.
use Rattle.std.specs.Prelude.{Option, Some, None, option_map, unwrap_or}
use Prim.Native.Nat.{ℕ}
use mathlib.Core.Bool.{false, cond, ◌&&◌}
use mathlib.Core.Path.{◌≡◌, refl, ap, ap₂}
use mathlib.Core.List.{List, [], ◌∷◌}
use lib.IntN.{ℤ, pos, ◌+ℤ◌, ◌*ℤ◌, +ℤ_idr}
use lib.Dec.{eqb}
use lib.Signed.{le_z}
use lib.ListN.{set}
use Rattle.orderbook.specs.declared.Side.{Side}
use Rattle.orderbook.specs.declared.Side.TheVariants.{Buy, Sell}
use Rattle.accounts.specs.declared.Funds.{Funds}
use Rattle.words.specs.Words.{fit, most}
use Rattle.wallet.specs.Wallet as W
use Rattle.gateway.specs.Basics.{option}
use Rattle.gateway.specs.Ledger.{Order, same_side, hold, held, wallet_of, pay}
use Rattle.gateway.specs.Entry.{balance_with, covered}
use Rattle.gateway.specs.Start.{Started, charging}
use Rattle.gateway.specs.Claims.{sum_was, Charges, NoFee}
use Rattle.gateway.proofs.Invariant.{fees_stay}

-- ---- every fee

-- a buy holds (price + fee) × leaves, 0 where it does not fit; a sell holds what it held
buy_holds : (fee p : ℤ) (v : ℕ) → hold fee Buy (Some p) v ≡ unwrap_or (fit ((p +ℤ fee) *ℤ pos v)) (pos 0)
unfolding hold
buy_holds fee p v = refl

sell_holds : (fee : ℤ) (p : Option ℤ) (v : ℕ) → hold fee Sell p v ≡ W.held Sell p v
unfolding hold
sell_holds fee None v = refl
sell_holds fee (Some p) v = refl

-- a fill takes (price + fee) × quantity from the buyer, 2^63 − 1 where it does not fit; the seller is paid the price
buyer_pays : (fee p : ℤ) (q : ℕ) (f : Funds) → W.settle Buy (W.charged fee Buy p) q f ≡ W.bought (unwrap_or (fit ((p +ℤ fee) *ℤ pos q)) most) (W.lots q) f
buyer_pays fee p q f = refl

seller_is_paid : (fee p : ℤ) (q : ℕ) (f : Funds) → W.settle Sell (W.charged fee Sell p) q f ≡ W.settle Sell p q f
seller_is_paid fee p q f = refl

-- ---- the fee 0

no_charge : (s : Side) (p : ℤ) → W.charged (pos 0) s p ≡ p
no_charge Buy p = +ℤ_idr p
no_charge Sell p = refl

hold_was : (s : Side) (p : Option ℤ) (v : ℕ) → hold (pos 0) s p v ≡ W.held s p v
unfolding hold
hold_was s None v = refl
hold_was s (Some p) v = ap (λ x. W.held s (Some x) v) (no_charge s p)

held_was : (a : ℕ) (s : Side) (os : List Order) → held (pos 0) a s os ≡ sum_was a s os
held_was a s [] = refl
held_was a s (o ∷ os) =
    ap₂ (λ x y. cond (eqb o.account a && same_side s o.side) x (pos 0) +ℤ y) (hold_was o.side o.price o.leaves) (held_was a s os)

-- the account of the order is paid, or pays, the trade's price
pay_was : (p : ℤ) (q : ℕ) (o : Option Order) (ws : List (Option Funds)) →
    pay (pos 0) p q o ws ≡ option ws (λ x. set ws x.account (option_map (W.settle x.side p q) (wallet_of ws x))) o
unfolding pay
pay_was p q None ws = refl
pay_was p q (Some x) ws = ap (λ y. set ws x.account (option_map (W.settle x.side y q) (wallet_of ws x))) (no_charge x.side p)

-- a wallet's limit order is asked to be paid for at its price
covered_was : (s : Side) (p : ℤ) (q a : ℕ) (w : Funds) (os : List Order) →
    covered (pos 0) s p q a w os ≡ option false (λ h. le_z (pos 0) h && W.covers s h (balance_with (pos 0) a os w)) (W.hold_of s p q)
covered_was s p q a w os = ap (λ x. option false (λ h. le_z (pos 0) h && W.covers s h (balance_with (pos 0) a os w)) (W.hold_of s x q)) (no_charge s p)

-- and a start is judged as it was
start_was : (s : Started) → charging (pos 0) s ≡ s
unfolding charging
start_was s = refl

-- ---- the claims

pub charges : Charges
charges = record { buy_holds = buy_holds; sell_holds = sell_holds; buyer_pays = buyer_pays; seller_is_paid = seller_is_paid; stays = fees_stay }

pub no_fee : NoFee
no_fee = record { held_was = held_was; pay_was = pay_was; covered_was = covered_was; start_was = start_was }
