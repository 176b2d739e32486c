-- Hold totals of all wallets are in range where those of each are; and where some of them change, those decide. Assumes nothing.
use Rattle.std.specs.Prelude.{Option, Some, None, is_some}
use mathlib.Core.Path.{◌≡◌, refl, sym, ap, ap₂, ◌∙◌}
use mathlib.Core.Bool.{Bool, true, false, ◌&&◌, ◌||◌, and-eq-true_iff, false≢true}
use mathlib.Core.List.{List, [], ◌∷◌}
use Prim.Native.Nat.{ℕ, zero, suc, ◌+◌}
use native.Mathlib.Omega.{arith}
use borrow.Author.Tests.{eqb-true}
use lib.IntN.{ℤ}
use lib.ListN.{get_or}
use lib.Dec.{eqb}
use Rattle.accounts.specs.declared.Funds.{Funds}
use Rattle.orderbook.specs.declared.Side.{Side}
use Rattle.orderbook.specs.declared.Side.TheVariants.{Buy, Sell}
use Rattle.table.specs.Live.{Each}
use Rattle.gateway.specs.Ledger.{Order, Ledger, same_side, held, fits, wallet_fits, wallets_fit, holds_fit}
use Rattle.gateway.proofs.Base.{split}

-- ---- all wallets, one by one

abbrev pub fits_at : ℕ → Ledger → Bool
fits_at a l = wallet_fits l.fee a (get_or l.wallets a None) l.orders

wallets_each : (fee : ℤ) (k : ℕ) (ws : List (Option Funds)) (os : List Order) → wallets_fit fee k ws os ≡ true → (i : ℕ) → wallet_fits fee (k + i) (get_or ws i None) os ≡ true
wallets_each fee k [] os h i = refl
wallets_each fee k (w ∷ ws) os h zero =
    let e : k + zero ≡ k = omega arith in
    rw e ((and-eq-true_iff (wallet_fits fee k w os) (wallets_fit fee (suc k) ws os)).0 h).0
wallets_each fee k (w ∷ ws) os h (suc i) =
    let e : k + suc i ≡ suc k + i = omega arith in
    rw e (wallets_each fee (suc k) ws os ((and-eq-true_iff (wallet_fits fee k w os) (wallets_fit fee (suc k) ws os)).0 h).1 i)

each_wallets : (fee : ℤ) (k : ℕ) (ws : List (Option Funds)) (os : List Order) → ((i : ℕ) → wallet_fits fee (k + i) (get_or ws i None) os ≡ true) → wallets_fit fee k ws os ≡ true
each_wallets fee k [] os h = refl
each_wallets fee k (w ∷ ws) os h =
    let e : k + zero ≡ k = omega arith in
    (and-eq-true_iff (wallet_fits fee k w os) (wallets_fit fee (suc k) ws os)).1
    (ap (λ j. wallet_fits fee j w os) (sym e) ∙ h zero, each_wallets fee (suc k) ws os (λ i. let f : k + suc i ≡ suc k + i = omega arith in ap (λ j. wallet_fits fee j (get_or ws i None) os) (sym f) ∙ h (suc i)))

pub holds_each : (l : Ledger) → holds_fit l ≡ true → (a : ℕ) → fits_at a l ≡ true
unfolding holds_fit
holds_each l h a = let e : 0 + a ≡ a = omega arith in ap (λ j. wallet_fits l.fee j (get_or l.wallets a None) l.orders) (sym e) ∙ wallets_each l.fee 0 l.wallets l.orders h a

each_holds : (l : Ledger) → ((a : ℕ) → fits_at a l ≡ true) → holds_fit l ≡ true
unfolding holds_fit
each_holds l h = each_wallets l.fee 0 l.wallets l.orders (λ i. let e : 0 + i ≡ i = omega arith in ap (λ j. wallet_fits l.fee j (get_or l.wallets i None) l.orders) e ∙ h i)

-- each total of a wallet
pub side_fits : (fee : ℤ) (a : ℕ) (w : Option Funds) (os : List Order) → is_some w ≡ true → wallet_fits fee a w os ≡ true → (z : Side) → fits (held fee a z os) ≡ true
side_fits fee a None os e h z = absurd (false≢true e)
side_fits fee a (Some f) os e h Buy = ((and-eq-true_iff (fits (held fee a Buy os)) (fits (held fee a Sell os))).0 h).0
side_fits fee a (Some f) os e h Sell = ((and-eq-true_iff (fits (held fee a Buy os)) (fits (held fee a Sell os))).0 h).1

-- ---- some totals change, and the others stay

-- a total: an account and a side
abbrev pub Total : Type 0
Total = ℕ × Side

abbrev is_in : ℕ → Side → List Total → Bool
is_in a z [] = false
is_in a z (t ∷ ts) = (eqb t.0 a && same_side z t.1) || is_in a z ts

abbrev pub totals_fit : ℤ → List Total → List Order → Bool
totals_fit fee [] os = true
totals_fit fee (t ∷ ts) os = fits (held fee t.0 t.1 os) && totals_fit fee ts os

-- t is another total
abbrev pub Other : ℕ → Side → Total → Type 0
Other a z t = (eqb t.0 a && same_side z t.1) ≡ false

pub side_is : (z w : Side) → same_side z w ≡ true → z ≡ w
side_is Buy Buy e = refl
side_is Buy Sell e = absurd (false≢true e)
side_is Sell Buy e = absurd (false≢true e)
side_is Sell Sell e = refl

listed_fits : (fee : ℤ) (a : ℕ) (z : Side) (ts : List Total) (os : List Order) → totals_fit fee ts os ≡ true → is_in a z ts ≡ true → fits (held fee a z os) ≡ true
listed_fits fee a z [] os h e = absurd (false≢true e)
listed_fits fee a z (t ∷ ts) os h e =
    let u = (and-eq-true_iff (fits (held fee t.0 t.1 os)) (totals_fit fee ts os)).0 h in
    split (λ b. ((eqb t.0 a && same_side z t.1) ≡ b) → b || is_in a z ts ≡ true → fits (held fee a z os) ≡ true) (eqb t.0 a && same_side z t.1)
    (λ _ q _.
    let v = (and-eq-true_iff (eqb t.0 a) (same_side z t.1)).0 q in
    ap₂ (λ b w. fits (held fee b w os)) (sym (eqb-true t.0 a v.0)) (side_is z t.1 v.1) ∙ u.0)
    (λ _ _ k. listed_fits fee a z ts os u.1 k) refl e

not_listed : (a : ℕ) (z : Side) (ts : List Total) → is_in a z ts ≡ false → Each (Other a z) ts
not_listed a z [] e = tt
not_listed a z (t ∷ ts) e =
    split (λ b. ((eqb t.0 a && same_side z t.1) ≡ b) → b || is_in a z ts ≡ false → Each (Other a z) (t ∷ ts)) (eqb t.0 a && same_side z t.1)
    (λ _ _ k. absurd (false≢true (sym k))) (λ _ q k. (q, not_listed a z ts k)) refl e

both_ways : (b c : Bool) → (b ≡ true → c ≡ true) → (c ≡ true → b ≡ true) → b ≡ c
both_ways true c f g = sym (f refl)
both_ways false true f g = g refl
both_ways false false f g = refl

-- where every total fitted, those that changed decide
pub holds_listed : (l k : Ledger) (ts : List Total) → holds_fit l ≡ true → ((a : ℕ) → is_some (get_or k.wallets a None) ≡ is_some (get_or l.wallets a None)) →
    Each (λ t. is_some (get_or l.wallets t.0 None) ≡ true) ts →
    ((a : ℕ) (z : Side) → is_some (get_or l.wallets a None) ≡ true → Each (Other a z) ts → held k.fee a z k.orders ≡ held l.fee a z l.orders) →
    holds_fit k ≡ totals_fit k.fee ts k.orders
holds_listed l k ts h same mine stay = both_ways (holds_fit k) (totals_fit k.fee ts k.orders) (λ e. down e ts mine) (λ e. each_holds k (up e))
  where
    down : holds_fit k ≡ true → (us : List Total) → Each (λ t. is_some (get_or l.wallets t.0 None) ≡ true) us → totals_fit k.fee us k.orders ≡ true
    down e [] m = refl
    down e (t ∷ us) m =
        (and-eq-true_iff (fits (held k.fee t.0 t.1 k.orders)) (totals_fit k.fee us k.orders)).1
        (side_fits k.fee t.0 (get_or k.wallets t.0 None) k.orders (same t.0 ∙ m.0) (holds_each k e t.0) t.1, down e us m.1)

    total : totals_fit k.fee ts k.orders ≡ true → (a : ℕ) → is_some (get_or l.wallets a None) ≡ true → (z : Side) → fits (held k.fee a z k.orders) ≡ true
    total e a w z =
        split (λ b. (is_in a z ts ≡ b) → fits (held k.fee a z k.orders) ≡ true) (is_in a z ts) (λ _ i. listed_fits k.fee a z ts k.orders e i)
        (λ _ i. ap fits (stay a z w (not_listed a z ts i)) ∙ side_fits l.fee a (get_or l.wallets a None) l.orders w (holds_each l h a) z) refl

    up : totals_fit k.fee ts k.orders ≡ true → (a : ℕ) → fits_at a k ≡ true
    up e a = by (get_or k.wallets a None) refl
      where
        by : (w : Option Funds) → get_or k.wallets a None ≡ w → wallet_fits k.fee a w k.orders ≡ true
        by None q = refl
        by (Some f) q =
            let v = sym (same a) ∙ ap is_some q in
            (and-eq-true_iff (fits (held k.fee a Buy k.orders)) (fits (held k.fee a Sell k.orders))).1 (total e a v Buy, total e a v Sell)
