-- Code 7 for the ledger: where every wallet fits, a change of one account's orders of a side is judged by that one total. Assumes nothing.
use Rattle.std.specs.Prelude.{None, is_some}
use mathlib.Core.Path.{◌≡◌, refl, sym, ap, subst, ◌∙◌}
use mathlib.Core.Bool.{true, false, cond, ◌&&◌, and-true, false≢true}
use mathlib.Core.Logic.{⊎_elim}
use mathlib.Core.List.{List, [], ◌∷◌, ◌++◌}
use Prim.Native.Nat.{ℕ, ◌<◌}
use borrow.Author.Tests.{eq-eqb}
use lib.ListN.{get_or}
use lib.IntN.{ℤ, pos, ◌+ℤ◌, ◌-ℤ◌, +ℤ_idr}
use Rattle.orderbook.specs.declared.Side.{Side}
use Rattle.table.specs.Live.{Each}
use Rattle.table.proofs.Lists.{each_map}
use Rattle.table.proofs.Live.{same?}
use Rattle.words.specs.Words.{int}
use Rattle.gateway.specs.Limits.{owner_slots}
use Rattle.gateway.specs.Ledger.{Order, Ledger, with_orders, same_side, held, fits, holds_fit}
use Rattle.gateway.proofs.Base.{split}
use Rattle.gateway.proofs.Holds.{holds_each, side_fits, Other, holds_listed}
use Rattle.store.specs.Cells as C
use Rattle.store.specs.View.{Store, ledger}
use Rattle.sound.specs.Sound.{held_cell, Held}
use Rattle.sound.proofs.Totals.{held_parts, held_foreign, held_opposite, total_exact}

-- ---- orders of one account and side give way to others

pub record Swap (a : ℕ) (z : Side) (old new os ps : List Order) : Type 0 where
  pub low : List Order
  pub high : List Order
  pub from : os ≡ low ++ (old ++ high)
  pub to : ps ≡ low ++ (new ++ high)
  pub old_mine : Each (λ o. (o.account ≡ a) × (o.side ≡ z)) old
  pub new_mine : Each (λ o. (o.account ≡ a) × (o.side ≡ z)) new

no_change : (v : ℤ) {x y : ℤ} → x ≡ pos 0 → y ≡ pos 0 → v -ℤ x +ℤ y ≡ v
no_change v p q = (λ i. v -ℤ p i +ℤ q i) ∙ +ℤ_idr (v +ℤ pos 0) ∙ +ℤ_idr v

module _ {a : ℕ} {z : Side} {old new os ps : List Order} (fee : ℤ) (s : Swap a z old new os ps) where
  swap_held : (b : ℕ) (y : Side) → held fee b y ps ≡ held fee b y os -ℤ held fee b y old +ℤ held fee b y new
  swap_held b y = rw (s.from, s.to) (held_parts b fee y s.low old new s.high)

  -- of another account, and of the other side
  others_stay : (b : ℕ) → (b ≡ a → ⊥) → (y : Side) → held fee b y ps ≡ held fee b y os
  others_stay b n y =
      swap_held b y
      ∙ no_change (held fee b y os) (held_foreign b fee y old (each_map (λ o q r. n (sym r ∙ q.0)) old s.old_mine)) (held_foreign b fee y new (each_map (λ o q r. n (sym r ∙ q.0)) new s.new_mine))

  side_stays : (y : Side) → same_side y z ≡ false → held fee a y ps ≡ held fee a y os
  side_stays y n =
      swap_held a y
      ∙ no_change (held fee a y os) (held_opposite a fee y old (each_map (λ o q. ap (same_side y) q.1 ∙ n) old s.old_mine))
      (held_opposite a fee y new (each_map (λ o q. ap (same_side y) q.1 ∙ n) new s.new_mine))

-- an account without a wallet always passes
pub holds_swap : (l : Ledger) {a : ℕ} {z : Side} {old new ps : List Order} → Swap a z old new l.orders ps → holds_fit l ≡ true →
    holds_fit (with_orders ps l) ≡ cond (is_some (get_or l.wallets a None)) (fits (held l.fee a z l.orders -ℤ held l.fee a z old +ℤ held l.fee a z new)) true
holds_swap l {a} {z} {old} {new} {ps} s h =
    split (λ b. (is_some (get_or l.wallets a None) ≡ b) → holds_fit (with_orders ps l) ≡ cond b (fits (held l.fee a z l.orders -ℤ held l.fee a z old +ℤ held l.fee a z new)) true) (is_some (get_or l.wallets a None))
    (λ _ e. holds_listed l (with_orders ps l) ((a, z) ∷ []) h (λ b. refl) (e, tt) (λ b y _ o. other b y o.0) ∙ and-true _ ∙ ap fits (swap_held l.fee s a z))
    (λ _ e. holds_listed l (with_orders ps l) [] h (λ b. refl) tt (λ b y w _. others_stay l.fee s b (λ q. false≢true (sym e ∙ ap (λ c. is_some (get_or l.wallets c None)) (sym q) ∙ w)) y)) refl
  where
    other : (b : ℕ) (y : Side) → Other b y (a, z) → held l.fee b y ps ≡ held l.fee b y l.orders
    other b y o =
        ⊎_elim (λ (q : b ≡ a). subst (λ c. held l.fee c y ps ≡ held l.fee c y l.orders) (sym q) (side_stays l.fee s y (ap (λ c. c && same_side y z) (sym (eq-eqb a b (sym q))) ∙ o)))
        (λ n. others_stay l.fee s b n y) (same? b a)

-- ---- the stored total is exact

pub held_exact : (s : Store) (a : ℕ) → Held s → holds_fit (ledger s) ≡ true → a < owner_slots → is_some (get_or (ledger s).wallets a None) ≡ true → (z : Side) →
    int (s C.accounts a (held_cell z)) ≡ held (ledger s).fee a z (ledger s).orders
held_exact s a d h l w z = total_exact s a z d l (side_fits (ledger s).fee a (get_or (ledger s).wallets a None) (ledger s).orders w (holds_each (ledger s) h a) z)
