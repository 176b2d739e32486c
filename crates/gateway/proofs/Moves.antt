-- A change of one order: what its account's orders then hold, and that the other orders and the set of wallets stay. Assumes nothing.
use Rattle.std.specs.Prelude.{Option, Some, None, is_some}
use Prim.Native.Nat.{ℕ, suc, ◌<◌}
use mathlib.Core.Bool.{Bool, cond, ◌&&◌}
use mathlib.Core.Path.{◌≡◌, refl, ap, ap₂, sym, ◌∙◌}
use mathlib.Core.List.{List, [], ◌∷◌, ◌++◌}
use native.Mathlib.Omega.{arith}
use borrow.Author.Tests.{eqb-true, ne_eqb}
use lib.IntN.{ℤ, pos, neg_ℤ, ◌+ℤ◌, ◌-ℤ◌, +ℤ_idl, +ℤ_idr, +ℤ_assoc, +ℤ_comm, +ℤ_invl, *ℤ-zero}
use lib.ListN.{get_or}
use lib.Dec.{eqb}
use Rattle.orderbook.specs.declared.Side.{Side}
use Rattle.orderbook.specs.declared.Side.TheVariants.{Buy, Sell}
use Rattle.words.specs.Words.{place_of}
use Rattle.table.specs.Live.{Each, look, without}
use Rattle.gateway.specs.Basics.{option}
use Rattle.gateway.specs.Table.{update}
use Rattle.gateway.specs.Ledger.{Order, Ledger, Change, mark_by, fill, set_leaves, reprice, retire, number_of, find, remove, with_leaves, with_price, left, with_orders, wallet_of, pay, change, same_side, hold, order_hold, held_by, held, wallets_fit, holds_fit}
use Rattle.gateway.specs.Deliver.{hold_after, named, order_notices, change_notices}
use Rattle.gateway.proofs.Base.{split}
use Rattle.gateway.proofs.Sorted.{Absent}
use Rattle.gateway.proofs.Invariant.{Rise, shrunk, rise_shrinks, pay_some, paid}
use Rattle.gateway.specs.Claims.{hold_move}

-- ---- orders of one number give way to others

-- os, where g o stands for each order o of the number n
unfoldable pub turned : ℕ → (Order → List Order) → List Order → List Order
turned n g [] = []
turned n g (o ∷ os) = cond (eqb o.number n) (g o ++ turned n g os) (o ∷ turned n g os)

remove_turned : (n : ℕ) (os : List Order) → remove n os ≡ turned n (λ o. []) os
unfolding without turned
remove_turned n [] = refl
remove_turned n (o ∷ os) = ap (λ r. cond (eqb o.number n) r (o ∷ r)) (remove_turned n os)

update_turned : (n : ℕ) (f : Order → Order) (os : List Order) → update number_of n f os ≡ turned n (λ o. f o ∷ []) os
unfolding update turned
update_turned n f [] = refl
update_turned n f (o ∷ os) =
    ap (λ r. cond (eqb o.number n) (f o) o ∷ r) (update_turned n f os)
    ∙ split (λ b. cond b (f o) o ∷ turned n (λ p. f p ∷ []) os ≡ cond b (f o ∷ turned n (λ p. f p ∷ []) os) (o ∷ turned n (λ p. f p ∷ []) os)) (eqb o.number n) (λ _. refl) (λ _. refl)

-- an order with nothing left is done
abbrev leaves : (Order → Order) → ℕ → Order → List Order
leaves f v o = cond (eqb v 0) [] (with_leaves v (f o) ∷ [])

left_turned : (n : ℕ) (f : Order → Order) (v : ℕ) (os : List Order) → left n f v os ≡ turned n (leaves f v) os
left_turned n f v os =
    split (λ b. cond b (remove n os) (update number_of n (λ o. with_leaves v (f o)) os) ≡ turned n (λ o. cond b [] (with_leaves v (f o) ∷ [])) os) (eqb v 0)
    (λ _. remove_turned n os) (λ _. update_turned n (λ o. with_leaves v (f o)) os)

turned_none : (n : ℕ) (g : Order → List Order) (os : List Order) → find n os ≡ None → turned n g os ≡ os
unfolding look turned
turned_none n g [] h = refl
turned_none n g (o ∷ os) h =
    split (λ b. cond b (Some o) (find n os) ≡ None → cond b (g o ++ turned n g os) (o ∷ turned n g os) ≡ o ∷ os) (eqb o.number n)
    (λ _ k. absurd (let z : ◌≡◌ {A = ℕ} 0 1 = cc in omega (arith, z))) (λ _ k. ap (λ r. o ∷ r) (turned_none n g os k)) h

-- the changes of the order n
pub data Of (n : ℕ) : Change → Type 0 where
  fills : (p : ℤ) (q v : ℕ) → Of n (fill n p q v)
  sets : (v : ℕ) → Of n (set_leaves n v)
  reprices : (p : ℤ) (v : ℕ) → Of n (reprice n p v)
  retires : Of n (retire n)

-- what an order gives way to
abbrev pub becomes : Change → Order → List Order
becomes (mark_by t m p) o = o ∷ []
becomes (fill n p q v) o = leaves (λ r. r) v o
becomes (set_leaves n v) o = with_leaves v o ∷ []
becomes (reprice n p v) o = leaves (with_price p) v o
becomes (retire n) o = []

module _ {n : ℕ} where
  pub names : {x : Change} → Of n x → (os : List Order) → named x os ≡ find n os
  names (fills p q v) os = refl
  names (sets v) os = refl
  names (reprices p v) os = refl
  names retires os = refl

  orders_turned : {x : Change} → Of n x → (l : Ledger) → (change x l).orders ≡ turned n (becomes x) l.orders
  unfolding change
  orders_turned (fills p q v) l = left_turned n (λ o. o) v l.orders
  orders_turned (sets v) l = update_turned n (with_leaves v) l.orders
  orders_turned (reprices p v) l = left_turned n (with_price p) v l.orders
  orders_turned retires l = remove_turned n l.orders

  -- where there is no such order, nothing changes
  pub unchanged : {x : Change} → Of n x → (l : Ledger) → find n l.orders ≡ None → change x l ≡ l
  unfolding change pay
  unchanged (fills p q v) l e =
      ap₂ (λ w os. record { last = l.last; wallets = pay l.fee p q w l.wallets; orders = os; mark = l.mark; fee = l.fee }) e (left_turned n (λ o. o) v l.orders ∙ turned_none n (leaves (λ o. o) v) l.orders e)
  unchanged (sets v) l e = ap (λ os. with_orders os l) (update_turned n (with_leaves v) l.orders ∙ turned_none n (becomes (set_leaves n v)) l.orders e)
  unchanged (reprices p v) l e = ap (λ os. with_orders os l) (left_turned n (with_price p) v l.orders ∙ turned_none n (leaves (with_price p) v) l.orders e)
  unchanged retires l e = ap (λ os. with_orders os l) (remove_turned n l.orders ∙ turned_none n (λ o. []) l.orders e)

-- ---- another order is not touched

abbrev Keeps : (Order → List Order) → Type 0
Keeps g = (o : Order) → Each (λ p. p.number ≡ o.number) (g o)

leaves_keeps : (f : Order → Order) → ((o : Order) → (f o).number ≡ o.number) → (v : ℕ) → Keeps (leaves f v)
leaves_keeps f h v o = split (λ b. Each (λ p. p.number ≡ o.number) (cond b [] (with_leaves v (f o) ∷ []))) (eqb v 0) (λ _. tt) (λ _. (h o, tt))

becomes_keeps : (x : Change) → Keeps (becomes x)
becomes_keeps (mark_by t m p) o = (refl, tt)
becomes_keeps (fill n p q v) o = leaves_keeps (λ r. r) (λ r. refl) v o
becomes_keeps (set_leaves n v) o = (refl, tt)
becomes_keeps (reprice n p v) o = leaves_keeps (with_price p) (λ r. refl) v o
becomes_keeps (retire n) o = tt

module _ (i j : ℕ) (ne : i ≡ j → ⊥) where
  find_past : (k : ℕ) (ps os : List Order) → k ≡ i → Each (λ p. p.number ≡ k) ps → find j (ps ++ os) ≡ find j os
  unfolding look
  find_past k [] os e h = refl
  find_past k (p ∷ ps) os e h = rw (ne_eqb p.number j (λ q. ne (sym e ∙ sym h.0 ∙ q))) (find_past k ps os e h.1)

  find_turned : (g : Order → List Order) → Keeps g → (os : List Order) → find j (turned i g os) ≡ find j os
  unfolding look turned
  find_turned g h [] = refl
  find_turned g h (o ∷ os) =
      let u = find_turned g h os in
      split (λ b. (eqb o.number i ≡ b) → find j (cond b (g o ++ turned i g os) (o ∷ turned i g os)) ≡ find j (o ∷ os)) (eqb o.number i)
      (λ _ e. let q = eqb-true o.number i e in find_past o.number (g o) (turned i g os) q (h o) ∙ u ∙ sym (find_past o.number (o ∷ []) os q (refl, tt)))
      (λ _ e. ap (cond (eqb o.number j) (Some o)) u) refl

  pub find_changed : {x : Change} → Of i x → (l : Ledger) → find j (change x l).orders ≡ find j l.orders
  find_changed {x} c l = ap (find j) (orders_turned c l) ∙ find_turned (becomes x) (becomes_keeps x) l.orders

pub rise_changed : (x : Change) (l : Ledger) → Rise 0 l.orders → Rise 0 (change x l).orders
rise_changed x l = rise_shrinks 0 (shrunk (x ∷ []) l)

-- nor is it changed who has a wallet
pub wallets_changed : (x : Change) (l : Ledger) (a : ℕ) → is_some (get_or (change x l).wallets a None) ≡ is_some (get_or l.wallets a None)
wallets_changed x l =
    (paid (λ ws. (a : ℕ) → is_some (get_or ws a None) ≡ is_some (get_or l.wallets a None)) (λ fee p q o ws h a. pay_some fee p q o ws a ∙ h a) (x ∷ []) l (λ a. refl)).1

-- ---- the mark

-- the orders, the wallets and the fee are the same
pub record Alike (l k : Ledger) : Type 0 where
  pub orders_are : l.orders ≡ k.orders
  pub wallets_are : l.wallets ≡ k.wallets
  pub fees_are : l.fee ≡ k.fee

pub marked_alike : (a b : ℕ) (p : ℤ) (l : Ledger) → Alike (change (mark_by a b p) l) l
unfolding change
marked_alike a b p l = record { orders_are = refl; wallets_are = refl; fees_are = refl }

pub changed_alike : (x : Change) {l k : Ledger} → Alike l k → Alike (change x l) (change x k)
unfolding change
changed_alike (mark_by a b p) h = record { orders_are = h.orders_are; wallets_are = h.wallets_are; fees_are = h.fees_are }
changed_alike (fill n p q v) h =
    record { orders_are = ap (left n (λ o. o) v) h.orders_are; wallets_are = λ i. pay (h.fees_are i) p q (find n (h.orders_are i)) (h.wallets_are i); fees_are = h.fees_are }
changed_alike (set_leaves n v) h = record { orders_are = ap (update number_of n (with_leaves v)) h.orders_are; wallets_are = h.wallets_are; fees_are = h.fees_are }
changed_alike (reprice n p v) h = record { orders_are = ap (left n (with_price p) v) h.orders_are; wallets_are = h.wallets_are; fees_are = h.fees_are }
changed_alike (retire n) h = record { orders_are = ap (remove n) h.orders_are; wallets_are = h.wallets_are; fees_are = h.fees_are }

pub holds_alike : {l k : Ledger} → Alike l k → holds_fit l ≡ holds_fit k
unfolding holds_fit
holds_alike h = λ i. wallets_fit (h.fees_are i) 0 (h.wallets_are i) (h.orders_are i)

pub notices_alike : (x : Change) {l k : Ledger} → Alike l k → change_notices x l ≡ change_notices x k
notices_alike x h =
    λ i. option [] (λ o. cond (is_some (wallet_of (h.wallets_are i) o)) (order_notices (h.fees_are i) x o) []) (named x (h.orders_are i))

-- ---- holds

pub held_append : (fee : ℤ) (a : ℕ) (z : Side) (l m : List Order) → held fee a z (l ++ m) ≡ held fee a z l +ℤ held fee a z m
held_append fee a z [] m = sym (+ℤ_idl (held fee a z m))
held_append fee a z (o ∷ l) m = ap (λ n. held_by fee a z o +ℤ n) (held_append fee a z l m) ∙ sym (+ℤ_assoc (held_by fee a z o) (held fee a z l) (held fee a z m))

swap : (x y h : ℤ) → y +ℤ h ≡ x +ℤ h +ℤ (y -ℤ x)
swap x y h =
    sym (
    +ℤ_comm (x +ℤ h) (y -ℤ x)
    ∙ +ℤ_assoc y (neg_ℤ x) (x +ℤ h)
    ∙ ap (λ t. y +ℤ t) (sym (+ℤ_assoc (neg_ℤ x) x h) ∙ ap (λ t. t +ℤ h) (+ℤ_invl x) ∙ +ℤ_idl h)
    )

-- an order with nothing left holds nothing
nothing_left : (fee : ℤ) (b : Side) (p : Option ℤ) → hold fee b p 0 ≡ pos 0
unfolding hold place_of
nothing_left fee b None = refl
nothing_left fee Buy (Some p) = rw *ℤ-zero refl
nothing_left fee Sell (Some p) = refl

absent_rises : (n k : ℕ) (os : List Order) → n < k → Rise k os → Absent number_of n os
unfolding look
absent_rises n k [] h t = refl
absent_rises n k (o ∷ os) h t = rw (ne_eqb o.number n (λ e. omega (arith, t.0, e))) (absent_rises n (suc o.number) os (omega (arith, t.0)) t.1)

module _ (a : ℕ) (z : Side) where
  -- an order of the account and the side
  abbrev pub mine : Order → Bool
  mine o = eqb o.account a && same_side z o.side

module _ (fee : ℤ) (a : ℕ) (z : Side) where
  held_turned : (n : ℕ) (g : Order → List Order) (k : ℕ) (os : List Order) → Rise k os →
      held fee a z (turned n g os) ≡ held fee a z os +ℤ option (pos 0) (λ o. held fee a z (g o) -ℤ held_by fee a z o) (find n os)
  unfolding look turned
  held_turned n g k [] t = refl
  held_turned n g k (o ∷ os) t =
      let rest = turned n g os in
      let x = held_by fee a z o in
      let m : Option Order → ℤ = option (pos 0) (λ r. held fee a z (g r) -ℤ held_by fee a z r) in
      let u = held_turned n g (suc o.number) os t.1 in
      split (λ b. (eqb o.number n ≡ b) → held fee a z (cond b (g o ++ rest) (o ∷ rest)) ≡ x +ℤ held fee a z os +ℤ m (cond b (Some o) (find n os))) (eqb o.number n)
      (λ _ e.
      let same : held fee a z rest ≡ held fee a z os =
      u ∙ ap (λ w. held fee a z os +ℤ m w) (absent_rises n (suc o.number) os (let q = eqb-true o.number n e in omega arith) t.1) ∙ +ℤ_idr (held fee a z os) in
      held_append fee a z (g o) rest ∙ ap (λ w. held fee a z (g o) +ℤ w) same ∙ swap x (held fee a z (g o)) (held fee a z os))
      (λ _ e. ap (λ w. x +ℤ w) u ∙ sym (+ℤ_assoc x (held fee a z os) _)) refl

  held_leaves : (f : Order → Order) (v : ℕ) (o : Order) → ((f o).account ≡ o.account) × ((f o).side ≡ o.side) → held fee a z (leaves f v o) ≡ cond (mine a z o) (hold fee o.side (f o).price v) (pos 0)
  held_leaves f v o h =
      split (λ b. (eqb v 0 ≡ b) → held fee a z (cond b [] (with_leaves v (f o) ∷ [])) ≡ cond (mine a z o) (hold fee o.side (f o).price v) (pos 0)) (eqb v 0)
      (λ _ e. split (λ b. pos 0 ≡ cond b (hold fee o.side (f o).price v) (pos 0)) (mine a z o) (λ _. sym (ap (hold fee o.side (f o).price) (eqb-true v 0 e) ∙ nothing_left fee o.side (f o).price)) (λ _. refl))
      (λ _ e. +ℤ_idr _ ∙ ap₂ (λ b s. cond (eqb b a && same_side z s) (hold fee s (f o).price v) (pos 0)) h.0 h.1) refl

  -- what it holds afterwards
  held_becomes : {n : ℕ} {x : Change} → Of n x → (o : Order) → held fee a z (becomes x o) ≡ cond (mine a z o) (hold_after fee x o) (pos 0)
  held_becomes (fills p q v) o = held_leaves (λ r. r) v o (refl, refl)
  held_becomes (sets v) o = +ℤ_idr _
  held_becomes (reprices p v) o = held_leaves (with_price p) v o (refl, refl)
  held_becomes retires o = split (λ b. pos 0 ≡ cond b (pos 0) (pos 0)) (mine a z o) (λ _. refl) (λ _. refl)

  moves_by : {n : ℕ} {x : Change} → Of n x → (w : Option Order) → option (pos 0) (λ o. held fee a z (becomes x o) -ℤ held_by fee a z o) w ≡ hold_move fee a z x w
  moves_by c None = refl
  moves_by {x = x} c (Some o) =
      ap (λ h. h -ℤ held_by fee a z o) (held_becomes c o)
      ∙ split (λ b. cond b (hold_after fee x o) (pos 0) -ℤ cond b (order_hold fee o) (pos 0) ≡ cond b (hold_after fee x o -ℤ order_hold fee o) (pos 0)) (mine a z o) (λ _. refl) (λ _. refl)

  pub held_changed : {n : ℕ} {x : Change} → Of n x → (l : Ledger) → Rise 0 l.orders → held fee a z (change x l).orders ≡ held fee a z l.orders +ℤ hold_move fee a z x (find n l.orders)
  held_changed {n} {x} c l r =
      ap (held fee a z) (orders_turned c l) ∙ held_turned n (becomes x) 0 l.orders r ∙ ap (λ m. held fee a z l.orders +ℤ m) (moves_by c (find n l.orders))
