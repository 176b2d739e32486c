-- What the live orders hold and how many there are, where one of them comes, changes or goes. Assumes nothing.
use Rattle.std.specs.Prelude.{Option, Some, None, is_some}
use mathlib.Core.Path.{◌≡◌, refl, sym, ap, ◌∙◌}
use mathlib.Core.Bool.{true, false, cond, ◌&&◌}
use mathlib.Core.Logic.{⊎_elim}
use mathlib.Core.List.{List, [], ◌∷◌, ◌++◌}
use Prim.Native.Nat.{ℕ, suc, ◌+◌, ◌≤◌, ◌<◌}
use native.Mathlib.Omega.{arith}
use borrow.Author.Tests.{ne_eqb}
use lib.ListN.{length}
use lib.Dec.{eqb}
use lib.IntN.{ℤ, pos, ◌+ℤ◌, ◌-ℤ◌, +ℤ_idr}
use Rattle.orderbook.specs.declared.Side.{Side}
use Rattle.words.specs.Words.{int, ◌⊖◌, fit, wrap}
use Rattle.words.proofs.Diff.{⊖_same, ⊖_add, ⊖_sub}
use Rattle.words.proofs.Wrap.{diff_of, int_wrap, wrap_shift}
use Rattle.table.specs.Live.{Each}
use Rattle.table.proofs.Lists.{each_map}
use Rattle.table.proofs.Live.{same?}
use Rattle.gateway.specs.Limits.{owner_slots}
use Rattle.gateway.specs.Ledger.{Order, order_hold, same_side, held, fits, open_of}
use Rattle.gateway.proofs.Base.{split}
use Rattle.gateway.proofs.Holds.{side_is}
use Rattle.gateway.proofs.Moves.{held_append}
use Rattle.store.specs.Cells as C
use Rattle.store.specs.View.{Store, word, ledger}
use Rattle.sound.specs.Sound.{Stored, held_cell, Held}
use Rattle.sound.proofs.Kept.{caches, total_same}

-- ---- sums over a list

module _ (a : ℕ) where
  open_append : (l m : List Order) → open_of a (l ++ m) ≡ open_of a l + open_of a m
  open_append [] m = omega arith
  open_append (o ∷ l) m =
      split (λ b. cond b (suc (open_of a (l ++ m))) (open_of a (l ++ m)) ≡ cond b (suc (open_of a l)) (open_of a l) + open_of a m) (eqb o.account a)
      (λ e. let t = open_append l m in omega arith) (λ e. open_append l m)

  swapped : (l x y h : ℤ) → l +ℤ (y +ℤ h) ≡ l +ℤ (x +ℤ h) -ℤ x +ℤ y
  swapped l x y h =
      let (p, q, e) = diff_of l in
      let (u, v, f) = diff_of x in
      let (m, n, g) = diff_of y in
      let (s, t, k) = diff_of h in
      (λ i. e i +ℤ (g i +ℤ k i)) ∙ ap (λ w. (p ⊖ q) +ℤ w) (⊖_add m n s t) ∙ ⊖_add p q (m + s) (n + t)
      ∙ ⊖_same (p + (m + s)) (q + (n + t)) (p + (u + s) + v + m) (q + (v + t) + u + n) (omega arith)
      ∙ sym
      ((λ i. e i +ℤ (f i +ℤ k i) -ℤ f i +ℤ g i)
      ∙ ap (λ w. (p ⊖ q) +ℤ w -ℤ (u ⊖ v) +ℤ (m ⊖ n)) (⊖_add u v s t)
      ∙ ap (λ w. w -ℤ (u ⊖ v) +ℤ (m ⊖ n)) (⊖_add p q (u + s) (v + t))
      ∙ ap (λ w. w +ℤ (m ⊖ n)) (⊖_sub (p + (u + s)) (q + (v + t)) u v)
      ∙ ⊖_add (p + (u + s) + v) (q + (v + t) + u) m n)

  -- a part of a list changes
  pub held_parts : (fee : ℤ) (z : Side) (l x y h : List Order) → held fee a z (l ++ (y ++ h)) ≡ held fee a z (l ++ (x ++ h)) -ℤ held fee a z x +ℤ held fee a z y
  held_parts fee z l x y h =
      held_append fee a z l (y ++ h) ∙ ap (λ n. held fee a z l +ℤ n) (held_append fee a z y h)
      ∙ swapped (held fee a z l) (held fee a z x) (held fee a z y) (held fee a z h)
      ∙ sym (ap (λ n. n -ℤ held fee a z x +ℤ held fee a z y) (held_append fee a z l (x ++ h) ∙ ap (λ n. held fee a z l +ℤ n) (held_append fee a z x h)))

  pub open_parts : (l x y h : List Order) → open_of a (l ++ (y ++ h)) + open_of a x ≡ open_of a (l ++ (x ++ h)) + open_of a y
  open_parts l x y h =
      omega (arith, open_append l (y ++ h), open_append y h, open_append l (x ++ h), open_append x h)

  pub open_few : (l : List Order) → open_of a l ≤ length l
  open_few [] = omega arith
  open_few (o ∷ l) = split (λ b. cond b (suc (open_of a l)) (open_of a l) ≤ suc (length l)) (eqb o.account a) (λ e. let t = open_few l in omega arith) (λ e. let t = open_few l in omega arith)

  -- orders of another account, and of the other side
  pub held_foreign : (fee : ℤ) (z : Side) (l : List Order) → Each (λ o. o.account ≡ a → ⊥) l → held fee a z l ≡ pos 0
  held_foreign fee z [] e = refl
  held_foreign fee z (o ∷ l) e = rw (ne_eqb o.account a e.0, held_foreign fee z l e.1) refl

  pub open_foreign : (l : List Order) → Each (λ o. o.account ≡ a → ⊥) l → open_of a l ≡ 0
  open_foreign [] e = refl
  open_foreign (o ∷ l) e = rw (ne_eqb o.account a e.0) (open_foreign l e.1)

  pub held_opposite : (fee : ℤ) (z : Side) (l : List Order) → Each (λ o. same_side z o.side ≡ false) l → held fee a z l ≡ pos 0
  held_opposite fee z [] e = refl
  held_opposite fee z (o ∷ l) e =
      rw (e.0, held_opposite fee z l e.1) (split (λ b. cond (b && false) (order_hold fee o) (pos 0) +ℤ pos 0 ≡ pos 0) (eqb o.account a) (λ e. refl) (λ e. refl))

-- ---- a total that fits is exact: what code 7 judges

some_not_none : {A : Type 0} (o : Option A) → is_some o ≡ true → o ≡ None → ⊥
some_not_none None t e = let z : ◌≡◌ {A = ℕ} 0 1 = cc in omega (arith, z)
some_not_none (Some a) t e = let z : ◌≡◌ {A = ℕ} 0 1 = cc in omega (arith, z)

pub total_exact : (s : Store) (a : ℕ) (z : Side) → Held s → a < owner_slots → fits (held (ledger s).fee a z (ledger s).orders) ≡ true →
    int (s C.accounts a (held_cell z)) ≡ held (ledger s).fee a z (ledger s).orders
unfolding fits
total_exact s a z d l f = ap int (d.totals a l z) ∙ int_wrap (held (ledger s).fee a z (ledger s).orders) (some_not_none (fit (held (ledger s).fee a z (ledger s).orders)) f)

-- ---- one order comes, changes or goes

-- orders of account c and side w give way to others
pub record Swapped (s t : Store) (c : ℕ) (w : Side) (old new : List Order) : Type 0 where
  pub low : List Order
  pub high : List Order
  pub from : (ledger s).orders ≡ low ++ (old ++ high)
  pub to : (ledger t).orders ≡ low ++ (new ++ high)
  pub old_mine : Each (λ o. (o.account ≡ c) × (o.side ≡ w)) old
  pub new_mine : Each (λ o. (o.account ≡ c) × (o.side ≡ w)) new
  pub fee_is : word t C.fee ≡ word s C.fee

-- the cells that follow them
pub record Counts (s t : Store) (c : ℕ) (w : Side) (h k : ℤ) (m n : ℕ) : Type 0 where
  pub others : (a : ℕ) → (a ≡ c → ⊥) → caches t a ≡ caches s a
  pub opposite : (z : Side) → same_side z w ≡ false → t C.accounts c (held_cell z) ≡ s C.accounts c (held_cell z)
  pub total : t C.accounts c (held_cell w) ≡ wrap (int (s C.accounts c (held_cell w)) -ℤ h +ℤ k)
  pub count : t C.accounts c C.account_open_orders + m ≡ s C.accounts c C.account_open_orders + n

no_change : (v : ℤ) {x y : ℤ} → x ≡ pos 0 → y ≡ pos 0 → v -ℤ x +ℤ y ≡ v
no_change v p q = (λ i. v -ℤ p i +ℤ q i) ∙ +ℤ_idr (v +ℤ pos 0) ∙ +ℤ_idr v

module _ {s t : Store} {c : ℕ} {w : Side} {x y : ℤ} {m k : ℕ} {old new : List Order} (p : Swapped s t c w old new) (n : Counts s t c w x y m k) (d : Held s)
    (xe : x ≡ held (ledger s).fee c w old) (ye : y ≡ held (ledger s).fee c w new) (me : m ≡ open_of c old) (ke : k ≡ open_of c new) where
  foreign : (a : ℕ) → (a ≡ c → ⊥) → (l : List Order) → Each (λ o. (o.account ≡ c) × (o.side ≡ w)) l → Each (λ o. o.account ≡ a → ⊥) l
  foreign a n l e = each_map (λ o q r. n (sym r ∙ q.0)) l e

  opposed : (z : Side) → same_side z w ≡ false → (l : List Order) → Each (λ o. (o.account ≡ c) × (o.side ≡ w)) l → Each (λ o. same_side z o.side ≡ false) l
  opposed z n l e = each_map (λ o q. ap (same_side z) q.1 ∙ n) l e

  held_is : (a : ℕ) (z : Side) → held (ledger s).fee a z (ledger t).orders ≡ held (ledger s).fee a z (ledger s).orders -ℤ held (ledger s).fee a z old +ℤ held (ledger s).fee a z new
  held_is a z = rw (p.from, p.to) (held_parts a (ledger s).fee z p.low old new p.high)

  open_is : (a : ℕ) → open_of a (ledger t).orders + open_of a old ≡ open_of a (ledger s).orders + open_of a new
  open_is a = rw (p.from, p.to) (open_parts a p.low old new p.high)

  stays : (a : ℕ) (z : Side) → held (ledger s).fee a z old ≡ pos 0 → held (ledger s).fee a z new ≡ pos 0 → wrap (held (ledger s).fee a z (ledger s).orders) ≡ wrap (held (ledger s).fee a z (ledger t).orders)
  stays a z x y = sym (ap wrap (held_is a z ∙ no_change (held (ledger s).fee a z (ledger s).orders) x y))

  totals_before : (a : ℕ) → a < owner_slots → (z : Side) → t C.accounts a (held_cell z) ≡ wrap (held (ledger s).fee a z (ledger t).orders)
  totals_before a l z =
      ⊎_elim
      (λ (e : a ≡ c).
      split (λ b. (same_side z w ≡ b) → t C.accounts a (held_cell z) ≡ wrap (held (ledger s).fee a z (ledger t).orders)) (same_side z w)
      (λ _ q.
      let i = side_is z w q in
      rw (e, i)
      (n.total ∙ (λ i. wrap (int (d.totals c (rw (← e) l) w i) -ℤ xe i +ℤ ye i))
      ∙ wrap_shift (held (ledger s).fee c w (ledger s).orders) (held (ledger s).fee c w old) (held (ledger s).fee c w new) ∙ sym (ap wrap (held_is c w))))
      (λ _ q.
      rw e
      (n.opposite z q ∙ d.totals c (rw (← e) l) z
      ∙ stays c z (held_opposite c (ledger s).fee z old (opposed z q old p.old_mine)) (held_opposite c (ledger s).fee z new (opposed z q new p.new_mine))))
      refl)
      (λ e.
      total_same t s a z (n.others a e) ∙ d.totals a l z
      ∙ stays a z (held_foreign a (ledger s).fee z old (foreign a e old p.old_mine)) (held_foreign a (ledger s).fee z new (foreign a e new p.new_mine)))
      (same? a c)

  totals_swapped : (a : ℕ) → a < owner_slots → (z : Side) → t C.accounts a (held_cell z) ≡ wrap (held (ledger t).fee a z (ledger t).orders)
  totals_swapped a l z = totals_before a l z ∙ ap (λ f. wrap (held (int f) a z (ledger t).orders)) (sym p.fee_is)

  counts_swapped : (a : ℕ) → a < owner_slots → t C.accounts a C.account_open_orders ≡ open_of a (ledger t).orders
  counts_swapped a l =
      ⊎_elim
      (λ (e : a ≡ c). rw e (omega (arith, n.count, me, ke, d.counts c (rw (← e) l), open_is c)))
      (λ e.
      ap (λ x. x.2) (n.others a e)
      ∙ omega (arith, d.counts a l, open_is a, open_foreign a old (foreign a e old p.old_mine), open_foreign a new (foreign a e new p.new_mine)))
      (same? a c)

  pub held_swapped : ((j : ℕ) → j < word t C.order_rows → 0 < t C.orders j C.order_live → Stored (ledger t).fee (t C.orders j)) → Held t
  held_swapped r = record { rows = r; totals = totals_swapped; counts = counts_swapped }
