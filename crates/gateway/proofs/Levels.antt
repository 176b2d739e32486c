-- How the levels follow the resting orders. In plain words: an order that comes joins its level; one that goes leaves it, and a level without
-- orders vanishes; one that shows something else changes its level's quantity by as much. The order in which orders join does not matter, and a
-- level shows at least what each of its orders shows, so no subtraction is cut off. Assumes nothing.
use Rattle.std.specs.Prelude.{Some}
use Prim.Native.Nat.{ℕ, suc, ◌+◌, ◌-◌, ◌<◌, ◌≤◌}
use mathlib.Core.Bool.{Bool, true, false, cond, ◌&&◌, true≢false}
use mathlib.Core.Path.{◌≡◌, refl, ap, ap₂, sym, ◌∙◌}
use mathlib.Core.List.{List, [], ◌∷◌}
use native.Mathlib.Omega.{arith}
use borrow.Author.Tests.{ltb-true, le-ltb, le-leb, lt-leb, eqb-true, ne_eqb}
use lib.IntN.{ℤ, pos, negsuc}
use lib.Signed.{le_z, lt_z}
use lib.Dec.{eqb, ltb, leb}
use Rattle.orderbook.specs.declared.Side.{Side}
use Rattle.orderbook.specs.declared.Side.TheVariants.{Buy, Sell}
use Rattle.table.specs.Live.{Each, look, without, insert, replace}
use Rattle.gateway.specs.Ledger.{same_side}
use Rattle.gateway.specs.Depth.{Resting, Level, Depth, same_price, better, joined, levels, level_in, resting_number, add, show, take_off}
use Rattle.gateway.proofs.Base.{split}
use Rattle.gateway.proofs.Counted.{and_comm, better_trans, joins}
use Rattle.gateway.specs.Table.{Rises}

-- ---- prices compared

pub same_itself : (a : ℤ) → same_price a a ≡ true
same_itself (pos a) = let e = le-leb a a (omega arith) in ap₂ ◌&&◌ e e
same_itself (negsuc a) = let e = le-leb a a (omega arith) in ap₂ ◌&&◌ e e

less_apart : (a b : ℤ) → lt_z a b ≡ true → (same_price b a ≡ false) × (lt_z b a ≡ false)
less_apart (pos a) (pos b) h = let l = ltb-true a b h in (ap (λ x. x && leb a b) (lt-leb b a l), le-ltb b a (omega arith))
less_apart (pos a) (negsuc b) h = absurd (true≢false (sym h))
less_apart (negsuc a) (pos b) h = (refl, refl)
less_apart (negsuc a) (negsuc b) h = let l = ltb-true b a h in (ap (λ x. x && leb b a) (lt-leb a b l), le-ltb a b (omega arith))

-- of a price and a better one
pub better_apart : (s : Side) (a b : ℤ) → better s a b ≡ true → (same_price b a ≡ false) × (better s b a ≡ false)
better_apart Buy a b h = let t = less_apart b a h in (and_comm (le_z b a) (le_z a b) ∙ t.0, t.1)
better_apart Sell a b h = less_apart a b h

pub better_differs : (s : Side) (a b : ℤ) → better s a b ≡ true → same_price a b ≡ false
better_differs s a b h = and_comm (le_z a b) (le_z b a) ∙ (better_apart s a b h).0

-- ---- the ways in which an order joins, as equations

abbrev pub one : ℤ → ℕ → Level
one p v = record { price = p; qty = v; orders = 1 }

abbrev pub more : ℤ → ℕ → Level → Level
more p v l = record { price = p; qty = l.qty + v; orders = suc l.orders }

module _ (s : Side) (p : ℤ) (v : ℕ) (l : Level) (ls : List Level) where
  abbrev choice : Bool → Bool → List Level
  choice a b = cond a (more p v l ∷ ls) (cond b (one p v ∷ l ∷ ls) (l ∷ joined s p v ls))

  pub at_level : p ≡ l.price → joined s p v (l ∷ ls) ≡ more p v l ∷ ls
  at_level e = ap (λ a. choice a (better s p l.price)) (ap (same_price p) (sym e) ∙ same_itself p)

  pub before_level : better s p l.price ≡ true → joined s p v (l ∷ ls) ≡ one p v ∷ l ∷ ls
  before_level b = ap₂ choice (better_differs s p l.price b) b

  pub after_level : better s l.price p ≡ true → joined s p v (l ∷ ls) ≡ l ∷ joined s p v ls
  after_level b = let t = better_apart s l.price p b in ap₂ choice t.0 t.1

-- a price is a level's, ahead of it, or behind it
pub compared : {P : Type 0} (s : Side) (p : ℤ) (l : Level) → (p ≡ l.price → P) → (better s p l.price ≡ true → P) → (better s l.price p ≡ true → P) → P
compared {P} s p l f g h = joins s p 0 (λ ms. P) l [] f g h

-- ---- orders join in any order

swap_same : (s : Side) (p : ℤ) (v w : ℕ) (ls : List Level) → joined s p v (joined s p w ls) ≡ joined s p w (joined s p v ls)
swap_same s p v w [] =
    at_level s p v (one p w) [] refl ∙ ap (λ n. record { price = p; qty = n; orders = 2 } ∷ []) (let e : w + v ≡ v + w = omega arith in e) ∙ sym (at_level s p w (one p v) [] refl)
swap_same s p v w (l ∷ ls) =
    compared s p l
    (λ e.
    ap (joined s p v) (at_level s p w l ls e) ∙ at_level s p v (more p w l) ls refl
    ∙ ap (λ n. record { price = p; qty = n; orders = suc (suc l.orders) } ∷ ls) (let q : l.qty + w + v ≡ l.qty + v + w = omega arith in q)
    ∙ sym (ap (joined s p w) (at_level s p v l ls e) ∙ at_level s p w (more p v l) ls refl))
    (λ b.
    ap (joined s p v) (before_level s p w l ls b) ∙ at_level s p v (one p w) (l ∷ ls) refl
    ∙ ap (λ n. record { price = p; qty = n; orders = 2 } ∷ l ∷ ls) (let q : w + v ≡ v + w = omega arith in q)
    ∙ sym (ap (joined s p w) (before_level s p v l ls b) ∙ at_level s p w (one p v) (l ∷ ls) refl))
    (λ b.
    ap (joined s p v) (after_level s p w l ls b) ∙ after_level s p v l (joined s p w ls) b ∙ ap (λ ms. l ∷ ms) (swap_same s p v w ls)
    ∙ sym (ap (joined s p w) (after_level s p v l ls b) ∙ after_level s p w l (joined s p v ls) b))

swap_ahead : (s : Side) (p q : ℤ) (v w : ℕ) → better s p q ≡ true → (ls : List Level) → joined s p v (joined s q w ls) ≡ joined s q w (joined s p v ls)
swap_ahead s p q v w h [] = before_level s p v (one q w) [] h ∙ sym (after_level s q w (one p v) [] h)
swap_ahead s p q v w h (l ∷ ls) =
    compared s p l
    (λ e.
    ap (joined s p v) (after_level s q w l ls (rw (← e) h)) ∙ at_level s p v l (joined s q w ls) e
    ∙ sym (ap (joined s q w) (at_level s p v l ls e) ∙ after_level s q w (more p v l) ls h))
    (λ b.
    joins s q w (λ ms. joined s p v ms ≡ one p v ∷ ms) l ls
    (λ e. before_level s p v (more q w l) ls h) (λ c. before_level s p v (one q w) (l ∷ ls) h) (λ c. before_level s p v l (joined s q w ls) b)
    ∙ sym (ap (joined s q w) (before_level s p v l ls b) ∙ after_level s q w (one p v) (l ∷ ls) h))
    (λ b.
    let c = better_trans s l.price p q b h in
    ap (joined s p v) (after_level s q w l ls c) ∙ after_level s p v l (joined s q w ls) b ∙ ap (λ ms. l ∷ ms) (swap_ahead s p q v w h ls)
    ∙ sym (ap (joined s q w) (after_level s p v l ls b) ∙ after_level s q w l (joined s p v ls) c))

pub joined_swap : (s : Side) (p q : ℤ) (v w : ℕ) (ls : List Level) → joined s p v (joined s q w ls) ≡ joined s q w (joined s p v ls)
joined_swap s p q v w ls =
    compared s p (one q w) (λ e. rw e (swap_same s q v w ls)) (λ b. swap_ahead s p q v w b ls) (λ b. sym (swap_ahead s q p w v b ls))

-- ---- one order less, and one that shows something else

abbrev pub parted : ℤ → ℕ → List Level → List Level
parted p v [] = []
parted p v (l ∷ ls) =
    cond (same_price p l.price) (cond (eqb l.orders 1) ls (record { price = l.price; qty = l.qty - v; orders = l.orders - 1 } ∷ ls)) (l ∷ parted p v ls)

abbrev pub reshown : ℤ → ℕ → ℕ → List Level → List Level
reshown p v w [] = []
reshown p v w (l ∷ ls) =
    cond (same_price p l.price) (record { price = l.price; qty = l.qty - v + w; orders = l.orders } ∷ ls) (l ∷ reshown p v w ls)

-- every level has orders
abbrev pub Peopled : List Level → Type 0
Peopled ls = Each (λ l. 0 < l.orders) ls

module _ (s : Side) (p : ℤ) (v : ℕ) where
  joined_peopled : (ls : List Level) → Peopled ls → Peopled (joined s p v ls)
  joined_peopled [] t = (omega arith, tt)
  joined_peopled (l ∷ ls) t =
      let u = joined_peopled ls t.1 in
      joins s p v Peopled l ls (λ _. (omega arith, t.1)) (λ _. (omega arith, t)) (λ _. (t.0, u))

  -- it joined and left again
  parted_joined : (ls : List Level) → Peopled ls → parted p v (joined s p v ls) ≡ ls
  parted_joined [] t = rw (same_itself p) refl
  parted_joined (l ∷ ls) t =
      compared s p l
      (λ e.
      ap (parted p v) (at_level s p v l ls e)
      ∙ rw (same_itself p, ne_eqb (suc l.orders) 1 (λ q. omega (arith, t.0)))
      (let q : l.qty + v - v ≡ l.qty = omega arith in let k : suc l.orders - 1 ≡ l.orders = omega arith in rw (q, k, e) refl))
      (λ b. ap (parted p v) (before_level s p v l ls b) ∙ rw (same_itself p) refl)
      (λ b. ap (parted p v) (after_level s p v l ls b) ∙ rw (better_apart s l.price p b).0 (ap (λ ms. l ∷ ms) (parted_joined ls t.1)))

  -- it joined and shows w now
  reshown_joined : (w : ℕ) (ls : List Level) → reshown p v w (joined s p v ls) ≡ joined s p w ls
  reshown_joined w [] = rw (same_itself p) (ap (λ n. one p n ∷ []) (let q : v - v + w ≡ w = omega arith in q))
  reshown_joined w (l ∷ ls) =
      compared s p l
      (λ e.
      ap (reshown p v w) (at_level s p v l ls e)
      ∙ rw (same_itself p) (ap (λ n. record { price = p; qty = n; orders = suc l.orders } ∷ ls) (let q : l.qty + v - v + w ≡ l.qty + w = omega arith in q))
      ∙ sym (at_level s p w l ls e))
      (λ b.
      ap (reshown p v w) (before_level s p v l ls b)
      ∙ rw (same_itself p) (ap (λ n. record { price = p; qty = n; orders = 1 } ∷ l ∷ ls) (let q : v - v + w ≡ w = omega arith in q))
      ∙ sym (before_level s p w l ls b))
      (λ b.
      ap (reshown p v w) (after_level s p v l ls b)
      ∙ rw (better_apart s l.price p b).0 (ap (λ ms. l ∷ ms) (reshown_joined w ls))
      ∙ sym (after_level s p w l ls b))

  -- the level that it joined shows it and counts it
  joined_shows : (ls : List Level) → (v ≤ (level_in p (joined s p v ls)).qty) × (0 < (level_in p (joined s p v ls)).orders)
  joined_shows [] = rw (same_itself p) (omega arith, omega arith)
  joined_shows (l ∷ ls) =
      compared s p l
      (λ e. rw (at_level s p v l ls e, same_itself p) (omega arith, omega arith))
      (λ b. rw (before_level s p v l ls b, same_itself p) (omega arith, omega arith))
      (λ b. rw (after_level s p v l ls b, (better_apart s l.price p b).0) (joined_shows ls))

pub levels_peopled : (s : Side) (os : List Resting) → Peopled (levels s os)
levels_peopled s [] = tt
levels_peopled s (o ∷ os) =
    let u = levels_peopled s os in
    split (λ b. Peopled (cond b (joined s o.price o.visible (levels s os)) (levels s os))) (same_side s o.side)
    (λ _. joined_peopled s o.price o.visible (levels s os) u) (λ _. u)

-- ---- the levels of a list of orders

-- on the order's own side f, on the other nothing
abbrev pub on : Side → Resting → (List Level → List Level) → List Level → List Level
on s o f ls = cond (same_side s o.side) (f ls) ls

abbrev pub entered : Side → Resting → List Level → List Level
entered s o = on s o (joined s o.price o.visible)

entered_swap : (s : Side) (a b : Resting) (ls : List Level) → entered s a (entered s b ls) ≡ entered s b (entered s a ls)
entered_swap s a b ls =
    split (λ x. cond x (joined s a.price a.visible (entered s b ls)) (entered s b ls) ≡ entered s b (cond x (joined s a.price a.visible ls) ls)) (same_side s a.side)
    (λ _.
    split (λ y. joined s a.price a.visible (cond y (joined s b.price b.visible ls) ls) ≡ cond y (joined s b.price b.visible (joined s a.price a.visible ls)) (joined s a.price a.visible ls))
    (same_side s b.side) (λ _. joined_swap s a.price b.price a.visible b.visible ls) (λ _. refl))
    (λ _. refl)

pub levels_insert : (s : Side) (o : Resting) (os : List Resting) → levels s (insert resting_number o os) ≡ entered s o (levels s os)
unfolding insert
levels_insert s o [] = refl
levels_insert s o (x ∷ os) =
    split (λ b. levels s (cond b (o ∷ x ∷ os) (x ∷ insert resting_number o os)) ≡ entered s o (entered s x (levels s os))) (ltb o.number x.number)
    (λ _. refl) (λ _. ap (entered s x) (levels_insert s o os) ∙ entered_swap s x o (levels s os))

-- of orders with larger numbers nothing goes, and nothing changes
without_above : (n m : ℕ) (os : List Resting) → n < m → Rises resting_number m os → without resting_number n os ≡ os
unfolding without
without_above n m [] h t = refl
without_above n m (x ∷ os) h t =
    rw (ne_eqb x.number n (λ e. omega (arith, t.0))) (ap (λ xs. x ∷ xs) (without_above n (suc x.number) os (omega (arith, t.0)) t.1))

replace_above : (o : Resting) (m : ℕ) (os : List Resting) → o.number < m → Rises resting_number m os → replace resting_number o os ≡ os
unfolding replace
replace_above o m [] h t = refl
replace_above o m (x ∷ os) h t =
    rw (ne_eqb x.number o.number (λ e. omega (arith, t.0))) (ap (λ xs. x ∷ xs) (replace_above o (suc x.number) os (omega (arith, t.0)) t.1))

-- the order n is o: the levels with it, and with another in its place, are those without it that the one or the other joins
record Picked (s : Side) (n : ℕ) (o : Resting) (os : List Resting) : Type 0 where
  number : o.number ≡ n
  mine : levels s os ≡ entered s o (levels s (without resting_number n os))
  other : (r : Resting) → r.number ≡ n → levels s (replace resting_number r os) ≡ entered s r (levels s (without resting_number n os))

picked : (s : Side) (n m : ℕ) (o : Resting) (os : List Resting) → Rises resting_number m os → look resting_number n os ≡ Some o → Picked s n o os
unfolding look without replace
picked s n m o [] t h = let z : ◌≡◌ {A = ℕ} 0 1 = cc in absurd (omega (arith, z))
picked s n m o (x ∷ os) t h =
    split (λ b. (eqb x.number n ≡ b) → cond b (Some x) (look resting_number n os) ≡ Some o → Picked s n o (x ∷ os)) (eqb x.number n)
    (λ _ e k.
    let q : x ≡ o = cc in
    let j = eqb-true x.number n e in
    let w : without resting_number n (x ∷ os) ≡ os = rw e (without_above n (suc x.number) os (omega arith) t.1) in
    record {
      number = ap resting_number (sym q) ∙ j;
      mine = ap (λ y. entered s y (levels s os)) q ∙ ap (λ l. entered s o (levels s l)) (sym w);
      other = λ r i.
          let z : replace resting_number r (x ∷ os) ≡ r ∷ os = rw (ap (eqb x.number) i ∙ e) (ap (λ l. r ∷ l) (replace_above r (suc x.number) os (omega arith) t.1)) in
          ap (levels s) z ∙ ap (λ l. entered s r (levels s l)) (sym w);
    })
    (λ _ e k.
    let p = picked s n (suc x.number) o os t.1 k in
    let ls = levels s (without resting_number n os) in
    let w : without resting_number n (x ∷ os) ≡ x ∷ without resting_number n os = rw e refl in
    record {
      number = p.number;
      mine = ap (entered s x) p.mine ∙ entered_swap s x o ls ∙ ap (λ l. entered s o (levels s l)) (sym w);
      other = λ r i.
          let z : replace resting_number r (x ∷ os) ≡ x ∷ replace resting_number r os = rw (ap (eqb x.number) i ∙ e) refl in
          ap (levels s) z ∙ ap (entered s x) (p.other r i) ∙ entered_swap s x r ls ∙ ap (λ l. entered s r (levels s l)) (sym w);
    }) refl h

-- ---- an order that is there goes, or shows something else

module _ (s : Side) (o : Resting) (os : List Resting) (asc : Rises resting_number 0 os) (there : look resting_number o.number os ≡ Some o) where
  pub levels_without : levels s (without resting_number o.number os) ≡ on s o (parted o.price o.visible) (levels s os)
  levels_without =
      let ls = levels s (without resting_number o.number os) in
      rw (picked s o.number 0 o os asc there).mine
      (split (λ b. ls ≡ cond b (parted o.price o.visible (cond b (joined s o.price o.visible ls) ls)) (cond b (joined s o.price o.visible ls) ls)) (same_side s o.side)
      (λ _. sym (parted_joined s o.price o.visible ls (levels_peopled s (without resting_number o.number os)))) (λ _. refl))

  pub levels_replace : (r : Resting) → r.number ≡ o.number → r.side ≡ o.side → r.price ≡ o.price →
      levels s (replace resting_number r os) ≡ on s o (reshown o.price o.visible r.visible) (levels s os)
  levels_replace r i e p =
      let k = picked s o.number 0 o os asc there in
      let ls = levels s (without resting_number o.number os) in
      rw (k.other r i, k.mine, e, p)
      (split (λ b. cond b (joined s o.price r.visible ls) ls ≡ cond b (reshown o.price o.visible r.visible (cond b (joined s o.price o.visible ls) ls)) (cond b (joined s o.price o.visible ls) ls)) (same_side s o.side)
      (λ _. sym (reshown_joined s o.price o.visible r.visible ls)) (λ _. refl))

  -- its level shows it and counts it, so nothing is cut off
  pub level_shows : same_side s o.side ≡ true → (o.visible ≤ (level_in o.price (levels s os)).qty) × (0 < (level_in o.price (levels s os)).orders)
  level_shows e = rw ((picked s o.number 0 o os asc there).mine, e) (joined_shows s o.price o.visible (levels s (without resting_number o.number os)))

-- ---- the depth's three changes, for both sides

pub add_levels : (s : Side) (o : Resting) (d : Depth) → levels s (add o d).resting ≡ on s o (joined s o.price o.visible) (levels s d.resting)
unfolding add
add_levels s o d = levels_insert s o d.resting

module _ (s : Side) (o : Resting) (d : Depth) (asc : Rises resting_number 0 d.resting) (there : look resting_number o.number d.resting ≡ Some o) where
  pub take_off_levels : levels s (take_off o d).resting ≡ on s o (parted o.price o.visible) (levels s d.resting)
  unfolding take_off
  take_off_levels = levels_without s o d.resting asc there

  pub show_levels : (r : Resting) → r.number ≡ o.number → r.side ≡ o.side → r.price ≡ o.price →
      levels s (show r d).resting ≡ on s o (reshown o.price o.visible r.visible) (levels s d.resting)
  unfolding show
  show_levels = levels_replace s o d.resting asc there
