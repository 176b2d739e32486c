-- Counts are counted: what `Counts` of specs/Claims.antt claims. Assumes nothing.
use Rattle.std.specs.Prelude.{Option, Some, None}
use Prim.Native.Nat.{ℕ, suc, ◌+◌, ◌<◌, ◌≤◌}
use mathlib.Core.Bool.{Bool, true, false, cond, ◌&&◌, and-eq-true_iff, true≢false}
use mathlib.Core.Path.{◌≡◌, refl, ap, ap₂, sym, ◌∙◌}
use mathlib.Core.List.{List, [], ◌∷◌, ◌++◌}
use native.Mathlib.Omega.{arith}
use borrow.Author.Tests.{ltb-true, ltb-false, lt-ltb, le-ltb, leb-true, le-leb}
use lib.IntN.{ℤ, pos, negsuc}
use lib.Signed.{le_z, lt_z}
use lib.ListN.{length, length-append, length-map}
use lib.Dec.{ltb, leb}
use Rattle.orderbook.specs.declared.Side.{Side}
use Rattle.orderbook.specs.declared.Side.TheVariants.{Buy, Sell}
use Rattle.protocol.specs.declared.NewOrder.{NewOrder}
use Rattle.protocol.specs.declared.OrderKind.{OrderKind}
use Rattle.protocol.specs.declared.OrderKind.TheVariants as Kind
use Rattle.protocol.specs.declared.Outbound.TheVariants as Out
use Rattle.protocol.specs.declared.RejectCode.TheVariants.{TooManyOrders, Unavailable}
use Rattle.accounts.specs.declared.Funds.{Funds}
use Rattle.table.specs.Live.{Each}
use Rattle.gateway.specs.Basics.{option}
use Rattle.gateway.specs.Ledger.{same_side, open_of}
use Rattle.gateway.specs.Core.{Core, account_at}
use Rattle.gateway.specs.Depth.{Resting, Level, same_price, better, joined, levels}
use Rattle.gateway.specs.Rest.{send, Rest}
use Rattle.gateway.specs.Entry.{Plan, unless, wallet_at, reject, next, can_number, command_of, paper_tests, most_open, new_tests, enter_new, snapshot}
use Rattle.gateway.proofs.Base.{split, if_map}
use Rattle.gateway.proofs.Roomy.{is_code, Needs, needs_append, unless_needs, last_tests}
use Rattle.gateway.specs.Claims.{total, sum, Best, level_mail, Counts}

-- ---- how an order joins the levels

less_trans : (a b c : ℤ) → lt_z a b ≡ true → lt_z b c ≡ true → lt_z a c ≡ true
less_trans (pos a) (pos b) (pos c) h k = lt-ltb a c (omega (arith, ltb-true a b h, ltb-true b c k))
less_trans (pos a) (pos b) (negsuc c) h k = k
less_trans (pos a) (negsuc b) c h k = absurd (true≢false (sym h))
less_trans (negsuc a) (pos b) (pos c) h k = refl
less_trans (negsuc a) (pos b) (negsuc c) h k = absurd (true≢false (sym k))
less_trans (negsuc a) (negsuc b) (pos c) h k = refl
less_trans (negsuc a) (negsuc b) (negsuc c) h k = lt-ltb c a (omega (arith, ltb-true b a h, ltb-true c b k))

both : (a b : ℕ) → leb a b && leb b a ≡ true → a ≡ b
both a b h = let t = (and-eq-true_iff (leb a b) (leb b a)).0 h in let p = leb-true a b t.0 in let q = leb-true b a t.1 in omega arith

pub same_is : (a b : ℤ) → same_price a b ≡ true → a ≡ b
same_is (pos a) (pos b) h = ap pos (both a b h)
same_is (pos a) (negsuc b) h = absurd (true≢false (sym h))
same_is (negsuc a) (pos b) h = absurd (true≢false (sym h))
same_is (negsuc a) (negsuc b) h = ap negsuc (sym (both b a h))

other : (a b : ℕ) → leb a b && leb b a ≡ false → ltb a b ≡ false → ltb b a ≡ true
other a b h k =
    split (λ x. (ltb b a ≡ x) → x ≡ true) (ltb b a) (λ _ e. refl)
    (λ _ e. absurd (true≢false (sym (ap₂ ◌&&◌ (le-leb a b (ltb-false b a e)) (le-leb b a (ltb-false a b k))) ∙ h))) refl

less_or : (a b : ℤ) → same_price a b ≡ false → lt_z a b ≡ false → lt_z b a ≡ true
less_or (pos a) (pos b) h k = other a b h k
less_or (pos a) (negsuc b) h k = refl
less_or (negsuc a) (pos b) h k = absurd (true≢false k)
less_or (negsuc a) (negsuc b) h k = other b a h k

pub and_comm : (x y : Bool) → x && y ≡ y && x
and_comm true true = refl
and_comm true false = refl
and_comm false true = refl
and_comm false false = refl

pub better_trans : (s : Side) (a b c : ℤ) → better s a b ≡ true → better s b c ≡ true → better s a c ≡ true
better_trans Buy a b c h k = less_trans c b a k h
better_trans Sell a b c h k = less_trans a b c h k

better_or : (s : Side) (a b : ℤ) → same_price a b ≡ false → better s a b ≡ false → better s b a ≡ true
better_or Buy a b h k = less_or b a (and_comm (le_z b a) (le_z a b) ∙ h) k
better_or Sell a b h k = less_or a b h k

module _ (s : Side) (p : ℤ) (v : ℕ) where
  -- the three ways in which an order joins: at its price, before a worse level, further on
  pub joins : (P : List Level → Type 0) (l : Level) (ls : List Level) →
      (p ≡ l.price → P (record { price = p; qty = l.qty + v; orders = suc l.orders } ∷ ls)) → (better s p l.price ≡ true → P (record { price = p; qty = v; orders = 1 } ∷ l ∷ ls)) →
      (better s l.price p ≡ true → P (l ∷ joined s p v ls)) → P (joined s p v (l ∷ ls))
  joins P l ls f g h =
      split (λ x. (same_price p l.price ≡ x) → P (cond x (record { price = p; qty = l.qty + v; orders = suc l.orders } ∷ ls)
      (cond (better s p l.price) (record { price = p; qty = v; orders = 1 } ∷ l ∷ ls) (l ∷ joined s p v ls)))) (same_price p l.price)
      (λ _ e. f (same_is p l.price e))
      (λ _ e. split (λ x. (better s p l.price ≡ x) → P (cond x (record { price = p; qty = v; orders = 1 } ∷ l ∷ ls) (l ∷ joined s p v ls))) (better s p l.price)
      (λ _ b. g b) (λ _ b. h (better_or s p l.price e b)) refl) refl

-- ---- sums over the levels of a side

-- f counts k for the order that joins
total_joined : (f : Level → ℕ) (s : Side) (p : ℤ) (v k : ℕ) → f (record { price = p; qty = v; orders = 1 }) ≡ k →
    ((l : Level) → p ≡ l.price → f (record { price = p; qty = l.qty + v; orders = suc l.orders }) ≡ f l + k) → (ls : List Level) →
    total f (joined s p v ls) ≡ k + total f ls
total_joined f s p v k a b [] = ap (λ n. n + 0) a
total_joined f s p v k a b (l ∷ ls) =
    let u = total_joined f s p v k a b ls in
    joins s p v (λ ms. total f ms ≡ k + (f l + total f ls)) l ls (λ e. let q = b l e in omega arith) (λ _. omega arith) (λ _. omega arith)

module _ (f : Level → ℕ) (g : Resting → ℕ)
    (one : (o : Resting) → f (record { price = o.price; qty = o.visible; orders = 1 }) ≡ g o)
    (more : (o : Resting) (l : Level) → o.price ≡ l.price → f (record { price = o.price; qty = l.qty + o.visible; orders = suc l.orders }) ≡ f l + g o) where
  total_levels : (s : Side) (os : List Resting) → total f (levels s os) ≡ sum s g os
  total_levels s [] = refl
  total_levels s (o ∷ os) =
      let u = total_levels s os in
      if_map (total f) (same_side s o.side) (total_joined f s o.price o.visible (g o) (one o) (more o) (levels s os) ∙ ap (λ n. g o + n) u) u

-- at the prices that `at` picks: all of them, or one
module _ (at : ℤ → Bool) where
  orders : (s : Side) (os : List Resting) → total (λ l. cond (at l.price) l.orders 0) (levels s os) ≡ sum s (λ o. cond (at o.price) 1 0) os
  orders =
      total_levels (λ l. cond (at l.price) l.orders 0) (λ o. cond (at o.price) 1 0) (λ o. refl)
      (λ o l e. rw e (split (λ b. cond b (suc l.orders) 0 ≡ cond b l.orders 0 + cond b 1 0) (at l.price) (λ _. omega arith) (λ _. refl)))

  quantities : (s : Side) (os : List Resting) →
      total (λ l. cond (at l.price) l.qty 0) (levels s os) ≡ sum s (λ o. cond (at o.price) o.visible 0) os
  quantities =
      total_levels (λ l. cond (at l.price) l.qty 0) (λ o. cond (at o.price) o.visible 0) (λ o. refl)
      (λ o l e. rw e (split (λ b. cond b (l.qty + o.visible) 0 ≡ cond b l.qty 0 + cond b o.visible 0) (at l.price) (λ _. refl) (λ _. refl)))

-- ---- best first, no price twice

module _ (s : Side) (p : ℤ) (v : ℕ) where
  each_joined : (P : ℤ → Type 0) → P p → (ls : List Level) → Each (λ m. P m.price) ls → Each (λ m. P m.price) (joined s p v ls)
  each_joined P h [] t = (h, tt)
  each_joined P h (l ∷ ls) t =
      let u = each_joined P h ls t.1 in
      joins s p v (λ ms. Each (λ m. P m.price) ms) l ls (λ _. (h, t.1)) (λ _. (h, t)) (λ _. (t.0, u))

  worse : (q : ℤ) → better s p q ≡ true → (ls : List Level) → Each (λ m. better s q m.price ≡ true) ls → Each (λ m. better s p m.price ≡ true) ls
  worse q h [] t = tt
  worse q h (l ∷ ls) t = (better_trans s p q l.price h t.0, worse q h ls t.1)

  best_joined : (ls : List Level) → Best s ls → Best s (joined s p v ls)
  best_joined [] t = (tt, tt)
  best_joined (l ∷ ls) t =
      let u = best_joined ls t.1 in
      joins s p v (Best s) l ls (λ e. (rw e t.0, t.1)) (λ b. ((b, worse l.price b ls t.0), t)) (λ b. (each_joined (λ z. better s l.price z ≡ true) b ls t.0, u))

pub levels_best : (s : Side) (os : List Resting) → Best s (levels s os)
levels_best s [] = tt
levels_best s (o ∷ os) =
    let u = levels_best s os in
    split (λ b. Best s (cond b (joined s o.price o.visible (levels s os)) (levels s os))) (same_side s o.side) (λ _. best_joined s o.price o.visible (levels s os) u) (λ _. u)

-- ---- the snapshot's count

in_snapshot : (s : ℕ) (r : Rest) → snapshot s r ≡ send s (Out.BookSnapshot r.delivered (length (level_mail s r))) ∷ level_mail s r
in_snapshot s r = ap (λ n. send s (Out.BookSnapshot r.delivered n) ∷ level_mail s r) (sym (simp (length-append, length-map)))

-- ---- the open count

module _ (s a : ℕ) (o : NewOrder) (c : Core) (r : Rest) where
  too_many : most_open (account_at a c) ≤ open_of a c.ledger.orders → enter_new s a o c r ≡ reject s o.client_ref r TooManyOrders
  unfolding unless
  too_many h = rw (le-ltb (open_of a c.ledger.orders) (most_open (account_at a c)) h) refl

  abbrev Else : Plan → Type 0
  Else p = (q : Rest) → p ≡ reject s o.client_ref q TooManyOrders → ⊥

  not_too_many : open_of a c.ledger.orders < most_open (account_at a c) → Else (enter_new s a o c r)
  not_too_many h =
      let k = command_of (next c) a o.side o.qty o.kind in
      unless_needs (is_code TooManyOrders) Else (reject s o.client_ref r)
      (λ why f q e. let z : why ≡ TooManyOrders = cc in absurd (true≢false (sym (ap (is_code TooManyOrders) z) ∙ f))) _ (new_tests a o k c r) (
        lt-ltb (open_of a c.ledger.orders) (most_open (account_at a c)) h,
        needs_append (is_code TooManyOrders) (option [] (paper_tests a o.side o.qty c r o.kind) (wallet_at a c)) (can_number Unavailable c r ++ last_tests a o k c r)
            (paper o.kind (wallet_at a c)) tt,
      )
      (λ q e. let n : ◌≡◌ {A = ℕ} 0 1 = cc in omega (arith, n))
    where
      paper : (k : OrderKind) (w : Option Funds) → Needs (is_code TooManyOrders) (option [] (paper_tests a o.side o.qty c r k) w)
      paper k None = tt
      paper (Kind.Limit z t d) (Some w) = tt
      paper Kind.Market (Some w) = tt
      paper (Kind.Stop t l) (Some w) = tt

pub counts : Counts
counts =
    record {
      orders = orders;
      quantities = quantities;
      best = levels_best;
      in_snapshot = in_snapshot;
      too_many = too_many;
      not_too_many = λ s a o c r q h. not_too_many s a o c r h q;
    }
