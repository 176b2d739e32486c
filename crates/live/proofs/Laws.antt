-- What the functions write: one law for each way through the code. Assumes nothing.
use Rattle.std.specs.Prelude.{Option, Some, None, option_map, is_some}
use mathlib.Core.Path.{◌≡◌, refl, sym, ap, ap₂, subst, ◌∙◌}
use mathlib.Core.Bool.{Bool, true, false, cond, not}
use mathlib.Core.List.{List}
use Prim.Native.Nat.{ℕ, ◌+◌, ◌-◌, ◌<◌}
use native.Mathlib.Omega.{arith}
use borrow.Author.Tests.{eq-eqb, ne_eqb}
use lib.Dec.{eqb}
use lib.IntN.{ℤ, ◌+ℤ◌, ◌-ℤ◌}
use Rattle.accounts.specs.declared.Funds.{Funds}
use Rattle.orderbook.specs.declared.Side.{Side}
use Rattle.orderbook.specs.declared.Side.TheVariants.{Buy, Sell}
use Rattle.protocol.specs.declared.Balance.{Balance}
use Rattle.words.specs.Words.{int, fit, amount, wrap, modulus}
use Rattle.words.proofs.Wrap.{wrap_int}
use Rattle.wallet.specs.declared.Wallet.{Wallet}
use Rattle.wallet.specs.Wallet as W
use Rattle.gateway.specs.Limits.{owner_slots}
use Rattle.gateway.specs.Ledger.{hold, fits}
use Rattle.gateway.proofs.Base.{split}
use Rattle.store.specs.Cells as C
use Rattle.store.specs.Layout.{cell, Holds, Set}
use Rattle.store.specs.View.{Row, Store, Is, word, write, flag, side, wallet, order_room}
use Rattle.store.proofs.Places.{account_cell}
use Rattle.store.proofs.Rows.{same_write, write_same, then_set, is_itself}
use Rattle.orders.specs.declared.Live.{Live}
use Rattle.orders.specs.Orders as Orders
use Rattle.orders.proofs.Laws.{then_append}
use Rattle.clients.specs.Clients as Clients
use Rattle.sound.specs.Sound.{held_cell}
use Rattle.live.specs.Live.{hold_word, shift, revise, retire, left, place, funds, settle, pay}

price_is : (b : Bool) (p : ℕ) → W.price_of b (int p) ≡ (cond b (Some (int p)) None)
price_is true p = refl
price_is false p = refl

pub hold_of_is : (fee z c p v r : ℕ) (w : Side) → r < modulus → w ≡ side z → int r ≡ W.held w (option_map (W.charged (int fee) w) (W.price_of (not (eqb c 0)) (int p))) v → r ≡ hold_word fee z c p v
unfolding hold_word hold
hold_of_is fee z c p v r w f e h = sym (wrap_int r f) ∙ ap wrap (h ∙ ap₂ (λ x y. W.held x (option_map (W.charged (int fee) x) y) v) e (price_is (not (eqb c 0)) p))

held_small : (z : Side) → held_cell z < 16
held_small Buy = omega arith
held_small Sell = omega arith

pub shift_is : {xs ys : List ℕ} (a k t r old new : ℕ) (z : Side) → Holds xs → a < owner_slots → k ≡ held_cell z → t ≡ cell xs C.accounts a k → r ≡ wrap (int t -ℤ int old +ℤ int new) →
    Set xs ys C.accounts a k r → Is ys (shift a z old new (cell xs))
unfolding shift
shift_is {xs} {ys} a k t r old new z h l e f g p =
    let q : Set xs ys C.accounts a (held_cell z) (wrap (int (cell xs C.accounts a (held_cell z)) -ℤ int old +ℤ int new)) = rw (← e, ← f, ← g) p in
    then_set (is_itself h) (account_cell a (held_cell z) l (held_small z)) q

then_shift : {ys zs : List ℕ} {s : Store} (a : ℕ) (z : Side) (old new : ℕ) → a < owner_slots → Is ys s → Is zs (shift a z old new (cell ys)) → Is zs (shift a z old new s)
unfolding shift
then_shift {ys} {zs} {s} a z old new l p q =
    let e : cell ys C.accounts a (held_cell z) ≡ s C.accounts a (held_cell z) = p.same C.accounts a (held_cell z) (account_cell a (held_cell z) l (held_small z)) in
    record {
      holds = q.holds;
      same = λ d j k c.
          q.same d j k c ∙ same_write (cell ys) s C.accounts a (held_cell z) _ p.same d j k c
          ∙ ap (λ v. write C.accounts a (held_cell z) (wrap (int v -ℤ int old +ℤ int new)) s d j k) e;
    }

pub revise_is : (xs : List ℕ) {ys zs : List ℕ} (i : ℕ) (o : Live) (c p v h : ℕ) (w : Side) → o.account < owner_slots → h ≡ hold_word (word (cell xs) C.fee) o.side c p v → w ≡ side o.side →
    Is ys (Orders.revise i c p v h (cell xs)) → Is zs (shift o.account w o.hold h (cell ys)) → Is zs (revise i o c p v (cell xs))
unfolding revise
revise_is xs i o c p v h w l e f p₁ p₂ = rw (← e, ← f) (then_shift o.account w o.hold h l p₁ p₂)

pub retire_is : (xs : List ℕ) {ys zs us : List ℕ} (i : ℕ) (o : Live) (n : ℕ) (w : Side) → o.account < owner_slots → n ≡ cell xs C.accounts o.account C.account_open_orders → w ≡ side o.side →
    Is ys (Orders.retire i (cell xs)) → Set ys zs C.accounts o.account C.account_open_orders (n - 1) → Is us (shift o.account w o.hold 0 (cell zs)) → Is us (retire i o (cell xs))
unfolding retire
retire_is xs i o n w l e f p q r =
    rw (← e, ← f) (then_shift o.account w o.hold 0 l (then_set p (account_cell o.account C.account_open_orders l (omega arith)) q) r)

pub left_done : {ys : List ℕ} (s : Store) (i : ℕ) (o : Live) (c p v : ℕ) → v ≡ 0 → Is ys (retire i o s) → Is ys (left i o c p v s)
unfolding left
left_done s i o c p v e h = rw (eq-eqb v 0 e) h

pub left_open : {ys : List ℕ} (s : Store) (i : ℕ) (o : Live) (c p v : ℕ) → (v ≡ 0 → ⊥) → Is ys (revise i o c p v s) → Is ys (left i o c p v s)
unfolding left
left_open s i o c p v e h = rw (ne_eqb v 0 e) h

-- a wallet is there where its flag is set
funded_is : (r : Row) → is_some (wallet r) ≡ flag (r C.account_funded)
funded_is r =
    let f : Funds = record { cash = int (r C.account_cash); position = int (r C.account_position) } in
    split (λ b. is_some (cond b (Some f) None) ≡ b) (flag (r C.account_funded)) (λ e. refl) (λ e. refl)

-- what is written is the settled wallet or, where there is none, what the cells have
module _ (xs : List ℕ) (a : ℕ) (z : Side) (fee p q : ℕ) (w r : Wallet) (fee_is : fee ≡ word (cell xs) C.fee) (w_is : w ≡ Clients.wallet_words (cell xs C.accounts a)) where
  abbrev price : ℤ
  price = W.charged (int fee) z (int p)

  settle_is : {ys : List ℕ} → r.cash < modulus → r.position < modulus →
      W.balance_of r ≡ W.settled z price q (W.balance_of w) → Is ys (Clients.set_money a r.cash r.position (cell xs)) → Is ys (settle a z p q (cell xs))
  unfolding settle
  settle_is c d g s =
      let b : W.settle z price q (W.funds (W.balance_of w)) ≡ W.settle z price q (funds a (cell xs)) = ap (λ x. W.settle z price q (W.funds (W.balance_of x))) w_is in
      let u : r.cash ≡ wrap (W.settle z price q (funds a (cell xs))).cash = sym (wrap_int r.cash c) ∙ ap wrap (ap (λ (x : Balance). x.cash) g ∙ ap (λ x. x.cash) b) in
      let v : r.position ≡ wrap (W.settle z price q (funds a (cell xs))).position = sym (wrap_int r.position d) ∙ ap wrap (ap (λ (x : Balance). x.position) g ∙ ap (λ x. x.position) b) in
      rw (← fee_is, ← u, ← v) s

  unpaid : Clients.set_money a w.cash w.position (cell xs) ≡ cell xs
  unfolding Clients.put_cells
  unpaid =
      ap (λ v. Clients.set_money a v.cash v.position (cell xs)) w_is
      ∙ ap (write C.accounts a C.account_position (cell xs C.accounts a C.account_position)) (write_same C.accounts a C.account_cash (cell xs))
      ∙ write_same C.accounts a C.account_position (cell xs)

  pub pay_is : {ys : List ℕ} (b : Bool) (c d : ℕ) → b ≡ is_some (wallet (cell xs C.accounts a)) → r.cash < modulus → r.position < modulus → W.balance_of r ≡ W.settled z price q (W.balance_of w) →
      c ≡ cond b r.cash w.cash → d ≡ cond b r.position w.position → Is ys (Clients.set_money a c d (cell xs)) → Is ys (pay a z p q (cell xs))
  unfolding pay
  pay_is {ys} b c d e f g s u v h =
      subst (λ t. Is ys (cond t (settle a z p q (cell xs)) (cell xs))) (e ∙ funded_is (cell xs C.accounts a))
      (split (λ t. Is ys (Clients.set_money a (cond t r.cash w.cash) (cond t r.position w.position) (cell xs)) → Is ys (cond t (settle a z p q (cell xs)) (cell xs))) b
      (λ _ k. settle_is f g s k) (λ _ k. subst (Is ys) unpaid k) (rw (← u, ← v) h))

pub place_is : (xs : List ℕ) {ys zs us vs : List ℕ} (n : ℕ) (o : Live) (fee h c : ℕ) (w : Side) → o.account < owner_slots → fee ≡ word (cell xs) C.fee → h ≡ hold_word fee o.side o.priced o.price o.leaves →
    c ≡ cell xs C.accounts o.account C.account_open_orders → w ≡ side o.side → word (cell ys) C.order_rows < order_room → Is ys (Orders.make_room (cell xs)) →
    Is zs (Orders.append n (record { account = o.account; client_ref = o.client_ref; side = o.side; priced = o.priced; price = o.price; leaves = o.leaves; hold = h }) (cell ys)) →
    Set zs us C.accounts o.account C.account_open_orders (c + 1) → Is vs (shift o.account w 0 h (cell us)) → Is vs (place n o (cell xs))
unfolding place
place_is xs n o fee h c w l k e f g m p q r t =
    let o' : Live = record { account = o.account; client_ref = o.client_ref; side = o.side; priced = o.priced; price = o.price; leaves = o.leaves; hold = h } in
    rw (← k, ← e, ← f, ← g)
    (then_shift o.account w 0 h l
    (then_set (then_append n o' m p q)
    (account_cell o.account C.account_open_orders l (omega arith)) r) t)

-- ---- totals in range

pub held_at_is : (s : Store) (a : ℕ) (z : Side) (k r : ℕ) → k ≡ held_cell z → r ≡ s C.accounts a k → r ≡ s C.accounts a (held_cell z)
held_at_is s a z k r e h = h ∙ ap (s C.accounts a) e

there : (m : Option ℕ) → is_some m ≡ is_some (amount m)
there None = refl
there (Some w) = refl

module _ (s : Store) (a : ℕ) (z : Side) (t : ℕ) (t_is : t ≡ s C.accounts a (held_cell z)) (m : Option ℕ) (r : Bool) (r_is : r ≡ is_some m) where
  pub one_fits : (old new : ℕ) → amount m ≡ fit (int t -ℤ int old +ℤ int new) → r ≡ fits (int (s C.accounts a (held_cell z)) -ℤ int old +ℤ int new)
  unfolding fits
  one_fits old new e = r_is ∙ there m ∙ ap is_some e ∙ ap (λ h. is_some (fit (int h -ℤ int old +ℤ int new))) t_is

  pub both_fit : (old new old2 new2 : ℕ) → amount m ≡ fit (int t -ℤ int old +ℤ int new -ℤ int old2 +ℤ int new2) →
      r ≡ fits (int (s C.accounts a (held_cell z)) -ℤ int old +ℤ int new -ℤ int old2 +ℤ int new2)
  unfolding fits
  both_fit old new old2 new2 e = r_is ∙ there m ∙ ap is_some e ∙ ap (λ h. is_some (fit (int h -ℤ int old +ℤ int new -ℤ int old2 +ℤ int new2))) t_is

pub ruleset laws = (hold_of_is, shift_is, revise_is, retire_is, left_done, left_open, pay_is, arith)
