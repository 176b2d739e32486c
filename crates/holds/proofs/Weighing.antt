-- What `weigh` finds: the part of the order that x would change, and its notices. Assumes nothing.
use Rattle.std.proofs.lemmas.Option.{none-some, same_Some}
use Rattle.std.specs.Prelude.{Option, Some, None, option_map, is_some}
use mathlib.Core.Path.{◌≡◌, refl, sym, ap, ap₂, subst, ◌∙◌}
use mathlib.Core.Bool.{Bool, true, false, cond, false≢true}
use mathlib.Core.List.{List, [], ◌∷◌, ◌++◌}
use Prim.Native.Nat.{ℕ, ◌+◌, ◌≤◌, ◌<◌}
use native.Mathlib.Omega.{arith}
use lib.IntN.{ℤ, pos, ◌-ℤ◌}
use lib.Dec.{eqb}
use lib.ListN.{length}
use Rattle.words.specs.Words.{int, modulus}
use Rattle.words.proofs.Int.{int_zero}
use Rattle.gateway.specs.Basics.{option}
use Rattle.gateway.specs.Limits.{owner_slots}
use Rattle.gateway.specs.Ledger.{Order, Ledger, number_of, find, paper, wallet_of, hold, order_hold}
use Rattle.gateway.specs.Deliver.{hold_after, order_notices, change_notices}
use Rattle.gateway.specs.Deliver as Deliver
use Rattle.gateway.specs.Entry.{is_zero}
use Rattle.gateway.proofs.Base.{split}
use Rattle.gateway.proofs.Moves.{Of, fills, sets, reprices, retires, names}
use Rattle.store.specs.Cells as C
use Rattle.store.specs.Layout.{cell}
use Rattle.store.specs.View.{Row, Store, word, order, wallet, ledger, gateway, order_room}
use Rattle.clients.proofs.Views.{wallet_at_row}
use Rattle.orders.specs.declared.Live.{Live}
use Rattle.orders.specs.Orders.{Sees, live_row}
use Rattle.sound.specs.Sound.{State}
use Rattle.live.specs.Live as L
use Rattle.live.proofs.Accounts.{hold_is}
use Rattle.live.proofs.Notices.{stays, differs}
use Rattle.holds.specs.declared.Move.{Move}
use Rattle.holds.specs.declared.Move.TheVariants.{Fill, Leaves, Reprice, Retire}
use Rattle.holds.specs.declared.Shift.{Shift}
use Rattle.holds.specs.Holds.{change_of, part_of, paper_order, leaving, NewHold, Weighs, nothing, hold_after_word, settles, notice_count, shift_of}

pub of : (n : ℕ) (x : Move) → Of n (change_of n x)
of n (Fill p q v) = fills (int p) q v
of n (Leaves v) = sets v
of n (Reprice p v) = reprices (int p) v
of n Retire = retires

-- ---- in the arms of a match

pub settles_as : (x y : Move) → x ≡ y → settles y ≡ settles x
settles_as x y e = ap settles (sym e)

pub settles_small : (x : Move) → settles x ≤ 1
settles_small (Fill p q v) = omega arith
settles_small (Leaves v) = omega arith
settles_small (Reprice p v) = omega arith
settles_small Retire = omega arith

-- b: there is a wallet
pub count_same : (b : Bool) (k old new : ℕ) → b ≡ true → old ≡ new → k ≡ cond b (notice_count k old new) 0
count_same b k old new f e = sym (ap₂ (λ c d. cond c (cond d k (k + 1)) 0) f (stays old new e))

pub count_other : (b : Bool) (k old new : ℕ) → b ≡ true → old < modulus → new < modulus → (old ≡ new → ⊥) → k + 1 ≡ cond b (notice_count k old new) 0
count_other b k old new f l m e = sym (ap₂ (λ c d. cond c (cond d k (k + 1)) 0) f (differs old new l m e))

-- ---- a row

pub row_weighed : (k new : ℕ) (o : Live) (s : Store) (b : Bool) (n : ℕ) → b ≡ is_some (wallet (s C.accounts o.account)) → n ≡ cond b (notice_count k o.hold new) 0 →
    record { account = o.account; side = o.side; old = o.hold; new = new; notices = n; funded = b } ≡ shift_of k new o s
row_weighed k new o s b n e q =
    λ i. record { account = o.account; side = o.side; old = o.hold; new = new; notices = (q ∙ ap (λ c. cond c (notice_count k o.hold new) 0) e) i; funded = e i }

-- ---- notices, by the order

abbrev pub settled : ℕ → Move → List ℕ
settled a x = cond (eqb (settles x) 0) [] (a ∷ [])

pub notices_are : (fee : ℤ) (n : ℕ) (x : Move) (q : Order) → order_notices fee (change_of n x) q ≡ settled q.account x ++ Deliver.hold_notice q.account (order_hold fee q) (hold_after fee (change_of n x) q)
notices_are fee n (Fill p q v) o = refl
notices_are fee n (Leaves v) o = refl
notices_are fee n (Reprice p v) o = refl
notices_are fee n Retire o = refl

counted : (fee : ℤ) (n : ℕ) (x : Move) (q : Order) → length (order_notices fee (change_of n x) q) ≡ cond (is_zero (hold_after fee (change_of n x) q -ℤ order_hold fee q)) (settles x) (settles x + 1)
counted fee n (Fill p m v) q = split (λ b. length (q.account ∷ cond b [] (q.account ∷ [])) ≡ cond b 1 2) (is_zero (hold fee q.side q.price v -ℤ order_hold fee q)) (λ _. refl) (λ _. refl)
counted fee n (Leaves v) q = split (λ b. length (cond b [] (q.account ∷ [])) ≡ cond b 0 1) (is_zero (hold fee q.side q.price v -ℤ order_hold fee q)) (λ _. refl) (λ _. refl)
counted fee n (Reprice p v) q = split (λ b. length (cond b [] (q.account ∷ [])) ≡ cond b 0 1) (is_zero (hold_after fee (change_of n (Reprice p v)) q -ℤ order_hold fee q)) (λ _. refl) (λ _. refl)
counted fee n Retire q = split (λ b. length (cond b [] (q.account ∷ [])) ≡ cond b 0 1) (is_zero (pos 0 -ℤ order_hold fee q)) (λ _. refl) (λ _. refl)

pub notices_two : (fee : ℤ) (n : ℕ) (x : Move) (q : Order) → length (order_notices fee (change_of n x) q) ≤ 2
notices_two fee n x q = rw (counted fee n x q) (split (λ b. cond b (settles x) (settles x + 1) ≤ 2) (is_zero (hold_after fee (change_of n x) q -ℤ order_hold fee q)) (λ _. omega (arith, settles_small x)) (λ _. omega (arith, settles_small x)))

pub notices_by : (n : ℕ) (x : Move) (l : Ledger) {w : Option Order} → find n l.orders ≡ w →
    change_notices (change_of n x) l ≡ option [] (λ q. cond (is_some (wallet_of l.wallets q)) (order_notices l.fee (change_of n x) q) []) w
notices_by n x l e = ap (option [] (λ q. cond (is_some (wallet_of l.wallets q)) (order_notices l.fee (change_of n x) q) [])) (names (of n x) l.orders ∙ e)

-- ---- the order that x changes

pub new_is : (fee n : ℕ) (x : Move) (r : Row) → int (hold_after_word fee x r) ≡ hold_after (int fee) (change_of n x) (order r)
new_is fee n (Fill p q v) r = hold_is fee (r C.order_side) (r C.order_priced) (r C.order_price) v
new_is fee n (Leaves v) r = hold_is fee (r C.order_side) (r C.order_priced) (r C.order_price) v
new_is fee n (Reprice p v) r = hold_is fee (r C.order_side) 1 p v
new_is fee n Retire r = int_zero

module _ (xs : List ℕ) (st : State xs) (n : ℕ) (at : Option ℕ) (sees : Sees C.order_live order number_of (cell xs) n at) where
  abbrev s : Store
  s = cell xs

  pub none_there : at ≡ None → find n (ledger s).orders ≡ None
  none_there absent = let u : Sees C.order_live order number_of s n None = rw absent at sees in u.order

  pub holds_nothing : (x : Move) (w : ℕ) → at ≡ None → NewHold n x w (ledger s)
  holds_nothing x w absent o q = absurd (none-some o (sym (none_there absent) ∙ q))

  pub weighs_nothing : at ≡ None → (r : Shift) → r ≡ nothing → (x : Move) → Weighs n x r (gateway s)
  unfolding paper
  weighs_nothing absent r e x =
      let gone = none_there absent in
      subst (λ t. Weighs n x t (gateway s)) (sym e)
      (record {
        owned = record { inside = omega arith; has_wallet = λ q. absurd (false≢true q) };
        paper_is = ap (option false (λ o. is_some (wallet_of (ledger s).wallets o))) gone;
        noticed = ap length (notices_by n x (ledger s) gone);
        is = sym (ap (λ w. option_map (part_of (ledger s).fee (change_of n x)) (option None (λ o. cond (is_some (wallet_of (ledger s).wallets o)) (Some o) None) w)) gone);
        holds = holds_nothing x 0 absent;
      })

  module _ (i : ℕ) (found : at ≡ Some i) where
    pub there : Sees C.order_live order number_of s n (Some i)
    there = rw found at sees

    pub row_small : i < order_room
    row_small = omega (arith, there.row.0, st.sound.tables.ordered.bounds.orders_fit)

    abbrev was : Order
    was = order (s C.orders i)

    small : was.account < owner_slots
    small = (st.sound.held.rows i there.row.0 there.row.2).owner_is

    pub live_at : L.At i s
    live_at = record { inside = there.row.0; live = there.row.2 }

    holds_row : (x : Move) (w : ℕ) → w ≡ hold_after_word (word s C.fee) x (s C.orders i) → NewHold n x w (ledger s)
    holds_row x w e q f = ap int e ∙ new_is (word s C.fee) n x (s C.orders i) ∙ ap (hold_after (ledger s).fee (change_of n x)) (same_Some was q (sym there.order ∙ f))

    module _ (o : Live) (o_is : o ≡ live_row (s C.orders i)) where
      pub owner_small : o.account < owner_slots
      owner_small = rw o_is small

      pub weighs_row : (k new : ℕ) (r : Shift) → r ≡ shift_of k new o s → (x : Move) → settles x ≡ k → NewHold n x new (ledger s) → Weighs n x r (gateway s)
      unfolding paper
      weighs_row k new r e x k_is new_is =
          subst (λ t. Weighs n x t (gateway s)) (sym (e ∙ ap (λ (w : Live). shift_of k new w s) o_is))
          (record {
            owned = record { inside = small; has_wallet = λ q. wallet_is ∙ q };
            paper_is = ap (option false (λ q. is_some (wallet_of (ledger s).wallets q))) there.order ∙ wallet_is;
            noticed =
                ap length (notices_by n x (ledger s) there.order ∙ ap (λ c. cond c (order_notices (ledger s).fee (change_of n x) was) []) wallet_is)
                ∙ split (λ c. length (cond c (order_notices (ledger s).fee (change_of n x) was) []) ≡ cond c (notice_count k (s C.orders i C.order_hold) new) 0) funded
                (λ _. counted (ledger s).fee n x was ∙ (λ j. cond (is_zero (sym after_is j -ℤ sym old_is j)) (k_is j) (k_is j + 1))) (λ _. refl);
            is =
                split (λ c. cond c (Some (record { account = was.account; side = was.side; old = int (s C.orders i C.order_hold); new = int new })) None ≡
                option_map (part_of (ledger s).fee (change_of n x)) (cond c (Some was) None)) funded
                (λ _ j. Some (record { account = was.account; side = was.side; old = old_is j; new = after_is j })) (λ _. refl)
                ∙ sym (ap (option_map (part_of (ledger s).fee (change_of n x))) order_is);
            holds = new_is;
          })
        where
          funded : Bool
          funded = is_some (wallet (s C.accounts was.account))

          wallet_is : is_some (wallet_of (ledger s).wallets was) ≡ funded
          wallet_is = ap is_some (wallet_at_row was.account s small)

          order_is : paper_order n (ledger s) ≡ cond funded (Some was) None
          order_is = ap (option None (λ q. cond (is_some (wallet_of (ledger s).wallets q)) (Some q) None)) there.order ∙ ap (λ c. cond c (Some was) None) wallet_is

          old_is : int (s C.orders i C.order_hold) ≡ order_hold (ledger s).fee was
          old_is = (st.sound.held.rows i there.row.0 there.row.2).hold_is

          after_is : int new ≡ hold_after (ledger s).fee (change_of n x) was
          after_is = new_is was there.order

      -- what it holds then, in words
      pub left_holds : (b : Bool) (fee c q p v r : ℕ) → fee ≡ word s C.fee → c ≡ cond b 1 o.priced → q ≡ cond b p o.price → r ≡ L.hold_word fee o.side c q v → NewHold n (leaving b p v) r (ledger s)
      left_holds b fee c q p v r k e f g =
          holds_row (leaving b p v) r
          (g ∙ (λ i. L.hold_word (k i) o.side (e i) (f i) v) ∙ ap (λ (w : Live). L.hold_word (word s C.fee) w.side (cond b 1 w.priced) (cond b p w.price) v) o_is
          ∙ split (λ b. L.hold_word (word s C.fee) (s C.orders i C.order_side) (cond b 1 (s C.orders i C.order_priced)) (cond b p (s C.orders i C.order_price)) v ≡ hold_after_word (word s C.fee) (leaving b p v) (s C.orders i)) b (λ _. refl) (λ _. refl))

-- ---- in the arms of a match

module _ (n : ℕ) (x : Move) (l : Ledger) (w : ℕ) where
  pub after_fill : (p q v : ℕ) → x ≡ Fill p q v → NewHold n (Leaves v) w l → NewHold n x w l
  after_fill p q v e h = subst (λ y. NewHold n y w l) (sym e) h

  pub after_leaves : (v : ℕ) → x ≡ Leaves v → NewHold n (Leaves v) w l → NewHold n x w l
  after_leaves v e h = subst (λ y. NewHold n y w l) (sym e) h

  pub after_reprice : (p v : ℕ) → x ≡ Reprice p v → NewHold n (Reprice p v) w l → NewHold n x w l
  after_reprice p v e h = subst (λ y. NewHold n y w l) (sym e) h

pub after_retire : (n : ℕ) (x : Move) (l : Ledger) → x ≡ Retire → NewHold n x 0 l
after_retire n x l e = subst (λ y. NewHold n y 0 l) (sym e) (λ o _. int_zero)

pub ruleset weighing = (settles_as, count_same, count_other, row_weighed, holds_nothing, weighs_nothing, row_small, owner_small, live_at, weighs_row, left_holds, after_fill, after_leaves, after_reprice, after_retire, arith)
