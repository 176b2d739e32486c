-- What is applied: the change of the ledger with its notices. Assumes nothing.
use Rattle.std.specs.Prelude.{Option, Some, None, is_some}
use mathlib.Core.Path.{◌≡◌, refl, sym, ap, ap₂, subst, ◌∙◌}
use mathlib.Core.Bool.{Bool, true, false, cond}
use mathlib.Core.List.{List, [], ◌∷◌, ◌++◌, append-nil, append_assoc}
use Prim.Native.Nat.{ℕ, ◌+◌, ◌≤◌, ◌<◌}
use native.Mathlib.Omega.{arith}
use lib.Dec.{eqb}
use lib.ListN.{length, length-append, get_or}
use Rattle.words.specs.Words.{int, modulus}
use Rattle.words.proofs.Int.{int_injective}
use Rattle.words.proofs.Wrap.{wrap_small}
use Rattle.gateway.specs.Limits.{owner_slots, most_notices}
use Rattle.gateway.specs.Ledger.{Order, Ledger, Change, fill, set_leaves, reprice, retire, number_of, wallet_of, change, order_hold}
use Rattle.gateway.specs.Rest.{pending}
use Rattle.gateway.specs.Deliver.{hold_after, change_notices}
use Rattle.gateway.specs.Deliver as Deliver
use Rattle.gateway.specs.Calls.{Gateway}
use Rattle.gateway.proofs.Base.{split}
use Rattle.gateway.proofs.Moves.{unchanged, wallets_changed}
use Rattle.store.specs.Cells as C
use Rattle.store.specs.Layout.{cell}
use Rattle.store.specs.View.{Row, Store, word, order, wallet, ledger, gateway}
use Rattle.store.proofs.Listed.{listed_length}
use Rattle.clients.proofs.Views.{wallet_at_row}
use Rattle.orders.specs.declared.Live.{Live}
use Rattle.orders.specs.Orders.{Sees, live_row, number_at}
use Rattle.orders.proofs.Kept.{stays_same, stays_then}
use Rattle.sound.specs.Sound.{State, Becomes, InPlace}
use Rattle.live.specs.Live as L
use Rattle.live.specs.Live.{with_ledger, with_notices, wallet_notice}
use Rattle.holds.specs.declared.Move.{Move}
use Rattle.holds.specs.declared.Move.TheVariants.{Fill, Leaves, Reprice, Retire}
use Rattle.holds.specs.Holds.{change_of, moved, NewHold, hold_after_word, settles}
use Rattle.holds.proofs.Weighing.{of, settled, notices_are, notices_by, new_is, none_there, there, owner_small, live_at}

-- ---- the change, in the arms of the match

module _ (xs : List ℕ) {ys : List ℕ} (n : ℕ) (x : Move) (g : Gateway) where
  pub did_fill : (p q v : ℕ) → x ≡ Fill p q v → InPlace xs ys (with_ledger (change (fill n (int p) q v)) g) → InPlace xs ys (with_ledger (change (change_of n x)) g)
  did_fill p q v e h = subst (λ y. InPlace xs ys (with_ledger (change (change_of n y)) g)) (sym e) h

  pub did_leaves : (v : ℕ) → x ≡ Leaves v → InPlace xs ys (with_ledger (change (set_leaves n v)) g) → InPlace xs ys (with_ledger (change (change_of n x)) g)
  did_leaves v e h = subst (λ y. InPlace xs ys (with_ledger (change (change_of n y)) g)) (sym e) h

  pub did_reprice : (p v : ℕ) → x ≡ Reprice p v → InPlace xs ys (with_ledger (change (reprice n (int p) v)) g) → InPlace xs ys (with_ledger (change (change_of n x)) g)
  did_reprice p v e h = subst (λ y. InPlace xs ys (with_ledger (change (change_of n y)) g)) (sym e) h

  pub did_retire : x ≡ Retire → InPlace xs ys (with_ledger (change (retire n)) g) → InPlace xs ys (with_ledger (change (change_of n x)) g)
  did_retire e h = subst (λ y. InPlace xs ys (with_ledger (change (change_of n y)) g)) (sym e) h

-- ---- what it holds then, in the arms of the match

pub after_as : (fee : ℕ) (r : Row) (w : ℕ) {x y : Move} → x ≡ y → w ≡ hold_after_word fee x r → w ≡ hold_after_word fee y r
after_as fee r w e h = h ∙ ap (λ z. hold_after_word fee z r) e

after_small : (fee : ℕ) (x : Move) (r : Row) → hold_after_word fee x r < modulus
unfolding L.hold_word
after_small fee (Fill p q v) r = wrap_small _
after_small fee (Leaves v) r = wrap_small _
after_small fee (Reprice p v) r = wrap_small _
after_small fee Retire r = omega arith

-- ---- notices

pub notices_count : (s : Store) → length (gateway s).rest.notices ≡ word s C.notice_rows
notices_count s = listed_length (λ i. s C.notices i C.notice_account) (word s C.notice_rows)

-- none
with_none : (g : Gateway) → with_notices [] g ≡ g
with_none g = ap (λ (ns : List ℕ). record { core = g.core; rest = pending g.rest.depth g.rest.trades ns g.rest }) (append-nil g.rest.notices)

pub quiet : {ys : List ℕ} → State ys → InPlace ys ys (with_notices [] (gateway (cell ys)))
quiet {ys} st = record { becomes = record { state = st; gateway_is = sym (with_none (gateway (cell ys))) }; stays = stays_same (cell ys) }

-- that money moved
abbrev settled_notice : ℕ → Move → Store → List ℕ
settled_notice a x s = cond (eqb (settles x) 0) [] (wallet_notice a s)

-- both notices together
joined : (b : Bool) (x : Move) (a : ℕ) (ns : List ℕ) → cond b (settled a x ++ ns) [] ≡ cond (eqb (settles x) 0) [] (cond b (a ∷ []) []) ++ cond b ns []
joined true x a ns = refl
joined false x a ns = split (λ c. ◌≡◌ {A = List ℕ} [] (cond c [] [] ++ [])) (eqb (settles x) 0) (λ _. refl) (λ _. refl)

-- ---- the order at a place

module _ (xs : List ℕ) (st : State xs) (n : ℕ) (x : Move) (at : Option ℕ) (sees : Sees C.order_live order number_of (cell xs) n at) where
  abbrev s : Store
  s = cell xs

  abbrev c : Change
  c = change_of n x

  pub nothing_changed : at ≡ None → InPlace xs xs (with_ledger (change c) (gateway s))
  nothing_changed absent =
      record {
        becomes = record { state = st; gateway_is = sym (ap (λ (l : Ledger). with_ledger (λ _. l) (gateway s)) (unchanged (of n x) (ledger s) (none_there xs st n at sees absent))) };
        stays = stays_same s;
      }

  pub nothing_moved : at ≡ None → InPlace xs xs (moved c (gateway s))
  nothing_moved absent =
      let gone = none_there xs st n at sees absent in
      record {
        becomes =
            record {
              state = st;
              gateway_is =
                  sym
                  (ap₂ (λ (ns : List ℕ) (l : Ledger). with_notices ns (with_ledger (λ _. l) (gateway s))) (notices_by n x (ledger s) gone) (unchanged (of n x) (ledger s) gone) ∙ with_none (gateway s));
            };
        stays = stays_same s;
      }

  module _ (i : ℕ) (found : at ≡ Some i) where
    abbrev row : Sees C.order_live order number_of s n (Some i)
    row = there xs st n at sees i found

    abbrev was : Order
    was = order (s C.orders i)

    pub changed : {ys : List ℕ} → InPlace xs ys (with_ledger (change (change_of (number_at i s) x)) (gateway s)) → InPlace xs ys (with_ledger (change c) (gateway s))
    changed {ys} b = subst (λ k. InPlace xs ys (with_ledger (change (change_of k x)) (gateway s))) row.row.1 b

    -- `new` is what it holds then
    module _ (new : ℕ) (holds : NewHold n x new (ledger s)) where
      after_is : int new ≡ hold_after (ledger s).fee c was
      after_is = holds was row.order

      -- what the change asks
      pub change_needs : new < modulus → State xs × L.At i s × (new ≡ hold_after_word (word s C.fee) x (s C.orders i))
      change_needs l = (
        st,
        live_at xs st n at sees i found,
        int_injective new (hold_after_word (word s C.fee) x (s C.orders i)) l (after_small (word s C.fee) x (s C.orders i)) (after_is ∙ sym (new_is (word s C.fee) n x (s C.orders i))),
      )

      module _ (o : Live) (o_is : o ≡ live_row (s C.orders i)) where
        owner : o.account < owner_slots
        owner = owner_small xs st n at sees i found o o_is

        old_is : int o.hold ≡ order_hold (ledger s).fee was
        old_is = ap (λ (w : Live). int w.hold) o_is ∙ (st.sound.held.rows i row.row.0 row.row.2).hold_is

        -- read from states with as many wallets
        abbrev Alike : Store → Type 0
        Alike t = is_some (wallet (t C.accounts was.account)) ≡ is_some (wallet_of (ledger s).wallets was)

        noticed : (t u : Store) → Alike t → Alike u → change_notices c (ledger s) ≡ settled_notice o.account x t ++ L.hold_notice o.account (int o.hold) (int new) u
        noticed t u e f =
            notices_by n x (ledger s) row.order
            ∙ ap (λ (ns : List ℕ). cond (is_some (wallet_of (ledger s).wallets was)) ns []) (notices_are (ledger s).fee n x was)
            ∙ joined (is_some (wallet_of (ledger s).wallets was)) x was.account (Deliver.hold_notice was.account (order_hold (ledger s).fee was) (hold_after (ledger s).fee c was))
            ∙ ap₂ (λ (b d : Bool). cond (eqb (settles x) 0) [] (cond b (was.account ∷ []) []) ++ cond d (Deliver.hold_notice was.account (order_hold (ledger s).fee was) (hold_after (ledger s).fee c was)) []) (sym e) (sym f)
            ∙ sym (λ j. settled_notice (o_is j).account x t ++ L.hold_notice (o_is j).account (old_is j) (after_is j) u)

        alike : (t : Store) → (ledger t).wallets ≡ (change c (ledger s)).wallets → Alike t
        alike t e =
            let small : was.account < owner_slots = (st.sound.held.rows i row.row.0 row.row.2).owner_is in
            ap is_some (sym (wallet_at_row was.account t small)) ∙ ap (λ ws. is_some (get_or ws was.account None)) e ∙ wallets_changed c (ledger s) was.account

        module _ (room : length (change_notices c (ledger s)) + word s C.notice_rows ≤ most_notices) {ys : List ℕ} (did : InPlace xs ys (with_ledger (change (change_of (number_at i s) x)) (gateway s))) where
          b : Becomes ys (with_ledger (change c) (gateway s))
          b = (changed did).becomes

          alike_y : Alike (cell ys)
          alike_y = alike (cell ys) (ap (λ (g : Gateway). g.core.ledger.wallets) b.gateway_is)

          rows_y : word (cell ys) C.notice_rows ≡ word s C.notice_rows
          rows_y = sym (notices_count (cell ys)) ∙ ap (λ (g : Gateway). length g.rest.notices) b.gateway_is ∙ notices_count s

          -- what the notice that money moved asks
          pub money_needs : State ys × (o.account < owner_slots) × (length (settled_notice o.account x (cell ys)) + word (cell ys) C.notice_rows ≤ most_notices)
          money_needs = (
            b.state,
            owner,
            omega
                (arith, rows_y, ap (λ (ns : List ℕ). length ns) (noticed (cell ys) (cell ys) alike_y alike_y), length-append (settled_notice o.account x (cell ys)) (L.hold_notice o.account (int o.hold) (int new) (cell ys)), room),
          )

          module _ {zs : List ℕ} (told : InPlace ys zs (with_notices (settled_notice o.account x (cell ys)) (gateway (cell ys)))) where
            d : Becomes zs (with_notices (settled_notice o.account x (cell ys)) (gateway (cell ys)))
            d = told.becomes

            alike_z : Alike (cell zs)
            alike_z = alike (cell zs) (ap (λ (g : Gateway). g.core.ledger.wallets) d.gateway_is ∙ ap (λ (g : Gateway). g.core.ledger.wallets) b.gateway_is)

            rows_z : word (cell zs) C.notice_rows ≡ word s C.notice_rows + length (settled_notice o.account x (cell ys))
            rows_z =
                sym (notices_count (cell zs)) ∙ ap (λ (g : Gateway). length g.rest.notices) d.gateway_is ∙ length-append (gateway (cell ys)).rest.notices (settled_notice o.account x (cell ys))
                ∙ ap (λ k. k + length (settled_notice o.account x (cell ys))) (notices_count (cell ys) ∙ rows_y)

            -- and the one that what is held changed
            pub hold_needs : State zs × (o.account < owner_slots) × (length (L.hold_notice o.account (int o.hold) (int new) (cell zs)) + word (cell zs) C.notice_rows ≤ most_notices)
            hold_needs = (
              d.state,
              owner,
              omega
                  (arith, rows_z, ap (λ (ns : List ℕ). length ns) (noticed (cell ys) (cell zs) alike_y alike_z), length-append (settled_notice o.account x (cell ys)) (L.hold_notice o.account (int o.hold) (int new) (cell zs)), room),
            )

            pub row_moved : {us : List ℕ} → InPlace zs us (with_notices (L.hold_notice o.account (int o.hold) (int new) (cell zs)) (gateway (cell zs))) → InPlace xs us (moved c (gateway s))
            row_moved e =
                let sn = settled_notice o.account x (cell ys) in
                let hn = L.hold_notice o.account (int o.hold) (int new) (cell zs) in
                record {
                  becomes =
                      record {
                        state = e.becomes.state;
                        gateway_is =
                            e.becomes.gateway_is ∙ ap (with_notices hn) (d.gateway_is ∙ ap (with_notices sn) b.gateway_is)
                            ∙ ap (λ (ns : List ℕ). record { core = (with_ledger (change c) (gateway s)).core; rest = pending (gateway s).rest.depth (gateway s).rest.trades ns (gateway s).rest })
                            (append_assoc (gateway s).rest.notices sn hn)
                            ∙ ap (λ (ns : List ℕ). with_notices ns (with_ledger (change c) (gateway s))) (sym (noticed (cell ys) (cell zs) alike_y alike_z));
                      };
                  stays = stays_then did.stays (stays_then told.stays e.stays);
                }

pub ruleset applying = (did_fill, did_leaves, did_reprice, did_retire, nothing_changed, changed, arith)
