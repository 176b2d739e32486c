-- The notices of what the orders hold, one by one. Assumes nothing.
use Rattle.std.specs.Prelude.{Option, None, is_some}
use Prim.Native.Nat.{ℕ, ◌+◌, ◌≤◌, ◌<◌}
use mathlib.Core.Path.{◌≡◌, refl, sym, ap, ap₂, subst, ◌∙◌}
use mathlib.Core.Bool.{Bool, true, false, cond, not, ◌&&◌}
use mathlib.Core.List.{List, [], ◌∷◌, ◌++◌, append-nil, append_assoc}
use native.Mathlib.Numerals.{add-one}
use native.Mathlib.Omega.{arith}
use lib.IntN.{ℤ, ◌-ℤ◌, +ℤ_idr}
use lib.ListN.{length, get_or, take, length-append}
use lib.Seq.{take-suc, take_all, length-take-le}
use Rattle.accounts.specs.declared.Funds.{Funds}
use Rattle.words.specs.Words.{int}
use Rattle.words.proofs.Int.{int_zero}
use Rattle.gateway.specs.Basics.{each}
use Rattle.gateway.specs.Limits.{owner_slots, most_orders, most_notices}
use Rattle.gateway.specs.Ledger.{Order, order_hold}
use Rattle.gateway.specs.Invariant.{Inside}
use Rattle.gateway.specs.Entry.{is_zero}
use Rattle.gateway.specs.Calls.{Gateway}
use Rattle.gateway.specs.Start.{hold_notice_of}
use Rattle.gateway.proofs.Base.{split}
use Rattle.store.specs.Cells as C
use Rattle.store.specs.Layout.{cell}
use Rattle.store.specs.View.{word, wallet, gateway}
use Rattle.store.proofs.Listed.{listed_at, listed_length}
use Rattle.orders.specs.declared.Live.{Live}
use Rattle.orders.specs.Orders.{order_of}
use Rattle.sound.specs.Sound.{State, Becomes}
use Rattle.live.specs.Live.{with_notices, hold_word, hold_notice}
use Rattle.live.proofs.Accounts.{hold_is}
use Rattle.saved.specs.Contents.{saved_of, order_at, no_order, Reads}
use Rattle.refill.specs.Refill.{noticed, Fits}
use Rattle.refill.proofs.Wallets.{each_at}

-- ---- one order

told : (a z : Bool) (l : List ℕ) → cond a (cond z [] l) [] ≡ cond (a && not z) l []
told true true l = refl
told true false l = refl
told false true l = refl
told false false l = refl

module _ (bytes : List ℕ) (j : ℕ) (o : Live) (r : Reads (order_at bytes j) o) (fits : Fits (saved_of bytes)) (l : j < length (saved_of bytes).orders) where
  same_account : o.account ≡ (order_at bytes j).account
  same_account = ap (λ (x : Order). x.account) r.order_is

  pub account_there : o.account < owner_slots
  account_there =
      let i = each_at (Inside (saved_of bytes).last owner_slots) (saved_of bytes).orders j no_order fits.inside l in
      rw same_account i.1

  module _ (xs : List ℕ) (f h : ℕ) (f_is : f ≡ word (cell xs) C.fee) (h_is : h ≡ hold_word f o.side o.priced o.price o.leaves) where
    abbrev fee : ℤ
    fee = (gateway (cell xs)).core.ledger.fee

    abbrev ws : List (Option Funds)
    ws = (gateway (cell xs)).core.ledger.wallets

    amount : int h -ℤ int 0 ≡ order_hold fee (order_of (order_at bytes j).number o)
    amount = ap (λ z. int h -ℤ z) int_zero ∙ +ℤ_idr (int h) ∙ ap int (h_is ∙ ap (λ y. hold_word y o.side o.priced o.price o.leaves) f_is) ∙ hold_is (word (cell xs) C.fee) o.side o.priced o.price o.leaves

    notice_is : hold_notice o.account (int 0) (int h) (cell xs) ≡ hold_notice_of fee ws (order_at bytes j)
    notice_is =
        told (is_some (wallet (cell xs C.accounts o.account))) (is_zero (int h -ℤ int 0)) (o.account ∷ [])
        ∙ ap₂ (λ w z. cond (is_some w && not (is_zero z)) (o.account ∷ []) []) (sym (listed_at (λ i. wallet (cell xs C.accounts i)) owner_slots o.account None account_there)) amount
        ∙ ap (hold_notice_of fee ws) r.order_is

    pub notice_fits : length (gateway (cell xs)).rest.notices < most_notices → length (hold_notice o.account (int 0) (int h) (cell xs)) + word (cell xs) C.notice_rows ≤ most_notices
    notice_fits k =
        let e : length (gateway (cell xs)).rest.notices ≡ word (cell xs) C.notice_rows = listed_length (λ i. cell xs C.notices i C.notice_account) (word (cell xs) C.notice_rows) in
        let one : length (hold_notice o.account (int 0) (int h) (cell xs)) ≤ 1 =
        split (λ w. length (cond w (cond (is_zero (int h -ℤ int 0)) [] (o.account ∷ [])) []) ≤ 1) (is_some (wallet (cell xs C.accounts o.account)))
        (λ _. split (λ z. length (cond z [] (o.account ∷ [])) ≤ 1) (is_zero (int h -ℤ int 0)) (λ _. omega arith) (λ _. omega arith)) (λ _. omega arith) in
        omega (arith, one, e, k)

    pub notice_becomes : {ys : List ℕ} → Becomes ys (with_notices (hold_notice o.account (int 0) (int h) (cell xs)) (gateway (cell xs))) →
        Becomes ys (with_notices (hold_notice_of (gateway (cell xs)).core.ledger.fee (gateway (cell xs)).core.ledger.wallets (order_at bytes j)) (gateway (cell xs)))
    notice_becomes {ys} b = subst (λ ns. Becomes ys (with_notices ns (gateway (cell xs)))) notice_is b

-- ---- all of them

-- with other notices altogether
abbrev with_all : List ℕ → Gateway → Gateway
with_all ns g =
    record {
      core = g.core;
      rest =
          record {
            timing = g.rest.timing;
            clock = g.rest.clock;
            sessions = g.rest.sessions;
            buckets = g.rest.buckets;
            batch = g.rest.batch;
            delivered = g.rest.delivered;
            published = g.rest.published;
            depth = g.rest.depth;
            trades = g.rest.trades;
            notices = ns;
            collar = g.rest.collar;
          };
    }

module _ (fee : ℤ) (ws : List (Option Funds)) where
  abbrev notices : List Order → List ℕ
  notices os = each (hold_notice_of fee ws) os

  notices_more : (os : List Order) (o : Order) → notices (os ++ (o ∷ [])) ≡ notices os ++ hold_notice_of fee ws o
  notices_more [] o = append-nil (hold_notice_of fee ws o)
  notices_more (x ∷ os) o = ap (λ ns. hold_notice_of fee ws x ++ ns) (notices_more os o) ∙ sym (append_assoc (hold_notice_of fee ws x) (notices os) (hold_notice_of fee ws o))

  notices_few : (os : List Order) → length (notices os) ≤ length os
  notices_few [] = omega arith
  notices_few (o ∷ os) =
      let one : length (hold_notice_of fee ws o) ≤ 1 =
      split (λ b. length (cond b (o.account ∷ []) []) ≤ 1) (is_some (get_or ws o.account None) && not (is_zero (order_hold fee o))) (λ e. omega arith) (λ e. omega arith) in
      omega (arith, length-append (hold_notice_of fee ws o) (notices os), notices_few os, one)

module _ (bytes xs : List ℕ) where
  abbrev os : List Order
  os = (saved_of bytes).orders

  abbrev g : Gateway
  g = gateway (cell xs)

  -- of the first j
  abbrev pub Noticed : ℕ → List ℕ → Type 0
  Noticed j ys = Becomes ys (noticed (take j os) g)

  pub none_noticed : State xs → Noticed 0 xs
  none_noticed st = record { state = st; gateway_is = ap (λ ns. with_all ns g) (sym (append-nil g.rest.notices)) }

  module _ (j : ℕ) (ys : List ℕ) (a : Noticed j ys) (l : j < length os) where
    pub notice_room : length os ≤ most_orders → length g.rest.notices ≡ 0 → length (gateway (cell ys)).rest.notices < most_notices
    notice_room few empty =
        let e = ap (λ (h : Gateway). length h.rest.notices) a.gateway_is in
        omega (arith, e, length-append g.rest.notices (notices g.core.ledger.fee g.core.ledger.wallets (take j os)), notices_few g.core.ledger.fee g.core.ledger.wallets (take j os), length-take-le j os (omega arith), few, empty)

    pub more_noticed : (zs : List ℕ) → Becomes zs (with_notices (hold_notice_of (gateway (cell ys)).core.ledger.fee (gateway (cell ys)).core.ledger.wallets (order_at bytes j)) (gateway (cell ys))) → Noticed (j + 1) zs
    more_noticed zs b =
        let ws = g.core.ledger.wallets in
        let fee = g.core.ledger.fee in
        record {
          state = b.state;
          gateway_is =
              b.gateway_is ∙ ap (λ (h : Gateway). with_notices (hold_notice_of h.core.ledger.fee h.core.ledger.wallets (order_at bytes j)) h) a.gateway_is
              ∙ ap (λ ns. with_all ns g)
              (append_assoc g.rest.notices (notices fee ws (take j os)) (hold_notice_of fee ws (order_at bytes j))
              ∙ ap (λ ns. g.rest.notices ++ ns) (sym (notices_more fee ws (take j os) (order_at bytes j)) ∙ ap (notices fee ws) (sym (take-suc os j no_order l) ∙ ap (λ k. take k os) (sym (add-one j)))));
        }

  pub all_noticed : (j : ℕ) (ys : List ℕ) → length os ≤ j → Noticed j ys → Becomes ys (noticed os g)
  all_noticed j ys l a = subst (λ k. Becomes ys (noticed k g)) (take_all j os l) a
