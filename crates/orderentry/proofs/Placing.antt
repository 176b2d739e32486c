-- A new order: numbered, placed, noticed, in the batch; and the call. Assumes nothing.
use Rattle.std.specs.Prelude.{Option, Some, None, Ok, Result}
use Rattle.std.specs.Option.{option_or}
use mathlib.Core.Path.{◌≡◌, refl, sym, ap, subst, ◌∙◌}
use mathlib.Core.Bool.{Bool, true, false, cond, ◌&&◌, and-eq-true_iff}
use mathlib.Core.List.{List, [], ◌∷◌, ◌++◌}
use Prim.Native.Nat.{ℕ, ◌+◌, ◌≤◌, ◌<◌}
use native.Mathlib.Omega.{arith}
use borrow.Author.Tests.{ltb-true, leb-true}
use lib.ListN.{length, length-append}
use lib.Dec.{ltb, leb}
use Rattle.orderbook.specs.declared.Side.{Side}
use Rattle.orderbook.specs.declared.Command.{Command}
use Rattle.protocol.specs.declared.Inbound.TheVariants as In
use Rattle.protocol.specs.declared.NewOrder.{NewOrder}
use Rattle.protocol.specs.declared.OrderKind.{OrderKind}
use Rattle.protocol.specs.declared.OrderKind.TheVariants as Kind
use Rattle.protocol.specs.declared.RejectCode.{RejectCode}
use Rattle.protocol.specs.declared.RejectCode.TheVariants.{TooManyOrders, Throttled, Unavailable}
use Rattle.risk.specs.declared.Bucket.{Bucket}
use Rattle.risk.specs.declared.Taken.{Taken}
use Rattle.words.specs.Words.{int, wrap, modulus}
use Rattle.gateway.specs.Basics.{option}
use Rattle.gateway.specs.Limits.{owner_slots, session_slots, most_orders, most_notices, most_in_flight, most_in_batch}
use Rattle.gateway.specs.Ledger.{step, command, hold, open_of}
use Rattle.gateway.specs.Core.{Tests, account_at, fits_after}
use Rattle.gateway.specs.Rest.{Rest, at_time}
use Rattle.gateway.specs.Entry.{Plan, unless, reject, records, next, queued, noticing, new_notice, paper_tests, new_tests, most_open, wallet_at, command_of, taken, hear}
use Rattle.gateway.specs.Entry as Entry
use Rattle.gateway.specs.Calls.{Gateway, call, receive_from}
use Rattle.store.specs.Cells as C
use Rattle.store.specs.Layout.{cell}
use Rattle.store.specs.View.{word, side, maybe_price, gateway}
use Rattle.store.proofs.Listed.{listed_length}
use Rattle.clients.proofs.Laws.{plus_one}
use Rattle.orders.specs.declared.Live.{Live}
use Rattle.pending.specs.Pending.{Batched}
use Rattle.sound.specs.Sound.{State, Becomes}
use Rattle.live.specs.Live as Live
use Rattle.live.specs.Live.{with_ledger, with_notices, placing, hold_word, hold_notice}
use Rattle.mailbox.specs.Mailbox.{places}
use Rattle.outcome.specs.declared.Refusal.{Refusal}
use Rattle.outcome.specs.Parts.{with_rest, heard, Speaks}
use Rattle.outcome.specs.Answers.{Gives}
use Rattle.outcome.proofs.Laws.{then_becomes}
use Rattle.commands.specs.Commands as Commands
use Rattle.commands.proofs.Numbering as Numbering
use Rattle.pretrade.specs.Pretrade.{first, paper, the_command, has_place, has_room, new_order_tests, Stands}
use Rattle.orderentry.specs.OrderEntry.{after, CanPlace, in_book, placed, Does}
use Rattle.pretrade.proofs.Judging.{or_append, unless_passed, unless_failed}
use Rattle.orderentry.proofs.Messages.{does_record, gives}
use Rattle.pretrade.proofs.Testing.{account_stands, notice_stands, owner_is, order_is}

-- ---- numbered, placed and in the batch

-- what is asked of the order of a command that took off, whoever sent it
pub placing_needs : (xs : List ℕ) {ys : List ℕ} (sender owner places n : ℕ) (o : Live) → n ≡ next (gateway (cell xs)).core → length (gateway (cell xs)).core.ledger.orders < most_orders → o.account < owner_slots →
    Becomes ys (Commands.flying sender owner places (gateway (cell xs))) → Commands.Unplaced ys → State ys × Live.CanPlace n o (cell ys)
placing_needs xs {ys} sender owner places n o next_is room owner_is b u =
    let last : word (cell ys) C.last ≡ n = ap (λ (g : Gateway). g.core.ledger.last) b.gateway_is ∙ sym next_is in
    let count = b.state.sound.tables.ordered.counted.live_count in
    let orders = ap (λ (g : Gateway). length g.core.ledger.orders) b.gateway_is in (
      b.state,
      record {
        room = omega (arith, count, orders, room);
        above = λ j l. let m = u j l in omega (arith, m, last);
        at_most_last = omega (arith, last);
        owner_is = owner_is;
      },
    )

-- ---- the new order

batched : (n a : ℕ) (z : Side) (q : ℕ) (k : OrderKind) → Batched (command_of n a z q k)
batched n a z q (Kind.Limit p t d) = tt
batched n a z q Kind.Market = tt
batched n a z q (Kind.Stop t l) = tt

module _ (xs : List ℕ) (s a : ℕ) (q : NewOrder) (o : Live) (room : has_room a q (gateway (cell xs)) ≡ true) (w : Stands a q o) (l : a < owner_slots) where
  abbrev g : Gateway
  g = gateway (cell xs)

  pub can : Commands.can_number g ≡ true
  can = ((and-eq-true_iff (Commands.can_number g) (has_place a q g)).0 room).0

  abbrev few : Bool
  few = ltb (length g.core.ledger.orders) most_orders

  abbrev told : Bool
  told = leb (length (g.rest.notices ++ new_notice g.core.ledger.fee a q (wallet_at a g.core))) most_notices

  abbrev fine : Bool
  fine = fits_after (command (next g.core) (the_command a q g.core)) g.core

  place_room : (few ≡ true) × ((told && fine) ≡ true)
  place_room = (and-eq-true_iff few (told && fine)).0 ((and-eq-true_iff (Commands.can_number g) (has_place a q g)).0 room).1

  noticed : length (g.rest.notices ++ new_notice g.core.ledger.fee a q (wallet_at a g.core)) ≤ most_notices
  noticed = leb-true (length (g.rest.notices ++ new_notice g.core.ledger.fee a q (wallet_at a g.core))) most_notices ((and-eq-true_iff told fine).0 place_room.1).0

  pub number_fits : (m : ℕ) → m ≡ word (cell xs) C.last → m + 1 < modulus
  number_fits m e = omega (arith, e, (Numbering.room xs can).number)

  pub can_place : (m : ℕ) (k : Command) → m ≡ word (cell xs) C.last → k ≡ command_of (m + 1) a q.side q.qty q.kind → CanPlace (m + 1) o k g
  can_place m k e f =
      record {
        can = can;
        room = ltb-true (length g.core.ledger.orders) most_orders place_room.0;
        next_is = ap (λ i. i + 1) e;
        owner_is = rw (account_stands w) l;
        batched = subst Batched (sym f) (batched (m + 1) a q.side q.qty q.kind);
      }

  module _ {ys : List ℕ} (m fee h : ℕ) (k : Command) (m_is : m ≡ word (cell xs) C.last) (k_is : k ≡ command_of (m + 1) a q.side q.qty q.kind)
      (fee_is : fee ≡ word (cell xs) C.fee) (h_at : h ≡ hold_word fee o.side o.priced o.price o.leaves) (b : Becomes ys (in_book s (m + 1) o k g)) where
    fee_was : int fee ≡ int (word (cell ys) C.fee)
    fee_was = ap int fee_is ∙ sym (ap (λ (x : Gateway). x.core.ledger.fee) b.gateway_is)

    h_is : h ≡ hold_word (word (cell ys) C.fee) o.side o.priced o.price o.leaves
    unfolding hold_word
    h_is = h_at ∙ ap (λ f. wrap (hold f (side o.side) (maybe_price o.priced o.price) o.leaves)) fee_was

    notice_is : hold_notice o.account (int 0) (int h) (cell ys) ≡ new_notice g.core.ledger.fee a q (wallet_at a g.core)
    notice_is =
        ap (λ i. hold_notice i (int 0) (int h) (cell ys)) (account_stands w) ∙ sym (notice_stands w (cell ys) h l h_is)
        ∙ ap (λ (x : Gateway). new_notice x.core.ledger.fee a q (wallet_at a x.core)) b.gateway_is

    pub notice_needs : State ys × (o.account < owner_slots) × (length (hold_notice o.account (int 0) (int h) (cell ys)) + word (cell ys) C.notice_rows ≤ most_notices)
    notice_needs =
        let n = ap (λ (x : Gateway). length x.rest.notices) b.gateway_is in
        let t = listed_length (λ i. cell ys C.notices i C.notice_account) (word (cell ys) C.notice_rows) in
        let e = ap length notice_is in
        (b.state, rw (account_stands w) l, omega (arith, noticed, n, t, e, length-append g.rest.notices (new_notice g.core.ledger.fee a q (wallet_at a g.core))))

    book_is : with_notices (new_notice g.core.ledger.fee a q (wallet_at a g.core)) (in_book s (m + 1) o k g) ≡ placed s a q g
    unfolding step
    book_is = rw (k_is, m_is, w.is (word (cell xs) C.last + 1), account_stands w, plus_one (s + 1) s refl, owner_is (word (cell xs) C.last + 1) a q.side q.qty q.kind, order_is (word (cell xs) C.last + 1) a q.side q.qty q.kind) refl

    pub new_becomes : {zs : List ℕ} → Becomes zs (with_notices (hold_notice o.account (int 0) (int h) (cell ys)) (gateway (cell ys))) → Becomes zs (placed s a q g)
    new_becomes {zs} d =
        let e : Becomes zs (with_notices (new_notice g.core.ledger.fee a q (wallet_at a g.core)) (gateway (cell ys))) = subst (λ ns. Becomes zs (with_notices ns (gateway (cell ys)))) notice_is d in
        let f = then_becomes (with_notices (new_notice g.core.ledger.fee a q (wallet_at a g.core))) b e in
        record { state = f.state; gateway_is = f.gateway_is ∙ book_is }

module _ (xs : List ℕ) {ys : List ℕ} (s a : ℕ) (b : Bucket) (q : NewOrder) (t : ℕ) (d : Becomes ys (with_rest (after s a b t) (gateway (cell xs)))) where
  pub enter_needs : (o : Live) → s < session_slots → a < owner_slots → has_room a q (gateway (cell xs)) ≡ true → Stands a q o →
      State ys × (s < session_slots) × (a < owner_slots) × (has_room a q (gateway (cell ys)) ≡ true) × Stands a q o
  enter_needs o h l room w = (d.state, h, l, ap (has_room a q) d.gateway_is ∙ room, w)

  pub enter_becomes : {zs : List ℕ} → Becomes zs (placed s a q (gateway (cell ys))) → Becomes zs (placed s a q (with_rest (after s a b t) (gateway (cell xs))))
  enter_becomes e = then_becomes (placed s a q) d e

-- ---- the call

six : (f w n l t h : Bool) →
    first ((Unavailable, f) ∷ (Unavailable, w) ∷ (Unavailable, n) ∷ (Unavailable, l) ∷ (Unavailable, t) ∷ (Unavailable, h) ∷ []) ≡ first ((Unavailable, (f && (w && n)) && (l && (t && h))) ∷ [])
six true true true true true h = refl
six true true true true false h = refl
six true true true false t h = refl
six true true false l t h = refl
six true false n l t h = refl
six false w n l t h = refl

module _ (xs out : List ℕ) (s a : ℕ) (q : NewOrder) (time : ℕ) where
  abbrev now : Gateway
  now = gateway (cell xs)

  abbrev token : Taken
  token = taken a now.core (at_time time now.rest)

  abbrev left : Rest
  left = after s a token.bucket time now.rest

  abbrev all : Tests RejectCode
  all = (Throttled, token.passed) ∷ new_tests a q (the_command a q now.core) now.core left

  abbrev done : Plan
  done =
      records (record { client_ref = q.client_ref; session = Some s }) (command (next now.core) (the_command a q now.core)) []
      (queued (the_command a q now.core) (noticing (new_notice now.core.ledger.fee a q (wallet_at a now.core)) left))

  abbrev heard_plan : Plan
  heard_plan = hear s a (In.NewOrder q) now.core (heard s time now.rest)

  plan_is : heard_plan ≡ unless all (reject s q.client_ref left) done
  unfolding hear unless
  plan_is = refl

  -- the collar is as it was
  paper_same : (k : OrderKind) → option [] (paper_tests a q.side q.qty now.core left k) (wallet_at a now.core) ≡ option [] (paper_tests a q.side q.qty now.core now.rest k) (wallet_at a now.core)
  paper_same (Kind.Limit p t d) = refl
  paper_same Kind.Market = refl
  paper_same (Kind.Stop t l) = refl

  judged : first all ≡ first (new_order_tests a q token.passed now)
  judged =
      let ts = paper a q.side q.qty q.kind now in
      let us = Entry.can_number Unavailable now.core left ++ ((Unavailable, ltb (length now.core.ledger.orders) most_orders)
      ∷ (Unavailable, leb (length (now.rest.notices ++ new_notice now.core.ledger.fee a q (wallet_at a now.core))) most_notices)
      ∷ (Unavailable, fits_after (command (next now.core) (the_command a q now.core)) now.core)
      ∷ []) in
      ap (λ v. cond token.passed (cond (ltb (open_of a now.core.ledger.orders) (most_open (account_at a now.core))) v (Some TooManyOrders)) (Some Throttled))
      (ap (λ vs. first (vs ++ us)) (paper_same q.kind) ∙ sym (or_append ts us)
      ∙ ap (option_or (first ts))
      (six (ltb (length now.core.flights) most_in_flight) (ltb (length now.rest.batch) most_in_batch) (ltb (next now.core) modulus) (ltb (length now.core.ledger.orders) most_orders)
      (leb (length (now.rest.notices ++ new_notice now.core.ledger.fee a q (wallet_at a now.core))) most_notices) (fits_after (command (next now.core) (the_command a q now.core)) now.core))
      ∙ or_append ts ((Unavailable, has_room a q now) ∷ []))

  module _ (x : Taken) (v : Option RejectCode) (x_is : x ≡ token) (v_is : v ≡ first (new_order_tests a q x.passed now)) where
    same : first all ≡ v
    same = judged ∙ ap (λ (y : Taken). first (new_order_tests a q y.passed now)) (sym x_is) ∙ sym v_is

    -- every test passed, the last too
    pub new_passes : v ≡ None → has_room a q now ≡ true
    new_passes e =
        last_passed x.passed (ltb (open_of a now.core.ledger.orders) (most_open (account_at a now.core))) (first (paper a q.side q.qty q.kind now)) (has_room a q now)
        (ap (λ u. cond x.passed (cond (ltb (open_of a now.core.ledger.orders) (most_open (account_at a now.core))) u (Some TooManyOrders)) (Some Throttled))
        (or_append (paper a q.side q.qty q.kind now) ((Unavailable, has_room a q now) ∷ []))
        ∙ sym v_is ∙ e)
      where
        last_passed : (p f : Bool) (w : Option RejectCode) (b : Bool) →
            cond p (cond f (option_or w (first ((Unavailable, b) ∷ []))) (Some TooManyOrders)) (Some Throttled) ≡ None → b ≡ true
        last_passed p f w true h = refl
        last_passed true true None false h = absurd (let z : ◌≡◌ {A = ℕ} 0 1 = cc in omega (arith, z))
        last_passed true true (Some k) false h = absurd (let z : ◌≡◌ {A = ℕ} 0 1 = cc in omega (arith, z))
        last_passed true false w false h = absurd (let z : ◌≡◌ {A = ℕ} 0 1 = cc in omega (arith, z))
        last_passed false f w false h = absurd (let z : ◌≡◌ {A = ℕ} 0 1 = cc in omega (arith, z))

    module _ (o : Live) (w : Stands a q o) (h : Speaks s (Some a) xs) where
      pub new_refused : (ys end : List ℕ) (why : RejectCode) (r : Result ℕ Refusal) → v ≡ Some why → Does (reject s q.client_ref (after s a x.bucket time now.rest) why) r xs ys out end →
          Gives (call now (receive_from s (In.NewOrder q) time (places (length out)))) r xs ys out end
      new_refused ys end why r e d =
          gives xs out ys end s a (In.NewOrder q) time r h w.fits
          (subst (λ p. Does p r xs ys out end)
          (ap (λ (y : Taken). reject s q.client_ref (after s a y.bucket time now.rest) why) x_is ∙ sym (plan_is ∙ unless_failed all (reject s q.client_ref left) done why (same ∙ e))) d)

      pub new_done : {ys : List ℕ} → v ≡ None → Becomes ys (placed s a q (with_rest (after s a x.bucket time) now)) →
          Gives (call now (receive_from s (In.NewOrder q) time (places (length out)))) (Ok 0) xs ys out out
      new_done {ys} e d =
          gives xs out ys out s a (In.NewOrder q) time (Ok 0) h w.fits
          (subst (λ p. Does p (Ok 0) xs ys out out) (sym (plan_is ∙ unless_passed all (reject s q.client_ref left) done (same ∙ e)))
          (does_record xs out _ _ _ (subst (λ (y : Taken). Becomes ys (placed s a q (with_rest (after s a y.bucket time) now))) x_is d)))
