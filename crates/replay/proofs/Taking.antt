-- The command is taken, and the call. Assumes nothing.
use Rattle.std.specs.Prelude.{None}
use mathlib.Core.Path.{◌≡◌, refl, sym, ap, subst, ◌∙◌}
use mathlib.Core.Bool.{Bool, true, false, cond, not, ◌||◌, false≢true}
use mathlib.Core.List.{List, [], ◌∷◌, ◌++◌, append-nil}
use Prim.Native.Nat.{ℕ, ◌<◌}
use native.Mathlib.Omega.{arith}
use borrow.Author.Tests.{eq-eqb, ne_eqb, eqb-true, ltb-true}
use lib.Dec.{eqb, ltb}
use lib.ListN.{length}
use Rattle.orderbook.specs.declared.Command.{Command}
use Rattle.orderbook.specs.declared.Command.TheVariants.{Limit, Market, Cancel, Modify, Stop, CancelAll, SetPhase}
use Rattle.words.specs.Words.{modulus}
use Rattle.gateway.specs.Limits.{most_orders, most_in_flight, out_of_range, sequence, full, outside, inconsistent}
use Rattle.gateway.specs.Ledger.{Order, Ledger, with_orders, placed, step, command, owner_of, holds_fit}
use Rattle.gateway.specs.Ledger as Ledger
use Rattle.gateway.specs.Core.{Pass, system, core_step, owner_limit, places, owner_below}
use Rattle.gateway.specs.Core as Core
use Rattle.gateway.specs.Rest.{no_session}
use Rattle.gateway.specs.Entry.{Plan, nothing, refuse, records, next}
use Rattle.gateway.specs.Calls.{Gateway, call, plan, replay_command, replay_tests}
use Rattle.store.specs.Layout.{cell}
use Rattle.store.specs.View.{flag, gateway}
use Rattle.orders.specs.declared.Live.{Live}
use Rattle.orders.specs.Orders.{order_of}
use Rattle.sound.specs.Sound.{Becomes}
use Rattle.live.specs.Live as Live
use Rattle.live.specs.Live.{with_ledger, placing}
use Rattle.outcome.specs.declared.Refusal.{Refusal}
use Rattle.outcome.specs.Refusals.{refusal_code}
use Rattle.outcome.specs.Between.{Between}
use Rattle.outcome.specs.Answers.{Says, verdict}
use Rattle.outcome.proofs.Calls.{judged, coded, says_refused, says_recorded}
use Rattle.outcome.proofs.Laws.{then_becomes}
use Rattle.commands.specs.Commands.{flying, Unplaced}
use Rattle.orderentry.proofs.Placing.{placing_needs}
use Rattle.delivery.proofs.Calls.{passes}
use Rattle.replay.specs.declared.Terms.{Terms}
use Rattle.replay.specs.Replay.{Reads, tests, enter, command_tests, CanTake, taken}

-- ---- what was applied is the definitions' command

enter_is : (n : ℕ) (o : Live) (l : Ledger) (b : Bool) → cond b (placing n o l) l ≡ with_orders (l.orders ++ cond b (order_of n o ∷ []) []) l
enter_is n o l true = refl
enter_is n o l false = ap (λ (os : List Order). with_orders os l) (sym (append-nil l.orders))

module _ (n : ℕ) (k : Command) (t : Terms) (r : Reads n k t) (g : Gateway) where
  -- the ledger, with any last number
  entered : (m : ℕ) → enter n t (record { last = m; wallets = g.core.ledger.wallets; orders = g.core.ledger.orders; mark = g.core.ledger.mark; fee = g.core.ledger.fee })
      ≡ record { last = m; wallets = g.core.ledger.wallets; orders = g.core.ledger.orders ++ placed 0 n (owner_of k) (Ledger.order_of k); mark = g.core.ledger.mark; fee = g.core.ledger.fee }
  entered m =
      enter_is n t.order (record { last = m; wallets = g.core.ledger.wallets; orders = g.core.ledger.orders; mark = g.core.ledger.mark; fee = g.core.ledger.fee }) (flag t.places)
      ∙ ap (λ (os : List Order). record { last = m; wallets = g.core.ledger.wallets; orders = g.core.ledger.orders ++ os; mark = g.core.ledger.mark; fee = g.core.ledger.fee }) (sym r.order_is)

  pub taken_is : n ≡ next g.core → taken n t g ≡ record { core = core_step system (command n k) g.core; rest = g.rest }
  unfolding step
  taken_is e =
      (λ i.
      record {
        core =
            record {
              ledger = (entered (next g.core) ∙ ap (λ m. record { last = m; wallets = g.core.ledger.wallets; orders = g.core.ledger.orders ++ placed 0 n (owner_of k) (Ledger.order_of k); mark = g.core.ledger.mark; fee = g.core.ledger.fee }) (sym e)) i;
              flights = g.core.flights ++ (record { number = sym e i; session = None; owner = sym r.owner_is i; places = sym r.places_is i } ∷ []);
              accounts = g.core.accounts;
            };
        rest = g.rest;
      })

  -- ---- and its tests are theirs
  holds_are : holds_fit (enter n t g.core.ledger) ≡ Core.fits_after (command n k) g.core
  unfolding step holds_fit
  holds_are = ap holds_fit (entered g.core.ledger.last)

  tests_are : tests (command_tests n t g) ≡ replay_tests (command n k) g.core g.rest
  unfolding Core.tests
  tests_are i =
      (sequence, no_session g.rest.sessions)
      ∷ (sequence, eqb n (next g.core))
      ∷ (inconsistent, sym r.own_is i)
      ∷ (out_of_range, sym (r.below_is (owner_limit g.core)) i)
      ∷ (full, ltb (length g.core.flights) most_in_flight)
      ∷ (full, not (sym r.places_is i) || ltb (length g.core.ledger.orders) most_orders)
      ∷ (outside, holds_are i)
      ∷ []

-- an order is placed for an owner below the limit
placed_below : (m : ℕ) (k : Command) → places k ≡ true → owner_below m k ≡ true → owner_of k < m
unfolding Ledger.order_of owner_below owner_of
placed_below m (Limit i o z p q t d) e h = ltb-true o m h
placed_below m (Market i o z q) e h = ltb-true o m h
placed_below m (Stop i o z t l q) e h = ltb-true o m h
placed_below m (Cancel i o) e h = absurd (false≢true e)
placed_below m (Modify i o p q) e h = absurd (false≢true e)
placed_below m (CancelAll o) e h = absurd (false≢true e)
placed_below m (SetPhase p) e h = absurd (false≢true e)

-- ---- taken

module _ (xs : List ℕ) {ys : List ℕ} (n : ℕ) (t : Terms) (can : CanTake n t (gateway (cell xs))) (b : Becomes ys (flying 0 t.order.account t.places (gateway (cell xs)))) where
  module _ (ne : t.places ≡ 0 → ⊥) where
    is_order : flag t.places ≡ true
    is_order = ap not (ne_eqb t.places 0 ne)

    pub can_place : Unplaced ys → Live.CanPlace n t.order (cell ys)
    can_place u =
        (placing_needs xs 0 t.order.account t.places n t.order can.next_is
        (ltb-true (length (gateway (cell xs)).core.ledger.orders) most_orders
        (sym (ap (λ (f : Bool). not f || ltb (length (gateway (cell xs)).core.ledger.orders) most_orders) is_order) ∙ can.room)) (can.owner_is is_order) b u).1

    pub taken_order : {zs : List ℕ} → Becomes zs (with_ledger (placing n t.order) (gateway (cell ys))) → Becomes zs (taken n t (gateway (cell xs)))
    taken_order {zs} d =
        subst (λ (f : Bool). Becomes zs (with_ledger (λ l. cond f (placing n t.order l) l) (flying 0 t.order.account t.places (gateway (cell xs))))) (sym is_order)
        (then_becomes (with_ledger (placing n t.order)) b d)

  pub taken_plain : t.places ≡ 0 → Becomes ys (taken n t (gateway (cell xs)))
  taken_plain e =
      subst (λ (f : Bool). Becomes ys (with_ledger (λ l. cond (not f) (placing n t.order l) l) (flying 0 t.order.account t.places (gateway (cell xs))))) (sym (eq-eqb t.places 0 e)) b

-- ---- the call

module _ (xs : List ℕ) (b : Between xs) (n : ℕ) (l : n < modulus) (k : Command) (t : Terms) (r : Reads n k t) where
  abbrev g : Gateway
  g = gateway (cell xs)

  abbrev after : Plan
  after = records system (command n k) [] g.rest

  plan_is : (v : ℕ) → v ≡ verdict (tests (command_tests n t (gateway (cell xs)))) → plan g.core g.rest (replay_command n k) ≡ cond (eqb v 0) after (refuse v)
  unfolding plan Core.tests
  plan_is v v_is =
      judged (replay_tests (command n k) g.core g.rest) after refl
      ∙ ap (λ (w : ℕ). cond (eqb w 0) after (refuse w)) (sym (v_is ∙ ap verdict (tests_are n k t r g)))

  pub not_taken : (why : Refusal) → refusal_code why ≡ verdict (tests (command_tests n t (gateway (cell xs)))) → Says nothing (call (gateway (cell xs)) (replay_command n k)) (refusal_code why) xs xs
  not_taken why e =
      says_refused xs (replay_command n k) (l, r.fits) b nothing (refusal_code why)
      (plan_is (refusal_code why) e ∙ ap (λ (f : Bool). cond f after (refuse (refusal_code why))) (coded why))

  module _ (z : 0 ≡ verdict (tests (command_tests n t (gateway (cell xs))))) where
    passed : Pass (tests (command_tests n t g))
    passed = passes (tests (command_tests n t g)) refl z

    number_is : n ≡ next g.core
    number_is = eqb-true n (next g.core) passed.1.0

    pub can_take : CanTake n t (gateway (cell xs))
    can_take =
        record {
          flies = record { flight = ltb-true (length g.core.flights) most_in_flight passed.1.1.1.1.0; number = omega (arith, l, number_is) };
          next_is = number_is;
          room = passed.1.1.1.1.1.0;
          owner_is =
              λ f.
              let h = placed_below (owner_limit g.core) k (r.places_is ∙ f) (r.below_is (owner_limit g.core) ∙ passed.1.1.1.0) in
              omega (arith, h, r.owner_is, b.ok.core_is.limit);
        }

    pub taken_done : {ys : List ℕ} → Becomes ys (taken n t (gateway (cell xs))) → Says nothing (call (gateway (cell xs)) (replay_command n k)) 0 xs ys
    taken_done {ys} d =
        says_recorded xs (replay_command n k) (l, r.fits) b system (command n k) g.rest (plan_is 0 z)
        (subst (Becomes ys) (taken_is n k t r g number_is) d)

pub ruleset taking = (can_place, taken_order, taken_plain, not_taken, can_take, taken_done, arith)
