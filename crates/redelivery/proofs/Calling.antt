-- The call, for any event: from its tests' verdict and what was applied. Assumes nothing.
use mathlib.Core.Path.{◌≡◌, refl, sym, ap, subst, ◌∙◌}
use mathlib.Core.Bool.{Bool, true, cond}
use mathlib.Core.List.{List, []}
use Prim.Native.Nat.{ℕ}
use native.Mathlib.Omega.{arith}
use lib.Dec.{eqb}
use Rattle.orderbook.specs.declared.Event.{Event}
use Rattle.gateway.specs.Ledger.{step, event}
use Rattle.gateway.specs.Core as Core
use Rattle.gateway.specs.Core.{system, core_step, owner_limit, in_flight, drop_below, first_places, names_below, numbers_agree, fits_after}
use Rattle.gateway.specs.Rest.{no_session, with_delivered}
use Rattle.gateway.specs.Entry.{Plan, nothing, refuse, records}
use Rattle.gateway.specs.Fits.{EventFits}
use Rattle.gateway.specs.Calls.{Gateway, call, plan, replay_event, replay_tests}
use Rattle.store.specs.Layout.{cell}
use Rattle.store.specs.View.{gateway}
use Rattle.sound.specs.Sound.{Becomes}
use Rattle.outcome.specs.declared.Refusal.{Refusal}
use Rattle.outcome.specs.Refusals.{refusal_code}
use Rattle.outcome.specs.Between.{Between}
use Rattle.outcome.specs.Answers.{Says, verdict}
use Rattle.outcome.specs.Parts.{rest_of}
use Rattle.outcome.proofs.Calls.{judged, coded, says_refused, says_recorded}
use Rattle.delivery.specs.Delivery.{landed}
use Rattle.delivery.specs.Delivery as Delivery
use Rattle.delivery.proofs.Calls.{same_test, passes}
use Rattle.redelivery.specs.Redelivery.{tests, Still}

-- ---- the judge

pub judge_is : (xs : List ℕ) (n : ℕ) (below numbers holds alone flying : Bool) (v : ℕ) → alone ≡ no_session (rest_of xs).sessions → flying ≡ in_flight n (gateway (cell xs)).core → alone ≡ true →
    v ≡ verdict (Delivery.tests (record { flying = flying; below = below; numbers = numbers; agrees = true; holds = holds; levels = true; depth = true; trades = true; notices = true; room = true })) →
    v ≡ verdict (tests n below numbers holds (gateway (cell xs)))
judge_is xs n below numbers holds alone flying v a_is f_is a e = e ∙ rw (sym a_is ∙ a, f_is) refl

-- each answer is that of the definitions' test, where those before it passed
pub record Judges (n : ℕ) (e : Event) (below numbers holds : Bool) (g : Gateway) : Type 0 where
  pub below_is : below ≡ names_below (owner_limit g.core) e
  pub numbers_is : in_flight n g.core ≡ true → numbers ≡ numbers_agree n (first_places (drop_below n g.core.flights)) e
  pub holds_is : numbers ≡ true → holds ≡ fits_after (event n e) g.core

judged_is : (n : ℕ) (e : Event) (below numbers holds : Bool) (g : Gateway) → Judges n e below numbers holds g → verdict (tests n below numbers holds g) ≡ verdict (replay_tests (event n e) g.core g.rest)
unfolding Core.tests
judged_is n e below numbers holds g j =
    same_test (no_session g.rest.sessions) (no_session g.rest.sessions) 4 _ _ refl
    (λ _.
    same_test (in_flight n g.core) (in_flight n g.core) 4 _ _ refl
    (λ f. same_test _ _ 1 _ _ j.below_is (λ _. same_test _ _ 8 _ _ (j.numbers_is f) (λ m. same_test _ _ 7 _ _ (j.holds_is m) (λ _. refl)))))

-- ---- the call

module _ (xs : List ℕ) (b : Between xs) (n : ℕ) (below numbers holds : Bool) where
  abbrev g : Gateway
  g = gateway (cell xs)

  module _ (z : 0 ≡ verdict (tests n below numbers holds (gateway (cell xs)))) where
    pub flying : in_flight n (gateway (cell xs)).core ≡ true
    flying = (passes (tests n below numbers holds g) refl z).1.0

    pub numbered : numbers ≡ true
    numbered = (passes (tests n below numbers holds g) refl z).1.1.1.0

  module _ (e : Event) (f : EventFits e) (j : Judges n e below numbers holds (gateway (cell xs))) where
    abbrev after : Plan
    after = records system (event n e) [] (with_delivered n g.rest)

    plan_is : (v : ℕ) → v ≡ verdict (tests n below numbers holds (gateway (cell xs))) → plan g.core g.rest (replay_event n e) ≡ cond (eqb v 0) after (refuse v)
    unfolding plan Core.tests
    plan_is v v_is =
        judged (replay_tests (event n e) g.core g.rest) after refl
        ∙ ap (λ (w : ℕ). cond (eqb w 0) after (refuse w)) (sym (v_is ∙ judged_is n e below numbers holds g j))

    pub event_refused : (why : Refusal) → refusal_code why ≡ verdict (tests n below numbers holds (gateway (cell xs))) → Says nothing (call (gateway (cell xs)) (replay_event n e)) (refusal_code why) xs xs
    event_refused why h =
        says_refused xs (replay_event n e) f b nothing (refusal_code why)
        (plan_is (refusal_code why) h ∙ ap (λ (t : Bool). cond t after (refuse (refusal_code why))) (coded why))

    pub event_done : {ys : List ℕ} (h : Gateway) → 0 ≡ verdict (tests n below numbers holds (gateway (cell xs))) → h ≡ record { core = core_step system (event n e) g.core; rest = with_delivered n g.rest } → Becomes ys h → Says nothing (call (gateway (cell xs)) (replay_event n e)) 0 xs ys
    event_done {ys} h z h_is d =
        says_recorded xs (replay_event n e) f b system (event n e) (with_delivered n g.rest) (plan_is 0 z) (subst (Becomes ys) h_is d)

-- ---- no order changes

module _ (xs : List ℕ) (b : Between xs) (n : ℕ) (below numbers : Bool) where
  pub still_flying : 0 ≡ verdict (tests n below numbers true (gateway (cell xs))) → in_flight n (gateway (cell xs)).core ≡ true
  still_flying = flying xs b n below numbers true

  module _ (e : Event) (s : Still n below numbers e (gateway (cell xs))) where
    still_judges : Judges n e below numbers true (gateway (cell xs))
    unfolding step
    still_judges = record { below_is = s.below_is; numbers_is = s.numbers_is; holds_is = λ _. rw s.none_changes (sym b.ok.core_is.holds) }

    pub still_refused : (why : Refusal) → refusal_code why ≡ verdict (tests n below numbers true (gateway (cell xs))) → Says nothing (call (gateway (cell xs)) (replay_event n e)) (refusal_code why) xs xs
    still_refused = event_refused xs b n below numbers true e s.fits still_judges

    still_after : landed n (gateway (cell xs)) ≡ record { core = core_step system (event n e) (gateway (cell xs)).core; rest = with_delivered n (gateway (cell xs)).rest }
    unfolding step
    still_after = rw s.none_changes refl

    pub still_done : {ys : List ℕ} → 0 ≡ verdict (tests n below numbers true (gateway (cell xs))) → Becomes ys (landed n (gateway (cell xs))) → Says nothing (call (gateway (cell xs)) (replay_event n e)) 0 xs ys
    still_done z d = event_done xs b n below numbers true e s.fits still_judges (landed n (gateway (cell xs))) z still_after d

pub ruleset calling = (judge_is, still_flying, still_refused, still_done, arith)
