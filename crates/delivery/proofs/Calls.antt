-- The call, for any event: from its tests' verdict, what was applied and what was sent. Assumes nothing.
use Rattle.std.specs.Prelude.{Ok, Err}
use mathlib.Core.Path.{◌≡◌, refl, sym, ap, ◌∙◌}
use mathlib.Core.Bool.{Bool, true, false, cond, not, ◌&&◌, and-eq-true_iff, false≢true}
use mathlib.Core.List.{List, [], ◌∷◌, ◌++◌}
use Prim.Native.Nat.{ℕ, ◌+◌, ◌≤◌}
use native.Mathlib.Omega.{arith}
use borrow.Author.Tests.{eq-eqb, le-leb, leb-true}
use lib.ListN.{length, length-append}
use lib.Dec.{eqb, leb}
use Rattle.orderbook.specs.declared.Event.{Event}
use Rattle.gateway.specs.Limits.{too_short, most_trades, most_notices}
use Rattle.gateway.specs.Ledger.{event}
use Rattle.gateway.specs.Core.{Tests, Pass, Core, system, core_step}
use Rattle.gateway.specs.Rest.{Mail, Rest, stamped}
use Rattle.gateway.specs.Entry.{Plan, refuse, unless}
use Rattle.gateway.specs.Deliver.{deliver, deliver_tests, reports, rest_after}
use Rattle.gateway.specs.Calls.{Gateway, Call, call, plan, within, deliver_event}
use Rattle.gateway.specs.Fits.{EventFits}
use Rattle.gateway.specs.Invariant.{GatewayOk}
use Rattle.store.specs.Layout.{cell}
use Rattle.store.specs.View.{gateway}
use Rattle.sound.specs.Sound.{Becomes}
use Rattle.mailbox.specs.Mailbox.{places, mailed}
use Rattle.outcome.specs.declared.Refusal.{Refusal}
use Rattle.outcome.specs.Refusals.{refusal_code}
use Rattle.outcome.specs.Between.{Between}
use Rattle.outcome.specs.Answers.{verdict, Gives, Unsent, Sent}
use Rattle.outcome.specs.Parts.{with_rest, rest_of, Sends}
use Rattle.outcome.proofs.Calls.{codes, judged, coded, refuses, recorded}
use Rattle.outcome.proofs.Laws.{then_becomes}
use Rattle.delivery.specs.declared.Tests as T
use Rattle.delivery.specs.Delivery.{tests, call_tests, Judges, after}

-- ---- the verdict

pub same_test : (b c : Bool) (k v w : ℕ) → b ≡ c → (b ≡ true → v ≡ w) → cond b v k ≡ cond c w k
same_test b true k v w e h = ap (λ x. cond x v k) e ∙ h e
same_test b false k v w e h = ap (λ x. cond x v k) e

-- the code's tests decide as the definitions' do
pub judged_is : (n : ℕ) (e : Event) (room : ℕ) (g : Gateway) (t : T.Tests) → Judges n e room g t → verdict (tests t) ≡ verdict (call_tests n e room g)
judged_is n e room g t j =
    same_test _ _ 4 _ _ j.flying_is
    (λ f.
    let fly = sym j.flying_is ∙ f in
    same_test _ _ 1 _ _ j.below_is
    (λ _.
    same_test _ _ 8 _ _ (j.numbers_is fly)
    (λ m.
    same_test _ _ 8 _ _ j.agrees_is
    (λ a.
    same_test _ _ 7 _ _ (j.holds_is m)
    (λ _.
    same_test _ _ 7 _ _ (j.levels_is a)
    (λ _. same_test _ _ 5 _ _ (j.depth_is m) (λ _. same_test _ _ 5 _ _ j.trades_is (λ _. same_test _ _ 5 _ _ (j.notices_is m) (λ _. same_test _ _ 6 _ _ (j.room_is fly) (λ _. refl))))))))))

-- a verdict of 0: every test passed
pub passes : (ts : Tests ℕ) → codes ts ≡ true → 0 ≡ verdict ts → Pass ts
passes [] e h = tt
passes ((k, true) ∷ ts) e h = (refl, passes ts ((and-eq-true_iff (not (eqb k 0)) (codes ts)).0 e).1 h)
passes ((k, false) ∷ ts) e h = absurd (false≢true (sym (ap (λ b. not b && codes ts) (eq-eqb k 0 (sym h))) ∙ e))

pub all_pass : (t : T.Tests) → 0 ≡ verdict (tests t) → Pass (tests t)
all_pass t z = passes (tests t) refl z

-- there is room for its rows
pub told_room : (t : T.Tests) (rows p room : ℕ) → 0 ≡ verdict (tests t) → t.room ≡ leb rows p → p ≡ room → 0 + rows ≤ room
told_room t rows p room z r p_is = omega (arith, leb-true rows p (sym r ∙ (all_pass t z).1.1.1.1.1.1.1.1.1.0), p_is)

-- an event that adds no trade, or no notice
pub trades_few : (g : Gateway) → GatewayOk g → true ≡ leb (length (g.rest.trades ++ [])) most_trades
trades_few g ok = sym (le-leb (length (g.rest.trades ++ [])) most_trades (omega (arith, length-append g.rest.trades [], ok.rest_is.feed.few_trades)))

pub notices_stay : (g : Gateway) → GatewayOk g → true ≡ leb (length (g.rest.notices ++ [])) most_notices
notices_stay g ok = sym (le-leb (length (g.rest.notices ++ [])) most_notices (omega (arith, length-append g.rest.notices [], ok.rest_is.feed.few_notices)))

-- ---- the call

unless_more : (ts us : Tests ℕ) (p : Plan) → unless (ts ++ us) refuse p ≡ unless ts refuse (unless us refuse p)
unfolding unless
unless_more [] us p = refl
unless_more ((k, true) ∷ ts) us p = unless_more ts us p
unless_more ((k, false) ∷ ts) us p = refl

module _ (xs out : List ℕ) (n : ℕ) (e : Event) (f : EventFits e) (b : Between xs) where
  abbrev c : Core
  c = (gateway (cell xs)).core

  abbrev r : Rest
  r = rest_of xs

  abbrev it : Call
  it = deliver_event n e (places (length out))

  abbrev judged_by : Tests ℕ
  judged_by = call_tests n e (places (length out)) (gateway (cell xs))

  plan_is : (v : ℕ) → v ≡ verdict judged_by → plan c r it ≡ cond (eqb v 0) (deliver n e c r) (refuse v)
  unfolding plan within
  plan_is v v_is =
      sym (unless_more (deliver_tests n e c r) ((too_short, leb (length (reports n e c r)) (places (length out))) ∷ []) (deliver n e c r))
      ∙ judged judged_by (deliver n e c r) refl
      ∙ ap (λ (k : ℕ). cond (eqb k 0) (deliver n e c r) (refuse k)) (sym v_is)

  pub deliver_refused : (why : Refusal) → refusal_code why ≡ verdict judged_by → Gives (call (gateway (cell xs)) it) (Err why) xs xs out out
  deliver_refused why h =
      refuses xs it f b (Unsent 0 out out) (λ a ms. Sent a ms 0 out out) (refusal_code why)
      (plan_is (refusal_code why) h ∙ ap (λ (t : Bool). cond t (deliver n e c r) (refuse (refusal_code why))) (coded why)) (refl, refl)

  pub deliver_done : {ys zs end : List ℕ} → 0 ≡ verdict judged_by → (ms : List Mail) → ms ≡ reports n e c r → (k : ℕ) → k ≡ length ms → Becomes ys (after n e (gateway (cell xs))) → Sends 0 ms (λ q. q) ys zs out end →
      Gives (call (gateway (cell xs)) it) (Ok k) xs zs out end
  deliver_done {ys} {zs} {end} z ms ms_are k count d s =
      let t = then_becomes (with_rest (stamped ms)) d s.becomes in
      recorded xs it f b (Unsent k out end) (λ a ns. Sent a ns k out end) system (event n e) (reports n e c r) (rest_after n e c r) (plan_is 0 z)
      (record { state = t.state; gateway_is = t.gateway_is ∙ ap (λ (l : List Mail). record { core = core_step system (event n e) c; rest = stamped l (rest_after n e c r) }) ms_are })
      (record { no_answer = refl; count_is = count ∙ ap length ms_are; posted = s.posted ∙ ap (λ l. mailed 0 l out) ms_are })
