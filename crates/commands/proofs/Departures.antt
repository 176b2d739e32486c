-- A connection is gone: `detach` and `disconnect`. Assumes nothing.
use Rattle.std.specs.Prelude.{Option, Some, None}
use mathlib.Core.Path.{◌≡◌, refl, sym, ap, ◌∙◌}
use mathlib.Core.Bool.{Bool, true, false, cond, ◌&&◌}
use mathlib.Core.Logic.{⊎_elim}
use mathlib.Core.List.{List, [], ◌∷◌}
use Prim.Native.Nat.{ℕ, ◌^◌, ◌≤◌, ◌<◌}
use native.Mathlib.Omega.{arith}
use lib.ListN.{length, get_or-eq_default}
use lib.Seq.{set_out}
use lib.Dec.{ltb}
use Rattle.orderbook.specs.declared.Command.TheVariants.{CancelAll}
use Rattle.le.proofs.Laws.{lt_or_le}
use Rattle.words.specs.Words.{modulus}
use Rattle.gateway.specs.Limits.{owner_slots, session_slots, most_in_flight, most_in_batch, full}
use Rattle.gateway.specs.Ledger.{order_of, owner_of}
use Rattle.gateway.specs.Rest.{with_sessions, session_at, account_of}
use Rattle.gateway.specs.Entry.{Plan, nothing, account_was, unless, refuse, next}
use Rattle.gateway.specs.Entry as Entry
use Rattle.gateway.specs.Calls.{Gateway, call, plan, detach, disconnect, without_session, gone}
use Rattle.store.specs.Cells as C
use Rattle.store.specs.Layout.{cell}
use Rattle.store.specs.View.{session, gateway, Is}
use Rattle.store.proofs.Listed.{listed_at}
use Rattle.clients.specs.Clients as Clients
use Rattle.clients.proofs.Views.{forget_view}
use Rattle.sound.specs.Sound.{State, Becomes}
use Rattle.sound.proofs.Kept.{becomes}
use Rattle.sound.proofs.Clients.{forget_sound}
use Rattle.outcome.specs.Between.{Between}
use Rattle.outcome.specs.Parts.{with_rest, rest_of}
use Rattle.outcome.specs.Answers.{Says}
use Rattle.outcome.proofs.Laws.{then_becomes}
use Rattle.outcome.proofs.Calls.{says_refused, says_done, says_recorded}
use Rattle.outcome.proofs.Walk.{slots}
use Rattle.commands.specs.Commands.{can_number, Plain, numbered}

-- ---- it is an account's number

pub account_small : (xs : List ℕ) (s a : ℕ) → State xs → account_of (session_at s (rest_of xs)) ≡ Some a → a < owner_slots
account_small xs s a st e =
    ⊎_elim
    (λ (h : s < session_slots).
    let g : account_of (session (cell xs C.sessions s)) ≡ Some a = ap account_of (sym (listed_at (λ i. session (cell xs C.sessions i)) session_slots s None h)) ∙ e in
    (st.sound.clients.linked.forth s a h g).0)
    (λ h.
    let n : session_at s (rest_of xs) ≡ None = get_or-eq_default (rest_of xs).sessions None {n = s} (rw (slots xs) h) in
    let z : ◌≡◌ {A = ℕ} 0 1 = cc in
    absurd (omega arith))
    (lt_or_le s session_slots)

pub account_cast : (xs : List ℕ) (s a : ℕ) → State xs → account_of (session_at s (rest_of xs)) ≡ Some a → a < 2 ^ 32
account_cast xs s a st e = omega (arith, account_small xs s a st e)

-- ---- the session is forgotten

pub forget_there : {xs ys : List ℕ} (s : ℕ) → State xs → s < session_slots → Is ys (Clients.forget s (cell xs)) → Becomes ys (with_rest (without_session s) (gateway (cell xs)))
forget_there {xs} s st l h = becomes h (forget_sound (cell xs) st.sound s l) (forget_view s (cell xs) l)

pub forget_past : {xs : List ℕ} (s : ℕ) → State xs → session_slots ≤ s → Becomes xs (with_rest (without_session s) (gateway (cell xs)))
forget_past {xs} s st l =
    record {
      state = st;
      gateway_is = sym (ap (λ ys. with_rest (with_sessions ys) (gateway (cell xs))) (set_out (rest_of xs).sessions s None (rw (slots xs) l)));
    }

-- ---- the calls

pub detach_done : (xs : List ℕ) {ys : List ℕ} (s : ℕ) (r : Option ℕ) → Between xs → r ≡ account_of (session_at s (rest_of xs)) → Becomes ys (with_rest (without_session s) (gateway (cell xs))) →
    Says (account_was r) (call (gateway (cell xs)) (detach s)) 0 xs ys
unfolding plan
detach_done xs s r b e d = says_done xs (detach s) tt b (account_was r) (without_session s (rest_of xs)) (rw (← e) refl) d

module _ (xs : List ℕ) (s : ℕ) (b : Between xs) (o : Option ℕ) (e : o ≡ account_of (session_at s (rest_of xs))) where
  pub gone_quietly : {ys : List ℕ} → o ≡ None → Becomes ys (with_rest (without_session s) (gateway (cell xs))) → Says nothing (call (gateway (cell xs)) (disconnect s)) 0 xs ys
  unfolding plan
  gone_quietly z d = says_done xs (disconnect s) tt b nothing (without_session s (rest_of xs)) (rw (← e, z) refl) d

  -- three tests of one code
  three_tests : (x y z : Bool) (p : Plan) → unless ((full, x) ∷ (full, y) ∷ (full, z) ∷ []) refuse p ≡ cond (x && (y && z)) p (refuse full)
  unfolding unless
  three_tests true true true p = refl
  three_tests true true false p = refl
  three_tests true false z p = refl
  three_tests false y z p = refl

  abbrev g : Gateway
  g = gateway (cell xs)

  module _ (a : ℕ) (n : o ≡ Some a) where
    abbrev after : Plan
    after = Entry.numbered None (CancelAll a) g.core (without_session s (rest_of xs))

    plan_is : (c : Bool) → c ≡ can_number g → plan g.core g.rest (disconnect s) ≡ cond c after (refuse full)
    unfolding plan
    plan_is c h =
        ap (λ o. gone o g.core (without_session s (rest_of xs))) (sym e ∙ n)
        ∙ three_tests (ltb (length g.core.flights) most_in_flight) (ltb (length g.rest.batch) most_in_batch) (ltb (next g.core) modulus) after
        ∙ ap (λ d. cond d after (refuse full)) (sym h)

    pub gone_full : (c : Bool) → c ≡ can_number g → c ≡ false → Says nothing (call g (disconnect s)) 5 xs xs
    gone_full c h f = says_refused xs (disconnect s) tt b nothing 5 (plan_is c h ∙ ap (λ d. cond d after (refuse full)) f)

    -- the session gone, a command can still be numbered
    pub push_needs : {ys : List ℕ} (c : Bool) → c ≡ can_number g → c ≡ true → Becomes ys (with_rest (without_session s) g) → State ys × (can_number (gateway (cell ys)) ≡ true) × Plain a (CancelAll a)
    unfolding order_of owner_of
    push_needs c h f d =
        (d.state, ap can_number d.gateway_is ∙ sym h ∙ f, record { batched = tt; owner_is = refl; places_nothing = refl })

    pub gone_loudly : {ys zs : List ℕ} (c : Bool) → c ≡ can_number g → c ≡ true → Becomes ys (with_rest (without_session s) g) → Becomes zs (numbered 0 (CancelAll a) (gateway (cell ys))) →
        Says nothing (call g (disconnect s)) 0 xs zs
    gone_loudly c h f d q =
        says_recorded xs (disconnect s) tt b _ _ _ (plan_is c h ∙ ap (λ t. cond t after (refuse full)) f)
        (then_becomes (numbered 0 (CancelAll a)) d q)

pub ruleset departures = (forget_there, forget_past, detach_done, gone_quietly, gone_full, gone_loudly, arith)
