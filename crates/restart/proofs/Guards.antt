-- What no silly gateway does (`Settled`, `RoomServes` of specs/Claims.antt), from the contracts and what gateway/proofs/Settled.antt and Roomy.antt prove of the
-- definitions. Assumes nothing.
use Prim.Native.Nat.{ℕ}
use mathlib.Core.Path.{◌≡◌, refl, sym, ap, subst, ◌∙◌}
use mathlib.Core.Bool.{Bool, true, false, cond}
use mathlib.Core.Logic.{◌⊎◌, inl, inr, ⊎_elim}
use mathlib.Core.List.{List, [], ◌∷◌}
use native.Mathlib.Omega.{arith}
use lib.Dec.{leb}
use lib.IntN.{ℤ}
use lib.ListN.{length}
use Rattle.orderbook.specs.declared.Side.{Side}
use Rattle.orderbook.specs.declared.Event.{Event}
use Rattle.orderbook.specs.declared.Event.TheVariants.{Trade}
use Rattle.gateway.specs.Limits.{full, too_short, not_quiet, malformed}
use Rattle.gateway.specs.Ledger.{event}
use Rattle.gateway.specs.Core.{Pass, Core, system, core_step, tests}
use Rattle.gateway.specs.Rest.{Mail, Rest, with_delivered}
use Rattle.gateway.specs.Entry.{Answer, Plan, refuse, quiet, records}
use Rattle.gateway.specs.Deliver.{deliver, deliver_tests, reports, rest_after}
use Rattle.gateway.specs.Calls.{Gateway, Call, deliver_event, replay_event, replay_tests, Outcome, refused, done, within, plan, carry_out, call}
use Rattle.gateway.proofs.Calls.{Good}
use Rattle.gateway.proofs.Restart.{good}
use Rattle.gateway.specs.Claims.{Settles, Roomy}
use Rattle.gateway.proofs.Settled.{accepted_settles}
use Rattle.gateway.proofs.Roomy.{never_full}
use Rattle.store.specs.Layout.{cell}
use Rattle.store.specs.View.{ledger, gateway}
use Rattle.outcome.specs.Between.{Between}
use Rattle.outcome.specs.Answers.{Ends}
use Rattle.edge.specs.Entering.{whole, asked}
use Rattle.restart.specs.Chain.{Asking, Made}
use Rattle.restart.specs.Claims.{Settled, RoomServes}
use Rattle.restart.proofs.Chains.{Ended, heard_step}
use Rattle.restart.proofs.Plans.{unless_either}

-- ---- a trade

-- what is recorded was tested
Records : Core → ℕ → Event → Plan → Type 0
Records c n e p = ((k : ℕ) × (p ≡ refuse k) × (k ≡ 0 → ⊥)) ⊎ ((ms : List Mail) × (r : Rest) × (p ≡ records system (event n e) ms r))

deliver_records : (c : Core) (r : Rest) (n : ℕ) (e : Event) (room : ℕ) → Records c n e (plan c r (deliver_event n e room))
unfolding Records plan within
deliver_records c r n e room =
    ⊎_elim (λ h. inl h)
    (λ h. ⊎_elim (λ g. inl (g.0, h ∙ g.1, g.2)) (λ g. inr (reports n e c r, rest_after n e c r, h ∙ g)) (unless_either ((too_short, leb (length (reports n e c r)) room) ∷ []) (deliver n e c r) refl))
    (unless_either (deliver_tests n e c r) (within room (deliver n e c r)) refl)

replay_records : (c : Core) (r : Rest) (n : ℕ) (e : Event) → Records c n e (plan c r (replay_event n e))
unfolding Records plan tests
replay_records c r n e =
    ⊎_elim (λ h. inl h) (λ h. inr ([], with_delivered n r, h)) (unless_either (replay_tests (event n e) c r) (records system (event n e) [] (with_delivered n r)) refl)

module _ (xs : List ℕ) (b : Between xs) (n t taker maker : ℕ) (s : Side) (p : ℤ) (q tl ml : ℕ) where
  abbrev trade : Event
  trade = Trade t taker maker s p q tl ml

  abbrev g : Gateway
  g = gateway (cell xs)

  abbrev asking : Call → Asking
  asking x = record { formed = true; for = x }

  -- of a call whose plan is a refusal or the trade
  accepted : (x : Call) (m : Made (asking x) xs) → Records g.core n trade (plan g.core g.rest x) → m.code ≡ 0 → Settles (ledger (cell xs)) (ledger (cell m.left)) taker maker p q tl ml
  unfolding Ends Records
  accepted x m (inl (k, e, z)) c =
      let f : Ended (refused k) m.code xs m.left = subst (λ o. Ended (carry_out g.core o) m.code xs m.left) e (heard_step xs b.state.holds x m.code m.left m.enters.ends) in
      absurd (z (sym f.code_is ∙ c))
  accepted x m (inr (ms, r, e)) c =
      let f = subst (λ o. Ended (carry_out g.core o) m.code xs m.left) e (heard_step xs b.state.holds x m.code m.left m.enters.ends) in
      let pass : Pass (tests (event n trade) g.core) = (subst (Good ⊥ g.core) e (good g x b.ok)).0 in
      subst (λ (k : Gateway). Settles (ledger (cell xs)) k.core.ledger taker maker p q tl ml) (sym f.becomes.gateway_is)
      (accepted_settles system n t taker maker s p q tl ml g.core b.ok.core_is pass)

pub settled : Settled
settled =
    record {
      delivered = λ xs b n t taker maker s p q tl ml room m c.
          let g = gateway (cell xs) in
          accepted xs b n t taker maker s p q tl ml (deliver_event n (Trade t taker maker s p q tl ml) room) m (deliver_records g.core g.rest n (Trade t taker maker s p q tl ml) room) c;
      replayed = λ xs b n t taker maker s p q tl ml m c.
          let g = gateway (cell xs) in
          accepted xs b n t taker maker s p q tl ml (replay_event n (Trade t taker maker s p q tl ml)) m (replay_records g.core g.rest n (Trade t taker maker s p q tl ml)) c;
    }

-- ---- room

module _ (xs : List ℕ) (x : Asking) (m : Made x xs) (room : Roomy (gateway (cell xs)).core (gateway (cell xs)).rest) where
  abbrev h : Gateway
  h = gateway (cell xs)

  -- a code that is not 0 is the plan's refusal
  refusal : (k : ℕ) (p : Plan) → (k ≡ 0 → ⊥) → Ended (carry_out h.core p) k xs m.left → p ≡ refuse k
  unfolding Ends
  refusal k (refuse j) z e = ap refuse (sym e.code_is)
  refusal k (quiet a ms r) z e = absurd (z e.code_is)
  refusal k (records from i ms r) z e = absurd (z e.code_is)

  -- and where the call is not heard, it is 11
  never : (k : ℕ) → (k ≡ 0 → ⊥) → (k ≡ malformed → ⊥) → (plan h.core h.rest x.for ≡ refuse k → ⊥) → m.code ≡ k → ⊥
  unfolding Ends asked
  never k z y f e = go (whole x.formed xs) m.enters.ends
    where
      go : (w : Bool) → Ended (cond w (call h x.for) (refused malformed)) m.code xs m.left → ⊥
      go true d = f (refusal k (plan h.core h.rest x.for) z (subst (λ j. Ended (call h x.for) j xs m.left) e d))
      go false d = y (sym e ∙ d.code_is)

pub room_serves : RoomServes
room_serves xs x m room =
    let h = gateway (cell xs) in (
      never xs x m room full (λ e. omega (arith, e)) (λ e. omega (arith, e)) (never_full h.core h.rest x.for room).0,
      never xs x m room not_quiet (λ e. omega (arith, e)) (λ e. omega (arith, e)) (never_full h.core h.rest x.for room).1,
    )
