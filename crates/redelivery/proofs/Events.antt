-- Each kind of event: what the definitions say of it, and the event as the match finds it. Assumes nothing.
use Rattle.std.specs.Prelude.{Option}
use mathlib.Core.Path.{◌≡◌, refl, sym, ap, subst, ◌∙◌}
use mathlib.Core.Bool.{Bool, true, not, ◌&&◌}
use mathlib.Core.List.{List, [], ◌∷◌}
use Prim.Native.Nat.{ℕ, ◌<◌}
use native.Mathlib.Omega.{arith}
use borrow.Author.Tests.{le-leb}
use lib.Dec.{leb, ltb}
use lib.IntN.{ℤ}
use lib.Signed.{mag}
use mir.Syntax.{w64}
use mir.Val.{of_z, to_z}
use Rattle.orderbook.specs.declared.Side.{Side}
use Rattle.orderbook.specs.declared.CancelReason.{CancelReason}
use Rattle.orderbook.specs.declared.Phase.{Phase}
use Rattle.orderbook.specs.declared.RejectReason.{RejectReason}
use Rattle.orderbook.specs.declared.Event.{Event}
use Rattle.orderbook.specs.declared.Event.TheVariants.{Accepted, Rejected, Trade, Rested, Replenished, Cancelled, Modified, StopPlaced, Triggered, MassCancelled, PhaseChanged}
use Rattle.words.specs.Words.{half, modulus}
use Rattle.words.proofs.Int.{read}
use Rattle.gateway.specs.Ledger.{reprice, changes}
use Rattle.gateway.specs.Core.{owner_limit, names_below, numbers_agree}
use Rattle.gateway.specs.Entry.{nothing}
use Rattle.gateway.specs.Calls.{Gateway, call, replay_event}
use Rattle.store.specs.Layout.{cell}
use Rattle.store.specs.View.{gateway}
use Rattle.outcome.specs.Between.{Between}
use Rattle.outcome.specs.Answers.{Says}
use Rattle.holds.specs.declared.Move.TheVariants.{Leaves, Reprice, Retire}
use Rattle.acknowledgements.specs.Acknowledgements.{flight_places}
use Rattle.acknowledgements.proofs.Refusing as Refusing
use Rattle.bookevents.specs.BookEvents.{Repriced}
use Rattle.trades.specs.declared.Deal.{Deal}
use Rattle.trades.specs.Trades as Trades
use Rattle.redelivery.specs.Redelivery.{Still, Moves, Rests, at}

-- the call of the event e, from xs to ys, with the answer r
abbrev Replays : (xs ys : List ℕ) (n r : ℕ) → Event → Type 0
Replays xs ys n r e = Says nothing (call (gateway (cell xs)) (replay_event n e)) r xs ys

-- ---- no order changes

module _ (n : ℕ) (g : Gateway) where
  mass_still : (o k : ℕ) (below : Bool) → below ≡ ltb o (owner_limit g.core) → Still n below true (MassCancelled o k) g
  unfolding names_below numbers_agree changes
  mass_still o k below e = record { below_is = e; numbers_is = λ _. refl; none_changes = refl; fits = tt }

  phase_still : (p : Phase) → Still n true true (PhaseChanged p) g
  unfolding names_below numbers_agree changes
  phase_still p = record { below_is = refl; numbers_is = λ _. refl; none_changes = refl; fits = tt }

  accepted_still : (i : ℕ) → Still n true (leb i n) (Accepted i) g
  unfolding names_below numbers_agree changes
  accepted_still i = record { below_is = refl; numbers_is = λ _. refl; none_changes = refl; fits = tt }

  triggered_still : (i : ℕ) → Still n true (leb i n) (Triggered i) g
  unfolding names_below numbers_agree changes
  triggered_still i = record { below_is = refl; numbers_is = λ _. refl; none_changes = refl; fits = tt }

  replenished_still : (i : ℕ) (z : Side) (p : ℤ) (v : ℕ) → Still n true (leb i n) (Replenished i z p v) g
  unfolding names_below numbers_agree changes
  replenished_still i z p v = record { below_is = refl; numbers_is = λ _. refl; none_changes = refl; fits = tt }

  stop_still : (i : ℕ) (z : Side) (t : ℤ) (l : Option ℤ) (q : ℕ) → Still n true (leb i n) (StopPlaced i z t l q) g
  unfolding names_below numbers_agree changes
  stop_still i z t l q = record { below_is = refl; numbers_is = λ _. refl; none_changes = refl; fits = tt }

-- ---- one order changes

cancelled_moves : (n i q : ℕ) (why : CancelReason) → Moves n i Retire (Cancelled i q why)
unfolding names_below numbers_agree changes
cancelled_moves n i q why = record { names = λ m. refl; numbers = λ b. refl; one_change = refl; fits = tt }

rested_moves : (n i q : ℕ) (e : Event) → q < modulus → Rests i q e → Moves n i (Leaves q) e
unfolding names_below numbers_agree changes
rested_moves n i q e l (at z p v) = record { names = λ m. refl; numbers = λ b. refl; one_change = refl; fits = l }

modified_moves : (n i : ℕ) (p : ℤ) (q v w : ℕ) → Repriced p v w → Moves n i (Reprice w v) (Modified i p q v)
unfolding names_below numbers_agree changes
modified_moves n i p q v w h = record { names = λ m. refl; numbers = λ b. refl; one_change = ap (λ z. reprice i z v ∷ []) (sym h.is); fits = (h.price_fits, h.leaves_fit) }

refused_moves : (n : ℕ) (why : RejectReason) (g : Gateway) → Moves n n Retire (Rejected n why)
unfolding names_below
refused_moves n why g =
    record { names = λ m. refl; numbers = λ b. Refusing.own_number n why g b ∙ sym (le-leb n n (omega arith)); one_change = Refusing.own n why g; fits = tt }

-- ---- the functions of a kind

module _ (xs ys : List ℕ) (n r : ℕ) where
  pub mass_replays : (o : ℕ) (below : Bool) → below ≡ ltb o (owner_limit (gateway (cell xs)).core) → ((e : Event) → Still n below true e (gateway (cell xs)) → Replays xs ys n r e) → (k : ℕ) → Replays xs ys n r (MassCancelled o k)
  mass_replays o below e h k = h (MassCancelled o k) (mass_still n (gateway (cell xs)) o k below e)

  pub own_replays : (i : ℕ) → i ≡ n → ((e : Event) → Moves n n Retire e → Replays xs ys n r e) → (why : RejectReason) → Replays xs ys n r (Rejected i why)
  own_replays i e h why = subst (λ (k : ℕ). Replays xs ys n r (Rejected k why)) (sym e) (h (Rejected n why) (refused_moves n why (gateway (cell xs))))

  pub other_replays : Between xs → (i : ℕ) → (i ≡ n → ⊥) → (m : Bool) → m ≡ (leb i n && not (flight_places n (cell xs))) → ((e : Event) → Still n true m e (gateway (cell xs)) → Replays xs ys n r e) → (why : RejectReason) →
      Replays xs ys n r (Rejected i why)
  unfolding names_below
  other_replays b i ne m e h why =
      h (Rejected i why)
      (record { below_is = refl; numbers_is = λ f. e ∙ Refusing.other_number xs b.state n i ne why f; none_changes = Refusing.none_changes xs b.state n i ne why; fits = tt })

  pub rested_replays : (i q : ℕ) → q < modulus → ((e : Event) → Moves n i (Leaves q) e → Replays xs ys n r e) → (e : Event) → Rests i q e → Replays xs ys n r e
  rested_replays i q l h e s = h e (rested_moves n i q e l s)

  pub modified_replays : (i : ℕ) (p : ℤ) (v w : ℕ) → mag p < half → Repriced (to_z w64 (of_z w64 p)) v w → ((e : Event) → Moves n i (Reprice w v) e → Replays xs ys n r e) → (q : ℕ) → Replays xs ys n r (Modified i p q v)
  modified_replays i p v w l s h q = h (Modified i p q v) (modified_moves n i p q v w (subst (λ (z : ℤ). Repriced z v w) (read {x = p} l) s))

  pub trade_replays : (id taker maker : ℕ) (z : Side) (p : ℤ) (q tl ml : ℕ) (d : Deal) → mag p < half → Trades.Says (Trade id taker maker z (to_z w64 (of_z w64 p)) q tl ml) d → Replays xs ys n r (Trades.event_of d) →
      Replays xs ys n r (Trade id taker maker z p q tl ml)
  trade_replays id taker maker z p q tl ml d l s = subst (Replays xs ys n r) (s.is ∙ ap (λ (y : ℤ). Trade id taker maker z y q tl ml) (read {x = p} l))

  -- ---- in the arms of the match

  module _ (e : Event) where
    as_said : (f : Event) → e ≡ f → Replays xs ys n r f → Replays xs ys n r e
    as_said f q h = subst (Replays xs ys n r) (sym q) h

    pub as_accepted : (i : ℕ) → e ≡ Accepted i → ((f : Event) → Still n true (leb i n) f (gateway (cell xs)) → Replays xs ys n r f) → Replays xs ys n r e
    as_accepted i q h = as_said (Accepted i) q (h (Accepted i) (accepted_still n (gateway (cell xs)) i))

    pub as_triggered : (i : ℕ) → e ≡ Triggered i → ((f : Event) → Still n true (leb i n) f (gateway (cell xs)) → Replays xs ys n r f) → Replays xs ys n r e
    as_triggered i q h = as_said (Triggered i) q (h (Triggered i) (triggered_still n (gateway (cell xs)) i))

    pub as_replenished : (i : ℕ) (z : Side) (p : ℤ) (v : ℕ) → e ≡ Replenished i z p v → ((f : Event) → Still n true (leb i n) f (gateway (cell xs)) → Replays xs ys n r f) → Replays xs ys n r e
    as_replenished i z p v q h = as_said (Replenished i z p v) q (h (Replenished i z p v) (replenished_still n (gateway (cell xs)) i z p v))

    pub as_stop : (i : ℕ) (z : Side) (t : ℤ) (l : Option ℤ) (v : ℕ) → e ≡ StopPlaced i z t l v → ((f : Event) → Still n true (leb i n) f (gateway (cell xs)) → Replays xs ys n r f) → Replays xs ys n r e
    as_stop i z t l v q h = as_said (StopPlaced i z t l v) q (h (StopPlaced i z t l v) (stop_still n (gateway (cell xs)) i z t l v))

    pub as_phase : (p : Phase) → e ≡ PhaseChanged p → ((f : Event) → Still n true true f (gateway (cell xs)) → Replays xs ys n r f) → Replays xs ys n r e
    as_phase p q h = as_said (PhaseChanged p) q (h (PhaseChanged p) (phase_still n (gateway (cell xs)) p))

    pub as_cancelled : (i v : ℕ) (why : CancelReason) → e ≡ Cancelled i v why → ((f : Event) → Moves n i Retire f → Replays xs ys n r f) → Replays xs ys n r e
    as_cancelled i v why q h = as_said (Cancelled i v why) q (h (Cancelled i v why) (cancelled_moves n i v why))

    pub as_rejected : (i : ℕ) (why : RejectReason) → e ≡ Rejected i why → ((y : RejectReason) → Replays xs ys n r (Rejected i y)) → Replays xs ys n r e
    as_rejected i why q h = as_said (Rejected i why) q (h why)

    pub as_mass : (o k : ℕ) → e ≡ MassCancelled o k → ((y : ℕ) → Replays xs ys n r (MassCancelled o y)) → Replays xs ys n r e
    as_mass o k q h = as_said (MassCancelled o k) q (h k)

    pub as_rested : (i : ℕ) (z : Side) (p : ℤ) (v w : ℕ) → e ≡ Rested i z p v w → ((f : Event) → Rests i v f → Replays xs ys n r f) → Replays xs ys n r e
    as_rested i z p v w q h = as_said (Rested i z p v w) q (h (Rested i z p v w) (at z p w))

    -- with a price that is read back from its bits
    pub as_modified : (i : ℕ) (p : ℤ) (v w : ℕ) → e ≡ Modified i p v w → mag p < half → ((y : ℕ) → Replays xs ys n r (Modified i (to_z w64 (of_z w64 p)) y w)) → Replays xs ys n r e
    as_modified i p v w q l h = as_said (Modified i (to_z w64 (of_z w64 p)) v w) (q ∙ ap (λ (y : ℤ). Modified i y v w) (sym (read {x = p} l))) (h v)

    pub as_trade : (t a b : ℕ) (z : Side) (p : ℤ) (v c d : ℕ) → e ≡ Trade t a b z p v c d → mag p < half → Replays xs ys n r (Trade t a b z (to_z w64 (of_z w64 p)) v c d) → Replays xs ys n r e
    as_trade t a b z p v c d q l h = as_said (Trade t a b z (to_z w64 (of_z w64 p)) v c d) (q ∙ ap (λ (y : ℤ). Trade t a b z y v c d) (sym (read {x = p} l))) h

pub ruleset kinds = (mass_replays, own_replays, other_replays, rested_replays, modified_replays, trade_replays, as_accepted, as_triggered, as_replenished, as_stop, as_phase, as_cancelled, as_rejected, as_mass, as_rested, as_modified, as_trade, arith)
