-- Messages and events by their rows' words. Assumes nothing.
use Rattle.std.specs.Prelude.{Option, Some, None}
use mathlib.Core.Path.{◌≡◌, refl, sym, ap, subst, ◌∙◌}
use mathlib.Core.Bool.{Bool, true, false}
use mathlib.Core.List.{List}
use Prim.Native.Nat.{ℕ, ◌+◌, ◌*◌, ◌%◌, ◌≤◌, ◌<◌}
use native.Mathlib.Omega.{arith}
use lib.ListN.{length}
use borrow.Author.Rules.{rules}
use borrow.Author.Tests.{eq-eqb, ne_eqb}
use lib.IntN.{ℤ}
use Rattle.orderbook.specs.declared.Side.{Side}
use Rattle.orderbook.specs.declared.Event.{Event}
use Rattle.orderbook.specs.declared.Event.TheVariants as Ev
use Rattle.orderbook.specs.declared.CancelReason as CancelReason
use Rattle.orderbook.specs.declared.RejectReason as RejectReason
use Rattle.orderbook.specs.declared.Phase as Phase
use Rattle.orderbook.specs.declared.TimeInForce as TimeInForce
use Rattle.protocol.specs.declared.Inbound.{Inbound}
use Rattle.protocol.specs.declared.Inbound.TheVariants as In
use Rattle.protocol.specs.declared.NewOrder.{NewOrder}
use Rattle.protocol.specs.declared.OrderKind.{OrderKind}
use Rattle.protocol.specs.declared.OrderKind.TheVariants as Kind
use Rattle.protocol.specs.Codes.{tif_of, reject_reason_of, cancel_reason_of, phase_of}
use Rattle.words.specs.Words.{int}
use Rattle.store.specs.View.{side, maybe_price, maybe_qty}
use Rattle.script.specs.Script.{tif_at, limit, stop, order_kind, new_order, login, modify, message_by, message_of, word_at, small_at, code_at, price_at, reject_at, cancel_at, phase_at, traded, rested, replenished, stop_placed, cancelled, modified, event_by, event_of}

pub side_read : (r : Side) (w v : ℕ) → w ≡ v → r ≡ side w → r ≡ side v
side_read r w v e f = f ∙ ap side e

pub price_read : (r : ℤ) (w v : ℕ) → w ≡ v → r ≡ int w → r ≡ int v
price_read r w v e f = f ∙ ap int e

pub no_price : (w v u : ℕ) → w ≡ v → w ≡ 0 → None ≡ maybe_price v u
no_price w v u e z = rw (← e, z) refl

pub some_price : (w v u : ℕ) (p : ℤ) → w ≡ v → (w ≡ 0 → ⊥) → p ≡ int u → Some p ≡ maybe_price v u
some_price w v u p e z f = rw (← e, ne_eqb w 0 z, f) refl

pub reject_some : (xs : List ℕ) (k : ℕ) (m : Option RejectReason.RejectReason) (p : RejectReason.RejectReason) → k ≡ code_at xs 2 → m ≡ reject_reason_of k → m ≡ Some p → p ≡ reject_at xs
reject_some xs k m p e f g = rw (← e, ← f, g) refl

pub reject_none : (xs : List ℕ) (k : ℕ) (m : Option RejectReason.RejectReason) → k ≡ code_at xs 2 → m ≡ reject_reason_of k → m ≡ None → RejectReason.TheVariants.InvalidQuantity ≡ reject_at xs
reject_none xs k m e f g = rw (← e, ← f, g) refl

pub cancel_some : (xs : List ℕ) (k : ℕ) (m : Option CancelReason.CancelReason) (p : CancelReason.CancelReason) → k ≡ code_at xs 3 → m ≡ cancel_reason_of k → m ≡ Some p → p ≡ cancel_at xs
cancel_some xs k m p e f g = rw (← e, ← f, g) refl

pub cancel_none : (xs : List ℕ) (k : ℕ) (m : Option CancelReason.CancelReason) → k ≡ code_at xs 3 → m ≡ cancel_reason_of k → m ≡ None → CancelReason.TheVariants.Requested ≡ cancel_at xs
cancel_none xs k m e f g = rw (← e, ← f, g) refl

pub phase_some : (xs : List ℕ) (i k : ℕ) (m : Option Phase.Phase) (p : Phase.Phase) → k ≡ code_at xs i → m ≡ phase_of k → m ≡ Some p → p ≡ phase_at xs i
phase_some xs i k m p e f g = rw (← e, ← f, g) refl

pub phase_none : (xs : List ℕ) (i k : ℕ) (m : Option Phase.Phase) → k ≡ code_at xs i → m ≡ phase_of k → m ≡ None → Phase.TheVariants.Continuous ≡ phase_at xs i
phase_none xs i k m e f g = rw (← e, ← f, g) refl

-- ---- an event by its kind

module _ (xs : List ℕ) (k : ℕ) (e : k ≡ word_at xs 0) where
  by_kind : (n : ℕ) → k ≡ n → event_by n xs ≡ event_of xs
  unfolding event_of
  by_kind n h = ap (λ (j : ℕ). event_by j xs) (sym h ∙ e)

  pub is_accepted : (i : ℕ) → k ≡ 0 → i ≡ word_at xs 1 → Ev.Accepted i ≡ event_of xs
  is_accepted i h f = ap Ev.Accepted f ∙ by_kind 0 h

  pub is_rejected : (i : ℕ) (why : RejectReason.RejectReason) → k ≡ 1 → i ≡ word_at xs 1 → why ≡ reject_at xs → Ev.Rejected i why ≡ event_of xs
  is_rejected i why h f g = ap (λ (j : ℕ). Ev.Rejected j why) f ∙ ap (Ev.Rejected (word_at xs 1)) g ∙ by_kind 1 h

  pub is_triggered : (i : ℕ) → k ≡ 8 → i ≡ word_at xs 1 → Ev.Triggered i ≡ event_of xs
  is_triggered i h f = ap Ev.Triggered f ∙ by_kind 8 h

  pub is_mass : (i n : ℕ) → k ≡ 9 → i ≡ small_at xs 1 → n ≡ small_at xs 2 → Ev.MassCancelled i n ≡ event_of xs
  is_mass i n h f g = ap (λ (j : ℕ). Ev.MassCancelled j n) f ∙ ap (Ev.MassCancelled (small_at xs 1)) g ∙ by_kind 9 h

  pub is_traded : (v : Event) → k ≡ 2 → v ≡ traded xs → v ≡ event_of xs
  is_traded v h f = f ∙ by_kind 2 h

  pub is_rested : (v : Event) → k ≡ 3 → v ≡ rested xs → v ≡ event_of xs
  is_rested v h f = f ∙ by_kind 3 h

  pub is_replenished : (v : Event) → k ≡ 4 → v ≡ replenished xs → v ≡ event_of xs
  is_replenished v h f = f ∙ by_kind 4 h

  pub is_cancelled : (v : Event) → k ≡ 5 → v ≡ cancelled xs → v ≡ event_of xs
  is_cancelled v h f = f ∙ by_kind 5 h

  pub is_modified : (v : Event) → k ≡ 6 → v ≡ modified xs → v ≡ event_of xs
  is_modified v h f = f ∙ by_kind 6 h

  pub is_stop_placed : (v : Event) → k ≡ 7 → v ≡ stop_placed xs → v ≡ event_of xs
  is_stop_placed v h f = f ∙ by_kind 7 h

  pub is_phase : (p : Phase.Phase) → (k ≡ 0 → ⊥) → (k ≡ 1 → ⊥) → (k ≡ 2 → ⊥) → (k ≡ 3 → ⊥) → (k ≡ 4 → ⊥) → (k ≡ 5 → ⊥) → (k ≡ 6 → ⊥) → (k ≡ 7 → ⊥) → (k ≡ 8 → ⊥) → (k ≡ 9 → ⊥) → p ≡ phase_at xs 1 → Ev.PhaseChanged p ≡ event_of xs
  unfolding event_of
  is_phase p h0 h1 h2 h3 h4 h5 h6 h7 h8 h9 f = rw (← e, ne_eqb k 0 h0, ne_eqb k 1 h1, ne_eqb k 2 h2, ne_eqb k 3 h3, ne_eqb k 4 h4, ne_eqb k 5 h5, ne_eqb k 6 h6, ne_eqb k 7 h7, ne_eqb k 8 h8, ne_eqb k 9 h9, f) refl

-- ---- messages

pub no_qty : (w v u : ℕ) → w ≡ v → w ≡ 0 → None ≡ maybe_qty v u
no_qty w v u e z = rw (← e, z) refl

pub some_qty : (w v u q : ℕ) → w ≡ v → (w ≡ 0 → ⊥) → q ≡ u → Some q ≡ maybe_qty v u
some_qty w v u q e z f = rw (← e, ne_eqb w 0 z, f) refl

pub tif_some : (xs : List ℕ) (k : ℕ) (m : Option TimeInForce.TimeInForce) (p : TimeInForce.TimeInForce) → k ≡ code_at xs 6 → m ≡ tif_of k → m ≡ Some p → p ≡ tif_at xs
tif_some xs k m p e f g = rw (← e, ← f, g) refl

pub tif_none : (xs : List ℕ) (k : ℕ) (m : Option TimeInForce.TimeInForce) → k ≡ code_at xs 6 → m ≡ tif_of k → m ≡ None → TimeInForce.TheVariants.Gtc ≡ tif_at xs
tif_none xs k m e f g = rw (← e, ← f, g) refl

pub login_is : (xs : List ℕ) (v a t : ℕ) → v ≡ word_at xs 1 → a ≡ small_at xs 2 → t ≡ word_at xs 3 → In.Login (v % 65536) a t ≡ login xs
login_is xs v a t e f g = rw (e, f, g) refl

pub order_is : (xs : List ℕ) (r q : ℕ) (z : Side) (k : OrderKind) → r ≡ word_at xs 1 → z ≡ side (word_at xs 2) → q ≡ word_at xs 3 → k ≡ order_kind xs →
    record { client_ref = r; side = z; qty = q; kind = k } ≡ new_order xs
order_is xs r q z k e f g h = λ i. record { client_ref = e i; side = f i; qty = g i; kind = h i }

module _ (xs : List ℕ) (k : ℕ) (e : k ≡ word_at xs 4) where
  pub is_limit : (v : OrderKind) → k ≡ 0 → v ≡ limit xs → v ≡ order_kind xs
  unfolding order_kind
  is_limit v h f = rw (← e, h) f

  pub is_market : k ≡ 1 → Kind.Market ≡ order_kind xs
  unfolding order_kind
  is_market h = rw (← e, h) refl

  pub is_stop : (v : OrderKind) → (k ≡ 0 → ⊥) → (k ≡ 1 → ⊥) → v ≡ stop xs → v ≡ order_kind xs
  unfolding order_kind
  is_stop v h0 h1 f = rw (← e, ne_eqb k 0 h0, ne_eqb k 1 h1) f

module _ (xs : List ℕ) (k : ℕ) (e : k ≡ word_at xs 0) where
  by_number : (n : ℕ) → k ≡ n → message_by n xs ≡ message_of xs
  unfolding message_of
  by_number n h = ap (λ (j : ℕ). message_by j xs) (sym h ∙ e)

  pub is_login : (v : Inbound) → k ≡ 0 → v ≡ login xs → v ≡ message_of xs
  is_login v h f = f ∙ by_number 0 h

  pub is_logout : k ≡ 1 → In.Logout ≡ message_of xs
  is_logout h = by_number 1 h

  pub is_heartbeat : k ≡ 2 → In.Heartbeat ≡ message_of xs
  is_heartbeat h = by_number 2 h

  pub is_new : (v : NewOrder) → k ≡ 3 → v ≡ new_order xs → In.NewOrder v ≡ message_of xs
  is_new v h f = ap In.NewOrder f ∙ by_number 3 h

  pub is_cancel : (i : ℕ) → k ≡ 4 → i ≡ word_at xs 1 → In.Cancel i ≡ message_of xs
  is_cancel i h f = ap In.Cancel f ∙ by_number 4 h

  pub is_modify : (v : Inbound) → k ≡ 5 → v ≡ modify xs → v ≡ message_of xs
  is_modify v h f = f ∙ by_number 5 h

  pub is_mass_cancel : k ≡ 6 → In.MassCancel ≡ message_of xs
  is_mass_cancel h = by_number 6 h

  pub is_subscribe : (k ≡ 0 → ⊥) → (k ≡ 1 → ⊥) → (k ≡ 2 → ⊥) → (k ≡ 3 → ⊥) → (k ≡ 4 → ⊥) → (k ≡ 5 → ⊥) → (k ≡ 6 → ⊥) → In.Subscribe ≡ message_of xs
  unfolding message_of
  is_subscribe h0 h1 h2 h3 h4 h5 h6 = rw (← e, ne_eqb k 0 h0, ne_eqb k 1 h1, ne_eqb k 2 h2, ne_eqb k 3 h3, ne_eqb k 4 h4, ne_eqb k 5 h5, ne_eqb k 6 h6) refl

pub ruleset laws = (rules, login_is, order_is, no_qty, some_qty, tif_some, tif_none, is_limit, is_market, is_stop, is_login, is_logout, is_heartbeat, is_new, is_cancel, is_modify, is_mass_cancel, is_subscribe, reject_some, reject_none, cancel_some, cancel_none, phase_some, phase_none, is_accepted, is_rejected, is_triggered, is_mass, is_phase, is_traded, is_rested, is_replenished, is_cancelled, is_modified, is_stop_placed, side_read, price_read, no_price, some_price)
