-- An event by the words of its row, and the event of a row by its kind. Assumes nothing.
use Rattle.std.specs.Prelude.{Option, Result}
use mathlib.Core.Path.{◌≡◌, subst, ◌∙◌}
use mathlib.Core.List.{List}
use Prim.Native.Nat.{ℕ, ◌<◌}
use borrow.Author.Rules.{rules}
use lib.ListN.{length}
use lib.IntN.{ℤ}
use lib.Signed.{mag}
use mir.Syntax.{w64}
use mir.Val.{of_z, to_z}
use Rattle.words.specs.Words.{half}
use Rattle.words.proofs.Int.{read}
use Rattle.orderbook.specs.declared.Side.{Side}
use Rattle.orderbook.specs.declared.CancelReason.{CancelReason}
use Rattle.orderbook.specs.declared.Event.{Event}
use Rattle.orderbook.specs.declared.Event.TheVariants as Ev
use Rattle.gateway.specs.Calls.{call, deliver_event}
use Rattle.store.specs.Layout.{cell}
use Rattle.store.specs.View.{gateway, side, maybe_price}
use Rattle.mailbox.specs.Mailbox.{places}
use Rattle.outcome.specs.declared.Refusal.{Refusal}
use Rattle.outcome.specs.Answers.{Gives}
use Rattle.script.specs.Script.{word_at, price_at, cancel_at, event_of, traded, rested, replenished, cancelled, modified, stop_placed}
use Rattle.script.proofs.Laws.{is_accepted, is_rejected, is_traded, is_rested, is_replenished, is_cancelled, is_modified, is_stop_placed, is_triggered, is_mass}

module _ (xs ys out end : List ℕ) (n : ℕ) (w : Result ℕ Refusal) where
  abbrev Delivered : Event → Type 0
  Delivered e = Gives (call (gateway (cell xs)) (deliver_event n e (places (length out)))) w xs ys out end

  module _ (row : List ℕ) where
    pub as_event : (e : Event) → Delivered e → e ≡ event_of row → Delivered (event_of row)
    as_event e h q = subst Delivered q h

    -- ---- its fields, with a price that is read back from its bits

    pub as_traded : (t a b : ℕ) (z : Side) (p : ℤ) (q c d : ℕ) → t ≡ word_at row 1 → a ≡ word_at row 2 → b ≡ word_at row 3 → z ≡ side (word_at row 4) → p ≡ price_at row 5 → mag p < half → q ≡ word_at row 6 → c ≡ word_at row 7 → d ≡ word_at row 8 →
        Delivered (Ev.Trade t a b z (to_z w64 (of_z w64 p)) q c d) → Delivered (traded row)
    as_traded t a b z p q c d e₁ e₂ e₃ e₄ e₅ l e₆ e₇ e₈ h = subst Delivered (λ i. Ev.Trade (e₁ i) (e₂ i) (e₃ i) (e₄ i) ((read {x = p} l ∙ e₅) i) (e₆ i) (e₇ i) (e₈ i)) h

    pub as_rested : (o : ℕ) (z : Side) (p : ℤ) (q v : ℕ) → o ≡ word_at row 1 → z ≡ side (word_at row 2) → p ≡ price_at row 3 → mag p < half → q ≡ word_at row 4 → v ≡ word_at row 5 →
        Delivered (Ev.Rested o z (to_z w64 (of_z w64 p)) q v) → Delivered (rested row)
    as_rested o z p q v e₁ e₂ e₃ l e₄ e₅ h = subst Delivered (λ i. Ev.Rested (e₁ i) (e₂ i) ((read {x = p} l ∙ e₃) i) (e₄ i) (e₅ i)) h

    pub as_replenished : (o : ℕ) (z : Side) (p : ℤ) (v : ℕ) → o ≡ word_at row 1 → z ≡ side (word_at row 2) → p ≡ price_at row 3 → mag p < half → v ≡ word_at row 4 →
        Delivered (Ev.Replenished o z (to_z w64 (of_z w64 p)) v) → Delivered (replenished row)
    as_replenished o z p v e₁ e₂ e₃ l e₄ h = subst Delivered (λ i. Ev.Replenished (e₁ i) (e₂ i) ((read {x = p} l ∙ e₃) i) (e₄ i)) h

    pub as_cancelled : (o q : ℕ) (why : CancelReason) → o ≡ word_at row 1 → q ≡ word_at row 2 → why ≡ cancel_at row → Delivered (Ev.Cancelled o q why) → Delivered (cancelled row)
    as_cancelled o q why e₁ e₂ e₃ h = subst Delivered (λ i. Ev.Cancelled (e₁ i) (e₂ i) (e₃ i)) h

    pub as_modified : (o : ℕ) (p : ℤ) (q v : ℕ) → o ≡ word_at row 1 → p ≡ price_at row 2 → mag p < half → q ≡ word_at row 3 → v ≡ word_at row 4 →
        Delivered (Ev.Modified o (to_z w64 (of_z w64 p)) q v) → Delivered (modified row)
    as_modified o p q v e₁ e₂ l e₃ e₄ h = subst Delivered (λ i. Ev.Modified (e₁ i) ((read {x = p} l ∙ e₂) i) (e₃ i) (e₄ i)) h

    pub as_stop_placed : (o : ℕ) (z : Side) (p : ℤ) (m : Option ℤ) (q : ℕ) → o ≡ word_at row 1 → z ≡ side (word_at row 2) → p ≡ price_at row 3 → mag p < half → m ≡ maybe_price (word_at row 4) (word_at row 5) → q ≡ word_at row 6 →
        Delivered (Ev.StopPlaced o z (to_z w64 (of_z w64 p)) m q) → Delivered (stop_placed row)
    as_stop_placed o z p m q e₁ e₂ e₃ l e₄ e₅ h = subst Delivered (λ i. Ev.StopPlaced (e₁ i) (e₂ i) ((read {x = p} l ∙ e₃) i) (e₄ i) (e₅ i)) h

pub ruleset events = (rules, as_event, is_accepted, is_rejected, is_traded, is_rested, is_replenished, is_cancelled, is_modified, is_stop_placed, is_triggered, is_mass)
