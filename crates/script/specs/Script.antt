-- Rows of 16 little-endian words: a message or an event, its kind and then its fields. A kind above the last reads as the last, and another code that no case has as the first.
use Rattle.std.specs.Prelude.{ℕ, ◌*◌, ◌%◌, cond, List, eqb, ℤ, length, Option, Some, None, unwrap_or}
use Rattle.orderbook.specs.declared.Event.{Event}
use Rattle.orderbook.specs.declared.Event.TheVariants as Ev
use Rattle.orderbook.specs.declared.CancelReason as CancelReason
use Rattle.orderbook.specs.declared.RejectReason as RejectReason
use Rattle.orderbook.specs.declared.Phase as Phase
use Rattle.orderbook.specs.declared.TimeInForce as TimeInForce
use Rattle.protocol.specs.declared.Inbound.{Inbound}
use Rattle.protocol.specs.declared.Inbound.TheVariants as In
use Rattle.protocol.specs.declared.NewOrder.{NewOrder}
use Rattle.protocol.specs.declared.OrderKind.{OrderKind}
use Rattle.protocol.specs.declared.OrderKind.TheVariants as Kind
use Rattle.protocol.specs.Codes.{tif_of, reject_reason_of, cancel_reason_of, phase_of}
use Rattle.words.specs.Words.{int}
use Rattle.le.specs.Le.{le}
use Rattle.store.specs.View.{side, maybe_price, maybe_qty}

-- ---- words

abbrev pub word_at : List ℕ → ℕ → ℕ
word_at xs i = le 8 xs (8 * i)

abbrev pub small_at : List ℕ → ℕ → ℕ
small_at xs i = word_at xs i % 4294967296

abbrev pub code_at : List ℕ → ℕ → ℕ
code_at xs i = word_at xs i % 256

abbrev pub price_at : List ℕ → ℕ → ℤ
price_at xs i = int (word_at xs i)

-- ---- messages

abbrev pub tif_or : Option TimeInForce.TimeInForce → TimeInForce.TimeInForce
tif_or t = unwrap_or t TimeInForce.TheVariants.Gtc

abbrev pub tif_at : List ℕ → TimeInForce.TimeInForce
tif_at xs = tif_or (tif_of (code_at xs 6))

abbrev pub limit : List ℕ → OrderKind
limit xs = Kind.Limit (price_at xs 5) (tif_at xs) (maybe_qty (word_at xs 7) (word_at xs 8))

abbrev pub stop : List ℕ → OrderKind
stop xs = Kind.Stop (price_at xs 5) (maybe_price (word_at xs 6) (word_at xs 7))

unfoldable pub order_kind : List ℕ → OrderKind
order_kind xs = cond (eqb (word_at xs 4) 0) (limit xs) (cond (eqb (word_at xs 4) 1) Kind.Market (stop xs))

abbrev pub new_order : List ℕ → NewOrder
new_order xs = record { client_ref = word_at xs 1; side = side (word_at xs 2); qty = word_at xs 3; kind = order_kind xs }

abbrev pub login : List ℕ → Inbound
login xs = In.Login (word_at xs 1 % 65536) (small_at xs 2) (word_at xs 3)

abbrev pub modify : List ℕ → Inbound
modify xs = In.Modify (word_at xs 1) (price_at xs 2) (word_at xs 3)

abbrev pub message_by : ℕ → List ℕ → Inbound
message_by k xs =
    cond (eqb k 0) (login xs)
    (cond (eqb k 1) In.Logout
    (cond (eqb k 2) In.Heartbeat
    (cond (eqb k 3) (In.NewOrder (new_order xs))
    (cond (eqb k 4) (In.Cancel (word_at xs 1)) (cond (eqb k 5) (modify xs) (cond (eqb k 6) In.MassCancel In.Subscribe))))))

unfoldable pub message_of : List ℕ → Inbound
message_of xs = message_by (word_at xs 0) xs

-- ---- events

abbrev pub reject_or : Option RejectReason.RejectReason → RejectReason.RejectReason
reject_or why = unwrap_or why RejectReason.TheVariants.InvalidQuantity

abbrev pub cancel_or : Option CancelReason.CancelReason → CancelReason.CancelReason
cancel_or why = unwrap_or why CancelReason.TheVariants.Requested

abbrev pub phase_or : Option Phase.Phase → Phase.Phase
phase_or p = unwrap_or p Phase.TheVariants.Continuous

abbrev pub reject_at : List ℕ → RejectReason.RejectReason
reject_at xs = reject_or (reject_reason_of (code_at xs 2))

abbrev pub cancel_at : List ℕ → CancelReason.CancelReason
cancel_at xs = cancel_or (cancel_reason_of (code_at xs 3))

abbrev pub phase_at : List ℕ → ℕ → Phase.Phase
phase_at xs i = phase_or (phase_of (code_at xs i))

abbrev pub traded : List ℕ → Event
traded xs = Ev.Trade (word_at xs 1) (word_at xs 2) (word_at xs 3) (side (word_at xs 4)) (price_at xs 5) (word_at xs 6) (word_at xs 7) (word_at xs 8)

abbrev pub rested : List ℕ → Event
rested xs = Ev.Rested (word_at xs 1) (side (word_at xs 2)) (price_at xs 3) (word_at xs 4) (word_at xs 5)

abbrev pub replenished : List ℕ → Event
replenished xs = Ev.Replenished (word_at xs 1) (side (word_at xs 2)) (price_at xs 3) (word_at xs 4)

abbrev pub stop_placed : List ℕ → Event
stop_placed xs = Ev.StopPlaced (word_at xs 1) (side (word_at xs 2)) (price_at xs 3) (maybe_price (word_at xs 4) (word_at xs 5)) (word_at xs 6)

abbrev pub cancelled : List ℕ → Event
cancelled xs = Ev.Cancelled (word_at xs 1) (word_at xs 2) (cancel_at xs)

abbrev pub modified : List ℕ → Event
modified xs = Ev.Modified (word_at xs 1) (price_at xs 2) (word_at xs 3) (word_at xs 4)

abbrev pub event_by : ℕ → List ℕ → Event
event_by k xs =
    cond (eqb k 0) (Ev.Accepted (word_at xs 1))
    (cond (eqb k 1) (Ev.Rejected (word_at xs 1) (reject_at xs))
    (cond (eqb k 2) (traded xs)
    (cond (eqb k 3) (rested xs)
    (cond (eqb k 4) (replenished xs)
    (cond (eqb k 5) (cancelled xs)
    (cond (eqb k 6) (modified xs)
    (cond (eqb k 7) (stop_placed xs)
    (cond (eqb k 8) (Ev.Triggered (word_at xs 1))
    (cond (eqb k 9) (Ev.MassCancelled (small_at xs 1) (small_at xs 2))
    (Ev.PhaseChanged (phase_at xs 1)))))))))))

unfoldable pub event_of : List ℕ → Event
event_of xs = event_by (word_at xs 0) xs
