use mathlib.Core.Path.{sym, ◌∙◌}
use borrow.Author.Tests.{le-ltb}
use Rattle.gateway.specs.Limits.{most_orders}
use Rattle.pretrade.proofs.Testing.{no_place, no_notice, place_is}
use Rattle.pretrade.proofs.Existing.{slot}
use Rattle.pretrade.proofs.has_place.Goals as goal
use Rattle.pretrade.proofs.has_place.Goals.{then-live-lt-MOST_ORDERS, else-live-lt-MOST_ORDERS}

pub notice_room-requires : goal.notice_room-requires
notice_room-requires c = let p = c.requires.0 in (p.between.state, slot p)

pub returns-then-notice_room : goal.returns-then-notice_room
returns-then-notice_room c =
    let p = c.requires in
    let h = c.if-notice_room.true in
    elim c.if-live-lt-MOST_ORDERS.branch [
      | then-live-lt-MOST_ORDERS w ↦
          place_is p.0 p.1 _ _ _ c.fee_of.ensures c.hold_of-hold.ensures c.word_at-live.ensures w.if-live-lt-MOST_ORDERS.true _ w.notice_room.ensures _ (sym w.value-is ∙ h) c.hold_fits.ensures
      | else-live-lt-MOST_ORDERS w ↦ cc (le-ltb c.word_at-live.result most_orders w.if-live-lt-MOST_ORDERS.false)
    ]

pub returns-else-notice_room : goal.returns-else-notice_room
returns-else-notice_room c =
    let p = c.requires in
    let h = c.if-notice_room.false in
    elim c.if-live-lt-MOST_ORDERS.branch [
      | then-live-lt-MOST_ORDERS w ↦
          h ∙ no_notice p.0 p.1 _ _ _ c.fee_of.ensures c.hold_of-hold.ensures c.word_at-live.ensures w.if-live-lt-MOST_ORDERS.true _ w.notice_room.ensures (sym w.value-is ∙ h)
      | else-live-lt-MOST_ORDERS w ↦ h ∙ no_place p.0 p.1 _ _ _ c.fee_of.ensures c.hold_of-hold.ensures c.word_at-live.ensures w.if-live-lt-MOST_ORDERS.false
    ]
