use Rattle.orderentry.proofs.Placing.{number_fits, can_place, notice_needs, new_becomes}
use Rattle.orderentry.proofs.place_new.Goals as goal

pub overflow_add-number : goal.overflow_add-number
overflow_add-number c = let p = c.requires in
    record { fits = number_fits c.args.m.now c.args.s c.args.a c.args.order c.args.o p.3 p.4 p.2 _ c.word_at-number.ensures }

pub place-requires : goal.place-requires
place-requires c = let p = c.requires in
    (p.0, p.1, can_place c.args.m.now c.args.s c.args.a c.args.order c.args.o p.3 p.4 p.2 _ _ c.word_at-number.ensures c.command_of-k.ensures)

pub notice_hold-requires : goal.notice_hold-requires
notice_hold-requires c = let p = c.requires in
    notice_needs c.args.m.now c.args.s c.args.a c.args.order c.args.o p.3 p.4 p.2 _ _ _ _ c.word_at-number.ensures c.command_of-k.ensures c.fee_of.ensures c.hold_of-hold.ensures c.place.ensures

pub returns : goal.returns
returns c = let p = c.requires in
    new_becomes c.args.m.now c.args.s c.args.a c.args.order c.args.o p.3 p.4 p.2 _ _ _ _ c.word_at-number.ensures c.command_of-k.ensures c.fee_of.ensures c.hold_of-hold.ensures c.place.ensures c.notice_hold.ensures.becomes
