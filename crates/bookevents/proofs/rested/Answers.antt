use Rattle.std.proofs.lemmas.Result.{err_from_is_err_and}
use mathlib.Core.Path.{refl}
use Rattle.words.proofs.Int.{read}
use Rattle.holds.specs.declared.Move.TheVariants.{Leaves}
use Rattle.holds.proofs.Laws.{weighed}
use Rattle.bookevents.proofs.Resting.{can_join, join_room, left_hold, rested_done, stands_as, rested_refused}
use Rattle.bookevents.proofs.rested.Goals as goal

pub judge_rested-requires : goal.judge_rested-requires
judge_rested-requires c =
    (c.requires, c.look-at.ensures.1, c.place_of-place.ensures, weighed _ _ _ _ (c.weigh-h.ensures (Leaves _) refl c.left-new.ensures))

pub returns-in_err-judge_rested : goal.returns-in_err-judge_rested
returns-in_err-judge_rested c =
    let p = err_from_is_err_and c.from_residual.result c.from_residual.ensures.1 in
    rw (p.1, p.2)
    (rested_refused c.args.m.now c.args.out.now c.args.n c.args.id c.args.side c.args.price c.args.qty c.args.visible _ (stands_as (read {x = c.args.price} c.ranges.price.sfits) c.row_of-o.ensures) c.requires _ (c.weigh-h.ensures (Leaves _) refl c.left-new.ensures) _ c.owner-t.ensures _ c.room.ensures _ c.in_err-judge_rested.ensures)

pub apply_rested-requires : goal.apply_rested-requires
apply_rested-requires c =
    (c.requires.state, c.look-at.ensures.0, left_hold c.row_of-o.ensures (c.weigh-h.ensures (Leaves _) refl c.left-new.ensures), can_join c.args.m.now c.args.out.now c.args.n c.args.id c.args.side c.args.price c.args.qty c.args.visible _ (stands_as (read {x = c.args.price} c.ranges.price.sfits) c.row_of-o.ensures) c.requires _ (c.weigh-h.ensures (Leaves _) refl c.left-new.ensures) _ c.owner-t.ensures _ c.room.ensures c.in_ok-judge_rested.ensures)

pub report-requires : goal.report-requires
report-requires c =
    (c.apply_rested.ensures.state, c.owner-t.ensures.slot, join_room c.args.m.now c.args.out.now c.args.n c.args.id c.args.side c.args.price c.args.qty c.args.visible _ (stands_as (read {x = c.args.price} c.ranges.price.sfits) c.row_of-o.ensures) c.requires _ (c.weigh-h.ensures (Leaves _) refl c.left-new.ensures) _ c.owner-t.ensures _ c.room.ensures c.in_ok-judge_rested.ensures)

pub returns : goal.returns
returns c =
    rested_done c.args.m.now c.args.out.now c.args.n c.args.id c.args.side c.args.price c.args.qty c.args.visible _ (stands_as (read {x = c.args.price} c.ranges.price.sfits) c.row_of-o.ensures) c.requires _ (c.weigh-h.ensures (Leaves _) refl c.left-new.ensures) _ c.owner-t.ensures _ c.room.ensures c.in_ok-judge_rested.ensures _ _ (read {x = c.args.price} c.ranges.price.sfits) c.rows-k.ensures.0 c.apply_rested.ensures c.report.ensures
