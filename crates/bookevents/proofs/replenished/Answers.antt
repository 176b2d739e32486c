use Rattle.std.proofs.lemmas.Result.{err_from_is_err_and}
use Rattle.words.proofs.Int.{read}
use Rattle.bookevents.proofs.Replenishing.{replenished_refused, can_reshow, replenished_done}
use Rattle.bookevents.proofs.replenished.Goals as goal

pub returns-in_err-judge_replenished : goal.returns-in_err-judge_replenished
returns-in_err-judge_replenished c =
    let p = err_from_is_err_and c.from_residual.result c.from_residual.ensures.1 in
    rw (p.1, p.2) (replenished_refused c.args.m.now c.args.out.now c.args.n c.args.id c.args.visible c.requires _ c.owner-t.ensures _ c.room.ensures c.args.side c.args.price _ c.in_err-judge_replenished.ensures)

pub apply_replenished-requires : goal.apply_replenished-requires
apply_replenished-requires c =
    (c.requires.state, c.look-at.ensures.1, can_reshow c.args.m.now c.args.out.now c.args.n c.args.id c.args.visible c.requires _ c.owner-t.ensures _ c.room.ensures c.in_ok-judge_replenished.ensures)

pub returns : goal.returns
returns c =
    replenished_done c.args.m.now c.args.out.now c.args.n c.args.id c.args.visible c.requires _ c.owner-t.ensures _ c.room.ensures c.args.side c.args.price _ _ (read {x = c.args.price} c.ranges.price.sfits) c.in_ok-judge_replenished.ensures c.rows-k.ensures.0 c.apply_replenished.ensures c.report.ensures
