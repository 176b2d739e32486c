use Rattle.std.proofs.lemmas.Result.{err_from_is_err_and}
use mathlib.Core.Path.{refl}
use Rattle.words.proofs.Int.{read}
use Rattle.holds.specs.declared.Move.TheVariants.{Reprice}
use Rattle.holds.proofs.Laws.{weighed}
use Rattle.bookevents.proofs.Changing.{by_weight, can_modify, modified_done, repriced_as, modified_refused}
use Rattle.bookevents.proofs.modified.Goals as goal

pub fits-fits-requires : goal.fits-fits-requires
fits-fits-requires c =
    (c.requires, (c.weigh-h.ensures (Reprice _ _) refl c.left-new.ensures).owned)

pub few-few-requires : goal.few-few-requires
few-few-requires c =
    (c.requires.state, (weighed _ _ _ _ (c.weigh-h.ensures (Reprice _ _) refl c.left-new.ensures)).few)

pub returns-in_err-judge_changed : goal.returns-in_err-judge_changed
returns-in_err-judge_changed c =
    let p = err_from_is_err_and c.from_residual.result c.from_residual.ensures.1 in
    rw (p.1, p.2)
    (modified_refused c.args.m.now c.args.out.now c.args.n c.args.id c.requires _ _ c.owner-t.ensures _ c.room.ensures c.args.price c.args.qty _ _ (repriced_as (read {x = c.args.price} c.ranges.price.sfits) c.price_of-p.ensures) (c.weigh-h.ensures (Reprice _ _) refl c.left-new.ensures) _ (by_weight _ _ _ _ _ _ _ _ c.weigh-h.result c.owner-t.result c.fits-fits.ensures c.few-few.ensures c.rows-k.ensures.0 c.in_err-judge_changed.ensures))

pub apply_modified-requires : goal.apply_modified-requires
apply_modified-requires c =
    (c.requires.state, c.look-at.ensures.0, c.look-at.ensures.1, (c.weigh-h.ensures (Reprice _ _) refl c.left-new.ensures).holds, can_modify c.args.m.now c.args.out.now c.args.n c.args.id c.requires _ _ c.owner-t.ensures _ c.room.ensures c.args.price c.args.qty _ _ (repriced_as (read {x = c.args.price} c.ranges.price.sfits) c.price_of-p.ensures) (c.weigh-h.ensures (Reprice _ _) refl c.left-new.ensures) (by_weight _ _ _ _ _ _ _ _ c.weigh-h.result c.owner-t.result c.fits-fits.ensures c.few-few.ensures c.rows-k.ensures.0 c.in_ok-judge_changed.ensures))

pub returns : goal.returns
returns c =
    modified_done c.args.m.now c.args.out.now c.args.n c.args.id c.requires _ _ c.owner-t.ensures _ c.room.ensures c.args.price c.args.qty _ _ (repriced_as (read {x = c.args.price} c.ranges.price.sfits) c.price_of-p.ensures) (c.weigh-h.ensures (Reprice _ _) refl c.left-new.ensures) _ _ (read {x = c.args.price} c.ranges.price.sfits) (by_weight _ _ _ _ _ _ _ _ c.weigh-h.result c.owner-t.result c.fits-fits.ensures c.few-few.ensures c.rows-k.ensures.0 c.in_ok-judge_changed.ensures) c.rows-k.ensures.0 c.apply_modified.ensures c.report.ensures
