use Rattle.std.proofs.lemmas.Result.{err_from_is_err_and}
use mathlib.Core.Path.{refl}
use Rattle.words.proofs.Int.{int_zero}
use Rattle.holds.specs.declared.Move.TheVariants.{Retire}
use Rattle.holds.proofs.Laws.{weighed}
use Rattle.bookevents.proofs.Changing.{by_weight, can_cancel, cancelled_refused, cancelled_done}
use Rattle.bookevents.proofs.cancelled.Goals as goal

pub fits-fits-requires : goal.fits-fits-requires
fits-fits-requires c =
    (c.requires, (c.weigh-h.ensures Retire refl (λ o q. int_zero)).owned)

pub few-few-requires : goal.few-few-requires
few-few-requires c =
    (c.requires.state, (weighed _ _ _ _ (c.weigh-h.ensures Retire refl (λ o q. int_zero))).few)

pub returns-in_err-judge_changed : goal.returns-in_err-judge_changed
returns-in_err-judge_changed c =
    let p = err_from_is_err_and c.from_residual.result c.from_residual.ensures.1 in
    rw (p.1, p.2)
    (cancelled_refused c.args.m.now c.args.out.now c.args.n c.args.id c.requires _ _ c.owner-t.ensures _ c.room.ensures _ _ (c.weigh-h.ensures Retire refl (λ c q. int_zero)) _ (by_weight _ _ _ _ _ _ _ _ c.weigh-h.result c.owner-t.result c.fits-fits.ensures c.few-few.ensures c.rows-k.ensures.0 c.in_err-judge_changed.ensures))

pub apply_cancelled-requires : goal.apply_cancelled-requires
apply_cancelled-requires c =
    (c.requires.state, c.look-at.ensures.0, c.look-at.ensures.1, can_cancel c.args.m.now c.args.out.now c.args.n c.args.id c.requires _ _ c.owner-t.ensures _ c.room.ensures (c.weigh-h.ensures Retire refl (λ c q. int_zero)) (by_weight _ _ _ _ _ _ _ _ c.weigh-h.result c.owner-t.result c.fits-fits.ensures c.few-few.ensures c.rows-k.ensures.0 c.in_ok-judge_changed.ensures))

pub returns : goal.returns
returns c =
    cancelled_done c.args.m.now c.args.out.now c.args.n c.args.id c.requires _ _ c.owner-t.ensures _ c.room.ensures _ _ (c.weigh-h.ensures Retire refl (λ c q. int_zero)) _ (by_weight _ _ _ _ _ _ _ _ c.weigh-h.result c.owner-t.result c.fits-fits.ensures c.few-few.ensures c.rows-k.ensures.0 c.in_ok-judge_changed.ensures) c.rows-k.ensures.0 c.apply_cancelled.ensures c.report.ensures
