use Rattle.std.proofs.lemmas.Result.{err_from_is_err_and}
use mathlib.Core.Path.{refl}
use Rattle.words.proofs.Int.{int_zero}
use Rattle.holds.specs.declared.Move.TheVariants.{Retire}
use Rattle.holds.proofs.Laws.{weighed}
use Rattle.acknowledgements.proofs.Refusing.{can_retire, order_not, order_done}
use Rattle.acknowledgements.proofs.order_refused.Goals as goal

pub judge_order-requires : goal.judge_order-requires
judge_order-requires c =
    (c.requires, weighed _ _ _ _ (c.weigh-h.ensures Retire refl (λ o q. int_zero)))

pub returns-in_err-judge_order : goal.returns-in_err-judge_order
returns-in_err-judge_order c =
    let p = err_from_is_err_and c.from_residual.result c.from_residual.ensures.1 in
    rw (p.1, p.2)
    (order_not c.args.m.now c.args.out.now c.args.n c.args.reason c.requires _ (c.weigh-h.ensures Retire refl (λ c q. int_zero)) _ c.sender-t.ensures _ c.room.ensures _ c.in_err-judge_order.ensures)

pub retire-requires : goal.retire-requires
retire-requires c =
    (c.requires.state, c.find_live-live.ensures, can_retire c.args.m.now c.args.out.now c.args.n c.args.reason c.requires _ (c.weigh-h.ensures Retire refl (λ o q. int_zero)) _ c.sender-t.ensures _ c.room.ensures c.in_ok-judge_order.ensures)

pub returns : goal.returns
returns c =
    order_done c.args.m.now c.args.out.now c.args.n c.args.reason c.requires _ (c.weigh-h.ensures Retire refl (λ o q. int_zero)) _ c.sender-t.ensures _ c.room.ensures c.in_ok-judge_order.ensures _ c.rows-k.ensures.0 c.retire.ensures c.report.ensures
