use Rattle.std.proofs.lemmas.Result.{err_from_is_err_and}
use Rattle.acknowledgements.proofs.Refusing.{command_not, command_done}
use Rattle.acknowledgements.proofs.command_refused.Goals as goal

pub returns-in_err-judge_command : goal.returns-in_err-judge_command
returns-in_err-judge_command c =
    let p = err_from_is_err_and c.from_residual.result c.from_residual.ensures.1 in
    rw (p.1, p.2) (command_not c.args.m.now c.args.out.now c.args.n c.args.id c.requires.1 c.args.reason c.requires.0 _ c.sender-t.ensures _ c.room.ensures _ c.in_err-judge_command.ensures)

pub returns : goal.returns
returns c =
    command_done c.args.m.now c.args.out.now c.args.n c.args.id c.requires.1 c.args.reason c.requires.0 _ c.sender-t.ensures _ c.room.ensures c.in_ok-judge_command.ensures _ c.rows-k.ensures.0 c.land.ensures c.report.ensures
