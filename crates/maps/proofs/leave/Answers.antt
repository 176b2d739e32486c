use Rattle.maps.proofs.Levels.{of_levels}
use Rattle.maps.proofs.leave.Goals as goal

pub seek-i-requires : goal.seek-i-requires
seek-i-requires c = search of_levels

pub leave_code-code-requires : goal.leave_code-code-requires
leave_code-code-requires c = search of_levels

pub remove-requires : goal.remove-requires
remove-requires c =
    (c.requires.levels c.args.s, c.leave_code-code.ensures.1 c.if-code-eq0.true)

pub returns-then-code-eq0 : goal.returns-then-code-eq0
returns-then-code-eq0 c = search of_levels

pub returns-else-code-eq0 : goal.returns-else-code-eq0
returns-else-code-eq0 c = search of_levels
