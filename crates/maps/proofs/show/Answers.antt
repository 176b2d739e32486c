use Rattle.maps.proofs.Levels.{can_show, of_levels}
use Rattle.maps.proofs.show.Goals as goal

pub seek-i-requires : goal.seek-i-requires
seek-i-requires c = search of_levels

pub show_code-code-requires : goal.show_code-code-requires
show_code-code-requires c = search of_levels

pub show-requires : goal.show-requires
show-requires c =
    (c.requires.levels c.args.s, can_show _ _ _ c.show_code-code.ensures c.if-code-eq0.true)

pub returns-then-code-eq0 : goal.returns-then-code-eq0
returns-then-code-eq0 c = search of_levels

pub returns-else-code-eq0 : goal.returns-else-code-eq0
returns-else-code-eq0 c = search of_levels
