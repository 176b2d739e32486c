use Rattle.maps.proofs.Levels.{can_join, of_levels}
use Rattle.maps.proofs.join.Goals as goal

pub seek-i-requires : goal.seek-i-requires
seek-i-requires c = search of_levels

pub join_code-code-requires : goal.join_code-code-requires
join_code-code-requires c = search of_levels

pub add-requires : goal.add-requires
add-requires c =
    (c.requires.levels c.args.s, can_join _ _ _ c.join_code-code.ensures c.if-code-eq0.true)

pub returns-then-code-eq0 : goal.returns-then-code-eq0
returns-then-code-eq0 c = search of_levels

pub returns-else-code-eq0 : goal.returns-else-code-eq0
returns-else-code-eq0 c = search of_levels
