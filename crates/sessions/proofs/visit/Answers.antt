use Rattle.sessions.proofs.Down.{downs, visit_room}
use Rattle.sessions.proofs.visit.Goals as goal

pub end-requires : goal.end-requires
end-requires c =
    let p = c.requires in
    (p.0, p.1, visit_room _ _ _ c.is_present.ensures _ _ c.if-is_present.true p.2)

pub returns-then-is_present : goal.returns-then-is_present
returns-then-is_present c = search downs

pub returns : goal.returns
returns c = search downs
