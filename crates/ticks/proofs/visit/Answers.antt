use native.Mathlib.Omega.{arith}
use Rattle.ticks.specs.declared.Due.TheVariants.{Beat, End}
use Rattle.ticks.proofs.Turns.{turns, visit_room}
use Rattle.ticks.proofs.visit.Goals as goal

pub send-requires : goal.send-requires
send-requires c =
    let h = visit_room _ _ _ _ _ _ Beat c.word_at-clock.ensures c.due_at-d.ensures c.in-Beat.is c.requires.2 in
    (c.requires.0, c.requires.1, omega arith)

pub end-requires : goal.end-requires
end-requires c =
    let h = visit_room _ _ _ _ _ _ End c.word_at-clock.ensures c.due_at-d.ensures c.in-End.is c.requires.2 in
    (c.requires.0, c.requires.1, omega arith)

pub returns-in-Nothing : goal.returns-in-Nothing
returns-in-Nothing c = search turns

pub returns-in-Beat : goal.returns-in-Beat
returns-in-Beat c = search turns

pub returns-in-End : goal.returns-in-End
returns-in-End c = search turns
