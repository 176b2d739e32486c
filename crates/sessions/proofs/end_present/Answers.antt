use native.Mathlib.Omega.{arith}
use Rattle.sessions.proofs.Laws.{laws}
use Rattle.outcome.proofs.Heard.{present_slot}
use Rattle.sessions.proofs.end_present.Goals as goal

pub returns-then-room-lt2 : goal.returns-then-room-lt2
returns-then-room-lt2 c = search laws

pub end-requires : goal.end-requires
end-requires c =
    let p = c.requires in
    (p.0.state, present_slot _ _ p.1, omega arith)

pub returns : goal.returns
returns c = search laws
