use Rattle.pending.proofs.Flights.{in_run_is, past_run_is}
use Rattle.pending.proofs.in_flight.Goals as goal

pub returns-then-n-last : goal.returns-then-n-last
returns-then-n-last c =
    let p = c.requires in
    in_run_is _ _ _ _ p.1 c.get-last.ensures c.get-flying.ensures c.if-n-last.true

pub returns-else-n-last : goal.returns-else-n-last
returns-else-n-last c = past_run_is _ _ _ c.requires.1 c.get-last.ensures c.if-n-last.false
