use Rattle.pending.proofs.Flights.{flight_is}
use Rattle.pending.proofs.flight_at.Goals as goal

pub returns : goal.returns
returns c = flight_is _ _ _ _ _ c.get.ensures c.get-2.ensures c.get-3.ensures
