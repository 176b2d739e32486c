use Rattle.sessions.proofs.Laws.{free_slot, seat_becomes}
use Rattle.sessions.proofs.seat.Goals as goal

pub connect-requires : goal.connect-requires
connect-requires c = let p = c.requires in (p.0.holds, free_slot _ _ p.1)

pub returns : goal.returns
returns c = let p = c.requires in seat_becomes _ _ p.1 p.0 _ c.connect.ensures
