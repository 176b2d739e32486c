use Rattle.orders.proofs.Laws.{laws}
use Rattle.orders.proofs.look.Goals as goal

pub find-requires : goal.find-requires
find-requires c = search laws

pub half-live-requires : goal.half-live-requires
half-live-requires c = search laws

pub half-resting-requires : goal.half-resting-requires
half-resting-requires c = search laws

pub returns-in-Some : goal.returns-in-Some
returns-in-Some c = search laws

pub returns : goal.returns
returns c = search laws
