use Rattle.redelivery.proofs.Events.{kinds}
use Rattle.redelivery.proofs.replay_event.Goals as goal

pub returns-in-Accepted : goal.returns-in-Accepted
returns-in-Accepted c = search kinds

pub returns-in-Rested : goal.returns-in-Rested
returns-in-Rested c = search kinds

pub returns-in-Replenished : goal.returns-in-Replenished
returns-in-Replenished c = search kinds

pub returns-in-Cancelled : goal.returns-in-Cancelled
returns-in-Cancelled c = search kinds

pub returns-in-Modified : goal.returns-in-Modified
returns-in-Modified c = search kinds

pub returns-in-StopPlaced : goal.returns-in-StopPlaced
returns-in-StopPlaced c = search kinds

pub returns-in-Triggered : goal.returns-in-Triggered
returns-in-Triggered c = search kinds

pub returns-in-PhaseChanged : goal.returns-in-PhaseChanged
returns-in-PhaseChanged c = search kinds
