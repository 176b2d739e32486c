use Rattle.conformance.proofs.Laws.{laws}
use Rattle.conformance.proofs.play_run.Goals as goal

pub loop-left-init : goal.loop-left-init
loop-left-init c = search laws

pub returns-then-not-same : goal.returns-then-not-same
returns-then-not-same c = search laws

pub loop-left-preserved : goal.loop-left-preserved
loop-left-preserved c = search laws

pub returns : goal.returns
returns c = search laws
