use Rattle.outcome.proofs.Steps.{Sent}
use Rattle.deliver.specs.Delivering.{phase_step}
use Rattle.deliver.proofs.Phases.{phase_keeps}
use Rattle.deliver.proofs.tell_all.Given as goal

abbrev pub invariant-loop-s : goal.invariant-loop-s
invariant-loop-s l = Sent (phase_step l.n l.phase) (phase_keeps l.n l.phase) l.initial.m l.initial.out 0 l.m l.out l.i l.s
