use native.Mathlib.Omega.{arith}
use Rattle.script.proofs.Laws.{is_phase}
use Rattle.deliver.proofs.Events.{events, as_event}
use Rattle.deliver.proofs.deliver.Goals as goal

pub returns-in-0 : goal.returns-in-0
returns-in-0 c = search events

pub returns-in-1 : goal.returns-in-1
returns-in-1 c = search events

pub returns-in-2 : goal.returns-in-2
returns-in-2 c = search events

pub returns-in-3 : goal.returns-in-3
returns-in-3 c = search events

pub returns-in-4 : goal.returns-in-4
returns-in-4 c = search events

pub returns-in-5 : goal.returns-in-5
returns-in-5 c = search events

pub returns-in-6 : goal.returns-in-6
returns-in-6 c = search events

pub returns-in-7 : goal.returns-in-7
returns-in-7 c = search events

pub returns-in-8 : goal.returns-in-8
returns-in-8 c = search events

pub returns-in-9 : goal.returns-in-9
returns-in-9 c = search events

pub returns-in_default : goal.returns-in_default
returns-in_default c =
    as_event _ _ _ _ _ _ _ _ c.phase_changed.ensures (is_phase _ _ c.word.ensures _ (λ e. omega arith) (λ e. omega arith) (λ e. omega arith) (λ e. omega arith) (λ e. omega arith) (λ e. omega arith) (λ e. omega arith) (λ e. omega arith) (λ e. omega arith) (λ e. omega arith) c.phase.ensures)
