use mathlib.Core.Path.{sym, ◌∙◌}
use Rattle.commands.proofs.Departures.{departures, account_cast, push_needs}
use Rattle.commands.proofs.disconnect.Goals as goal

pub returns-in-None : goal.returns-in-None
returns-in-None c = search departures

pub overflow_cast-a : goal.overflow_cast-a
overflow_cast-a c = record { fits = account_cast c.args.m.now c.args.s _ c.requires.state (sym c.account_of.ensures ∙ c.in-Some.is) }

pub push-requires : goal.push-requires
push-requires c = push_needs c.args.m.now c.args.s c.requires _ c.account_of.ensures c.in-Some.a c.in-Some.is _ c.can_number.ensures c.if-can_number.true c.forget-then-can_number.ensures

pub returns-then-can_number : goal.returns-then-can_number
returns-then-can_number c = search departures

pub returns-else-can_number : goal.returns-else-can_number
returns-else-can_number c = search departures
