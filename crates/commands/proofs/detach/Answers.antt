use mathlib.Core.Path.{sym, ◌∙◌}
use Rattle.commands.proofs.Departures.{account_cast, detach_done}
use Rattle.commands.proofs.detach.Goals as goal

pub returns-in-None : goal.returns-in-None
returns-in-None c = detach_done c.args.m.now c.args.s _ c.requires (sym c.in-None.is ∙ c.account_of-a.ensures) c.forget.ensures

pub overflow_cast-result : goal.overflow_cast-result
overflow_cast-result c = record { fits = account_cast c.args.m.now c.args.s _ c.requires.state (sym c.account_of-a.ensures ∙ c.in-Some.is) }

pub returns-in-Some : goal.returns-in-Some
returns-in-Some c = detach_done c.args.m.now c.args.s _ c.requires (sym c.in-Some.is ∙ c.account_of-a.ensures) c.forget.ensures
