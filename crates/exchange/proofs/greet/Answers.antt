use Rattle.exchange.proofs.Laws.{laws, no_login}
use Rattle.exchange.proofs.greet.Goals as goal

pub protocol_error-requires : goal.protocol_error-requires
protocol_error-requires c = (c.requires, no_login _ c.in_default.not-Login)

pub returns-in-Login : goal.returns-in-Login
returns-in-Login c = search laws
