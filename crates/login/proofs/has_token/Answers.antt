use mathlib.Core.Path.{◌∙◌}
use Rattle.login.proofs.Judging.{token_absent}
use Rattle.login.proofs.Entered.{laws}
use Rattle.login.proofs.has_token.Goals as goal

pub returns-then-has_account : goal.returns-then-has_account
returns-then-has_account c = search laws

pub returns-else-has_account : goal.returns-else-has_account
returns-else-has_account c =
    c.if-has_account.false ∙ token_absent c.args.m.now c.args.a c.args.token c.requires.1 _ c.has_account.ensures c.if-has_account.false
