use mathlib.Core.Path.{◌∙◌}
use native.Mathlib.Omega.{arith}
use borrow.Author.Tests.{le-ltb}
use Rattle.login.proofs.Judging.{token_past}
use Rattle.login.proofs.is_known.Goals as goal

pub returns-else-account-word_at : goal.returns-else-account-word_at
returns-else-account-word_at c =
    le-ltb c.args.account c.word_at.result c.if-account-word_at.false ∙ token_past c.args.m.now c.args.account c.args.token (omega (arith, c.word_at.ensures))
