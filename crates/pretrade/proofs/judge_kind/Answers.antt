use Rattle.words.proofs.Int.{read}
use mathlib.Core.Path.{◌∙◌}
use Rattle.pretrade.proofs.Testing.{limit_paper, market_paper, stop_paper}
use borrow.Author.Rules.{rules}
use Rattle.pretrade.proofs.judge_kind.Goals as goal

pub returns-in-Limit : goal.returns-in-Limit
returns-in-Limit c = limit_paper c.requires.0 c.requires.1 _ _ _ c.in-Limit.price _ c.in-Limit.tif c.in-Limit.display _ c.in-Limit.is (c.of_i64.ensures ∙ read {x = c.in-Limit.price} (search rules)) c.judge_limit.ensures

pub returns-in-Market : goal.returns-in-Market
returns-in-Market c = market_paper c.requires.0 c.requires.1 _ _ _ c.in-Market.is

pub returns-in-Stop : goal.returns-in-Stop
returns-in-Stop c = stop_paper c.requires.0 c.requires.1 _ _ _ _ _ c.in-Stop.is
