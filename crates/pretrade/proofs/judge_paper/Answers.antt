use Rattle.pretrade.proofs.Testing.{kind_needs}
use Rattle.pretrade.proofs.Existing.{row_needs}
use Rattle.pretrade.proofs.Testing.{testing}
use Rattle.pretrade.proofs.judge_paper.Goals as goal

pub is_funded-requires : goal.is_funded-requires
is_funded-requires c = row_needs c.requires

pub judge_kind-requires : goal.judge_kind-requires
judge_kind-requires c = kind_needs c.requires _ c.is_funded.ensures c.if-is_funded.true

pub returns : goal.returns
returns c = search testing
