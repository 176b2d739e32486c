use borrow.Author.Rules.{rules}
use Rattle.words.specs.Words.{int}
use Rattle.words.proofs.to_i64.Goals as goal

pub returns : goal.returns
unfolding int
returns c = search rules
