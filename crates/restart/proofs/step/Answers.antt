use Rattle.restart.proofs.Chains.{makes}
use borrow.Author.Rules.{rules}
use Rattle.restart.proofs.step.Goals as goal

pub returns : goal.returns
returns c = search (rules, makes)
