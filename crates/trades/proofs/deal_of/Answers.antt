use borrow.Author.Rules.{rules}
use mathlib.Core.Path.{◌∙◌}
use Rattle.words.proofs.Int.{read}
use Rattle.trades.proofs.Calling.{says_is}
use Rattle.trades.proofs.deal_of.Goals as goal

pub returns : goal.returns
returns c =
    says_is c.args.id c.args.taker c.args.maker c.args.side c.args.price c.args.qty c.args.taker_leaves c.args.maker_leaves _ _
    (search rules) (c.of_i64-word.ensures ∙ read {x = c.args.price} c.ranges.price.sfits) c.ranges.price.sfits c.ranges.taker_leaves.fits c.ranges.maker_leaves.fits
