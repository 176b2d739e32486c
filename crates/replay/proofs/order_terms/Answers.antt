use borrow.Author.Rules.{rules}
use Rattle.replay.proofs.Saying.{order_reads}
use Rattle.replay.proofs.order_terms.Goals as goal

pub returns : goal.returns
returns c =
    order_reads _ _ _ _ _ _ _ _ _ (search rules) c.price_flag-flag.ensures c.price_word-word.ensures.0 c.price_word-word.ensures.1 c.ranges.qty.fits
