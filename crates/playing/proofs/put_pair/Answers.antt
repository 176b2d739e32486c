use mathlib.Core.Path.{ap, ◌∙◌}
use Rattle.words.specs.Words.{word_of}
use Rattle.words.proofs.Int.{read}
use Rattle.playing.proofs.Laws.{pair_put}
use Rattle.playing.proofs.put_pair.Goals as goal

pub returns : goal.returns
returns c =
    pair_put _ _ _ c.args.cash c.args.position _ _ _
    (c.cast_unsigned.ensures ∙ ap word_of (read {x = c.args.cash} c.ranges.cash.sfits))
    (c.cast_unsigned-2.ensures ∙ ap word_of (read {x = c.args.position} c.ranges.position.sfits))
    c.put.ensures c.put-2.ensures
