use Rattle.outcome.proofs.Laws.{stamp_becomes}
use Rattle.outcome.proofs.stamp.Goals as goal

pub returns : goal.returns
returns c =
    let p = c.requires in
    stamp_becomes p.0 _ _ p.1 c.word_at-clock.ensures c.set_sent.ensures
