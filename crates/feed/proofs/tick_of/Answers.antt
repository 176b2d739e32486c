use Rattle.words.proofs.Int.{read}
use Rattle.feed.proofs.tick_of.Goals as goal

pub returns : goal.returns
returns c = let w = c.to_i64 in cc (read {x = w.result} w.type_inv)
