use Rattle.pending.proofs.Laws.{set_word_is}
use native.Mathlib.Omega.{arith}
use Rattle.pending.proofs.set_word.Goals as goal

pub returns : goal.returns
returns c = search (set_word_is, arith)
