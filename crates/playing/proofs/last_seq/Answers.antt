use mathlib.Core.Path.{refl}
use Rattle.stored.proofs.Laws.{put_then}
use Rattle.playing.proofs.Laws.{number_step}
use Rattle.playing.proofs.last_seq.Goals as goal

pub returns : goal.returns
returns c =
    let n = c.rowanchess_last_seq-last.result in
    number_step _ _ _ _ _ _ n refl c.rowanchess_last_seq-last.ensures (put_then _ _ _ _ _ _ _ c.put.ensures c.put-2.ensures)
