use mathlib.Core.Path.{refl}
use Rattle.stored.proofs.Laws.{put_then}
use Rattle.playing.proofs.Laws.{account_step}
use Rattle.replaying.proofs.detach.Goals as goal

pub returns : goal.returns
returns c =
    account_step _ _ _ _ _ _ c.rowanchess_detach-a.result refl c.rowanchess_detach-a.ensures
    (put_then _ _ _ _ _ _ _ (put_then _ _ _ _ _ _ _ c.put.ensures c.put-2.ensures) c.put-3.ensures)
