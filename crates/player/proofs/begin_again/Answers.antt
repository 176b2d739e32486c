use lib.ListN.{length-take}
use native.Mathlib.Omega.{arith}
use Rattle.player.proofs.Laws.{laws}
use Rattle.player.proofs.begin_again.Goals as goal

pub slice_bounds-restore_one-end : goal.slice_bounds-restore_one-end
slice_bounds-restore_one-end c = simp length-take (omega arith)

pub returns : goal.returns
returns c = search laws
