use lib.ListN.{length-take}
use native.Mathlib.Omega.{arith}
use Rattle.player.proofs.play_any.Goals as goal

pub slice_bounds-play_any-end : goal.slice_bounds-play_any-end
slice_bounds-play_any-end c = simp length-take (omega arith)
