use lib.ListN.{length-take}
use native.Mathlib.Omega.{arith}
use Rattle.player.proofs.read_rows.Goals as goal

pub slice_bounds-read_full-end : goal.slice_bounds-read_full-end
slice_bounds-read_full-end c = simp length-take (omega arith)
