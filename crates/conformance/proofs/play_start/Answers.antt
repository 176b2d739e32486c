use lib.ListN.{length-take}
use native.Mathlib.Omega.{arith}
use Rattle.conformance.proofs.Laws.{laws}
use Rattle.conformance.proofs.play_start.Goals as goal

pub slice_bounds-start-end-2 : goal.slice_bounds-start-end-2
slice_bounds-start-end-2 c = simp length-take (omega arith)

pub returns : goal.returns
returns c = search laws
