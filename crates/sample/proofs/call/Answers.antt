use lib.ListN.{length-take}
use native.Mathlib.Omega.{arith}
use Rattle.sample.proofs.call.Goals as goal

pub slice_bounds-hold-end-in-3 : goal.slice_bounds-hold-end-in-3
slice_bounds-hold-end-in-3 c = simp length-take (omega arith)

pub slice_bounds-settle-end-in-4 : goal.slice_bounds-settle-end-in-4
slice_bounds-settle-end-in-4 c = simp length-take (omega arith)

pub slice_bounds-store-end-in-8 : goal.slice_bounds-store-end-in-8
slice_bounds-store-end-in-8 c = simp length-take (omega arith)
