use lib.ListN.{length-take}
use native.Mathlib.Omega.{arith}
use Rattle.replaying.proofs.Laws.{laws}
use Rattle.replaying.proofs.add_account.Goals as goal

pub slice_bounds-rowanchess_add_account-end : goal.slice_bounds-rowanchess_add_account-end
slice_bounds-rowanchess_add_account-end c = simp length-take (omega arith)

pub returns : goal.returns
returns c = search laws
