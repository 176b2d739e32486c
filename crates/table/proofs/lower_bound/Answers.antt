use native.Mathlib.Omega.{arith}
use Rattle.table.proofs.lower_bound.Goals as goal

pub bound_by-requires : goal.bound_by-requires
bound_by-requires c = (c.requires, omega arith, omega arith)

pub returns : goal.returns
returns c = c.bound_by.ensures
