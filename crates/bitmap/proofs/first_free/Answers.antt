use Prim.Native.Nat.{◌-◌}
use Rattle.bitmap.proofs.Laws.{laws}
use Rattle.bitmap.proofs.first_free.Goals as goal

pub loop-i-init : goal.loop-i-init
loop-i-init c = search laws

pub get-requires : goal.get-requires
get-requires c = search laws

pub first_zero-r-requires : goal.first_zero-r-requires
first_zero-r-requires c = search laws

pub overflow_mul-i : goal.overflow_mul-i
overflow_mul-i c = search laws

pub overflow_add-i : goal.overflow_add-i
overflow_add-i c = search laws

pub returns-then-r-lt64 : goal.returns-then-r-lt64
returns-then-r-lt64 c = search laws

pub loop-i-smaller : goal.loop-i-smaller
loop-i-smaller c = search laws

pub loop-i-preserved : goal.loop-i-preserved
loop-i-preserved c = search laws

pub returns : goal.returns
returns c = search laws
