use Rattle.bitmap.proofs.Laws.{laws}
use Rattle.bitmap.proofs.last_free.Goals as goal

pub loop-i-init : goal.loop-i-init
loop-i-init c = search laws

pub overflow_sub-g : goal.overflow_sub-g
overflow_sub-g c = search laws

pub get-requires : goal.get-requires
get-requires c = search laws

pub overflow_mul-g : goal.overflow_mul-g
overflow_mul-g c = search laws

pub overflow_sub-i : goal.overflow_sub-i
overflow_sub-i c = search laws

pub last_zero-r-requires : goal.last_zero-r-requires
last_zero-r-requires c = search laws

pub overflow_mul-i : goal.overflow_mul-i
overflow_mul-i c = search laws

pub overflow_add-i : goal.overflow_add-i
overflow_add-i c = search laws

pub returns-then-r-gt0 : goal.returns-then-r-gt0
returns-then-r-gt0 c = search laws

pub loop-i-smaller : goal.loop-i-smaller
loop-i-smaller c = search laws

pub loop-i-preserved : goal.loop-i-preserved
loop-i-preserved c = search laws

pub returns : goal.returns
returns c = search laws
