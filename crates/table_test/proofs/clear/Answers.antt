use Rattle.table_test.proofs.Laws.{counted}
use Rattle.table.specs.Live.{live}
use native.Mathlib.Omega.{arith}
use mathlib.Core.List.{[]}
use mathlib.Core.Path.{refl}
use Rattle.table_test.proofs.clear.Goals as goal

pub returns : goal.returns
unfolding live
returns c =
    rw c.put_u64.ensures (counted _ 0 [] c.requires (omega arith) (λ i j h l. absurd (omega arith)) refl)
