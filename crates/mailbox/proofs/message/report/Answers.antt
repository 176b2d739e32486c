use mathlib.Core.Path.{ap}
use mathlib.Core.List.{List, ◌∷◌}
use Prim.Native.Nat.{ℕ}
use Rattle.mailbox.proofs.Rows.{seven}
use Rattle.mailbox.proofs.message.report.Goals as goal

pub returns : goal.returns
returns c =
    let r = c.args.r in
    rw c.cells-k.ensures (ap (λ (l : List ℕ). c.args.s ∷ 6 ∷ r.seq ∷ r.order_id ∷ r.client_ref ∷ l) (seven r.kind))
