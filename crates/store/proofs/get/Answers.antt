use Prim.Native.Nat.{ℕ, ◌*◌}
use mathlib.Core.Path.{ap, ◌∙◌}
use Rattle.le.specs.Le.{le}
use Rattle.store.specs.Layout.{cell}
use Rattle.store.proofs.get.Goals as goal

pub returns : goal.returns
unfolding cell
returns c = c.get_u64.ensures ∙ ap (λ (n : ℕ). le 8 c.args.m.now (8 * n)) c.spot_of.ensures.0
