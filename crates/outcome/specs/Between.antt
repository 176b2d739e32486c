-- What is true between calls: every public call requires it and gives it back.
use Rattle.std.specs.Prelude.{ℕ, List}
use Rattle.gateway.specs.Invariant.{GatewayOk}
use Rattle.store.specs.Layout.{cell}
use Rattle.store.specs.View.{gateway}
use Rattle.sound.specs.Sound.{State}

-- a state stands in the bytes, and its gateway has the definitions' invariant
pub record Between (xs : List ℕ) : Type 0 where
  pub state : State xs
  pub ok : GatewayOk (gateway (cell xs))
