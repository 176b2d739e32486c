-- Balances: when the stored totals are exact, and what an answer says.
use Rattle.std.specs.Prelude.{ℕ, ◌≡◌, true, List}
use Rattle.gateway.specs.Ledger.{holds_fit}
use Rattle.store.specs.Layout.{cell}
use Rattle.store.specs.View.{gateway}
use Rattle.sound.specs.Sound.{State}

-- every wallet's held totals are in range, as they are between calls; so the stored ones, kept modulo 2^64, are exact
pub record Exact (xs : List ℕ) : Type 0 where
  pub state : State xs
  pub fit : holds_fit (gateway (cell xs)).core.ledger ≡ true
