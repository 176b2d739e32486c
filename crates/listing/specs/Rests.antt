-- The resting orders of a listing: their levels, and what it takes for them to come to stand in the depth.
use Rattle.std.specs.Prelude.{ℕ, ◌≤◌, ◌≡◌, Bool, true, false, List, length}
use Rattle.orderbook.specs.declared.Side.{Side}
use Rattle.orderbook.specs.declared.Listed.{Listed}
use Rattle.orderbook.specs.declared.Listed.TheVariants as L
use Rattle.table.specs.Live.{Each, insert}
use Rattle.gateway.specs.Limits.{most_orders}
use Rattle.gateway.specs.Depth.{Level, Depth, Key, resting_number, same_key, level, levels, levels_few, levels_fit}
use Rattle.gateway.specs.Listing.{listed_number, listed_times, resting_in, listed_depth}
use Rattle.gateway.specs.Calls.{Gateway}
use Rattle.gateway.specs.Start.{empty_depth}
use Rattle.store.specs.View.{Store}
use Rattle.marketdata.specs.Marketdata.{with_resting, CanAdd}
use Rattle.listing.specs.Rows.{from}

-- the entry is an order that rests at that level
abbrev pub rests_at : Key → Listed → Bool
rests_at k (L.Order i o s p v w) = same_key k (s, p)
rests_at k (L.Stop i o s l q) = false

-- the level of the rows from j on, and the levels of a side
abbrev pub level_from : Key → ℕ → List ℕ → Level
level_from k j xs = level k (listed_depth (from j xs))

abbrev pub levels_from : Side → ℕ → List ℕ → List Level
levels_from z j xs = levels z (resting_in (from j xs))

-- the depth with one entry more; a stop is no part of it
abbrev pub rested : Listed → Depth → Depth
rested (L.Order i o s p v w) d = with_resting (insert resting_number (record { number = i; side = s; price = p; visible = w; leaves = v })) d
rested (L.Stop i o s l q) d = d

-- what its order asks of the state; a stop asks nothing
abbrev pub CanJoin : Listed → Store → Type 0
CanJoin (L.Order i o s p v w) t = CanAdd (record { number = i; side = s; price = p; visible = w; leaves = v }) t
CanJoin (L.Stop i o s l q) t = Unit {0}

-- the listing can come to stand in the gateway's depth: codes 8, 5 and 7, and no number above the last
pub record CanRest (xs : List Listed) (g : Gateway) : Type 0 where
  pub empty : g.rest.depth ≡ empty_depth
  pub once : Each (λ x. listed_times (listed_number x) xs ≡ 1) xs
  pub numbered : Each (λ x. listed_number x ≤ g.core.ledger.last) xs
  pub few_orders : length xs ≤ most_orders
  pub few : levels_few (resting_in xs) ≡ true
  pub fit : levels_fit (resting_in xs) ≡ true
