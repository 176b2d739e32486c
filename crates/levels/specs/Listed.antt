-- The levels by value: a row for each side, best price first.
use Rattle.std.specs.Prelude.{◌≡◌, List, [], map, ℕ, ◌-◌, pos, get_or, take, drop, replicate}
use Rattle.orderbook.specs.declared.Side.{Side}
use Rattle.orderbook.specs.declared.Side.TheVariants.{Buy, Sell}
use Rattle.gateway.specs.Limits.{most_levels}
use Rattle.gateway.specs.Depth as Depth
use Rattle.store.specs.View.{Store}
use Rattle.levels.specs.declared.Row.{Row}
use Rattle.levels.specs.declared.listed.Level.{Level}
use Rattle.table.specs.Live.{live}
use Rattle.levels.specs.Levels.{price, level, orders, row, used, size, entries, best}

-- the bids' row comes first
abbrev pub index : Side → ℕ
index Buy = 0
index Sell = 1

abbrev pub side_of : List (List Level) → Side → List Level
side_of rows z = get_or rows (index z) []

-- the row i of n, counted from the best price
abbrev pub nth : Side → ℕ → ℕ → ℕ
nth Buy n i = n - 1 - i
nth Sell n i = i

-- the levels of the first i rows, counted from the best price
unfoldable pub firsts : Side → Store → ℕ → List Depth.Level
firsts z s i = map level (live orders (λ j. row z s (nth z (used z s) j)) i)

abbrev pub level_of : Row → Level
level_of r = record { price = price r.key; qty = r.qty; orders = r.orders }

abbrev pub nothing : Level
nothing = record { price = pos 0; qty = 0; orders = 0 }

-- a level of the definitions
abbrev pub seen : Level → Depth.Level
seen l = record { price = l.price; qty = l.qty; orders = l.orders }

-- the side's levels, best price first, and zeros behind them
pub record Lists (z : Side) (s : Store) (l : List Level) : Type 0 where
  pub levels : map seen (take (size z s) l) ≡ best z (entries z s)
  pub rest : drop (size z s) l ≡ replicate (most_levels - size z s) nothing
