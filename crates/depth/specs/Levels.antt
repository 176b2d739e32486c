-- The levels of a side.
use Rattle.std.specs.Prelude.{List}
use Rattle.orderbook.specs.declared.Side.{Side}
use Rattle.gateway.specs.Depth as D
use Rattle.gateway.specs.Rest.{Rest}

abbrev pub side_levels : Side → Rest → List D.Level
side_levels z r = D.levels z r.depth.resting
