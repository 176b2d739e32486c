-- What the methods of types.rs give.
use Rattle.orderbook.specs.declared.Side.{Side}
use Rattle.orderbook.specs.declared.Side.TheVariants.{Buy, Sell}

abbrev pub opposite_of : Side → Side
opposite_of Buy = Sell
opposite_of Sell = Buy
