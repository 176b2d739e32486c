-- The number of each case of an enum without data (the wire codes of crates/protocol/src/lib.rs), and the case of a number.
use Rattle.std.specs.Prelude.{ℕ, List, [], ◌∷◌, get_or, Option, Some, None}
use Rattle.orderbook.specs.declared.Side as Side
use Rattle.orderbook.specs.declared.TimeInForce as TimeInForce
use Rattle.orderbook.specs.declared.Phase as Phase
use Rattle.orderbook.specs.declared.RejectReason as RejectReason
use Rattle.orderbook.specs.declared.CancelReason as CancelReason

abbrev pub side_code : Side.Side → ℕ
side_code Side.TheVariants.Buy = 0
side_code Side.TheVariants.Sell = 1

abbrev pub side_cases : List (Option Side.Side)
side_cases =
    Some Side.TheVariants.Buy
    ∷ Some Side.TheVariants.Sell ∷ []

abbrev pub side_of : ℕ → Option Side.Side
side_of n = get_or side_cases n None

abbrev pub tif_code : TimeInForce.TimeInForce → ℕ
tif_code TimeInForce.TheVariants.Gtc = 0
tif_code TimeInForce.TheVariants.Ioc = 1
tif_code TimeInForce.TheVariants.Fok = 2
tif_code TimeInForce.TheVariants.PostOnly = 3

abbrev pub tif_cases : List (Option TimeInForce.TimeInForce)
tif_cases =
    Some TimeInForce.TheVariants.Gtc
    ∷ Some TimeInForce.TheVariants.Ioc
    ∷ Some TimeInForce.TheVariants.Fok
    ∷ Some TimeInForce.TheVariants.PostOnly ∷ []

abbrev pub tif_of : ℕ → Option TimeInForce.TimeInForce
tif_of n = get_or tif_cases n None

abbrev pub phase_code : Phase.Phase → ℕ
phase_code Phase.TheVariants.Continuous = 0
phase_code Phase.TheVariants.Auction = 1
phase_code Phase.TheVariants.Halted = 2
phase_code Phase.TheVariants.Closed = 3

abbrev pub phase_cases : List (Option Phase.Phase)
phase_cases =
    Some Phase.TheVariants.Continuous
    ∷ Some Phase.TheVariants.Auction
    ∷ Some Phase.TheVariants.Halted
    ∷ Some Phase.TheVariants.Closed ∷ []

abbrev pub phase_of : ℕ → Option Phase.Phase
phase_of n = get_or phase_cases n None

abbrev pub reject_reason_code : RejectReason.RejectReason → ℕ
reject_reason_code RejectReason.TheVariants.InvalidQuantity = 1
reject_reason_code RejectReason.TheVariants.PriceOutOfRange = 2
reject_reason_code RejectReason.TheVariants.PriceOutsideProtection = 3
reject_reason_code RejectReason.TheVariants.DuplicateOrderId = 4
reject_reason_code RejectReason.TheVariants.UnknownOrder = 5
reject_reason_code RejectReason.TheVariants.BookFull = 6
reject_reason_code RejectReason.TheVariants.InvalidOwner = 7
reject_reason_code RejectReason.TheVariants.PostOnlyWouldCross = 8
reject_reason_code RejectReason.TheVariants.InvalidDisplay = 9
reject_reason_code RejectReason.TheVariants.PriceOutsideBand = 10
reject_reason_code RejectReason.TheVariants.StopWouldTrigger = 11
reject_reason_code RejectReason.TheVariants.PendingStop = 12
reject_reason_code RejectReason.TheVariants.AuctionCall = 13
reject_reason_code RejectReason.TheVariants.TradingHalted = 14
reject_reason_code RejectReason.TheVariants.MarketClosed = 15

abbrev pub reject_reason_cases : List (Option RejectReason.RejectReason)
reject_reason_cases =
    None
    ∷ Some RejectReason.TheVariants.InvalidQuantity
    ∷ Some RejectReason.TheVariants.PriceOutOfRange
    ∷ Some RejectReason.TheVariants.PriceOutsideProtection
    ∷ Some RejectReason.TheVariants.DuplicateOrderId
    ∷ Some RejectReason.TheVariants.UnknownOrder
    ∷ Some RejectReason.TheVariants.BookFull
    ∷ Some RejectReason.TheVariants.InvalidOwner
    ∷ Some RejectReason.TheVariants.PostOnlyWouldCross
    ∷ Some RejectReason.TheVariants.InvalidDisplay
    ∷ Some RejectReason.TheVariants.PriceOutsideBand
    ∷ Some RejectReason.TheVariants.StopWouldTrigger
    ∷ Some RejectReason.TheVariants.PendingStop
    ∷ Some RejectReason.TheVariants.AuctionCall
    ∷ Some RejectReason.TheVariants.TradingHalted
    ∷ Some RejectReason.TheVariants.MarketClosed ∷ []

abbrev pub reject_reason_of : ℕ → Option RejectReason.RejectReason
reject_reason_of n = get_or reject_reason_cases n None

abbrev pub cancel_reason_code : CancelReason.CancelReason → ℕ
cancel_reason_code CancelReason.TheVariants.Requested = 1
cancel_reason_code CancelReason.TheVariants.NoLiquidity = 2
cancel_reason_code CancelReason.TheVariants.PriceProtection = 3
cancel_reason_code CancelReason.TheVariants.SelfTrade = 4
cancel_reason_code CancelReason.TheVariants.MassCancel = 5
cancel_reason_code CancelReason.TheVariants.ImmediateOrCancel = 6
cancel_reason_code CancelReason.TheVariants.FillOrKill = 7
cancel_reason_code CancelReason.TheVariants.PriceBand = 8
cancel_reason_code CancelReason.TheVariants.TradingPhase = 9

abbrev pub cancel_reason_cases : List (Option CancelReason.CancelReason)
cancel_reason_cases =
    None
    ∷ Some CancelReason.TheVariants.Requested
    ∷ Some CancelReason.TheVariants.NoLiquidity
    ∷ Some CancelReason.TheVariants.PriceProtection
    ∷ Some CancelReason.TheVariants.SelfTrade
    ∷ Some CancelReason.TheVariants.MassCancel
    ∷ Some CancelReason.TheVariants.ImmediateOrCancel
    ∷ Some CancelReason.TheVariants.FillOrKill
    ∷ Some CancelReason.TheVariants.PriceBand
    ∷ Some CancelReason.TheVariants.TradingPhase ∷ []

abbrev pub cancel_reason_of : ℕ → Option CancelReason.CancelReason
cancel_reason_of n = get_or cancel_reason_cases n None
