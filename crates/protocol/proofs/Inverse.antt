-- The case of an enum's number is the enum's own. Assumes nothing.
use Rattle.std.specs.Prelude.{Some}
use mathlib.Core.Path.{◌≡◌, refl}
use Rattle.orderbook.specs.declared.Side as Side
use Rattle.orderbook.specs.declared.Phase as Phase
use Rattle.protocol.specs.declared.LoginError as LoginError
use Rattle.protocol.specs.declared.LogoutReason as LogoutReason
use Rattle.protocol.specs.declared.RejectCode as RejectCode
use Rattle.orderbook.specs.declared.RejectReason as RejectReason
use Rattle.orderbook.specs.declared.CancelReason as CancelReason
use Rattle.protocol.specs.Codes.{side_code, side_of, phase_code, phase_of, login_error_code, login_error_of, logout_code, logout_of, reject_code, reject_of, reject_reason_code, reject_reason_of, cancel_reason_code, cancel_reason_of}

pub side_there : (a : Side.Side) → side_of (side_code a) ≡ Some a
side_there Side.TheVariants.Buy = refl
side_there Side.TheVariants.Sell = refl

pub phase_there : (a : Phase.Phase) → phase_of (phase_code a) ≡ Some a
phase_there Phase.TheVariants.Continuous = refl
phase_there Phase.TheVariants.Auction = refl
phase_there Phase.TheVariants.Halted = refl
phase_there Phase.TheVariants.Closed = refl

pub login_error_there : (a : LoginError.LoginError) → login_error_of (login_error_code a) ≡ Some a
login_error_there LoginError.TheVariants.UnsupportedVersion = refl
login_error_there LoginError.TheVariants.BadCredentials = refl
login_error_there LoginError.TheVariants.AlreadyLoggedIn = refl
login_error_there LoginError.TheVariants.AlreadyInSession = refl

pub logout_there : (a : LogoutReason.LogoutReason) → logout_of (logout_code a) ≡ Some a
logout_there LogoutReason.TheVariants.Requested = refl
logout_there LogoutReason.TheVariants.Idle = refl
logout_there LogoutReason.TheVariants.ProtocolError = refl
logout_there LogoutReason.TheVariants.SlowConsumer = refl
logout_there LogoutReason.TheVariants.Shutdown = refl

pub reject_there : (a : RejectCode.RejectCode) → reject_of (reject_code a) ≡ Some a
reject_there RejectCode.TheVariants.TooManyOrders = refl
reject_there RejectCode.TheVariants.Throttled = refl
reject_there RejectCode.TheVariants.Unavailable = refl
reject_there RejectCode.TheVariants.InsufficientFunds = refl
reject_there RejectCode.TheVariants.NotAllowed = refl
reject_there RejectCode.TheVariants.OffMarket = refl

pub reject_reason_there : (a : RejectReason.RejectReason) → reject_reason_of (reject_reason_code a) ≡ Some a
reject_reason_there RejectReason.TheVariants.InvalidQuantity = refl
reject_reason_there RejectReason.TheVariants.PriceOutOfRange = refl
reject_reason_there RejectReason.TheVariants.PriceOutsideProtection = refl
reject_reason_there RejectReason.TheVariants.DuplicateOrderId = refl
reject_reason_there RejectReason.TheVariants.UnknownOrder = refl
reject_reason_there RejectReason.TheVariants.BookFull = refl
reject_reason_there RejectReason.TheVariants.InvalidOwner = refl
reject_reason_there RejectReason.TheVariants.PostOnlyWouldCross = refl
reject_reason_there RejectReason.TheVariants.InvalidDisplay = refl
reject_reason_there RejectReason.TheVariants.PriceOutsideBand = refl
reject_reason_there RejectReason.TheVariants.StopWouldTrigger = refl
reject_reason_there RejectReason.TheVariants.PendingStop = refl
reject_reason_there RejectReason.TheVariants.AuctionCall = refl
reject_reason_there RejectReason.TheVariants.TradingHalted = refl
reject_reason_there RejectReason.TheVariants.MarketClosed = refl

pub cancel_reason_there : (a : CancelReason.CancelReason) → cancel_reason_of (cancel_reason_code a) ≡ Some a
cancel_reason_there CancelReason.TheVariants.Requested = refl
cancel_reason_there CancelReason.TheVariants.NoLiquidity = refl
cancel_reason_there CancelReason.TheVariants.PriceProtection = refl
cancel_reason_there CancelReason.TheVariants.SelfTrade = refl
cancel_reason_there CancelReason.TheVariants.MassCancel = refl
cancel_reason_there CancelReason.TheVariants.ImmediateOrCancel = refl
cancel_reason_there CancelReason.TheVariants.FillOrKill = refl
cancel_reason_there CancelReason.TheVariants.PriceBand = refl
cancel_reason_there CancelReason.TheVariants.TradingPhase = refl
