-- The number of each case of an enum without data (the wire codes of crates/protocol/src/lib.rs), and the case of a number.
use Rattle.std.specs.Prelude.{ℕ, List, [], ◌∷◌, get_or, Option, Some, None}
pub use Rattle.orderbook.specs.Codes.{side_code, side_of, tif_code, tif_cases, tif_of, phase_code, phase_cases, phase_of, reject_reason_code, reject_reason_cases, reject_reason_of, cancel_reason_code, cancel_reason_cases, cancel_reason_of}
use Rattle.protocol.specs.declared.LoginError as LoginError
use Rattle.protocol.specs.declared.LogoutReason as LogoutReason
use Rattle.protocol.specs.declared.RejectCode as RejectCode

abbrev pub login_error_code : LoginError.LoginError → ℕ
login_error_code LoginError.TheVariants.UnsupportedVersion = 1
login_error_code LoginError.TheVariants.BadCredentials = 2
login_error_code LoginError.TheVariants.AlreadyLoggedIn = 3
login_error_code LoginError.TheVariants.AlreadyInSession = 4

abbrev pub login_error_cases : List (Option LoginError.LoginError)
login_error_cases =
    None
    ∷ Some LoginError.TheVariants.UnsupportedVersion
    ∷ Some LoginError.TheVariants.BadCredentials
    ∷ Some LoginError.TheVariants.AlreadyLoggedIn
    ∷ Some LoginError.TheVariants.AlreadyInSession ∷ []

abbrev pub login_error_of : ℕ → Option LoginError.LoginError
login_error_of n = get_or login_error_cases n None

abbrev pub logout_code : LogoutReason.LogoutReason → ℕ
logout_code LogoutReason.TheVariants.Requested = 1
logout_code LogoutReason.TheVariants.Idle = 2
logout_code LogoutReason.TheVariants.ProtocolError = 3
logout_code LogoutReason.TheVariants.SlowConsumer = 4
logout_code LogoutReason.TheVariants.Shutdown = 5

abbrev pub logout_cases : List (Option LogoutReason.LogoutReason)
logout_cases =
    None
    ∷ Some LogoutReason.TheVariants.Requested
    ∷ Some LogoutReason.TheVariants.Idle
    ∷ Some LogoutReason.TheVariants.ProtocolError
    ∷ Some LogoutReason.TheVariants.SlowConsumer
    ∷ Some LogoutReason.TheVariants.Shutdown ∷ []

abbrev pub logout_of : ℕ → Option LogoutReason.LogoutReason
logout_of n = get_or logout_cases n None

abbrev pub reject_code : RejectCode.RejectCode → ℕ
reject_code RejectCode.TheVariants.TooManyOrders = 1
reject_code RejectCode.TheVariants.Throttled = 2
reject_code RejectCode.TheVariants.Unavailable = 3
reject_code RejectCode.TheVariants.InsufficientFunds = 4
reject_code RejectCode.TheVariants.NotAllowed = 5
reject_code RejectCode.TheVariants.OffMarket = 6

abbrev pub reject_cases : List (Option RejectCode.RejectCode)
reject_cases =
    None
    ∷ Some RejectCode.TheVariants.TooManyOrders
    ∷ Some RejectCode.TheVariants.Throttled
    ∷ Some RejectCode.TheVariants.Unavailable
    ∷ Some RejectCode.TheVariants.InsufficientFunds
    ∷ Some RejectCode.TheVariants.NotAllowed
    ∷ Some RejectCode.TheVariants.OffMarket ∷ []

abbrev pub reject_of : ℕ → Option RejectCode.RejectCode
reject_of n = get_or reject_cases n None
