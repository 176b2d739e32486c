-- Numbers of the entry points as values: options, reasons, the answers of `wallet` and `detach`.
use Rattle.std.specs.Prelude.{ℕ, pos, Option, Some, None, unwrap_or}
use Rattle.accounts.specs.declared.Timing.{Timing}
use Rattle.protocol.specs.declared.Balance as B
use Rattle.protocol.specs.declared.LogoutReason.{LogoutReason}
use Rattle.protocol.specs.declared.LogoutReason.TheVariants.{Requested}
use Rattle.gateway.specs.Entry.{Answer, nothing, account_was, wallet_is, number_is, levels_are, commands, bytes}
use Rattle.gateway.specs.Calls.{Outcome, refused, done}
use Rattle.numbers.specs.declared.Number.{Number}
use Rattle.numbers.specs.declared.Wallet.{Wallet}
use Rattle.numbers.specs.declared.Account.{Account}

-- ---- reasons

abbrev pub reason_or : Option LogoutReason → LogoutReason
reason_or why = unwrap_or why Requested

-- ---- answers: the code, and every field 0 where the call is refused or nothing is there

abbrev pub number_in : Answer → ℕ
number_in (number_is n) = n
number_in nothing = 0
number_in (account_was a) = 0
number_in (wallet_is b) = 0
number_in (levels_are ls) = 0
number_in (commands ks) = 0
number_in (bytes bs) = 0

abbrev pub number_of : Outcome → Number
number_of (refused k) = record { code = k; number = 0 }
number_of (done a is ms g) = record { code = 0; number = number_in a }

abbrev pub wallet_in : Answer → Option B.Balance
wallet_in (wallet_is b) = b
wallet_in nothing = None
wallet_in (account_was a) = None
wallet_in (number_is n) = None
wallet_in (levels_are ls) = None
wallet_in (commands ks) = None
wallet_in (bytes bs) = None

abbrev pub no_wallet : ℕ → Wallet
no_wallet code = record { code = code; there = 0; cash = pos 0; position = pos 0; cash_held = pos 0; position_held = pos 0 }

abbrev pub wallet_row : Option B.Balance → Wallet
wallet_row None = no_wallet 0
wallet_row (Some b) =
    record { code = 0; there = 1; cash = b.cash; position = b.position; cash_held = b.cash_held; position_held = b.position_held }

abbrev pub wallet_of : Outcome → Wallet
wallet_of (refused k) = no_wallet k
wallet_of (done a is ms g) = wallet_row (wallet_in a)

abbrev pub account_in : Answer → Option ℕ
account_in (account_was a) = a
account_in nothing = None
account_in (wallet_is b) = None
account_in (number_is n) = None
account_in (levels_are ls) = None
account_in (commands ks) = None
account_in (bytes bs) = None

abbrev pub no_account : ℕ → Account
no_account code = record { code = code; there = 0; account = 0 }

abbrev pub account_row : Option ℕ → Account
account_row None = no_account 0
account_row (Some a) = record { code = 0; there = 1; account = a }

abbrev pub account_of : Outcome → Account
account_of (refused k) = no_account k
account_of (done a is ms g) = account_row (account_in a)

-- ---- what a start is given

abbrev pub timing : (heartbeat idle_timeout : ℕ) → Timing
timing heartbeat idle_timeout = record { heartbeat = heartbeat; idle_timeout = idle_timeout }
