-- Which rows are messages, events, commands and accounts: the length is the row's, and each number that its kind reads is in its enum or its
-- integer type. A word that the kind does not read may be anything.
use Rattle.std.specs.Prelude.{ℕ, zero, suc, ◌-◌, ◌%◌, Bool, true, false, cond, not, ◌&&◌, List, eqb, leb, length}
use Rattle.protocol.specs.Codes.{tif_cases, phase_cases, reject_reason_cases, cancel_reason_cases}
use Rattle.script.specs.Script.{word_at}
use Rattle.script.specs.Records.{account_bytes, account_rows, account_row}

-- the greatest numbers of 16 and of 32 bits
abbrev pub most_16 : ℕ
most_16 = 65535

abbrev pub most_32 : ℕ
most_32 = 4294967295

-- the last code of each enum (protocol/specs/Codes.antt)
abbrev pub last_tif : ℕ
last_tif = length tif_cases - 1

abbrev pub last_phase : ℕ
last_phase = length phase_cases - 1

abbrev pub last_reject : ℕ
last_reject = length reject_reason_cases - 1

abbrev pub last_cancel : ℕ
last_cancel = length cancel_reason_cases - 1

-- the word i is at most m
abbrev pub at_most : List ℕ → ℕ → ℕ → Bool
at_most xs i m = leb (word_at xs i) m

-- a flag, or a side
abbrev pub is_bit : List ℕ → ℕ → Bool
is_bit xs i = at_most xs i 1

abbrev pub are_bits : List ℕ → ℕ → ℕ → Bool
are_bits xs i j = is_bit xs i && is_bit xs j

-- the codes of reasons start at 1
abbrev pub is_reason : List ℕ → ℕ → ℕ → Bool
is_reason xs i m = not (at_most xs i 0) && at_most xs i m

-- the word i is at most m, and the word j a number of 32 bits
abbrev pub are_small : List ℕ → ℕ → ℕ → ℕ → Bool
are_small xs i m j = at_most xs i m && at_most xs j most_32

-- ---- messages

-- a limit order's time in force, and whether it has a display
abbrev pub limit_fits : List ℕ → Bool
limit_fits xs = at_most xs 6 last_tif && is_bit xs 7

-- a limit order, a market order, a stop
abbrev pub kind_fits : ℕ → List ℕ → Bool
kind_fits k xs = cond (eqb k 0) (limit_fits xs) (cond (eqb k 1) true (cond (eqb k 2) (is_bit xs 6) false))

abbrev pub order_fits : List ℕ → Bool
order_fits xs = is_bit xs 2 && kind_fits (word_at xs 4) xs

-- a login's version and account; a new order; the others have whole words
abbrev pub message_fits : ℕ → List ℕ → Bool
message_fits k xs = cond (eqb k 0) (are_small xs 1 most_16 2) (cond (eqb k 3) (order_fits xs) (leb k 7))

unfoldable pub is_message : List ℕ → Bool
is_message xs = eqb (length xs) 128 && message_fits (word_at xs 0) xs

-- ---- events

abbrev pub event_fits : ℕ → List ℕ → Bool
event_fits k xs =
    cond (eqb k 1) (is_reason xs 2 last_reject)
    (cond (eqb k 2) (is_bit xs 4)
    (cond (eqb k 3) (is_bit xs 2)
    (cond (eqb k 4) (is_bit xs 2)
    (cond (eqb k 5) (is_reason xs 3 last_cancel)
    (cond (eqb k 7) (are_bits xs 2 4) (cond (eqb k 9) (are_small xs 1 most_32 2) (cond (eqb k 10) (at_most xs 1 last_phase) (leb k 8))))))))

unfoldable pub is_event : List ℕ → Bool
is_event xs = eqb (length xs) 128 && event_fits (word_at xs 0) xs

-- ---- commands: the 12 cells of the batch

abbrev pub limit_command_fits : List ℕ → Bool
limit_command_fits xs = is_bit xs 3 && limit_fits xs

-- beside the owner: the side, and what a limit order has; whether a stop has a limit; a phase
abbrev pub command_fits : ℕ → List ℕ → Bool
command_fits k xs =
    cond (eqb k 0) (limit_command_fits xs)
    (cond (eqb k 1) (is_bit xs 3) (cond (eqb k 4) (are_bits xs 3 10) (cond (eqb k 6) (at_most xs 3 last_phase) (leb k 5))))

abbrev pub owned_fits : List ℕ → Bool
owned_fits xs = at_most xs 2 most_32 && command_fits (word_at xs 0) xs

unfoldable pub is_command : List ℕ → Bool
is_command xs = eqb (length xs) 96 && owned_fits xs

-- ---- accounts: id, token, most open orders, messages a second, whether it has funds, cash, position

abbrev pub limits_fit : List ℕ → Bool
limits_fit xs = are_small xs 2 most_32 3 && is_bit xs 4

abbrev pub account_fits : List ℕ → Bool
account_fits xs = at_most xs 0 most_32 && limits_fit xs

unfoldable pub is_account : List ℕ → Bool
is_account xs = eqb (length xs) 56 && account_fits xs

-- ---- rows in a list

-- each of the first n rows passes a test
unfoldable pub all_fit : (ℕ → Bool) → ℕ → Bool
all_fit fits zero = true
all_fit fits (suc n) = all_fit fits n && fits n

abbrev pub is_account_at : List ℕ → ℕ → Bool
is_account_at xs j = is_account (account_row xs j)

-- whole rows, and each an account
unfoldable pub are_accounts : List ℕ → Bool
are_accounts xs = eqb (length xs % account_bytes) 0 && all_fit (is_account_at xs) (account_rows xs)
