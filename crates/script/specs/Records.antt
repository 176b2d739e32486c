-- A command by the 12 cells of its row in the batch, and an account by 7 words.
use Rattle.std.specs.Prelude.{ℕ, ◌*◌, ◌/◌, cond, List, eqb, length, take, drop, Option, Some, None}
use Rattle.orderbook.specs.declared.Command.{Command}
use Rattle.orderbook.specs.declared.Command.TheVariants as Co
use Rattle.accounts.specs.declared.Account.{Account}
use Rattle.accounts.specs.declared.Funds.{Funds}
use Rattle.words.specs.Words.{int}
use Rattle.store.specs.View.{listed, flag, side, maybe_price, maybe_qty}
use Rattle.script.specs.Script.{word_at, small_at, price_at, tif_at, phase_at}

-- ---- commands: kind, id, owner, side, price, qty, time in force, displayed, display, trigger, limited, limit

abbrev pub limit : List ℕ → Command
limit xs =
    Co.Limit (word_at xs 1) (small_at xs 2) (side (word_at xs 3)) (price_at xs 4) (word_at xs 5) (tif_at xs) (maybe_qty (word_at xs 7) (word_at xs 8))

abbrev pub market : List ℕ → Command
market xs = Co.Market (word_at xs 1) (small_at xs 2) (side (word_at xs 3)) (word_at xs 5)

abbrev pub cancel : List ℕ → Command
cancel xs = Co.Cancel (word_at xs 1) (small_at xs 2)

abbrev pub modify : List ℕ → Command
modify xs = Co.Modify (word_at xs 1) (small_at xs 2) (price_at xs 4) (word_at xs 5)

abbrev pub stop : List ℕ → Command
stop xs =
    Co.Stop (word_at xs 1) (small_at xs 2) (side (word_at xs 3)) (price_at xs 9) (maybe_price (word_at xs 10) (word_at xs 11)) (word_at xs 5)

-- a phase change, which is never in the batch, has its phase in the cell of the side
abbrev pub command_by : ℕ → List ℕ → Command
command_by k xs =
    cond (eqb k 0) (limit xs)
    (cond (eqb k 1) (market xs)
    (cond (eqb k 2) (cancel xs)
    (cond (eqb k 3) (modify xs)
    (cond (eqb k 4) (stop xs) (cond (eqb k 5) (Co.CancelAll (small_at xs 2)) (Co.SetPhase (phase_at xs 3)))))))

unfoldable pub command_of : List ℕ → Command
command_of xs = command_by (word_at xs 0) xs

-- ---- accounts

abbrev pub funds : ℕ → ℕ → ℕ → Option Funds
funds there cash position = cond (flag there) (Some (record { cash = int cash; position = int position })) None

unfoldable pub account_of : List ℕ → Account
account_of xs =
    record {
      id = small_at xs 0;
      token = word_at xs 1;
      max_open_orders = small_at xs 2;
      messages_per_second = small_at xs 3;
      funds = funds (word_at xs 4) (word_at xs 5) (word_at xs 6);
    }

-- ---- a list of accounts

-- the bytes of a row
abbrev pub account_bytes : ℕ
account_bytes = 56

abbrev pub account_rows : List ℕ → ℕ
account_rows xs = length xs / account_bytes

-- the row j
abbrev pub account_row : List ℕ → ℕ → List ℕ
account_row xs j = take account_bytes (drop (account_bytes * j) xs)

abbrev pub account_at : List ℕ → ℕ → Account
account_at xs j = account_of (account_row xs j)

abbrev pub accounts_in : List ℕ → List Account
accounts_in xs = listed (account_at xs) (account_rows xs)
