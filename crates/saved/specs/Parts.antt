-- The parts of a checkpoint's bytes by their places, and the tests of each.
use Rattle.std.specs.Prelude.{ℕ, zero, suc, ◌+◌, ◌*◌, Bool, ◌&&◌, List, [], ◌∷◌, eqb, leb, length, get_or}
use Rattle.le.specs.Le.{le}
use Rattle.le.specs.Row.{span, gets}
use Rattle.gateway.specs.Bytes.{Raw, head_widths, wallet_widths, order_widths, keys_rise, all_rows}

-- how many wallets and orders there are, and where their rows start
abbrev pub wallet_count : List ℕ → ℕ
wallet_count xs = le 4 xs 17

abbrev pub order_count : List ℕ → ℕ
order_count xs = le 4 xs (21 + 20 * wallet_count xs)

abbrev pub wallets_start : ℕ
wallets_start = 21

abbrev pub orders_start : List ℕ → ℕ
orders_start xs = 25 + 20 * wallet_count xs

-- no bytes are missing, and there are none behind the last order
unfoldable pub sized : List ℕ → Bool
sized xs =
    leb 21 (length xs)
    && (leb (25 + 20 * wallet_count xs) (length xs) && eqb (length xs) (25 + 20 * wallet_count xs + 37 * order_count xs))

-- the row j of those that start at o; and n rows
abbrev pub row_at : (ws xs : List ℕ) (o j : ℕ) → List ℕ
row_at ws xs o j = gets ws xs (o + span ws * j)

unfoldable pub rows_at : (ws xs : List ℕ) (o n : ℕ) → List (List ℕ)
rows_at ws xs o zero = []
rows_at ws xs o (suc n) = gets ws xs o ∷ rows_at ws xs (o + span ws) n

abbrev pub raw_of : List ℕ → Raw
raw_of xs =
    record {
      head = gets head_widths xs 0;
      wallets = rows_at wallet_widths xs wallets_start (wallet_count xs);
      orders = rows_at order_widths xs (orders_start xs) (order_count xs);
    }

-- ---- tests of a table

-- a row's first field
abbrev pub key_at : (ws xs : List ℕ) (o j : ℕ) → ℕ
key_at ws xs o j = get_or (row_at ws xs o j) 0 0

-- the least key that row j may have
abbrev pub least_key : (ws xs : List ℕ) (o j : ℕ) → ℕ
least_key ws xs o zero = 0
least_key ws xs o (suc j) = suc (key_at ws xs o j)

abbrev pub rises : (ws xs : List ℕ) (o j : ℕ) → Bool
rises ws xs o j = leb (least_key ws xs o j) (key_at ws xs o j)

abbrev pub row_fits : (List ℕ → Bool) → (ws xs : List ℕ) (o j : ℕ) → Bool
row_fits fine ws xs o j = rises ws xs o j && fine (row_at ws xs o j)

abbrev pub rows_fit : (List ℕ → Bool) → List (List ℕ) → Bool
rows_fit fine rs = keys_rise 0 rs && all_rows fine rs
