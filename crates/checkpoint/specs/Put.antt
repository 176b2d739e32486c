-- The bytes of the checkpoint, row by row of the state.
use Rattle.std.specs.Prelude.{ℕ, zero, suc, ◌+◌, ◌≡◌, Bool, cond, ◌&&◌, List, [], ◌∷◌, ◌++◌, map, eqb, length, Option, ℤ}
use Rattle.std.proofs.lemmas.List.Edits.{sets}
use Rattle.accounts.specs.declared.Funds.{Funds}
use Rattle.gateway.specs.Basics.{option, is_empty}
use Rattle.gateway.specs.Ledger.{Order}
use Rattle.gateway.specs.Saved.{Saved, contents}
use Rattle.gateway.specs.Bytes.{row, rows, section, head_widths, wallet_widths, order_widths, price_flag, price_word, wallet_row, order_row}
use Rattle.gateway.specs.Calls.{Gateway}
use Rattle.store.specs.Cells as C
use Rattle.store.specs.Layout.{cell}
use Rattle.store.specs.View.{Store, flag, wallet, order, gateway}

-- the batch is empty, and every event was delivered
abbrev pub quiet : Gateway → Bool
quiet g = is_empty g.rest.batch && eqb g.rest.delivered g.core.ledger.last

-- what is saved of a state
abbrev pub saved_in : List ℕ → Saved
saved_in xs = contents (gateway (cell xs)).core.ledger

-- ---- the bytes of each row

unfoldable pub head_bytes : ℕ → Option ℤ → List ℕ
head_bytes last mark = row head_widths (last ∷ price_flag mark ∷ price_word mark ∷ [])

unfoldable pub wallet_bytes : ℕ × Funds → List ℕ
wallet_bytes w = row wallet_widths (wallet_row w)

unfoldable pub order_bytes : Order → List ℕ
order_bytes o = row order_widths (order_row o)

-- of the slot of account a, and of the row j of the table of orders
abbrev pub slot_bytes : Store → ℕ → List ℕ
slot_bytes s a = option [] (λ w. wallet_bytes (a, w)) (wallet (s C.accounts a))

abbrev pub live_bytes : Store → ℕ → List ℕ
live_bytes s j = cond (flag (s C.orders j C.order_live)) (order_bytes (order (s C.orders j))) []

-- the two tables, without their counts
abbrev pub wallets_bytes : Saved → List ℕ
wallets_bytes s = rows wallet_widths (map wallet_row s.wallets)

abbrev pub orders_bytes : Saved → List ℕ
orders_bytes s = rows order_widths (map order_row s.orders)

-- and with them
unfoldable pub wallet_section : Saved → List ℕ
wallet_section s = section wallet_widths (map wallet_row s.wallets)

unfoldable pub order_section : Saved → List ℕ
order_section s = section order_widths (map order_row s.orders)

-- f 0, .., f (n - 1), one behind the other
unfoldable pub joined : (ℕ → List ℕ) → ℕ → List ℕ
joined f zero = []
joined f (suc n) = joined f n ++ f n

-- ---- writing

-- xs with the bytes bs from o on
unfoldable pub put_bytes : ℕ → List ℕ → List ℕ → List ℕ
put_bytes o bs xs = sets xs o bs

-- bs stand from o on, and `next` is the place behind them
pub record Puts (o : ℕ) (bs : List ℕ) (next : ℕ) (out end : List ℕ) : Type 0 where
  pub next_is : next ≡ o + length bs
  pub put : end ≡ put_bytes o bs out
