-- What a reader finds in a checkpoint's bytes that are well formed.
use Rattle.std.specs.Prelude.{ℕ, ◌≤◌, ◌≡◌, List, [], map, pos, length, get_or, drop, None}
use Rattle.orderbook.specs.declared.Side.TheVariants.{Sell}
use Rattle.accounts.specs.declared.Funds.{Funds}
use Rattle.words.specs.Words.{int}
use Rattle.gateway.specs.Basics.{option}
use Rattle.gateway.specs.Ledger.{Order}
use Rattle.gateway.specs.Saved.{Saved}
use Rattle.gateway.specs.Bytes.{rows, order_widths, order_row, decode}
use Rattle.orders.specs.declared.Live.{Live}
use Rattle.orders.specs.Orders.{order_of}
use Rattle.saved.specs.declared.Purse.{Purse}

abbrev pub nothing : Saved
nothing = record { last = 0; mark = None; wallets = []; orders = [] }

-- the contents that are decoded, where the bytes are well formed
unfoldable pub saved_of : List ℕ → Saved
saved_of xs = option nothing (λ s. s) (decode xs)

-- ---- the wallets and the orders, one by one

abbrev pub no_wallet : ℕ × Funds
no_wallet = (0, record { cash = pos 0; position = pos 0 })

abbrev pub wallet_at : List ℕ → ℕ → ℕ × Funds
wallet_at xs j = get_or (saved_of xs).wallets j no_wallet

abbrev pub no_order : Order
no_order = record { number = 0; account = 0; client_ref = 0; side = Sell; price = None; leaves = 0 }

abbrev pub order_at : List ℕ → ℕ → Order
order_at xs j = get_or (saved_of xs).orders j no_order

-- a wallet with these words
abbrev pub wallet_of : Purse → ℕ × Funds
wallet_of p = (p.account, record { cash = int p.cash; position = int p.position })

-- the words of an order, before it is known what it holds
pub record Reads (o : Order) (r : Live) : Type 0 where
  pub order_is : order_of o.number r ≡ o
  pub hold_is : r.hold ≡ 0

-- ---- the order section

-- its bytes, without the count; none where the bytes are malformed
unfoldable pub order_section : List ℕ → List ℕ
order_section xs = option [] (λ (s : Saved). rows order_widths (map order_row s.orders)) (decode xs)

-- r is where they start
pub record Start (xs : List ℕ) (r : ℕ) : Type 0 where
  pub is : drop r xs ≡ order_section xs
  pub within : r ≤ length xs
