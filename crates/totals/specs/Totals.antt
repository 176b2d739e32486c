-- The orders that set-up and restore are given, and what those of each wallet hold.
use Rattle.std.specs.Prelude.{ℕ, ◌≤◌, ◌≡◌, Bool, true, cond, ◌&&◌, List, map, ℤ, eqb, drop, Option, is_some}
use Rattle.orderbook.specs.declared.Side.{Side}
use Rattle.orderbook.specs.declared.Side.TheVariants.{Buy, Sell}
use Rattle.accounts.specs.declared.Funds.{Funds}
use Rattle.gateway.specs.Limits.{owner_slots, most_orders}
use Rattle.gateway.specs.Ledger.{Order, same_side, held, fits}
use Rattle.gateway.specs.Ledger as Ledger
use Rattle.gateway.specs.Listing.{live}
use Rattle.gateway.specs.Bytes.{decode}
use Rattle.gateway.specs.Start.{funds_in}
use Rattle.store.specs.View.{listed}
use Rattle.roster.specs.declared.Roster.{Roster}
use Rattle.roster.specs.Rostered.{account_of}
use Rattle.listing.specs.Rows.{rows, listing}
use Rattle.saved.specs.Contents.{saved_of}
use Rattle.totals.specs.declared.Source.{Source}
use Rattle.totals.specs.declared.Source.TheVariants.{Listing, Saved}

-- in the order in which they stand
abbrev pub orders_in : Source → List ℕ → List Order
orders_in Listing xs = map live (listing xs)
orders_in Saved xs = (saved_of xs).orders

-- a listing of at most 1,024 rows, or bytes that are well formed
abbrev pub Readable : Source → List ℕ → Type 0
Readable Listing xs = rows xs ≤ most_orders
Readable Saved xs = is_some (decode xs) ≡ true

-- a listed order (kind 0) has a price, a stop where it has a limit
abbrev pub priced : ℕ → ℕ → ℕ
priced kind limited = cond (eqb kind 0) 1 limited

abbrev pub is_of : ℕ → Side → Order → Bool
is_of a z o = eqb o.account a && same_side z o.side

abbrev pub both_fit : ℤ → ℕ → List Order → Bool
both_fit fee a os = fits (held fee a Buy os) && fits (held fee a Sell os)

-- the wallets that a roster's accounts bring, by number
abbrev pub funds : Roster → List (Option Funds)
funds r = listed (λ a. funds_in (account_of r a)) owner_slots

-- code 7 for those numbered from a on
abbrev pub wallets_fit : ℤ → Roster → ℕ → List Order → Bool
wallets_fit fee r a os = Ledger.wallets_fit fee a (drop a (funds r)) os
