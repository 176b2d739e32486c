-- The invariant of the gateway: set-up and restore begin with it, and every call keeps it (proofs/Restart.antt).
use Rattle.std.specs.Prelude.{ℕ, ◌+◌, ◌≤◌, ◌<◌, true, ◌≡◌, List, [], ◌∷◌, length, get_or, Option, Some, None, is_some}
use Rattle.protocol.specs.declared.TradeTick.{TradeTick}
use Rattle.accounts.specs.declared.Account.{Account}
use Rattle.accounts.specs.declared.Funds.{Funds}
use Rattle.table.specs.Live.{Each}
use Rattle.gateway.specs.Limits.{owner_slots, session_slots, most_orders, most_in_flight, most_in_batch, most_trades, most_notices}
use Rattle.gateway.specs.Table.{Rises}
use Rattle.gateway.specs.Ledger.{Order, Ledger, number_of, holds_fit}
use Rattle.gateway.specs.Core.{Flight, Core}
use Rattle.gateway.specs.Depth.{Depth, resting_number, levels_fit, depth_few}
use Rattle.gateway.specs.Rest.{Session, Rest, account_of}
use Rattle.gateway.specs.Calls.{Gateway, Call, call}
use Rattle.gateway.specs.Start.{funds_in}
use Rattle.gateway.specs.Fits.{Unsigned, PriceFits, FundsFit}
use Rattle.gateway.specs.Restart.{next_of}

-- ---- numbers fit their Rust types

pub record OrderFits (o : Order) : Type 0 where
  pub ref_fits : Unsigned o.client_ref
  pub price_fits : PriceFits o.price
  pub leaves_fit : Unsigned o.leaves

abbrev pub WalletFits : Option Funds → Type 0
WalletFits None = Unit {0}
WalletFits (Some w) = FundsFit w

abbrev pub WalletsFit : List (Option Funds) → Type 0
WalletsFit [] = Unit {0}
WalletsFit (w ∷ ws) = WalletFits w × WalletsFit ws

pub record LedgerFits (l : Ledger) : Type 0 where
  pub last_fits : Unsigned l.last
  pub money_fits : WalletsFit l.wallets
  pub orders_fit : Each OrderFits l.orders
  pub mark_fits : PriceFits l.mark

-- ---- the core

-- a wallet where the account has funds, and only there
abbrev pub Owned : List (Option Account) → List (Option Funds) → Type 0
Owned t ws = (i : ℕ) → is_some (get_or ws i None) ≡ is_some (funds_in (get_or t i None))

-- an order's number is at most the last, and its account is below the owner limit
abbrev pub Inside : ℕ → ℕ → Order → Type 0
Inside last limit o = (o.number ≤ last) × (o.account < limit)

-- commands in flight: consecutive numbers that end at the last
abbrev pub Runs : ℕ → List Flight → Type 0
Runs last [] = Unit {0}
Runs last (f ∷ fs) = (f.number + length fs ≡ last) × Runs last fs

pub record CoreOk (c : Core) : Type 0 where
  pub slots : length c.ledger.wallets ≡ owner_slots
  pub owned : Owned c.accounts c.ledger.wallets
  pub rise : Rises number_of 0 c.ledger.orders
  pub inside : Each (Inside c.ledger.last (length c.accounts)) c.ledger.orders
  pub few : length c.ledger.orders ≤ most_orders
  pub runs : Runs c.ledger.last c.flights
  pub flying : length c.flights ≤ most_in_flight
  pub holds : holds_fit c.ledger ≡ true
  pub limit : length c.accounts ≤ owner_slots
  pub fit : LedgerFits c.ledger

-- ---- the rest

-- the account of the session in slot i
abbrev pub at : List (Option Session) → ℕ → Option ℕ
at xs i = account_of (get_or xs i None)

-- an account that a session is logged in for exists
abbrev pub Known : List (Option Account) → Option ℕ → Type 0
Known t None = Unit {0}
Known t (Some a) = is_some (get_or t a None) ≡ true

-- no two sessions have one account
pub record SessionsOk (t : List (Option Account)) (xs : List (Option Session)) : Type 0 where
  pub slots : length xs ≡ session_slots
  pub known : (i : ℕ) → Known t (at xs i)
  pub single : (a i j : ℕ) → at xs i ≡ Some a → at xs j ≡ Some a → i ≡ j

-- the depth and what waits to be published
pub record FeedOk (d : Depth) (ts : List TradeTick) (ns : List ℕ) : Type 0 where
  pub ascending : Rises resting_number 0 d.resting
  pub fit : levels_fit d.resting ≡ true
  pub few : depth_few d ≡ true
  pub few_trades : length ts ≤ most_trades
  pub few_notices : length ns ≤ most_notices

-- of accounts t and the last number
pub record RestOk (t : List (Option Account)) (last : ℕ) (r : Rest) : Type 0 where
  pub sessions : SessionsOk t r.sessions
  pub buckets : length r.buckets ≡ owner_slots
  pub batch : length r.batch ≤ most_in_batch
  pub delivered : r.delivered ≤ last
  pub feed : FeedOk r.depth r.trades r.notices

-- ---- the whole

pub record GatewayOk (g : Gateway) : Type 0 where
  pub core_is : CoreOk g.core
  pub rest_is : RestOk g.core.accounts g.core.ledger.last g.rest

-- before each of these calls, and after the last
abbrev pub AllOk : Gateway → List Call → Type 0
AllOk g [] = GatewayOk g
AllOk g (x ∷ xs) = GatewayOk g × AllOk (next_of g (call g x)) xs
