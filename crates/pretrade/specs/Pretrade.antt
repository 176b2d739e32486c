-- The tests of an order-entry message, in 01's order.
use Rattle.std.specs.Prelude.{ℕ, ◌≡◌, Bool, true, false, cond, ◌&&◌, List, [], ◌∷◌, ◌++◌, ℤ, pos, ◌+ℤ◌, ◌-ℤ◌, length, ltb, leb, Option, Some, None, is_some}
use Rattle.std.specs.Int.Signed.{le_z}
use Rattle.orderbook.specs.declared.Side.{Side}
use Rattle.orderbook.specs.declared.Command.{Command}
use Rattle.protocol.specs.declared.Inbound.TheVariants as In
use Rattle.protocol.specs.declared.NewOrder.{NewOrder}
use Rattle.protocol.specs.declared.OrderKind.{OrderKind}
use Rattle.protocol.specs.declared.RejectCode.{RejectCode}
use Rattle.protocol.specs.declared.RejectCode.TheVariants.{TooManyOrders, Throttled, Unavailable, InsufficientFunds, NotAllowed, OffMarket}
use Rattle.accounts.specs.declared.Funds.{Funds}
use Rattle.wallet.specs.Wallet as W
use Rattle.risk.specs.Collar.{near_market}
use Rattle.gateway.specs.Basics.{option}
use Rattle.gateway.specs.Limits.{most_orders, most_notices}
use Rattle.gateway.specs.Ledger.{command, fits, held, open_of}
use Rattle.gateway.specs.Core.{Tests, Core, account_at, fits_after}
use Rattle.gateway.specs.Entry.{next, new_notice, price_of, command_of, wallet_at, balance_with, covered, most_open, paper_tests}
use Rattle.gateway.specs.Fits.{InboundFits}
use Rattle.gateway.specs.Calls.{Gateway}
use Rattle.store.specs.Layout.{cell}
use Rattle.store.specs.View.{gateway}
use Rattle.orders.specs.declared.Live.{Live}
use Rattle.orders.specs.Orders as Orders
use Rattle.outcome.specs.Between.{Between}
use Rattle.commands.specs.Commands as Commands

-- ---- judging

-- the code of the first test that fails
abbrev pub first : Tests RejectCode → Option RejectCode
first [] = None
first (t ∷ ts) = cond t.1 (first ts) (Some t.0)

-- between calls, account a exists
pub record Exists (a : ℕ) (xs : List ℕ) : Type 0 where
  pub between : Between xs
  pub exists : is_some (account_at a (gateway (cell xs)).core) ≡ true

-- the tests of a command that places nothing; `allowed` is what it asks itself
abbrev pub other_tests : Bool → Bool → Gateway → Tests RejectCode
other_tests passed allowed g = (Throttled, passed) ∷ (NotAllowed, allowed) ∷ (Unavailable, Commands.can_number g) ∷ []

-- a hold of h more is not negative, and the free part of account a's wallet w covers it
abbrev pub is_free : ℤ → Side → ℕ → Core → Funds → Bool
is_free h s a c w = le_z (pos 0) h && W.covers s h (balance_with c.ledger.fee a c.ledger.orders w)

abbrev pub is_covered : Side → ℤ → ℕ → ℕ → Core → Funds → Bool
is_covered s p q a c w = covered c.ledger.fee s p q a w c.ledger.orders

-- what a wallet's account is asked of a limit order at p
abbrev pub limit_tests : Side → ℤ → ℕ → ℕ → Gateway → Tests RejectCode
limit_tests s p q a g =
    (OffMarket, near_market p g.rest.collar g.core.ledger.mark)
    ∷ (InsufficientFunds, option false (is_covered s p q a g.core) (wallet_at a g.core))
    ∷ []

-- and of any order; an account without a wallet is asked nothing
abbrev pub paper : ℕ → Side → ℕ → OrderKind → Gateway → Tests RejectCode
paper a s q k g = option [] (paper_tests a s q g.core g.rest k) (wallet_at a g.core)

-- what account a's orders of a side hold, with h more, is in range; an account without a wallet always passes
abbrev pub hold_fits : ℕ → Side → ℤ → Gateway → Bool
hold_fits a s h g = cond (is_some (wallet_at a g.core)) (fits (held g.core.ledger.fee a s g.core.ledger.orders -ℤ pos 0 +ℤ h)) true

abbrev pub the_command : ℕ → NewOrder → Core → Command
the_command a o c = command_of (next c) a o.side o.qty o.kind

-- room for the order, for its notice and for its hold: the last three tests of `new_tests`
abbrev pub has_place : ℕ → NewOrder → Gateway → Bool
has_place a o g =
    ltb (length g.core.ledger.orders) most_orders
    && (leb (length (g.rest.notices ++ new_notice g.core.ledger.fee a o (wallet_at a g.core))) most_notices && fits_after (command (next g.core) (the_command a o g.core)) g.core)

abbrev pub has_room : ℕ → NewOrder → Gateway → Bool
has_room a o g = Commands.can_number g && has_place a o g

abbrev pub new_order_tests : ℕ → NewOrder → Bool → Gateway → Tests RejectCode
new_order_tests a o passed g =
    (Throttled, passed)
    ∷ (TooManyOrders, ltb (open_of a g.core.ledger.orders) (most_open (account_at a g.core)))
    ∷ (paper a o.side o.qty o.kind g ++ ((Unavailable, has_room a o g) ∷ []))

-- o has the words of account a's new order, whose numbers fit their Rust types
pub record Stands (a : ℕ) (q : NewOrder) (o : Live) : Type 0 where
  pub is : (n : ℕ) → Orders.order_of n o ≡ record { number = n; account = a; client_ref = q.client_ref; side = q.side; price = price_of q.kind; leaves = q.qty }
  pub fits : InboundFits (In.NewOrder q)
