-- What a wallet does, over the integers. A wallet's numbers are those of its balance; what a ledger keeps of it are its funds.
use Rattle.std.specs.Prelude.{Bool, true, false, ℕ, ℤ, pos, ◌+ℤ◌, ◌-ℤ◌, ◌*ℤ◌, Option, Some, None, option_map, unwrap_or}
use Rattle.std.specs.Int.Signed.{le_z}
use Rattle.accounts.specs.declared.Funds.{Funds}
use Rattle.orderbook.specs.declared.Side.{Side}
use Rattle.orderbook.specs.declared.Side.TheVariants.{Buy, Sell}
use Rattle.protocol.specs.declared.Balance.{Balance}
use Rattle.wallet.specs.declared.Wallet.{Wallet}
use Rattle.words.specs.Words.{most, int, fit, clamp}

-- price × qty, if it fits
abbrev pub cost : ℤ → ℕ → Option ℤ
cost price qty = fit (price *ℤ pos qty)

-- 2^31: the product of two numbers below it fits
abbrev pub small : ℕ
small = 2147483648

-- the one of the side
abbrev pub pick : Side → ℕ → ℕ → ℕ
pick Buy buy sell = buy
pick Sell buy sell = sell

-- the price with the house's fee for a seat (02, order 7): a buyer pays it, a seller does not
abbrev pub charged : ℤ → Side → ℤ → ℤ
charged fee Buy price = price +ℤ fee
charged fee Sell price = price

-- what an order at a price holds, if it fits: cash for a buy, lots for a sell
abbrev pub hold_of : Side → ℤ → ℕ → Option ℤ
hold_of Buy price leaves = cost price leaves
hold_of Sell price leaves = fit (pos leaves)

-- what a live order holds: 0 without a price or where the amount does not fit
abbrev pub held : Side → Option ℤ → ℕ → ℤ
held side None leaves = pos 0
held side (Some price) leaves = unwrap_or (hold_of side price leaves) (pos 0)

-- a price as it is kept: a flag, and a number that only counts where the flag is set
abbrev pub price_of : Bool → ℤ → Option ℤ
price_of true price = Some price
price_of false price = None

-- the cash and the lots of a trade: 2^63 − 1 where they do not fit
abbrev pub paid : ℤ → ℕ → ℤ
paid price qty = unwrap_or (cost price qty) most

abbrev pub lots : ℕ → ℤ
lots qty = unwrap_or (fit (pos qty)) most

-- a trade moves cash one way and the position the other, saturating
abbrev pub bought : ℤ → ℤ → Funds → Funds
bought amount lots f = record { cash = clamp (f.cash -ℤ amount); position = clamp (f.position +ℤ lots) }

abbrev pub sold : ℤ → ℤ → Funds → Funds
sold amount lots f = record { cash = clamp (f.cash +ℤ amount); position = clamp (f.position -ℤ lots) }

abbrev pub settle : Side → ℤ → ℕ → Funds → Funds
settle Buy price qty f = bought (paid price qty) (lots qty) f
settle Sell price qty f = sold (paid price qty) (lots qty) f

-- amount ≤ total − held
abbrev pub enough : ℤ → ℤ → ℤ → Bool
enough total held amount = le_z amount (total -ℤ held)

-- the numbers of a wallet
abbrev pub balance_of : Wallet → Balance
balance_of w = record { cash = int w.cash; position = int w.position; cash_held = int w.cash_held; position_held = int w.position_held }

abbrev pub funds : Balance → Funds
funds b = record { cash = b.cash; position = b.position }

abbrev pub with_funds : Funds → Balance → Balance
with_funds f b = record { cash = f.cash; position = f.position; cash_held = b.cash_held; position_held = b.position_held }

abbrev pub settled : Side → ℤ → ℕ → Balance → Balance
settled side price qty b = with_funds (settle side price qty (funds b)) b

abbrev pub new : Funds → Balance
new f = record { cash = f.cash; position = f.position; cash_held = pos 0; position_held = pos 0 }

-- a buy needs and holds cash, a sell the position
abbrev pub owned_on : Side → Balance → ℤ
owned_on Buy b = b.cash
owned_on Sell b = b.position

abbrev pub held_on : Side → Balance → ℤ
held_on Buy b = b.cash_held
held_on Sell b = b.position_held

abbrev pub with_held : Side → ℤ → Balance → Balance
with_held Buy total b = record { cash = b.cash; position = b.position; cash_held = total; position_held = b.position_held }
with_held Sell total b = record { cash = b.cash; position = b.position; cash_held = b.cash_held; position_held = total }

abbrev pub covers : Side → ℤ → Balance → Bool
covers side amount b = enough (owned_on side b) (held_on side b) amount

-- an order's hold changes from old to new: the exact total decides whether it fits
abbrev pub hold : Side → ℤ → ℤ → Balance → Option Balance
hold side old new b = option_map (λ total. with_held side total b) (fit (held_on side b -ℤ old +ℤ new))

-- what the code's answer says
abbrev pub changed : Option Wallet → Option Balance
changed (Some w) = Some (balance_of w)
changed None = None
