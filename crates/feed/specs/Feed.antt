-- Publishing in steps: what each notice, each session, each trade and each changed level sends.
use Rattle.std.specs.Prelude.{ℕ, ◌+◌, ◌-◌, ◌*◌, ◌≤◌, ◌<◌, ◌≡◌, true, cond, ◌&&◌, List, [], ◌∷◌, map, get_or, pos, is_some, Option, Some, None}
use Rattle.orderbook.specs.declared.Side.TheVariants.{Buy}
use Rattle.protocol.specs.declared.Outbound.TheVariants as Out
use Rattle.protocol.specs.declared.TradeTick.{TradeTick}
use Rattle.gateway.specs.Basics.{each}
use Rattle.gateway.specs.Limits.{owner_slots, session_slots, most_trades, most_notices, most_changed}
use Rattle.gateway.specs.Depth as D
use Rattle.gateway.specs.Rest.{Mail, send, session_at, is_open, is_subscribed, each_session}
use Rattle.gateway.specs.Entry.{balance, balance_to, level_to, changes_to, notice_mail}
use Rattle.gateway.specs.Calls.{Gateway}
use Rattle.outcome.specs.Parts.{Steps, Stepped}

-- mail that went out from place i on, and the place behind it
abbrev pub Told : (Gateway → List Mail) → (i next : ℕ) → (xs ys out end : List ℕ) → Type 0
Told f i next = Stepped (λ g j. f g) i 0 next

-- ---- balances

abbrev pub notice_step : Steps
notice_step g j = notice_mail (get_or g.rest.notices j 0) g.core g.rest

abbrev pub balances : Gateway → List Mail
balances g = each (λ a. notice_mail a g.core g.rest) g.rest.notices

-- session s is told of account a's wallet
pub record Receiver (a s : ℕ) (g : Gateway) : Type 0 where
  pub told : notice_mail a g.core g.rest ≡ balance_to s (balance a g.core)
  pub slot : s < session_slots
  pub owner : a < owner_slots
  pub funded : is_some (balance a g.core) ≡ true

-- or nobody is
abbrev pub Receives : ℕ → Option ℕ → Gateway → Type 0
Receives a None g = notice_mail a g.core g.rest ≡ []
Receives a (Some s) g = Receiver a s g

-- ---- the market's changes

abbrev pub changes_step : Steps
changes_step g s = cond (is_open (session_at s g.rest) && is_subscribed (session_at s g.rest)) (changes_to s g.rest) []

abbrev pub market : Gateway → List Mail
market g = each_session (λ s x. cond (is_open x && is_subscribed x) (changes_to s g.rest) []) g.rest

-- trades
abbrev pub no_trade : TradeTick
no_trade = record { seq = 0; trade_id = 0; side = Buy; price = pos 0; qty = 0 }

abbrev pub trade_step : ℕ → Steps
trade_step s g j = send s (Out.TradeTick (get_or g.rest.trades j no_trade)) ∷ []

abbrev pub trades_to : ℕ → Gateway → List Mail
trades_to s g = map (λ t. send s (Out.TradeTick t)) g.rest.trades

-- changed levels, as they are now
abbrev pub key_at : Gateway → ℕ → D.Key
key_at g j = get_or g.rest.depth.changed j (Buy, pos 0)

abbrev pub level_step : ℕ → Steps
level_step s g j = level_to s g.rest.delivered (key_at g j).0 (D.level (key_at g j) g.rest.depth) ∷ []

abbrev pub levels_to : ℕ → Gateway → List Mail
levels_to s g = map (λ k. level_to s g.rest.delivered k.0 (D.level k g.rest.depth)) g.rest.depth.changed

-- ---- how much there can be: rows to one session, to all, and with the balances
abbrev pub most_changes : ℕ
most_changes = most_trades + most_changed

abbrev pub most_market : ℕ
most_market = session_slots * most_changes

abbrev pub most_mail : ℕ
most_mail = most_notices + most_market
