-- A login: why it is refused, and what it is told.
use Rattle.std.specs.Prelude.{ℕ, suc, ◌+◌, ◌<◌, ◌≡◌, Bool, true, cond, ◌&&◌, List, [], ◌∷◌, ◌++◌, map, eqb, leb, Option, Some, None, is_some}
use Rattle.protocol.specs.declared.LoginError.{LoginError}
use Rattle.protocol.specs.declared.LoginError.TheVariants.{AlreadyLoggedIn}
use Rattle.protocol.specs.declared.Outbound.TheVariants as Out
use Rattle.protocol.specs.declared.Report.{Report}
use Rattle.protocol.specs.declared.ReportKind.TheVariants.{Rested}
use Rattle.words.specs.Words.{int}
use Rattle.table.specs.Live.{live}
use Rattle.gateway.specs.Basics.{each}
use Rattle.gateway.specs.Limits.{owner_slots, session_slots}
use Rattle.gateway.specs.Ledger.{Order}
use Rattle.gateway.specs.Rest.{Mail, send, Rest, session_at, session_of, account_of, is_present, update_session, set_account}
use Rattle.gateway.specs.Core.{Core}
use Rattle.gateway.specs.Entry.{wallet_at, balance, balance_to, open_order}
use Rattle.gateway.specs.Calls.{Gateway}
use Rattle.store.specs.Cells as C
use Rattle.store.specs.View.{Row, Store, flag, side, order}
use Rattle.sound.specs.Sound.{State}
use Rattle.outcome.specs.Parts.{rest_of, heard}

-- of an account that is known: whether a session is logged in for it
abbrev pub session_error : Bool → Option LoginError
session_error taken = cond taken (Some AlreadyLoggedIn) None

-- ---- what an accepted login is told

-- its open orders
abbrev pub open_mail : ℕ → ℕ → Gateway → List Mail
open_mail s a g = each (open_order s a g.core.ledger.last g.rest.delivered) g.core.ledger.orders

-- that it is accepted, its balance if it has a wallet, its open orders
abbrev pub login_mail : ℕ → ℕ → Gateway → List Mail
login_mail s a g = (send s (Out.LoginAccepted a g.core.ledger.last) ∷ balance_to s (balance a g.core)) ++ open_mail s a g

-- the rest after it, before the stamps
abbrev pub logged : ℕ → ℕ → ℕ → Rest → Rest
logged s a t r = update_session s (set_account a) (heard s t r)

-- an order of account a that is told: it has a price, and its command was delivered
abbrev pub is_told : ℕ → ℕ → Order → Bool
is_told a delivered o = (eqb o.account a && leb o.number delivered) && is_some o.price

abbrev pub told_rows : ℕ → ℕ → List Order → ℕ
told_rows a delivered [] = 0
told_rows a delivered (o ∷ os) = cond (is_told a delivered o) (suc (told_rows a delivered os)) (told_rows a delivered os)

-- how many messages an accepted login is sent
abbrev pub balance_rows : ℕ → Core → ℕ
balance_rows a c = cond (is_some (wallet_at a c)) 1 0

abbrev pub login_rows : ℕ → Gateway → ℕ
login_rows a g = 1 + balance_rows a g.core + told_rows a g.rest.delivered g.core.ledger.orders

-- ---- row by row

-- the live orders of the first n rows
abbrev pub first_orders : Store → ℕ → List Order
first_orders s n = map (λ (p : ℕ × Order). p.1) (live (λ (p : ℕ × Order). p.0) (λ i. (s C.orders i C.order_live, order (s C.orders i))) n)

-- the row holds a live order that is told
abbrev pub row_told : ℕ → ℕ → Row → Bool
row_told a delivered r = flag (r C.order_live) && is_told a delivered (order r)

abbrev pub report_of : ℕ → Row → Report
report_of last r =
    record {
      seq = last;
      order_id = r C.order_number;
      client_ref = r C.order_client_ref;
      kind = Rested (side (r C.order_side)) (int (r C.order_price)) (r C.order_leaves) (r C.order_leaves);
    }

abbrev pub row_mail : ℕ → ℕ → Gateway → Row → List Mail
row_mail s a g r = cond (row_told a g.rest.delivered r) (send s (Out.Report (report_of g.core.ledger.last r)) ∷ []) []

-- ---- what logging in asks

-- session s is there without an account, and no session is logged in for account a
pub record Free (s a : ℕ) (xs : List ℕ) : Type 0 where
  pub state : State xs
  pub slot : s < session_slots
  pub owner : a < owner_slots
  pub present : is_present (session_at s (rest_of xs)) ≡ true
  pub nobody : account_of (session_at s (rest_of xs)) ≡ None
  pub alone : session_of a (rest_of xs) ≡ None
