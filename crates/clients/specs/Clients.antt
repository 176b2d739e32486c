-- The rows of accounts and sessions: what a reader finds, and what each operation writes, as a store.
use Rattle.std.specs.Prelude.{ℕ, ◌+◌, ◌-◌, ◌^◌, ◌<◌, ◌≡◌, cond, List, [], ◌∷◌, get_or, Option, Some, None}
use Rattle.accounts.specs.declared.Account.{Account}
use Rattle.accounts.specs.declared.Funds.{Funds}
use Rattle.words.specs.Words.{int, word_of}
use Rattle.wallet.specs.declared.Wallet.{Wallet}
use Rattle.risk.specs.declared.Bucket.{Bucket}
use Rattle.risk.specs.Throttle as Throttle
use Rattle.gateway.specs.Limits.{owner_slots, session_slots}
use Rattle.gateway.specs.Rest as Rest
use Rattle.store.specs.Cells as C
use Rattle.store.specs.View.{Row, Store, write, flag, optional, session}
use Rattle.clients.specs.declared.Session.{Session}

-- ---- rows

-- the limits of an account are of 32 bits
pub record LimitsFit (r : Row) : Type 0 where
  pub max_open_fits : r C.account_max_open < 2 ^ 32
  pub rate_fits : r C.account_rate < 2 ^ 32

-- and so for every account
pub record Limited (s : Store) : Type 0 where
  pub limits : (i : ℕ) → i < owner_slots → LimitsFit (s C.accounts i)

abbrev pub funds : Row → Option Funds
funds r =
    cond (flag (r C.account_funded))
    (Some (record { cash = int (r C.account_funds_cash); position = int (r C.account_funds_position) }))
    None

abbrev pub wallet_words : Row → Wallet
wallet_words r =
    record {
      cash = r C.account_cash;
      position = r C.account_position;
      cash_held = r C.account_cash_held;
      position_held = r C.account_position_held;
    }

abbrev pub session_words : Row → Session
session_words r =
    record {
      connected = r C.session_connected;
      account = r C.session_account;
      last_received = r C.session_last_received;
      last_sent = r C.session_last_sent;
      closing = r C.session_closing;
      subscribed = r C.session_subscribed;
    }

-- the row with these words, and the session that it holds
abbrev pub session_row : Session → Row
session_row x k = get_or (x.connected ∷ x.account ∷ x.last_received ∷ x.last_sent ∷ x.closing ∷ x.subscribed ∷ []) k 0

abbrev pub session_in : Session → Option Rest.Session
session_in x = session (session_row x)

-- the account that the session of a row is logged in for, plus one; 0 for none
abbrev pub logged_in : Row → ℕ
logged_in r = cond (flag (r C.session_connected)) (r C.session_account) 0

pub record AccountOf (x : Session) (r : ℕ) : Type 0 where
  pub exact : r ≡ logged_in (session_row x)
  pub known : optional r ≡ Rest.account_of (session_in x)

-- ---- what is written

-- numbers in cells of one row
unfoldable pub put_cells : ℕ → ℕ → List (ℕ × ℕ) → Store → Store
put_cells b i [] s = s
put_cells b i (c ∷ cs) s = put_cells b i cs (write b i c.0 c.1 s)

abbrev pub money_cells : ℕ → ℕ → List (ℕ × ℕ)
money_cells cash position = (C.account_cash, cash) ∷ (C.account_position, position) ∷ []

abbrev pub set_money : ℕ → ℕ → ℕ → Store → Store
set_money i cash position = put_cells C.accounts i (money_cells cash position)

abbrev pub bucket_cells : Bucket → List (ℕ × ℕ)
bucket_cells b = (C.account_tokens, b.tokens) ∷ (C.account_refilled, b.refilled) ∷ []

abbrev pub set_bucket : ℕ → Bucket → Store → Store
set_bucket i b = put_cells C.accounts i (bucket_cells b)

abbrev pub limit_cells : Account → List (ℕ × ℕ)
limit_cells a =
    (C.account_exists, 1) ∷ (C.account_token, a.token) ∷ (C.account_max_open, a.max_open_orders)
    ∷ (C.account_rate, a.messages_per_second) ∷ []

abbrev pub set_limits : ℕ → Account → Store → Store
set_limits i a = put_cells C.accounts i (limit_cells a)

-- the funds that an account starts with, which it owns at first
abbrev pub fund_cells : ℕ → ℕ → List (ℕ × ℕ)
fund_cells cash position =
    (C.account_funded, 1) ∷ (C.account_funds_cash, cash) ∷ (C.account_funds_position, position) ∷ (C.account_cash, cash)
    ∷ (C.account_position, position) ∷ []

abbrev pub fund : ℕ → ℕ → ℕ → Store → Store
fund i cash position = put_cells C.accounts i (fund_cells cash position)

abbrev pub funds_cells : Option Funds → List (ℕ × ℕ)
funds_cells None = (C.account_funded, 0) ∷ []
funds_cells (Some f) = fund_cells (word_of f.cash) (word_of f.position)

abbrev pub set_funds : ℕ → Option Funds → Store → Store
set_funds i f = put_cells C.accounts i (funds_cells f)

-- a new account; it has no live orders and no session, and those cells stay
abbrev pub add_account : Account → Store → Store
add_account a s =
    set_bucket a.id (Throttle.full a.messages_per_second) (set_funds a.id a.funds (set_limits a.id a s))

abbrev pub connect_cells : ℕ → List (ℕ × ℕ)
connect_cells t =
    (C.session_connected, 1) ∷ (C.session_account, 0) ∷ (C.session_last_received, t) ∷ (C.session_last_sent, t) ∷ (C.session_closing, 0)
    ∷ (C.session_subscribed, 0) ∷ []

abbrev pub connect : ℕ → ℕ → Store → Store
connect i t = put_cells C.sessions i (connect_cells t)

abbrev pub set_received : ℕ → ℕ → Store → Store
set_received i t = write C.sessions i C.session_last_received t

abbrev pub set_sent : ℕ → ℕ → Store → Store
set_sent i t = write C.sessions i C.session_last_sent t

abbrev pub set_closing : ℕ → Store → Store
set_closing i = write C.sessions i C.session_closing 1

abbrev pub set_subscribed : ℕ → Store → Store
set_subscribed i = write C.sessions i C.session_subscribed 1

-- session i and account a name each other
abbrev pub log_in : ℕ → ℕ → Store → Store
log_in i a s = write C.accounts a C.account_session (i + 1) (write C.sessions i C.session_account (a + 1) s)

-- account a, plus one, has no session; 0 is nobody
abbrev pub leave : ℕ → Store → Store
leave a s = cond (flag a) (write C.accounts (a - 1) C.account_session 0 s) s

abbrev pub forget : ℕ → Store → Store
forget i s = write C.sessions i C.session_connected 0 (leave (logged_in (s C.sessions i)) s)

-- ---- sessions and accounts name each other

pub record Linked (s : Store) : Type 0 where
  pub forth : (i a : ℕ) → i < session_slots → Rest.account_of (session (s C.sessions i)) ≡ Some a →
      (a < owner_slots) × (s C.accounts a C.account_session ≡ i + 1)
  pub back : (a i : ℕ) → a < owner_slots → s C.accounts a C.account_session ≡ i + 1 →
      (i < session_slots) × (Rest.account_of (session (s C.sessions i)) ≡ Some a)
