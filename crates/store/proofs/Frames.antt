-- The view sees the cells of the layout alone: stores with the same cells hold the same gateway. Assumes nothing.
use mathlib.Core.Path.{◌≡◌, ap, ap₂, ◌∙◌}
use mathlib.Core.List.{map}
use Prim.Native.Nat.{ℕ, ◌+◌, ◌-◌, ◌%◌, ◌≤◌, ◌<◌}
use native.Mathlib.Omega.{arith}
use Rattle.table.specs.Live.{live}
use Rattle.table.proofs.Live.{live_ext}
use Rattle.words.specs.Words.{int}
use Rattle.gateway.specs.Limits.{owner_slots, session_slots, most_in_flight}
use Rattle.store.specs.Layout.{blocks, rows, width}
use Rattle.store.specs.Cells as C
use Rattle.store.specs.View.{Row, Store, Same, listed, optional, maybe_price, word, account, wallet, bucket, session, flight, command, order, resting, trade, changed_key, marked, in_slot, flights, gateway, Bounds}
use Rattle.store.proofs.Listed.{listed_ext}

-- two rows agree in their first n cells
abbrev pub Agree : ℕ → Row → Row → Type 0
Agree n q r = (k : ℕ) → k < n → q k ≡ r k

account_same : (i : ℕ) (q r : Row) → Agree 16 q r → account i q ≡ account i r
account_same i q r h = rw (h C.account_exists (omega arith), h C.account_token (omega arith), h C.account_max_open (omega arith), h C.account_rate (omega arith), h C.account_funded (omega arith), h C.account_funds_cash (omega arith), h C.account_funds_position (omega arith))

wallet_same : (q r : Row) → Agree 16 q r → wallet q ≡ wallet r
wallet_same q r h = rw (h C.account_funded (omega arith), h C.account_cash (omega arith), h C.account_position (omega arith))

bucket_same : (q r : Row) → Agree 16 q r → bucket q ≡ bucket r
bucket_same q r h = rw (h C.account_tokens (omega arith), h C.account_refilled (omega arith))

session_same : (q r : Row) → Agree 8 q r → session q ≡ session r
session_same q r h = rw (h C.session_connected (omega arith), h C.session_account (omega arith), h C.session_last_received (omega arith), h C.session_last_sent (omega arith), h C.session_closing (omega arith), h C.session_subscribed (omega arith))

flight_same : (n : ℕ) (q r : Row) → Agree 4 q r → flight n q ≡ flight n r
flight_same n q r h = rw (h C.flight_sender (omega arith), h C.flight_owner (omega arith), h C.flight_places (omega arith))

command_same : (q r : Row) → Agree 12 q r → command q ≡ command r
command_same q r h = rw (h C.command_kind (omega arith), h C.command_id (omega arith), h C.command_owner (omega arith), h C.command_side (omega arith), h C.command_price (omega arith), h C.command_qty (omega arith), h C.command_tif (omega arith), h C.command_displayed (omega arith), h C.command_display (omega arith), h C.command_trigger (omega arith), h C.command_limited (omega arith), h C.command_limit (omega arith))

pub order_same : (q r : Row) → Agree 16 q r → order q ≡ order r
order_same q r h = rw (h C.order_number (omega arith), h C.order_account (omega arith), h C.order_client_ref (omega arith), h C.order_side (omega arith), h C.order_priced (omega arith), h C.order_price (omega arith), h C.order_leaves (omega arith))

pub resting_same : (q r : Row) → Agree 16 q r → resting q ≡ resting r
resting_same q r h = rw (h C.order_number (omega arith), h C.order_rest_side (omega arith), h C.order_rest_price (omega arith), h C.order_visible (omega arith), h C.order_rest_leaves (omega arith))

trade_same : (q r : Row) → Agree 6 q r → trade q ≡ trade r
trade_same q r h = rw (h C.trade_seq (omega arith), h C.trade_trade_id (omega arith), h C.trade_side (omega arith), h C.trade_price (omega arith), h C.trade_qty (omega arith))

changed_key_same : (q r : Row) → Agree 2 q r → changed_key q ≡ changed_key r
changed_key_same q r h = rw (h C.changed_side (omega arith), h C.changed_price (omega arith))

module _ (s t : Store) (b : Bounds s) (e : Same s t) where
  -- the cells of a block's row
  row_agrees : (c i n : ℕ) → c < blocks → i < rows c → n ≤ width c → Agree n (s c i) (t c i)
  row_agrees c i n p q h k l = e c i k (record { block_is = p; row_is = q; cell_is = omega arith })

  word_same : (k : ℕ) → k < 32 → word s k ≡ word t k
  word_same k l = row_agrees C.header 0 32 (omega arith) (omega arith) (omega arith) k l

  -- a list of the first n rows of a block
  rows_same : {A : Type 0} (c m n : ℕ) (f : ℕ → Row → A) → ((i : ℕ) (q r : Row) → Agree m q r → f i q ≡ f i r) → c < blocks → n ≤ rows c → m ≤ width c →
      listed (λ i. f i (s c i)) n ≡ listed (λ i. f i (t c i)) n
  rows_same c m n f h p q w = listed_ext (λ i. f i (t c i)) (λ i. f i (s c i)) n (λ j l. h j (s c j) (t c j) (row_agrees c j m p (omega arith) w))

  marked_same : {A : Type 0} (k : ℕ) (f : Row → A) → k < 16 → ((q r : Row) → Agree 16 q r → f q ≡ f r) → marked s k f ≡ marked t k f
  marked_same {A} k f l h =
      ap (map (λ (p : ℕ × A). p.1))
      (live_ext (λ (p : ℕ × A). p.0) (λ i. (t C.orders i k, f (t C.orders i))) (λ i. (s C.orders i k, f (s C.orders i))) (word s C.order_rows)
      (λ j m.
      let g = row_agrees C.orders j 16 (omega arith) (omega (arith, b.orders_fit)) (omega arith) in
      ap₂ (λ (x : ℕ) (y : A). (x, y)) (g k l) (h (s C.orders j) (t C.orders j) g))
      ∙ ap (live (λ (p : ℕ × A). p.0) (λ i. (t C.orders i k, f (t C.orders i)))) (word_same C.order_rows (omega arith)))

  slot_same : (n : ℕ) → in_slot s n ≡ in_slot t n
  slot_same n = flight_same n _ _ (row_agrees C.flights (n % most_in_flight) 4 (omega arith) (omega arith) (omega arith))

  flights_same : flights s ≡ flights t
  flights_same =
      listed_ext (λ j. in_slot t (word t C.last + 1 + j - word t C.flying)) (λ j. in_slot s (word s C.last + 1 + j - word s C.flying)) (word s C.flying)
      (λ j l.
      slot_same (word s C.last + 1 + j - word s C.flying)
      ∙ ap₂ (λ (x y : ℕ). in_slot t (x + 1 + j - y)) (word_same C.last (omega arith)) (word_same C.flying (omega arith)))
      ∙ ap (listed (λ j. in_slot t (word t C.last + 1 + j - word t C.flying))) (word_same C.flying (omega arith))

  -- as many rows as a word says
  counted_same : {A : Type 0} (c m k : ℕ) (f : ℕ → Row → A) → ((i : ℕ) (q r : Row) → Agree m q r → f i q ≡ f i r) → c < blocks → word s k ≤ rows c → m ≤ width c → k < 32 →
      listed (λ i. f i (s c i)) (word s k) ≡ listed (λ i. f i (t c i)) (word t k)
  counted_same c m k f h p q w l = rows_same c m (word s k) f h p q w ∙ ap (listed (λ i. f i (t c i))) (word_same k l)

  pub gateway_same : gateway s ≡ gateway t
  gateway_same =
      λ z.
      record {
        core =
            record {
              ledger =
                  record {
                    last = w C.last (omega arith) z;
                    wallets = rows_same C.accounts 16 owner_slots (λ i r. wallet r) (λ i. wallet_same) (omega arith) (omega arith) (omega arith) z;
                    orders = marked_same C.order_live order (omega arith) order_same z;
                    mark = ap₂ (λ x y. maybe_price x y) (w C.marked (omega arith)) (w C.mark (omega arith)) z;
                    fee = ap int (w C.fee (omega arith)) z;
                  };
              flights = flights_same z;
              accounts = counted_same C.accounts 16 C.owner_limit account account_same (omega arith) b.accounts_fit (omega arith) (omega arith) z;
            };
        rest =
            record {
              timing = record { heartbeat = w C.heartbeat (omega arith) z; idle_timeout = w C.idle_timeout (omega arith) z };
              clock = w C.clock (omega arith) z;
              sessions = rows_same C.sessions 8 session_slots (λ i r. session r) (λ i. session_same) (omega arith) (omega arith) (omega arith) z;
              buckets = rows_same C.accounts 16 owner_slots (λ i r. bucket r) (λ i. bucket_same) (omega arith) (omega arith) (omega arith) z;
              batch = counted_same C.batch 12 C.waiting (λ i r. command r) (λ i. command_same) (omega arith) b.batch_fits (omega arith) (omega arith) z;
              delivered = w C.delivered (omega arith) z;
              published = w C.published (omega arith) z;
              depth =
                  record {
                    resting = marked_same C.order_resting resting (omega arith) resting_same z;
                    changed = counted_same C.changed 2 C.changed_rows (λ i r. changed_key r) (λ i. changed_key_same) (omega arith) b.changed_fit (omega arith) (omega arith) z;
                  };
              trades = counted_same C.trades 6 C.trade_rows (λ i r. trade r) (λ i. trade_same) (omega arith) b.trades_fit (omega arith) (omega arith) z;
              notices = counted_same C.notices 1 C.notice_rows (λ i r. r C.notice_account) (λ i q r h. h C.notice_account (omega arith)) (omega arith) (omega (arith, b.notices_fit)) (omega arith) (omega arith) z;
              collar = ap optional (w C.collar (omega arith)) z;
            };
      }
    where
      w : (k : ℕ) → k < 32 → word s k ≡ word t k
      w = word_same
