-- The blocks and their cells by name. A flag is 0 or 1; a signed number is its word; an optional number is 0 where it is absent, else one more.
use Rattle.std.specs.Prelude.{ℕ}

-- ---- one row: the numbers of the whole gateway, and how many rows of the other blocks are in use
abbrev pub header : ℕ
header = 0

abbrev pub last : ℕ
last = 0

abbrev pub delivered : ℕ
delivered = 1

abbrev pub published : ℕ
published = 2

abbrev pub clock : ℕ
clock = 3

abbrev pub marked : ℕ
marked = 4

abbrev pub mark : ℕ
mark = 5

abbrev pub collar : ℕ
collar = 6

abbrev pub owner_limit : ℕ
owner_limit = 7

abbrev pub heartbeat : ℕ
heartbeat = 8

abbrev pub idle_timeout : ℕ
idle_timeout = 9

abbrev pub flying : ℕ
flying = 10

abbrev pub waiting : ℕ
waiting = 11

abbrev pub order_rows : ℕ
order_rows = 12

abbrev pub live_orders : ℕ
live_orders = 13

abbrev pub resting_orders : ℕ
resting_orders = 14

abbrev pub bid_rows : ℕ
bid_rows = 15

abbrev pub ask_rows : ℕ
ask_rows = 16

abbrev pub trade_rows : ℕ
trade_rows = 17

abbrev pub notice_rows : ℕ
notice_rows = 18

abbrev pub changed_rows : ℕ
changed_rows = 19

abbrev pub bid_levels : ℕ
bid_levels = 20

abbrev pub ask_levels : ℕ
ask_levels = 21

abbrev pub fee : ℕ
fee = 22

-- ---- by account number
abbrev pub accounts : ℕ
accounts = 1

abbrev pub account_exists : ℕ
account_exists = 0

abbrev pub account_token : ℕ
account_token = 1

abbrev pub account_max_open : ℕ
account_max_open = 2

abbrev pub account_rate : ℕ
account_rate = 3

abbrev pub account_funded : ℕ
account_funded = 4

abbrev pub account_funds_cash : ℕ
account_funds_cash = 5

abbrev pub account_funds_position : ℕ
account_funds_position = 6

abbrev pub account_cash : ℕ
account_cash = 7

abbrev pub account_position : ℕ
account_position = 8

abbrev pub account_cash_held : ℕ
account_cash_held = 9

abbrev pub account_position_held : ℕ
account_position_held = 10

abbrev pub account_open_orders : ℕ
account_open_orders = 11

abbrev pub account_tokens : ℕ
account_tokens = 12

abbrev pub account_refilled : ℕ
account_refilled = 13

abbrev pub account_session : ℕ
account_session = 14

-- ---- by session number
abbrev pub sessions : ℕ
sessions = 2

abbrev pub session_connected : ℕ
session_connected = 0

abbrev pub session_account : ℕ
session_account = 1

abbrev pub session_last_received : ℕ
session_last_received = 2

abbrev pub session_last_sent : ℕ
session_last_sent = 3

abbrev pub session_closing : ℕ
session_closing = 4

abbrev pub session_subscribed : ℕ
session_subscribed = 5

-- ---- by command number modulo 256
abbrev pub flights : ℕ
flights = 3

abbrev pub flight_sender : ℕ
flight_sender = 0

abbrev pub flight_owner : ℕ
flight_owner = 1

abbrev pub flight_places : ℕ
flight_places = 2

-- ---- commands not yet handed over
abbrev pub batch : ℕ
batch = 4

abbrev pub command_kind : ℕ
command_kind = 0

abbrev pub command_id : ℕ
command_id = 1

abbrev pub command_owner : ℕ
command_owner = 2

abbrev pub command_side : ℕ
command_side = 3

abbrev pub command_price : ℕ
command_price = 4

abbrev pub command_qty : ℕ
command_qty = 5

abbrev pub command_tif : ℕ
command_tif = 6

abbrev pub command_displayed : ℕ
command_displayed = 7

abbrev pub command_display : ℕ
command_display = 8

abbrev pub command_trigger : ℕ
command_trigger = 9

abbrev pub command_limited : ℕ
command_limited = 10

abbrev pub command_limit : ℕ
command_limit = 11

-- ---- ascending by number; an order is live, resting, both, or gone
abbrev pub orders : ℕ
orders = 5

abbrev pub order_number : ℕ
order_number = 0

abbrev pub order_live : ℕ
order_live = 1

abbrev pub order_resting : ℕ
order_resting = 2

abbrev pub order_kept : ℕ
order_kept = 3

abbrev pub order_account : ℕ
order_account = 4

abbrev pub order_client_ref : ℕ
order_client_ref = 5

abbrev pub order_side : ℕ
order_side = 6

abbrev pub order_priced : ℕ
order_priced = 7

abbrev pub order_price : ℕ
order_price = 8

abbrev pub order_leaves : ℕ
order_leaves = 9

abbrev pub order_hold : ℕ
order_hold = 10

abbrev pub order_rest_side : ℕ
order_rest_side = 11

abbrev pub order_rest_price : ℕ
order_rest_price = 12

abbrev pub order_visible : ℕ
order_visible = 13

abbrev pub order_rest_leaves : ℕ
order_rest_leaves = 14

-- the place of its level when it came to rest; it may be wrong
abbrev pub order_level : ℕ
order_level = 15

-- ---- ascending by price; a level without orders is gone
abbrev pub bids : ℕ
bids = 6

abbrev pub level_price : ℕ
level_price = 0

abbrev pub level_qty : ℕ
level_qty = 1

abbrev pub level_orders : ℕ
level_orders = 2

-- ---- ascending by price
abbrev pub asks : ℕ
asks = 7

-- ---- not yet published
abbrev pub trades : ℕ
trades = 8

abbrev pub trade_seq : ℕ
trade_seq = 0

abbrev pub trade_trade_id : ℕ
trade_trade_id = 1

abbrev pub trade_side : ℕ
trade_side = 2

abbrev pub trade_price : ℕ
trade_price = 3

abbrev pub trade_qty : ℕ
trade_qty = 4

-- ---- accounts whose wallets changed since the last publishing
abbrev pub notices : ℕ
notices = 9

abbrev pub notice_account : ℕ
notice_account = 0

-- ---- levels changed since the last publishing
abbrev pub changed : ℕ
changed = 10

abbrev pub changed_side : ℕ
changed_side = 0

abbrev pub changed_price : ℕ
changed_price = 1

-- one more than the last row before it of the same slot
abbrev pub changed_link : ℕ
changed_link = 2

-- ---- rows of orders, by number modulo 16,384, four in a cell of 16 bits each; a hint may be wrong
abbrev pub hints : ℕ
hints = 11

abbrev pub hint_four : ℕ
hint_four = 0

-- ---- by a changed level's slot: one more than the newest row of the slot, or 0
abbrev pub tops : ℕ
tops = 12

abbrev pub top_row : ℕ
top_row = 0

-- ---- a bit for each row of bids: 1 where it is a level
abbrev pub bid_map : ℕ
bid_map = 13

-- 64 rows
abbrev pub map_bits : ℕ
map_bits = 0

-- ---- of asks
abbrev pub ask_map : ℕ
ask_map = 14

-- ---- of orders: 1 where it is kept
abbrev pub order_map : ℕ
order_map = 15
