-- The limits of document 01 and the refusal codes of documents 01 and 02, each once.
use Rattle.std.specs.Prelude.{ℕ}

abbrev pub owner_slots : ℕ
owner_slots = 256

abbrev pub session_slots : ℕ
session_slots = 64

abbrev pub most_orders : ℕ
most_orders = 1024

abbrev pub most_in_flight : ℕ
most_in_flight = 256

abbrev pub most_in_batch : ℕ
most_in_batch = 256

abbrev pub most_levels : ℕ
most_levels = 512

abbrev pub most_trades : ℕ
most_trades = 256

abbrev pub most_notices : ℕ
most_notices = 2048

abbrev pub most_changed : ℕ
most_changed = 1024

-- the protocol version that a login names (VERSION)
abbrev pub protocol_version : ℕ
protocol_version = 1

-- refusals
abbrev pub out_of_range : ℕ
out_of_range = 1

abbrev pub foreign : ℕ
foreign = 2

abbrev pub exists : ℕ
exists = 3

abbrev pub sequence : ℕ
sequence = 4

abbrev pub full : ℕ
full = 5

abbrev pub too_short : ℕ
too_short = 6

abbrev pub outside : ℕ
outside = 7

abbrev pub inconsistent : ℕ
inconsistent = 8

abbrev pub bad_session : ℕ
bad_session = 9

abbrev pub not_quiet : ℕ
not_quiet = 10

abbrev pub malformed : ℕ
malformed = 11

abbrev pub has_orders : ℕ
has_orders = 12

-- 02, order 7
abbrev pub bad_fee : ℕ
bad_fee = 15
