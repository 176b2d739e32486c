-- What each operation writes, as a store.
use Rattle.std.specs.Prelude.{ℕ, zero, suc, ◌+◌, ◌-◌, ◌%◌, ◌^◌, ◌<◌, ◌≡◌, List, [], ◌∷◌, cond, ◌&&◌, eqb, get_or, Option, Some, None, ℤ}
use Rattle.std.specs.Int.{w64}
use Rattle.std.proofs.Common.{SFits}
use Rattle.orderbook.specs.declared.Side.{Side}
use Rattle.orderbook.specs.declared.Side.TheVariants.{Buy, Sell}
use Rattle.orderbook.specs.declared.Command.{Command}
use Rattle.orderbook.specs.declared.Command.TheVariants.{Limit, Market, Cancel, Modify, Stop, CancelAll, SetPhase}
use Rattle.protocol.specs.Codes.{side_code, tif_code}
use Rattle.words.specs.Words.{int, word_of}
use Rattle.gateway.specs.Bytes.{price_flag, price_word}
use Rattle.gateway.specs.Core.{Flight}
use Rattle.gateway.specs.Depth.{Key, is_changed}
use Rattle.gateway.specs.Ledger.{owner_of}
use Rattle.gateway.specs.Limits.{most_in_flight}
use Rattle.store.specs.Cells as C
use Rattle.store.specs.View.{Row, Store, word, write, fill, flag, optional, side, changed_key, depth}
use Rattle.pending.specs.declared.Flight as F
use Rattle.pending.specs.declared.Trade as T
use Rattle.pending.specs.declared.changed.Changed as L

-- a row behind the others of a block; the word k has how many there are
abbrev pub push_row : ℕ → ℕ → List ℕ → Store → Store
push_row b k vs s = write C.header 0 k (word s k + 1) (fill b (word s k) 0 vs s)

-- account a behind the last notice, where it counts as k of them: 0 or 1
abbrev pub notices : ℕ → ℕ → Store → Store
notices a k s = write C.header 0 C.notice_rows (word s C.notice_rows + k) (write C.notices (word s C.notice_rows) C.notice_account a s)

-- a trade; its side and its price are a code and a word
abbrev pub trade : ℕ → ℕ → ℕ → ℕ → ℕ → Store → Store
trade seq id side price qty = push_row C.trades C.trade_rows (seq ∷ id ∷ side ∷ price ∷ qty ∷ [])

-- the next command is in flight: its sender is one more than a session's number, or 0
abbrev pub take_off : ℕ → ℕ → ℕ → Store → Store
take_off sender owner places s =
    write C.header 0 C.flying (word s C.flying + 1)
    (write C.header 0 C.last (word s C.last + 1) (fill C.flights ((word s C.last + 1) % most_in_flight) 0 (sender ∷ owner ∷ places ∷ []) s))

-- an event of number n: the commands below n have had theirs
abbrev pub land : ℕ → Store → Store
land n s = write C.header 0 C.flying (word s C.last + 1 - n) s

-- the command n in flight, by the words of its row
abbrev pub in_flight_as : ℕ → F.Flight → Flight
in_flight_as n r = record { number = n; session = optional r.sender; owner = r.owner; places = flag r.places }

-- a trade's row, by its words
abbrev pub trade_words : Row → T.Trade
trade_words r =
    record { seq = r C.trade_seq; trade_id = r C.trade_trade_id; side = r C.trade_side; price = r C.trade_price; qty = r C.trade_qty }

-- ---- changed levels

abbrev pub changed_words : Row → L.Changed
changed_words r = record { side = r C.changed_side; price = r C.changed_price }

-- the level of a side's code and a price's word
abbrev pub key : ℕ → ℕ → Key
key s p = (side s, int p)

-- each side has 1,024 slots, and a level that of its price's word
abbrev pub side_slots : ℕ
side_slots = 1024

abbrev pub first_slot : Side → ℕ
first_slot Buy = 0
first_slot Sell = side_slots

unfoldable pub slot : Key → ℕ
slot k = first_slot k.0 + word_of k.1 % side_slots

abbrev pub slots : ℕ
slots = 2048

-- the slot of the row j
abbrev pub slot_at : Store → ℕ → ℕ
slot_at s j = slot (changed_key (s C.changed j))

-- one more than the last of the first n rows that has the slot k, or 0
unfoldable pub newest : Store → ℕ → ℕ → ℕ
newest s k zero = 0
newest s k (suc n) = cond (eqb (slot_at s n) k) (suc n) (newest s k n)

-- the top of the slot k
abbrev pub top : Store → ℕ → ℕ
top s k = s C.tops k C.top_row

-- a row leads to the last one before it of its slot, and a slot to its newest row
pub record Chained (s : Store) : Type 0 where
  pub links : (j : ℕ) → j < word s C.changed_rows → s C.changed j C.changed_link ≡ newest s (slot_at s j) j
  pub tops : (k : ℕ) → k < slots → top s k ≡ newest s k (word s C.changed_rows)

-- a new level, before the others of its slot
abbrev pub push_level : ℕ → ℕ → Store → Store
push_level x p s =
    let k = slot (key x p) in
    write C.tops k C.top_row (word s C.changed_rows + 1) (push_row C.changed C.changed_rows (x ∷ p ∷ top s k ∷ []) s)

-- the level changed: it is listed once
unfoldable pub remember : ℕ → ℕ → Store → Store
remember x p s = cond (is_changed (key x p) (depth s).changed) s (push_level x p s)

-- the slots of the first n rows have no top any more
abbrev pub forget_tops : ℕ → Store → Store
forget_tops n s b k l = cond (eqb b C.tops && (flag (newest s k n) && eqb l C.top_row)) 0 (s b k l)

-- nothing waits any more, and what was delivered is published
abbrev pub published : Store → Store
published s =
    write C.header 0 C.published (word s C.delivered)
    (write C.header 0 C.changed_rows 0
    (write C.header 0 C.notice_rows 0 (write C.header 0 C.trade_rows 0 (forget_tops (word s C.changed_rows) s))))

-- ---- the batch

-- a phase change is never in it
abbrev pub Batched : Command → Type 0
Batched (SetPhase p) = ⊥
Batched (Limit id owner s price qty t d) = Unit {0}
Batched (Market id owner s qty) = Unit {0}
Batched (Cancel id owner) = Unit {0}
Batched (Modify id owner price qty) = Unit {0}
Batched (Stop id owner s trigger limit qty) = Unit {0}
Batched (CancelAll owner) = Unit {0}

-- whether a quantity is there, and the quantity or 0
abbrev pub qty_flag : Option ℕ → ℕ
qty_flag None = 0
qty_flag (Some q) = 1

abbrev pub qty_word : Option ℕ → ℕ
qty_word None = 0
qty_word (Some q) = q

-- a command's row, in the order of Cells; a cell that its kind does not have is 0. A phase change is never written
abbrev pub command_row : Command → List ℕ
command_row (Limit id owner s price qty t d) = 0 ∷ id ∷ owner ∷ side_code s ∷ word_of price ∷ qty ∷ tif_code t ∷ qty_flag d ∷ qty_word d ∷ 0 ∷ 0 ∷ 0 ∷ []
command_row (Market id owner s qty) = 1 ∷ id ∷ owner ∷ side_code s ∷ 0 ∷ qty ∷ 0 ∷ 0 ∷ 0 ∷ 0 ∷ 0 ∷ 0 ∷ []
command_row (Cancel id owner) = 2 ∷ id ∷ owner ∷ 0 ∷ 0 ∷ 0 ∷ 0 ∷ 0 ∷ 0 ∷ 0 ∷ 0 ∷ 0 ∷ []
command_row (Modify id owner price qty) = 3 ∷ id ∷ owner ∷ 0 ∷ word_of price ∷ qty ∷ 0 ∷ 0 ∷ 0 ∷ 0 ∷ 0 ∷ 0 ∷ []
command_row (Stop id owner s trigger limit qty) = 4 ∷ id ∷ owner ∷ side_code s ∷ 0 ∷ qty ∷ 0 ∷ 0 ∷ 0 ∷ word_of trigger ∷ price_flag limit ∷ price_word limit ∷ []
command_row (CancelAll owner) = 5 ∷ 0 ∷ owner ∷ 0 ∷ 0 ∷ 0 ∷ 0 ∷ 0 ∷ 0 ∷ 0 ∷ 0 ∷ 0 ∷ []
command_row (SetPhase p) = 6 ∷ 0 ∷ 0 ∷ 0 ∷ 0 ∷ 0 ∷ 0 ∷ 0 ∷ 0 ∷ 0 ∷ 0 ∷ 0 ∷ []

abbrev pub command_push : Command → Store → Store
command_push c = push_row C.batch C.waiting (command_row c)

-- the batch is handed over
abbrev pub clear_batch : Store → Store
clear_batch = write C.header 0 C.waiting 0

-- a row by its cells
abbrev pub by_cell : List ℕ → Row
by_cell vs k = get_or vs k 0

-- prices are numbers of 64 bits
abbrev pub MaybeFits : Option ℤ → Type 0
MaybeFits None = Unit {0}
MaybeFits (Some p) = SFits w64 p

abbrev pub PricesFit : Command → Type 0
PricesFit (Limit id owner s price qty t d) = SFits w64 price
PricesFit (Market id owner s qty) = Unit {0}
PricesFit (Cancel id owner) = Unit {0}
PricesFit (Modify id owner price qty) = SFits w64 price
PricesFit (Stop id owner s trigger limit qty) = SFits w64 trigger × MaybeFits limit
PricesFit (CancelAll owner) = Unit {0}
PricesFit (SetPhase p) = Unit {0}

-- the owner and the prices of a command are numbers of their Rust types
pub record Typed (c : Command) : Type 0 where
  pub owner_fits : owner_of c < 2 ^ 32
  pub prices_fit : PricesFit c

-- a row's owner is a number of 32 bits, and so in every row of the batch
pub record CommandFits (r : Row) : Type 0 where
  pub owner_fits : r C.command_owner < 2 ^ 32

abbrev pub BatchFits : Store → Type 0
BatchFits s = (j : ℕ) → j < word s C.waiting → CommandFits (s C.batch j)

-- ---- words of the header

abbrev pub set_clock : ℕ → Store → Store
set_clock = write C.header 0 C.clock

abbrev pub set_delivered : ℕ → Store → Store
set_delivered = write C.header 0 C.delivered

-- one more than the percent, or 0
abbrev pub set_collar : ℕ → Store → Store
set_collar = write C.header 0 C.collar

abbrev pub set_mark : ℕ → Store → Store
set_mark price = fill C.header 0 C.marked (1 ∷ price ∷ [])
