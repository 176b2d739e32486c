-- A book listing in lent bytes: rows of 8 words. Any bytes are a listing; what is left over behind the last row is not read.
use Rattle.std.specs.Prelude.{ℕ, ◌+◌, ◌*◌, ◌/◌, cond, List, eqb, length, drop}
use Rattle.le.specs.Le.{le}
use Rattle.words.specs.Words.{int}
use Rattle.orderbook.specs.declared.Listed.{Listed}
use Rattle.orderbook.specs.declared.Listed.TheVariants as L
use Rattle.store.specs.View.{listed, side, maybe_price}
use Rattle.listing.specs.declared.Entry.{Entry}

-- the bytes of a row
abbrev pub row_bytes : ℕ
row_bytes = 64

abbrev pub word_at : List ℕ → ℕ → ℕ → ℕ
word_at xs j k = le 8 xs (row_bytes * j + 8 * k)

-- the words of the row j
abbrev pub entry : List ℕ → ℕ → Entry
entry xs j =
    record {
      kind = word_at xs j 0;
      number = word_at xs j 1;
      owner = word_at xs j 2;
      side = word_at xs j 3;
      priced = word_at xs j 4;
      price = word_at xs j 5;
      leaves = word_at xs j 6;
      visible = word_at xs j 7;
    }

-- kind 0 is a resting order, any other a stop, whose price is its limit
unfoldable pub listed_as : Entry → Listed
listed_as e =
    cond (eqb e.kind 0) (L.Order e.number e.owner (side e.side) (int e.price) e.leaves e.visible)
    (L.Stop e.number e.owner (side e.side) (maybe_price e.priced e.price) e.leaves)

abbrev pub rows : List ℕ → ℕ
rows xs = length xs / row_bytes

abbrev pub row : List ℕ → ℕ → Listed
row xs j = listed_as (entry xs j)

abbrev pub listing : List ℕ → List Listed
listing xs = listed (row xs) (rows xs)

-- the rows from j on
abbrev pub from : ℕ → List ℕ → List Listed
from j xs = drop j (listing xs)
