-- Events of one order that change the book: the tests in the code's words, what is asked before they are applied, and the gateway after them.
use Rattle.std.specs.Prelude.{ℕ, ◌+◌, ◌≤◌, ◌≡◌, Bool, true, not, leb, ℤ, length, None, is_some}
use Rattle.orderbook.specs.declared.Side.{Side}
use Rattle.words.specs.Words.{int}
use Rattle.gateway.specs.Limits.{most_notices}
use Rattle.gateway.specs.Core.{in_flight}
use Rattle.gateway.specs.Depth.{Resting, Depth, find_resting, where_resting, add, levels_fit, depth_few}
use Rattle.gateway.specs.Fits.{Signed, Unsigned}
use Rattle.gateway.specs.Deliver.{change_notices}
use Rattle.gateway.specs.Calls.{Gateway}
use Rattle.orders.specs.declared.Resting as Words
use Rattle.orders.specs.Orders.{resting_of}
use Rattle.marketdata.specs.Marketdata.{with_depth, Roomy, Judged, replenished}
use Rattle.reporting.specs.declared.Told.{Told}
use Rattle.reporting.specs.Reporting.{told_rows}
use Rattle.delivery.specs.declared.Tests as T
use Rattle.delivery.specs.Delivery.{landed}
use Rattle.holds.specs.declared.Move.{Move}
use Rattle.holds.specs.declared.Shift.{Shift}
use Rattle.holds.specs.Holds.{change_of, moved, shift_fits, few_notices}
use Rattle.shows.specs.Shows.{touched_few}

-- ---- a live order changes, and its level where it rests

-- of an event whose hold fits, whose notices are few, and that is told in this many rows
abbrev pub changed_tests : (n i : ℕ) (fits few : Bool) (rows room : ℕ) → Gateway → T.Tests
changed_tests n i fits few rows room g =
    record {
      flying = in_flight n g.core;
      below = true;
      numbers = leb i n;
      agrees = true;
      holds = fits;
      levels = true;
      depth = touched_few i g.rest.depth;
      trades = true;
      notices = few;
      room = leb rows room;
    }

-- what x does to the live order i, and f where it rests
abbrev pub in_book : (n i : ℕ) → Move → (Resting → Depth → Depth) → Gateway → Gateway
in_book n i x f g = landed n (with_depth (where_resting i f) (moved (change_of i x) g))

pub record CanChange (n i : ℕ) (x : Move) (f : Resting → Depth → Depth) (g : Gateway) : Type 0 where
  pub flying : in_flight n g.core ≡ true
  pub noticed : length (change_notices (change_of i x) g.core.ledger) + length g.rest.notices ≤ most_notices
  pub room : Roomy (where_resting i f g.rest.depth)

-- the word of a price, and that price and quantity fit
pub record Repriced (p : ℤ) (v w : ℕ) : Type 0 where
  pub is : int w ≡ p
  pub price_fits : Signed p
  pub leaves_fit : Unsigned v

-- ---- an iceberg shows its next part

abbrev pub replenished_tests : (n i visible : ℕ) → Told → (room : ℕ) → Gateway → T.Tests
replenished_tests n i v t room g =
    record {
      flying = in_flight n g.core;
      below = true;
      numbers = leb i n;
      agrees = true;
      holds = true;
      levels = levels_fit (where_resting i (replenished v) g.rest.depth).resting;
      depth = touched_few i g.rest.depth;
      trades = true;
      notices = true;
      room = leb (told_rows t) room;
    }

abbrev pub reshown : (n i visible : ℕ) → Gateway → Gateway
reshown n i v g = landed n (with_depth (where_resting i (replenished v)) g)

pub record CanReshow (n i visible : ℕ) (g : Gateway) : Type 0 where
  pub flying : in_flight n g.core ≡ true
  pub judged : Judged (where_resting i (replenished visible) g.rest.depth)

-- ---- an order comes to rest

abbrev pub rested_tests : (n : ℕ) → Resting → Shift → Told → (room : ℕ) → Gateway → T.Tests
rested_tests n o h t room g =
    record {
      flying = in_flight n g.core;
      below = true;
      numbers = leb o.number n;
      agrees = not (is_some (find_resting o.number g.rest.depth.resting));
      holds = shift_fits h g.core.ledger;
      levels = levels_fit (add o g.rest.depth).resting;
      depth = depth_few (add o g.rest.depth);
      trades = true;
      notices = few_notices h g;
      room = leb (told_rows t) room;
    }

abbrev pub joined : (n : ℕ) → Move → Resting → Gateway → Gateway
joined n x o g = landed n (with_depth (add o) (moved (change_of o.number x) g))

pub record CanJoin (n : ℕ) (x : Move) (o : Resting) (g : Gateway) : Type 0 where
  pub flying : in_flight n g.core ≡ true
  pub number_is : o.number ≤ n
  pub noticed : length (change_notices (change_of o.number x) g.core.ledger) + length g.rest.notices ≤ most_notices
  pub absent : find_resting o.number g.rest.depth.resting ≡ None
  pub judged : Judged (add o g.rest.depth)

-- the stored words of an order of these fields
pub record Stands (z : Side) (p : ℤ) (q v : ℕ) (o : Words.Resting) : Type 0 where
  pub is : (i : ℕ) → resting_of i o ≡ record { number = i; side = z; price = p; visible = v; leaves = q }
  pub leaves_is : o.leaves ≡ q
  pub qty_fits : Unsigned q
