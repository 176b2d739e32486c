-- What stands in the bytes between the calls, and what a call gives: its code, and what is done where that is 0. A refusal changes nothing.
use Rattle.std.specs.Prelude.{ℕ, zero, suc, ◌+◌, ◌*◌, ◌-◌, ◌≡◌, Bool, true, cond, ◌&&◌, List, eqb, leb, ltb, length, Option, Some, None}
use Rattle.orderbook.specs.declared.Side.{Side}
use Rattle.words.specs.Words.{modulus}
use Rattle.table.specs.Live.{look}
use Rattle.gateway.specs.Limits.{most_levels, sequence, full, outside, inconsistent, malformed}
use Rattle.gateway.specs.Ledger.{number_of}
use Rattle.store.specs.Cells as C
use Rattle.store.specs.Layout.{cell, cells, Holds}
use Rattle.store.specs.View.{Store, word, order, order_room, Is}
use Rattle.orders.specs.Orders.{Ordered, Sees, number_at}
use Rattle.levels.specs.Levels as L
use Rattle.levels.specs.declared.Row.{Row}
use Rattle.maps.specs.declared.Answer.{Answer}

-- ---- between the calls

-- the table of orders and the levels of both sides, each in order
pub record Stands (xs : List ℕ) : Type 0 where
  pub holds : Holds xs
  pub orders : Ordered (cell xs)
  pub levels : (z : Side) → L.Table z xs

-- the caller's part, document 01's premise: bytes of a state's length are what the last call left
pub record Lent (xs : List ℕ) : Type 0 where
  pub stands : Holds xs → Stands xs

-- ---- codes

-- the bytes have a state's length, and what is lent beside them is well formed
unfoldable pub whole : Bool → List ℕ → Bool
whole ok xs = eqb (length xs) (8 * cells) && ok

unfoldable pub judged : Bool → List ℕ → ℕ → ℕ
judged ok xs code = cond (whole ok xs) code malformed

-- n is above the number of the last of the rows in use
abbrev pub above : ℕ → ℕ → Store → Bool
above n zero s = true
above n (suc j) s = ltb (number_at j s) n

abbrev pub order_rows : List ℕ → ℕ
order_rows xs = word (cell xs) C.order_rows

unfoldable pub room : Store → Bool
room s = ltb (word s C.live_orders + word s C.resting_orders) order_room

-- 4 for a number that is not above the last, then 5 where no row is free
unfoldable pub append_code : ℕ → Store → ℕ
append_code n s = cond (above n (word s C.order_rows) s) (cond (room s) 0 full) sequence

-- the level of a key
abbrev pub level_of : Side → ℕ → List ℕ → Option Row
level_of z k xs = look L.key k (L.entries z (cell xs))

-- an order that shows v comes to the level that was found, where there are n: 5 for one level more than fits, 7 for a sum that does not
unfoldable pub join_code : ℕ → ℕ → Option Row → ℕ
join_code n v None = cond (ltb n most_levels) 0 full
join_code n v (Some r) = cond (ltb (r.qty + v) modulus && ltb (r.orders + 1) modulus) 0 outside

-- an order there that showed v shows w: 8 where no such order can be there, 7 for a sum that does not fit
unfoldable pub show_code : ℕ → ℕ → Option Row → ℕ
show_code v w None = inconsistent
show_code v w (Some r) = cond (leb v r.qty) (cond (ltb (r.qty - v + w) modulus) 0 outside) inconsistent

-- an order there that showed v goes
unfoldable pub leave_code : ℕ → Option Row → ℕ
leave_code v None = inconsistent
leave_code v (Some r) = cond (leb v r.qty) 0 inconsistent

-- ---- answers

pub record Ends (code : ℕ) (done refused : Type 0) (r : ℕ) (ys : List ℕ) : Type 0 where
  pub code_is : r ≡ code
  pub is_done : code ≡ 0 → done
  pub is_refused : (code ≡ 0 → ⊥) → refused
  pub lent : Lent ys

-- the levels of a side become what f makes of them
abbrev pub Levels : ℕ → (List Row → List Row) → Side → ℕ → (xs ys : List ℕ) → Type 0
Levels code f z r xs ys = Ends code (L.Did z xs ys (f (L.entries z (cell xs)))) (ys ≡ xs) r ys

-- a number where the code is 0
abbrev pub answer : ℕ → ℕ → Answer
answer code n = record { code = code; number = cond (eqb code 0) n 0 }

-- a row that was found, or none, goes out as a number: one more than the row, or 0
abbrev pub row_of : ℕ → Option ℕ
row_of zero = None
row_of (suc i) = Some i

-- f of the row that was found
abbrev pub at_row : (ℕ → Store → Store) → Option ℕ → Store → Store
at_row f (Some i) s = f i s
at_row f None s = s

-- r is the row of the live order n, and f was done to it
pub record Done (f : ℕ → Store → Store) (xs ys : List ℕ) (n r : ℕ) : Type 0 where
  pub sees : Sees C.order_live order number_of (cell xs) n (row_of r)
  pub is : Is ys (at_row f (row_of r) (cell xs))

-- what a call of an order does and answers: a refused one answers no row
abbrev pub Changes : (ℕ → Store → Store) → (xs ys : List ℕ) → ℕ → Answer → Type 0
Changes f xs ys n r = Ends (judged true xs 0) (Done f xs ys n r.number) ((ys ≡ xs) × (r.number ≡ 0)) r.code ys
