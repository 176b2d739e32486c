-- A book listing: resting orders and stops, in any order. Set-up takes the live orders and the depth from it, `finish` compares and takes the depth.
use Rattle.std.specs.Prelude.{ℕ, suc, Bool, true, false, cond, ◌&&◌, List, [], ◌∷◌, length, eqb, Option, Some, None}
use Rattle.orderbook.specs.declared.Listed.{Listed}
use Rattle.orderbook.specs.declared.Listed.TheVariants as L
use Rattle.table.specs.Live.{insert}
use Rattle.gateway.specs.Ledger.{Order, number_of, find}
use Rattle.gateway.specs.Depth.{Resting, Depth, resting_number}

abbrev pub listed_number : Listed → ℕ
listed_number (L.Order i o s p v w) = i
listed_number (L.Stop i o s l q) = i

abbrev pub listed_owner : Listed → ℕ
listed_owner (L.Order i o s p v w) = o
listed_owner (L.Stop i o s l q) = o

-- a listed order is live without its client reference; a stop's price is its limit
abbrev pub live : Listed → Order
live (L.Order i o s p v w) = record { number = i; account = o; client_ref = 0; side = s; price = Some p; leaves = v }
live (L.Stop i o s l q) = record { number = i; account = o; client_ref = 0; side = s; price = l; leaves = q }

-- the live orders, ascending by number
abbrev pub listed_orders : List Listed → List Order
listed_orders [] = []
listed_orders (x ∷ xs) = insert number_of (live x) (listed_orders xs)

-- a stop is no part of the depth
abbrev pub resting_in : List Listed → List Resting
resting_in [] = []
resting_in (L.Order i o s p v w ∷ xs) = insert resting_number (record { number = i; side = s; price = p; visible = w; leaves = v }) (resting_in xs)
resting_in (L.Stop i o s l q ∷ xs) = resting_in xs

abbrev pub listed_depth : List Listed → Depth
listed_depth xs = record { resting = resting_in xs; changed = [] }

abbrev pub listed_times : ℕ → List Listed → ℕ
listed_times n [] = 0
listed_times n (x ∷ xs) = cond (eqb (listed_number x) n) (suc (listed_times n xs)) (listed_times n xs)

-- `finish` compares a resting order's leaves and account, a stop's number alone
abbrev pub entry_agrees : Listed → Option Order → Bool
entry_agrees x None = false
entry_agrees (L.Order i o s p v w) (Some l) = eqb l.leaves v && eqb l.account o
entry_agrees (L.Stop i o s l q) (Some x) = true

abbrev pub entries_agree : List Listed → List Listed → List Order → Bool
entries_agree all [] os = true
entries_agree all (x ∷ xs) os =
    entry_agrees x (find (listed_number x) os) && (eqb (listed_times (listed_number x) all) 1 && entries_agree all xs os)

-- and the count; no number is listed twice
unfoldable pub listing_agrees : List Listed → List Order → Bool
listing_agrees xs os = entries_agree xs xs os && eqb (length xs) (length os)
