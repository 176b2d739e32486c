-- What `finish` writes before the listing's orders come to rest: the old depth goes, and nothing waits to be published.
use Rattle.std.specs.Prelude.{ℕ, Bool, cond, ◌&&◌, List, [], ◌∷◌, eqb, ltb}
use Rattle.orderbook.specs.declared.Listed.{Listed}
use Rattle.gateway.specs.Ledger.{Order, find}
use Rattle.gateway.specs.Listing.{listed_number, listed_times, entry_agrees}
use Rattle.store.specs.Cells as C
use Rattle.store.specs.View.{Row, Store, word, write, fill}
use Rattle.bitmap.specs.Bitmap.{emptied}
use Rattle.pending.specs.Pending.{forget_tops}
use Rattle.orders.specs.Orders.{remap}

-- a row whose order rests no more: it is kept where the order is live
abbrev pub off : Row → Row
off r k = cond (eqb k C.order_kept) (r C.order_live) (cond (eqb k C.order_resting) 0 (r k))

-- the row i, and the first n rows
unfoldable pub unrest : ℕ → Store → Store
unrest i s = write C.orders i C.order_kept (s C.orders i C.order_live) (write C.orders i C.order_resting 0 s)

unfoldable pub unrested : ℕ → Store → Store
unrested n s b i k = cond (eqb b C.orders && ltb i n) (off (s b i) k) (s b i k)

-- no row is a level, and the map of orders follows its rows
unfoldable pub remade_maps : Store → Store
remade_maps s = remap (emptied C.ask_map 8 (emptied C.bid_map 8 s))

-- no order rests, no level is there, nothing waits to be published, and the last number is delivered and published
unfoldable pub cleared : Store → Store
cleared s =
    remade_maps
    (fill C.header 0 C.delivered (word s C.last ∷ word s C.last ∷ [])
    (fill C.header 0 C.resting_orders (0 ∷ 0 ∷ 0 ∷ 0 ∷ 0 ∷ 0 ∷ 0 ∷ 0 ∷ []) (unrested (word s C.order_rows) (forget_tops (word s C.changed_rows) s))))

-- an entry of a listing agrees with the live orders, and its number is listed once
abbrev pub agrees_once : List Listed → List Order → Listed → Bool
agrees_once all os x = entry_agrees x (find (listed_number x) os) && eqb (listed_times (listed_number x) all) 1
