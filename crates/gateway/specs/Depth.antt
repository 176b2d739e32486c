-- The depth: the resting orders, and the price levels counted from them (crates/marketdata/src/lib.rs).
use Rattle.std.specs.Prelude.{ℕ, suc, ◌+◌, ◌-◌, Bool, true, false, cond, not, ◌&&◌, ◌||◌, List, [], ◌∷◌, ◌++◌, ℤ, length, eqb, ltb, leb, Option, is_some, min}
use Rattle.std.specs.Int.Signed.{le_z, lt_z}
use Rattle.orderbook.specs.declared.Side.{Side}
use Rattle.orderbook.specs.declared.Side.TheVariants.{Buy, Sell}
use Rattle.orderbook.specs.declared.Event.{Event}
use Rattle.orderbook.specs.declared.Event.TheVariants.{Accepted, Rejected, Trade, Rested, Replenished, Cancelled, Modified, StopPlaced, Triggered, MassCancelled, PhaseChanged}
use Rattle.gateway.specs.Basics.{option}
use Rattle.gateway.specs.Limits.{most_orders, most_levels, most_changed}
use Rattle.gateway.specs.Ledger.{same_side}
use Rattle.table.specs.Live.{look, without, insert, replace}
use Rattle.words.specs.Words.{modulus}

-- a resting order; an iceberg shows a part of what is left
pub record Resting : Type 0 where
  pub number : ℕ
  pub side : Side
  pub price : ℤ
  pub visible : ℕ
  pub leaves : ℕ

-- a price level: what its orders show, and how many there are
pub record Level : Type 0 where
  pub price : ℤ
  pub qty : ℕ
  pub orders : ℕ

-- a level's key
abbrev pub Key : Type 0
Key = Side × ℤ

-- resting orders ascending by number, and the keys changed since the last publishing, each once, in order of first change
pub record Depth : Type 0 where
  pub resting : List Resting
  pub changed : List Key

-- ---- levels

abbrev pub same_price : ℤ → ℤ → Bool
same_price a b = le_z a b && le_z b a

-- bids are listed highest first, asks lowest first
abbrev pub better : Side → ℤ → ℤ → Bool
better Buy a b = lt_z b a
better Sell a b = lt_z a b

-- the levels with one more order that shows v at p
abbrev pub joined : Side → ℤ → ℕ → List Level → List Level
joined s p v [] = record { price = p; qty = v; orders = 1 } ∷ []
joined s p v (l ∷ ls) =
    cond (same_price p l.price) (record { price = p; qty = l.qty + v; orders = suc l.orders } ∷ ls)
    (cond (better s p l.price) (record { price = p; qty = v; orders = 1 } ∷ l ∷ ls) (l ∷ joined s p v ls))

-- the levels of a side, best price first
abbrev pub levels : Side → List Resting → List Level
levels s [] = []
levels s (o ∷ os) = cond (same_side s o.side) (joined s o.price o.visible (levels s os)) (levels s os)

-- the level at a price; one that vanished shows 0 and 0 (`Depth::level`)
abbrev pub level_in : ℤ → List Level → Level
level_in p [] = record { price = p; qty = 0; orders = 0 }
level_in p (l ∷ ls) = cond (same_price p l.price) l (level_in p ls)

abbrev pub level : Key → Depth → Level
level k d = level_in k.1 (levels k.0 d.resting)

-- ---- what an event does

abbrev pub resting_number : Resting → ℕ
resting_number o = o.number

abbrev pub find_resting : ℕ → List Resting → Option Resting
find_resting n os = look resting_number n os

abbrev pub key_of : Resting → Key
key_of o = (o.side, o.price)

abbrev pub same_key : Key → Key → Bool
same_key a b = same_side a.0 b.0 && same_price a.1 b.1

abbrev pub is_changed : Key → List Key → Bool
is_changed k [] = false
is_changed k (x ∷ xs) = same_key k x || is_changed k xs

abbrev pub remember : Key → List Key → List Key
remember k ks = cond (is_changed k ks) ks (ks ++ (k ∷ []))

abbrev pub showing : ℕ → ℕ → Resting → Resting
showing visible leaves o = record { number = o.number; side = o.side; price = o.price; visible = visible; leaves = leaves }

-- the order comes, shows something else, or goes: its level has changed, also where the quantity stays equal
unfoldable pub add : Resting → Depth → Depth
add o d = record { resting = insert resting_number o d.resting; changed = remember (key_of o) d.changed }

unfoldable pub show : Resting → Depth → Depth
show o d = record { resting = replace resting_number o d.resting; changed = remember (key_of o) d.changed }

unfoldable pub take_off : Resting → Depth → Depth
take_off o d = record { resting = without resting_number o.number d.resting; changed = remember (key_of o) d.changed }

-- what happens to the order n where it rests
abbrev pub where_resting : ℕ → (Resting → Depth → Depth) → Depth → Depth
where_resting n f d = option d (λ o. f o d) (find_resting n d.resting)

abbrev pub filled : ℕ → ℕ → Resting → Depth → Depth
filled q v o d = cond (eqb v 0) (take_off o d) (show (showing (o.visible - q) v o) d)

-- a modify that keeps the price and adds nothing shrinks the order in place, its hidden part first; any other takes it off
abbrev pub modified : ℤ → ℕ → Resting → Depth → Depth
modified p v o d =
    cond (ltb 0 v && (same_price p o.price && leb v o.leaves)) (show (showing (min o.visible v) v o) d) (take_off o d)

-- a trade's maker comes before its taker
unfoldable pub apply : Event → Depth → Depth
apply (Rested i s p q v) d = add (record { number = i; side = s; price = p; visible = v; leaves = q }) d
apply (Trade t taker maker s p q tl ml) d = where_resting taker (filled q tl) (where_resting maker (filled q ml) d)
apply (Replenished i s p v) d = where_resting i (λ o. show (showing v o.leaves o)) d
apply (Cancelled i q why) d = where_resting i take_off d
apply (Modified i p q v) d = where_resting i (modified p v) d
apply (Accepted i) d = d
apply (Rejected i why) d = d
apply (StopPlaced i s t l q) d = d
apply (Triggered i) d = d
apply (MassCancelled o k) d = d
apply (PhaseChanged p) d = d

-- ---- what is refused

-- a fill is at most what the order shows, where it rests
abbrev pub shows : ℕ → ℕ → List Resting → Bool
shows n q os = option true (λ o. leb q o.visible) (find_resting n os)

-- code 8 against the depth: no order rests again, and no fill exceeds the visible quantity
unfoldable pub depth_agrees : Event → Depth → Bool
depth_agrees (Rested i s p q v) d = not (is_some (find_resting i d.resting))
depth_agrees (Trade t taker maker s p q tl ml) d = shows maker q d.resting && shows taker q d.resting
depth_agrees (Replenished i s p v) d = true
depth_agrees (Cancelled i q why) d = true
depth_agrees (Modified i p q v) d = true
depth_agrees (Accepted i) d = true
depth_agrees (Rejected i why) d = true
depth_agrees (StopPlaced i s t l q) d = true
depth_agrees (Triggered i) d = true
depth_agrees (MassCancelled o k) d = true
depth_agrees (PhaseChanged p) d = true

abbrev pub quantities_fit : List Level → Bool
quantities_fit [] = true
quantities_fit (l ∷ ls) = ltb l.qty modulus && quantities_fit ls

-- code 7: every level's quantity is in range
unfoldable pub levels_fit : List Resting → Bool
levels_fit os = quantities_fit (levels Buy os) && quantities_fit (levels Sell os)

-- code 5: at most 512 levels a side
unfoldable pub levels_few : List Resting → Bool
levels_few os = leb (length (levels Buy os)) most_levels && leb (length (levels Sell os)) most_levels

-- code 5 for the depth's own tables
unfoldable pub depth_few : Depth → Bool
depth_few d = leb (length d.resting) most_orders && (levels_few d.resting && leb (length d.changed) most_changed)
