-- The depth's table stays ascending, and what waits to be published stays within its limits. Assumes nothing.
use Rattle.std.specs.Prelude.{Option, Some, None}
use Prim.Native.Nat.{ℕ, ◌-◌, min}
use mathlib.Core.Bool.{Bool, true, false, cond, not, ◌&&◌, and-eq-true_iff}
use mathlib.Core.Path.{◌≡◌, refl, sym}
use mathlib.Core.List.{List, []}
use native.Mathlib.Omega.{arith}
use lib.IntN.{ℤ}
use lib.ListN.{length}
use lib.Dec.{eqb, ltb, leb}
use Rattle.orderbook.specs.declared.Event.{Event}
use Rattle.orderbook.specs.declared.Event.TheVariants.{Accepted, Rejected, Trade, Rested, Replenished, Cancelled, Modified, StopPlaced, Triggered, MassCancelled, PhaseChanged}
use Rattle.protocol.specs.declared.TradeTick.{TradeTick}
use Rattle.gateway.specs.Limits.{most_orders}
use Rattle.gateway.specs.Basics.{option}
use Rattle.gateway.specs.Depth.{Resting, Depth, resting_number, find_resting, add, show, take_off, where_resting, filled, modified, showing, same_price, apply, depth_agrees, levels_few, depth_few}
use Rattle.gateway.specs.Entry.{settled_depth}
use Rattle.gateway.proofs.Base.{split}
use Rattle.gateway.proofs.Sorted.{absent_is, rises_insert, rises_replace, rises_without}
use Rattle.gateway.specs.Table.{Rises}
use Rattle.gateway.specs.Invariant.{FeedOk}

abbrev pub Ascending : Depth → Type 0
Ascending d = Rises resting_number 0 d.resting

-- an order that rests goes, or shows something else
pub data Alters (o : Resting) (d : Depth) : Depth → Type 0 where
  goes : Alters o d (take_off o d)
  shows : (v w : ℕ) → Alters o d (show (showing v w o) d)

-- f does so, whatever the order and the depth
abbrev pub Acts : (Resting → Depth → Depth) → Type 0
Acts f = (o : Resting) (d : Depth) → Alters o d (f o d)

pub off_acts : Acts take_off
off_acts o d = goes

pub shown_acts : (v : ℕ) → Acts (λ o. show (showing v o.leaves o))
shown_acts v o d = shows v o.leaves

pub filled_acts : (q v : ℕ) → Acts (filled q v)
filled_acts q v o d = split (λ b. Alters o d (cond b (take_off o d) (show (showing (o.visible - q) v o) d))) (eqb v 0) (λ _. goes) (λ _. shows (o.visible - q) v)

pub modified_acts : (p : ℤ) (v : ℕ) → Acts (modified p v)
modified_acts p v o d =
    split (λ b. Alters o d (cond b (show (showing (min o.visible v) v o) d) (take_off o d))) (ltb 0 v && (same_price p o.price && leb v o.leaves))
    (λ _. shows (min o.visible v) v) (λ _. goes)

alters_rises : {o : Resting} {d e : Depth} → Alters o d e → Ascending d → Ascending e
unfolding take_off show
alters_rises {o} {d} goes h = rises_without resting_number o.number 0 d.resting h
alters_rises {o} {d} (shows v w) h = rises_replace resting_number (showing v w o) 0 d.resting h

pub where_rises : (n : ℕ) (f : Resting → Depth → Depth) → Acts f → (d : Depth) → Ascending d → Ascending (where_resting n f d)
where_rises n f acts d h = go (find_resting n d.resting)
  where
    go : (o : Option Resting) → Ascending (option d (λ x. f x d) o)
    go None = h
    go (Some o) = alters_rises (acts o d) h

not_true : (b : Bool) → not b ≡ true → b ≡ false
not_true true e = sym e
not_true false e = refl

pub apply_rises : (e : Event) (d : Depth) → depth_agrees e d ≡ true → Ascending d → Ascending (apply e d)
unfolding apply depth_agrees add
apply_rises (Rested i s p q v) d a h =
    rises_insert resting_number (record { number = i; side = s; price = p; visible = v; leaves = q }) 0 d.resting (omega arith)
    (absent_is resting_number i d.resting (not_true _ a)) h
apply_rises (Trade t taker maker s p q tl ml) d a h =
    where_rises taker (filled q tl) (filled_acts q tl) _ (where_rises maker (filled q ml) (filled_acts q ml) d h)
apply_rises (Replenished i s p v) d a h = where_rises i (λ o. show (showing v o.leaves o)) (shown_acts v) d h
apply_rises (Cancelled i q why) d a h = where_rises i take_off off_acts d h
apply_rises (Modified i p q v) d a h = where_rises i (modified p v) (modified_acts p v) d h
apply_rises (Accepted i) d a h = h
apply_rises (Rejected i why) d a h = h
apply_rises (StopPlaced i s t l q) d a h = h
apply_rises (Triggered i) d a h = h
apply_rises (MassCancelled o k) d a h = h
apply_rises (PhaseChanged p) d a h = h

settled_few : (d : Depth) → depth_few d ≡ true → depth_few (settled_depth d) ≡ true
unfolding depth_few
settled_few d h =
    let t = (and-eq-true_iff (leb (length d.resting) most_orders) _).0 h in
    let u = (and-eq-true_iff (levels_few d.resting) _).0 t.1 in
    (and-eq-true_iff (leb (length d.resting) most_orders) _).1 (t.0, (and-eq-true_iff (levels_few d.resting) true).1 (u.0, refl))

-- publishing empties the lists
pub published_ok : {d : Depth} {ts : List TradeTick} {ns : List ℕ} → FeedOk d ts ns → FeedOk (settled_depth d) [] []
published_ok {d} ok =
    record { ascending = ok.ascending; fit = ok.fit; few = settled_few d ok.few; few_trades = omega arith; few_notices = omega arith }
