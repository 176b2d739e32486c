-- Events: what happens to an order where it rests. Assumes nothing.
use Rattle.std.specs.Prelude.{Option, Some, None, is_some}
use mathlib.Core.Path.{◌≡◌, refl, sym, ap, subst, ◌∙◌}
use mathlib.Core.Bool.{true, cond}
use mathlib.Core.List.{List, [], ◌∷◌, ◌++◌}
use Prim.Native.Nat.{ℕ, ◌-◌, ◌≤◌, ◌<◌}
use native.Mathlib.Omega.{arith}
use borrow.Author.Tests.{leb-true}
use lib.Dec.{eqb, leb}
use lib.ListN.{length, length-append}
use Rattle.gateway.specs.Basics.{option}
use Rattle.gateway.specs.Depth as D
use Rattle.gateway.proofs.Base.{split}
use Rattle.gateway.proofs.Sorted.{look_key, look_without, look_replace}
use Rattle.store.specs.Cells as C
use Rattle.store.specs.Layout.{cell, Holds}
use Rattle.store.specs.View.{resting, depth, gateway, order_room}
use Rattle.orders.specs.declared.Resting.{Resting}
use Rattle.orders.specs.Orders.{Sees, resting_row}
use Rattle.sound.specs.Sound.{State, InPlace}
use Rattle.sound.proofs.Kept.{seen_resting}
use Rattle.orders.proofs.Kept.{stays_same, stays_then}
use Rattle.marketdata.specs.Marketdata as P
use Rattle.marketdata.specs.Marketdata.{with_depth, resting_at, Roomy, Judged, CanFill, CanTrade, traded}

-- ---- where the order rests

-- what a lookup sees
abbrev pub Seen : List ℕ → ℕ → Option ℕ → Type 0
Seen xs n r = Sees C.order_resting resting D.resting_number (cell xs) n r

module _ (xs : List ℕ) (n i : ℕ) (s : State xs) (r : Option ℕ) (seen : Seen xs n r) (found : r ≡ Some i) where
  e : Seen xs n (Some i)
  e = rw found at seen

  pub read_asks : Holds xs × (i < order_room)
  read_asks = (s.holds, omega (arith, e.row.0, s.sound.tables.ordered.bounds.orders_fit))

  pub found_at : (o : Resting) → o ≡ resting_row (cell xs C.orders i) → P.At i o (cell xs)
  found_at o q = record { inside = e.row.0; rests = e.row.2; is = q }

  pub found_view : (f : D.Resting → D.Depth → D.Depth) → D.where_resting n f (depth (cell xs)) ≡ f (resting_at i (cell xs)) (depth (cell xs))
  found_view f = ap (option (depth (cell xs)) (λ o. f o (depth (cell xs)))) e.order

  pub found_room : (f : D.Resting → D.Depth → D.Depth) → Roomy (D.where_resting n f (depth (cell xs))) → Roomy (f (resting_at i (cell xs)) (depth (cell xs)))
  found_room f h = rw (found_view f) at h

  pub found_judged : (f : D.Resting → D.Depth → D.Depth) → Judged (D.where_resting n f (depth (cell xs))) → Judged (f (resting_at i (cell xs)) (depth (cell xs)))
  found_judged f h = rw (found_view f) at h

  pub found_becomes : {ys : List ℕ} (f : D.Resting → D.Depth → D.Depth) → InPlace xs ys (with_depth (f (resting_at i (cell xs))) (gateway (cell xs))) → InPlace xs ys (with_depth (D.where_resting n f) (gateway (cell xs)))
  found_becomes {ys} f b = subst (λ (d : D.Depth). InPlace xs ys (with_depth (λ _. d) (gateway (cell xs)))) (sym (found_view f)) b

  pub found_shows : (o : Resting) → o ≡ resting_row (cell xs C.orders i) → (q : ℕ) → D.shows n q (depth (cell xs)).resting ≡ true → q ≤ o.visible
  found_shows o w q h =
      let t : leb q (resting_at i (cell xs)).visible ≡ true = ap (option true (λ x. leb q x.visible)) (sym e.order) ∙ h in
      rw w (leb-true q (resting_at i (cell xs)).visible t)

-- where it does not, nothing happens
pub nothing_becomes : (xs : List ℕ) (n : ℕ) → State xs → (r : Option ℕ) → Seen xs n r → r ≡ None → (f : D.Resting → D.Depth → D.Depth) →
    InPlace xs xs (with_depth (D.where_resting n f) (gateway (cell xs)))
nothing_becomes xs n s r seen absent f =
    let e : Seen xs n None = rw absent at seen in
    subst (λ (d : D.Depth). InPlace xs xs (with_depth (λ _. d) (gateway (cell xs)))) (sym (ap (option (depth (cell xs)) (λ o. f o (depth (cell xs)))) e.order))
    (record { becomes = record { state = s; gateway_is = refl }; stays = stays_same (cell xs) })

-- ---- a trade's two fills

remember_grows : (k : D.Key) (ks : List D.Key) → length ks ≤ length (D.remember k ks)
remember_grows k ks =
    split (λ b. length ks ≤ length (cond b ks (ks ++ (k ∷ [])))) (D.is_changed k ks) (λ _. omega arith) (λ _. omega (arith, length-append ks (k ∷ [])))

-- a fill of the order n leaves any other, and forgets no level
record Fill (n : ℕ) (d e : D.Depth) : Type 0 where
  others : (k : ℕ) → (k ≡ n → ⊥) → D.find_resting k e.resting ≡ D.find_resting k d.resting
  grows : length d.changed ≤ length e.changed

fill_is : (n q v : ℕ) (o : D.Resting) (d : D.Depth) → o.number ≡ n → Fill n d (D.filled q v o d)
unfolding D.take_off D.show
fill_is n q v o d e =
    split (λ b. Fill n d (cond b (D.take_off o d) (D.show (D.showing (o.visible - q) v o) d))) (eqb v 0)
    (λ _. record { others = λ k h. look_without D.resting_number k o.number (λ w. h (w ∙ e)) d.resting; grows = remember_grows (D.key_of o) d.changed })
    (λ _. record { others = λ k h. look_replace D.resting_number k (D.showing (o.visible - q) v o) (λ w. h (w ∙ e)) d.resting; grows = remember_grows (D.key_of o) d.changed })

fill_where : (n q v : ℕ) (d : D.Depth) → Fill n d (D.where_resting n (D.filled q v) d)
fill_where n q v d = go (D.find_resting n d.resting) refl
  where
    go : (x : Option D.Resting) → D.find_resting n d.resting ≡ x → Fill n d (option d (λ o. D.filled q v o d) x)
    go None e = record { others = λ k h. refl; grows = omega arith }
    go (Some o) e = fill_is n q v o d (look_key D.resting_number n o d.resting e)

module _ {d : D.Depth} (taker maker q tl ml : ℕ) (c : CanTrade taker maker q tl ml d) where
  abbrev half : D.Depth
  half = D.where_resting maker (D.filled q ml) d

  pub maker_can : CanFill maker q ml d
  maker_can = record { shows = c.maker_shows; room = omega (arith, c.room, (fill_where taker q tl half).grows) }

  pub taker_can : CanFill taker q tl half
  taker_can =
      record {
        shows = ap (option true (λ (o : D.Resting). leb q o.visible)) ((fill_where maker q ml d).others taker c.two) ∙ c.taker_shows;
        room = c.room;
      }

module _ (xs : List ℕ) (taker maker q tl ml : ℕ) (c : CanTrade taker maker q tl ml (depth (cell xs))) {ys : List ℕ} (b : InPlace xs ys (with_depth (D.where_resting maker (D.filled q ml)) (gateway (cell xs)))) where
  -- the maker's fill leaves the taker where it is
  pub taker_asks : (at : Option ℕ) → Seen xs taker at → State ys × Seen ys taker at × CanFill taker q tl (depth (cell ys))
  taker_asks at h = (
    b.becomes.state,
    seen_resting b taker at (ap is_some ((fill_where maker q ml (depth (cell xs))).others taker c.two)) h,
    rw (ap (λ g. g.rest.depth) b.becomes.gateway_is) (taker_can taker maker q tl ml c),
  )

  pub trade_done : {zs : List ℕ} → InPlace ys zs (with_depth (D.where_resting taker (D.filled q tl)) (gateway (cell ys))) → InPlace xs zs (with_depth (traded taker maker q tl ml) (gateway (cell xs)))
  trade_done e =
      record {
        becomes = record { state = e.becomes.state; gateway_is = e.becomes.gateway_is ∙ ap (with_depth (D.where_resting taker (D.filled q tl))) b.becomes.gateway_is };
        stays = stays_then b.stays e.stays;
      }
