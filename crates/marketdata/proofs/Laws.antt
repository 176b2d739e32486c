-- The laws by which the functions meet their contracts, in the order of their calls. Assumes nothing.
use Rattle.std.proofs.Math.Nat.{min-le_left}
use mathlib.Core.Path.{◌≡◌, refl, sym, ap, ap₂, subst, ◌∙◌}
use mathlib.Core.Bool.{Bool, true, false, cond}
use mathlib.Core.List.{List}
use Prim.Native.Nat.{ℕ, ◌-◌, ◌≤◌, ◌<◌, min}
use native.Mathlib.Omega.{arith}
use borrow.Author.Tests.{eq-eqb, ne_eqb, lt-ltb, le-leb, lt-leb}
use lib.Dec.{leb}
use lib.ListN.{length}
use Rattle.orderbook.specs.declared.Side.{Side}
use Rattle.words.specs.Words.{int, half, ◌⊖◌, modulus}
use Rattle.table.specs.Live.{look, without, insert, replace}
use Rattle.gateway.specs.Limits.{most_changed}
use Rattle.gateway.specs.Depth as D
use Rattle.gateway.proofs.Base.{split}
use Rattle.gateway.proofs.Sorted.{length_insert}
use Rattle.gateway.proofs.Levels.{same_itself}
use Rattle.store.specs.Cells as C
use Rattle.store.specs.Layout.{cell, Holds}
use Rattle.store.specs.View.{Store, Is, word, fill, side, resting, depth, gateway, order_room}
use Rattle.orders.specs.declared.Resting.{Resting}
use Rattle.orders.specs.Orders as Orders
use Rattle.levels.specs.Levels.{entries, price, removed, shown, Table, CanRemove}
use Rattle.levels.specs.Levels as L
use Rattle.pending.specs.Pending as Pending
use Rattle.pending.proofs.Keys.{same_price_is}
use Rattle.pending.proofs.Views.{remember_view}
use Rattle.sound.specs.Sound.{State, Becomes, InPlace}
use Rattle.sound.proofs.Kept.{in_place}
use Rattle.marketdata.specs.Marketdata.{At, Free, resting_at, with_depth, with_resting, remembering, Roomy, Fits, CanShow, Judged, CanAdd, CanOpen, Opens, replenished, stays}
use Rattle.orders.specs.Orders.{Stays, number_at, resting_of}
use Rattle.orders.proofs.Kept.{stays_same, stays_then}
use Rattle.pending.specs.Pending.{key}
use Rattle.gateway.proofs.AtPrice.{level_fits, few_parts}
use Rattle.marketdata.proofs.Steps.{remember_sound}
use Rattle.sound.proofs.Listed.{side_table}
use Rattle.marketdata.proofs.Resting.{level_can, gone_can, gone_done, show_can, showed_can, showed_done}
use Rattle.marketdata.proofs.Rests.{add_can, rest_can, rest_done}

-- ---- a level has changed

remember_stays : (x p : ℕ) (s : Store) → Stays s (Pending.remember x p s)
unfolding Pending.remember fill
remember_stays x p s =
    split (λ c. Stays s (cond c s (Pending.push_level x p s))) (D.is_changed (key x p) (depth s).changed) (λ _. stays_same s) (λ _. record { rows_are = refl; numbers_are = λ j l. refl })

pub remember_done : {xs ys : List ℕ} (x p : ℕ) → State xs → Roomy (remembering (key x p) (depth (cell xs))) → Is ys (Pending.remember x p (cell xs)) →
    InPlace xs ys (with_depth (remembering (key x p)) (gateway (cell xs)))
remember_done {xs} x p s h e = in_place s e (remember_sound x p (cell xs) s.sound h) (remember_view x p (cell xs)) (remember_stays x p (cell xs))

-- the orders changed, and their level is remembered
module _ (xs : List ℕ) {ys : List ℕ} (f : List D.Resting → List D.Resting) (b : Becomes ys (with_depth (with_resting f) (gateway (cell xs)))) where
  changed_kept : (depth (cell ys)).changed ≡ (depth (cell xs)).changed
  changed_kept = ap (λ g. g.rest.depth.changed) b.gateway_is

  remember_asks : (q : D.Key) → length (D.remember q (depth (cell xs)).changed) ≤ most_changed → State ys × Roomy (remembering q (depth (cell ys)))
  remember_asks q h = (b.state, rw changed_kept h)

  remembered : {zs : List ℕ} (q : D.Key) → Becomes zs (with_depth (remembering q) (gateway (cell ys))) → Becomes zs (with_depth (λ d. remembering q (with_resting f d)) (gateway (cell xs)))
  remembered q c = record { state = c.state; gateway_is = c.gateway_is ∙ ap (with_depth (remembering q)) b.gateway_is }

-- and no row moved
module _ (xs : List ℕ) {ys zs : List ℕ} (f : List D.Resting → List D.Resting) (q : D.Key) where
  remembered_here : InPlace xs ys (with_depth (with_resting f) (gateway (cell xs))) → InPlace ys zs (with_depth (remembering q) (gateway (cell ys))) →
      InPlace xs zs (with_depth (λ d. remembering q (with_resting f d)) (gateway (cell xs)))
  remembered_here b c = record { becomes = remembered xs f b.becomes q c.becomes; stays = stays_then b.stays c.stays }

-- ---- a resting order

module _ {xs : List ℕ} (s : State xs) (i : ℕ) (o : Resting) (a : At i o (cell xs)) where
  abbrev r : D.Resting
  r = resting_at i (cell xs)

  key_is : key o.side o.price ≡ D.key_of r
  key_is = ap (λ x. key x.side x.price) a.is

  module _ (z : Side) (k : ℕ) (zq : z ≡ side o.side) (kq : int o.price ≡ k ⊖ half) where
    side_is : z ≡ r.side
    side_is = zq ∙ ap (λ x. side x.side) a.is

    visible_is : o.visible ≡ r.visible
    visible_is = ap (λ x. x.visible) a.is

    price_is : r.price ≡ price k
    price_is = ap (λ x. int x.price) (sym a.is) ∙ kq

    pub levels_remove_asks : Table z xs × CanRemove o.visible (look L.key k (entries z (cell xs)))
    levels_remove_asks = rw (side_is, visible_is) (side_table s r.side, level_can s i a.inside a.rests k price_is)

    module _ {ys : List ℕ} (d : L.Did z xs ys (removed k o.visible (entries z (cell xs)))) where
      did : L.Did r.side xs ys (removed k r.visible (entries r.side (cell xs)))
      did = rw (side_is, visible_is) at d

      pub take_off_asks : Holds ys × (i < order_room) × (0 < word (cell ys) C.resting_orders) × (cell ys C.orders i C.order_live ≤ 1)
      take_off_asks = let t = gone_can s i a.inside a.rests k price_is did in (d.table.holds, t.0, t.1, t.2)

      pub strike_done : {zs : List ℕ} → Is zs (Orders.take_off i (cell ys)) → InPlace xs zs (with_depth (with_resting (without D.resting_number r.number)) (gateway (cell xs)))
      strike_done h = gone_done s i a.inside a.rests k price_is did h

    module _ (w v : ℕ) where
      pub levels_show_asks : Fits o.visible (D.showing w v r) (D.show (D.showing w v r) (depth (cell xs))) → Table z xs × L.CanShow o.visible w (look L.key k (entries z (cell xs)))
      unfolding D.show
      levels_show_asks h = rw (side_is, visible_is) (side_table s r.side, show_can s i a.inside a.rests k price_is w v (rw visible_is at h))

      module _ {ys : List ℕ} (d : L.Did z xs ys (shown k o.visible w (entries z (cell xs)))) where
        now_shown : L.Did r.side xs ys (shown k r.visible w (entries r.side (cell xs)))
        now_shown = rw (side_is, visible_is) at d

        pub show_asks : Holds ys × (i < order_room)
        show_asks = (d.table.holds, showed_can s i a.inside a.rests k price_is w v now_shown)

        pub reshow_done : {zs : List ℕ} → Is zs (Orders.show i w v (cell ys)) → InPlace xs zs (with_depth (with_resting (replace D.resting_number (D.showing w v r))) (gateway (cell xs)))
        reshow_done h = showed_done s i a.inside a.rests k price_is w v now_shown h

  -- and its level is remembered
  module _ {ys : List ℕ} where
    pub off_asks : Roomy (D.take_off r (depth (cell xs))) → InPlace xs ys (with_depth (with_resting (without D.resting_number r.number)) (gateway (cell xs))) →
        State ys × Roomy (remembering (key o.side o.price) (depth (cell ys)))
    unfolding D.take_off
    off_asks h b = remember_asks xs (without D.resting_number r.number) b.becomes (key o.side o.price) (rw key_is h)

    pub remove_done : {zs : List ℕ} → InPlace xs ys (with_depth (with_resting (without D.resting_number r.number)) (gateway (cell xs))) →
        InPlace ys zs (with_depth (remembering (key o.side o.price)) (gateway (cell ys))) → InPlace xs zs (with_depth (D.take_off r) (gateway (cell xs)))
    unfolding D.take_off
    remove_done b c = rw key_is at (remembered_here xs (without D.resting_number r.number) (key o.side o.price) b c)

    module _ (w v : ℕ) where
      pub shown_asks : Roomy (D.show (D.showing w v r) (depth (cell xs))) → InPlace xs ys (with_depth (with_resting (replace D.resting_number (D.showing w v r))) (gateway (cell xs))) →
          State ys × Roomy (remembering (key o.side o.price) (depth (cell ys)))
      unfolding D.show
      shown_asks h b = remember_asks xs (replace D.resting_number (D.showing w v r)) b.becomes (key o.side o.price) (rw key_is h)

      pub show_done : {zs : List ℕ} → InPlace xs ys (with_depth (with_resting (replace D.resting_number (D.showing w v r))) (gateway (cell xs))) →
          InPlace ys zs (with_depth (remembering (key o.side o.price)) (gateway (cell ys))) → InPlace xs zs (with_depth (D.show (D.showing w v r)) (gateway (cell xs)))
      unfolding D.show
      show_done b c = rw key_is at (remembered_here xs (replace D.resting_number (D.showing w v r)) (key o.side o.price) b c)

-- ---- whether a modify leaves an order in place

module _ (p v x n : ℕ) where
  pub none_left : v ≡ 0 → false ≡ stays (int p) v (int x) n
  none_left e = rw e refl

  module _ (some : v ≡ 0 → ⊥) where
    pub same_left : p ≡ x → leb v n ≡ stays (int p) v (int x) n
    same_left e = sym (rw (lt-ltb 0 v (omega (arith, some)), e, same_itself (int x)) refl)

    pub other_left : p < modulus → x < modulus → (p ≡ x → ⊥) → false ≡ stays (int p) v (int x) n
    other_left h k ne = sym (rw (lt-ltb 0 v (omega (arith, some)), ← same_price_is p x h k, ne_eqb p x ne) refl)

-- ---- what happens to it

module _ (xs : List ℕ) (i : ℕ) (o : Resting) (a : At i o (cell xs)) where
  abbrev it : D.Resting
  it = resting_at i (cell xs)

  abbrev d : D.Depth
  d = depth (cell xs)

  module _ (q v : ℕ) where
    filled_off : v ≡ 0 → (x : D.Depth) → D.filled q v it x ≡ D.take_off it x
    filled_off e x = rw (eq-eqb v 0 e) refl

    filled_shows : (v ≡ 0 → ⊥) → (x : D.Depth) → D.filled q v it x ≡ D.show (D.showing (o.visible - q) v it) x
    filled_shows n x = rw (ne_eqb v 0 n) (ap (λ (y : Resting). D.show (D.showing (y.visible - q) v it) x) (sym a.is))

    pub fill_off_asks : v ≡ 0 → Roomy (D.filled q v it d) → Roomy (D.take_off it d)
    fill_off_asks e h = rw (filled_off e d) at h

    pub fill_off_done : {ys : List ℕ} → v ≡ 0 → InPlace xs ys (with_depth (D.take_off it) (gateway (cell xs))) → InPlace xs ys (with_depth (D.filled q v it) (gateway (cell xs)))
    fill_off_done {ys} e b = subst (λ (x : D.Depth). InPlace xs ys (with_depth (λ _. x) (gateway (cell xs)))) (sym (filled_off e d)) b

    pub fill_show_asks : (v ≡ 0 → ⊥) → Roomy (D.filled q v it d) → CanShow o.visible (D.showing (o.visible - q) v it) d
    fill_show_asks n h = record { fits = λ l. absurd (omega arith); room = rw (filled_shows n d) at h }

    pub fill_show_done : {ys : List ℕ} → (v ≡ 0 → ⊥) → InPlace xs ys (with_depth (D.show (D.showing (o.visible - q) v it)) (gateway (cell xs))) → InPlace xs ys (with_depth (D.filled q v it) (gateway (cell xs)))
    fill_show_done {ys} n b = subst (λ (x : D.Depth). InPlace xs ys (with_depth (λ _. x) (gateway (cell xs)))) (sym (filled_shows n d)) b

  module _ (w : ℕ) where
    shows_next : (x : D.Depth) → D.show (D.showing w o.leaves it) x ≡ replenished w it x
    shows_next x = ap (λ (y : Resting). D.show (D.showing w y.leaves it) x) a.is

    pub replenish_asks : Judged (replenished w it d) → CanShow o.visible (D.showing w o.leaves it) d
    unfolding D.show
    replenish_asks h = rw (ap (λ (y : Resting). y.leaves) a.is) (record { fits = λ _. level_fits it.side it.price _ h.fits; room = (few_parts _ h.few).2 })

    pub replenish_done : {ys : List ℕ} → InPlace xs ys (with_depth (D.show (D.showing w o.leaves it)) (gateway (cell xs))) → InPlace xs ys (with_depth (replenished w it) (gateway (cell xs)))
    replenish_done {ys} b = subst (λ (x : D.Depth). InPlace xs ys (with_depth (λ _. x) (gateway (cell xs)))) (shows_next d) b

  module _ (p v : ℕ) where
    abbrev stay : Bool
    stay = stays (int p) v (int o.price) o.leaves

    modified_is : (b : Bool) → b ≡ stay → (x : D.Depth) → D.modified (int p) v it x ≡ cond b (D.show (D.showing (min o.visible v) v it) x) (D.take_off it x)
    modified_is b e x =
        ap (λ (y : Resting). cond (stays (int p) v (int y.price) y.leaves) (D.show (D.showing (min y.visible v) v it) x) (D.take_off it x)) (sym a.is)
        ∙ ap (λ c. cond c (D.show (D.showing (min o.visible v) v it) x) (D.take_off it x)) (sym e)

    pub modify_show_asks : (w : ℕ) (b : Bool) → b ≡ stay → b ≡ true → w ≡ min o.visible v → Roomy (D.modified (int p) v it d) → CanShow o.visible (D.showing w v it) d
    modify_show_asks w b e t q h = rw q (record { fits = λ l. absurd (omega (arith, min-le_left o.visible v)); room = rw (modified_is true (sym t ∙ e) d) at h })

    pub modify_show_done : {ys : List ℕ} (w : ℕ) (b : Bool) → b ≡ stay → b ≡ true → w ≡ min o.visible v → InPlace xs ys (with_depth (D.show (D.showing w v it)) (gateway (cell xs))) →
        InPlace xs ys (with_depth (D.modified (int p) v it) (gateway (cell xs)))
    modify_show_done {ys} w b e t q h =
        subst (λ (x : D.Depth). InPlace xs ys (with_depth (λ _. x) (gateway (cell xs)))) (ap (λ w. D.show (D.showing w v it) d) q ∙ sym (modified_is true (sym t ∙ e) d)) h

    pub modify_off_asks : (b : Bool) → b ≡ stay → b ≡ false → Roomy (D.modified (int p) v it d) → Roomy (D.take_off it d)
    modify_off_asks b e t h = rw (modified_is false (sym t ∙ e) d) at h

    pub modify_off_done : {ys : List ℕ} (b : Bool) → b ≡ stay → b ≡ false → InPlace xs ys (with_depth (D.take_off it) (gateway (cell xs))) → InPlace xs ys (with_depth (D.modified (int p) v it) (gateway (cell xs)))
    modify_off_done {ys} b e t h = subst (λ (x : D.Depth). InPlace xs ys (with_depth (λ _. x) (gateway (cell xs)))) (sym (modified_is false (sym t ∙ e) d)) h

-- ---- an order that comes

module _ {xs : List ℕ} (s : State xs) (i n : ℕ) (o : Resting) (f : Free i n (cell xs)) (j : Judged (D.add (resting_of n o) (depth (cell xs)))) (z : Side) (k : ℕ) (zq : z ≡ side o.side) (kq : int o.price ≡ k ⊖ half) where
  pub levels_add_asks : Table z xs × L.CanAdd (L.size z (cell xs)) o.visible (look L.key k (entries z (cell xs)))
  levels_add_asks = rw zq (side_table s (side o.side), add_can s n o j k kq)

  module _ {ys : List ℕ} (d : L.Did z xs ys (L.added k o.visible (entries z (cell xs)))) where
    added : L.Did (side o.side) xs ys (L.added k o.visible (entries (side o.side) (cell xs)))
    added = rw zq at d

    pub rest_asks : Holds ys × (i < order_room) × (word (cell ys) C.resting_orders < order_room)
    rest_asks = let t = rest_can s n o j k kq added i f.inside f.number_is f.free in (d.table.holds, t.0, t.1)

    pub join_done : (l : ℕ) {zs : List ℕ} → Is zs (Orders.rest i o l (cell ys)) → Becomes zs (with_depth (with_resting (insert D.resting_number (resting_of n o))) (gateway (cell xs)))
    join_done l h = rest_done s n o j k kq added i f.inside f.number_is f.free l h

module _ {xs : List ℕ} (s : State xs) (n : ℕ) (o : Resting) (c : CanAdd (resting_of n o) (cell xs)) where
  abbrev r'' : D.Resting
  r'' = resting_of n o

  pub row_asks : CanOpen n (cell xs)
  unfolding D.add
  row_asks =
      record {
        absent = c.absent;
        at_most_last = c.at_most_last;
        room = omega (arith, length_insert D.resting_number r'' (depth (cell xs)).resting, (few_parts (D.add r'' (depth (cell xs))) c.judged.few).0, s.sound.tables.ordered.counted.resting_count);
      }

  module _ {ys : List ℕ} (i : ℕ) (p : Opens xs ys n i) where
    pub join_asks : State ys × Free i (number_at i (cell ys)) (cell ys) × Judged (D.add (resting_of (number_at i (cell ys)) o) (depth (cell ys)))
    join_asks =
        let f = p.free in (
          p.same.state,
          record { inside = f.inside; number_is = refl; free = f.free },
          rw (f.number_is, ap (λ g. g.rest.depth) p.same.gateway_is) c.judged,
        )

    pub rested : {zs : List ℕ} → Becomes zs (with_depth (with_resting (insert D.resting_number (resting_of (number_at i (cell ys)) o))) (gateway (cell ys))) →
        Becomes zs (with_depth (with_resting (insert D.resting_number r'')) (gateway (cell xs)))
    rested b =
        record {
          state = b.state;
          gateway_is =
              b.gateway_is ∙ ap₂ (λ m g. with_depth (with_resting (insert D.resting_number (resting_of m o))) g) p.free.number_is p.same.gateway_is;
        }

  module _ {ys : List ℕ} (b : Becomes ys (with_depth (with_resting (insert D.resting_number r'')) (gateway (cell xs)))) where
    pub added_asks : State ys × Roomy (remembering (key o.side o.price) (depth (cell ys)))
    unfolding D.add
    added_asks = remember_asks xs (insert D.resting_number r'') b (key o.side o.price) (few_parts (D.add r'' (depth (cell xs))) c.judged.few).2

    pub add_done : {zs : List ℕ} → Becomes zs (with_depth (remembering (key o.side o.price)) (gateway (cell ys))) → Becomes zs (with_depth (D.add r'') (gateway (cell xs)))
    unfolding D.add
    add_done e = remembered xs (insert D.resting_number r'') b (key o.side o.price) e

pub ruleset laws = (remember_done, levels_remove_asks, take_off_asks, strike_done, levels_show_asks, show_asks, reshow_done, off_asks, remove_done, shown_asks, show_done, fill_off_asks, fill_off_done, fill_show_asks, fill_show_done, replenish_asks, replenish_done, modify_show_asks, modify_show_done, modify_off_asks, modify_off_done, none_left, same_left, other_left, arith)
