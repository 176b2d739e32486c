-- What is read of an order where it rests, and the tests that it decides. Assumes nothing.
use Rattle.std.specs.Prelude.{Option, Some, None, is_some}
use mathlib.Core.Path.{◌≡◌, sym, ap, ◌∙◌}
use mathlib.Core.Bool.{Bool, true, false, not}
use mathlib.Core.List.{List}
use Prim.Native.Nat.{ℕ, ◌+◌, ◌-◌, ◌≤◌, ◌<◌}
use native.Mathlib.Omega.{arith}
use borrow.Author.Tests.{le-leb}
use lib.ListN.{length}
use lib.Dec.{leb}
use Rattle.gateway.specs.Basics.{option}
use Rattle.gateway.specs.Limits.{most_changed}
use Rattle.gateway.specs.Depth as D
use Rattle.store.specs.Cells as C
use Rattle.store.specs.Layout.{cell}
use Rattle.store.specs.View.{word, depth, changed_key, order_room}
use Rattle.store.proofs.Listed.{listed_length}
use Rattle.orders.specs.declared.Resting.{Resting}
use Rattle.orders.specs.Orders.{resting_row, resting_of, number_at}
use Rattle.pending.specs.Pending.{key}
use Rattle.marketdata.proofs.Events.{Seen}
use Rattle.outcome.specs.Between.{Between}
use Rattle.shows.specs.Shows.{touched, touched_few, both_few}
use Rattle.shows.proofs.Changed.{remember_most}

-- ---- an order that rests

module _ (xs : List ℕ) (n : ℕ) (r : Option ℕ) (seen : Seen xs n r) (i : ℕ) (e : r ≡ Some i) where
  abbrev os : List D.Resting
  os = (depth (cell xs)).resting

  at : Seen xs n (Some i)
  at = rw e at seen

  pub row_small : Between xs → i < order_room
  row_small b = omega (arith, at.row.0, b.state.sound.tables.ordered.bounds.orders_fit)

  module _ (o : Resting) (o_is : o ≡ resting_row (cell xs C.orders i)) where
    pub found_is : D.find_resting n os ≡ Some (resting_of (number_at i (cell xs)) o)
    found_is = at.order ∙ sym (ap (λ (x : Resting). Some (resting_of (number_at i (cell xs)) x)) o_is)

    pub covered : (q : ℕ) → leb q o.visible ≡ D.shows n q os
    covered q = sym (ap (option true (λ (x : D.Resting). leb q x.visible)) found_is)

    touched_is : (ks : List D.Key) → touched n os ks ≡ D.remember (key o.side o.price) ks
    touched_is ks = ap (option ks (λ (x : D.Resting). D.remember (D.key_of x) ks)) found_is

    -- the room for its level
    pub room_found : (t : Bool) → t ≡ leb (length (D.remember (key o.side o.price) (depth (cell xs)).changed)) most_changed → t ≡ touched_few n (depth (cell xs))
    room_found t t_is = t_is ∙ ap (λ (l : List D.Key). leb (length l) most_changed) (sym (touched_is (depth (cell xs)).changed))

    -- behind another's level
    pub other_found : (p : Resting) (t : Bool) → t ≡ leb (length (D.remember (key o.side o.price) (D.remember (key p.side p.price) (depth (cell xs)).changed))) most_changed →
        t ≡ leb (length (touched n os (D.remember (key p.side p.price) (depth (cell xs)).changed))) most_changed
    other_found p t t_is = t_is ∙ ap (λ (l : List D.Key). leb (length l) most_changed) (sym (touched_is (D.remember (key p.side p.price) (depth (cell xs)).changed)))

    -- before another's
    pub both_found : (k : ℕ) (t : Bool) → t ≡ leb (length (touched k os (D.remember (key o.side o.price) (depth (cell xs)).changed))) most_changed → t ≡ both_few n k (depth (cell xs))
    both_found k t t_is = t_is ∙ ap (λ (l : List D.Key). leb (length (touched k os l)) most_changed) (sym (touched_is (depth (cell xs)).changed))

-- ---- one that does not

module _ (xs : List ℕ) (n : ℕ) (r : Option ℕ) (seen : Seen xs n r) (e : r ≡ None) where
  none_is : D.find_resting n (depth (cell xs)).resting ≡ None
  none_is = let w : Seen xs n None = rw e at seen in w.order

  pub uncovered : (q : ℕ) → true ≡ D.shows n q (depth (cell xs)).resting
  uncovered q = sym (ap (option true (λ (x : D.Resting). leb q x.visible)) none_is)

  untouched : (ks : List D.Key) → touched n (depth (cell xs)).resting ks ≡ ks
  untouched ks = ap (option ks (λ (x : D.Resting). D.remember (D.key_of x) ks)) none_is

  pub room_none : Between xs → true ≡ touched_few n (depth (cell xs))
  room_none b =
      sym
      (ap (λ (l : List D.Key). leb (length l) most_changed) (untouched (depth (cell xs)).changed)
      ∙ le-leb (length (depth (cell xs)).changed) most_changed
      (omega (arith, listed_length (λ i. changed_key (cell xs C.changed i)) (word (cell xs) C.changed_rows), b.state.sound.tables.ordered.bounds.changed_fit)))

  pub other_none : (p : Resting) (t : Bool) → t ≡ leb (length (D.remember (key p.side p.price) (depth (cell xs)).changed)) most_changed →
      t ≡ leb (length (touched n (depth (cell xs)).resting (D.remember (key p.side p.price) (depth (cell xs)).changed))) most_changed
  other_none p t t_is = t_is ∙ ap (λ (l : List D.Key). leb (length l) most_changed) (sym (untouched (D.remember (key p.side p.price) (depth (cell xs)).changed)))

  pub both_none : (k : ℕ) (t : Bool) → t ≡ touched_few k (depth (cell xs)) → t ≡ both_few n k (depth (cell xs))
  both_none k t t_is = t_is ∙ ap (λ (l : List D.Key). leb (length (touched k (depth (cell xs)).resting l)) most_changed) (sym (untouched (depth (cell xs)).changed))

-- ---- whether it rests

pub absent_is : (xs : List ℕ) (n : ℕ) (r : Option ℕ) → Seen xs n r → (t : Bool) → is_some r ≡ not t → t ≡ not (is_some (D.find_resting n (depth (cell xs)).resting))
absent_is xs n r seen t e = flip t e ∙ ap not (go r seen)
  where
    flip : (u : Bool) → is_some r ≡ not u → u ≡ not (is_some r)
    flip true h = ap not (sym h)
    flip false h = ap not (sym h)

    go : (x : Option ℕ) → Seen xs n x → is_some x ≡ is_some (D.find_resting n (depth (cell xs)).resting)
    go None s = sym (ap is_some s.order)
    go (Some i) s = sym (ap is_some s.order)

-- ---- two, where there is room for two

touched_most : (n : ℕ) (os : List D.Resting) (ks : List D.Key) → length (touched n os ks) ≤ length ks + 1
touched_most n os ks = go (D.find_resting n os)
  where
    go : (x : Option D.Resting) → length (option ks (λ o. D.remember (D.key_of o) ks) x) ≤ length ks + 1
    go None = omega arith
    go (Some o) = remember_most (D.key_of o) ks

pub both_short : (xs : List ℕ) (maker taker k : ℕ) → k ≡ word (cell xs) C.changed_rows → k < most_changed - 1 → true ≡ both_few maker taker (depth (cell xs))
both_short xs maker taker k k_is l =
    let os = (depth (cell xs)).resting in
    let ks = (depth (cell xs)).changed in
    sym
    (le-leb (length (touched taker os (touched maker os ks))) most_changed
    (omega (arith, touched_most taker os (touched maker os ks), touched_most maker os ks, listed_length (λ i. changed_key (cell xs C.changed i)) (word (cell xs) C.changed_rows))))

pub ruleset seen_laws = (row_small, absent_is, covered, room_found, other_found, both_found, uncovered, room_none, other_none, both_none, both_short, arith)
