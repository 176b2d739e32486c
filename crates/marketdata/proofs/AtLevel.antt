-- The level of a side and a price, as it is stored. Assumes nothing.
use mathlib.Core.Path.{◌≡◌, refl, sym, ap, ap₂, ◌∙◌}
use mathlib.Core.Bool.{Bool, true, false, cond}
use mathlib.Core.List.{List, [], ◌∷◌}
use Prim.Native.Nat.{ℕ, ◌+◌, ◌≤◌, ◌<◌}
use native.Mathlib.Omega.{arith}
use borrow.Author.Tests.{le-leb, leb-true}
use lib.IntN.{ℤ}
use lib.Signed.{le_z}
use Rattle.orderbook.specs.declared.Side.{Side}
use Rattle.words.specs.Words.{int, half, ◌⊖◌}
use Rattle.words.proofs.Diff.{⊖_le}
use Rattle.table.specs.Live.{look}
use Rattle.gateway.specs.Limits.{most_orders, most_levels}
use Rattle.gateway.specs.Depth as D
use Rattle.gateway.proofs.Base.{split}
use Rattle.gateway.proofs.Counted.{same_is}
use Rattle.gateway.proofs.AtPrice.{levels_orders}
use Rattle.store.specs.Layout.{cell}
use Rattle.store.specs.View.{side, depth}
use Rattle.levels.specs.declared.Row.{Row}
use Rattle.levels.specs.Levels as L
use Rattle.levels.proofs.Best.{level_of}
use Rattle.sound.specs.Sound.{State}
use Rattle.marketdata.specs.Marketdata.{IsLevel, Placed}
use Rattle.sound.proofs.Listed.{side_table}
use Rattle.marketdata.proofs.Resting.{level_stored}

-- a price has one key
no_higher : (a b : ℕ) → L.price a ≡ L.price b → a ≤ b
no_higher a b e =
    omega (arith, leb-true (a + half) (b + half) (sym (⊖_le a half b half) ∙ ap (λ x. le_z x (L.price b)) e ∙ ⊖_le b half b half ∙ le-leb (b + half) (b + half) (omega arith)))

same_key : (a b : ℕ) → L.price a ≡ L.price b → a ≡ b
same_key a b e = omega (arith, no_higher a b e, no_higher b a (sym e))

module _ {xs : List ℕ} (st : State xs) (sd pr : ℕ) (z : Side) (z_is : z ≡ side sd) (k : ℕ) (k_is : int pr ≡ k ⊖ half) where
  pub level_table : L.Table z xs
  level_table = side_table st z

  price_in : (p : ℤ) (ls : List D.Level) → (D.level_in p ls).price ≡ p
  price_in p [] = refl
  price_in p (l ∷ ls) =
      split (λ b. (D.same_price p l.price ≡ b) → (cond b l (D.level_in p ls)).price ≡ p) (D.same_price p l.price) (λ _ e. sym (same_is p l.price e)) (λ _ e. price_in p ls) refl

  abbrev rests : List D.Resting
  rests = (depth (cell xs)).resting

  its_price : (D.level (side sd, int pr) (depth (cell xs))).price ≡ int pr
  its_price = price_in (int pr) (D.levels (side sd) rests)

  its_orders : (D.level (side sd, int pr) (depth (cell xs))).orders ≤ most_orders
  its_orders = omega (arith, levels_orders (side sd) (int pr) rests, st.sound.tables.ordered.counted.resting_count, st.sound.tables.resting_few)

  level_is : D.level (side sd, int pr) (depth (cell xs)) ≡ level_of k (look L.key k (L.entries z (cell xs)))
  level_is = ap₂ (λ (p : ℤ) (w : Side). D.level_in p (D.levels w rests)) k_is (sym z_is) ∙ level_stored st z k

  stands : (q : Row) → q.qty ≡ (D.level (side sd, int pr) (depth (cell xs))).qty → q.orders ≡ (D.level (side sd, int pr) (depth (cell xs))).orders → IsLevel (side sd) (int pr) (depth (cell xs)) q
  stands q a b = record { price_is = its_price; qty_is = a; orders_is = b; few = omega (arith, its_orders) }

  -- one key has that price
  pub sought_placed : (i : ℕ) → L.Sought z xs k i → Placed (side sd) (int pr) xs i
  sought_placed i f j e = rw (← z_is, same_key j k (e ∙ k_is)) f

  module _ (i : ℕ) where
    pub placed_sought : Placed (side sd) (int pr) xs i → L.Sought z xs k i
    placed_sought p = rw z_is (p k (sym k_is))

    module _ (b : Bool) (f : L.IsAt z xs i k b) where
      pub level_small : b ≡ true → i < most_levels
      level_small e = let g : L.IsAt z xs i k true = rw e at f in omega (arith, g.0, level_table.few)

      pub level_found : b ≡ true → (q : Row) → q ≡ L.row z (cell xs) i → IsLevel (side sd) (int pr) (depth (cell xs)) q
      level_found e q q_is =
          let g : L.IsAt z xs i k true = rw e at f in
          let l = level_is ∙ ap (level_of k) g.1 in
          stands q (ap (λ (x : Row). x.qty) q_is ∙ sym (ap (λ (x : D.Level). x.qty) l)) (ap (λ (x : Row). x.orders) q_is ∙ sym (ap (λ (x : D.Level). x.orders) l))

      pub level_none : b ≡ false → IsLevel (side sd) (int pr) (depth (cell xs)) (record { key = k; qty = 0; orders = 0 })
      level_none e =
          let g : L.IsAt z xs i k false = rw e at f in
          let l = level_is ∙ ap (level_of k) g in
          stands (record { key = k; qty = 0; orders = 0 }) (sym (ap (λ (x : D.Level). x.qty) l)) (sym (ap (λ (x : D.Level). x.orders) l))

pub ruleset level_laws = (level_table, sought_placed, placed_sought, level_small, level_found, level_none, arith)
