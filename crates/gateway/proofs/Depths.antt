-- Codes 7 and 5 for the depth. In plain words: where every level is in range and the tables have room, an order that goes or shows something else
-- can put only its own level out of range, and only by showing more; and of the tables only that of the changed levels can grow.
-- Assumes nothing.
use Rattle.std.proofs.Math.Nat.{min-le_left}
use Rattle.std.specs.Prelude.{Option, Some, None}
use mathlib.Core.Path.{◌≡◌, refl, sym, ap, ap₂, ◌∙◌}
use mathlib.Core.Bool.{Bool, true, false, cond, ◌&&◌, and-true, and-eq-true_iff}
use mathlib.Core.List.{List, [], ◌∷◌}
use Prim.Native.Nat.{ℕ, suc, ◌+◌, ◌-◌, ◌≤◌, ◌<◌, min}
use native.Mathlib.Omega.{arith}
use borrow.Author.Tests.{ltb-true, lt-ltb, le-leb}
use lib.ListN.{length}
use lib.Dec.{eqb, ltb, leb}
use lib.IntN.{ℤ}
use Rattle.orderbook.specs.declared.Side.{Side}
use Rattle.orderbook.specs.declared.Side.TheVariants.{Buy, Sell}
use Rattle.words.specs.Words.{modulus}
use Rattle.gateway.specs.Basics.{option}
use Rattle.gateway.specs.Limits.{most_orders, most_levels, most_changed}
use Rattle.gateway.specs.Ledger.{same_side}
use Rattle.gateway.specs.Depth.{Resting, Level, Depth, same_price, levels, level_in, key_of, remember, resting_number, find_resting, showing, show, take_off, where_resting, filled, modified, quantities_fit, levels_fit, levels_few, depth_few}
use Rattle.gateway.proofs.Base.{split}
use Rattle.gateway.proofs.Sorted.{look_key, look_without, look_replace, length_without, length_replace}
use Rattle.gateway.proofs.Feed.{Ascending, Alters, goes, shows, Acts, where_rises}
use Rattle.gateway.proofs.Levels.{parted, reshown, on, level_shows, take_off_levels, show_levels}
use Rattle.gateway.proofs.AtPrice.{same_mine, side_fits, level_fits, few_levels, few_parts}

-- ---- one order less in a side's levels, or one that shows something else

parted_fits : (p : ℤ) (v : ℕ) (ls : List Level) → quantities_fit ls ≡ true → quantities_fit (parted p v ls) ≡ true
parted_fits p v [] h = refl
parted_fits p v (l ∷ ls) h =
    let t = (and-eq-true_iff (ltb l.qty modulus) (quantities_fit ls)).0 h in
    let q = ltb-true l.qty modulus t.0 in
    let less : ltb (l.qty - v) modulus ≡ true = lt-ltb (l.qty - v) modulus (omega arith) in
    split
    (λ b. quantities_fit (cond b (cond (eqb l.orders 1) ls (record { price = l.price; qty = l.qty - v; orders = l.orders - 1 } ∷ ls)) (l ∷ parted p v ls)) ≡ true)
    (same_price p l.price)
    (λ _.
    split (λ c. quantities_fit (cond c ls (record { price = l.price; qty = l.qty - v; orders = l.orders - 1 } ∷ ls)) ≡ true) (eqb l.orders 1) (λ _. t.1)
    (λ _. (and-eq-true_iff (ltb (l.qty - v) modulus) (quantities_fit ls)).1 (less, t.1)))
    (λ _. (and-eq-true_iff (ltb l.qty modulus) (quantities_fit (parted p v ls))).1 (t.0, parted_fits p v ls t.1))

parted_length : (p : ℤ) (v : ℕ) (ls : List Level) → length (parted p v ls) ≤ length ls
parted_length p v [] = omega arith
parted_length p v (l ∷ ls) =
    let u = parted_length p v ls in
    split
    (λ b. length (cond b (cond (eqb l.orders 1) ls (record { price = l.price; qty = l.qty - v; orders = l.orders - 1 } ∷ ls)) (l ∷ parted p v ls)) ≤ suc (length ls))
    (same_price p l.price)
    (λ _. split (λ c. length (cond c ls (record { price = l.price; qty = l.qty - v; orders = l.orders - 1 } ∷ ls)) ≤ suc (length ls)) (eqb l.orders 1) (λ _. omega arith) (λ _. omega arith))
    (λ _. omega arith)

-- the level that it is at decides
reshown_fits : (p : ℤ) (v w : ℕ) (ls : List Level) → 0 < (level_in p ls).orders → quantities_fit ls ≡ true → quantities_fit (reshown p v w ls) ≡ ltb ((level_in p ls).qty - v + w) modulus
reshown_fits p v w [] n h = absurd (omega arith)
reshown_fits p v w (l ∷ ls) n h =
    let t = (and-eq-true_iff (ltb l.qty modulus) (quantities_fit ls)).0 h in
    split
    (λ b. 0 < (cond b l (level_in p ls)).orders →
    quantities_fit (cond b (record { price = l.price; qty = l.qty - v + w; orders = l.orders } ∷ ls) (l ∷ reshown p v w ls)) ≡ ltb ((cond b l (level_in p ls)).qty - v + w) modulus)
    (same_price p l.price)
    (λ _ _. ap (λ (b : Bool). ltb (l.qty - v + w) modulus && b) t.1 ∙ and-true _)
    (λ _ m. ap₂ ◌&&◌ t.0 (reshown_fits p v w ls m t.1)) n

reshown_length : (p : ℤ) (v w : ℕ) (ls : List Level) → length (reshown p v w ls) ≡ length ls
reshown_length p v w [] = refl
reshown_length p v w (l ∷ ls) =
    split (λ b. length (cond b (record { price = l.price; qty = l.qty - v + w; orders = l.orders } ∷ ls) (l ∷ reshown p v w ls)) ≡ suc (length ls)) (same_price p l.price)
    (λ _. refl) (λ _. ap suc (reshown_length p v w ls))

-- ---- the tests, by their parts

-- a test of both sides, where the other side than z passes as it did
sides : (test : List Level → Bool) (z : Side) (os rs : List Resting) → ((w : Side) → test (levels w os) ≡ true) → ((w : Side) → same_side w z ≡ false → levels w rs ≡ levels w os) →
    (test (levels Buy rs) && test (levels Sell rs)) ≡ test (levels z rs)
sides test Buy os rs h k = ap (λ (b : Bool). test (levels Buy rs) && b) (ap test (k Sell refl) ∙ h Sell) ∙ and-true _
sides test Sell os rs h k = ap (λ (b : Bool). b && test (levels Sell rs)) (ap test (k Buy refl) ∙ h Buy)

-- what happens to the order o touches its side alone, which then decides
module _ (o : Resting) (os rs : List Resting) (f : Side → List Level → List Level) (are : (z : Side) → levels z rs ≡ on z o (f z) (levels z os)) where
  abbrev own : List Level
  own = f o.side (levels o.side os)

  decides : (test : List Level → Bool) → ((z : Side) → test (levels z os) ≡ true) → (test (levels Buy rs) && test (levels Sell rs)) ≡ test own
  decides test h =
      sides test o.side os rs h (λ w e. are w ∙ ap (λ b. cond b (f w (levels w os)) (levels w os)) e)
      ∙ ap test (are o.side ∙ ap (λ b. cond b own (levels o.side os)) (same_mine o.side))

  pub own_fits : levels_fit os ≡ true → levels_fit rs ≡ quantities_fit own
  unfolding levels_fit
  own_fits h = decides quantities_fit (side_fits os h)

  pub own_few : ((z : Side) → length (levels z os) ≤ most_levels) → levels_few rs ≡ leb (length own) most_levels
  unfolding levels_few
  own_few h = decides (λ ls. leb (length ls) most_levels) (λ z. le-leb (length (levels z os)) most_levels (h z))

  own_most : ((z : Side) (ls : List Level) → length (f z ls) ≤ length ls) → (z : Side) → length (levels z rs) ≤ length (levels z os)
  own_most h z =
      rw (are z)
      (split (λ b. length (cond b (f z (levels z os)) (levels z os)) ≤ length (levels z os)) (same_side z o.side) (λ _. h z (levels z os)) (λ _. omega arith))

-- the orders and the levels of each side are few
pub record Few (d : Depth) : Type 0 where
  pub orders : length d.resting ≤ most_orders
  pub sides : (z : Side) → length (levels z d.resting) ≤ most_levels

pub few_counts : (d : Depth) → depth_few d ≡ true → Few d
few_counts d h = let t = few_parts d h in record { orders = t.0; sides = λ z. few_levels z d.resting t.1 }

-- with orders and levels few, code 5 is the room for the changed levels
pub changed_decides : (d : Depth) → Few d → depth_few d ≡ leb (length d.changed) most_changed
unfolding depth_few levels_few
changed_decides d f = rw (le-leb _ _ f.orders, le-leb _ _ (f.sides Buy), le-leb _ _ (f.sides Sell)) refl

-- ---- an order that rests goes, or shows something else

module _ (o : Resting) (d : Depth) (asc : Ascending d) (there : find_resting o.number d.resting ≡ Some o) where
  -- code 7
  module _ (fit : levels_fit d.resting ≡ true) where
    pub off_fits : levels_fit (take_off o d).resting ≡ true
    off_fits =
        own_fits o d.resting (take_off o d).resting (λ z. parted o.price o.visible) (λ z. take_off_levels z o d asc there) fit
        ∙ parted_fits o.price o.visible (levels o.side d.resting) (side_fits d.resting fit o.side)

    pub shown_fits : (v w : ℕ) → levels_fit (show (showing v w o) d).resting ≡ ltb ((level_in o.price (levels o.side d.resting)).qty - o.visible + v) modulus
    shown_fits v w =
        own_fits o d.resting (show (showing v w o) d).resting (λ z. reshown o.price o.visible v) (λ z. show_levels z o d asc there (showing v w o) refl refl refl) fit
        ∙ reshown_fits o.price o.visible v (levels o.side d.resting) (level_shows o.side o d.resting asc there (same_mine o.side)).1 (side_fits d.resting fit o.side)

    -- it shows no more than before
    pub lowered_fits : (v w : ℕ) → v ≤ o.visible → levels_fit (show (showing v w o) d).resting ≡ true
    lowered_fits v w h =
        let l = level_fits o.side o.price d.resting fit in
        let m = (level_shows o.side o d.resting asc there (same_mine o.side)).0 in
        shown_fits v w ∙ lt-ltb ((level_in o.price (levels o.side d.resting)).qty - o.visible + v) modulus (omega (arith, l, m, h))

  -- ---- whichever it does

  alters_sides : {e : Depth} → Alters o d e → (z : Side) → length (levels z e.resting) ≤ length (levels z d.resting)
  alters_sides goes =
      own_most o d.resting (take_off o d).resting (λ z. parted o.price o.visible) (λ z. take_off_levels z o d asc there) (λ z. parted_length o.price o.visible)
  alters_sides (shows v w) =
      own_most o d.resting (show (showing v w o) d).resting (λ z. reshown o.price o.visible v) (λ z. show_levels z o d asc there (showing v w o) refl refl refl)
      (λ z ls. omega (arith, reshown_length o.price o.visible v ls))

  alters_orders : {e : Depth} → Alters o d e → length e.resting ≤ length d.resting
  unfolding take_off show
  alters_orders goes = length_without resting_number o.number d.resting
  alters_orders (shows v w) = omega (arith, length_replace resting_number (showing v w o) d.resting)

  alters_counts : {e : Depth} → Alters o d e → Few d → Few e
  alters_counts a f = record { orders = omega (arith, alters_orders a, f.orders); sides = λ z. omega (arith, alters_sides a z, f.sides z) }

  alters_changed : {e : Depth} → Alters o d e → e.changed ≡ remember (key_of o) d.changed
  unfolding take_off show
  alters_changed goes = refl
  alters_changed (shows v w) = refl

  alters_others : {e : Depth} → Alters o d e → (k : ℕ) → (k ≡ o.number → ⊥) → find_resting k e.resting ≡ find_resting k d.resting
  unfolding take_off show
  alters_others goes k h = look_without resting_number k o.number h d.resting
  alters_others (shows v w) k h = look_replace resting_number k (showing v w o) h d.resting

-- ---- where the order n rests

-- the depth e is d after something has happened to the order n: its level is changed, where it rests, and the others are found as before
pub record After (n : ℕ) (d e : Depth) : Type 0 where
  pub ascending : Ascending e
  pub counts : Few d → Few e
  pub changed_is : e.changed ≡ option d.changed (λ o. remember (key_of o) d.changed) (find_resting n d.resting)
  pub others : (k : ℕ) → (k ≡ n → ⊥) → find_resting k e.resting ≡ find_resting k d.resting

module _ (n : ℕ) (f : Resting → Depth → Depth) (d : Depth) (asc : Ascending d) where
  there : (o : Resting) → find_resting n d.resting ≡ Some o → find_resting o.number d.resting ≡ Some o
  there o e = ap (λ k. find_resting k d.resting) (look_key resting_number n o d.resting e) ∙ e

  pub after : Acts f → After n d (where_resting n f d)
  after acts = go (find_resting n d.resting) refl (where_rises n f acts d asc)
    where
      go : (x : Option Resting) → find_resting n d.resting ≡ x → Ascending (option d (λ o. f o d) x) → After n d (option d (λ o. f o d) x)
      go None e r = record { ascending = r; counts = λ h. h; changed_is = sym (ap (option d.changed (λ o. remember (key_of o) d.changed)) e); others = λ k h. refl }
      go (Some o) e r =
          record {
            ascending = r;
            counts = alters_counts o d asc (there o e) (acts o d);
            changed_is = alters_changed o d asc (there o e) (acts o d) ∙ sym (ap (option d.changed (λ o. remember (key_of o) d.changed)) e);
            others = λ k h. alters_others o d asc (there o e) (acts o d) k (λ q. h (q ∙ look_key resting_number n o d.resting e));
          }

  -- code 7, from what it is for an order that rests
  pub where_fits : levels_fit d.resting ≡ true → ((o : Resting) → find_resting o.number d.resting ≡ Some o → levels_fit (f o d).resting ≡ true) → levels_fit (where_resting n f d).resting ≡ true
  where_fits fit h = go (find_resting n d.resting) refl
    where
      go : (x : Option Resting) → find_resting n d.resting ≡ x → levels_fit (option d (λ o. f o d) x).resting ≡ true
      go None e = fit
      go (Some o) e = h o (there o e)

module _ (n : ℕ) (d : Depth) (asc : Ascending d) (fit : levels_fit d.resting ≡ true) where
  pub cancelled_fits : levels_fit (where_resting n take_off d).resting ≡ true
  cancelled_fits = where_fits n take_off d asc fit (λ o t. off_fits o d asc t fit)

  -- a fill and a modify never show more than before
  pub filled_fits : (q v : ℕ) → levels_fit (where_resting n (filled q v) d).resting ≡ true
  filled_fits q v =
      where_fits n (filled q v) d asc fit
      (λ o t.
      split (λ b. levels_fit (cond b (take_off o d) (show (showing (o.visible - q) v o) d)).resting ≡ true) (eqb v 0) (λ _. off_fits o d asc t fit)
      (λ _. lowered_fits o d asc t fit (o.visible - q) v (omega arith)))

  pub modified_fits : (p : ℤ) (v : ℕ) → levels_fit (where_resting n (modified p v) d).resting ≡ true
  modified_fits p v =
      where_fits n (modified p v) d asc fit
      (λ o t.
      split (λ b. levels_fit (cond b (show (showing (min o.visible v) v o) d) (take_off o d)).resting ≡ true) (ltb 0 v && (same_price p o.price && leb v o.leaves))
      (λ _. lowered_fits o d asc t fit (min o.visible v) v (min-le_left o.visible v)) (λ _. off_fits o d asc t fit))

-- code 5 is then the room for its level
pub after_few : (n : ℕ) (d e : Depth) → After n d e → depth_few d ≡ true →
    depth_few e ≡ leb (length (option d.changed (λ o. remember (key_of o) d.changed) (find_resting n d.resting))) most_changed
after_few n d e a h = changed_decides e (a.counts (few_counts d h)) ∙ ap (λ ks. leb (length ks) most_changed) a.changed_is
