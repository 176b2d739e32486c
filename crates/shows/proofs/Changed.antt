-- The changed levels with one more, or two. Assumes nothing.
use mathlib.Core.Path.{◌≡◌, refl, sym, ap, ap₂, ◌∙◌}
use mathlib.Core.Bool.{Bool, true, false, cond, ◌&&◌, ◌||◌, and-eq-true_iff}
use mathlib.Core.List.{List, [], ◌∷◌, ◌++◌}
use Prim.Native.Nat.{ℕ, ◌+◌, ◌≤◌, ◌<◌}
use native.Mathlib.Omega.{arith}
use borrow.Author.Tests.{le-leb, lt-leb}
use lib.ListN.{length, length-append}
use lib.Dec.{leb}
use Rattle.words.specs.Words.{int}
use Rattle.gateway.specs.Limits.{most_changed}
use Rattle.gateway.specs.Ledger.{same_side}
use Rattle.gateway.specs.Depth.{Key, same_price, same_key, is_changed, remember}
use Rattle.gateway.proofs.Base.{split}
use Rattle.gateway.proofs.Counted.{same_is, and_comm}
use Rattle.store.specs.Cells as C
use Rattle.store.specs.Layout.{cell}
use Rattle.store.specs.View.{word, side, depth, changed_key}
use Rattle.store.proofs.Listed.{listed_length}
use Rattle.orders.specs.declared.Resting.{Resting}
use Rattle.pending.specs.Pending.{key}
use Rattle.pending.proofs.Keys.{last_first}
use Rattle.sound.specs.Sound.{State}
use Rattle.gateway.proofs.Holds.{side_is}
use Rattle.shows.specs.Shows.{Adds}

-- ---- one level

pub adds_none : (k : Key) (ks : List Key) (r : Bool) → r ≡ is_changed k ks → r ≡ true → Adds k ks 0
adds_none k ks r e t = let c = sym e ∙ t in record { most = omega arith; count = rw c (omega arith) }

pub adds_one : (k : Key) (ks : List Key) (r : Bool) → r ≡ is_changed k ks → r ≡ false → Adds k ks 1
adds_one k ks r e t = let c = sym e ∙ t in record { most = omega arith; count = rw c (length-append ks (k ∷ [])) }

-- at most one more
pub remember_most : (k : Key) (ks : List Key) → length (remember k ks) ≤ length ks + 1
remember_most k ks = split (λ b. length (cond b ks (ks ++ (k ∷ []))) ≤ length ks + 1) (is_changed k ks) (λ _. omega arith) (λ _. omega (arith, length-append ks (k ∷ [])))

-- ---- the same level

module _ (o p : Resting) (t : Bool) (t_is : t ≡ same_price (int o.price) (int p.price)) where
  pub level_by_side : t ≡ true → (u : Bool) → u ≡ same_side (side o.side) (side p.side) → u ≡ same_key (key o.side o.price) (key p.side p.price)
  level_by_side e u u_is = sym (and_comm (same_side (side o.side) (side p.side)) (same_price (int o.price) (int p.price)) ∙ ap₂ ◌&&◌ (sym t_is ∙ e) (sym u_is))

  pub level_by_price : t ≡ false → false ≡ same_key (key o.side o.price) (key p.side p.price)
  level_by_price e = sym (and_comm (same_side (side o.side) (side p.side)) (same_price (int o.price) (int p.price)) ∙ ap (λ (b : Bool). b && same_side (side o.side) (side p.side)) (sym t_is ∙ e))

-- ---- one more, and another

key_is : (k x : Key) → same_key k x ≡ true → k ≡ x
key_is k x e =
    let t = (and-eq-true_iff (same_side k.0 x.0) (same_price k.1 x.1)).0 e in
    λ i. (side_is k.0 x.0 t.0 i, same_is k.1 x.1 t.1 i)

module _ (k x : Key) (ks : List Key) where
  same_listed : same_key k x ≡ true → is_changed k (remember x ks) ≡ true
  same_listed e =
      split (λ b. (is_changed x ks ≡ b) → is_changed k (cond b ks (ks ++ (x ∷ []))) ≡ true) (is_changed x ks)
      (λ _ c. ap (λ (y : Key). is_changed y ks) (key_is k x e) ∙ c) (λ _ c. last_first k x ks ∙ ap (λ (b : Bool). b || is_changed k ks) e) refl

  other_listed : same_key k x ≡ false → is_changed k (remember x ks) ≡ is_changed k ks
  other_listed e =
      split (λ b. is_changed k (cond b ks (ks ++ (x ∷ []))) ≡ is_changed k ks) (is_changed x ks) (λ _. refl)
      (λ _. last_first k x ks ∙ ap (λ (b : Bool). b || is_changed k ks) e)

  same_twice : same_key k x ≡ true → remember k (remember x ks) ≡ remember x ks
  same_twice e = ap (λ (b : Bool). cond b (remember x ks) (remember x ks ++ (k ∷ []))) (same_listed e)

  two_more : (a b : ℕ) → Adds x ks a → Adds k ks b → same_key k x ≡ false → length (remember k (remember x ks)) ≡ length ks + a + b
  two_more a b f g e =
      ap (λ (c : Bool). length (cond c (remember x ks) (remember x ks ++ (k ∷ [])))) (other_listed e)
      ∙ split (λ c. length (cond c ks (ks ++ (k ∷ []))) ≡ length ks + b → length (cond c (remember x ks) (remember x ks ++ (k ∷ []))) ≡ length ks + a + b) (is_changed k ks)
      (λ _ h. omega (arith, f.count)) (λ _ h. omega (arith, f.count, length-append ks (k ∷ []), length-append (remember x ks) (k ∷ []))) g.count

-- ---- room, by the header's count

module _ {xs : List ℕ} (st : State xs) (n : ℕ) (n_is : n ≡ word (cell xs) C.changed_rows) where
  abbrev ks : List Key
  ks = (depth (cell xs)).changed

  length_is : length ks ≡ n
  length_is = listed_length (λ i. changed_key (cell xs C.changed i)) (word (cell xs) C.changed_rows) ∙ sym n_is

  pub count_most : n ≤ most_changed
  count_most = omega (arith, st.sound.tables.ordered.bounds.changed_fit)

  -- one level
  module _ (s p : ℕ) where
    pub level_short : n < most_changed → true ≡ leb (length (remember (key s p) ks)) most_changed
    level_short l = sym (le-leb (length (remember (key s p) ks)) most_changed (omega (arith, length_is, remember_most (key s p) ks)))

    pub level_full : most_changed ≤ n → (r : Bool) → r ≡ is_changed (key s p) ks → r ≡ leb (length (remember (key s p) ks)) most_changed
    level_full l r e =
        e
        ∙ split (λ b. b ≡ leb (length (cond b ks (ks ++ (key s p ∷ [])))) most_changed) (is_changed (key s p) ks)
        (λ _. sym (le-leb (length ks) most_changed (omega (arith, length_is, count_most))))
        (λ _. sym (lt-leb (length (ks ++ (key s p ∷ []))) most_changed (omega (arith, length_is, length-append ks (key s p ∷ [])))))

  -- two
  module _ (o p : Resting) (t : Bool) (t_is : t ≡ same_key (key p.side p.price) (key o.side o.price)) where
    pub levels_count : t ≡ false → (a b : ℕ) → Adds (key o.side o.price) ks a → Adds (key p.side p.price) ks b →
        leb (n + a + b) most_changed ≡ leb (length (remember (key p.side p.price) (remember (key o.side o.price) ks))) most_changed
    levels_count e a b f g =
        let m = two_more (key p.side p.price) (key o.side o.price) ks a b f g (sym t_is ∙ e) in
        ap (λ i. leb i most_changed) (let q : n + a + b ≡ length (remember (key p.side p.price) (remember (key o.side o.price) ks)) = omega (arith, m, length_is) in q)

pub levels_same : (ks : List Key) (o p : Resting) (t : Bool) → t ≡ same_key (key p.side p.price) (key o.side o.price) → t ≡ true → (r : Bool) →
    r ≡ leb (length (remember (key o.side o.price) ks)) most_changed → r ≡ leb (length (remember (key p.side p.price) (remember (key o.side o.price) ks))) most_changed
levels_same ks o p t t_is e r r_is =
    r_is ∙ ap (λ (l : List Key). leb (length l) most_changed) (sym (same_twice (key p.side p.price) (key o.side o.price) ks (sym t_is ∙ e)))

pub ruleset changed = (adds_none, adds_one, level_by_side, level_by_price, level_short, level_full, count_most, levels_count, levels_same, arith)
