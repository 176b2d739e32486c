-- The search for a key among ascending ones.
-- Assumes nothing.
use Rattle.std.specs.Prelude.{Option, Some, None}
use mathlib.Core.Path.{◌≡◌, refl, sym, ap, subst, ◌∙◌}
use mathlib.Core.Logic.{inl, inr, ⊎_elim}
use mathlib.Core.List.{List}
use Prim.Native.Nat.{ℕ, zero, suc, ◌+◌, ◌*◌, ◌-◌, ◌/◌, ◌≤◌, ◌<◌}
use native.Mathlib.Nat.{eq-or-lt_of_le, mul_comm, mul-le-mul_left, div-mul-le_self, le-div_iff_mul-le}
use native.Mathlib.Omega.{arith}
use lib.ListN.{length}
use lib.Arith.{lt_of_le-ne}
use Rattle.le.proofs.Laws.{lt_or_le}
use Rattle.table.specs.Live.{live, look, Ascends}
use Rattle.table.specs.Table.{Room, Sorted, Between, Least, Counted, Finds, found}
use Rattle.table.proofs.Moves.{next, mono, step}
use Rattle.table.proofs.Live.{look_some, look_none}

-- a row's bytes are in the slice
pub row_in : {base stride n : ℕ} {xs : List ℕ} → Room base stride n xs → (i : ℕ) → i < n → base + stride * i + stride ≤ length xs
row_in {stride = stride} r i h = omega (arith, r.fits, step stride h)

-- there are at most as many rows as words
pub rows_few : {base stride n : ℕ} {xs : List ℕ} → Room base stride n xs → 8 * n ≤ length xs
rows_few {stride = stride} {n = n} r = omega (arith, r.fits, mul_comm stride n, mul-le-mul_left n r.wide)

-- the first rows of a table
pub first_rows : {base stride n : ℕ} {xs : List ℕ} (j : ℕ) → Sorted base stride n xs → j ≤ n → Sorted base stride j xs
first_rows {stride = stride} j s h =
    record {
      room = record { fits = omega (arith, s.room.fits, mono stride h); wide = s.room.wide; words = s.room.words };
      asc = λ a b l m. s.asc a b l (omega arith);
    }

pub least_near : {d n : ℕ} → d < n → Least d n d
least_near h = record { small = omega arith; near = omega arith; is = inl refl }

pub least_far : {d n : ℕ} → n ≤ d → Least d n n
least_far h = record { small = omega arith; near = omega arith; is = inr refl }

-- one part of many + 1
pub part : (left many : ℕ) → many ≤ left → (0 < (left + 1) / (many + 1)) × ((left + 1) / (many + 1) * many + (left + 1) / (many + 1) ≤ left + 1)
part left many h =
    ((le-div_iff_mul-le {k = many + 1} (omega arith)).1 (omega arith), omega (arith, div-mul-le_self (left + 1) (many + 1), next ((left + 1) / (many + 1)) many))

module _ {ks : ℕ → ℕ} where
  pub counted_none : (k lo w : ℕ) → Counted ks k lo w 0 0
  counted_none k lo w = record { few = omega arith; below = λ j h. absurd (omega arith); above = λ j a b. absurd (omega arith) }

  -- one row more, not below k
  pub counted_stop : (k lo w i c : ℕ) → Counted ks k lo w i c → k ≤ ks (lo + w * i + (w - 1)) → Counted ks k lo w (i + 1) c
  counted_stop k lo w i c d l =
      record {
        few = omega (arith, d.few);
        below = d.below;
        above = λ j a b. ⊎_elim (λ (e : j ≡ i). rw e l) (λ (q : j < i). d.above j a q) (eq-or-lt_of_le (omega arith));
      }

module _ {ks : ℕ → ℕ} {n : ℕ} where
  -- distinct keys are as far apart as their rows, or farther
  apart : Ascends (λ k. k) ks n → (d i : ℕ) → i + d < n → ks i + d ≤ ks (i + d)
  apart s zero i h = rw (let e : i + 0 ≡ i = omega arith in e) (omega arith)
  apart s (suc d) i h = omega (arith, apart s d i (omega arith), s (i + d) (i + suc d) (omega arith) (omega arith))

  ascends_far : Ascends (λ k. k) ks n → (i j : ℕ) → i ≤ j → j < n → ks i + (j - i) ≤ ks j
  ascends_far s i j h l = let e : i + (j - i) ≡ j = omega arith in subst (λ m. ks i + (j - i) ≤ ks m) e (apart s (j - i) i (omega arith))

  ascends_le : Ascends (λ k. k) ks n → (i j : ℕ) → i ≤ j → j < n → ks i ≤ ks j
  ascends_le s i j h l = ⊎_elim (λ e. rw e (omega arith)) (λ q. omega (arith, s i j q l)) (eq-or-lt_of_le h)

  -- where the search is over at once
  pub at_first : Ascends (λ k. k) ks n → (k : ℕ) → k ≤ ks 0 → Between ks n k 0 0
  at_first s k h = record { inside = omega arith; top = omega arith; below = λ j l. absurd (omega arith); above = λ j a b. omega (arith, ascends_le s 0 j a b) }

  pub past_last : Ascends (λ k. k) ks n → (k : ℕ) → 0 < n → ks (n - 1) < k → Between ks n k n n
  past_last s k h l = record { inside = omega arith; top = omega arith; below = λ j a. omega (arith, ascends_le s j (n - 1) (omega arith) (omega arith)); above = λ j a b. absurd (omega arith) }

  -- the rows that can be the first one not below k, which lies between the first key and the last: a is the lesser of its distance from the last
  -- and n - 1, b the lesser of that from the first and n - 1
  pub in_doubt : Ascends (λ k. k) ks n → (k a b : ℕ) → 0 < n → ks 0 ≤ k → k ≤ ks (n - 1) → Least (ks (n - 1) - k) (n - 1) a → Least (k - ks 0) (n - 1) b →
      (n - 1 - a ≤ b) × Between ks n k (n - 1 - a) (n - 1 - a + (b - (n - 1 - a)))
  in_doubt s k a b h f l p q = (ordered, record { inside = omega arith; top = omega (arith, ordered, q.small); below = below; above = above })
    where
      whole : ks 0 + (n - 1) ≤ ks (n - 1)
      whole = omega (arith, ascends_far s 0 (n - 1) (omega arith) (omega arith))

      ordered : n - 1 - a ≤ b
      ordered = ⊎_elim (λ e. ⊎_elim (λ g. omega (arith, whole, e, g)) (λ g. omega (arith, g)) q.is) (λ e. omega (arith, e)) p.is

      below : (j : ℕ) → j < n - 1 - a → ks j < k
      below j m = ⊎_elim (λ u. omega (arith, u, ascends_far s j (n - 1) (omega arith) (omega arith))) (λ u. absurd (omega (arith, u))) p.is

      above : (j : ℕ) → n - 1 - a + (b - (n - 1 - a)) ≤ j → j < n → k ≤ ks j
      above j m u =
          ⊎_elim (λ e. omega (arith, ordered, e, ascends_far s 0 j (omega arith) u)) (λ e. omega (arith, ordered, e, ascends_le s (n - 1) j (omega (arith, ordered, e)) u)) q.is

  -- one row more, below k: so are all before it
  pub counted_more : (k lo w i c : ℕ) → Ascends (λ k. k) ks n → 0 < w → lo + w * (i + 1) ≤ n → Counted ks k lo w i c → ks (lo + w * i + (w - 1)) < k → Counted ks k lo w (i + 1) (c + 1)
  counted_more k lo w i c s z f d l =
      record {
        few = omega (arith, d.few);
        below = λ j h. ⊎_elim (λ (e : j ≡ i). rw e l) (λ (q : j < i). d.below j (omega (arith, all))) (eq-or-lt_of_le (omega (arith, d.few)));
        above = λ j a b. absurd (omega (arith, all));
      }
    where
      all : i ≤ c
      all =
          ⊎_elim
          (λ (q : c < i). absurd (omega (arith, d.above c (omega arith) q, s (lo + w * c + (w - 1)) (lo + w * i + (w - 1)) (omega (arith, step w q)) (omega (arith, next w i)))))
          (λ (q : i ≤ c). q)
          (lt_or_le c i)

  -- what is in doubt once they are counted
  pub between_counted : (k lo left w many c : ℕ) → Ascends (λ k. k) ks n → Between ks n k lo (lo + left) → 0 < w → w * many ≤ left → w * many + w ≤ left + 1 → Counted ks k lo w many c →
      Between ks n k (lo + w * c) (lo + w * c + (left - w * many))
  between_counted k lo left w many c s b z f g d =
      record {
        inside = omega arith;
        top = omega (arith, b.top, mono w d.few);
        below = λ j h.
            ⊎_elim
            (λ (q : j < lo). b.below j q)
            (λ (q : lo ≤ j).
            let p : 0 < c = ⊎_elim (λ (e : 0 < c). e) (λ (e : c ≤ 0). absurd (omega (arith, mono w e))) (lt_or_le 0 c) in
            let i : ℕ = c - 1 in
            let e : i + 1 ≡ c = omega arith in
            let u : w * c ≡ w * i + w = ap (λ x. w * x) (sym e) ∙ next w i in
            omega (arith, d.below i (omega arith), ascends_le s j (lo + w * i + (w - 1)) (omega arith) (omega (arith, b.top, mono w d.few))))
            (lt_or_le j lo);
        above = λ j p q.
            ⊎_elim
            (λ (h : c < many). omega (arith, d.above c (omega arith) h, ascends_le s (lo + w * c + (w - 1)) j (omega arith) q))
            (λ (h : many ≤ c). b.above j (omega (arith, mono w h)) q)
            (lt_or_le c many);
      }

  pub between_end : {k lo hi : ℕ} → hi ≤ lo → Between ks n k lo hi → Between ks n k lo lo
  between_end h b =
      record { inside = omega arith; top = omega (arith, b.inside, b.top); below = b.below; above = λ j p q. b.above j (omega arith) q }

  -- what is not at i is nowhere
  pub finds_none : (ms : ℕ → ℕ) {k i : ℕ} → Ascends (λ k. k) ks n → Between ks n k i i → (i < n → ks i ≡ k → ms i ≡ 0) → Finds ks ms n k None
  finds_none ms {k} {i} s b d = λ j l e.
      ⊎_elim
      (λ q. absurd (omega (arith, b.below j q)))
      (λ q.
      ⊎_elim
      (λ (p : i ≡ j). rw (← p) (d (omega arith) (rw (← p) at e)))
      (λ p. absurd (omega (arith, b.above i (omega arith) (omega arith), s i j p l)))
      (eq-or-lt_of_le q))
      (lt_or_le j i)

  -- a key above the last one is nowhere
  pub finds_past : (ms : ℕ → ℕ) {k : ℕ} → Ascends (λ k. k) ks n → ks (n - 1) < k → Finds ks ms n k None
  finds_past ms s h = λ j l e. absurd (omega (arith, ascends_le s j (n - 1) (omega arith) (omega arith)))

  -- where the row that has the key is dead, there is none
  pub finds_dead : (ms : ℕ → ℕ) {k : ℕ} (i : ℕ) → Ascends (λ k. k) ks n → i < n → ks i ≡ k → ms i ≡ 0 → Finds ks ms n k None
  finds_dead ms i s h e d = λ j l q.
      ⊎_elim
      (λ (p : j < i). absurd (omega (arith, s j i p h)))
      (λ (p : i ≤ j). ⊎_elim (λ (w : i ≡ j). rw (← w) d) (λ w. absurd (omega (arith, s i j w l))) (eq-or-lt_of_le p))
      (lt_or_le j i)

  -- a key that is not there lies below those behind its place
  pub between_above : {k i : ℕ} → Ascends (λ k. k) ks n → Between ks n k i i → (i < n → ks i ≡ k → ⊥) → (j : ℕ) → i ≤ j → j < n → k < ks j
  between_above {k} {i} s b d j h l =
      let q : i < n = omega arith in
      ⊎_elim
      (λ (e : i ≡ j). rw (← e) (lt_of_le-ne (b.above i (omega arith) q) (λ e. d q (sym e))))
      (λ p. omega (arith, b.above i (omega arith) q, s i j p l))
      (eq-or-lt_of_le h)

-- what is found is what the list of the live rows has
pub finds_look : {A : Type 0} (mark key : A → ℕ) (f : ℕ → A) {ks ms : ℕ → ℕ} (n k : ℕ) → ((j : ℕ) → j < n → key (f j) ≡ ks j) → ((j : ℕ) → j < n → mark (f j) ≡ ms j)
    → Ascends key f n → (r : Option ℕ) → Finds ks ms n k r → look key k (live mark f n) ≡ found f r
finds_look mark key f n k ek em s (Some i) h =
    look_some mark key f k i n s h.0 (ek i h.0 ∙ h.1) (rw (em i h.0) h.2)
finds_look mark key f n k ek em s None h = look_none mark key f k n (λ j l e. em j l ∙ h j l (sym (ek j l) ∙ e))
