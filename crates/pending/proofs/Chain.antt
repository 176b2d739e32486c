-- The chains of the changed levels: what they lead past is no such level, and what keeps them. Assumes nothing.
use mathlib.Core.Path.{◌≡◌, refl, sym, ap, ap₂, subst, ◌∙◌}
use mathlib.Core.Logic.{⊎_elim}
use mathlib.Core.Bool.{Bool, true, false, cond, ◌&&◌, ◌||◌, and-eq-true_iff, and-false}
use mathlib.Core.List.{List, [], ◌∷◌}
use Prim.Native.Nat.{ℕ, zero, suc, ◌+◌, ◌-◌, ◌%◌, ◌≤◌, ◌<◌}
use native.Mathlib.Nat.{not-suc-le-zero, eq-or-lt_of_le}
use native.Mathlib.Numerals.{add-one}
use native.Mathlib.Omega.{arith}
use borrow.Author.Tests.{eq-eqb, ne_eqb, eqb-true, eqb-false, not-false}
use lib.Dec.{eqb}
use lib.IntN.{ℤ}
use Rattle.orderbook.specs.declared.Side.{Side}
use Rattle.orderbook.specs.declared.Side.TheVariants.{Buy, Sell}
use Rattle.words.specs.Words.{int, word_of, modulus}
use Rattle.words.proofs.Int.{of_int}
use Rattle.table.proofs.Live.{same?}
use Rattle.gateway.proofs.Holds.{side_is}
use Rattle.gateway.specs.Depth.{Key, same_key, is_changed}
use Rattle.gateway.specs.Limits.{most_changed}
use Rattle.gateway.proofs.Base.{split}
use Rattle.gateway.proofs.Counted.{same_is}
use Rattle.store.specs.Cells as C
use Rattle.store.specs.Layout.{cell, Holds, Set}
use Rattle.store.specs.View.{Row, Store, listed, flag, side, word, write, fill, changed_key, depth, Is}
use Rattle.store.proofs.Places.{changed_cell, top_cell}
use Rattle.store.proofs.Rows.{then_set}
use Rattle.pending.specs.Pending.{Chained, key, side_slots, first_slot, slot, slots, slot_at, newest, top, push_row, push_level, forget_tops}
use Rattle.pending.proofs.Keys.{last_first, scan_none, scan_hit, scan_miss}

-- ---- slots

pub slot_small : (q : Key) → slot q < slots
unfolding slot
slot_small q = go q.0 (word_of q.1)
  where
    go : (z : Side) (w : ℕ) → first_slot z + w % side_slots < slots
    go Buy w = omega arith
    go Sell w = omega arith

-- as the code computes it
module _ (x p i : ℕ) (f : p < modulus) (e : i ≡ p % side_slots) where
  word_slot : word_of (int p) % side_slots ≡ i
  word_slot = ap (λ w. w % side_slots) (of_int p f) ∙ sym e

  pub buy_slot : x ≡ 0 → (i ≡ slot (key x p)) × (i < slots)
  unfolding slot
  buy_slot z = (rw (eq-eqb x 0 z, word_slot) (omega arith), omega arith)

  pub sell_slot : (x ≡ 0 → ⊥) → (side_slots + i ≡ slot (key x p)) × (side_slots + i < slots)
  unfolding slot
  sell_slot z = (rw (ne_eqb x 0 z, word_slot) refl, omega arith)

same_slot : (q r : Key) → same_key q r ≡ true → slot q ≡ slot r
same_slot q r e =
    let (a, b) = (and-eq-true_iff _ _).0 e in
    ap slot (ap₂ (λ (z : Side) (p : ℤ). (z, p)) (side_is q.0 r.0 a) (same_is q.1 r.1 b))

other_slot : (q r : Key) → (slot r ≡ slot q → ⊥) → same_key q r ≡ false
other_slot q r n = split (λ b. same_key q r ≡ b → b ≡ false) (same_key q r) (λ e _. absurd (n (sym (same_slot q r e)))) (λ _ _. refl) refl

-- ---- the newest row of a slot

module _ (s : Store) (k : ℕ) where
  pub newest_small : (n : ℕ) → newest s k n ≤ n
  unfolding newest
  newest_small zero = omega arith
  newest_small (suc n) = split (λ b. cond b (suc n) (newest s k n) ≤ suc n) (eqb (slot_at s n) k) (λ _. omega arith) (λ _. omega (arith, newest_small n))

  pub newest_slot : (n : ℕ) → 0 < newest s k n → slot_at s (newest s k n - 1) ≡ k
  unfolding newest
  newest_slot zero h = absurd (not-suc-le-zero h)
  newest_slot (suc n) h =
      split (λ b. 0 < cond b (suc n) (newest s k n) → slot_at s (cond b (suc n) (newest s k n) - 1) ≡ k) (eqb (slot_at s n) k)
      (λ e _. ap (slot_at s) (let q : suc n - 1 ≡ n = omega arith in q) ∙ eqb-true (slot_at s n) k e) (λ _ h. newest_slot n h) h

-- the rows behind the newest of its slot are not that level
pub newest_scan : (s : Store) (q : Key) (n : ℕ) →
    is_changed q (listed (λ i. changed_key (s C.changed i)) n) ≡ is_changed q (listed (λ i. changed_key (s C.changed i)) (newest s (slot q) n))
unfolding newest listed
newest_scan s q zero = refl
newest_scan s q (suc n) =
    split (λ b. is_changed q (listed f (suc n)) ≡ is_changed q (listed f (cond b (suc n) (newest s (slot q) n)))) (eqb (slot_at s n) (slot q)) (λ _. refl)
    (λ e. last_first q (f n) (listed f n) ∙ ap (λ b. b || is_changed q (listed f n)) (other_slot q (f n) (eqb-false (slot_at s n) (slot q) e)) ∙ newest_scan s q n)
  where
    f : ℕ → Key
    f i = changed_key (s C.changed i)

newest_ext : (s t : Store) (k n : ℕ) → ((j : ℕ) → j < n → slot_at t j ≡ slot_at s j) → newest t k n ≡ newest s k n
unfolding newest
newest_ext s t k zero h = refl
newest_ext s t k (suc n) h =
    ap₂ (λ x y. cond (eqb x k) (suc n) y) (h n (omega arith)) (newest_ext s t k n (λ j l. h j (omega arith)))

newest_here : (s : Store) (k n : ℕ) → slot_at s n ≡ k → newest s k (n + 1) ≡ n + 1
unfolding newest
newest_here s k n e = rw (add-one n, eq-eqb (slot_at s n) k e) refl

newest_past : (s : Store) (k n : ℕ) → (slot_at s n ≡ k → ⊥) → newest s k (n + 1) ≡ newest s k n
unfolding newest
newest_past s k n e = rw (add-one n, ne_eqb (slot_at s n) k e) refl

-- ---- what keeps the chains

-- rows, links and tops are those of s
module _ (s t : Store) (rows_are : word t C.changed_rows ≡ word s C.changed_rows)
    (cells : (j k : ℕ) → j < word s C.changed_rows → k < 3 → t C.changed j k ≡ s C.changed j k)
    (tops_are : (k : ℕ) → k < slots → t C.tops k C.top_row ≡ s C.tops k C.top_row) where
  slots_kept : (j : ℕ) → j < word s C.changed_rows → slot_at t j ≡ slot_at s j
  slots_kept j l = λ i. slot (side (cells j C.changed_side l (omega arith) i), int (cells j C.changed_price l (omega arith) i))

  pub chained_kept : Chained s → Chained t
  chained_kept c =
      record {
        links = λ j l.
            let h : j < word s C.changed_rows = rw rows_are at l in
            cells j C.changed_link h (omega arith) ∙ c.links j h ∙ ap (λ k. newest s k j) (sym (slots_kept j h)) ∙ sym (newest_ext s t (slot_at t j) j (λ i m. slots_kept i (omega arith)));
        tops = λ k l. tops_are k l ∙ c.tops k l ∙ sym (newest_ext s t k (word s C.changed_rows) slots_kept) ∙ ap (newest t k) (sym rows_are);
      }

-- all that the chains are made of
abbrev pub chains : Store → ℕ × (ℕ → Row) × (ℕ → Row)
chains s = (word s C.changed_rows, s C.changed, s C.tops)

pub chained_same : {s t : Store} → chains t ≡ chains s → Chained s → Chained t
chained_same {s} {t} e = chained_kept s t (ap (λ x. x.0) e) (λ j k l m. ap (λ x. x.1 j k) e) (λ k l. ap (λ x. x.2 k C.top_row) e)

-- no rows, and no tops
pub chained_none : (s : Store) → word s C.changed_rows ≡ 0 → ((k : ℕ) → k < slots → top s k ≡ 0) → Chained s
unfolding newest
chained_none s e none = record { links = λ j l. absurd (omega arith); tops = λ k l. none k l ∙ ap (newest s k) (sym e) }

-- a row more
module _ (x p : ℕ) (s : Store) (c : Chained s) where
  abbrev pushed : Store
  pushed = push_level x p s

  abbrev q : ℕ
  q = slot (key x p)

  abbrev rows : ℕ
  rows = word s C.changed_rows

  row_before : (j l : ℕ) → j < rows → pushed C.changed j l ≡ s C.changed j l
  unfolding fill
  row_before j l h = rw (ne_eqb j rows (λ e. omega arith)) refl

  slot_before : (j : ℕ) → j < rows → slot_at pushed j ≡ slot_at s j
  slot_before j h = λ i. slot (side (row_before j C.changed_side h i), int (row_before j C.changed_price h i))

  slot_new : slot_at pushed rows ≡ q
  unfolding fill
  slot_new = rw (eq-eqb rows rows refl) refl

  link_new : pushed C.changed rows C.changed_link ≡ top s q
  unfolding fill
  link_new = rw (eq-eqb rows rows refl) refl

  newest_before : (k : ℕ) → newest pushed k rows ≡ newest s k rows
  newest_before k = newest_ext s pushed k rows slot_before

  top_new : pushed C.tops q C.top_row ≡ rows + 1
  top_new = rw (eq-eqb q q refl) refl

  top_other : (k : ℕ) → (k ≡ q → ⊥) → pushed C.tops k C.top_row ≡ s C.tops k C.top_row
  unfolding fill
  top_other k n = rw (ne_eqb k q n) refl

  pub chained_pushed : Chained pushed
  chained_pushed =
      record {
        links = λ j l.
            ⊎_elim
            (λ (e : j ≡ rows). rw e (link_new ∙ c.tops q (slot_small (key x p)) ∙ sym (newest_before q) ∙ ap (λ k. newest pushed k rows) (sym slot_new)))
            (λ h.
            row_before j C.changed_link h ∙ c.links j h ∙ ap (λ k. newest s k j) (sym (slot_before j h)) ∙ sym (newest_ext s pushed (slot_at pushed j) j (λ i m. slot_before i (omega arith))))
            (eq-or-lt_of_le (let h : j ≤ rows = omega arith in h));
        tops = λ k l.
            ⊎_elim
            (λ (e : k ≡ q). rw e (top_new ∙ sym (newest_here pushed q rows slot_new)))
            (λ n. top_other k n ∙ c.tops k l ∙ sym (newest_before k) ∙ sym (newest_past pushed k rows (λ e. n (sym e ∙ slot_new))))
            (same? k q);
      }

-- ---- as the code reads them

pub slot_read : (xs : List ℕ) (i a b r : ℕ) → a ≡ cell xs C.changed i C.changed_side → b ≡ cell xs C.changed i C.changed_price → r ≡ slot (key a b) → r ≡ slot_at (cell xs) i
slot_read xs i a b r p q e = e ∙ (λ z. slot (side (p z), int (q z)))

pub top_at : (xs : List ℕ) (q : Key) (k t : ℕ) → k ≡ slot q → t ≡ top (cell xs) k → t ≡ top (cell xs) (slot q)
top_at xs q k t e h = h ∙ ap (top (cell xs)) e

-- no row from n on is the level q, and the row before n has its slot
pub record Passed (s : Store) (q : Key) (n : ℕ) : Type 0 where
  pub few : n ≤ word s C.changed_rows
  pub its : 0 < n → slot_at s (n - 1) ≡ slot q
  pub rest : is_changed q (depth s).changed ≡ is_changed q (listed (λ i. changed_key (s C.changed i)) n)

module _ (s : Store) (q : Key) where
  abbrev keys : ℕ → Key
  keys i = changed_key (s C.changed i)

  passed_newest : (n : ℕ) → n ≤ word s C.changed_rows → is_changed q (depth s).changed ≡ is_changed q (listed keys n) → Passed s q (newest s (slot q) n)
  passed_newest n l e = record { few = omega (arith, newest_small s (slot q) n); its = newest_slot s (slot q) n; rest = e ∙ newest_scan s q n }

  pub passed_top : (t : ℕ) → Chained s → t ≡ top s (slot q) → Passed s q t
  passed_top t c e = rw (e ∙ c.tops (slot q) (slot_small q)) (passed_newest (word s C.changed_rows) (omega arith) refl)

  module _ {n : ℕ} (d : Passed s q n) where
    pub passed_link : (l : ℕ) → Chained s → 0 < n → same_key q (keys (n - 1)) ≡ false → l ≡ s C.changed (n - 1) C.changed_link → Passed s q l
    passed_link l c h t e =
        let j : n - 1 < word s C.changed_rows = omega (arith, d.few) in
        rw (e ∙ c.links (n - 1) j ∙ ap (λ k. newest s k (n - 1)) (d.its h)) (passed_newest (n - 1) (omega arith) (d.rest ∙ scan_miss keys q n h t))

    pub link_less : (l : ℕ) → Chained s → 0 < n → l ≡ s C.changed (n - 1) C.changed_link → l < n
    link_less l c h e = omega (arith, e, c.links (n - 1) (omega (arith, d.few)), newest_small s (slot_at s (n - 1)) (n - 1))

    pub passed_hit : 0 < n → same_key q (keys (n - 1)) ≡ true → true ≡ is_changed q (depth s).changed
    passed_hit h t = sym (d.rest ∙ scan_hit keys q n h t)

    pub passed_all : n ≤ 0 → false ≡ is_changed q (depth s).changed
    passed_all h = sym (d.rest ∙ scan_none keys q n h)

-- a level is pushed
pub slot_fits : (k x p : ℕ) → k ≡ slot (key x p) → k < slots
slot_fits k x p e = rw e (slot_small (key x p))

pub push_is : (xs : List ℕ) {ys zs : List ℕ} (x p n k t : ℕ) → n ≡ word (cell xs) C.changed_rows → k ≡ slot (key x p) → t ≡ top (cell xs) k →
    Is ys (push_row C.changed C.changed_rows (x ∷ p ∷ t ∷ []) (cell xs)) → Set ys zs C.tops k C.top_row (n + 1) → Is zs (push_level x p (cell xs))
push_is xs {ys} {zs} x p n k t a b c h e =
    let d : t ≡ top (cell xs) (slot (key x p)) = c ∙ ap (top (cell xs)) b in
    subst (Is zs) (λ i. write C.tops (b i) C.top_row (a i + 1) (push_row C.changed C.changed_rows (x ∷ p ∷ d i ∷ []) (cell xs)))
    (then_set h (top_cell k C.top_row (slot_fits k x p b) (omega arith)) e)

-- ---- the tops of the first n rows' slots are forgotten

pub forget_none : (xs : List ℕ) → Holds xs → Is xs (forget_tops 0 (cell xs))
unfolding newest
forget_none xs h = record { holds = h; same = λ b i k c. ap (λ t. cond t 0 (cell xs b i k)) (sym (and-false (eqb b C.tops))) }

-- a, x and c: whether it is a top, whether an earlier row has its slot, and whether it is a top's cell
again : (a x c : Bool) (v : ℕ) → cond (a && c) 0 (cond (a && (x && c)) 0 v) ≡ cond (a && c) 0 v
again false x c v = refl
again true x true v = refl
again true x false v = ap (λ t. cond t 0 v) (and-false x)

pub slot_at_small : (s : Store) (j k : ℕ) → k ≡ slot_at s j → k < slots
slot_at_small s j k e = rw e (slot_small (changed_key (s C.changed j)))

module _ (s : Store) (n : ℕ) where
  forget_one : (b k l : ℕ) → write C.tops (slot_at s n) C.top_row 0 (forget_tops n s) b k l ≡ forget_tops (n + 1) s b k l
  forget_one b k l =
      ⊎_elim
      (λ (e : k ≡ slot_at s n).
      rw (newest_here s k n (sym e), eq-eqb k (slot_at s n) e, ne_eqb (n + 1) 0 (λ q. omega arith)) (again (eqb b C.tops) (flag (newest s k n)) (eqb l C.top_row) (s b k l)))
      (λ e. rw (newest_past s k n (λ q. e (sym q)), ne_eqb k (slot_at s n) e, and-false (eqb b C.tops)) refl)
      (same? k (slot_at s n))

  pub forget_more : (ys zs : List ℕ) (k : ℕ) → n < most_changed → Is ys (forget_tops n s) → k ≡ slot_at (cell ys) n → Set ys zs C.tops k C.top_row 0 → Is zs (forget_tops (n + 1) s)
  forget_more ys zs k l p e q =
      let at : (j : ℕ) → j < 3 → cell ys C.changed n j ≡ s C.changed n j = λ j h. p.same C.changed n j (changed_cell n j l h) in
      let r : k ≡ slot_at s n = e ∙ (λ z. slot (side (at C.changed_side (omega arith) z), int (at C.changed_price (omega arith) z))) in
      let t = then_set p (top_cell k C.top_row (slot_at_small s n k r) (omega arith)) q in
      record { holds = t.holds; same = λ b i j c. t.same b i j c ∙ ap (λ x. write C.tops x C.top_row 0 (forget_tops n s) b i j) r ∙ forget_one b i j }

-- with those of all rows, no top is left
pub forgotten : (s : Store) → Chained s → (k : ℕ) → k < slots → forget_tops (word s C.changed_rows) s C.tops k C.top_row ≡ 0
forgotten s c k l =
    let n = newest s k (word s C.changed_rows) in
    split (λ t. cond (t && true) 0 (top s k) ≡ 0) (flag n) (λ _. refl) (λ e. c.tops k l ∙ eqb-true n 0 (not-false (eqb n 0) e))
