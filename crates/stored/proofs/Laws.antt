-- The words of a row, the kinds of calls, and what two comparisons tell. Assumes nothing.
use Rattle.std.proofs.Common.{◌≡◌, ℕ, ◌+◌, ◌*◌, ◌/◌, ◌%◌, ◌^◌, ◌<◌, ◌≤◌, min, Bool, true, false, eqb, List, [], ◌∷◌, replicate, sym, refl, ap, ◌∙◌, subst, inl, inr, ⊎_elim, add-one, arith, rules, le-ltb, lt-ltb, ne_eqb}
use mathlib.Core.Bool.{false≢true}
use lib.Bits.{bit_and, and_mask}
use types.Run.{OneOf}
use borrow.Author.Tests.{not-true, not-false}
use Rattle.le.specs.Checked.{stored}
use Rattle.le.proofs.Laws.{lt_or_le}
use Rattle.stored.specs.declared.Tally.{Tally}
use Rattle.stored.specs.Rows as R

-- ---- words

pub word_in : (xs : List ℕ) (i w : ℕ) → i < 65536 → w ≡ R.load_at xs (8 * i) → w ≡ R.word_at xs i
unfolding R.word_at
word_in xs i w h e = rw (lt-ltb i 65536 h) e

pub word_out : (xs : List ℕ) (i : ℕ) → 65536 ≤ i → 0 ≡ R.word_at xs i
unfolding R.word_at
word_out xs i h = rw (le-ltb i 65536 h) refl

pub put_in : (xs ys : List ℕ) (i w : ℕ) → i < 16 → ys ≡ stored xs (8 * i) 8 w → ys ≡ R.put_at xs i w
unfolding R.put_at
put_in xs ys i w h e = rw (lt-ltb i 16 h) e

pub put_out : (xs : List ℕ) (i w : ℕ) → 16 ≤ i → xs ≡ R.put_at xs i w
unfolding R.put_at
put_out xs i w h = rw (le-ltb i 16 h) refl

-- for the crates above
pub put_then : (xs ys zs : List ℕ) (i v j w : ℕ) → ys ≡ R.put_at xs i v → zs ≡ R.put_at ys j w → zs ≡ R.put_at (R.put_at xs i v) j w
put_then xs ys zs i v j w e f = f ∙ ap (λ (x : List ℕ). R.put_at x j w) e

-- the loop of `tail`
module _ (xs : List ℕ) (from : ℕ) where
  pub moved_none : replicate 128 0 ≡ R.moved xs from 0
  unfolding R.moved
  moved_none = refl

  pub moved_more : (i w : ℕ) (ys zs : List ℕ) → ys ≡ R.moved xs from i → w ≡ R.word_at xs (from + i) → zs ≡ R.put_at ys i w → zs ≡ R.moved xs from (i + 1)
  unfolding R.moved
  moved_more i w ys zs e f g = rw (add-one i, ← e, ← f) g

  pub moved_all : (i : ℕ) (ys : List ℕ) → 16 ≤ i → i ≤ 16 → ys ≡ R.moved xs from i → ys ≡ R.tail_of xs from
  moved_all i ys a b e = let q : i ≡ 16 = omega arith in rw q at e

-- ---- runs

pub grows_in : (words i : ℕ) → i < 16 → eqb (bit_and (words / 2 ^ i) 1) 1 ≡ R.grows words i
unfolding R.grows
grows_in words i h = rw (lt-ltb i 16 h) (ap (λ (x : ℕ). eqb x 1) (and_mask (words / 2 ^ i) 1))

pub grows_out : (words i : ℕ) → 16 ≤ i → false ≡ R.grows words i
unfolding R.grows
grows_out words i h = rw (le-ltb i 16 h) refl

module _ (xs : List ℕ) (words i : ℕ) (b : Bool) (e : b ≡ R.grows words i) where
  pub grow_yes : (ys : List ℕ) (v w : ℕ) → b ≡ true → v ≡ R.word_at xs i → w ≡ (v + 1) % 2 ^ 64 → ys ≡ R.put_at xs i w → ys ≡ R.grow_at xs words i
  unfolding R.grow_at
  grow_yes ys v w f g h k = rw (← e, f, ← g, ← h) k

  pub grow_no : b ≡ false → xs ≡ R.grow_at xs words i
  unfolding R.grow_at
  grow_no f = rw (← e, f) refl

-- the loop of `grow_row`
module _ (xs : List ℕ) (words : ℕ) where
  pub grown_none : xs ≡ R.grown xs words 0
  unfolding R.grown
  grown_none = refl

  pub grown_more : (i : ℕ) (ys zs : List ℕ) → ys ≡ R.grown xs words i → zs ≡ R.grow_at ys words i → zs ≡ R.grown xs words (i + 1)
  unfolding R.grown
  grown_more i ys zs e f = rw (add-one i, ← e) f

  pub grown_all : (i : ℕ) (ys : List ℕ) → words ≡ R.word_at xs 15 → 16 ≤ i → i ≤ 16 → ys ≡ R.grown xs words i → ys ≡ R.grow_row xs
  grown_all i ys w a b e = let q : i ≡ 16 = omega arith in rw (← w) (rw q at e)

-- ---- kinds

pub given_yes : (k : ℕ) → OneOf (0 ∷ 16 ∷ 18 ∷ 20 ∷ []) k → true ≡ R.given_by k
given_yes k (inl e) = rw e refl
given_yes k (inr (inl e)) = rw e refl
given_yes k (inr (inr (inl e))) = rw e refl
given_yes k (inr (inr (inr e))) = rw e refl

pub given_no : (k : ℕ) → (OneOf (0 ∷ 16 ∷ 18 ∷ 20 ∷ []) k → ⊥) → false ≡ R.given_by k
given_no k h = rw (ne_eqb k 0 (λ e. h (inl e)), ne_eqb k 16 (λ e. h (inr (inl e))), ne_eqb k 18 (λ e. h (inr (inr (inl e)))), ne_eqb k 20 (λ e. h (inr (inr (inr e))))) refl

pub start_yes : (k : ℕ) → OneOf (0 ∷ 20 ∷ []) k → true ≡ R.start_by k
start_yes k (inl e) = rw e refl
start_yes k (inr e) = rw e refl

pub start_no : (k : ℕ) → (OneOf (0 ∷ 20 ∷ []) k → ⊥) → false ≡ R.start_by k
start_no k h = rw (ne_eqb k 0 (λ e. h (inl e)), ne_eqb k 20 (λ e. h (inr e))) refl

pub is_given : (xs : List ℕ) (k : ℕ) (b : Bool) → k ≡ R.word_at xs 0 → b ≡ R.given_by k → b ≡ R.is_given xs
unfolding R.is_given
is_given xs k b e f = f ∙ ap R.given_by e

pub is_start : (xs : List ℕ) (k : ℕ) (b : Bool) → k ≡ R.word_at xs 0 → b ≡ R.start_by (k % 32) → b ≡ R.is_start xs
unfolding R.is_start
is_start xs k b e f = f ∙ ap (λ (j : ℕ). R.start_by (j % 32)) e

module _ (xs : List ℕ) (k n m : ℕ) (e : k ≡ R.word_at xs 0) where
  pub bytes_level : k ≡ 6 → m ≡ min n 1024 → 24 * m ≡ R.bytes_at xs n
  unfolding R.bytes_at
  bytes_level h f = rw (← e, h, f) refl

  pub bytes_order : OneOf (0 ∷ 18 ∷ []) k → m ≡ min n 384 → 64 * m ≡ R.bytes_at xs n
  unfolding R.bytes_at
  bytes_order (inl h) f = rw (← e, h, f) refl
  bytes_order (inr h) f = rw (← e, h, f) refl

  module _ (h6 : k ≡ 6 → ⊥) (h : OneOf (0 ∷ 18 ∷ []) k → ⊥) where
    pub bytes_one : 18 ≤ k → k < 21 → m ≡ min n 24576 → m ≡ R.bytes_at xs n
    unfolding R.bytes_at
    bytes_one a b f = ⊎_elim (λ l. let q : k ≡ 19 = nineteen l in rw (← e, q, f) refl) (λ l. let q : k ≡ 20 = omega arith in rw (← e, q, f) refl) (lt_or_le k 20)
      where
        nineteen : k < 20 → k ≡ 19
        nineteen l = let z : k ≡ 18 → ⊥ = λ q. h (inr q) in omega arith

    pub bytes_else : (k ≡ 19 → ⊥) → (k ≡ 20 → ⊥) → m ≡ min n 256 → 96 * m ≡ R.bytes_at xs n
    unfolding R.bytes_at
    bytes_else a b f = rw (← e, ne_eqb k 6 h6, ne_eqb k 0 (λ q. h (inl q)), ne_eqb k 18 (λ q. h (inr q)), ne_eqb k 19 a, ne_eqb k 20 b, f) refl

-- ---- the count

module _ (xs : List ℕ) (s : Bool) (e : s ≡ R.is_start xs) where
  pub begins_both : (g : ℕ) → s ≡ true → g ≡ R.gateway_of xs → eqb g 0 ≡ R.begins xs
  unfolding R.begins
  begins_both g h f = rw (← e, h, ← f) refl

  pub begins_not : s ≡ false → false ≡ R.begins xs
  unfolding R.begins
  begins_not h = rw (← e, h) refl

pub calls_is : (xs : List ℕ) (n a b d : ℕ) → a ≡ R.times xs → b ≡ (a + 1) % 2 ^ 64 → d ≡ (n + b) % 2 ^ 64 → d ≡ R.calls_with xs n
calls_is xs n a b d e f g = rw (← e, ← f) g

module _ (xs : List ℕ) (t : Tally) (more b : Bool) (d : ℕ) (e : b ≡ R.begins xs) (f : d ≡ R.calls_with xs t.calls) where
  pub counted_first : (l : ℕ) → b ≡ true → l ≡ (t.lists + 1) % 2 ^ 64 → record { lists = l; rows = 0; calls = d; more = more } ≡ R.counted xs t more
  unfolding R.counted
  counted_first l h g = rw (← e, h, ← f, ← g) refl

  pub counted_more : (l : ℕ) → b ≡ false → l ≡ (t.rows + 1) % 2 ^ 64 → record { lists = t.lists; rows = l; calls = d; more = more } ≡ R.counted xs t more
  unfolding R.counted
  counted_more l h g = rw (← e, h, ← f, ← g) refl

-- ---- what two comparisons tell

module _ (row got rows out : List ℕ) where
  pub agree_not : (a : Bool) → R.Tells a (row ≡ got) → a ≡ false → R.Tells false (R.Agree row got rows out)
  agree_not a t e = (λ f. absurd (false≢true f), λ h. sym e ∙ t.1 h.0)

  pub agree_given : (a g : Bool) → R.Tells a (row ≡ got) → a ≡ true → g ≡ R.is_given row → g ≡ true → R.Tells true (R.Agree row got rows out)
  agree_given a g t e f h = (λ _. (t.0 e, λ n. absurd (false≢true (sym n ∙ sym f ∙ h))), λ _. refl)

  pub agree_rows : (a g b : Bool) → R.Tells a (row ≡ got) → a ≡ true → g ≡ R.is_given row → g ≡ false → R.Tells b (rows ≡ out) → R.Tells b (R.Agree row got rows out)
  agree_rows a g b t e f h s = (λ i. (t.0 e, λ _. s.0 i), λ p. s.1 (p.1 (sym f ∙ h)))

pub tells_yes : (b : Bool) (A : Type 0) → R.Tells b A → b ≡ true → R.Tells true A
tells_yes b A t e = (λ _. t.0 e, λ _. refl)

pub tells_no : (b : Bool) (A : Type 0) → R.Tells b A → b ≡ false → R.Tells false A
tells_no b A t e = (λ f. absurd (false≢true f), λ h. sym e ∙ t.1 h)

pub ruleset laws = (rules, not-true, not-false, word_in, word_out, put_in, put_out, moved_none, moved_more, moved_all, grows_in, grows_out, grow_yes, grow_no, grown_none, grown_more, grown_all, given_yes, given_no, start_yes, start_no, is_given, is_start, bytes_level, bytes_order, bytes_one, bytes_else, begins_both, begins_not, calls_is, counted_first, counted_more, agree_not, agree_given, agree_rows, tells_yes, tells_no)
