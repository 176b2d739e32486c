-- Bytes in lent bytes: one run behind another, numbers and rows as runs of bytes. Assumes nothing.
use mathlib.Core.Path.{◌≡◌, refl, sym, ap, ap₂, ◌∙◌}
use mathlib.Core.List.{List, [], ◌∷◌, ◌++◌}
use Prim.Native.Nat.{ℕ, zero, suc, ◌+◌, ◌*◌, ◌/◌, ◌%◌, ◌≤◌, ◌<◌}
use native.Mathlib.Numerals.{add-one}
use native.Mathlib.Omega.{arith}
use borrow.Author.Tests.{eq-eqb, ne_eqb}
use lib.ListN.{length, drop, set, length-append}
use lib.Seq.{sets, sets-eq, length-sets}
use Rattle.words.specs.Words.{int, modulus}
use Rattle.words.proofs.Int.{of_int}
use Rattle.le.specs.Le.{put}
use Rattle.le.specs.Row.{puts}
use Rattle.gateway.specs.Bytes.{number, row, head_widths, wallet_widths, order_widths, price_flag, price_word, buy_flag}
use Rattle.store.specs.View.{side, maybe_price}
use Rattle.orders.specs.declared.Live.{Live}
use Rattle.orders.specs.Orders.{order_of}
use Rattle.checkpoint.specs.Put.{head_bytes, wallet_bytes, order_bytes, put_bytes, Puts}

-- ---- runs of bytes

number_length : (n v : ℕ) → length (number n v) ≡ n
number_length zero v = refl
number_length (suc n) v = ap suc (number_length n (v / 256))

put_number : (n : ℕ) (xs : List ℕ) (o v : ℕ) → put n xs o v ≡ put_bytes o (number n v) xs
unfolding put put_bytes
put_number zero xs o v = refl
put_number (suc n) xs o v =
    put_number n (set xs o (v % 256)) (o + 1) (v / 256) ∙ ap (λ k. sets (set xs o (v % 256)) k (number n (v / 256))) (add-one o)

put_append : (o : ℕ) (cs bs xs : List ℕ) → put_bytes o (cs ++ bs) xs ≡ put_bytes (o + length cs) bs (put_bytes o cs xs)
unfolding put_bytes
put_append o [] bs xs = let e : o + 0 ≡ o = omega arith in ap (λ k. sets xs k bs) (sym e)
put_append o (a ∷ cs) bs xs =
    let e : suc o + length cs ≡ o + length (a ∷ cs) = omega arith in
    put_append (suc o) cs bs (set xs o a) ∙ ap (λ k. sets (sets (set xs o a) (suc o) cs) k bs) e

-- a row of fields is one run of bytes
puts_row : (ws xs : List ℕ) (o : ℕ) (vs : List ℕ) → puts ws xs o vs ≡ put_bytes o (row ws vs) xs
unfolding put_bytes
puts_row [] xs o vs = refl
puts_row (w ∷ ws) xs o [] = refl
puts_row (w ∷ ws) xs o (v ∷ vs) =
    puts_row ws (put w xs o v) (o + w) vs
    ∙ ap₂ (λ (k : ℕ) (ys : List ℕ). put_bytes k (row ws vs) ys) (ap (λ n. o + n) (sym (number_length w v))) (put_number w xs o v)
    ∙ sym (put_append o (number w v) (row ws vs) xs)

pub put_length : (o : ℕ) (bs xs : List ℕ) → length (put_bytes o bs xs) ≡ length xs
unfolding put_bytes
put_length o bs xs = length-sets xs o bs

-- at the front
pub put_front : (bs xs : List ℕ) → length bs ≤ length xs → put_bytes 0 bs xs ≡ bs ++ drop (length bs) xs
unfolding put_bytes
put_front bs xs h =
    let e : 0 + length bs ≡ length bs = omega arith in
    sets-eq bs xs 0 (omega arith) ∙ ap (λ n. bs ++ drop n xs) e

-- ---- one run behind another

pub puts_none : (o : ℕ) (out : List ℕ) → Puts o [] o out out
unfolding put_bytes
puts_none o out = record { next_is = omega arith; put = refl }

pub puts_more : (o k n : ℕ) (cs bs out : List ℕ) {mid end : List ℕ} → Puts o cs k out mid → Puts k bs n mid end → Puts o (cs ++ bs) n out end
puts_more o k n cs bs out p q =
    record {
      next_is = omega (arith, p.next_is, q.next_is, length-append cs bs);
      put = q.put ∙ ap₂ (λ (i : ℕ) (ys : List ℕ). put_bytes i bs ys) p.next_is p.put ∙ sym (put_append o cs bs out);
    }

pub puts_number : (w o v : ℕ) (out : List ℕ) {end : List ℕ} → end ≡ put w out o v → Puts o (number w v) (o + w) out end
puts_number w o v out e = record { next_is = ap (λ n. o + n) (sym (number_length w v)); put = e ∙ put_number w out o v }

pub puts_run : (n : ℕ) (bs out : List ℕ) {end : List ℕ} (o : ℕ) → length bs ≡ n → end ≡ put_bytes o bs out → Puts o bs (o + n) out end
puts_run n bs out o l e = record { next_is = ap (λ k. o + k) (sym l); put = e }

-- ---- fields

module _ (n w : ℕ) where
  pub word_absent : n ≡ 0 → 0 ≡ price_word (maybe_price n w)
  word_absent e = rw (eq-eqb n 0 e) refl

  pub word_present : w < modulus → (n ≡ 0 → ⊥) → w ≡ price_word (maybe_price n w)
  word_present f e = rw (ne_eqb n 0 e) (sym (of_int w f))

pub flags_are : (o : Live) (f b p : ℕ) → b ≡ buy_flag (side o.side) → p ≡ price_flag (maybe_price o.priced o.price) → f ≡ b + 2 * p →
    f ≡ buy_flag (side o.side) + 2 * price_flag (maybe_price o.priced o.price)
flags_are o f b p h k e = e ∙ ap₂ (λ (x y : ℕ). x + 2 * y) h k

-- ---- rows

pub head_put : (out end : List ℕ) (last n p f w : ℕ) → f ≡ price_flag (maybe_price n p) → w ≡ price_word (maybe_price n p) → end ≡ puts head_widths out 0 (last ∷ f ∷ w ∷ []) →
    end ≡ put_bytes 0 (head_bytes last (maybe_price n p)) out
unfolding head_bytes
head_put out end last n p f w h k e =
    e ∙ puts_row head_widths out 0 (last ∷ f ∷ w ∷ []) ∙ ap₂ (λ (x y : ℕ). put_bytes 0 (row head_widths (last ∷ x ∷ y ∷ [])) out) h k

pub wallet_put : (out mid low end : List ℕ) (o a c p : ℕ) → c < modulus → p < modulus → mid ≡ put 4 out o a → low ≡ put 8 mid (o + 4) c → end ≡ put 8 low (o + 4 + 8) p →
    end ≡ put_bytes o (wallet_bytes (a, record { cash = int c; position = int p })) out
unfolding wallet_bytes
wallet_put out mid low end o a c p f g x y z =
    z ∙ ap (λ ys. put 8 ys (o + 4 + 8) p) (y ∙ ap (λ ys. put 8 ys (o + 4) c) x) ∙ puts_row wallet_widths out o (a ∷ c ∷ p ∷ [])
    ∙ ap₂ (λ (u v : ℕ). put_bytes o (row wallet_widths (a ∷ u ∷ v ∷ [])) out) (sym (of_int c f)) (sym (of_int p g))

pub order_put : (out mid end : List ℕ) (o n f w : ℕ) (x : Live) → f ≡ buy_flag (side x.side) + 2 * price_flag (maybe_price x.priced x.price) → w ≡ price_word (maybe_price x.priced x.price) →
    mid ≡ puts (8 ∷ 4 ∷ 8 ∷ []) out o (n ∷ x.account ∷ x.client_ref ∷ []) → end ≡ puts (1 ∷ 8 ∷ 8 ∷ []) mid (o + 20) (f ∷ w ∷ x.leaves ∷ []) → end ≡ put_bytes o (order_bytes (order_of n x)) out
unfolding order_bytes
order_put out mid end o n f w x h k d e =
    let at : o + 20 ≡ o + 8 + 4 + 8 = omega arith in
    e ∙ ap₂ (λ (i : ℕ) (ys : List ℕ). puts (1 ∷ 8 ∷ 8 ∷ []) ys i (f ∷ w ∷ x.leaves ∷ [])) at d
    ∙ puts_row order_widths out o (n ∷ x.account ∷ x.client_ref ∷ f ∷ w ∷ x.leaves ∷ [])
    ∙ ap₂ (λ (u v : ℕ). put_bytes o (row order_widths (n ∷ x.account ∷ x.client_ref ∷ u ∷ v ∷ x.leaves ∷ [])) out) h k

pub ruleset stores = (word_absent, word_present, flags_are, head_put, wallet_put, order_put, arith)
