-- Which commands are in flight: those of the run that ends at the last number. Assumes nothing.
use mathlib.Core.Path.{◌≡◌, refl, sym, ap, ap₂, ◌∙◌}
use mathlib.Core.Bool.{true, false, false≢true}
use mathlib.Core.Logic.{⊎_elim}
use mathlib.Core.List.{List, [], ◌∷◌}
use Prim.Native.Nat.{ℕ, zero, suc, ◌+◌, ◌-◌, ◌%◌, ◌≤◌, ◌<◌}
use native.Mathlib.Omega.{arith}
use borrow.Author.Tests.{eq-eqb, ne_eqb, le-ltb, lt-ltb, lt-leb, ltb-true}
use lib.Dec.{ltb, leb}
use Rattle.le.proofs.Laws.{lt_or_le}
use Rattle.gateway.specs.Core.{Flight, drop_below, is_first, in_flight}
use Rattle.gateway.specs.Limits.{most_in_flight}
use Rattle.store.specs.Cells as C
use Rattle.store.specs.Layout.{cell}
use Rattle.store.specs.View.{Store, word, listed, in_slot, flights, gateway}
use Rattle.store.proofs.Listed.{listed_ext}
use Rattle.pending.specs.Pending as P
use Rattle.pending.proofs.Views.{listed_cons, drop_run}

module _ (g : ℕ → Flight) (h : (x : ℕ) → (g x).number ≡ x) where
  -- a run that starts at n or later keeps its first
  first_of : (n k m : ℕ) → n ≤ k → is_first n (drop_below n (listed (λ j. g (k + j)) m)) ≡ is_first n (listed (λ j. g (k + j)) m)
  unfolding listed
  first_of n k zero l = refl
  first_of n k (suc m) l = rw (listed_cons (λ j. g (k + j)) m, le-ltb (g (k + 0)).number n (rw (h (k + 0)) (omega arith))) refl

  later : (n k m : ℕ) → n < k → is_first n (drop_below n (listed (λ j. g (k + j)) m)) ≡ false
  unfolding listed
  later n k zero l = refl
  later n k (suc m) l =
      first_of n k (suc m) (omega arith) ∙ rw (listed_cons (λ j. g (k + j)) m, ne_eqb (g (k + 0)).number n (λ e. omega (arith, h (k + 0)))) refl

  -- one that starts at k and ends before n has nothing left
  gone : (n k m : ℕ) → k + m ≤ n → drop_below n (listed (λ j. g (k + j)) m) ≡ []
  unfolding listed
  gone n k zero l = refl
  gone n k (suc m) l =
      rw (listed_cons (λ j. g (k + j)) m, lt-ltb (g (k + 0)).number n (rw (h (k + 0)) (omega arith)))
      (ap (drop_below n) (listed_ext (λ j. g (suc k + j)) (λ j. g (k + suc j)) m (λ j q. ap g (let e : k + suc j ≡ suc k + j = omega arith in e))) ∙ gone n (suc k) m (omega arith))

  there : (d k m : ℕ) → is_first (k + d) (drop_below (k + d) (listed (λ j. g (k + j)) (d + suc m))) ≡ true
  there d k m = ap (is_first (k + d)) (drop_run g h d k (suc m) ∙ listed_cons (λ j. g (k + d + j)) m) ∙ eq-eqb (g (k + d + 0)).number (k + d) (omega (arith, h (k + d + 0)))

module _ (s : Store) (run : word s C.flying ≤ word s C.last) where
  abbrev start : ℕ
  start = word s C.last + 1 - word s C.flying

  run_is : flights s ≡ listed (λ j. in_slot s (start + j)) (word s C.flying)
  run_is =
      listed_ext (λ j. in_slot s (start + j)) (λ j. in_slot s (word s C.last + 1 + j - word s C.flying)) (word s C.flying)
      (λ j l. ap (in_slot s) (let q : word s C.last + 1 + j - word s C.flying ≡ start + j = omega arith in q))

  pub in_run : (n : ℕ) → n ≤ word s C.last → ltb (word s C.last - n) (word s C.flying) ≡ in_flight n (gateway s).core
  in_run n l =
      ⊎_elim
      (λ (q : word s C.last - n < word s C.flying).
      let d = n - start in
      let m = word s C.last - n in
      let a : word s C.flying ≡ d + suc m = omega arith in
      let b : n ≡ start + d = omega arith in
      lt-ltb (word s C.last - n) (word s C.flying) q
      ∙ sym (ap (λ fs. is_first n (drop_below n fs)) run_is ∙ ap₂ (λ x y. is_first x (drop_below x (listed (λ j. in_slot s (start + j)) y))) b a ∙ there (in_slot s) (λ x. refl) d start m))
      (λ q.
      le-ltb (word s C.last - n) (word s C.flying) q
      ∙ sym (ap (λ fs. is_first n (drop_below n fs)) run_is ∙ later (in_slot s) (λ x. refl) n start (word s C.flying) (omega arith)))
      (lt_or_le (word s C.last - n) (word s C.flying))

  pub past_run : (n : ℕ) → word s C.last < n → false ≡ in_flight n (gateway s).core
  past_run n l = sym (ap (λ fs. is_first n (drop_below n fs)) run_is ∙ ap (is_first n) (gone (in_slot s) (λ x. refl) n start (word s C.flying) (omega arith)))

  -- of a run that n is in, what is left from n on starts with n
  pub record First (n : ℕ) : Type 0 where
    pub behind : List Flight
    pub are : drop_below n (flights s) ≡ in_slot s n ∷ behind

  pub first_in_run : (n : ℕ) → in_flight n (gateway s).core ≡ true → First n
  first_in_run n e =
      let l : n ≤ word s C.last = ⊎_elim (λ k. absurd (false≢true (past_run n k ∙ e))) (λ k. k) (lt_or_le (word s C.last) n) in
      let q = ltb-true (word s C.last - n) (word s C.flying) (in_run n l ∙ e) in
      let d = n - start in
      let m = word s C.last - n in
      let a : word s C.flying ≡ d + suc m = omega arith in
      let b : n ≡ start + d = omega arith in
      let z : start + d + 0 ≡ n = omega arith in
      record {
        behind = listed (λ j. in_slot s (start + d + suc j)) m;
        are =
            ap (drop_below n) run_is ∙ ap₂ (λ x y. drop_below x (listed (λ j. in_slot s (start + j)) y)) b a
            ∙ drop_run (in_slot s) (λ x. refl) d start (suc m) ∙ listed_cons (λ j. in_slot s (start + d + j)) m
            ∙ ap (λ x. in_slot s x ∷ listed (λ j. in_slot s (start + d + suc j)) m) z;
      }

-- ---- as the code reads them

module _ (xs : List ℕ) (n : ℕ) where
  pub in_run_is : (last flying : ℕ) → word (cell xs) C.flying ≤ word (cell xs) C.last → last ≡ word (cell xs) C.last → flying ≡ word (cell xs) C.flying → n ≤ last →
      ltb (last - n) flying ≡ in_flight n (gateway (cell xs)).core
  in_run_is last flying run e f l = ap₂ (λ x y. ltb (x - n) y) e f ∙ in_run (cell xs) run n (rw (← e) l)

  pub past_run_is : (last : ℕ) → word (cell xs) C.flying ≤ word (cell xs) C.last → last ≡ word (cell xs) C.last → last < n → leb n last ≡ in_flight n (gateway (cell xs)).core
  past_run_is last run e l = lt-leb n last l ∙ past_run (cell xs) run n (rw (← e) l)

  pub flight_is : (a b c : ℕ) → a ≡ cell xs C.flights (n % most_in_flight) C.flight_sender → b ≡ cell xs C.flights (n % most_in_flight) C.flight_owner →
      c ≡ cell xs C.flights (n % most_in_flight) C.flight_places → P.in_flight_as n (record { sender = a; owner = b; places = c }) ≡ in_slot (cell xs) n
  flight_is a b c p q r = λ i. P.in_flight_as n (record { sender = p i; owner = q i; places = r i })
