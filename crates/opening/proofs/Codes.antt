-- The codes of set-up's and restore's tests are not 0, so a verdict of 0 means that all pass. Assumes nothing.
use Prim.Native.Nat.{ℕ}
use mathlib.Core.Bool.{Bool, true, false, cond, not, and-eq-true_iff}
use mathlib.Core.Path.{◌≡◌, refl, sym, ap, ◌∙◌}
use mathlib.Core.List.{List, [], ◌∷◌, ◌++◌}
use native.Mathlib.Omega.{arith}
use borrow.Author.Tests.{not-true}
use lib.IntN.{ℤ}
use lib.Dec.{eqb}
use Rattle.orderbook.specs.declared.Listed.{Listed}
use Rattle.accounts.specs.declared.Account.{Account}
use Rattle.gateway.specs.Limits.{outside}
use Rattle.gateway.specs.Ledger.{Order, holds_fit}
use Rattle.gateway.specs.Saved.{Saved}
use Rattle.gateway.specs.Listing.{listed_orders}
use Rattle.gateway.specs.Core.{Tests, Pass}
use Rattle.gateway.specs.Calls.{Gateway}
use Rattle.gateway.specs.Start.{not_started, started, start_unless, accounts_of, listed_tests, entry_tests, total_tests, set_up_tests, order_tests, saved_tests, restore_tests, restored_ledger}
use Rattle.outcome.specs.Answers.{verdict}
use Rattle.outcome.proofs.Calls.{codes}

pub codes_append : (ts us : Tests ℕ) → codes ts ≡ true → codes us ≡ true → codes (ts ++ us) ≡ true
codes_append [] us p q = q
codes_append (t ∷ ts) us p q =
    let e = (and-eq-true_iff (not (eqb t.0 0)) (codes ts)).0 p in
    rw e.0 (codes_append ts us e.1 q)

pub listed_codes : (limit last : ℕ) (xs : List Listed) (os : List Order) → codes (listed_tests limit last xs os) ≡ true
listed_codes limit last xs [] = refl
listed_codes limit last xs (o ∷ os) = listed_codes limit last xs os

pub order_codes : (limit last : ℕ) (os : List Order) → codes (order_tests limit last os) ≡ true
order_codes limit last [] = refl
order_codes limit last (o ∷ os) = order_codes limit last os

pub set_up_codes : (fee : ℤ) (limit last : ℕ) (l : List Account) (xs : List Listed) → codes (set_up_tests fee limit last l xs) ≡ true
set_up_codes fee limit last l xs = codes_append (entry_tests limit last l xs) (total_tests fee limit last l xs) (listed_codes limit last xs (listed_orders xs)) refl

pub restore_codes : (fee : ℤ) (limit : ℕ) (l : List Account) (s : Saved) → codes (restore_tests fee limit l s) ≡ true
restore_codes fee limit l s = codes_append (saved_tests limit l s) ((outside, holds_fit (restored_ledger fee (accounts_of limit l) s)) ∷ []) (order_codes limit s.last s.orders) refl

-- ---- a code that tests have is not 0

pub code_not_0 : (k : ℕ) (ts : Tests ℕ) → codes ((k, false) ∷ ts) ≡ true → k ≡ 0 → ⊥
code_not_0 k ts c e =
    absurd
    (let z : ◌≡◌ {A = Bool} false true = ap (λ n. not (eqb n 0)) (sym e) ∙ ((and-eq-true_iff (not (eqb k 0)) (codes ts)).0 c).0 in
    let n : ◌≡◌ {A = ℕ} 0 1 = cc in
    omega (arith, n))

-- the rest of them, behind one that passes
rest_of : (k : ℕ) (b : Bool) (ts : Tests ℕ) → codes ((k, b) ∷ ts) ≡ true → codes ts ≡ true
rest_of k b ts c = ((and-eq-true_iff (not (eqb k 0)) (codes ts)).0 c).1

-- ---- verdicts

pub verdict_append : (ts us : Tests ℕ) → codes ts ≡ true → verdict (ts ++ us) ≡ cond (eqb (verdict ts) 0) (verdict us) (verdict ts)
verdict_append [] us c = refl
verdict_append ((k, true) ∷ ts) us c = verdict_append ts us (rest_of k true ts c)
verdict_append ((k, false) ∷ ts) us c = rw (not-true (eqb k 0) ((and-eq-true_iff (not (eqb k 0)) (codes ts)).0 c).0) refl

pub passes : (ts : Tests ℕ) → codes ts ≡ true → verdict ts ≡ 0 → Pass ts
passes [] c e = tt
passes ((k, true) ∷ ts) c e = (refl, passes ts (rest_of k true ts c) e)
passes ((k, false) ∷ ts) c e = absurd (code_not_0 k ts c e)

-- ---- a start that is refused, and one that is not

pub start_refused : (ts : Tests ℕ) (g : Gateway) → codes ts ≡ true → (verdict ts ≡ 0 → ⊥) → start_unless ts g ≡ not_started (verdict ts)
unfolding start_unless
start_refused [] g c n = absurd (n refl)
start_refused ((k, true) ∷ ts) g c n = start_refused ts g (rest_of k true ts c) n
start_refused ((k, false) ∷ ts) g c n = refl

pub start_accepted : (ts : Tests ℕ) (g : Gateway) → codes ts ≡ true → verdict ts ≡ 0 → start_unless ts g ≡ started g
unfolding start_unless
start_accepted [] g c e = refl
start_accepted ((k, true) ∷ ts) g c e = start_accepted ts g (rest_of k true ts c) e
start_accepted ((k, false) ∷ ts) g c e = absurd (code_not_0 k ts c e)
