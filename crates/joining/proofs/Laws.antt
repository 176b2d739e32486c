-- An account is added where every test passes. Assumes nothing.
use Rattle.std.specs.Prelude.{is_some, Result, Ok, Err}
use mathlib.Core.Path.{◌≡◌, refl, sym, ap, subst, ◌∙◌}
use mathlib.Core.Bool.{Bool, true, false, cond, not}
use mathlib.Core.List.{List, [], ◌∷◌}
use Prim.Native.Nat.{ℕ, ◌≤◌, ◌<◌}
use native.Mathlib.Omega.{arith}
use borrow.Author.Tests.{eq-eqb, ne_eqb, lt-ltb, le-ltb, ltb-true}
use lib.ListN.{length}
use lib.Dec.{eqb, ltb}
use Rattle.accounts.specs.declared.Account.{Account}
use Rattle.gateway.specs.Fits.{AccountFits}
use Rattle.gateway.specs.Limits.{owner_slots, out_of_range, exists, has_orders}
use Rattle.gateway.specs.Ledger.{account, open_of}
use Rattle.gateway.specs.Core.{Core, system, owner_limit, account_at, tests}
use Rattle.gateway.specs.Entry.{Plan, nothing, refuse, records}
use Rattle.gateway.specs.Calls.{Gateway, Outcome, call, carry_out, plan, add_account, joined}
use Rattle.store.specs.Cells as C
use Rattle.store.specs.Layout.{cell}
use Rattle.store.specs.View.{word, gateway}
use Rattle.store.specs.View as View
use Rattle.store.proofs.Listed.{listed_length}
use Rattle.clients.proofs.Views.{account_at_row}
use Rattle.sound.specs.Sound.{State, Becomes}
use Rattle.outcome.specs.Between.{Between}
use Rattle.outcome.specs.Answers.{Ends, Said, Says, verdict}
use Rattle.outcome.specs.declared.Refusal.{Refusal}
use Rattle.outcome.specs.Refusals.{code_of, refusal_code}
use Rattle.outcome.proofs.Calls.{coded, judged, says_recorded}
use Rattle.start.specs.Start.{entering}

-- ---- the tests

module _ (xs : List ℕ) (a : Account) where
  abbrev c : Core
  c = (gateway (cell xs)).core

  limit_is : length c.accounts ≡ word (cell xs) C.owner_limit
  limit_is = listed_length (λ i. View.account i (cell xs C.accounts i)) (word (cell xs) C.owner_limit)

  tests_are : tests (account a) c
      ≡ (out_of_range, ltb a.id (owner_limit c)) ∷ (exists, not (is_some (account_at a.id c))) ∷ (has_orders, eqb (open_of a.id c.ledger.orders) 0) ∷ []
  unfolding tests
  tests_are = refl

  -- by each test's answer
  by_answers : (u v w : Bool) → ltb a.id (owner_limit c) ≡ u → not (is_some (account_at a.id c)) ≡ v → eqb (open_of a.id c.ledger.orders) 0 ≡ w → cond u (cond v (cond w 0 12) 3) 1 ≡ verdict (tests (account a) c)
  by_answers u v w e f h =
      sym (ap verdict tests_are ∙ (λ i. verdict ((out_of_range, e i) ∷ (exists, f i) ∷ (has_orders, h i) ∷ [])))

  pub past_limit : (w : ℕ) → w ≡ word (cell xs) C.owner_limit → w ≤ a.id → 1 ≡ verdict (tests (account a) c)
  past_limit w e l = by_answers false _ _ (le-ltb a.id (owner_limit c) (omega (arith, limit_is))) refl refl

  module _ (st : State xs) (w : ℕ) (w_is : w ≡ word (cell xs) C.owner_limit) (l : a.id < w) where
    below : ltb a.id (owner_limit c) ≡ true
    below = lt-ltb a.id (owner_limit c) (omega (arith, limit_is))

    pub slot : a.id < owner_slots
    slot = omega (arith, st.sound.tables.ordered.bounds.accounts_fit)

    there : (b : Bool) → b ≡ is_some (View.account a.id (cell xs C.accounts a.id)) → not (is_some (account_at a.id c)) ≡ not b
    there b e = ap (λ o. not (is_some o)) (account_at_row a.id (cell xs) (omega arith)) ∙ ap not (sym e)

    module _ (b : Bool) (b_is : b ≡ is_some (View.account a.id (cell xs C.accounts a.id))) where
      pub account_exists : b ≡ true → 3 ≡ verdict (tests (account a) c)
      account_exists t = by_answers true false _ below (there b b_is ∙ ap not t) refl

      module _ (f : b ≡ false) (n : ℕ) (n_is : n ≡ cell xs C.accounts a.id C.account_open_orders) where
        count : open_of a.id c.ledger.orders ≡ n
        count = sym (n_is ∙ st.sound.held.counts a.id slot)

        pub orders_live : (n ≡ 0 → ⊥) → 12 ≡ verdict (tests (account a) c)
        orders_live h = by_answers true true false below (there b b_is ∙ ap not f) (ap (λ k. eqb k 0) count ∙ ne_eqb n 0 h)

        pub all_passed : n ≡ 0 → 0 ≡ verdict (tests (account a) c)
        all_passed z = by_answers true true true below (there b b_is ∙ ap not f) (ap (λ k. eqb k 0) count ∙ eq-eqb n 0 z)

-- ---- the call

module _ (xs : List ℕ) (a : Account) (b : Between xs) (v : Result (Unit {0}) Refusal) (v_is : code_of v ≡ verdict (tests (account a) (gateway (cell xs)).core)) where
  abbrev g : Gateway
  g = gateway (cell xs)

  abbrev after : Plan
  after = records system (account a) [] (joined a g.rest)

  plan_is : plan g.core g.rest (add_account a) ≡ cond (eqb (code_of v) 0) after (refuse (code_of v))
  unfolding plan tests
  plan_is = judged (tests (account a) g.core) after refl ∙ ap (λ (k : ℕ). cond (eqb k 0) after (refuse k)) (sym v_is)

  -- a refusal asks nothing of the funds
  pub not_added : (why : Refusal) → v ≡ Err why → Says nothing (call (gateway (cell xs)) (add_account a)) (refusal_code why) xs xs
  unfolding Ends
  not_added why z =
      let f : plan g.core g.rest (add_account a) ≡ refuse (refusal_code why) = plan_is ∙ ap (λ r. cond (eqb (code_of r) 0) after (refuse (code_of r))) z ∙ ap (λ (t : Bool). cond t after (refuse (refusal_code why))) (coded why) in
      let e : call g (add_account a) ≡ carry_out g.core (refuse (refusal_code why)) = ap (carry_out g.core) f in
      record { ends = subst (λ (o : Outcome). Ends o (Unit {0}) (Said nothing) (refusal_code why) xs xs) (sym e) (record { code_is = refl; state_kept = refl; rest_kept = tt }); between = b }

  module _ (z : v ≡ Ok tt) where
    pub enter_slot : a.id < word (cell xs) C.owner_limit
    unfolding tests
    enter_slot = omega (arith, limit_is xs a, ltb-true a.id (owner_limit g.core) (first (ltb a.id (owner_limit g.core)) _ (sym (ap code_of z) ∙ v_is)))
      where
        first : (t : Bool) (k : ℕ) → 0 ≡ cond t k 1 → t ≡ true
        first true k e = refl
        first false k e = absurd (omega (arith, e))

    pub added : {ys : List ℕ} → Becomes ys (entering a g) → AccountFits a → Says nothing (call (gateway (cell xs)) (add_account a)) 0 xs ys
    added d f = says_recorded xs (add_account a) f b system (account a) (joined a g.rest) (plan_is ∙ ap (λ r. cond (eqb (code_of r) 0) after (refuse (code_of r))) z) d

pub ruleset laws = (past_limit, slot, account_exists, orders_live, all_passed, not_added, enter_slot, added, arith)
