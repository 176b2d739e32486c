-- The call: what was judged, the depth taken from the listing, and what the call gives. Assumes nothing.
use Rattle.std.specs.Prelude.{Result, Ok, Err}
use mathlib.Core.Path.{◌≡◌, refl, sym, ap, subst, ◌∙◌}
use mathlib.Core.Bool.{Bool, true, false, cond, and-eq-true_iff}
use mathlib.Core.List.{List, []}
use Prim.Native.Nat.{ℕ}
use native.Mathlib.Omega.{arith}
use borrow.Author.Tests.{eqb-true}
use lib.Dec.{eqb}
use lib.ListN.{length}
use Rattle.table.proofs.Lists.{each_map}
use Rattle.gateway.specs.Core.{Core}
use Rattle.gateway.specs.Depth.{levels_few, levels_fit}
use Rattle.gateway.specs.Listing.{listing_agrees, resting_in, entries_agree}
use Rattle.gateway.specs.Entry.{Plan, nothing, refuse, sends}
use Rattle.gateway.specs.Calls.{Gateway, call, plan, finish, finished, finish_tests}
use Rattle.store.specs.Layout.{cell}
use Rattle.store.specs.View.{gateway}
use Rattle.sound.specs.Sound.{Becomes}
use Rattle.marketdata.specs.Marketdata.{with_depth}
use Rattle.outcome.specs.Between.{Between}
use Rattle.outcome.specs.Parts.{with_rest, rest_of}
use Rattle.outcome.specs.Answers.{Says, verdict}
use Rattle.outcome.specs.declared.Refusal.{Refusal}
use Rattle.outcome.specs.Refusals.{code_of, refusal_code}
use Rattle.outcome.proofs.Calls.{coded, judged, says_refused, says_done}
use Rattle.listing.specs.Rests.{CanRest}
use Rattle.listing.specs.Rows.{listing}
use Rattle.gateway.specs.Listing.{listed_depth}
use Rattle.finish.proofs.Agreed.{same_stop, same_leaves, other_leaves, row_once, row_differs, as_many, not_as_many, agree_each}
use Rattle.finish.proofs.Cleared.{unrest_is, remade_is, cleared_is, reset_becomes}

-- a verdict of 0: every test passed
three_pass : (a b c : Bool) → ◌≡◌ {A = ℕ} 0 (cond a (cond b (cond c 0 7) 5) 8) → (a ≡ true) × (b ≡ true) × (c ≡ true)
three_pass true true true h = (refl, refl, refl)
three_pass true true false h = absurd (omega (arith, h))
three_pass true false c h = absurd (omega (arith, h))
three_pass false b c h = absurd (omega (arith, h))

-- ---- the depth is taken from the listing

module _ (xs list : List ℕ) (b : Between xs) (passed : 0 ≡ verdict (finish_tests (listing list) (gateway (cell xs)).core)) where
  abbrev g : Gateway
  g = gateway (cell xs)

  module _ {ys : List ℕ} (r : Becomes ys (with_rest (finished [] g.core) g)) where
    pub can_rest : CanRest (listing list) (gateway (cell ys))
    unfolding listing_agrees
    can_rest =
        let t = three_pass (listing_agrees (listing list) g.core.ledger.orders) (levels_few (resting_in (listing list))) (levels_fit (resting_in (listing list))) passed in
        let a = (and-eq-true_iff (entries_agree (listing list) (listing list) g.core.ledger.orders) _).0 t.0 in
        let e = agree_each g.core.ledger.last (listing list) (listing list) g.core.ledger.orders (each_map (λ o h. h.0) g.core.ledger.orders b.ok.core_is.inside) a.0 in
        let n = eqb-true (length (listing list)) (length g.core.ledger.orders) a.1 in
        subst (CanRest (listing list)) (sym r.gateway_is)
        (record {
          empty = refl;
          once = each_map (λ x h. h.once) (listing list) e;
          numbered = each_map (λ x h. h.numbered) (listing list) e;
          few_orders = omega (arith, n, b.ok.core_is.few);
          few = t.1;
          fit = t.2;
        })

    pub apply_becomes : {zs : List ℕ} → Becomes zs (with_depth (λ _. listed_depth (listing list)) (gateway (cell ys))) → Becomes zs (with_rest (finished (listing list) g.core) g)
    apply_becomes d = record { state = d.state; gateway_is = d.gateway_is ∙ ap (with_depth (λ _. listed_depth (listing list))) r.gateway_is }

-- ---- the call

module _ (xs list : List ℕ) (b : Between xs) (v : Result (Unit {0}) Refusal) (v_is : code_of v ≡ verdict (finish_tests (listing list) (gateway (cell xs)).core)) where
  abbrev c : Core
  c = (gateway (cell xs)).core

  abbrev after : Plan
  after = sends [] (finished (listing list) c (rest_of xs))

  plan_is : (w : Result (Unit {0}) Refusal) → v ≡ w → plan c (rest_of xs) (finish (listing list)) ≡ cond (eqb (code_of w) 0) after (refuse (code_of w))
  unfolding plan
  plan_is w e = judged (finish_tests (listing list) c) after refl ∙ ap (λ k. cond (eqb k 0) after (refuse k)) (sym v_is ∙ ap code_of e)

  pub finish_refused : (why : Refusal) → v ≡ Err why → Says nothing (call (gateway (cell xs)) (finish (listing list))) (refusal_code why) xs xs
  finish_refused why n =
      says_refused xs (finish (listing list)) tt b nothing (refusal_code why) (plan_is (Err why) n ∙ ap (λ x. cond x after (refuse (refusal_code why))) (coded why))

  pub finish_done : {ys : List ℕ} → v ≡ Ok tt → Becomes ys (with_rest (finished (listing list) c) (gateway (cell xs))) → Says nothing (call (gateway (cell xs)) (finish (listing list))) 0 xs ys
  finish_done z d = says_done xs (finish (listing list)) tt b nothing (finished (listing list) c (rest_of xs)) (plan_is (Ok tt) z) d

pub ruleset laws = (same_stop, same_leaves, other_leaves, row_once, row_differs, as_many, not_as_many, unrest_is, remade_is, cleared_is, reset_becomes, can_rest, apply_becomes, finish_refused, finish_done, arith)
