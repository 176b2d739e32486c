-- A chain of byte states follows the definitions' list of calls. Assumes nothing.
use Rattle.std.specs.Prelude.{Option, Some, None}
use mathlib.Core.Path.{◌≡◌, refl, sym, ap, subst, ◌∙◌}
use mathlib.Core.Bool.{Bool, true, false, cond, and-false}
use mathlib.Core.List.{List, [], ◌∷◌, map}
use Prim.Native.Nat.{ℕ, ◌*◌}
use native.Mathlib.Omega.{arith}
use lib.Dec.{eqb}
use lib.ListN.{length}
use Rattle.gateway.specs.Limits.{malformed}
use Rattle.gateway.specs.Ledger.{Item}
use Rattle.gateway.specs.Calls.{Gateway, Call, Outcome, refused, done, call}
use Rattle.gateway.specs.Invariant.{AllOk}
use Rattle.gateway.specs.Restart.{next_of, final, as_call, on_done, replay}
use Rattle.store.specs.Layout.{cell, cells, Holds}
use Rattle.store.specs.View.{gateway}
use Rattle.outcome.specs.Between.{Between}
use Rattle.outcome.specs.Answers.{Ends}
use Rattle.edge.specs.Entering.{whole, asked}
use Rattle.edge.proofs.Laws.{asked_yes}
use Rattle.playing.specs.Steps.{code_of, Step}
use Rattle.restart.specs.Chain.{Asking, Made, Makes, Chain, ends_at, Accepted, heard, replays}

-- ---- one call

-- what a step says of the bytes: how it ended
abbrev pub Ended : Outcome → (k : ℕ) → (xs ys : List ℕ) → Type 0
Ended o k xs ys = Ends o (Unit {0}) (λ a ms. Unit {0}) k xs ys

-- a malformed call gets 11
asked_not : (xs : List ℕ) (x : Call) → asked false xs x ≡ refused malformed
unfolding asked whole
asked_not xs x = ap (λ b. cond b (call (gateway (cell xs)) x) (refused malformed)) (and-false (eqb (length xs) (8 * cells)))

pub next_bytes : (k : ℕ) (xs ys : List ℕ) (o : Outcome) → Ended o k xs ys → gateway (cell ys) ≡ next_of (gateway (cell xs)) o
unfolding Ends
next_bytes k xs ys (refused j) e = ap (λ l. gateway (cell l)) e.state_kept
next_bytes k xs ys (done a is ms h) e = e.becomes.gateway_is

holds_after : (k : ℕ) (xs ys : List ℕ) (o : Outcome) → Holds xs → Ended o k xs ys → Holds ys
unfolding Ends
holds_after k xs ys (refused j) h e = subst Holds (sym e.state_kept) h
holds_after k xs ys (done a is ms g) h e = e.becomes.state.holds

module _ (xs : List ℕ) (x : Asking) (m : Made x xs) where
  left_holds : Holds xs → Holds m.left
  left_holds h = holds_after m.code xs m.left (asked x.formed xs x.for) h m.enters.ends

  left_between : Between xs → Between m.left
  left_between b = m.enters.lent.between (left_holds b.state.holds)

-- what is promised of all calls is a step
pub makes : (ok : Bool) (x : Call) (xs ys got end out out' : List ℕ) → Step ok x xs ys got end out out' → Makes (record { formed = ok; for = x }) xs ys
makes ok x xs ys got end out out' s = (record { code = code_of (asked ok xs x); left = ys; enters = s.lands }, refl)

-- a step of a state, by whether it is heard
module _ (xs : List ℕ) (h : Holds xs) (x : Call) (k : ℕ) (ys : List ℕ) where
  pub heard_step : Ended (asked true xs x) k xs ys → Ended (call (gateway (cell xs)) x) k xs ys
  heard_step e = subst (λ o. Ended o k xs ys) (asked_yes xs x h) e

  unheard_step : Ended (asked false xs x) k xs ys → gateway (cell ys) ≡ gateway (cell xs)
  unheard_step e = next_bytes k xs ys (refused malformed) (subst (λ o. Ended o k xs ys) (asked_not xs x) e)

-- ---- a chain

pub chain_between : (xs : List ℕ) (cs : List Asking) (h : Chain xs cs) → Between xs → Between (ends_at xs cs h)
chain_between xs [] h b = b
chain_between xs (x ∷ cs) (m, h) b = chain_between m.left cs h (left_between xs x m b)

pub chain_final : (xs : List ℕ) (cs : List Asking) (h : Chain xs cs) → Between xs → gateway (cell (ends_at xs cs h)) ≡ final (gateway (cell xs)) (heard cs)
chain_final xs [] h b = refl
chain_final xs (x ∷ cs) (m, h) b = chain_final m.left cs h (left_between xs x m b) ∙ go x.formed m.enters.ends
  where
    go : (f : Bool) → Ended (asked f xs x.for) m.code xs m.left → final (gateway (cell m.left)) (heard cs) ≡ final (gateway (cell xs)) (cond f (x.for ∷ heard cs) (heard cs))
    go true e = ap (λ g. final g (heard cs)) (next_bytes m.code xs m.left (call (gateway (cell xs)) x.for) (heard_step xs b.state.holds x.for m.code m.left e))
    go false e = ap (λ g. final g (heard cs)) (unheard_step xs b.state.holds x.for m.code m.left e)

-- the invariant holds at every moment
pub chain_ok : (xs : List ℕ) (cs : List Asking) (h : Chain xs cs) → Between xs → AllOk (gateway (cell xs)) (heard cs)
chain_ok xs [] h b = b.ok
chain_ok xs (x ∷ cs) (m, h) b = go x.formed m.enters.ends (chain_ok m.left cs h (left_between xs x m b))
  where
    go : (f : Bool) → Ended (asked f xs x.for) m.code xs m.left → AllOk (gateway (cell m.left)) (heard cs) → AllOk (gateway (cell xs)) (cond f (x.for ∷ heard cs) (heard cs))
    go true e a =
        (b.ok, subst (λ g. AllOk g (heard cs)) (next_bytes m.code xs m.left (call (gateway (cell xs)) x.for) (heard_step xs b.state.holds x.for m.code m.left e)) a)
    go false e a = subst (λ g. AllOk g (heard cs)) (unheard_step xs b.state.holds x.for m.code m.left e) a

-- ---- a replay that the definitions accept

-- where it ends, and that every call is accepted
pub record Follows (is : List Item) (zs : List ℕ) (h : Chain zs (map replays is)) (end : Gateway) : Type 0 where
  pub accepted : Accepted zs (map replays is) h
  pub ends : gateway (cell (ends_at zs (map replays is) h)) ≡ end

none_some : {A B : Type 0} {x : A} → ◌≡◌ {A = Option A} None (Some x) → B
none_some e = absurd (let z : ◌≡◌ {A = ℕ} 0 1 = cc in omega (arith, z))

pub replay_follows : (is : List Item) (zs : List ℕ) (h : Chain zs (map replays is)) (g end : Gateway) → Between zs → gateway (cell zs) ≡ g → replay is g ≡ Some end → Follows is zs h end
unfolding Ends
replay_follows [] zs h g end b e r = record { accepted = tt; ends = e ∙ (let z : g ≡ end = cc in z) }
replay_follows (i ∷ is) zs (m, h) g end b e r =
    go (λ n. replay_follows is m.left h n end (left_between zs (replays i) m b)) (call (gateway (cell zs)) (as_call i)) (heard_step zs b.state.holds (as_call i) m.code m.left m.enters.ends)
    (ap (λ x. on_done (call x (as_call i)) (replay is)) e ∙ r)
  where
    go : ((n : Gateway) → gateway (cell m.left) ≡ n → replay is n ≡ Some end → Follows is m.left h end) → (o : Outcome) → Ended o m.code zs m.left →
        on_done o (replay is) ≡ Some end → Follows (i ∷ is) zs (m, h) end
    go f (refused k) t q = none_some q
    go f (done a js ms n) t q =
        let u = f n t.becomes.gateway_is q in
        record { accepted = (t.code_is, u.accepted); ends = u.ends }
