-- A refusal means one thing to the gateway and to the ledger: what `Refuses` of specs/Claims.antt claims. No live order bears the number of a command in flight
-- that places nothing (`Fresh`). Assumes nothing.
use Rattle.std.specs.Prelude.{Option, Some, None, is_some}
use Prim.Native.Nat.{ℕ, ◌+◌, ◌<◌}
use mathlib.Core.Bool.{Bool, true, false, cond, not, ◌||◌, and-eq-true_iff, true≢false}
use mathlib.Core.Path.{◌≡◌, refl, ap, sym, ◌∙◌, subst}
use mathlib.Core.List.{List, [], ◌∷◌, ◌++◌}
use native.Mathlib.Omega.{arith}
use borrow.Author.Tests.{eqb-true, ne_eqb}
use lib.IntN.{ℤ, pos}
use lib.Signed.{le_z}
use lib.ListN.{length}
use lib.Dec.{eqb, ltb, leb}
use Rattle.orderbook.specs.declared.Event.TheVariants.{Rejected}
use Rattle.orderbook.specs.declared.RejectReason.{RejectReason}
use Rattle.orderbook.specs.declared.Listed.{Listed}
use Rattle.accounts.specs.declared.Account.{Account}
use Rattle.accounts.specs.declared.Timing.{Timing}
use Rattle.gateway.specs.Basics.{option}
use Rattle.gateway.specs.Limits.{malformed, bad_fee}
use Rattle.table.specs.Live.{look, without}
use Rattle.gateway.specs.Ledger.{Order, New, Item, account, command, event, order_of, owner_of, placed, find, remove, with_orders, Change, retire, changes, change, changed, step}
use Rattle.gateway.specs.Saved.{Saved}
use Rattle.gateway.specs.Bytes.{decode}
use Rattle.gateway.specs.Core.{Tests, Pass, Origin, Flight, Core, drop_below, is_first, first_places, numbers_agree, tests, core_step}
use Rattle.gateway.specs.Rest.{Mail, stamped}
use Rattle.gateway.specs.Entry.{Answer, Plan, refuse, quiet, records}
use Rattle.gateway.specs.Deliver.{notices_of}
use Rattle.gateway.specs.Calls.{Gateway, plan, done, carry_out, call}
use Rattle.gateway.specs.Start.{Started, not_started, started, start_unless, charging, set_up, restore, restore_saved}
use Rattle.gateway.specs.Fits.{Unsigned, AccountsFit, ListingFits, Bytes}
use Rattle.gateway.specs.Restart.{next_of}
use Rattle.gateway.proofs.Base.{split}
use Rattle.gateway.proofs.Invariant.{All, Keyed, In, Shrinks, shrunk, all_shrinks, all_more}
use Rattle.gateway.proofs.Calls.{Good}
use Rattle.gateway.proofs.Begin.{Begins, set_up_begins, restore_begins}
use Rattle.gateway.proofs.Restart.{call_ok, good}
use Rattle.gateway.specs.Invariant.{CoreOk, GatewayOk, Runs}
use Rattle.gateway.specs.Claims.{rust_changes, RefusesAsRust, Refuses}

abbrev No : ℕ → List Order → Type 0
No n os = All (Keyed (λ m a. m ≡ n → ⊥)) os

-- no live order bears the number of a command in flight that places nothing
abbrev Fresh : List Order → List Flight → Type 0
Fresh os [] = Unit {0}
Fresh os (f ∷ fs) = (f.places ≡ false → No f.number os) × Fresh os fs

abbrev FreshCore : Core → Type 0
FreshCore c = Fresh c.ledger.orders c.flights

-- ---- the invariant is kept

fresh_shrinks : {os ps : List Order} → Shrinks os ps → (fs : List Flight) → Fresh os fs → Fresh ps fs
fresh_shrinks s [] h = tt
fresh_shrinks s (f ∷ fs) h = (λ e. all_shrinks _ s (h.0 e), fresh_shrinks s fs h.1)

fresh_below : (n : ℕ) (os : List Order) (fs : List Flight) → Fresh os fs → Fresh os (drop_below n fs)
fresh_below n os [] h = tt
fresh_below n os (f ∷ fs) h =
    let t = fresh_below n os fs h.1 in
    split (λ b. Fresh os (cond b (drop_below n fs) (f ∷ fs))) (ltb f.number n) (λ e. t) (λ e. h)

no_placed : (ref n m a : ℕ) (x : Option New) → (n ≡ m → ⊥) → No m (placed ref n a x)
no_placed ref n m a None h = tt
no_placed ref n m a (Some x) h = (h, tt)

-- earlier commands stay fresh where a later number is placed
fresh_more : (ref n a last : ℕ) (x : Option New) (os : List Order) (fs gs : List Flight) → last < n → Runs last fs → Fresh os fs →
    Fresh (os ++ placed ref n a x) gs → Fresh (os ++ placed ref n a x) (fs ++ gs)
fresh_more ref n a last x os [] gs h u t s = s
fresh_more ref n a last x os (f ∷ fs) gs h u t s = (
  λ e. all_more _ (Keyed (λ m b. m ≡ f.number → ⊥)) (λ o v. v) os _ (t.0 e) (no_placed ref n f.number a x (λ q. omega (arith, u.0, q))),
  fresh_more ref n a last x os fs gs h u.1 t.1 s,
)

no_new : (ref n a last limit : ℕ) (x : Option New) (os : List Order) → last < n → All (Keyed (In last limit)) os → is_some x ≡ false → No n (os ++ placed ref n a x)
no_new ref n a last limit None os h t e = all_more (Keyed (In last limit)) _ (λ o v q. omega (arith, v.0, q)) os [] t tt
no_new ref n a last limit (Some x) os h t e = absurd (true≢false e)

fresh_step : (from : Origin) (i : Item) (c : Core) → CoreOk c → Pass (tests i c) → FreshCore c → FreshCore (core_step from i c)
unfolding step tests
fresh_step from (account a) c ok p h = h
fresh_step from (command n k) c ok p h =
    let e = eqb-true n (c.ledger.last + 1) p.0 in
    fresh_more from.client_ref n (owner_of k) c.ledger.last (order_of k) c.ledger.orders c.flights _ (omega arith) ok.runs h
    (λ q. no_new from.client_ref n (owner_of k) c.ledger.last (length c.accounts) (order_of k) c.ledger.orders (omega arith) ok.inside q, tt)
fresh_step from (event n e) c ok p h = fresh_below n _ c.flights (fresh_shrinks (shrunk (changes n e) c.ledger) c.flights h)

-- ---- the two rules agree

remove_no : (n : ℕ) (os : List Order) → No n os → remove n os ≡ os
unfolding without
remove_no n [] h = refl
remove_no n (o ∷ os) h = rw (ne_eqb o.number n h.0) (ap (λ t. o ∷ t) (remove_no n os h.1))

first_no : (n : ℕ) (os : List Order) (fs : List Flight) → is_first n fs ≡ true → first_places fs ≡ false → Fresh os fs → No n os
first_no n os [] a b h = absurd (true≢false (sym a))
first_no n os (f ∷ fs) a b h = subst (λ m. No m os) (eqb-true f.number n a) (h.0 b)

find_no : (n : ℕ) (os : List Order) → No n os → find n os ≡ None
unfolding look
find_no n [] h = refl
find_no n (o ∷ os) h = rw (ne_eqb o.number n h.0) (find_no n os h.1)

-- what does not see the end of an order that is not live does not tell the two rules apart
agrees : {X : Type 0} (F : List Change → X) (c : Core) (n i : ℕ) (why : RejectReason) → (No i c.ledger.orders → F (retire i ∷ []) ≡ F []) →
    Pass (tests (event n (Rejected i why)) c) → FreshCore c → F (changes n (Rejected i why)) ≡ F (rust_changes c n i)
unfolding tests numbers_agree changes
agrees F c n i why f p h = go (first_places (drop_below n c.flights)) refl (eqb i n) refl
  where
    go : (b : Bool) → first_places (drop_below n c.flights) ≡ b → (d : Bool) → eqb i n ≡ d → F (cond d (retire i ∷ []) []) ≡ F (cond b (retire i ∷ []) [])
    go true e true q = refl
    go true e false q =
        absurd (true≢false (sym (rw (e, q) at ((and-eq-true_iff (leb i n) (not (first_places (drop_below n c.flights)) || eqb i n)).0 p.1.1.0).1)))
    go false e false q = refl
    go false e true q =
        f (subst (λ m. No m c.ledger.orders) (sym (eqb-true i n q)) (first_no n c.ledger.orders (drop_below n c.flights) p.0 e (fresh_below n _ c.flights h)))

rejected_agrees : (c : Core) (n i : ℕ) (why : RejectReason) → Pass (tests (event n (Rejected i why)) c) → FreshCore c →
    changed (changes n (Rejected i why)) c.ledger ≡ changed (rust_changes c n i) c.ledger
unfolding change
rejected_agrees c n i why = agrees (λ xs. changed xs c.ledger) c n i why (λ t. ap (λ os. with_orders os c.ledger) (remove_no i c.ledger.orders t))

-- and the wallet notices are the same
notices_agree : (c : Core) (n i : ℕ) (why : RejectReason) → Pass (tests (event n (Rejected i why)) c) → FreshCore c →
    notices_of (changes n (Rejected i why)) c.ledger ≡ notices_of (rust_changes c n i) c.ledger
notices_agree c n i why = agrees (λ xs. notices_of xs c.ledger) c n i why (λ t. rw (find_no i c.ledger.orders t) refl)

-- ---- for every list of calls

module _ (g : Gateway) (ok : GatewayOk g) (t : FreshCore g.core) where
  carry_fresh : (p : Plan) → Good ⊥ g.core p → FreshCore (next_of g (carry_out g.core p)).core
  carry_fresh (refuse k) h = t
  carry_fresh (quiet a ms r) h = t
  carry_fresh (records from i ms r) h = fresh_step from i g.core ok.core_is h.0 t

  carry_rejected : (p : Plan) → Good ⊥ g.core p → (a : Answer) (n i : ℕ) (why : RejectReason) (ms : List Mail) (h : Gateway) →
      carry_out g.core p ≡ done a (event n (Rejected i why) ∷ []) ms h →
      (h.core.ledger ≡ changed (rust_changes g.core n i) g.core.ledger)
      × (notices_of (changes n (Rejected i why)) g.core.ledger ≡ notices_of (rust_changes g.core n i) g.core.ledger)
  unfolding step
  carry_rejected (refuse k) q a n i why ms h e = absurd (let z : ◌≡◌ {A = ℕ} 0 1 = cc in omega (arith, z))
  carry_rejected (quiet b ns r) q a n i why ms h e = absurd (let z : ◌≡◌ {A = ℕ} 0 1 = cc in omega (arith, z))
  carry_rejected (records from j ns r) q a n i why ms h e =
      let j_is : j ≡ event n (Rejected i why) = cc in
      let h_is : h ≡ record { core = core_step from j g.core; rest = stamped ns r } = cc in
      let pass : Pass (tests (event n (Rejected i why)) g.core) = subst (λ x. Pass (tests x g.core)) j_is q.0 in (
        ap (λ k. k.core.ledger) h_is ∙ ap (λ x. step from.client_ref x g.core.ledger) j_is ∙ rejected_agrees g.core n i why pass t,
        notices_agree g.core n i why pass t,
      )

refuses : (g : Gateway) → GatewayOk g → FreshCore g.core → RefusesAsRust g
refuses g ok t [] x a n i why ms h f e =
    carry_rejected g ok t (plan g.core g.rest x) (good g x ok) a n i why ms h e
refuses g ok t (y ∷ xs) x a n i why ms h f e =
    refuses (next_of g (call g y)) (call_ok g y f.0 ok)
    (carry_fresh g ok t (plan g.core g.rest y) (good g y ok)) xs x a n i why ms h f.1 e

-- ---- from set-up, and from restore: nothing is in flight

starts : (s : Started) (g : Gateway) → Begins GatewayOk s → (s ≡ started g → g.core.flights ≡ []) → s ≡ started g → RefusesAsRust g
starts s g b f e = refuses g (subst (Begins GatewayOk) e b) (rw (f e) tt)

none_flying : (ts : Tests ℕ) (k g : Gateway) → k.core.flights ≡ [] → start_unless ts k ≡ started g → g.core.flights ≡ []
unfolding start_unless
none_flying [] k g h e = let q : g ≡ k = cc in rw q h
none_flying (t ∷ ts) k g h e =
    split (λ b. cond b (start_unless ts k) (not_started t.0) ≡ started g → g.core.flights ≡ []) t.1 (λ _ q. none_flying ts k g h q)
    (λ _ q. absurd (let z : ◌≡◌ {A = ℕ} 0 1 = cc in omega (arith, z))) e

-- whatever the fee
judged : (fee : ℤ) (s : Started) (g : Gateway) → (s ≡ started g → g.core.flights ≡ []) → charging fee s ≡ started g → g.core.flights ≡ []
unfolding charging
judged fee s g h e =
    split (λ b. cond b s (not_started bad_fee) ≡ started g → g.core.flights ≡ []) (le_z (pos 0) fee) (λ _ q. h q)
    (λ _ q. absurd (let z : ◌≡◌ {A = ℕ} 0 1 = cc in omega (arith, z))) e

from_set_up : (fee : ℤ) (limit last : ℕ) (l : List Account) (listing : List Listed) (timing : Timing) (g : Gateway) → Unsigned last → AccountsFit l →
    ListingFits listing → set_up fee limit last l listing timing ≡ started g → RefusesAsRust g
unfolding set_up
from_set_up fee limit last l listing timing g f a x e =
    starts _ g (set_up_begins fee limit last l listing timing f a x) (judged fee _ g (none_flying _ _ g refl)) e

from_restore : (fee : ℤ) (limit : ℕ) (l : List Account) (timing : Timing) (bs : List ℕ) (g : Gateway) → AccountsFit l → Bytes bs →
    restore fee limit l timing bs ≡ started g → RefusesAsRust g
unfolding restore restore_saved
from_restore fee limit l timing bs g a b e = starts _ g (restore_begins fee limit l timing bs a b) (judged fee _ g (go (decode bs))) e
  where
    go : (s : Option Saved) → option (not_started malformed) (restore_saved fee limit l timing) s ≡ started g → g.core.flights ≡ []
    go None q = absurd (let z : ◌≡◌ {A = ℕ} 0 1 = cc in omega (arith, z))
    go (Some s) q = none_flying _ _ g refl q

pub refusing : Refuses
refusing = record { from_set_up = from_set_up; from_restore = from_restore }
