-- The restart theorem, demand 3 of document 01. In plain words:
-- Take a gateway that set-up or restore accepted, and any list of calls, refused ones too, whose numbers fit their types. Take any accepted
-- checkpoint in the list, and look at what follows it, up to any later moment. If no event of a command numbered at or before the checkpoint is
-- accepted after it, then: restoring the checkpoint's bytes with the owner limit and the accounts of that moment is accepted; replaying the record
-- since then is accepted item by item; the second gateway's ledger is the first's, where client references of orders placed since then read 0; and it
-- is what the independent ledger makes of the bytes and the record. Wallets, live orders, holds, open counts, the last number and the reference
-- price are all read from that ledger (`same_books` below says so one by one).
-- What it does not say: it does not speak of sessions, the depth, batches or what waits to be published, which a restart loses; and an event of a
-- command numbered at or before the checkpoint finds no command in the restored gateway, so nothing is claimed then. 01 also excludes checkpoints
-- followed by an accepted `finish`; here they are included, since `finish` moves nothing that the ledger holds. Assumes nothing.
use Rattle.std.specs.Prelude.{Option, Some, None, option_map, is_some}
use Prim.Native.Nat.{ℕ, zero, suc, ◌+◌, ◌<◌, ◌≤◌}
use mathlib.Core.Bool.{true, cond, and-eq-true_iff}
use mathlib.Core.Path.{◌≡◌, refl, ap, sym, ◌∙◌, subst}
use mathlib.Core.List.{List, [], ◌∷◌, ◌++◌, map, append-nil, append_assoc}
use native.Mathlib.Omega.{arith}
use borrow.Author.Tests.{ltb-true, lt-ltb, eqb-true}
use lib.IntN.{ℤ}
use lib.ListN.{length, get_or, set, replicate, length-set}
use lib.Dec.{ltb}
use Rattle.orderbook.specs.declared.Side.TheVariants.{Buy, Sell}
use Rattle.orderbook.specs.declared.Listed.{Listed}
use Rattle.accounts.specs.declared.Account.{Account}
use Rattle.accounts.specs.declared.Funds.{Funds}
use Rattle.accounts.specs.declared.Timing.{Timing}
use Rattle.gateway.specs.Basics.{option}
use Rattle.gateway.specs.Limits.{malformed, bad_fee}
use Rattle.gateway.specs.Ledger.{Order, Item, account, command, event, order_hold, open_of, changes, step, replayed}
use Rattle.gateway.specs.Saved.{contents, opening}
use Rattle.gateway.specs.Bytes.{encode, decode}
use Rattle.gateway.specs.Core.{Tests, Pass, Origin, system, Core, tests, core_step, accounts_after}
use Rattle.gateway.specs.Rest.{Rest, no_session, stamped}
use Rattle.gateway.specs.Entry.{bytes, Plan, refuse, quiet, records, unless, balance_with}
use Rattle.gateway.specs.Calls.{Gateway, Call, checkpoint, replay_tests, plan, done, carry_out, call}
use Rattle.gateway.specs.Start.{Started, not_started, started, charging, entered, all_below, set_up, restore, restore_saved}
use Rattle.gateway.specs.Fits.{Unsigned, AccountsFit, ListingFits, Bytes, CallFits, CallsFit}
use Rattle.gateway.specs.Restart.{next_of, items_of, final, record_of, added, as_call, on_done, replay, later, all_later, forget, forgetting, ledger_of, SameBooks, Restarts}
use Rattle.gateway.proofs.Base.{split}
use Rattle.gateway.proofs.Forget.{above, step_forget, open_forget, held_forget}
use Rattle.gateway.proofs.View.{view, step_view, tests_view}
use Rattle.gateway.proofs.Invariant.{core_ok, last_stays, fees_stay}
use Rattle.gateway.proofs.Calls.{Good, plan_good, unless_pass, stamped_rest}
use Rattle.gateway.proofs.Restore.{Accounts, begun_from, restores, opening_contents, view_now}
use Rattle.gateway.proofs.Bytes.{decode_encode}
use Rattle.gateway.proofs.Begin.{Begins, Given, set_up_begins, set_up_given, restore_begins, restore_given, contents_fit}
use Rattle.gateway.specs.Invariant.{at, Known, RestOk, GatewayOk, AllOk}
use Rattle.gateway.specs.Claims.{Demand3, RestartsFromAny}

-- ---- one call, and a list of calls, keep the invariant

-- the last number never falls
last_grows : (from : Origin) (i : Item) (c : Core) → Pass (tests i c) → c.ledger.last ≤ (core_step from i c).ledger.last
unfolding step tests
last_grows from (account a) c p = omega arith
last_grows from (command n k) c p = omega (arith, eqb-true n (c.ledger.last + 1) p.0)
last_grows from (event n e) c p = rw last_stays (omega arith)

rest_later : (t : List (Option Account)) (m n : ℕ) (r : Rest) → m ≤ n → RestOk t m r → RestOk t n r
rest_later t m n r h ok = record { sessions = ok.sessions; buckets = ok.buckets; batch = ok.batch; delivered = omega (arith, ok.delivered); feed = ok.feed }

-- an account that exists stays
still_known : (a : Account) (t : List (Option Account)) (o : Option ℕ) → Known t o → Known (accounts_after (account a) t) o
still_known a t None h = tt
still_known a t (Some b) h = go t a.id b h
  where
    go : (t : List (Option Account)) (i b : ℕ) → is_some (get_or t b None) ≡ true → is_some (get_or (set t i (Some a)) b None) ≡ true
    go [] i b q = q
    go (x ∷ t) zero zero q = refl
    go (x ∷ t) zero (suc b) q = q
    go (x ∷ t) (suc i) zero q = q
    go (x ∷ t) (suc i) (suc b) q = go t i b q

rest_known : (i : Item) (t : List (Option Account)) (last : ℕ) (r : Rest) → RestOk t last r → RestOk (accounts_after i t) last r
rest_known (account a) t last r ok =
    record {
      sessions = record { slots = ok.sessions.slots; known = λ i. still_known a t (at r.sessions i) (ok.sessions.known i); single = ok.sessions.single };
      buckets = ok.buckets;
      batch = ok.batch;
      delivered = ok.delivered;
      feed = ok.feed;
    }
rest_known (command n k) t last r ok = ok
rest_known (event n e) t last r ok = ok

carry_ok : (F : Type 0) (g : Gateway) (p : Plan) → F → GatewayOk g → Good F g.core p → GatewayOk (next_of g (carry_out g.core p))
carry_ok F g (refuse k) f ok h = ok
carry_ok F g (quiet a ms r) f ok h = record { core_is = ok.core_is; rest_is = stamped_rest _ _ ms r h }
carry_ok F g (records from i ms r) f ok h =
    record {
      core_is = core_ok from i g.core (h.1.0 f).0 (h.1.0 f).1 ok.core_is h.0;
      rest_is =
          rest_known i g.core.accounts _ (stamped ms r)
          (rest_later _ _ _ (stamped ms r) (last_grows from i g.core h.0) (stamped_rest _ _ ms r h.1.1));
    }

pub call_ok : (g : Gateway) (x : Call) → CallFits x → GatewayOk g → GatewayOk (next_of g (call g x))
call_ok g x f ok = carry_ok (CallFits x) g (plan g.core g.rest x) f ok (plan_good (CallFits x) g.core g.rest x (λ u. u) ok.core_is ok.rest_is)

-- what is recorded was tested, whatever the call's numbers
pub good : (g : Gateway) (x : Call) → GatewayOk g → Good ⊥ g.core (plan g.core g.rest x)
good g x ok = plan_good ⊥ g.core g.rest x (λ u. absurd u) ok.core_is ok.rest_is

pub calls_ok : (g : Gateway) (xs : List Call) → CallsFit xs → GatewayOk g → AllOk g xs
calls_ok g [] f ok = ok
calls_ok g (x ∷ xs) f ok = (ok, calls_ok (next_of g (call g x)) xs f.1 (call_ok g x f.0 ok))

pub final_ok : (g : Gateway) (xs : List Call) → AllOk g xs → GatewayOk (final g xs)
final_ok g [] ok = ok
final_ok g (x ∷ xs) ok = final_ok (next_of g (call g x)) xs ok.1

-- ---- the accounts of the moment

entered_more : (t : List (Option Account)) (l : List Account) (a : Account) → entered t (l ++ (a ∷ [])) ≡ set (entered t l) a.id (Some a)
entered_more t [] a = refl
entered_more t (b ∷ l) a = entered_more (set t b.id (Some b)) l a

below_more : (n : ℕ) (l : List Account) (a : Account) → all_below n l ≡ true → a.id < n → all_below n (l ++ (a ∷ [])) ≡ true
below_more n [] a h g = rw (lt-ltb a.id n g) refl
below_more n (b ∷ l) a h g =
    let u = (and-eq-true_iff (ltb b.id n) (all_below n l)).0 h in
    rw u.0 (below_more n l a u.1 g)

item_accounts : (fee : ℤ) (limit : ℕ) (l : List Account) (from : Origin) (i : Item) (c : Core) → Pass (tests i c) → Accounts fee limit l c → Accounts fee limit (l ++ added (i ∷ [])) (core_step from i c)
unfolding step tests
item_accounts fee limit l from (account a) c p t =
    record {
      table = rw t.table (sym (entered_more (replicate limit None) l a));
      below = below_more limit l a t.below (rw t.size at (ltb-true a.id (length c.accounts) p.0));
      size = rw length-set t.size;
      fee_is = t.fee_is;
      fee_good = t.fee_good;
    }
item_accounts fee limit l from (command n k) c p t = rw append-nil (record { table = t.table; below = t.below; size = t.size; fee_is = t.fee_is; fee_good = t.fee_good })
item_accounts fee limit l from (event n e) c p t =
    rw append-nil (record { table = t.table; below = t.below; size = t.size; fee_is = fees_stay (changes n e) c.ledger ∙ t.fee_is; fee_good = t.fee_good })

added_append : (is js : List Item) → added (is ++ js) ≡ added is ++ added js
added_append [] js = refl
added_append (account a ∷ is) js = ap (λ l. a ∷ l) (added_append is js)
added_append (command n k ∷ is) js = added_append is js
added_append (event n e ∷ is) js = added_append is js

carry_accounts : (fee : ℤ) (limit : ℕ) (l : List Account) (g : Gateway) (p : Plan) → Good ⊥ g.core p → Accounts fee limit l g.core →
    Accounts fee limit (l ++ added (items_of (carry_out g.core p))) (next_of g (carry_out g.core p)).core
carry_accounts fee limit l g (refuse k) h t = rw append-nil t
carry_accounts fee limit l g (quiet a ms r) h t = rw append-nil t
carry_accounts fee limit l g (records from i ms r) h t = item_accounts fee limit l from i g.core h.0 t

final_accounts : (fee : ℤ) (limit : ℕ) (l : List Account) (g : Gateway) (xs : List Call) → AllOk g xs → Accounts fee limit l g.core →
    Accounts fee limit (l ++ added (record_of g xs)) (final g xs).core
final_accounts fee limit l g [] ok t = rw append-nil t
final_accounts fee limit l g (x ∷ xs) ok t =
    let u = final_accounts fee limit (l ++ added (items_of (call g x))) (next_of g (call g x)) xs ok.1
    (carry_accounts fee limit l g (plan g.core g.rest x) (good g x ok.0) t) in
    rw (added_append (items_of (call g x)) (record_of (next_of g (call g x)) xs), ← append_assoc) u

-- ---- replay

-- an item is replayed where its checks pass and no session is connected
replay_one : (c : Core) (r : Rest) (i : Item) → Pass (tests i c) → no_session r.sessions ≡ true →
    (q : Rest) × (plan c r (as_call i) ≡ records system i [] q) × (no_session q.sessions ≡ true)
unfolding plan
replay_one c r (account a) p e = (_, unless_pass refuse _ (tests (account a) c) p, e)
replay_one c r (command n k) p e = (_, unless_pass refuse _ (replay_tests (command n k) c r) (e, p), e)
replay_one c r (event n v) p e = (_, unless_pass refuse _ (replay_tests (event n v) c r) (e, p), e)

module _ (N : ℕ) where
  at_view : Core → Rest → Gateway
  at_view c r = record { core = view N c; rest = r }

  -- from what is seen of c, the items lead by replay, and the ledger with them, to what is seen of d
  abbrev Leads : Core → List Item → Core → Type 0
  Leads c is d = (r : Rest) → no_session r.sessions ≡ true →
      (q : Rest) × (replay is (at_view c r) ≡ Some (at_view d q)) × (replayed is (forgetting N c.ledger) ≡ forgetting N d.ledger)

  above_of : (i : Item) (c : Core) → N ≤ c.ledger.last → Pass (tests i c) → later N i → above N i
  unfolding tests
  above_of (account a) c h p l = tt
  above_of (command n k) c h p l = omega (arith, eqb-true n (c.ledger.last + 1) p.0)
  above_of (event n e) c h p l = l

  item_leads : (from : Origin) (i : Item) (is : List Item) (c d : Core) → Pass (tests i c) → above N i → Leads (core_step from i c) is d → Leads c (i ∷ is) d
  unfolding at_view
  item_leads from i is c d p u f r e =
      let o = replay_one (view N c) r i (tests_view N i c u p) e in
      let t = f o.0 o.2 in (
        t.0,
        ap (λ x. on_done (carry_out (view N c) x) (replay is)) o.1 ∙ ap (λ k. replay is (record { core = k; rest = o.0 })) (sym (step_view N from i c u)) ∙ t.1,
        ap (replayed is) (sym (step_forget N from.client_ref i c.ledger u)) ∙ t.2,
      )

  carry_leads : (g : Gateway) (p : Plan) (is : List Item) (d : Core) → Good ⊥ g.core p → N ≤ g.core.ledger.last →
      all_later N (items_of (carry_out g.core p) ++ is) →
      (N ≤ (next_of g (carry_out g.core p)).core.ledger.last → all_later N is → Leads (next_of g (carry_out g.core p)).core is d) →
      Leads g.core (items_of (carry_out g.core p) ++ is) d
  carry_leads g (refuse k) is d h b l f = f b l
  carry_leads g (quiet a ms r) is d h b l f = f b l
  carry_leads g (records from i ms r) is d h b l f =
      item_leads from i is g.core d h.0 (above_of i g.core b h.0 l.0) (f (omega (arith, last_grows from i g.core h.0)) l.1)

  leads : (g : Gateway) (xs : List Call) → AllOk g xs → N ≤ g.core.ledger.last → all_later N (record_of g xs) → Leads g.core (record_of g xs) (final g xs).core
  leads g [] ok b l = λ r e. (r, refl, refl)
  leads g (x ∷ xs) ok b l =
      carry_leads g (plan g.core g.rest x) (record_of (next_of g (call g x)) xs) (final (next_of g (call g x)) xs).core (good g x ok.0) b l
      (λ b' l'. leads (next_of g (call g x)) xs ok.1 b' l')

-- ---- the checkpoint

-- an accepted checkpoint gives the bytes of the ledger, and changes nothing
checkpointed : (g : Gateway) (ts : Tests ℕ) (bs cs : List ℕ) (h : Gateway) → carry_out g.core (unless ts refuse (quiet (bytes bs) [] g.rest)) ≡ done (bytes cs) [] [] h →
    (cs ≡ bs) × (h ≡ g)
unfolding unless
checkpointed g [] bs cs h e = (cc, cc)
checkpointed g (t ∷ ts) bs cs h e =
    split (λ b. carry_out g.core (cond b (unless ts refuse (quiet (bytes bs) [] g.rest)) (refuse t.0)) ≡ done (bytes cs) [] [] h → (cs ≡ bs) × (h ≡ g)) t.1
    (λ _ f. checkpointed g ts bs cs h f) (λ _ f. absurd (let z : ◌≡◌ {A = ℕ} 0 1 = cc in omega (arith, z))) e

pub final_append : (g : Gateway) (xs ys : List Call) → final g (xs ++ ys) ≡ final (final g xs) ys
final_append g [] ys = refl
final_append g (x ∷ xs) ys = final_append (next_of g (call g x)) xs ys

-- ---- what is read from a ledger

held_same : (fee : ℤ) (n : ℕ) (os : List Order) → map (order_hold fee) (map (forget n) os) ≡ map (order_hold fee) os
held_same fee n [] = refl
held_same fee n (o ∷ os) = ap (λ t. order_hold fee o ∷ t) (held_same fee n os)

balance_same : (fee : ℤ) (n a : ℕ) (w : Option Funds) (os : List Order) → option_map (balance_with fee a (map (forget n) os)) w ≡ option_map (balance_with fee a os) w
balance_same fee n a None os = refl
balance_same fee n a (Some w) os = simp (held_forget n fee a Buy os, held_forget n fee a Sell os)

same_books : (n : ℕ) (c d : Core) → d.ledger ≡ forgetting n c.ledger → SameBooks n c d
same_books n c d e =
    record {
      last = ap (λ l. l.last) e;
      mark = ap (λ l. l.mark) e;
      fee = ap (λ l. l.fee) e;
      orders = ap (λ l. l.orders) e;
      holds = ap (λ l. map (order_hold l.fee) l.orders) e ∙ held_same c.ledger.fee n c.ledger.orders;
      wallet = λ a. ap (λ l. option_map (balance_with l.fee a l.orders) (get_or l.wallets a None)) e ∙ balance_same c.ledger.fee n a (get_or c.ledger.wallets a None) c.ledger.orders;
      open_count = λ a. ap (λ l. open_of a l.orders) e ∙ open_forget n a c.ledger.orders;
    }

-- ---- demand 3

-- from a start g with the accounts l, any calls xs, an accepted checkpoint of the bytes bs there, and any calls ys after it
pub restart : (fee : ℤ) (limit : ℕ) (l : List Account) (timing : Timing) (g : Gateway) → Accounts fee limit l g.core →
    (xs ys : List Call) (room : ℕ) (bs : List ℕ) (h : Gateway) → AllOk g xs → AllOk (final g xs) ys →
    call (final g xs) (checkpoint room) ≡ done (bytes bs) [] [] h →
    all_later (final g xs).core.ledger.last (record_of (final g xs) ys) →
    Restarts fee limit (l ++ added (record_of g xs)) timing (final g xs).core.ledger.last bs (record_of (final g xs) ys) (final g (xs ++ (checkpoint room ∷ ys)))
unfolding plan at_view charging restore ledger_of
restart fee limit l timing g t xs ys room bs h ok ok' e late =
    let m = final g xs in
    let N = m.core.ledger.last in
    let mok = final_ok g xs ok in
    let mat = final_accounts fee limit l g xs ok t in
    let k = checkpointed m _ (encode (contents m.core.ledger)) bs h e in
    let d : decode bs ≡ Some (contents m.core.ledger) = ap decode k.0 ∙ decode_encode (contents m.core.ledger) (contents_fit m.core mok.core_is) in
    let u = leads N m ys ok' (omega arith) late (begun_from timing m.core).rest refl in
    let same : final g (xs ++ (checkpoint room ∷ ys)) ≡ final m ys =
    final_append g xs (checkpoint room ∷ ys) ∙ ap (λ o. final (next_of m o) ys) e ∙ ap (λ n. final n ys) k.1 in
    record {
      begun = at_view N m.core (begun_from timing m.core).rest;
      accepts =
          ap (λ b. cond b (option (not_started malformed) (restore_saved fee limit (l ++ added (record_of g xs)) timing) (decode bs)) (not_started bad_fee)) mat.fee_good
          ∙ ap (option (not_started malformed) (restore_saved fee limit (l ++ added (record_of g xs)) timing)) d
          ∙ ap (λ y. restore_saved y limit (l ++ added (record_of g xs)) timing (contents m.core.ledger)) (sym mat.fee_is)
          ∙ restores fee limit (l ++ added (record_of g xs)) timing m.core mok.core_is mat
          ∙ ap (λ c. started (record { core = c; rest = (begun_from timing m.core).rest })) (sym (view_now m.core mok.core_is));
      ended = at_view N (final m ys).core u.0;
      replays = u.1;
      agrees =
          same_books N (final g (xs ++ (checkpoint room ∷ ys))).core (view N (final m ys).core) (ap (λ n. forgetting N n.core.ledger) (sym same));
      counted =
          ap (option_map (λ s. replayed (record_of m ys) (opening fee s))) d
          ∙ ap (λ y. Some (replayed (record_of m ys) (opening y (contents m.core.ledger)))) (sym mat.fee_is)
          ∙ ap (λ c. Some (replayed (record_of m ys) c)) (opening_contents m.core mok.core_is ∙ sym (ap (λ c. c.ledger) (view_now m.core mok.core_is)))
          ∙ ap Some u.2;
    }

demand_3 : (fee : ℤ) (limit : ℕ) (l : List Account) (s : Started) (g : Gateway) → Begins GatewayOk s → Begins (Given fee limit l) s → s ≡ started g → Demand3 fee limit l g
demand_3 fee limit l s g b a e =
    let ok : GatewayOk g = subst (Begins GatewayOk) e b in
    record {
      restarts = λ timing xs ys room bs h f f'.
          let m = calls_ok g xs f ok in
          restart fee limit l timing g (subst (Begins (Given fee limit l)) e a) xs ys room bs h m (calls_ok (final g xs) ys f' (final_ok g xs m));
    }

-- a list may start with set-up, and with restore
after_set_up : (fee : ℤ) (limit last : ℕ) (l : List Account) (listing : List Listed) (timing : Timing) (g : Gateway) → Unsigned last → AccountsFit l → ListingFits listing →
    set_up fee limit last l listing timing ≡ started g → Demand3 fee limit l g
after_set_up fee limit last l listing timing g f a x e =
    demand_3 fee limit l _ g (set_up_begins fee limit last l listing timing f a x) (set_up_given fee limit last l listing timing) e

after_restore : (fee : ℤ) (limit : ℕ) (l : List Account) (timing : Timing) (bs : List ℕ) (g : Gateway) → AccountsFit l → Bytes bs →
    restore fee limit l timing bs ≡ started g → Demand3 fee limit l g
after_restore fee limit l timing bs g a b e = demand_3 fee limit l _ g (restore_begins fee limit l timing bs a b) (restore_given fee limit l timing bs) e

pub restarts : RestartsFromAny
restarts = record { after_set_up = after_set_up; after_restore = after_restore }
