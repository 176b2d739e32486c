-- What set-up and restore accept keeps the invariant, so that a list of calls may start with either. Assumes nothing.
use Rattle.std.specs.Prelude.{Option, Some, None, is_some}
use Prim.Native.Nat.{ℕ, zero, suc, ◌+◌, ◌<◌, ◌≤◌}
use mathlib.Core.Bool.{true, cond, not, ◌&&◌, and-eq-true_iff}
use mathlib.Core.Path.{◌≡◌, refl, ap, sym, ◌∙◌, subst}
use mathlib.Core.List.{List, [], ◌∷◌}
use native.Mathlib.Omega.{arith}
use borrow.Author.Tests.{ltb-true, leb-true, eqb-true, eq-eqb}
use lib.IntN.{ℤ, pos}
use lib.Signed.{le_z}
use lib.ListN.{length, get_or, set, replicate, length-set, length-append, length-replicate}
use lib.Dec.{eqb, ltb}
use Rattle.orderbook.specs.declared.Listed.{Listed}
use Rattle.orderbook.specs.declared.Listed.TheVariants as L
use Rattle.accounts.specs.declared.Account.{Account}
use Rattle.accounts.specs.declared.Funds.{Funds}
use Rattle.accounts.specs.declared.Timing.{Timing}
use Rattle.table.specs.Live.{Each}
use Rattle.gateway.specs.Basics.{option, each}
use Rattle.gateway.specs.Limits.{owner_slots, session_slots, most_orders, outside, malformed, bad_fee}
use Rattle.gateway.specs.Ledger.{Order, Ledger, number_of, wallet_of, order_hold, holds_fit}
use Rattle.gateway.specs.Entry.{is_zero}
use Rattle.gateway.specs.Saved.{Saved, saved_from, slots, contents}
use Rattle.gateway.specs.Bytes.{decode}
use Rattle.gateway.specs.Core.{Tests, Pass, Core}
use Rattle.gateway.specs.Depth.{Depth, depth_few, levels_few, levels_fit}
use Rattle.gateway.specs.Rest.{Session}
use Rattle.gateway.specs.Calls.{Gateway}
use Rattle.gateway.specs.Listing.{listed_number, listed_owner, live, listed_orders, listed_depth, listed_times}
use Rattle.gateway.specs.Start.{Started, not_started, started, start_unless, charging, entered, accounts_of, bucket_of, by_slot, funds_in, begin, owners_of, listed_tests, listed_ledger, entry_tests, total_tests, set_up_tests, set_up}
use Rattle.gateway.specs.Start.{restored_wallet, restored_wallets, restored_ledger, order_tests, saved_tests, restore_tests, hold_notice_of, empty_depth, restore_saved, restore}
use Rattle.gateway.specs.Fits.{Unsigned, MaybeFundsFit, AccountsFit, ListedFits, ListingFits, Bytes}
use Rattle.gateway.proofs.Base.{split}
use Rattle.gateway.proofs.Sorted.{rises_from, each_insert}
use Rattle.gateway.proofs.Bytes.{SavedWallet, SavedOrder, SavedFits, decode_fits}
use Rattle.gateway.proofs.Invariant.{All, Keyed, In}
use Rattle.gateway.proofs.Listing.{distinct, live_number, live_rises, resting_rises, live_length, each_listed}
use Rattle.gateway.proofs.Calls.{listed_few, pass_append}
use Rattle.gateway.proofs.Restore.{Accounts, nothing_saved, by_slot_length, by_slot_owned}
use Rattle.gateway.specs.Table.{Rises}
use Rattle.gateway.specs.Invariant.{CoreOk, FeedOk, Known, GatewayOk, OrderFits, Owned, RestOk, SessionsOk, WalletFits, WalletsFit, at}

-- what holds of the gateway that begins, where one does
abbrev pub Begins : (Gateway → Type 0) → Started → Type 0
Begins P (not_started k) = Unit {0}
Begins P (started g) = P g

start_begins : (P : Gateway → Type 0) (g : Gateway) (ts : Tests ℕ) → (Pass ts → P g) → Begins P (start_unless ts g)
unfolding start_unless
start_begins P g [] h = h tt
start_begins P g (t ∷ ts) h =
    split (λ b. Begins P (cond b (start_unless ts g) (not_started t.0))) t.1 (λ e. start_begins P g ts (λ u. h (e, u))) (λ e. tt)

charging_begins : (P : Gateway → Type 0) (fee : ℤ) (s : Started) → (le_z (pos 0) fee ≡ true → Begins P s) → Begins P (charging fee s)
unfolding charging
charging_begins P fee s h = split (λ b. Begins P (cond b s (not_started bad_fee))) (le_z (pos 0) fee) h (λ e. tt)

-- it has the accounts and the fee
abbrev pub Given : ℤ → ℕ → List Account → Gateway → Type 0
Given fee limit l g = Accounts fee limit l g.core

-- ---- accounts

entered_length : (t : List (Option Account)) (l : List Account) → length (entered t l) ≡ length t
entered_length t [] = refl
entered_length t (a ∷ l) = entered_length (set t a.id (Some a)) l ∙ length-set t a.id (Some a)

pub accounts_length : (limit : ℕ) (l : List Account) → length (accounts_of limit l) ≡ limit
accounts_length limit l = entered_length (replicate limit None) l ∙ length-replicate limit None

abbrev SlotFits : Option Account → Type 0
SlotFits a = WalletFits (funds_in a)

abbrev SlotsFit : List (Option Account) → Type 0
SlotsFit t = Each SlotFits t

funds_fit : (f : Option Funds) → MaybeFundsFit f → WalletFits f
funds_fit None h = tt
funds_fit (Some f) h = h

slot_set : (t : List (Option Account)) (i : ℕ) (a : Option Account) → SlotFits a → SlotsFit t → SlotsFit (set t i a)
slot_set [] i a h k = tt
slot_set (x ∷ t) zero a h k = (h, k.1)
slot_set (x ∷ t) (suc i) a h k = (k.0, slot_set t i a h k.1)

entered_fits : (t : List (Option Account)) (l : List Account) → AccountsFit l → SlotsFit t → SlotsFit (entered t l)
entered_fits t [] h k = k
entered_fits t (a ∷ l) h k = entered_fits (set t a.id (Some a)) l h.1 (slot_set t a.id (Some a) (funds_fit a.funds h.0) k)

none_fit : (n : ℕ) → SlotsFit (replicate n None)
none_fit zero = tt
none_fit (suc n) = (tt, none_fit n)

by_slot_fits : (n : ℕ) (t : List (Option Account)) → SlotsFit t → WalletsFit (by_slot funds_in n t)
by_slot_fits zero t h = tt
by_slot_fits (suc n) [] h = (tt, by_slot_fits n [] tt)
by_slot_fits (suc n) (a ∷ t) h = (h.0, by_slot_fits n t h.1)

funds_by_slot : (limit : ℕ) (l : List Account) → AccountsFit l → WalletsFit (by_slot funds_in owner_slots (accounts_of limit l))
funds_by_slot limit l h = by_slot_fits owner_slots (accounts_of limit l) (entered_fits (replicate limit None) l h (none_fit limit))

-- ---- the rest that begins

no_sessions : (t : List (Option Account)) → SessionsOk t (replicate session_slots None)
no_sessions t =
    record {
      slots = length-replicate {A = Option Session} session_slots None;
      known = λ i. subst (Known t) (sym (nobody session_slots i)) tt;
      single = λ a i j p q. absurd (no_one (sym (nobody session_slots i) ∙ p));
    }
  where
    no_one : {a : ℕ} → None ≡ Some a → ⊥
    no_one e = let z : ◌≡◌ {A = ℕ} 0 1 = cc in omega arith

    nobody : (n i : ℕ) → at (replicate n None) i ≡ None
    nobody zero i = refl
    nobody (suc n) zero = refl
    nobody (suc n) (suc i) = nobody n i

begin_ok : (timing : Timing) (k : Ledger) (t : List (Option Account)) (d : Depth) (ns : List ℕ) → FeedOk d [] ns → RestOk t k.last (begin timing k t d ns).rest
begin_ok timing k t d ns f =
    record { sessions = no_sessions t; buckets = by_slot_length bucket_of owner_slots t; batch = omega arith; delivered = omega arith; feed = f }

-- ---- set-up

-- what the tests say of each live order
listed_pass : (limit last : ℕ) (xs : List Listed) (os : List Order) → Pass (listed_tests limit last xs os) →
    Each (λ o. (o.number ≤ last) × ((owners_of limit o.number xs ≡ true) × (listed_times o.number xs ≡ 1))) os
listed_pass limit last xs [] h = tt
listed_pass limit last xs (o ∷ os) h =
    ((leb-true o.number last h.0, (h.1.0, eqb-true _ 1 h.1.1.0)), listed_pass limit last xs os h.1.1.1)

live_owner : (x : Listed) → (live x).account ≡ listed_owner x
live_owner (L.Order i o s p v w) = refl
live_owner (L.Stop i o s l q) = refl

each_once : (xs all : List Listed) (limit last : ℕ) →
    Each (λ x. ((live x).number ≤ last) × ((owners_of limit (live x).number all ≡ true) × (listed_times (live x).number all ≡ 1))) xs →
    Each (λ x. listed_times (listed_number x) all ≡ 1) xs
each_once [] all limit last h = tt
each_once (x ∷ xs) all limit last h = (subst (λ n. listed_times n all ≡ 1) (live_number x) h.0.1.1, each_once xs all limit last h.1)

-- an entry's owner, of a list whose owners of its number are below the limit
owner_in : (limit n : ℕ) (x : Listed) (xs : List Listed) → listed_number x ≡ n → owners_of limit n (x ∷ xs) ≡ true → listed_owner x < limit
owner_in limit n x xs e h =
    let t = (and-eq-true_iff (cond (eqb (listed_number x) n) (ltb (listed_owner x) limit) true) (owners_of limit n xs)).0 h in
    let u : ltb (listed_owner x) limit ≡ true = rw (eq-eqb (listed_number x) n e) at t.0 in
    ltb-true (listed_owner x) limit u

owners_rest : (limit n : ℕ) (x : Listed) (xs : List Listed) → owners_of limit n (x ∷ xs) ≡ true → owners_of limit n xs ≡ true
owners_rest limit n x xs h = ((and-eq-true_iff (cond (eqb (listed_number x) n) (ltb (listed_owner x) limit) true) (owners_of limit n xs)).0 h).1

-- the entries, of a list that holds them
live_inside : (limit last : ℕ) (all xs : List Listed) → ((n : ℕ) → owners_of limit n all ≡ true → owners_of limit n xs ≡ true) →
    Each (λ x. ((live x).number ≤ last) × ((owners_of limit (live x).number all ≡ true) × (listed_times (live x).number all ≡ 1))) xs →
    Each (Keyed (In last limit)) (listed_orders xs)
live_inside limit last all [] s h = tt
live_inside limit last all (x ∷ xs) s h =
    each_insert number_of (Keyed (In last limit)) (live x) (listed_orders xs)
    (h.0.0, subst (λ a. a < limit) (sym (live_owner x)) (owner_in limit (live x).number x xs (sym (live_number x)) (s (live x).number h.0.1.0)))
    (live_inside limit last all xs (λ n e. owners_rest limit n x xs (s n e)) h.1)

live_fits : (x : Listed) → ListedFits x → OrderFits (live x)
live_fits (L.Order i o s p v w) h = record { ref_fits = omega arith; price_fits = h.0; leaves_fit = h.1 }
live_fits (L.Stop i o s l q) h = record { ref_fits = omega arith; price_fits = h.0; leaves_fit = h.1 }

listed_fit : (xs : List Listed) → ListingFits xs → Each OrderFits (listed_orders xs)
listed_fit [] h = tt
listed_fit (x ∷ xs) h = each_insert number_of OrderFits (live x) (listed_orders xs) (live_fits x h.0) (listed_fit xs h.1)

pub set_up_begins : (fee : ℤ) (limit last : ℕ) (l : List Account) (xs : List Listed) (timing : Timing) → Unsigned last → AccountsFit l → ListingFits xs →
    Begins GatewayOk (set_up fee limit last l xs timing)
unfolding set_up
set_up_begins fee limit last l xs timing f a x =
    charging_begins GatewayOk fee _ λ charge. start_begins GatewayOk _ (set_up_tests fee limit last l xs) λ p.
    let u = pass_append (entry_tests limit last l xs) (total_tests fee limit last l xs) p in
    let t = u.0 in
    let v = u.1 in
    let size = accounts_length limit l in
    let es = each_listed _ xs (listed_pass limit last xs (listed_orders xs) t.1.1.1) in
    let ds = distinct xs (each_once xs xs limit last es) in
    let m : limit ≤ owner_slots = leb-true limit owner_slots t.0 in
    let few : length xs ≤ most_orders = leb-true (length xs) most_orders t.1.0 in
    record {
      core_is =
          record {
            slots = by_slot_length funds_in owner_slots (accounts_of limit l);
            owned = by_slot_owned (accounts_of limit l) (omega arith);
            rise = live_rises xs ds;
            inside = rw size (live_inside limit last xs xs (λ n e. e) es);
            few = omega (arith, live_length xs);
            runs = tt;
            flying = omega arith;
            holds = v.1.0;
            limit = omega arith;
            fit = record { last_fits = f; money_fits = funds_by_slot limit l a; orders_fit = listed_fit xs x; mark_fits = tt };
          };
      rest_is = begin_ok timing (listed_ledger fee limit last l xs) (accounts_of limit l) (listed_depth xs) []
          (record { ascending = resting_rises xs ds; fit = v.1.1.0; few = listed_few xs (length xs) refl few v.0; few_trades = omega arith; few_notices = omega arith });
    }

pub set_up_given : (fee : ℤ) (limit last : ℕ) (l : List Account) (xs : List Listed) (timing : Timing) → Begins (Given fee limit l) (set_up fee limit last l xs timing)
unfolding set_up
set_up_given fee limit last l xs timing =
    charging_begins (Given fee limit l) fee _ λ charge. start_begins (Given fee limit l) _ (set_up_tests fee limit last l xs) λ p.
    record {
      table = refl;
      below = (pass_append (entry_tests limit last l xs) (total_tests fee limit last l xs) p).0.1.1.0;
      size = accounts_length limit l;
      fee_is = refl;
      fee_good = charge;
    }

-- ---- restore

restored_fits : (fs ws : List (Option Funds)) → WalletsFit fs → WalletsFit ws → WalletsFit (restored_wallets fs ws)
restored_fits [] ws h k = tt
restored_fits (f ∷ fs) [] h k = (h.0, restored_fits fs [] h.1 tt)
restored_fits (f ∷ fs) (w ∷ ws) h k = (one f w h.0 k.0, restored_fits fs ws h.1 k.1)
  where
    one : (f w : Option Funds) → WalletFits f → WalletFits w → WalletFits (restored_wallet f w)
    one None w h k = tt
    one (Some f) None h k = h
    one (Some f) (Some w) h k = k

slots_fit : (n a : ℕ) (ws : List (ℕ × Funds)) → Each SavedWallet ws → WalletsFit (slots n a ws)
slots_fit zero a ws h = tt
slots_fit (suc n) a [] h = (tt, slots_fit n (suc a) [] tt)
slots_fit (suc n) a (w ∷ ws) h =
    let t = slots_fit n (suc a) ws h.1 in
    let u = slots_fit n (suc a) (w ∷ ws) h in
    split (λ b. WalletsFit (cond b (Some w.1 ∷ slots n (suc a) ws) (None ∷ slots n (suc a) (w ∷ ws)))) (eqb w.0 a) (λ e. (h.0.money_fits, t)) (λ e. (tt, u))

some_restored : (fs ws : List (Option Funds)) (i : ℕ) → is_some (get_or (restored_wallets fs ws) i None) ≡ is_some (get_or fs i None)
some_restored [] ws i = refl
some_restored (f ∷ fs) [] zero = refl
some_restored (f ∷ fs) [] (suc i) = some_restored fs [] i
some_restored (None ∷ fs) (w ∷ ws) zero = refl
some_restored (Some f ∷ fs) (w ∷ ws) zero = refl
some_restored (f ∷ fs) (w ∷ ws) (suc i) = some_restored fs ws i

restored_length : (fs ws : List (Option Funds)) → length (restored_wallets fs ws) ≡ length fs
restored_length [] ws = refl
restored_length (f ∷ fs) [] = ap suc (restored_length fs [])
restored_length (f ∷ fs) (w ∷ ws) = ap suc (restored_length fs ws)

order_inside : (limit last : ℕ) (os : List Order) → Pass (order_tests limit last os) → All (Keyed (In last limit)) os
order_inside limit last [] h = tt
order_inside limit last (o ∷ os) h = ((leb-true o.number last h.0, ltb-true o.account limit h.1.0), order_inside limit last os h.1.1)

values : (os : List Order) → Each SavedOrder os → All OrderFits os
values [] h = tt
values (o ∷ os) h = (h.0.values_fit, values os h.1)

notices_few : (fee : ℤ) (ws : List (Option Funds)) (os : List Order) → length (each (hold_notice_of fee ws) os) ≤ length os
notices_few fee ws [] = omega arith
notices_few fee ws (o ∷ os) =
    let h = notices_few fee ws os in
    let one : length (hold_notice_of fee ws o) ≤ 1 =
    split (λ b. length (cond b (o.account ∷ []) []) ≤ 1) (is_some (wallet_of ws o) && not (is_zero (order_hold fee o))) (λ e. omega arith) (λ e. omega arith) in
    omega (arith, length-append (hold_notice_of fee ws o) (each (hold_notice_of fee ws) os))

empty_feed : (fee : ℤ) (ws : List (Option Funds)) (os : List Order) → length os ≤ most_orders → FeedOk empty_depth [] (each (hold_notice_of fee ws) os)
unfolding levels_fit depth_few levels_few
empty_feed fee ws os h = record { ascending = tt; fit = refl; few = refl; few_trades = omega arith; few_notices = omega (arith, notices_few fee ws os) }

restore_saved_begins : (fee : ℤ) (limit : ℕ) (l : List Account) (timing : Timing) (s : Saved) → AccountsFit l → SavedFits s → Begins GatewayOk (restore_saved fee limit l timing s)
unfolding restore_saved
restore_saved_begins fee limit l timing s a f =
    start_begins GatewayOk _ (restore_tests fee limit l s) λ p.
    let t = pass_append (saved_tests limit l s) ((outside, holds_fit (restored_ledger fee (accounts_of limit l) s)) ∷ []) p in
    let size = accounts_length limit l in
    let k = restored_ledger fee (accounts_of limit l) s in
    let fs = by_slot funds_in owner_slots (accounts_of limit l) in
    let ss = slots owner_slots 0 s.wallets in
    let m : limit ≤ owner_slots = leb-true limit owner_slots t.0.0 in
    record {
      core_is =
          record {
            slots = restored_length fs ss ∙ by_slot_length funds_in owner_slots (accounts_of limit l);
            owned = λ i. some_restored fs ss i ∙ by_slot_owned (accounts_of limit l) (omega arith) i;
            rise = f.orders_fit.rise;
            inside = rw size (order_inside limit s.last s.orders t.0.1.1.1);
            few = f.orders_fit.few;
            runs = tt;
            flying = omega arith;
            holds = t.1.0;
            limit = omega arith;
            fit = record {
              last_fits = f.last_fits;
              money_fits = restored_fits fs ss (funds_by_slot limit l a) (slots_fit owner_slots 0 s.wallets f.wallets_fit.good);
              orders_fit = values s.orders f.orders_fit.good;
              mark_fits = f.mark_fits;
            };
          };
      rest_is = begin_ok timing k (accounts_of limit l) empty_depth (each (hold_notice_of fee k.wallets) k.orders) (empty_feed fee k.wallets k.orders f.orders_fit.few);
    }

pub restore_begins : (fee : ℤ) (limit : ℕ) (l : List Account) (timing : Timing) (xs : List ℕ) → AccountsFit l → Bytes xs → Begins GatewayOk (restore fee limit l timing xs)
unfolding restore
restore_begins fee limit l timing xs a b = charging_begins GatewayOk fee _ (λ charge. go (decode xs) (λ s e. decode_fits xs s b e))
  where
    go : (o : Option Saved) → ((s : Saved) → o ≡ Some s → SavedFits s) → Begins GatewayOk (option (not_started malformed) (restore_saved fee limit l timing) o)
    go None h = tt
    go (Some s) h = restore_saved_begins fee limit l timing s a (h s refl)

pub restore_given : (fee : ℤ) (limit : ℕ) (l : List Account) (timing : Timing) (xs : List ℕ) → Begins (Given fee limit l) (restore fee limit l timing xs)
unfolding restore restore_saved
restore_given fee limit l timing xs = charging_begins (Given fee limit l) fee _ (go (decode xs))
  where
    go : (o : Option Saved) → le_z (pos 0) fee ≡ true → Begins (Given fee limit l) (option (not_started malformed) (restore_saved fee limit l timing) o)
    go None charge = tt
    go (Some s) charge =
        start_begins (Given fee limit l) _ (restore_tests fee limit l s) λ p.
        let t = pass_append (saved_tests limit l s) ((outside, holds_fit (restored_ledger fee (accounts_of limit l) s)) ∷ []) p in
        record { table = refl; below = t.0.1.0; size = accounts_length limit l; fee_is = refl; fee_good = charge }

-- ---- the contents of a core that keeps the invariant fit

saved_wallets : (k : ℕ) (t : List (Option Account)) (ws : List (Option Funds)) → Owned t ws → k + length t ≤ owner_slots → WalletsFit ws →
    Each SavedWallet (saved_from k ws) × (Rises (λ w. w.0) k (saved_from k ws) × (length (saved_from k ws) ≤ length ws))
saved_wallets k t [] o l h = (tt, (tt, omega arith))
saved_wallets k [] (None ∷ ws) o l h = absurd_or (nothing_saved (suc k) ws (λ i. o (suc i)))
  where
    absurd_or : saved_from (suc k) ws ≡ [] → Each SavedWallet (saved_from (suc k) ws) × (Rises (λ w. w.0) k (saved_from (suc k) ws) × (length (saved_from (suc k) ws) ≤ suc (length ws)))
    absurd_or e = rw e (tt, (tt, omega arith))
saved_wallets k [] (Some w ∷ ws) o l h = absurd (let e = o 0 in let z : ◌≡◌ {A = ℕ} 0 1 = cc in omega (arith, z))
saved_wallets k (a ∷ t) (None ∷ ws) o l h =
    let u = saved_wallets (suc k) t ws (λ i. o (suc i)) (omega arith) h.1 in
    (u.0, (rises_from (λ w. w.0) k (suc k) (omega arith) (saved_from (suc k) ws) u.1.0, omega (arith, u.1.1)))
saved_wallets k (a ∷ t) (Some w ∷ ws) o l h =
    let u = saved_wallets (suc k) t ws (λ i. o (suc i)) (omega arith) h.1 in
    ((record { account_fits = omega (arith, l); money_fits = h.0 }, u.0), ((omega arith, u.1.0), omega (arith, u.1.1)))

saved_orders : (last limit : ℕ) (os : List Order) → Unsigned last → limit ≤ owner_slots → All (Keyed (In last limit)) os → All OrderFits os → Each SavedOrder os
saved_orders last limit [] u m h k = tt
saved_orders last limit (o ∷ os) u m h k =
    (record { number_fits = omega (arith, h.0.0, u); account_fits = omega (arith, h.0.1); values_fit = k.0 }, saved_orders last limit os u m h.1 k.1)

pub contents_fit : (c : Core) → CoreOk c → SavedFits (contents c.ledger)
unfolding contents
contents_fit c ok =
    let w = saved_wallets 0 c.accounts c.ledger.wallets ok.owned (omega (arith, ok.limit)) ok.fit.money_fits in
    record {
      last_fits = ok.fit.last_fits;
      mark_fits = ok.fit.mark_fits;
      wallets_fit = record { few = omega (arith, w.1.1, ok.slots); good = w.0; rise = w.1.0 };
      orders_fit =
          record {
            few = ok.few;
            good = saved_orders c.ledger.last (length c.accounts) c.ledger.orders ok.fit.last_fits ok.limit ok.inside ok.fit.orders_fit;
            rise = ok.rise;
          };
    }
