-- The core's invariant, which every recorded item keeps. Assumes nothing.
use Rattle.std.specs.Prelude.{Option, Some, None, option_map, is_some}
use Prim.Native.Nat.{ℕ, zero, suc, ◌+◌, ◌<◌, ◌≤◌}
use mathlib.Core.Bool.{Bool, true, false, cond, not, ◌&&◌, ◌||◌, and-eq-true_iff}
use mathlib.Core.Path.{◌≡◌, refl, ap, sym, ◌∙◌, subst}
use mathlib.Core.Logic.{⊎_elim}
use mathlib.Core.List.{List, [], ◌∷◌, ◌++◌, append-nil}
use native.Mathlib.Omega.{arith}
use native.Mathlib.Nat.{add-zero, zero-add}
use borrow.Author.Tests.{ltb-true, eqb-true}
use lib.IntN.{ℤ, pos, ◌+ℤ◌, +ℤ_idl}
use lib.ListN.{length, get_or, set, length-set, length-append}
use lib.Seq.{get_or-set_same, get_or-set_other}
use lib.Dec.{eqb, ltb}
use Rattle.orderbook.specs.declared.Side.{Side}
use Rattle.orderbook.specs.declared.Side.TheVariants.{Buy, Sell}
use Rattle.orderbook.specs.declared.Command.{Command}
use Rattle.orderbook.specs.declared.Command.TheVariants.{Limit, Market, Cancel, Modify, Stop, CancelAll, SetPhase}
use Rattle.orderbook.specs.declared.Event.{Event}
use Rattle.orderbook.specs.declared.Event.TheVariants.{Accepted, Rejected, Trade, Rested, Replenished, Cancelled, Modified, StopPlaced, Triggered, MassCancelled, PhaseChanged}
use Rattle.accounts.specs.declared.Account.{Account}
use Rattle.accounts.specs.declared.Funds.{Funds}
use Rattle.gateway.specs.Limits.{owner_slots, most_orders, most_in_flight}
use Rattle.wallet.specs.Wallet.{charged, settle}
use Rattle.gateway.specs.Ledger.{Order, Ledger, New, Item, account, command, event, order_of, owner_of, placed, number_of, find, remove, with_leaves, with_price, left}
use Rattle.gateway.specs.Ledger.{Change, mark_by, fill, set_leaves, reprice, retire, changes, change, changed, pay, paper, step, same_side, order_hold, held, wallet_fits, wallets_fit, holds_fit, open_of}
use Rattle.table.specs.Live.{Each, without}
use Rattle.gateway.specs.Table.{update, Rises}
use Rattle.gateway.specs.Core.{Pass, Origin, Flight, Core, flight, drop_below, owner_below, tests, core_step}
use Rattle.gateway.specs.Start.{funds_in}
use Rattle.gateway.specs.Fits.{Unsigned, Signed, PriceFits, MaybeFundsFit, AccountFits, CommandFits, EventFits}
use Rattle.gateway.proofs.Base.{split}
use Rattle.table.proofs.Live.{same?}
use Rattle.gateway.proofs.Sorted.{rises_from}
use Rattle.gateway.proofs.Forget.{step_forget, holds_forget}
use Rattle.gateway.proofs.Money.{settle_fits, zero_fits}
use Rattle.gateway.specs.Invariant.{CoreOk, LedgerFits, OrderFits, Owned, Runs, WalletFits, WalletsFit}

-- ---- orders

abbrev pub Rise : ℕ → List Order → Type 0
Rise n os = Rises number_of n os

abbrev pub All : (Order → Type 0) → List Order → Type 0
All P os = Each P os

-- P sees an order's number and account alone
abbrev pub Keyed : (ℕ → ℕ → Type 0) → Order → Type 0
Keyed P o = P o.number o.account

-- such a P: `Inside` of the invariant
abbrev pub In : ℕ → ℕ → ℕ → ℕ → Type 0
In last limit n a = (n ≤ last) × (a < limit)

-- what events do to the orders: some end, the others keep number and account
pub data Shrinks : List Order → List Order → Type 0 where
  empty : Shrinks [] []
  ended : {o : Order} {os ps : List Order} → Shrinks os ps → Shrinks (o ∷ os) ps
  kept : {o p : Order} {os ps : List Order} → p.number ≡ o.number → p.account ≡ o.account → Shrinks os ps → Shrinks (o ∷ os) (p ∷ ps)

same : (os : List Order) → Shrinks os os
same [] = empty
same (o ∷ os) = kept refl refl (same os)

then : {os ps qs : List Order} → Shrinks os ps → Shrinks ps qs → Shrinks os qs
then empty t = t
then (ended s) t = ended (then s t)
then (kept p q s) (ended t) = ended (then s t)
then (kept p q s) (kept p' q' t) = kept (p' ∙ p) (q' ∙ q) (then s t)

remove_shrinks : (n : ℕ) (os : List Order) → Shrinks os (remove n os)
unfolding without
remove_shrinks n [] = empty
remove_shrinks n (o ∷ os) =
    let h = remove_shrinks n os in
    split (λ b. Shrinks (o ∷ os) (cond b (remove n os) (o ∷ remove n os))) (eqb o.number n) (λ e. ended h) (λ e. kept refl refl h)

-- f keeps number and account
abbrev Keeps : (Order → Order) → Type 0
Keeps f = (o : Order) → ((f o).number ≡ o.number) × ((f o).account ≡ o.account)

update_shrinks : (f : Order → Order) → Keeps f → (n : ℕ) (os : List Order) → Shrinks os (update number_of n f os)
unfolding update
update_shrinks f h n [] = empty
update_shrinks f h n (o ∷ os) =
    let t = update_shrinks f h n os in
    split (λ b. Shrinks (o ∷ os) (cond b (f o) o ∷ update number_of n f os)) (eqb o.number n) (λ e. kept (h o).0 (h o).1 t) (λ e. kept refl refl t)

one_of : {os ps qs : List Order} (b : Bool) → Shrinks os ps → Shrinks os qs → Shrinks os (cond b ps qs)
one_of true s t = s
one_of false s t = t

left_shrinks : (f : Order → Order) → Keeps f → (n v : ℕ) (os : List Order) → Shrinks os (left n f v os)
left_shrinks f h n v os = one_of (eqb v 0) (remove_shrinks n os) (update_shrinks (λ o. with_leaves v (f o)) h n os)

change_shrinks : (x : Change) (l : Ledger) → Shrinks l.orders (change x l).orders
unfolding change
change_shrinks (mark_by t m p) l = same _
change_shrinks (fill n p q v) l = left_shrinks (λ o. o) (λ o. (refl, refl)) n v l.orders
change_shrinks (set_leaves n v) l = update_shrinks (with_leaves v) (λ o. (refl, refl)) n l.orders
change_shrinks (reprice n p v) l = left_shrinks (with_price p) (λ o. (refl, refl)) n v l.orders
change_shrinks (retire n) l = remove_shrinks n l.orders

pub shrunk : (xs : List Change) (l : Ledger) → Shrinks l.orders (changed xs l).orders
shrunk [] l = same _
shrunk (x ∷ xs) l = then (change_shrinks x l) (shrunk xs (change x l))

pub rise_shrinks : (n : ℕ) {os ps : List Order} → Shrinks os ps → Rise n os → Rise n ps
rise_shrinks n empty t = tt
rise_shrinks n (ended {o = o} {ps = ps} s) t = rises_from number_of n (suc o.number) (omega (arith, t.0)) ps (rise_shrinks (suc o.number) s t.1)
rise_shrinks n (kept e q s) t = rw e (t.0, rise_shrinks _ s t.1)

pub all_shrinks : (P : ℕ → ℕ → Type 0) {os ps : List Order} → Shrinks os ps → All (Keyed P) os → All (Keyed P) ps
all_shrinks P empty t = tt
all_shrinks P (ended s) t = all_shrinks P s t.1
all_shrinks P (kept e q s) t = (rw (e, q) t.0, all_shrinks P s t.1)

length_shrinks : {os ps : List Order} → Shrinks os ps → length ps ≤ length os
length_shrinks empty = omega arith
length_shrinks (ended s) = let h = length_shrinks s in omega arith
length_shrinks (kept e q s) = let h = length_shrinks s in omega arith

pub all_more : (P Q : Order → Type 0) → ((o : Order) → P o → Q o) → (os ps : List Order) → All P os → All Q ps → All Q (os ++ ps)
all_more P Q h [] ps t u = u
all_more P Q h (o ∷ os) ps t u = (h _ t.0, all_more P Q h os ps t.1 u)

rise_more : (k m limit : ℕ) (os : List Order) (o : Order) → k ≤ o.number → m < o.number → Rise k os → All (Keyed (In m limit)) os → Rise k (os ++ (o ∷ []))
rise_more k m limit [] o h g t u = (h, tt)
rise_more k m limit (p ∷ os) o h g t u = (t.0, rise_more (suc p.number) m limit os o (omega (arith, u.0.0)) g t.1 u.1)

abbrev ChangeFits : Change → Type 0
ChangeFits (mark_by t m p) = Signed p
ChangeFits (fill n p q v) = Unsigned v
ChangeFits (set_leaves n v) = Unsigned v
ChangeFits (reprice n p v) = Signed p × Unsigned v
ChangeFits (retire n) = Unit {0}

abbrev ChangesFit : List Change → Type 0
ChangesFit [] = Unit {0}
ChangesFit (x ∷ xs) = ChangeFits x × ChangesFit xs

changes_fit : (n : ℕ) (e : Event) → EventFits e → ChangesFit (changes n e)
unfolding changes
changes_fit n (Accepted i) h = tt
changes_fit n (Rejected i why) h = split (λ b. ChangesFit (cond b (retire i ∷ []) [])) (eqb i n) (λ e. (tt, tt)) (λ e. tt)
changes_fit n (Trade t taker maker s p q tl ml) h = (h.0, (h.1.0, (h.1.1, tt)))
changes_fit n (Rested i s p q v) h = (h, tt)
changes_fit n (Replenished i s p v) h = tt
changes_fit n (Cancelled i q why) h = (tt, tt)
changes_fit n (Modified i p q v) h = (h, tt)
changes_fit n (StopPlaced i s t l q) h = tt
changes_fit n (Triggered i) h = tt
changes_fit n (MassCancelled o k) h = tt
changes_fit n (PhaseChanged p) h = tt

remove_fits : (n : ℕ) (os : List Order) → All OrderFits os → All OrderFits (remove n os)
unfolding without
remove_fits n [] h = tt
remove_fits n (o ∷ os) h =
    let t = remove_fits n os h.1 in
    split (λ b. All OrderFits (cond b (remove n os) (o ∷ remove n os))) (eqb o.number n) (λ e. t) (λ e. (h.0, t))

update_fits : (f : Order → Order) → ((o : Order) → OrderFits o → OrderFits (f o)) → (n : ℕ) (os : List Order) → All OrderFits os → All OrderFits (update number_of n f os)
unfolding update
update_fits f g n [] h = tt
update_fits f g n (o ∷ os) h =
    (split (λ b. OrderFits (cond b (f o) o)) (eqb o.number n) (λ e. g o h.0) (λ e. h.0), update_fits f g n os h.1)

leaves_fits : (v : ℕ) (o : Order) → Unsigned v → OrderFits o → OrderFits (with_leaves v o)
leaves_fits v o g h = record { ref_fits = h.ref_fits; price_fits = h.price_fits; leaves_fit = g }

reprice_fits : (p : ℤ) (o : Order) → Signed p → OrderFits o → OrderFits (with_price p o)
reprice_fits p o g h = record { ref_fits = h.ref_fits; price_fits = g; leaves_fit = h.leaves_fit }

left_fits : (f : Order → Order) → ((o : Order) → OrderFits o → OrderFits (f o)) → (n v : ℕ) (os : List Order) → Unsigned v → All OrderFits os → All OrderFits (left n f v os)
left_fits f g n v os u h =
    split (λ b. All OrderFits (cond b (remove n os) (update number_of n (λ o. with_leaves v (f o)) os))) (eqb v 0) (λ e. remove_fits n os h)
    (λ e. update_fits (λ o. with_leaves v (f o)) (λ o k. leaves_fits v (f o) u (g o k)) n os h)

settled_fits : (s : Side) (p : ℤ) (q : ℕ) (w : Option Funds) → WalletFits (option_map (settle s p q) w)
settled_fits s p q None = tt
settled_fits s p q (Some w) = settle_fits s p q w

set_fits : (i : ℕ) (v : Option Funds) (ws : List (Option Funds)) → WalletFits v → WalletsFit ws → WalletsFit (set ws i v)
set_fits i v [] g h = tt
set_fits zero v (w ∷ ws) g h = (g, h.1)
set_fits (suc i) v (w ∷ ws) g h = (h.0, set_fits i v ws g h.1)

pay_fits : (fee p : ℤ) (q : ℕ) (o : Option Order) (ws : List (Option Funds)) → WalletsFit ws → WalletsFit (pay fee p q o ws)
unfolding pay
pay_fits fee p q None ws h = h
pay_fits fee p q (Some o) ws h = set_fits o.account _ ws (settled_fits o.side (charged fee o.side p) q (get_or ws o.account None)) h

change_fits : (x : Change) (l : Ledger) → ChangeFits x → LedgerFits l → LedgerFits (change x l)
unfolding change
change_fits (mark_by t m p) l h k =
    record {
      last_fits = k.last_fits;
      money_fits = k.money_fits;
      orders_fit = k.orders_fit;
      mark_fits = split (λ b. PriceFits (cond b l.mark (Some p))) (paper t l && paper m l) (λ e. k.mark_fits) (λ e. h);
    }
change_fits (fill n p q v) l h k =
    record {
      last_fits = k.last_fits;
      money_fits = pay_fits l.fee p q (find n l.orders) l.wallets k.money_fits;
      orders_fit = left_fits (λ o. o) (λ o g. g) n v l.orders h k.orders_fit;
      mark_fits = k.mark_fits;
    }
change_fits (set_leaves n v) l h k =
    record {
      last_fits = k.last_fits;
      money_fits = k.money_fits;
      orders_fit = update_fits (with_leaves v) (λ o g. leaves_fits v o h g) n l.orders k.orders_fit;
      mark_fits = k.mark_fits;
    }
change_fits (reprice n p v) l h k =
    record {
      last_fits = k.last_fits;
      money_fits = k.money_fits;
      orders_fit = left_fits (with_price p) (λ o g. reprice_fits p o h.0 g) n v l.orders h.1 k.orders_fit;
      mark_fits = k.mark_fits;
    }
change_fits (retire n) l h k =
    record { last_fits = k.last_fits; money_fits = k.money_fits; orders_fit = remove_fits n l.orders k.orders_fit; mark_fits = k.mark_fits }

changed_fits : (xs : List Change) (l : Ledger) → ChangesFit xs → LedgerFits l → LedgerFits (changed xs l)
changed_fits [] l h k = k
changed_fits (x ∷ xs) l h k = changed_fits xs (change x l) h.1 (change_fits x l h.0 k)

-- an item whose numbers fit
abbrev pub ItemFits : Item → Type 0
ItemFits (account a) = AccountFits a
ItemFits (command n k) = Unsigned n × CommandFits k
ItemFits (event n e) = EventFits e

funds_fit : (f : Option Funds) → MaybeFundsFit f → WalletFits f
funds_fit None h = tt
funds_fit (Some f) h = h

placed_fits : (ref n a : ℕ) (k : Command) → Unsigned ref → CommandFits k → All OrderFits (placed ref n a (order_of k))
unfolding order_of
placed_fits ref n a (Limit i o s p q t d) r h = (record { ref_fits = r; price_fits = h.0; leaves_fit = h.1 }, tt)
placed_fits ref n a (Market i o s q) r h = (record { ref_fits = r; price_fits = tt; leaves_fit = h }, tt)
placed_fits ref n a (Stop i o s t l q) r h = (record { ref_fits = r; price_fits = h.0; leaves_fit = h.1 }, tt)
placed_fits ref n a (Cancel i o) r h = tt
placed_fits ref n a (Modify i o p q) r h = tt
placed_fits ref n a (CancelAll o) r h = tt
placed_fits ref n a (SetPhase p) r h = tt

pub step_fits : (ref : ℕ) (i : Item) (l : Ledger) → Unsigned ref → ItemFits i → LedgerFits l → LedgerFits (step ref i l)
unfolding step
step_fits ref (account a) l r h k =
    record {
      last_fits = k.last_fits;
      money_fits = set_fits a.id a.funds l.wallets (funds_fit a.funds h) k.money_fits;
      orders_fit = k.orders_fit;
      mark_fits = k.mark_fits;
    }
step_fits ref (command n c) l r h k =
    record {
      last_fits = h.0;
      money_fits = k.money_fits;
      orders_fit = all_more OrderFits OrderFits (λ o g. g) l.orders _ k.orders_fit (placed_fits ref n (owner_of c) c r h.1);
      mark_fits = k.mark_fits;
    }
step_fits ref (event n e) l r h k = changed_fits (changes n e) l (changes_fit n e h) k

-- ---- wallets

-- a change leaves the last number, and pays into the wallets at most
change_pays : (P : List (Option Funds) → Type 0) → ((fee p : ℤ) (q : ℕ) (o : Option Order) (ws : List (Option Funds)) → P ws → P (pay fee p q o ws)) →
    (x : Change) (l : Ledger) → P l.wallets → ((change x l).last ≡ l.last) × P (change x l).wallets
unfolding change
change_pays P h (mark_by t m p) l w = (refl, w)
change_pays P h (fill n p q v) l w = (refl, h _ p q _ _ w)
change_pays P h (set_leaves n v) l w = (refl, w)
change_pays P h (reprice n p v) l w = (refl, w)
change_pays P h (retire n) l w = (refl, w)

pub paid : (P : List (Option Funds) → Type 0) → ((fee p : ℤ) (q : ℕ) (o : Option Order) (ws : List (Option Funds)) → P ws → P (pay fee p q o ws)) →
    (xs : List Change) (l : Ledger) → P l.wallets → ((changed xs l).last ≡ l.last) × P (changed xs l).wallets
paid P h [] l w = (refl, w)
paid P h (x ∷ xs) l w =
    let t = change_pays P h x l w in
    let u = paid P h xs (change x l) t.1 in
    (u.0 ∙ t.0, u.1)

pub last_stays : (xs : List Change) (l : Ledger) → (changed xs l).last ≡ l.last
last_stays xs l = (paid (λ ws. Unit {0}) (λ fee p q o ws u. tt) xs l tt).0

fee_stays : (x : Change) (l : Ledger) → (change x l).fee ≡ l.fee
unfolding change
fee_stays (mark_by t m p) l = refl
fee_stays (fill n p q v) l = refl
fee_stays (set_leaves n v) l = refl
fee_stays (reprice n p v) l = refl
fee_stays (retire n) l = refl

-- nothing changes the fee
pub fees_stay : (xs : List Change) (l : Ledger) → (changed xs l).fee ≡ l.fee
fees_stay [] l = refl
fees_stay (x ∷ xs) l = fees_stay xs (change x l) ∙ fee_stays x l

pay_length : (m : ℕ) (fee p : ℤ) (q : ℕ) (o : Option Order) (ws : List (Option Funds)) → length ws ≡ m → length (pay fee p q o ws) ≡ m
unfolding pay
pay_length m fee p q None ws h = h
pay_length m fee p q (Some o) ws h = rw length-set h

some_map : (f : Funds → Funds) (w : Option Funds) → is_some (option_map f w) ≡ is_some w
some_map f None = refl
some_map f (Some w) = refl

still_some : (ws : List (Option Funds)) (i : ℕ) (v : Option Funds) → is_some v ≡ is_some (get_or ws i None) → (j : ℕ) →
    is_some (get_or (set ws i v) j None) ≡ is_some (get_or ws j None)
still_some [] i v h j = refl
still_some (w ∷ ws) zero v h zero = h
still_some (w ∷ ws) zero v h (suc j) = refl
still_some (w ∷ ws) (suc i) v h zero = refl
still_some (w ∷ ws) (suc i) v h (suc j) = still_some ws i v h j

pub pay_some : (fee p : ℤ) (q : ℕ) (o : Option Order) (ws : List (Option Funds)) (j : ℕ) → is_some (get_or (pay fee p q o ws) j None) ≡ is_some (get_or ws j None)
unfolding pay
pay_some fee p q None ws j = refl
pay_some fee p q (Some o) ws j = still_some ws o.account _ (some_map (settle o.side (charged fee o.side p) q) (get_or ws o.account None)) j

pay_owned : (t : List (Option Account)) (fee p : ℤ) (q : ℕ) (o : Option Order) (ws : List (Option Funds)) → Owned t ws → Owned t (pay fee p q o ws)
pay_owned t fee p q o ws h j = pay_some fee p q o ws j ∙ h j

-- a new account's wallet
owned_set : (a : Account) (t : List (Option Account)) (ws : List (Option Funds)) → a.id < length t → length t ≤ length ws → Owned t ws →
    Owned (set t a.id (Some a)) (set ws a.id a.funds)
owned_set a t ws l m h j =
    ⊎_elim
    (λ (e : j ≡ a.id).
    subst (λ k. is_some (get_or (set ws a.id a.funds) k None) ≡ is_some (funds_in (get_or (set t a.id (Some a)) k None))) (sym e)
    (ap is_some (get_or-set_same ws a.id a.funds None (omega arith)) ∙ ap (λ o. is_some (funds_in o)) (sym (get_or-set_same t a.id (Some a) None l))))
    (λ ne. ap is_some (get_or-set_other ws a.id j _ None ne) ∙ h j ∙ ap (λ o. is_some (funds_in o)) (sym (get_or-set_other t a.id j _ None ne)))
    (same? j a.id)

-- ---- hold totals

fit_set : (fee : ℤ) (k i : ℕ) (v : Option Funds) (ws : List (Option Funds)) (os : List Order) → wallet_fits fee (k + i) v os ≡ true →
    wallets_fit fee k ws os ≡ true → wallets_fit fee k (set ws i v) os ≡ true
fit_set fee k i v [] os h t = t
fit_set fee k zero v (w ∷ ws) os h t =
    (and-eq-true_iff (wallet_fits fee k v os) (wallets_fit fee (suc k) ws os)).1
    (rw add-zero at h, ((and-eq-true_iff (wallet_fits fee k w os) (wallets_fit fee (suc k) ws os)).0 t).1)
fit_set fee k (suc i) v (w ∷ ws) os h t =
    let u = (and-eq-true_iff (wallet_fits fee k w os) (wallets_fit fee (suc k) ws os)).0 t in
    let e : k + suc i ≡ suc k + i = omega arith in
    (and-eq-true_iff (wallet_fits fee k w os) (wallets_fit fee (suc k) (set ws i v) os)).1 (u.0, fit_set fee (suc k) i v ws os (rw e at h) u.1)

-- an account without orders holds nothing
held_none : (fee : ℤ) (a : ℕ) (s : Side) (os : List Order) → open_of a os ≡ 0 → held fee a s os ≡ pos 0
held_none fee a s [] h = refl
held_none fee a s (o ∷ os) h =
    split (λ x. (cond x (suc (open_of a os)) (open_of a os) ≡ 0) → cond (x && same_side s o.side) (order_hold fee o) (pos 0) +ℤ held fee a s os ≡ pos 0)
    (eqb o.account a) (λ e z. absurd (omega (arith, z))) (λ e z. +ℤ_idl (held fee a s os) ∙ held_none fee a s os z) h

fits_none : (fee : ℤ) (a : ℕ) (v : Option Funds) (os : List Order) → open_of a os ≡ 0 → wallet_fits fee a v os ≡ true
fits_none fee a None os h = refl
fits_none fee a (Some w) os h = simp (held_none fee a Buy os h, held_none fee a Sell os h, zero_fits)

-- ---- the run of commands in flight: consecutive numbers that end at the last

runs_more : (last n : ℕ) (fs : List Flight) (f : Flight) → n ≡ last + 1 → f.number ≡ n → Runs last fs → Runs n (fs ++ (f ∷ []))
runs_more last n [] f e g h = (omega arith, tt)
runs_more last n (x ∷ fs) f e g h = (omega (arith, h.0, length-append fs (f ∷ [])), runs_more last n fs f e g h.1)

pub runs_below : (last n : ℕ) (fs : List Flight) → Runs last fs → Runs last (drop_below n fs)
runs_below last n [] h = tt
runs_below last n (f ∷ fs) h =
    let t = runs_below last n fs h.1 in
    split (λ b. Runs last (cond b (drop_below n fs) (f ∷ fs))) (ltb f.number n) (λ e. t) (λ e. h)

few_below : (m n : ℕ) (fs : List Flight) → length fs ≤ m → length (drop_below n fs) ≤ m
few_below m n [] h = h
few_below m n (f ∷ fs) h =
    let t = few_below m n fs (omega arith) in
    split (λ b. length (cond b (drop_below n fs) (f ∷ fs)) ≤ m) (ltb f.number n) (λ e. t) (λ e. h)

-- ---- the invariant

-- a wallet's hold totals do not see the reference
holds_ref : (ref n : ℕ) (k : Command) (l : Ledger) → l.last < n → holds_fit (step ref (command n k) l) ≡ holds_fit (step 0 (command n k) l)
holds_ref ref n k l h =
    sym (holds_forget l.last _)
    ∙ ap holds_fit (step_forget l.last ref (command n k) l h ∙ sym (step_forget l.last 0 (command n k) l h))
    ∙ holds_forget l.last _

place_rise : (ref n a limit : ℕ) (x : Option New) (l : Ledger) → l.last < n → Rise 0 l.orders → All (Keyed (In l.last limit)) l.orders →
    Rise 0 (l.orders ++ placed ref n a x)
place_rise ref n a limit None l h t u = rw append-nil t
place_rise ref n a limit (Some x) l h t u = rise_more 0 l.last limit l.orders _ (omega arith) h t u

-- whoever places an order is below the limit
placer_below : (limit ref n : ℕ) (k : Command) → owner_below limit k ≡ true → All (Keyed (In n limit)) (placed ref n (owner_of k) (order_of k))
unfolding order_of owner_of owner_below
placer_below limit ref n (Limit i o s p q t d) h = ((omega arith, ltb-true o limit h), tt)
placer_below limit ref n (Market i o s q) h = ((omega arith, ltb-true o limit h), tt)
placer_below limit ref n (Stop i o s t l q) h = ((omega arith, ltb-true o limit h), tt)
placer_below limit ref n (Cancel i o) h = tt
placer_below limit ref n (Modify i o p q) h = tt
placer_below limit ref n (CancelAll o) h = tt
placer_below limit ref n (SetPhase p) h = tt

place_few : (ref n a : ℕ) (x : Option New) (os : List Order) → not (is_some x) || ltb (length os) most_orders ≡ true → length os ≤ most_orders →
    length (os ++ placed ref n a x) ≤ most_orders
place_few ref n a None os h t = rw append-nil t
place_few ref n a (Some x) os h t = rw length-append (omega (arith, ltb-true (length os) most_orders h))

-- every recorded item keeps the invariant
pub core_ok : (from : Origin) (i : Item) (c : Core) → Unsigned from.client_ref → ItemFits i → CoreOk c → Pass (tests i c) → CoreOk (core_step from i c)
unfolding step tests holds_fit
core_ok from (account a) c r f ok p =
    record {
      slots = rw length-set ok.slots;
      owned = owned_set a c.accounts c.ledger.wallets (ltb-true a.id (length c.accounts) p.0) (omega (arith, ok.slots, ok.limit)) ok.owned;
      rise = ok.rise;
      inside = rw length-set ok.inside;
      few = ok.few;
      runs = ok.runs;
      flying = ok.flying;
      holds = fit_set _ 0 a.id _ c.ledger.wallets c.ledger.orders (fits_none _ (0 + a.id) a.funds c.ledger.orders (rw zero-add (eqb-true _ 0 p.1.1.0))) ok.holds;
      limit = rw length-set ok.limit;
      fit = step_fits from.client_ref (account a) c.ledger r f ok.fit;
    }
core_ok from (command n k) c r f ok p =
    let e = eqb-true n (c.ledger.last + 1) p.0 in
    let m = length c.accounts in
    record {
      slots = ok.slots;
      owned = ok.owned;
      rise = place_rise from.client_ref n (owner_of k) m (order_of k) c.ledger (omega arith) ok.rise ok.inside;
      inside = all_more (Keyed (In c.ledger.last m)) (Keyed (In n m)) (λ o v. (omega (arith, v.0), v.1)) c.ledger.orders _ ok.inside
          (placer_below m from.client_ref n k p.1.1.0);
      few = place_few from.client_ref n (owner_of k) (order_of k) c.ledger.orders p.1.1.1.1.0 ok.few;
      runs = runs_more c.ledger.last n c.flights (flight from n k) e refl ok.runs;
      flying = rw length-append (omega (arith, ltb-true (length c.flights) most_in_flight p.1.1.1.0));
      holds = holds_ref from.client_ref n k c.ledger (omega arith) ∙ p.1.1.1.1.1.0;
      limit = ok.limit;
      fit = step_fits from.client_ref (command n k) c.ledger r f ok.fit;
    }
core_ok from (event n e) c r f ok p =
    let s = shrunk (changes n e) c.ledger in
    record {
      slots = (paid (λ ws. length ws ≡ owner_slots) (pay_length owner_slots) (changes n e) c.ledger ok.slots).1;
      owned = (paid (Owned c.accounts) (pay_owned c.accounts) (changes n e) c.ledger ok.owned).1;
      rise = rise_shrinks 0 s ok.rise;
      inside = rw last_stays (all_shrinks (In c.ledger.last (length c.accounts)) s ok.inside);
      few = omega (arith, length_shrinks s, ok.few);
      runs = rw last_stays (runs_below _ n c.flights ok.runs);
      flying = few_below most_in_flight n c.flights ok.flying;
      holds = p.1.1.1.0;
      limit = ok.limit;
      fit = step_fits from.client_ref (event n e) c.ledger r f ok.fit;
    }
