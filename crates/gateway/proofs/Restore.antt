-- The contents of a core that keeps the invariant are restored, to what the view shows. Assumes nothing.
use Rattle.std.specs.Prelude.{Option, Some, None, is_some}
use Prim.Native.Nat.{ℕ, zero, suc, ◌+◌, ◌<◌, ◌≤◌}
use mathlib.Core.Bool.{true}
use mathlib.Core.Path.{◌≡◌, refl, ap, ap₂, sym, ◌∙◌, subst}
use mathlib.Core.List.{List, [], ◌∷◌, ◌++◌, map}
use lib.IntN.{ℤ, pos}
use lib.Signed.{le_z}
use native.Mathlib.Omega.{arith}
use borrow.Author.Tests.{le-leb, lt-ltb, ltb-true, ltb-false, eq-eqb, ne_eqb}
use lib.ListN.{length, get_or, get_or-eq_default}
use lib.Dec.{ltb}
use Rattle.accounts.specs.declared.Account.{Account}
use Rattle.accounts.specs.declared.Funds.{Funds}
use Rattle.accounts.specs.declared.Timing.{Timing}
use Rattle.gateway.specs.Basics.{each}
use Rattle.gateway.specs.Limits.{owner_slots, outside}
use Rattle.gateway.specs.Ledger.{Order, Ledger, holds_fit}
use Rattle.gateway.specs.Saved.{saved_from, slots, contents, opening}
use Rattle.gateway.specs.Core.{Tests, Pass, Flight, Core, drop_below}
use Rattle.gateway.specs.Calls.{Gateway}
use Rattle.gateway.specs.Start.{Started, started, start_unless, accounts_of, all_below, by_slot, funds_in, begin, restored_wallet, restored_wallets, restored_ledger, wallets_below, order_tests, saved_tests, restore_tests, hold_notice_of, empty_depth, restore_saved}
use Rattle.gateway.specs.Restart.{forget}
use Rattle.gateway.proofs.Base.{split}
use Rattle.gateway.proofs.View.{view}
use Rattle.gateway.proofs.Invariant.{All, Keyed, In}
use Rattle.gateway.specs.Invariant.{CoreOk, Owned, Runs}

-- ---- wallets: slots, saved and filled again

slots_skip : (n k m : ℕ) (ws : List (Option Funds)) → k < m → slots (suc n) k (saved_from m ws) ≡ None ∷ slots n (suc k) (saved_from m ws)
slots_skip n k m [] h = refl
slots_skip n k m (None ∷ ws) h = slots_skip n k (suc m) ws (omega arith)
slots_skip n k m (Some w ∷ ws) h = simp (ne_eqb m k (λ e. omega (arith, e)))

slots_saved : (k : ℕ) (ws : List (Option Funds)) → slots (length ws) k (saved_from k ws) ≡ ws
slots_saved k [] = refl
slots_saved k (None ∷ ws) = slots_skip (length ws) k (suc k) ws (omega arith) ∙ ap (λ t. None ∷ t) (slots_saved (suc k) ws)
slots_saved k (Some w ∷ ws) = simp (eq-eqb k k refl) (ap (λ t. Some w ∷ t) (slots_saved (suc k) ws))

pub refilled : (ws : List (Option Funds)) → length ws ≡ owner_slots → slots owner_slots 0 (saved_from 0 ws) ≡ ws
refilled ws e = subst (λ n. slots n 0 (saved_from 0 ws) ≡ ws) e (slots_saved 0 ws)

-- wallets are saved for accounts that have funds, below the limit
pub nothing_saved : (k : ℕ) (ws : List (Option Funds)) → Owned [] ws → saved_from k ws ≡ []
nothing_saved k [] h = refl
nothing_saved k (None ∷ ws) h = nothing_saved (suc k) ws (λ i. h (suc i))
nothing_saved k (Some w ∷ ws) h = absurd (let e = h 0 in let z : ◌≡◌ {A = ℕ} 0 1 = cc in omega (arith, z))

saved_below : (k limit : ℕ) (t : List (Option Account)) (ws : List (Option Funds)) → k + length t ≤ limit → Owned t ws → wallets_below limit (saved_from k ws) ≡ true
saved_below k limit [] ws l h = ap (wallets_below limit) (nothing_saved k ws h)
saved_below k limit (a ∷ t) [] l h = refl
saved_below k limit (a ∷ t) (None ∷ ws) l h = saved_below (suc k) limit t ws (omega arith) (λ i. h (suc i))
saved_below k limit (a ∷ t) (Some w ∷ ws) l h = rw (lt-ltb k limit (omega (arith, l))) (saved_below (suc k) limit t ws (omega arith) (λ i. h (suc i)))

-- the wallets by the accounts' funds, with the amounts of the bytes
pub by_slot_at : {A : Type 0} (f : Option Account → A) (d : A) (n : ℕ) (t : List (Option Account)) (i : ℕ) → i < n → get_or (by_slot f n t) i d ≡ f (get_or t i None)
by_slot_at f d zero t i h = absurd (omega (arith, h))
by_slot_at f d (suc n) [] zero h = refl
by_slot_at f d (suc n) [] (suc i) h = by_slot_at f d n [] i (omega arith)
by_slot_at f d (suc n) (a ∷ t) zero h = refl
by_slot_at f d (suc n) (a ∷ t) (suc i) h = by_slot_at f d n t i (omega arith)

pub by_slot_length : {A : Type 0} (f : Option Account → A) (n : ℕ) (t : List (Option Account)) → length (by_slot f n t) ≡ n
by_slot_length f zero t = refl
by_slot_length f (suc n) [] = ap suc (by_slot_length f n [])
by_slot_length f (suc n) (a ∷ t) = ap suc (by_slot_length f n t)

-- a slot of the funds' table is a wallet's where and only where the account has funds
pub by_slot_owned : (t : List (Option Account)) → length t ≤ owner_slots → Owned t (by_slot funds_in owner_slots t)
by_slot_owned t l i =
    split (λ b. (ltb i owner_slots ≡ b) → is_some (get_or (by_slot funds_in owner_slots t) i None) ≡ is_some (funds_in (get_or t i None))) (ltb i owner_slots)
    (λ _ e. ap is_some (by_slot_at funds_in None owner_slots t i (ltb-true i owner_slots e)))
    (λ _ e.
    ap is_some (get_or-eq_default (by_slot funds_in owner_slots t) None {n = i} (let q : owner_slots ≤ i = ltb-false i owner_slots e in omega (arith, by_slot_length funds_in owner_slots t)))
    ∙ ap (λ a. is_some (funds_in a)) (sym (get_or-eq_default t None {n = i} (let q : owner_slots ≤ i = ltb-false i owner_slots e in omega arith))))
    refl

same_wallet : (f w : Option Funds) → is_some w ≡ is_some f → restored_wallet f w ≡ w
same_wallet None None h = refl
same_wallet None (Some w) h = absurd (let z : ◌≡◌ {A = ℕ} 0 1 = cc in omega (arith, z))
same_wallet (Some f) None h = absurd (let z : ◌≡◌ {A = ℕ} 0 1 = cc in omega (arith, z))
same_wallet (Some f) (Some w) h = refl

same_wallets : (fs ws : List (Option Funds)) → length fs ≡ length ws → ((i : ℕ) → is_some (get_or ws i None) ≡ is_some (get_or fs i None)) → restored_wallets fs ws ≡ ws
same_wallets [] [] e h = refl
same_wallets [] (w ∷ ws) e h = absurd (omega (arith, e))
same_wallets (f ∷ fs) [] e h = absurd (omega (arith, e))
same_wallets (f ∷ fs) (w ∷ ws) e h = ap₂ (λ x t. x ∷ t) (same_wallet f w (h 0)) (same_wallets fs ws (omega arith) (λ i. h (suc i)))

pub restored_contents : (c : Core) → CoreOk c → restored_ledger c.ledger.fee c.accounts (contents c.ledger) ≡ c.ledger
unfolding contents
restored_contents c ok =
    ap (λ ws. record { last = c.ledger.last; wallets = ws; orders = c.ledger.orders; mark = c.ledger.mark; fee = c.ledger.fee })
    (ap (restored_wallets (by_slot funds_in owner_slots c.accounts)) (refilled c.ledger.wallets ok.slots)
    ∙ same_wallets (by_slot funds_in owner_slots c.accounts) c.ledger.wallets (by_slot_length funds_in owner_slots c.accounts ∙ sym ok.slots)
    (λ i. ok.owned i ∙ sym (by_slot_owned c.accounts ok.limit i)))

pub opening_contents : (c : Core) → CoreOk c → opening c.ledger.fee (contents c.ledger) ≡ c.ledger
unfolding opening contents
opening_contents c ok =
    ap (λ ws. record { last = c.ledger.last; wallets = ws; orders = c.ledger.orders; mark = c.ledger.mark; fee = c.ledger.fee }) (refilled c.ledger.wallets ok.slots)

-- ---- nothing is forgotten of orders up to the last number, and nothing up to it stays in flight

forget_none : (n limit : ℕ) (os : List Order) → All (Keyed (In n limit)) os → map (forget n) os ≡ os
forget_none n limit [] h = refl
forget_none n limit (o ∷ os) h = ap₂ (λ x t. x ∷ t) (simp (le-leb o.number n h.0.0)) (forget_none n limit os h.1)

below_none : (n : ℕ) (fs : List Flight) → Runs n fs → drop_below (suc n) fs ≡ []
below_none n [] h = refl
below_none n (f ∷ fs) h = simp (lt-ltb f.number (suc n) (omega (arith, h.0))) (below_none n fs h.1)

pub view_now : (c : Core) → CoreOk c → view c.ledger.last c ≡ record { ledger = c.ledger; flights = []; accounts = c.accounts }
view_now c ok = simp (forget_none c.ledger.last (length c.accounts) c.ledger.orders ok.inside, below_none c.ledger.last c.flights ok.runs)

-- ---- restoring

pub start_pass : (g : Gateway) (ts : Tests ℕ) → Pass ts → start_unless ts g ≡ started g
unfolding start_unless
start_pass g [] h = refl
start_pass g (t ∷ ts) h = rw h.0 (start_pass g ts h.1)

-- the accounts of the moment make the core's table, and the fee is the core's
pub record Accounts (fee : ℤ) (limit : ℕ) (l : List Account) (c : Core) : Type 0 where
  pub table : c.accounts ≡ accounts_of limit l
  pub below : all_below limit l ≡ true
  pub size : length c.accounts ≡ limit
  pub fee_is : c.ledger.fee ≡ fee
  pub fee_good : le_z (pos 0) fee ≡ true

order_pass : (limit last : ℕ) (os : List Order) → All (Keyed (In last limit)) os → Pass (order_tests limit last os)
order_pass limit last [] h = tt
order_pass limit last (o ∷ os) h = (le-leb o.number last h.0.0, (lt-ltb o.account limit h.0.1, order_pass limit last os h.1))

pass_both : {A : Type 0} (xs ys : Tests A) → Pass xs → Pass ys → Pass (xs ++ ys)
pass_both [] ys p q = q
pass_both (x ∷ xs) ys p q = (p.0, pass_both xs ys p.1 q)

restore_pass : (fee : ℤ) (limit : ℕ) (l : List Account) (c : Core) → CoreOk c → Accounts fee limit l c → Pass (restore_tests c.ledger.fee limit l (contents c.ledger))
unfolding contents
restore_pass fee limit l c ok t =
    pass_both (saved_tests limit l (contents c.ledger)) ((outside, holds_fit (restored_ledger c.ledger.fee (accounts_of limit l) (contents c.ledger))) ∷ []) (
      le-leb limit owner_slots (omega (arith, ok.limit, t.size)),
      (
        t.below,
        (
          saved_below 0 limit c.accounts c.ledger.wallets (omega (arith, t.size)) ok.owned,
          order_pass limit c.ledger.last c.ledger.orders (subst (λ m. All (Keyed (In c.ledger.last m)) c.ledger.orders) t.size ok.inside),
        ),
      ),
    )
    (ap holds_fit (ap (λ k. restored_ledger c.ledger.fee k (contents c.ledger)) (sym t.table) ∙ restored_contents c ok) ∙ ok.holds, tt)

-- the gateway that comes of restoring the core's contents
abbrev pub begun_from : Timing → Core → Gateway
begun_from timing c = begin timing c.ledger c.accounts empty_depth (each (hold_notice_of c.ledger.fee c.ledger.wallets) c.ledger.orders)

pub restores : (fee : ℤ) (limit : ℕ) (l : List Account) (timing : Timing) (c : Core) → CoreOk c → Accounts fee limit l c →
    restore_saved c.ledger.fee limit l timing (contents c.ledger) ≡ started (begun_from timing c)
unfolding restore_saved
restores fee limit l timing c ok t =
    start_pass _ (restore_tests c.ledger.fee limit l (contents c.ledger)) (restore_pass fee limit l c ok t)
    ∙ ap (λ k. from (restored_ledger c.ledger.fee k (contents c.ledger)) k) (sym t.table)
    ∙ ap (λ k. from k c.accounts) (restored_contents c ok)
  where
    from : Ledger → List (Option Account) → Started
    from k t = started (begin timing k t empty_depth (each (hold_notice_of k.fee k.wallets) k.orders))
