-- Set-up and restore: the two ways in which a list of calls begins.
use Rattle.std.specs.Prelude.{ℕ, zero, suc, Bool, true, cond, not, ◌&&◌, List, [], ◌∷◌, ◌++◌, ℤ, pos, length, set, replicate, eqb, ltb, leb, Option, Some, None, option_map, unwrap_or, is_some}
use Rattle.std.specs.Int.Signed.{le_z}
use Rattle.orderbook.specs.declared.Listed.{Listed}
use Rattle.accounts.specs.declared.Account.{Account}
use Rattle.accounts.specs.declared.Funds.{Funds}
use Rattle.accounts.specs.declared.Timing.{Timing}
use Rattle.gateway.specs.Basics.{option, each}
use Rattle.gateway.specs.Limits.{owner_slots, session_slots, most_orders, out_of_range, foreign, full, outside, inconsistent, malformed, bad_fee}
use Rattle.risk.specs.declared.Bucket.{Bucket}
use Rattle.risk.specs.Throttle as Throttle
use Rattle.gateway.specs.Ledger.{Order, Ledger, order_hold, wallet_of, holds_fit}
use Rattle.gateway.specs.Core.{Tests}
use Rattle.gateway.specs.Depth.{Depth, levels_fit, levels_few}
use Rattle.gateway.specs.Entry.{is_zero}
use Rattle.gateway.specs.Calls.{Gateway}
use Rattle.gateway.specs.Listing.{listed_number, listed_owner, listed_orders, listed_depth, listed_times}
use Rattle.gateway.specs.Saved.{Saved, slots}
use Rattle.gateway.specs.Bytes.{decode}

pub data Started : Type 0 where
  not_started : ℕ → Started
  started : Gateway → Started

unfoldable pub start_unless : Tests ℕ → Gateway → Started
start_unless [] g = started g
start_unless (t ∷ ts) g = cond t.1 (start_unless ts g) (not_started t.0)

-- the fee is judged before all else (02, order 7)
unfoldable pub charging : ℤ → Started → Started
charging fee s = cond (le_z (pos 0) fee) s (not_started bad_fee)

-- ---- accounts

-- a repeated account: the last entry wins
abbrev pub entered : List (Option Account) → List Account → List (Option Account)
entered t [] = t
entered t (a ∷ l) = entered (set t a.id (Some a)) l

abbrev pub accounts_of : ℕ → List Account → List (Option Account)
accounts_of limit l = entered (replicate limit None) l

abbrev pub all_below : ℕ → List Account → Bool
all_below n [] = true
all_below n (a ∷ l) = ltb a.id n && all_below n l

abbrev pub bucket_of : Option Account → Bucket
bucket_of a = Throttle.full (option 0 (λ x. x.messages_per_second) a)

-- n slots, as many as there are accounts filled from them and the rest from nobody
abbrev pub by_slot : {A : Type 0} → (Option Account → A) → ℕ → List (Option Account) → List A
by_slot f zero t = []
by_slot f (suc n) [] = f None ∷ by_slot f n []
by_slot f (suc n) (a ∷ t) = f a ∷ by_slot f n t

abbrev pub funds_in : Option Account → Option Funds
funds_in a = option None (λ x. x.funds) a

-- ---- the gateway that begins

-- no session, nothing in flight, nothing waiting; the clock reads 0
abbrev pub begin : Timing → Ledger → List (Option Account) → Depth → List ℕ → Gateway
begin timing l t d notices =
    record {
      core = record { ledger = l; flights = []; accounts = t };
      rest = record { timing = timing; clock = 0; sessions = replicate session_slots None; buckets = by_slot bucket_of owner_slots t; batch = []; delivered = l.last; published = l.last; depth = d; trades = []; notices = notices; collar = None };
    }

-- ---- set-up

-- by ascending number: above the last number, its owner, listed twice
abbrev pub owners_of : ℕ → ℕ → List Listed → Bool
owners_of limit n [] = true
owners_of limit n (x ∷ xs) = cond (eqb (listed_number x) n) (ltb (listed_owner x) limit) true && owners_of limit n xs

abbrev pub listed_tests : ℕ → ℕ → List Listed → List Order → Tests ℕ
listed_tests limit last xs [] = []
listed_tests limit last xs (o ∷ os) =
    (foreign, leb o.number last)
    ∷ (out_of_range, owners_of limit o.number xs)
    ∷ (inconsistent, eqb (listed_times o.number xs) 1)
    ∷ listed_tests limit last xs os

abbrev pub listed_ledger : ℤ → ℕ → ℕ → List Account → List Listed → Ledger
listed_ledger fee limit last l xs =
    record { last = last; wallets = by_slot funds_in owner_slots (accounts_of limit l); orders = listed_orders xs; mark = None; fee = fee }

abbrev pub entry_tests : ℕ → ℕ → List Account → List Listed → Tests ℕ
entry_tests limit last l xs =
    (full, leb limit owner_slots)
    ∷ (full, leb (length xs) most_orders)
    ∷ (out_of_range, all_below limit l)
    ∷ listed_tests limit last xs (listed_orders xs)

abbrev pub total_tests : ℤ → ℕ → ℕ → List Account → List Listed → Tests ℕ
total_tests fee limit last l xs =
    (full, levels_few (listed_depth xs).resting)
    ∷ (outside, holds_fit (listed_ledger fee limit last l xs))
    ∷ (outside, levels_fit (listed_depth xs).resting)
    ∷ []

abbrev pub set_up_tests : ℤ → ℕ → ℕ → List Account → List Listed → Tests ℕ
set_up_tests fee limit last l xs = entry_tests limit last l xs ++ total_tests fee limit last l xs

unfoldable pub set_up : ℤ → ℕ → ℕ → List Account → List Listed → Timing → Started
set_up fee limit last l xs timing =
    charging fee (start_unless (set_up_tests fee limit last l xs) (begin timing (listed_ledger fee limit last l xs) (accounts_of limit l) (listed_depth xs) []))

-- ---- restore

-- cash and seats are those of the bytes where the account has a wallet by its funds
abbrev pub restored_wallet : Option Funds → Option Funds → Option Funds
restored_wallet f w = option_map (unwrap_or w) f

abbrev pub restored_wallets : List (Option Funds) → List (Option Funds) → List (Option Funds)
restored_wallets [] ws = []
restored_wallets (f ∷ fs) [] = f ∷ restored_wallets fs []
restored_wallets (f ∷ fs) (w ∷ ws) = restored_wallet f w ∷ restored_wallets fs ws

abbrev pub restored_ledger : ℤ → List (Option Account) → Saved → Ledger
restored_ledger fee t s =
    record { last = s.last; wallets = restored_wallets (by_slot funds_in owner_slots t) (slots owner_slots 0 s.wallets); orders = s.orders; mark = s.mark; fee = fee }

abbrev pub wallets_below : ℕ → List (ℕ × Funds) → Bool
wallets_below n [] = true
wallets_below n (w ∷ ws) = ltb w.0 n && wallets_below n ws

abbrev pub order_tests : ℕ → ℕ → List Order → Tests ℕ
order_tests limit last [] = []
order_tests limit last (o ∷ os) = (foreign, leb o.number last) ∷ (out_of_range, ltb o.account limit) ∷ order_tests limit last os

abbrev pub saved_tests : ℕ → List Account → Saved → Tests ℕ
saved_tests limit l s =
    (full, leb limit owner_slots)
    ∷ (out_of_range, all_below limit l)
    ∷ (out_of_range, wallets_below limit s.wallets)
    ∷ order_tests limit s.last s.orders

abbrev pub restore_tests : ℤ → ℕ → List Account → Saved → Tests ℕ
restore_tests fee limit l s = saved_tests limit l s ++ ((outside, holds_fit (restored_ledger fee (accounts_of limit l) s)) ∷ [])

-- one notice for each order whose hold is not 0, ascending by number
abbrev pub hold_notice_of : ℤ → List (Option Funds) → Order → List ℕ
hold_notice_of fee ws o = cond (is_some (wallet_of ws o) && not (is_zero (order_hold fee o))) (o.account ∷ []) []

abbrev pub empty_depth : Depth
empty_depth = record { resting = []; changed = [] }

unfoldable pub restore_saved : ℤ → ℕ → List Account → Timing → Saved → Started
restore_saved fee limit l timing s =
    let led = restored_ledger fee (accounts_of limit l) s in
    start_unless (restore_tests fee limit l s) (begin timing led (accounts_of limit l) empty_depth (each (hold_notice_of fee led.wallets) led.orders))

unfoldable pub restore : ℤ → ℕ → List Account → Timing → List ℕ → Started
restore fee limit l timing xs = charging fee (option (not_started malformed) (restore_saved fee limit l timing) (decode xs))
