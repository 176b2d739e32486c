-- What an event does to a live order that it names: what the order held and holds, the tests, and the change with its notices.
use Rattle.std.specs.Prelude.{ℕ, ◌+◌, ◌≤◌, ◌<◌, ◌≡◌, Bool, true, false, cond, ◌&&◌, eqb, leb, ltb, ℤ, ◌+ℤ◌, ◌-ℤ◌, length, get_or, Option, Some, None, option_map, is_some}
use Rattle.orderbook.specs.declared.Side.{Side}
use Rattle.words.specs.Words.{int}
use Rattle.gateway.specs.Basics.{option}
use Rattle.gateway.specs.Limits.{owner_slots, most_notices}
use Rattle.gateway.specs.Ledger.{Order, Ledger, Change, fill, set_leaves, reprice, retire, find, wallet_of, paper, change, order_hold, same_side, held, fits}
use Rattle.gateway.specs.Deliver.{hold_after, change_notices}
use Rattle.gateway.specs.Entry.{is_zero}
use Rattle.gateway.specs.Calls.{Gateway}
use Rattle.store.specs.Cells as C
use Rattle.store.specs.View.{Row, Store, side, wallet}
use Rattle.orders.specs.declared.Live.{Live}
use Rattle.sound.specs.Sound.{held_cell}
use Rattle.live.specs.Live.{with_ledger, with_notices, hold_left, hold_repriced}
use Rattle.holds.specs.declared.Move.{Move}
use Rattle.holds.specs.declared.Move.TheVariants.{Fill, Leaves, Reprice, Retire}
use Rattle.holds.specs.declared.Shift.{Shift}

-- ---- the change

-- of the order n
abbrev pub change_of : ℕ → Move → Change
change_of n (Fill p q v) = fill n (int p) q v
change_of n (Leaves v) = set_leaves n v
change_of n (Reprice p v) = reprice n (int p) v
change_of n Retire = retire n

-- a change of the ledger, with its notices
abbrev pub moved : Change → Gateway → Gateway
moved x g = with_notices (change_notices x g.core.ledger) (with_ledger (change x) g)

-- ---- what is weighed

-- a part of what an account's orders of a side hold, before and after
pub record Part : Type 0 where
  pub account : ℕ
  pub side : Side
  pub old : ℤ
  pub new : ℤ

abbrev pub part_of : ℤ → Change → Order → Part
part_of fee x o = record { account = o.account; side = o.side; old = order_hold fee o; new = hold_after fee x o }

-- the live order n, where its account has a wallet
abbrev pub paper_order : ℕ → Ledger → Option Order
paper_order n l = option None (λ o. cond (is_some (wallet_of l.wallets o)) (Some o) None) (find n l.orders)

-- what a shift says of a wallet: nothing without one
abbrev pub part : Shift → Option Part
part s = cond s.funded (Some (record { account = s.account; side = side s.side; old = int s.old; new = int s.new })) None

-- its account has a row, and a wallet where it says so
pub record Owned (s : Shift) (l : Ledger) : Type 0 where
  pub inside : s.account < owner_slots
  pub has_wallet : s.funded ≡ true → is_some (get_or l.wallets s.account None) ≡ true

-- the order has v open, at the price p where b says so
abbrev pub leaving : Bool → ℕ → ℕ → Move
leaving true p v = Reprice p v
leaving false p v = Leaves v

-- w is what the live order n holds after x
abbrev pub NewHold : ℕ → Move → ℕ → Ledger → Type 0
NewHold n x w l = (o : Order) → find n l.orders ≡ Some o → int w ≡ hold_after l.fee (change_of n x) o

-- s is what x would do to the order n
pub record Weighs (n : ℕ) (x : Move) (s : Shift) (g : Gateway) : Type 0 where
  pub owned : Owned s g.core.ledger
  pub paper_is : paper n g.core.ledger ≡ s.funded
  pub noticed : length (change_notices (change_of n x) g.core.ledger) ≡ s.notices
  pub is : part s ≡ option_map (part_of g.core.ledger.fee (change_of n x)) (paper_order n g.core.ledger)
  pub holds : NewHold n x s.new g.core.ledger

-- what is known of every shift that was weighed
pub record Weighed (h : Shift) (l : Ledger) : Type 0 where
  pub owned : Owned h l
  pub few : h.notices ≤ 4

-- ---- the tests

-- code 7 for the total that s is a part of
abbrev pub shift_fits : Shift → Ledger → Bool
shift_fits s l = cond s.funded (fits (held l.fee s.account (side s.side) l.orders -ℤ int s.old +ℤ int s.new)) true

-- code 5 for its notices
abbrev pub few_notices : Shift → Gateway → Bool
few_notices h g = leb (h.notices + length g.rest.notices) most_notices

-- both are parts of one total
abbrev pub is_one : Shift → Shift → Bool
is_one s t = s.funded && (t.funded && (eqb s.account t.account && same_side (side s.side) (side t.side)))

-- code 7 for both: one total is judged once, as one sum
abbrev pub pair_fits : Shift → Shift → Ledger → Bool
pair_fits s t l =
    cond (is_one s t)
    (fits (held l.fee s.account (side s.side) l.orders -ℤ int s.old +ℤ int s.new -ℤ int t.old +ℤ int t.new))
    (shift_fits s l && shift_fits t l)

-- ---- in words

abbrev pub nothing : Shift
nothing = record { account = 0; side = 0; old = 0; new = 0; notices = 0; funded = false }

-- what the order of a row holds after x, at this fee
abbrev pub hold_after_word : ℕ → Move → Row → ℕ
hold_after_word fee (Fill p q v) r = hold_left fee v r
hold_after_word fee (Leaves v) r = hold_left fee v r
hold_after_word fee (Reprice p v) r = hold_repriced fee p v r
hold_after_word fee Retire r = 0

-- 1 where money moves
abbrev pub settles : Move → ℕ
settles (Fill p q v) = 1
settles (Leaves v) = 0
settles (Reprice p v) = 0
settles Retire = 0

-- k notices, and one more where the hold changes
abbrev pub notice_count : ℕ → ℕ → ℕ → ℕ
notice_count k old new = cond (is_zero (int new -ℤ int old)) k (k + 1)

-- o holds `new`, and money moves where k is 1
abbrev pub shift_of : ℕ → ℕ → Live → Store → Shift
shift_of k new o s =
    record {
      account = o.account;
      side = o.side;
      old = o.hold;
      new = new;
      notices = cond (is_some (wallet (s C.accounts o.account))) (notice_count k o.hold new) 0;
      funded = is_some (wallet (s C.accounts o.account));
    }

-- what s changes, and the total that it is a part of, are below 2^61
abbrev pub small : ℕ
small = 2305843009213693952

abbrev pub is_small : Shift → Store → Bool
is_small s c = ltb (c C.accounts s.account (held_cell (side s.side))) small && (ltb s.old small && ltb s.new small)
