-- The checkpoint's bytes: little-endian rows of fields, written and read back.
use Rattle.std.specs.Prelude.{ℕ, zero, suc, ◌+◌, ◌*◌, ◌/◌, ◌%◌, Bool, true, cond, ◌&&◌, ◌||◌, List, [], ◌∷◌, ◌++◌, map, length, get_or, eqb, leb, Option, Some, None, ℤ}
use Rattle.std.specs.Int.{w64}
use Rattle.std.proofs.Common.{of_z, to_z}
use Rattle.orderbook.specs.declared.Side.{Side}
use Rattle.orderbook.specs.declared.Side.TheVariants.{Buy, Sell}
use Rattle.accounts.specs.declared.Funds.{Funds}
use Rattle.gateway.specs.Limits.{owner_slots, most_orders}
use Rattle.gateway.specs.Ledger.{Order}
use Rattle.gateway.specs.Saved.{Saved}

-- ---- writing

-- n bytes of v, the lowest first
abbrev pub number : ℕ → ℕ → List ℕ
number zero v = []
number (suc n) v = v % 256 ∷ number n (v / 256)

-- the bytes of a row: values in fields of these widths
abbrev pub row : List ℕ → List ℕ → List ℕ
row [] vs = []
row (w ∷ ws) [] = []
row (w ∷ ws) (v ∷ vs) = number w v ++ row ws vs

abbrev pub rows : List ℕ → List (List ℕ) → List ℕ
rows ws [] = []
rows ws (r ∷ rs) = row ws r ++ rows ws rs

-- rows after their 4-byte count
abbrev pub section : List ℕ → List (List ℕ) → List ℕ
section ws rs = number 4 (length rs) ++ rows ws rs

-- ---- reading: what was read, and the bytes behind it; none where bytes are missing

abbrev pub Read : Type 0 → Type 0
Read A = Option (A × List ℕ)

abbrev pub then : {A B : Type 0} → Read A → (A → List ℕ → Read B) → Read B
then None f = None
then (Some x) f = f x.0 x.1

abbrev pub read_number : ℕ → List ℕ → Read ℕ
read_number zero xs = Some (0, xs)
read_number (suc n) [] = None
read_number (suc n) (x ∷ xs) = then (read_number n xs) (λ v more. Some (x + 256 * v, more))

abbrev pub read_row : List ℕ → List ℕ → Read (List ℕ)
read_row [] xs = Some ([], xs)
read_row (w ∷ ws) xs = then (read_number w xs) (λ v more. then (read_row ws more) (λ vs end. Some (v ∷ vs, end)))

abbrev pub read_rows : List ℕ → ℕ → List ℕ → Read (List (List ℕ))
read_rows ws zero xs = Some ([], xs)
read_rows ws (suc n) xs = then (read_row ws xs) (λ r more. then (read_rows ws n more) (λ rs end. Some (r ∷ rs, end)))

abbrev pub read_section : List ℕ → List ℕ → Read (List (List ℕ))
read_section ws xs = then (read_number 4 xs) (read_rows ws)

-- ---- the layout

-- last number, flag, reference price; account, cash, seats; number, account, client reference, flags, price, leaves
abbrev pub head_widths : List ℕ
head_widths = 8 ∷ 1 ∷ 8 ∷ []

abbrev pub wallet_widths : List ℕ
wallet_widths = 4 ∷ 8 ∷ 8 ∷ []

abbrev pub order_widths : List ℕ
order_widths = 8 ∷ 4 ∷ 8 ∷ 1 ∷ 8 ∷ 8 ∷ []

-- the rows of the three parts, as numbers
pub record Raw : Type 0 where
  pub head : List ℕ
  pub wallets : List (List ℕ)
  pub orders : List (List ℕ)

abbrev pub write_raw : Raw → List ℕ
write_raw r = row head_widths r.head ++ (section wallet_widths r.wallets ++ section order_widths r.orders)

abbrev pub read_parts : List ℕ → Read Raw
read_parts xs =
    then (read_row head_widths xs) (λ h more. then (read_section wallet_widths more) (λ ws rest. then (read_section order_widths rest) (λ os end. Some (record { head = h; wallets = ws; orders = os }, end))))

-- extra bytes are refused
abbrev pub whole : {A : Type 0} → Read A → Option A
whole None = None
whole (Some (a, [])) = Some a
whole (Some (a, x ∷ end)) = None

abbrev pub read_raw : List ℕ → Option Raw
read_raw xs = whole (read_parts xs)

-- ---- values as fields

-- an absent price is 0
abbrev pub price_word : Option ℤ → ℕ
price_word None = 0
price_word (Some p) = of_z w64 p

abbrev pub price_flag : Option ℤ → ℕ
price_flag None = 0
price_flag (Some p) = 1

abbrev pub buy_flag : Side → ℕ
buy_flag Buy = 1
buy_flag Sell = 0

abbrev pub price_from : ℕ → ℕ → Option ℤ
price_from flag w = cond (eqb flag 1) (Some (to_z w64 w)) None

abbrev pub side_from : ℕ → Side
side_from flag = cond (eqb flag 1) Buy Sell

abbrev pub wallet_row : ℕ × Funds → List ℕ
wallet_row w = w.0 ∷ of_z w64 w.1.cash ∷ of_z w64 w.1.position ∷ []

-- order flags: bit 0 buy, bit 1 price present
abbrev pub order_row : Order → List ℕ
order_row o =
    o.number ∷ o.account ∷ o.client_ref ∷ (buy_flag o.side + 2 * price_flag o.price) ∷ price_word o.price ∷ o.leaves ∷ []

abbrev pub raw : Saved → Raw
raw s =
    record { head = s.last ∷ price_flag s.mark ∷ price_word s.mark ∷ []; wallets = map wallet_row s.wallets; orders = map order_row s.orders }

abbrev pub row_wallet : List ℕ → ℕ × Funds
row_wallet r = (get_or r 0 0, record { cash = to_z w64 (get_or r 1 0); position = to_z w64 (get_or r 2 0) })

abbrev pub row_order : List ℕ → Order
row_order r =
    record {
      number = get_or r 0 0;
      account = get_or r 1 0;
      client_ref = get_or r 2 0;
      side = side_from (get_or r 3 0 % 2);
      price = price_from (get_or r 3 0 / 2) (get_or r 4 0);
      leaves = get_or r 5 0;
    }

abbrev pub saved : Raw → Saved
saved r =
    record {
      last = get_or r.head 0 0;
      mark = price_from (get_or r.head 1 0) (get_or r.head 2 0);
      wallets = map row_wallet r.wallets;
      orders = map row_order r.orders;
    }

-- ---- what is well formed

-- no other bits, and an absent price is 0
abbrev pub price_ok : ℕ → ℕ → Bool
price_ok flag w = eqb flag 1 || (eqb flag 0 && eqb w 0)

abbrev pub flags_ok : List ℕ → Bool
flags_ok r = price_ok (get_or r 3 0 / 2) (get_or r 4 0)

-- keys rise from k on
abbrev pub keys_rise : ℕ → List (List ℕ) → Bool
keys_rise k [] = true
keys_rise k (r ∷ rs) = leb k (get_or r 0 0) && keys_rise (suc (get_or r 0 0)) rs

abbrev pub all_rows : (List ℕ → Bool) → List (List ℕ) → Bool
all_rows f [] = true
all_rows f (r ∷ rs) = f r && all_rows f rs

-- at most so many rows, with rising keys, each fine
abbrev pub table_ok : ℕ → (List ℕ → Bool) → List (List ℕ) → Bool
table_ok most fine rs = leb (length rs) most && (keys_rise 0 rs && all_rows fine rs)

unfoldable pub well_formed : Raw → Bool
well_formed r =
    price_ok (get_or r.head 1 0) (get_or r.head 2 0) && (table_ok owner_slots (λ r. true) r.wallets && table_ok most_orders flags_ok r.orders)

-- ---- the checkpoint

unfoldable pub encode : Saved → List ℕ
encode s = write_raw (raw s)

abbrev pub checked : Option Raw → Option Saved
checked None = None
checked (Some r) = cond (well_formed r) (Some (saved r)) None

-- refusal 11 is none here
unfoldable pub decode : List ℕ → Option Saved
decode xs = checked (read_raw xs)
