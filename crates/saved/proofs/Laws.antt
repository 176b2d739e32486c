-- The laws of the readers, one for each way through them. Assumes nothing.
use Rattle.std.specs.Prelude.{Option, Some, None, is_some}
use mathlib.Core.Path.{◌≡◌, refl, sym, ap, ap₂, ◌∙◌}
use mathlib.Core.Bool.{Bool, true, false, cond, ◌&&◌, false≢true}
use mathlib.Core.List.{List, [], ◌∷◌, ◌++◌, map, append_assoc}
use Prim.Native.Nat.{ℕ, suc, ◌+◌, ◌*◌, ◌-◌, ◌/◌, ◌%◌, ◌≤◌, ◌<◌}
use native.Mathlib.Nat.{le_refl}
use native.Mathlib.Omega.{arith}
use borrow.Author.Tests.{leb-true, le-leb, lt-leb, eq-eqb, ne_eqb, not-true, not-false}
use lib.Dec.{eqb, leb}
use lib.ListN.{length, get_or, take, drop, length-append, length-drop}
use lib.Seq.{take_all, drop_at}
use mir.Syntax.{w64}
use mir.Val.{to_z}
use Rattle.words.specs.Words.{int}
use Rattle.le.specs.Le.{le}
use Rattle.le.specs.Row.{gets}
use Rattle.gateway.specs.Basics.{option}
use Rattle.gateway.specs.Limits.{owner_slots, most_orders}
use Rattle.gateway.specs.Fits.{Bytes}
use Rattle.gateway.specs.Ledger.{Order}
use Rattle.gateway.specs.Saved.{Saved}
use Rattle.gateway.specs.Bytes.{number, row, rows, section, head_widths, wallet_widths, order_widths, wallet_row, order_row, raw, encode, decode, price_from, side_from, row_wallet, row_order, price_ok, flags_ok, table_ok, well_formed}
use Rattle.gateway.proofs.Bytes.{encode_decode}
use Rattle.gateway.proofs.Rows.{rows_length}
use Rattle.store.specs.View.{flag, side, maybe_price}
use Rattle.orders.specs.declared.Live.{Live}
use Rattle.saved.specs.declared.Purse.{Purse}
use Rattle.saved.specs.declared.fields.Flags.{Flags}
use Rattle.saved.specs.Parts.{wallet_count, order_count, orders_start, sized, rows_at, raw_of, rows_fit}
use Rattle.saved.specs.Contents.{saved_of, wallet_at, order_at, wallet_of, Reads, order_section, Start}
use Rattle.saved.proofs.Offsets.{rows_count}
use Rattle.saved.proofs.Decoded.{whole_is, sized_long, is_sized, long, decoded, last_is, mark_is, wallets_count, orders_count, wallet_nth, order_nth, wallets_few, orders_few}

-- ---- fields

price_is : (n f w : ℕ) → flag n ≡ eqb f 1 → maybe_price n w ≡ price_from f w
unfolding int
price_is n f w e = ap (λ b. cond b (Some (to_z w64 w)) None) e

-- ---- rows

pub wallet_read : (xs : List ℕ) (at a c p : ℕ) → a ≡ le 4 xs at → c ≡ le 8 xs (at + 4) → p ≡ le 8 xs (at + 12) →
    wallet_of (record { account = a; cash = c; position = p }) ≡ row_wallet (gets wallet_widths xs at)
unfolding int
wallet_read xs at a c p h k l =
    let e : at + 12 ≡ at + 4 + 8 = omega arith in
    rw (h, k, l, e) refl

pub order_read : (xs : List ℕ) (at a r b p v s n : ℕ) (f : Flags) → a ≡ le 4 xs (at + 8) → r ≡ le 8 xs (at + 12) → b ≡ le 1 xs (at + 20) → f ≡ record { buy = b % 2; priced = b / 2 } → p ≡ le 8 xs (at + 21) →
    v ≡ le 8 xs (at + 29) → side s ≡ side_from f.buy → flag n ≡ eqb f.priced 1 →
    Reads (row_order (gets order_widths xs at)) (record { account = a; client_ref = r; side = s; priced = n; price = p; leaves = v; hold = 0 })
order_read xs at a r b p v s n f ea er eb ef ep ev es en =
    let e2 : at + 12 ≡ at + 8 + 4 = omega arith in
    let e3 : at + 20 ≡ at + 8 + 4 + 8 = omega arith in
    let e4 : at + 21 ≡ at + 8 + 4 + 8 + 1 = omega arith in
    let e5 : at + 29 ≡ at + 8 + 4 + 8 + 1 + 8 = omega arith in
    let fl : b ≡ le 1 xs (at + 8 + 4 + 8) = eb ∙ ap (le 1 xs) e3 in
    let z : side s ≡ side_from (le 1 xs (at + 8 + 4 + 8) % 2) = es ∙ ap (λ (x : Flags). side_from x.buy) ef ∙ ap (λ x. side_from (x % 2)) fl in
    let q : maybe_price n p ≡ price_from (le 1 xs (at + 8 + 4 + 8) / 2) (le 8 xs (at + 8 + 4 + 8 + 1)) =
    price_is n f.priced p en ∙ ap₂ price_from (ap (λ (x : Flags). x.priced) ef ∙ ap (λ x. x / 2) fl) (ep ∙ ap (le 8 xs) e4) in
    record {
      order_is = rw (z, q, ea, er, e2, ev, e5) refl;
      hold_is = refl;
    }

-- ---- tests

pub was_true : (b c : Bool) → b ≡ c → b ≡ true → c ≡ true
was_true b c e t = sym e ∙ t

-- the last number, the reference price and the first count are there
pub in_sized : (xs : List ℕ) (i : ℕ) → leb i 21 ≡ true → sized xs ≡ true → i ≤ length xs
in_sized xs i l e = omega (arith, leb-true i 21 l, sized_long xs e)

pub in_whole : (xs : List ℕ) (i : ℕ) → leb i 21 ≡ true → is_some (decode xs) ≡ true → i ≤ length xs
in_whole xs i l e = in_sized xs i l (is_sized xs e)

module _ (xs : List ℕ) where
  pub count_room : (w : ℕ) → sized xs ≡ true → w ≡ wallet_count xs → 21 + 20 * w + 4 ≤ length xs
  count_room w e h = omega (arith, sized_long xs e)

  pub count_told : (w r : ℕ) → w ≡ wallet_count xs → r ≡ le 4 xs (21 + 20 * w) → r ≡ order_count xs
  count_told w r h e = e ∙ ap (λ i. le 4 xs (21 + 20 * i)) h

  pub wallets_within : (w : ℕ) → sized xs ≡ true → w ≡ wallet_count xs → 21 + 20 * w ≤ length xs
  wallets_within w e h = omega (arith, sized_long xs e)

  pub orders_within : (n w : ℕ) → sized xs ≡ true → n ≡ order_count xs → w ≡ wallet_count xs → 25 + 20 * w + 37 * n ≤ length xs
  orders_within n w e h k = omega (arith, sized_long xs e)

  pub sized_short : length xs < 21 → false ≡ sized xs
  unfolding sized
  sized_short l = rw (lt-leb 21 (length xs) l) refl

  pub sized_middle : (w : ℕ) → 21 ≤ length xs → w ≡ wallet_count xs → length xs < 21 + 20 * w + 4 → false ≡ sized xs
  unfolding sized
  sized_middle w h e l = rw (le-leb 21 (length xs) h, lt-leb (25 + 20 * wallet_count xs) (length xs) (omega (arith, e))) refl

  pub sized_all : (w n : ℕ) → 21 ≤ length xs → w ≡ wallet_count xs → 21 + 20 * w + 4 ≤ length xs → n ≡ le 4 xs (21 + 20 * w) → eqb (length xs) (21 + 20 * w + 4 + 37 * n) ≡ sized xs
  unfolding sized
  sized_all w n h e l k =
      let m : n ≡ order_count xs = k ∙ ap (λ i. le 4 xs (21 + 20 * i)) e in
      let s : 21 + 20 * w + 4 + 37 * n ≡ 25 + 20 * wallet_count xs + 37 * order_count xs = omega arith in
      rw (le-leb 21 (length xs) h, le-leb (25 + 20 * wallet_count xs) (length xs) (omega arith), s) refl

  pub head_is : (f p : ℕ) (b : Bool) → f ≡ le 1 xs 8 → p ≡ le 8 xs 9 → b ≡ price_ok f p → b ≡ price_ok (le 1 xs 8) (le 8 xs 9)
  head_is f p b h k e = e ∙ ap₂ price_ok h k

  -- tables

  module _ (w : ℕ) (w_is : w ≡ wallet_count xs) where
    pub wallets_many : owner_slots < w → false ≡ table_ok owner_slots (λ x. true) (raw_of xs).wallets
    wallets_many l = rw (lt-leb (length (raw_of xs).wallets) owner_slots (omega (arith, rows_count xs wallet_widths 21 (wallet_count xs)))) refl

    pub wallets_fine : (b : Bool) → w ≤ owner_slots → b ≡ rows_fit (λ x. true) (rows_at wallet_widths xs 21 w) → b ≡ table_ok owner_slots (λ x. true) (raw_of xs).wallets
    wallets_fine b l e =
        rw (le-leb (length (raw_of xs).wallets) owner_slots (omega (arith, rows_count xs wallet_widths 21 (wallet_count xs))))
        (e ∙ ap (λ i. rows_fit (λ x. true) (rows_at wallet_widths xs 21 i)) w_is)

  module _ (n : ℕ) (n_is : n ≡ order_count xs) where
    pub orders_many : most_orders < n → false ≡ table_ok most_orders flags_ok (raw_of xs).orders
    orders_many l = rw (lt-leb (length (raw_of xs).orders) most_orders (omega (arith, rows_count xs order_widths (orders_start xs) (order_count xs)))) refl

    pub orders_fine : (w : ℕ) (b : Bool) → n ≤ most_orders → w ≡ wallet_count xs → b ≡ rows_fit flags_ok (rows_at order_widths xs (25 + 20 * w) n) → b ≡ table_ok most_orders flags_ok (raw_of xs).orders
    orders_fine w b l h e =
        rw (le-leb (length (raw_of xs).orders) most_orders (omega (arith, rows_count xs order_widths (orders_start xs) (order_count xs))))
        (e ∙ ap₂ (λ (i k : ℕ). rows_fit flags_ok (rows_at order_widths xs (25 + 20 * i) k)) h n_is)

  -- ---- the whole

  module _ (s : Bool) (s_is : s ≡ sized xs) where
    pub not_sized : s ≡ false → false ≡ is_some (decode xs)
    not_sized q = sym (whole_is xs ∙ ap (λ (x : Bool). x && well_formed (raw_of xs)) (sym s_is ∙ q))

    module _ (q : s ≡ true) (h : Bool) (h_is : h ≡ price_ok (le 1 xs 8) (le 8 xs 9)) where
      formed : is_some (decode xs) ≡ h && (table_ok owner_slots (λ x. true) (raw_of xs).wallets && table_ok most_orders flags_ok (raw_of xs).orders)
      unfolding well_formed
      formed =
          whole_is xs ∙ ap (λ (x : Bool). x && well_formed (raw_of xs)) (sym s_is ∙ q)
          ∙ ap (λ (x : Bool). x && (table_ok owner_slots (λ x. true) (raw_of xs).wallets && table_ok most_orders flags_ok (raw_of xs).orders)) (sym h_is)

      pub bad_head : h ≡ false → false ≡ is_some (decode xs)
      bad_head t = sym (formed ∙ ap (λ (x : Bool). x && (table_ok owner_slots (λ x. true) (raw_of xs).wallets && table_ok most_orders flags_ok (raw_of xs).orders)) t)

      module _ (t : h ≡ true) (u : Bool) (u_is : u ≡ table_ok owner_slots (λ x. true) (raw_of xs).wallets) where
        tabled : is_some (decode xs) ≡ u && table_ok most_orders flags_ok (raw_of xs).orders
        tabled =
            formed ∙ ap (λ (x : Bool). x && (table_ok owner_slots (λ x. true) (raw_of xs).wallets && table_ok most_orders flags_ok (raw_of xs).orders)) t
            ∙ ap (λ (x : Bool). x && table_ok most_orders flags_ok (raw_of xs).orders) (sym u_is)

        pub bad_wallets : u ≡ false → false ≡ is_some (decode xs)
        bad_wallets v = sym (tabled ∙ ap (λ (x : Bool). x && table_ok most_orders flags_ok (raw_of xs).orders) v)

        pub by_orders : (b : Bool) → u ≡ true → b ≡ table_ok most_orders flags_ok (raw_of xs).orders → b ≡ is_some (decode xs)
        by_orders b v e = e ∙ sym (tabled ∙ ap (λ (x : Bool). x && table_ok most_orders flags_ok (raw_of xs).orders) v)

  -- ---- readers

  module _ (d : is_some (decode xs) ≡ true) where
    pub last_told : (r : ℕ) → r ≡ le 8 xs 0 → r ≡ (saved_of xs).last
    last_told r e = e ∙ sym (last_is xs d)

    pub mark_told : (f n p : ℕ) → f ≡ le 1 xs 8 → flag n ≡ eqb f 1 → p ≡ le 8 xs 9 → maybe_price n p ≡ (saved_of xs).mark
    mark_told f n p h k e = price_is n f p k ∙ ap₂ price_from h e ∙ sym (mark_is xs d)

    pub wallets_told : (r : ℕ) → r ≡ wallet_count xs → r ≡ length (saved_of xs).wallets
    wallets_told r e = e ∙ sym (wallets_count xs d)

    pub wallets_small : (r : ℕ) → r ≡ wallet_count xs → r ≤ owner_slots
    wallets_small r e = omega (arith, wallets_few xs d)

    pub orders_told : (r : ℕ) → r ≡ order_count xs → r ≡ length (saved_of xs).orders
    orders_told r e = e ∙ sym (orders_count xs d)

    pub orders_small : (r : ℕ) → r ≡ order_count xs → r ≤ most_orders
    orders_small r e = omega (arith, orders_few xs d)

    pub start_told : (w : ℕ) → w ≡ wallet_count xs → 25 + 20 * w ≡ orders_start xs
    start_told w e = ap (λ i. 25 + 20 * i) e

    pub start_within : (w : ℕ) → w ≡ wallet_count xs → 25 + 20 * w ≤ length xs
    start_within w e = omega (arith, long xs d)

    pub wallet_told : (j : ℕ) (r : Purse) → j < length (saved_of xs).wallets → wallet_of r ≡ row_wallet (gets wallet_widths xs (21 + 20 * j)) → wallet_of r ≡ wallet_at xs j
    wallet_told j r l e = e ∙ sym (wallet_nth xs d j l)

    pub order_room : (j from : ℕ) → j < length (saved_of xs).orders → from ≡ orders_start xs → from + 37 * j + 37 ≤ length xs
    order_room j from l e = omega (arith, long xs d, orders_count xs d)

    module _ (j at : ℕ) (l : j < length (saved_of xs).orders) (at_is : at ≡ orders_start xs + 37 * j) where
      order_is : order_at xs j ≡ row_order (gets order_widths xs at)
      order_is = order_nth xs d j l ∙ ap (λ i. row_order (gets order_widths xs i)) (sym at_is)

      pub number_told : (r : ℕ) → r ≡ le 8 xs at → r ≡ (order_at xs j).number
      number_told r e = e ∙ sym (ap (λ (o : Order). o.number) order_is)

      pub order_told : (r : Live) → Reads (row_order (gets order_widths xs at)) r → Reads (order_at xs j) r
      order_told r e = rw order_is e

    pub wallet_room : (j : ℕ) → j < length (saved_of xs).wallets → 21 + 20 * j + 20 ≤ length xs
    wallet_room j l = omega (arith, long xs d, wallets_count xs d)

-- ---- the order section

pub section_told : (xs : List ℕ) (r : ℕ) → Start xs r → take (length xs - r) (drop r xs) ≡ order_section xs
section_told xs r s = take_all (length xs - r) (drop r xs) (rw length-drop (le_refl _)) ∙ s.is

-- the bytes of a slice, as the definitions have them
pub all_bytes : (xs : List ℕ) → ((i : ℕ) → get_or xs i 0 < 256) → Bytes xs
all_bytes [] f = tt
all_bytes (x ∷ xs) f = (f 0, all_bytes xs (λ i. f (suc i)))

module _ (s : Saved) where
  -- what stands before the rows of the orders
  before : List ℕ
  before = row head_widths (raw s).head ++ (section wallet_widths (raw s).wallets ++ number 4 (length (raw s).orders))

  encode_apart : encode s ≡ before ++ rows order_widths (map order_row s.orders)
  unfolding encode before
  encode_apart = simp append_assoc

  before_length : length before ≡ 25 + 20 * length s.wallets
  unfolding before
  before_length =
      let w = rows_length wallet_widths wallet_row 20 (λ w. refl) s.wallets in
      omega (arith, w, length-append (section wallet_widths (raw s).wallets) (number 4 (length (raw s).orders)))

pub started : (xs : List ℕ) → ((i : ℕ) → get_or xs i 0 < 256) → is_some (decode xs) ≡ true → (r : ℕ) → r ≡ orders_start xs → r ≤ length xs → Start xs r
unfolding order_section
started xs f e r d h =
    let s = saved_of xs in
    let is : encode s ≡ xs = encode_decode xs s (all_bytes xs f) (decoded xs e) in
    let at : length (before s) ≡ r = omega (arith, before_length s, wallets_count xs e) in
    record {
      is = ap (drop r) (sym is ∙ encode_apart s) ∙ drop_at (before s) (rows order_widths (map order_row s.orders)) r at ∙ sym (ap (option [] (λ (s : Saved). rows order_widths (map order_row s.orders))) (decoded xs e));
      within = h;
    }

pub none_there : (xs : List ℕ) (b : Bool) → b ≡ is_some (decode xs) → b ≡ false → [] ≡ order_section xs
unfolding order_section
none_there xs b e t = go (decode xs) (sym e ∙ t)
  where
    go : (o : Option Saved) → is_some o ≡ false → [] ≡ option [] (λ (s : Saved). rows order_widths (map order_row s.orders)) o
    go None q = refl
    go (Some s) q = absurd (false≢true (sym q))

pub ruleset laws = (wallet_read, order_read, in_sized, in_whole, count_room, count_told, wallets_within, orders_within, sized_short, sized_middle, sized_all, head_is, wallets_many, wallets_fine, orders_many, orders_fine, not_sized, bad_head, bad_wallets, by_orders, last_told, mark_told, wallets_told, wallets_small, orders_told, orders_small, start_told, start_within, wallet_room, wallet_told, order_room, number_told, order_told, none_there, section_told, was_true, is_sized, not-true, not-false, arith)
