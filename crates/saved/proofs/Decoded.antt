-- A checkpoint's bytes by their places are what `decode` reads. Assumes nothing.
use Rattle.std.specs.Prelude.{Option, Some, None, is_some}
use mathlib.Core.Path.{◌≡◌, refl, sym, ap, ◌∙◌}
use mathlib.Core.Bool.{Bool, true, false, cond, ◌&&◌, and-eq-true_iff, false≢true}
use mathlib.Core.Logic.{⊎_elim}
use mathlib.Core.List.{List, [], ◌∷◌}
use Prim.Native.Nat.{ℕ, ◌+◌, ◌*◌, ◌≤◌, ◌<◌}
use native.Mathlib.Omega.{arith}
use borrow.Author.Tests.{leb-true, leb-false, eqb-true, eqb-false}
use lib.Dec.{eqb, leb}
use lib.ListN.{length, get_or, drop, length-map, length-drop, drop_of_length-le, get_or-map}
use Rattle.le.specs.Le.{le}
use Rattle.le.proofs.Laws.{lt_or_le}
use Rattle.gateway.specs.Basics.{option}
use Rattle.gateway.specs.Limits.{owner_slots, most_orders}
use Rattle.gateway.specs.Saved.{Saved}
use Rattle.gateway.specs.Bytes.{Raw, Read, then, read_rows, read_section, read_parts, whole, read_raw, head_widths, wallet_widths, order_widths, row_wallet, row_order, saved, price_ok, flags_ok, table_ok, well_formed, checked, decode}
use Rattle.saved.specs.Parts.{wallet_count, order_count, orders_start, sized, row_at, raw_of}
use Rattle.saved.specs.Contents.{nothing, saved_of, no_wallet, wallet_at, no_order, order_at}
use Rattle.saved.proofs.Offsets.{number_read, number_short, row_read, row_short, rows_read, rows_short, rows_count, rows_nth}

module _ (xs : List ℕ) where
  abbrev w : ℕ
  w = wallet_count xs

  abbrev n : ℕ
  n = order_count xs

  -- where the orders' count starts
  abbrev mid : ℕ
  mid = 21 + 20 * w

  -- ---- part by part

  abbrev with_orders : List ℕ → List (List ℕ) → List ℕ → Read Raw
  with_orders h ws rest = then (read_section order_widths rest) (λ os end. Some (record { head = h; wallets = ws; orders = os }, end))

  abbrev with_wallets : List ℕ → List ℕ → Read Raw
  with_wallets h more = then (read_section wallet_widths more) (with_orders h)

  abbrev head : List ℕ
  head = (raw_of xs).head

  head_short : length xs < 17 → read_parts xs ≡ None
  head_short l = ap (λ r. then r with_wallets) (row_short xs head_widths 0 (omega arith) (omega arith))

  head_read : 17 ≤ length xs → read_parts xs ≡ with_wallets head (drop 17 xs)
  head_read h = ap (λ r. then r with_wallets) (row_read xs head_widths 0 h)

  count_short : 17 ≤ length xs → length xs < 21 → with_wallets head (drop 17 xs) ≡ None
  count_short h l = ap (λ r. then (then r (read_rows wallet_widths)) (with_orders head)) (number_short xs 4 17 h l)

  count_read : 21 ≤ length xs → with_wallets head (drop 17 xs) ≡ then (read_rows wallet_widths w (drop 21 xs)) (with_orders head)
  count_read h = ap (λ r. then (then r (read_rows wallet_widths)) (with_orders head)) (number_read xs 4 17 h)

  wallets_short : 21 ≤ length xs → length xs < mid → then (read_rows wallet_widths w (drop 21 xs)) (with_orders head) ≡ None
  wallets_short h l = ap (λ r. then r (with_orders head)) (rows_short xs wallet_widths w 21 h l)

  abbrev ws : List (List ℕ)
  ws = (raw_of xs).wallets

  wallets_read : mid ≤ length xs → then (read_rows wallet_widths w (drop 21 xs)) (with_orders head) ≡ with_orders head ws (drop mid xs)
  wallets_read h = ap (λ r. then r (with_orders head)) (rows_read xs wallet_widths w 21 h)

  abbrev with_rows : Read (List (List ℕ)) → Read Raw
  with_rows r = then r (λ os end. Some (record { head = head; wallets = ws; orders = os }, end))

  order_count_short : mid ≤ length xs → length xs < mid + 4 → with_orders head ws (drop mid xs) ≡ None
  order_count_short h l = ap (λ r. with_rows (then r (read_rows order_widths))) (number_short xs 4 mid h l)

  order_count_read : mid + 4 ≤ length xs → with_orders head ws (drop mid xs) ≡ with_rows (read_rows order_widths n (drop (orders_start xs) xs))
  order_count_read h =
      let e : mid + 4 ≡ orders_start xs = omega arith in
      ap (λ r. with_rows (then r (read_rows order_widths))) (number_read xs 4 mid h) ∙ ap (λ k. with_rows (read_rows order_widths n (drop k xs))) e

  abbrev all : ℕ
  all = 25 + 20 * w + 37 * n

  orders_short : orders_start xs ≤ length xs → length xs < all → with_rows (read_rows order_widths n (drop (orders_start xs) xs)) ≡ None
  orders_short h l = ap with_rows (rows_short xs order_widths n (orders_start xs) h l)

  orders_read : all ≤ length xs → with_rows (read_rows order_widths n (drop (orders_start xs) xs)) ≡ Some (raw_of xs, drop all xs)
  orders_read h = ap with_rows (rows_read xs order_widths n (orders_start xs) h)

  -- ---- together

  to_count : 21 ≤ length xs → read_parts xs ≡ then (read_rows wallet_widths w (drop 21 xs)) (with_orders head)
  to_count h = head_read (omega arith) ∙ count_read h

  to_orders : 25 + 20 * w ≤ length xs → read_parts xs ≡ with_rows (read_rows order_widths n (drop (orders_start xs) xs))
  to_orders h = to_count (omega arith) ∙ wallets_read (omega arith) ∙ order_count_read (omega arith)

  behind : (ys : List ℕ) → 0 < length ys → whole (Some (raw_of xs, ys)) ≡ None
  behind [] l = absurd (omega arith)
  behind (y ∷ ys) l = refl

  raw_short : length xs < 21 → read_raw xs ≡ None
  raw_short l =
      ap whole
      (⊎_elim (λ (k : length xs < 17). head_short k) (λ k. head_read k ∙ count_short k l) (lt_or_le (length xs) 17))

  raw_middle : 21 ≤ length xs → length xs < 25 + 20 * w → read_raw xs ≡ None
  raw_middle h l =
      ap whole
      (to_count h
      ∙ ⊎_elim (λ (k : length xs < mid). wallets_short h k) (λ k. wallets_read k ∙ order_count_short k (omega arith)) (lt_or_le (length xs) mid))

  raw_other : 25 + 20 * w ≤ length xs → (length xs ≡ all → ⊥) → read_raw xs ≡ None
  raw_other h e =
      ⊎_elim (λ (k : length xs < all). ap whole (to_orders h ∙ orders_short h k))
      (λ k. ap whole (to_orders h ∙ orders_read k) ∙ behind (drop all xs) (more k))
      (lt_or_le (length xs) all)
    where
      more : all ≤ length xs → 0 < length (drop all xs)
      more k = ⊎_elim (λ (j : all < length xs). omega (arith, length-drop all xs)) (λ j. absurd (e (omega arith))) (lt_or_le all (length xs))

  raw_read : 25 + 20 * w ≤ length xs → length xs ≡ all → read_raw xs ≡ Some (raw_of xs)
  raw_read h e =
      ap whole (to_orders h ∙ orders_read (omega arith)) ∙ ap (λ ys. whole (Some (raw_of xs, ys))) (drop_of_length-le xs {i = all} (omega arith))

  raw_is : read_raw xs ≡ cond (sized xs) (Some (raw_of xs)) None
  unfolding sized
  raw_is = one (leb 21 (length xs)) refl
    where
      three : 25 + 20 * w ≤ length xs → (b : Bool) → eqb (length xs) all ≡ b → read_raw xs ≡ cond b (Some (raw_of xs)) None
      three h true e = raw_read h (eqb-true (length xs) all e)
      three h false e = raw_other h (eqb-false (length xs) all e)

      two : 21 ≤ length xs → (b : Bool) → leb (25 + 20 * w) (length xs) ≡ b → read_raw xs ≡ cond (b && eqb (length xs) all) (Some (raw_of xs)) None
      two h true e = three (leb-true (25 + 20 * w) (length xs) e) (eqb (length xs) all) refl
      two h false e = raw_middle h (leb-false (25 + 20 * w) (length xs) e)

      one : (b : Bool) → leb 21 (length xs) ≡ b → read_raw xs ≡ cond (b && (leb (25 + 20 * w) (length xs) && eqb (length xs) all)) (Some (raw_of xs)) None
      one true e = two (leb-true 21 (length xs) e) (leb (25 + 20 * w) (length xs)) refl
      one false e = raw_short (leb-false 21 (length xs) e)

  decode_is : decode xs ≡ cond (sized xs && well_formed (raw_of xs)) (Some (saved (raw_of xs))) None
  unfolding decode
  decode_is = ap checked raw_is ∙ go (sized xs)
    where
      go : (b : Bool) → checked (cond b (Some (raw_of xs)) None) ≡ cond (b && well_formed (raw_of xs)) (Some (saved (raw_of xs))) None
      go true = refl
      go false = refl

  some_is : (b : Bool) (s : Saved) → is_some (cond b (Some s) None) ≡ b
  some_is true s = refl
  some_is false s = refl

  pub whole_is : is_some (decode xs) ≡ sized xs && well_formed (raw_of xs)
  whole_is = ap is_some decode_is ∙ some_is (sized xs && well_formed (raw_of xs)) (saved (raw_of xs))

  -- ---- bytes that are well formed

  pub sized_long : sized xs ≡ true → length xs ≡ 25 + 20 * wallet_count xs + 37 * order_count xs
  unfolding sized
  sized_long e =
      let a = ((and-eq-true_iff (leb 21 (length xs)) (leb (25 + 20 * w) (length xs) && eqb (length xs) all)).0 e).1 in
      eqb-true (length xs) all ((and-eq-true_iff (leb (25 + 20 * w) (length xs)) (eqb (length xs) all)).0 a).1

  module _ (e : is_some (decode xs) ≡ true) where
    both : (sized xs ≡ true) × (well_formed (raw_of xs) ≡ true)
    both = (and-eq-true_iff (sized xs) (well_formed (raw_of xs))).0 (sym whole_is ∙ e)

    pub is_sized : sized xs ≡ true
    is_sized = both.0

    pub long : length xs ≡ 25 + 20 * wallet_count xs + 37 * order_count xs
    long = sized_long both.0

    saved_is : saved_of xs ≡ saved (raw_of xs)
    unfolding saved_of
    saved_is = ap (option nothing (λ s. s)) (decode_is ∙ ap (λ b. cond b (Some (saved (raw_of xs))) None) (sym whole_is ∙ e))

    pub decoded : decode xs ≡ Some (saved_of xs)
    unfolding saved_of
    decoded = go (decode xs) e
      where
        go : (o : Option Saved) → is_some o ≡ true → o ≡ Some (option nothing (λ s. s) o)
        go None q = absurd (false≢true q)
        go (Some s) q = refl

    pub last_is : (saved_of xs).last ≡ le 8 xs 0
    last_is = ap (λ (s : Saved). s.last) saved_is

    pub mark_is : (saved_of xs).mark ≡ (saved (raw_of xs)).mark
    mark_is = ap (λ (s : Saved). s.mark) saved_is

    pub wallets_count : length (saved_of xs).wallets ≡ wallet_count xs
    wallets_count = ap (λ (s : Saved). length s.wallets) saved_is ∙ length-map ws row_wallet ∙ rows_count xs wallet_widths 21 w

    pub orders_count : length (saved_of xs).orders ≡ order_count xs
    orders_count = ap (λ (s : Saved). length s.orders) saved_is ∙ length-map (raw_of xs).orders row_order ∙ rows_count xs order_widths (orders_start xs) n

    pub wallet_nth : (j : ℕ) → j < length (saved_of xs).wallets → wallet_at xs j ≡ row_wallet (row_at wallet_widths xs 21 j)
    wallet_nth j l =
        ap (λ (s : Saved). get_or s.wallets j no_wallet) saved_is ∙ get_or-map row_wallet ws j [] ∙ ap row_wallet (rows_nth xs wallet_widths 21 w j (omega (arith, wallets_count)))

    pub order_nth : (j : ℕ) → j < length (saved_of xs).orders → order_at xs j ≡ row_order (row_at order_widths xs (orders_start xs) j)
    order_nth j l =
        ap (λ (s : Saved). get_or s.orders j no_order) saved_is ∙ get_or-map row_order (raw_of xs).orders j []
        ∙ ap row_order (rows_nth xs order_widths (orders_start xs) n j (omega (arith, orders_count)))

    tables : (table_ok owner_slots (λ r. true) ws ≡ true) × (table_ok most_orders flags_ok (raw_of xs).orders ≡ true)
    unfolding well_formed
    tables =
        let a = ((and-eq-true_iff (price_ok (get_or head 1 0) (get_or head 2 0)) (table_ok owner_slots (λ r. true) ws && table_ok most_orders flags_ok (raw_of xs).orders)).0 both.1).1 in
        (and-eq-true_iff (table_ok owner_slots (λ r. true) ws) (table_ok most_orders flags_ok (raw_of xs).orders)).0 a

    pub wallets_few : wallet_count xs ≤ owner_slots
    wallets_few = omega (arith, leb-true (length ws) owner_slots ((and-eq-true_iff (leb (length ws) owner_slots) _).0 tables.0).0, rows_count xs wallet_widths 21 w)

    pub orders_few : order_count xs ≤ most_orders
    orders_few =
        omega (arith, leb-true (length (raw_of xs).orders) most_orders ((and-eq-true_iff (leb (length (raw_of xs).orders) most_orders) _).0 tables.1).0, rows_count xs order_widths (orders_start xs) n)
