-- The checkpoint's bytes. Contents that fit are read back from their bytes; bytes that are read are the only ones for their contents, which fit; the
-- bytes are below 256, and their number is that of document 01, at most 43,033. Assumes nothing.
use Rattle.std.specs.Prelude.{Option, Some, None, is_some}
use Prim.Native.Nat.{ℕ, suc, ◌+◌, ◌*◌, ◌^◌, ◌/◌, ◌%◌, ◌<◌, ◌≤◌}
use mathlib.Core.Bool.{Bool, true, cond, ◌&&◌, ◌||◌, and-eq-true_iff}
use mathlib.Core.Path.{◌≡◌, refl, ap, ap₂, sym, ◌∙◌, subst}
use mathlib.Core.List.{List, [], ◌∷◌, ◌++◌, map, append-nil}
use native.Mathlib.Omega.{arith}
use borrow.Author.Tests.{leb-true, le-leb, eqb-true, eqb-false}
use native.Mathlib.Nat.{mod-add-div}
use lib.Dec.{eqb, leb}
use lib.IntN.{ℤ, pos, negsuc}
use lib.ListN.{length, get_or, length-append, length-map}
use mir.Syntax.{w64}
use mir.Val.{of_z, to_z, SFits}
use mir.ValLaws.{to_z-Fits, of_z-to_z}
use Rattle.orderbook.specs.declared.Side.{Side}
use Rattle.orderbook.specs.declared.Side.TheVariants.{Buy, Sell}
use Rattle.accounts.specs.declared.Funds.{Funds}
use Rattle.words.specs.Words.{place_of, fit_in, inside, above, modulus}
use Rattle.table.specs.Live.{Each}
use Rattle.gateway.specs.Limits.{owner_slots, most_orders}
use Rattle.gateway.specs.Ledger.{Order, fits, number_of}
use Rattle.gateway.specs.Fits.{Unsigned, Signed, PriceFits, FundsFit, Bytes}
use Rattle.gateway.specs.Saved.{Saved}
use Rattle.gateway.specs.Bytes.{Read, row, section, head_widths, wallet_widths, order_widths, Raw, write_raw, read_parts, whole, read_section, read_raw, price_word, price_flag, buy_flag, price_from, side_from}
use Rattle.gateway.specs.Bytes.{wallet_row, order_row, raw, row_wallet, row_order, saved, price_ok, flags_ok, keys_rise, all_rows, table_ok, well_formed, encode, checked, decode}
use Rattle.gateway.proofs.Base.{split}
use Rattle.gateway.proofs.Money.{word_back}
use Rattle.gateway.proofs.Rows.{Fit, done, field, FitRows, row_back, section_back, Of, missing, got, of_then, Wrote, chain, row_only, section_only, bytes_append, row_bytes, section_bytes, rows_length}
use Rattle.gateway.specs.Table.{Rises}
use Rattle.gateway.specs.Invariant.{OrderFits}

-- ---- the three parts, as numbers

record RawFits (r : Raw) : Type 0 where
  head_fits : Fit head_widths r.head
  wallets_fit : FitRows wallet_widths r.wallets
  orders_fit : FitRows order_widths r.orders

raw_back : (r : Raw) → RawFits r → read_raw (write_raw r) ≡ Some r
raw_back r f =
    let os = section order_widths r.orders in
    let ws = section wallet_widths r.wallets in
    let e : read_section order_widths os ≡ Some (r.orders, []) = ap (read_section order_widths) (sym (append-nil os)) ∙ section_back order_widths r.orders f.orders_fit [] in
    rw (row_back f.head_fits (ws ++ os), section_back wallet_widths r.wallets f.wallets_fit os, e)

parts_only : (xs : List ℕ) → Bytes xs → Of (Wrote RawFits write_raw xs) (read_parts xs)
parts_only xs b =
    of_then (row_only head_widths xs b)
    (λ h more k. of_then (section_only wallet_widths more k.more)
    (λ ws rest l. of_then (section_only order_widths rest l.more)
    (λ os end m. got (record { head = h; wallets = ws; orders = os }) end (record {
      good = record { head_fits = k.good; wallets_fit = l.good; orders_fit = m.good };
      same = chain (row head_widths h) _ end k.same (chain (section wallet_widths ws) (section order_widths os) end l.same m.same);
      more = m.more;
    }))))

-- P of what there is
abbrev Holds : {A : Type 0} → (A → Type 0) → Option A → Type 0
Holds P None = Unit {0}
Holds P (Some a) = P a

whole_only : {A : Type 0} {Good : A → Type 0} {write : A → List ℕ} {xs : List ℕ} {r : Read A} → Of (Wrote Good write xs) r → Holds (λ a. Good a × (write a ≡ xs)) (whole r)
whole_only missing = tt
whole_only (got a [] h) = (h.good, sym (append-nil _) ∙ h.same)
whole_only (got a (y ∷ ys) h) = tt

-- ---- words and prices

-- a number that fits has a modulus
word_of : (z : ℤ) → Signed z → Unsigned (of_z w64 z)
unfolding fits place_of
word_of (pos n) h =
    split (λ b. (leb n 9223372036854775807 ≡ b) → is_some (fit_in (cond b (inside (pos n)) above)) ≡ true → n < modulus) (leb n 9223372036854775807)
    (λ _ e h. omega (arith, leb-true n 9223372036854775807 e)) (λ _ e h. absurd (let z : ◌≡◌ {A = ℕ} 0 1 = cc in omega (arith, z))) refl h
word_of (negsuc n) h = omega arith

-- a modulus's number fits
word_fits : (w : ℕ) → Unsigned w → Signed (to_z w64 w)
unfolding fits place_of
word_fits w h = go (to_z w64 w) (to_z-Fits w64 w (record { fits = h }))
  where
    go : (z : ℤ) → SFits w64 z → Signed z
    go (pos n) h = rw (le-leb n 9223372036854775807 (omega (arith, h.sfits)))
    go (negsuc n) h = rw (le-leb n 9223372036854775807 (omega (arith, h.sfits)))

-- a price that fits: its fields fit and are well formed, and give it back
price_back : (p : Option ℤ) → PriceFits p → (price_flag p < 2) × Unsigned (price_word p) × (price_ok (price_flag p) (price_word p) ≡ true) × (price_from (price_flag p) (price_word p) ≡ p)
price_back None h = (omega arith, omega arith, refl, refl)
price_back (Some p) h = (omega arith, word_of p h, refl, ap Some (word_back p h))

-- well-formed fields are those of their price, which fits
price_only : (flag w : ℕ) → Unsigned w → price_ok flag w ≡ true → (price_flag (price_from flag w) ≡ flag) × (price_word (price_from flag w) ≡ w) × PriceFits (price_from flag w)
price_only flag w h =
    split (λ b. (eqb flag 1 ≡ b) → b || (eqb flag 0 && eqb w 0) ≡ true → let p = cond b (Some (to_z w64 w)) None in (price_flag p ≡ flag) × (price_word p ≡ w) × PriceFits p) (eqb flag 1)
    (λ _ e k. (sym (eqb-true flag 1 e), of_z-to_z w64 w (record { fits = h }), word_fits w h))
    (λ _ e k. let t = (and-eq-true_iff (eqb flag 0) (eqb w 0)).0 k in (sym (eqb-true flag 0 t.0), sym (eqb-true w 0 t.1), tt)) refl

-- bit 0 of an order's flags
side_back : (s : Side) → (buy_flag s < 2) × (side_from (buy_flag s) ≡ s)
side_back Buy = (omega arith, refl)
side_back Sell = (omega arith, refl)

side_only : (n : ℕ) → n < 2 → buy_flag (side_from n) ≡ n
side_only n h = split (λ b. (eqb n 1 ≡ b) → buy_flag (cond b Buy Sell) ≡ n) (eqb n 1) (λ _ e. sym (eqb-true n 1 e)) (λ _ e. let d = eqb-false n 1 e in omega arith) refl

-- ---- rows of values

-- the fields' ranges
pub record SavedWallet (w : ℕ × Funds) : Type 0 where
  pub account_fits : w.0 < 2 ^ 32
  pub money_fits : FundsFit w.1

pub record SavedOrder (o : Order) : Type 0 where
  pub number_fits : Unsigned o.number
  pub account_fits : o.account < 2 ^ 32
  pub values_fit : OrderFits o

-- good values have rows that fit and are fine, from which they are read back; such rows are those of their values, which are good
record Codes {A : Type 0} (Good : A → Type 0) (key : A → ℕ) (ws : List ℕ) (fine : List ℕ → Bool) (to : A → List ℕ) (from : List ℕ → A) : Type 0 where
  back : (a : A) → Good a → Fit ws (to a) × (fine (to a) ≡ true) × (from (to a) ≡ a)
  only : (r : List ℕ) → Fit ws r → fine r ≡ true → Good (from r) × (to (from r) ≡ r)
  first : (a : A) → get_or (to a) 0 0 ≡ key a

-- the first row, of the last number and the reference price
head_only : (r : List ℕ) → Fit head_widths r → price_ok (get_or r 1 0) (get_or r 2 0) ≡ true
    → let p = price_from (get_or r 1 0) (get_or r 2 0) in Unsigned (get_or r 0 0) × PriceFits p × (get_or r 0 0 ∷ price_flag p ∷ price_word p ∷ [] ≡ r)
head_only _ (field n (field {v = f} k (field {v = w} p done))) e = let q = price_only f w p e in (n, q.2, rw (q.0, q.1))

wallet_back : (w : ℕ × Funds) → SavedWallet w → Fit wallet_widths (wallet_row w) × (true ≡ true) × (row_wallet (wallet_row w) ≡ w)
wallet_back w h = (
  field h.account_fits (field (word_of w.1.cash h.money_fits.0) (field (word_of w.1.position h.money_fits.1) done)),
  refl,
  rw (word_back w.1.cash h.money_fits.0, word_back w.1.position h.money_fits.1),
)

wallet_only : (r : List ℕ) → Fit wallet_widths r → true ≡ true → SavedWallet (row_wallet r) × (wallet_row (row_wallet r) ≡ r)
wallet_only _ (field a (field {v = c} h (field {v = p} k done))) _ = (
  record { account_fits = a; money_fits = (word_fits c h, word_fits p k) },
  rw (of_z-to_z w64 c (record { fits = h }), of_z-to_z w64 p (record { fits = k })),
)

wallet_codes : Codes SavedWallet (λ w. w.0) wallet_widths (λ r. true) wallet_row row_wallet
wallet_codes = record { back = wallet_back; only = wallet_only; first = λ w. refl }

order_back : (o : Order) → SavedOrder o → Fit order_widths (order_row o) × (flags_ok (order_row o) ≡ true) × (row_order (order_row o) ≡ o)
order_back o h =
    let v = h.values_fit in
    let p = price_back o.price v.price_fits in
    let b = side_back o.side in
    let f : buy_flag o.side + 2 * price_flag o.price < 256 = omega arith in
    let q : (buy_flag o.side + 2 * price_flag o.price) / 2 ≡ price_flag o.price = omega arith in
    let m : (buy_flag o.side + 2 * price_flag o.price) % 2 ≡ buy_flag o.side = omega arith in (
      field h.number_fits (field h.account_fits (field v.ref_fits (field f (field p.1 (field v.leaves_fit done))))),
      rw q p.2,
      rw (q, m, p.3, b.1),
    )

order_only : (r : List ℕ) → Fit order_widths r → flags_ok r ≡ true → SavedOrder (row_order r) × (order_row (row_order r) ≡ r)
order_only _ (field n (field a (field c (field {v = f} k (field {v = w} p (field l done)))))) e =
    let q = price_only (f / 2) w p e in (
      record { number_fits = n; account_fits = a; values_fit = record { ref_fits = c; price_fits = q.2; leaves_fit = l } },
      rw (q.0, q.1, side_only (f % 2) (omega arith), mod-add-div f 2),
    )

order_codes : Codes SavedOrder number_of order_widths flags_ok order_row row_order
order_codes = record { back = order_back; only = order_only; first = λ o. refl }

-- ---- tables

-- at most so many values, each good, ascending by key
pub record TableFits {A : Type 0} (Good : A → Type 0) (key : A → ℕ) (most : ℕ) (l : List A) : Type 0 where
  pub few : length l ≤ most
  pub good : Each Good l
  pub rise : Rises key 0 l

module _ {A : Type 0} {Good : A → Type 0} {key : A → ℕ} {ws : List ℕ} {fine : List ℕ → Bool} {to : A → List ℕ} {from : List ℕ → A} (c : Codes Good key ws fine to from) where
  each_back : (k : ℕ) (l : List A) → Rises key k l → Each Good l → Each (Fit ws) (map to l) × (keys_rise k (map to l) && all_rows fine (map to l) ≡ true) × (map from (map to l) ≡ l)
  each_back k [] t u = (tt, refl, refl)
  each_back k (x ∷ l) t u =
      let b = c.back x u.0 in
      let h = each_back (suc (key x)) l t.1 u.1 in
      ((b.0, h.0), rw (c.first x, le-leb k (key x) t.0, b.1) h.1, ap₂ (λ a m. a ∷ m) b.2 h.2)

  table_back : (most : ℕ) (l : List A) → most < 256 ^ 4 → TableFits Good key most l → FitRows ws (map to l) × (table_ok most fine (map to l) ≡ true) × (map from (map to l) ≡ l)
  table_back most l m t =
      let h = each_back 0 l t.rise t.good in
      let n : length (map to l) ≤ most = rw length-map t.few in
      (record { count = omega arith; each = h.0 }, rw (le-leb _ most n) h.1, h.2)

  each_only : (k : ℕ) (rs : List (List ℕ)) → Each (Fit ws) rs → keys_rise k rs ≡ true → all_rows fine rs ≡ true → Rises key k (map from rs) × Each Good (map from rs) × (map to (map from rs) ≡ rs)
  each_only k [] t u v = (tt, tt, refl)
  each_only k (r ∷ rs) t u v =
      let p = (and-eq-true_iff (leb k (get_or r 0 0)) _).0 u in
      let q = (and-eq-true_iff (fine r) _).0 v in
      let b = c.only r t.0 q.0 in
      let h = each_only (suc (get_or r 0 0)) rs t.1 p.1 q.1 in
      let e : key (from r) ≡ get_or r 0 0 = sym (c.first (from r)) ∙ ap (λ l. get_or l 0 0) b.1 in
      ((omega (arith, leb-true k (get_or r 0 0) p.0), rw e h.0), (b.0, h.1), ap₂ (λ a m. a ∷ m) b.1 h.2)

  table_only : (most : ℕ) (rs : List (List ℕ)) → FitRows ws rs → table_ok most fine rs ≡ true → TableFits Good key most (map from rs) × (map to (map from rs) ≡ rs)
  table_only most rs f e =
      let p = (and-eq-true_iff (leb (length rs) most) _).0 e in
      let q = (and-eq-true_iff (keys_rise 0 rs) _).0 p.1 in
      let h = each_only 0 rs f.each q.0 q.1 in
      (record { few = rw length-map (leb-true (length rs) most p.0); good = h.1; rise = h.0 }, h.2)

-- ---- the contents

-- every number fits its field, the counts their limits, and the keys rise
pub record SavedFits (s : Saved) : Type 0 where
  pub last_fits : Unsigned s.last
  pub mark_fits : PriceFits s.mark
  pub wallets_fit : TableFits SavedWallet (λ w. w.0) owner_slots s.wallets
  pub orders_fit : TableFits SavedOrder number_of most_orders s.orders

-- contents that fit: their rows fit, are well formed, and give them back
saved_back : (s : Saved) → SavedFits s → RawFits (raw s) × (well_formed (raw s) ≡ true) × (saved (raw s) ≡ s)
unfolding well_formed
saved_back s f =
    let p = price_back s.mark f.mark_fits in
    let k : price_flag s.mark < 256 = omega arith in
    let w = table_back wallet_codes owner_slots s.wallets (omega arith) f.wallets_fit in
    let o = table_back order_codes most_orders s.orders (omega arith) f.orders_fit in (
      record { head_fits = field f.last_fits (field k (field p.1 done)); wallets_fit = w.0; orders_fit = o.0 },
      rw (p.2, w.1, o.1),
      rw (p.3, w.2, o.2),
    )

-- rows that fit and are well formed are those of their contents, which fit
saved_only : (r : Raw) → RawFits r → well_formed r ≡ true → SavedFits (saved r) × (raw (saved r) ≡ r)
unfolding well_formed
saved_only r f e =
    let p = (and-eq-true_iff (price_ok (get_or r.head 1 0) (get_or r.head 2 0)) _).0 e in
    let q = (and-eq-true_iff (table_ok owner_slots (λ r. true) r.wallets) _).0 p.1 in
    let h = head_only r.head f.head_fits p.0 in
    let w = table_only wallet_codes owner_slots r.wallets f.wallets_fit q.0 in
    let o = table_only order_codes most_orders r.orders f.orders_fit q.1 in
    (record { last_fits = h.0; mark_fits = h.1; wallets_fit = w.0; orders_fit = o.0 }, rw (h.2, w.1, o.1))

-- contents that fit are read back from their bytes
pub decode_encode : (s : Saved) → SavedFits s → decode (encode s) ≡ Some s
unfolding decode encode
decode_encode s f = let t = saved_back s f in rw (raw_back (raw s) t.0, t.1, t.2)

checked_only : (xs : List ℕ) (o : Option Raw) → Holds (λ r. RawFits r × (write_raw r ≡ xs)) o → Holds (λ s. SavedFits s × (encode s ≡ xs)) (checked o)
unfolding encode
checked_only xs None h = tt
checked_only xs (Some r) h =
    split (λ b. (well_formed r ≡ b) → Holds (λ s. SavedFits s × (encode s ≡ xs)) (cond b (Some (saved r)) None)) (well_formed r)
    (λ _ e. let u = saved_only r h.0 e in (u.0, ap write_raw u.1 ∙ h.1)) (λ _ e. tt) refl

-- bytes that are read hold contents that fit, and are those written for them
decode_only : (xs : List ℕ) (s : Saved) → Bytes xs → decode xs ≡ Some s → SavedFits s × (encode s ≡ xs)
unfolding decode
decode_only xs s b e = subst (Holds (λ s. SavedFits s × (encode s ≡ xs))) e (checked_only xs (read_raw xs) (whole_only (parts_only xs b)))

pub encode_decode : (xs : List ℕ) (s : Saved) → Bytes xs → decode xs ≡ Some s → encode s ≡ xs
encode_decode xs s b e = (decode_only xs s b e).1

pub decode_fits : (xs : List ℕ) (s : Saved) → Bytes xs → decode xs ≡ Some s → SavedFits s
decode_fits xs s b e = (decode_only xs s b e).0

-- ---- bytes and lengths

pub encode_bytes : (s : Saved) → Bytes (encode s)
unfolding encode
encode_bytes s =
    let ws = section wallet_widths (raw s).wallets in
    let os = section order_widths (raw s).orders in
    bytes_append (row head_widths (raw s).head) (ws ++ os) (row_bytes head_widths (raw s).head) (bytes_append ws os (section_bytes wallet_widths (raw s).wallets) (section_bytes order_widths (raw s).orders))

pub encode_length : (s : Saved) → length (encode s) ≡ 25 + (20 * length s.wallets + 37 * length s.orders)
unfolding encode
encode_length s =
    let w = rows_length wallet_widths wallet_row 20 (λ w. refl) s.wallets in
    let o = rows_length order_widths order_row 37 (λ o. refl) s.orders in
    omega (arith, w, o, length-append (section wallet_widths (raw s).wallets) (section order_widths (raw s).orders))

pub encode_short : (s : Saved) → SavedFits s → length (encode s) ≤ 43033
encode_short s f = omega (arith, encode_length s, f.wallets_fit.few, f.orders_fit.few)
