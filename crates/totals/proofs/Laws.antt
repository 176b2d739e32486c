-- Orders read from a listing or a checkpoint, and exact totals of what they hold. Assumes nothing.
use Rattle.std.specs.Prelude.{None, is_some}
use Prim.Native.Nat.{ℕ, zero, suc, ◌+◌, ◌-◌, ◌≤◌, ◌<◌}
use mathlib.Core.Path.{◌≡◌, refl, sym, ap, subst, ◌∙◌}
use mathlib.Core.Bool.{Bool, true, false, ◌&&◌, and-true, and-false}
use mathlib.Core.Logic.{⊎_elim}
use mathlib.Core.List.{List, [], ◌∷◌, map}
use native.Mathlib.Nat.{not-suc-le-zero}
use native.Mathlib.Numerals.{add-one}
use native.Mathlib.Omega.{arith}
use borrow.Author.Tests.{eq-eqb, ne_eqb}
use lib.IntN.{ℤ, pos, ◌+ℤ◌}
use lib.ListN.{length, get_or, drop, length-map, get_or-map}
use lib.Seq.{drop-cons, drop-length}
use Rattle.words.specs.Words.{int}
use Rattle.words.proofs.Int.{int_zero}
use Rattle.table.proofs.Live.{same?}
use Rattle.gateway.specs.Limits.{owner_slots, most_orders}
use Rattle.gateway.specs.Ledger.{Order, order_hold, same_side, held_by, held, fits, wallet_fits}
use Rattle.gateway.specs.Ledger as Ledger
use Rattle.gateway.specs.Listing.{live}
use Rattle.gateway.specs.Bytes.{decode}
use Rattle.gateway.specs.Start.{funds_in}
use Rattle.store.specs.View.{side}
use Rattle.store.proofs.Listed.{listed_length, listed_at}
use Rattle.orders.specs.declared.Live.{Live}
use Rattle.orders.specs.Orders.{order_of}
use Rattle.live.specs.Live.{hold_word}
use Rattle.live.proofs.Accounts.{hold_is}
use Rattle.sums.specs.declared.Sum.{Sum}
use Rattle.sums.specs.Sums.{Sums, HasRoom, Small, Adds, Judges}
use Rattle.sums.proofs.Laws.{more_sums}
use Rattle.roster.specs.declared.Roster.{Roster}
use Rattle.roster.specs.Rostered.{account_of}
use Rattle.listing.specs.declared.Entry.{Entry}
use Rattle.listing.specs.Rows.{entry, listed_as, rows, row, listing}
use Rattle.listing.proofs.Listings.{order_is, stop_is, rows_are}
use Rattle.saved.specs.Contents.{saved_of, no_order, Reads}
use Rattle.totals.specs.declared.Source.{Source}
use Rattle.totals.specs.declared.Source.TheVariants.{Listing, Saved}
use Rattle.totals.specs.Totals.{orders_in, Readable, priced, is_of, funds, wallets_fit}

-- ---- one order

-- the words of a listed order
abbrev words_of : Entry → Live
words_of e =
    record { account = e.owner; client_ref = 0; side = e.side; priced = priced e.kind e.priced; price = e.price; leaves = e.leaves; hold = 0 }

entry_reads : (e : Entry) → Reads (live (listed_as e)) (words_of e)
entry_reads e =
    ⊎_elim
    (λ h. rw (order_is e h, eq-eqb e.kind 0 h) (record { order_is = refl; hold_is = refl }))
    (λ h. rw (stop_is e h, ne_eqb e.kind 0 h) (record { order_is = refl; hold_is = refl }))
    (same? e.kind 0)

-- inside a list, what stands for nothing does not matter
get_d_any : {A : Type 0} (l : List A) (i : ℕ) (d f : A) → i < length l → get_or l i d ≡ get_or l i f
get_d_any [] i d f h = absurd (not-suc-le-zero h)
get_d_any (x ∷ l) zero d f h = refl
get_d_any (x ∷ l) (suc i) d f h = get_d_any l i d f (omega arith)

module _ (xs : List ℕ) (j : ℕ) where
  pub row_live : j < rows xs → get_or (map live (listing xs)) j no_order ≡ live (row xs j)
  row_live h =
      get_d_any (map live (listing xs)) j no_order (live (row xs j)) (rw (length-map (listing xs) live, rows_are xs) h)
      ∙ get_or-map live (listing xs) j (row xs j) ∙ ap live (listed_at (row xs) (rows xs) j (row xs j) h)

  pub listed_reads : (e : Entry) (p : ℕ) → j < rows xs → e ≡ entry xs j → p ≡ priced e.kind e.priced →
      Reads (get_or (orders_in Listing xs) j no_order) (record { account = e.owner; client_ref = 0; side = e.side; priced = p; price = e.price; leaves = e.leaves; hold = 0 })
  listed_reads e p h i q =
      rw (row_live h, q)
      (subst (λ (x : Entry). Reads (live (listed_as x)) (words_of e)) i (entry_reads e))

  module _ (s : Source) where
    pub in_listing : s ≡ Listing → j < length (orders_in s xs) → j < rows xs
    in_listing e h = let h' : j < length (orders_in Listing xs) = subst (λ t. j < length (orders_in t xs)) e h in rw (length-map (listing xs) live, rows_are xs) at h'

    pub in_saved : s ≡ Saved → j < length (orders_in s xs) → j < length (saved_of xs).orders
    in_saved e h = subst (λ t. j < length (orders_in t xs)) e h

    pub reads_listing : (r : Live) → s ≡ Listing → Reads (get_or (orders_in Listing xs) j no_order) r → Reads (get_or (orders_in s xs) j no_order) r
    reads_listing r e h = subst (λ t. Reads (get_or (orders_in t xs) j no_order) r) (sym e) h

    pub reads_saved : (r : Live) → s ≡ Saved → Reads (get_or (saved_of xs).orders j no_order) r → Reads (get_or (orders_in s xs) j no_order) r
    reads_saved r e h = subst (λ t. Reads (get_or (orders_in t xs) j no_order) r) (sym e) h

module _ (xs : List ℕ) (s : Source) (h : Readable s xs) where
  pub whole : s ≡ Saved → is_some (decode xs) ≡ true
  whole e = subst (λ t. Readable t xs) e h

  pub listing_count : (n : ℕ) → s ≡ Listing → n ≡ rows xs → n ≡ length (orders_in s xs)
  listing_count n e p = p ∙ sym (rows_are xs) ∙ sym (length-map (listing xs) live) ∙ ap (λ t. length (orders_in t xs)) (sym e)

  pub listing_few : (n : ℕ) → s ≡ Listing → n ≡ rows xs → n ≤ most_orders
  listing_few n e p = let f : Readable Listing xs = subst (λ t. Readable t xs) e h in omega (arith, f, p)

  pub saved_count : (n : ℕ) → s ≡ Saved → n ≡ length (saved_of xs).orders → n ≡ length (orders_in s xs)
  saved_count n e p = p ∙ ap (λ t. length (orders_in t xs)) (sym e)

-- ---- what it holds

module _ (o : Live) (a z : ℕ) where
  module _ (b : Bool) (is : b ≡ is_of a (side z) (order_of 0 o)) where
    pub held_own : (fee r : ℕ) → b ≡ true → r ≡ hold_word fee o.side o.priced o.price o.leaves → int r ≡ held_by (int fee) a (side z) (order_of 0 o)
    held_own fee r t e = rw (sym is ∙ t) (ap int e ∙ hold_is fee o.side o.priced o.price o.leaves)

    pub held_none : (fee : ℕ) → b ≡ false → int 0 ≡ held_by (int fee) a (side z) (order_of 0 o)
    held_none fee t = rw (sym is ∙ t) int_zero

-- ---- one total

module _ (fee a z : ℕ) (os : List Order) (n : ℕ) (size : n ≡ length os) (few : n ≤ most_orders) where
  -- the orders from j on are summed
  pub record Summed (j : ℕ) (s : Sum) : Type 0 where
    pub sums : Sums (n - j) (held (int fee) a (side z) (drop j os)) s
    pub inside : j ≤ n

  pub none_summed : (s : Sum) → Sums 0 (pos 0) s → Summed n s
  none_summed s h =
      record {
        sums = subst (λ k. Sums k (held (int fee) a (side z) (drop n os)) s) (let e : 0 ≡ n - n = omega arith in e) (rw (ap (λ k. drop k os) size ∙ drop-length os) h);
        inside = omega arith;
      }

  module _ (j : ℕ) (s : Sum) (h : Summed j s) where
    pub sum_room : HasRoom s
    sum_room = record { high_room = omega (arith, h.sums.high_few, few, h.inside); low_room = omega (arith, h.sums.low_few, few, h.inside) }

    pub order_inside : 0 < j → j - 1 < length os
    order_inside l = omega (arith, size, h.inside)

    pub more_summed : (o : Live) (w : ℕ) (r : Sum) → 0 < j → Reads (get_or os (j - 1) no_order) o → int w ≡ held_by (int fee) a (side z) (order_of 0 o) → Adds s (int w) r → Summed (j - 1) r
    more_summed o w r l q e d =
        let one : (j - 1) + 1 ≡ j = omega (arith, l) in
        let t : drop (j - 1) os ≡ get_or os (j - 1) no_order ∷ drop j os = drop-cons os (j - 1) no_order (order_inside l) ∙ ap (λ k. get_or os (j - 1) no_order ∷ drop k os) (sym (add-one (j - 1)) ∙ one) in
        let v : int w ≡ held_by (int fee) a (side z) (get_or os (j - 1) no_order) = e ∙ ap (held_by (int fee) a (side z)) q.order_is in
        record {
          sums =
              subst (λ k. Sums k (held (int fee) a (side z) (drop (j - 1) os)) r) (let f : (n - j) + 1 ≡ n - (j - 1) = omega (arith, l, h.inside) in f)
              (subst (λ y. Sums ((n - j) + 1) y r) (ap (λ y. y +ℤ held (int fee) a (side z) (drop j os)) v ∙ sym (ap (held (int fee) a (side z)) t))
              (more_sums (n - j) (held (int fee) a (side z) (drop j os)) (int w) s r h.sums d));
          inside = omega (arith, h.inside);
        }

    all_in : j ≤ 0 → Sums n (held (int fee) a (side z) os) s
    all_in l =
        let e : j ≡ 0 = omega (arith, l) in
        subst (λ k. Sums k (held (int fee) a (side z) os) s) (let f : n - 0 ≡ n = omega arith in f) (subst (λ i. Sums (n - i) (held (int fee) a (side z) (drop i os)) s) e h.sums)

    pub sum_small : j ≤ 0 → Small n s
    sum_small l = let t = all_in l in record { few = omega (arith, few); high_small = omega (arith, t.high_few, few); low_small = omega (arith, t.low_few, few) }

    pub total_is : (b : Bool) → j ≤ 0 → Judges n s b → b ≡ fits (held (int fee) a (side z) os)
    total_is b l d = d.is (held (int fee) a (side z) os) (all_in l)

-- ---- the wallets

module _ (fee : ℤ) (r : Roster) (os : List Order) where
  pub none_left : wallets_fit fee r owner_slots os ≡ true
  none_left = ap (λ l. Ledger.wallets_fit fee owner_slots l os) (ap (λ n. drop n (funds r)) (sym size) ∙ drop-length (funds r))
    where
      size : length (funds r) ≡ owner_slots
      size = listed_length (λ a. funds_in (account_of r a)) owner_slots

  -- one wallet more
  slot_more : (i : ℕ) → i < owner_slots → wallets_fit fee r i os ≡ (wallet_fits fee i (funds_in (account_of r i)) os && wallets_fit fee r (i + 1) os)
  slot_more i h =
      ap (λ l. Ledger.wallets_fit fee i l os) (drop-cons (funds r) i None (rw (listed_length (λ a. funds_in (account_of r a)) owner_slots) h))
      ∙ ap (λ w. wallet_fits fee i w os && Ledger.wallets_fit fee (suc i) (drop (suc i) (funds r)) os) (listed_at (λ a. funds_in (account_of r a)) owner_slots i None h)
      ∙ ap (λ n. wallet_fits fee i (funds_in (account_of r i)) os && wallets_fit fee r n os) (sym (add-one i))

  module _ (i : ℕ) (l : 0 < i) (m : i ≤ owner_slots) (h : wallets_fit fee r i os ≡ true) (b : Bool) (is : b ≡ wallet_fits fee (i - 1) (funds_in (account_of r (i - 1))) os) where
    step : wallets_fit fee r (i - 1) os ≡ b
    step =
        let one : (i - 1) + 1 ≡ i = omega (arith, l) in
        slot_more (i - 1) (omega (arith, l, m)) ∙ ap (λ n. wallet_fits fee (i - 1) (funds_in (account_of r (i - 1))) os && wallets_fit fee r n os) one
        ∙ rw (h, ← is) (and-true b)

    pub slot_fine : b ≡ true → wallets_fit fee r (i - 1) os ≡ true
    slot_fine t = step ∙ t

    -- one that does not fit decides
    pub slot_fails : b ≡ false → false ≡ wallets_fit fee r 0 os
    slot_fails t = go (i - 1) (omega (arith, m)) (step ∙ t)
      where
        go : (n : ℕ) → n ≤ owner_slots → wallets_fit fee r n os ≡ false → false ≡ wallets_fit fee r 0 os
        go zero k e = sym e
        go (suc n) k e = go n (omega arith) (slot_more n k ∙ ap (λ p. wallet_fits fee n (funds_in (account_of r n)) os && wallets_fit fee r p os) (add-one n) ∙ ap (λ c. wallet_fits fee n (funds_in (account_of r n)) os && c) e ∙ and-false (wallet_fits fee n (funds_in (account_of r n)) os))

pub ruleset laws = (listed_reads, in_listing, in_saved, reads_listing, reads_saved, whole, listing_count, listing_few, saved_count, held_own, held_none, arith)
