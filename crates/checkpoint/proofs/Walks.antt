-- The rows of the state are the definitions' lists, one by one. Assumes nothing.
use Rattle.std.specs.Prelude.{Option, Some, None, is_some}
use mathlib.Core.Path.{◌≡◌, refl, sym, ap, ap₂, ◌∙◌}
use mathlib.Core.Bool.{Bool, true, false, cond, false≢true}
use mathlib.Core.Logic.{⊎_elim}
use mathlib.Core.List.{List, [], ◌∷◌, ◌++◌, map, map-append, append-nil, append_assoc}
use Prim.Native.Nat.{ℕ, zero, suc, ◌+◌, ◌*◌, ◌^◌, ◌≤◌, ◌<◌}
use native.Mathlib.Numerals.{add-one}
use native.Mathlib.Nat.{not-suc-le-zero}
use native.Mathlib.Omega.{arith}
use borrow.Author.Tests.{ne_eqb, eq-eqb}
use lib.ListN.{length, length-append, length-map}
use Rattle.le.specs.Le.{put}
use Rattle.le.proofs.Laws.{lt_or_le, length_put}
use Rattle.words.specs.Words.{int}
use Rattle.accounts.specs.declared.Funds.{Funds}
use Rattle.table.specs.Live.{live, pick}
use Rattle.gateway.specs.Basics.{option}
use Rattle.gateway.specs.Limits.{owner_slots, most_orders}
use Rattle.gateway.specs.Ledger.{Order}
use Rattle.gateway.specs.Saved.{Saved, saved_from, contents}
use Rattle.gateway.specs.Bytes.{number, row, rows, section, head_widths, wallet_widths, order_widths, wallet_row, order_row, raw, encode}
use Rattle.gateway.proofs.Rows.{rows_length}
use Rattle.store.specs.Cells as C
use Rattle.store.specs.Layout.{cell}
use Rattle.store.specs.View.{Store, word, listed, flag, maybe_price, wallet, order, order_room}
use Rattle.store.proofs.Listed.{listed_length}
use Rattle.orders.specs.declared.Live as Words
use Rattle.orders.specs.Orders.{live_row, order_of}
use Rattle.sound.specs.Sound.{State}
use Rattle.checkpoint.specs.Put.{saved_in, head_bytes, wallet_bytes, order_bytes, slot_bytes, live_bytes, wallets_bytes, orders_bytes, wallet_section, order_section, joined, put_bytes, Puts}
use Rattle.checkpoint.proofs.Stores.{put_length, puts_none, puts_more, puts_number, puts_run}

-- ---- a walk over f 0, .., f (n - 1)

module _ (f : ℕ → List ℕ) where
  joined_next : (j : ℕ) → joined f (j + 1) ≡ joined f j ++ f j
  unfolding joined
  joined_next j = rw add-one refl

  joined_most : (j n : ℕ) → j < n → length (joined f j) + length (f j) ≤ length (joined f n)
  unfolding joined
  joined_most j zero l = absurd (not-suc-le-zero l)
  joined_most j (suc n) l =
      let sum = length-append (joined f n) (f n) in
      ⊎_elim (λ (h : j < n). omega (arith, joined_most j n h, sum))
      (λ h. let e : j ≡ n = omega arith in omega (arith, sum, ap (λ i. length (joined f i) + length (f i)) e)) (lt_or_le j n)

  pub walk_first : (o : ℕ) (out : List ℕ) → Puts o (joined f 0) o out out
  unfolding joined
  walk_first o out = puts_none o out

  module _ (o : ℕ) (out : List ℕ) {mid : List ℕ} {n : ℕ} (j : ℕ) (p : Puts o (joined f j) n out mid) where
    pub walk_next : {end : List ℕ} {k : ℕ} → Puts n (f j) k mid end → Puts o (joined f (j + 1)) k out end
    walk_next {k = k} q = rw (← joined_next j) at (puts_more o n k (joined f j) (f j) out p q)

    pub walk_room : (m room : ℕ) (bs : List ℕ) → j < m → joined f m ≡ bs → o + length bs ≤ room → n + length (f j) ≤ room
    walk_room m room bs l e h = omega (arith, p.next_is, joined_most j m l, ap length e)

    pub walk_all : (bs : List ℕ) → joined f j ≡ bs → Puts o bs n out mid
    walk_all bs e = rw e at p

  pub count_first : 20 * 0 ≡ length (joined f 0)
  unfolding joined
  count_first = refl

  pub count_next : (j n k : ℕ) → 20 * n ≡ length (joined f j) → 20 * k ≡ length (f j) → 20 * (n + k) ≡ length (joined f (j + 1))
  count_next j n k e h = omega (arith, ap length (joined_next j), length-append (joined f j) (f j))

rows_append : (ws : List ℕ) (rs ss : List (List ℕ)) → rows ws (rs ++ ss) ≡ rows ws rs ++ rows ws ss
rows_append ws [] ss = refl
rows_append ws (r ∷ rs) ss = ap (λ l. row ws r ++ l) (rows_append ws rs ss) ∙ sym (append_assoc (row ws r) (rows ws rs) (rows ws ss))

mapped : {A : Type 0} (ws : List ℕ) (to : A → List ℕ) (xs ys : List A) → rows ws (map to (xs ++ ys)) ≡ rows ws (map to xs) ++ rows ws (map to ys)
mapped ws to xs ys = ap (rows ws) (map-append to xs ys) ∙ rows_append ws (map to xs) (map to ys)

-- ---- the wallets

wallet_length : (w : ℕ × Funds) → length (wallet_bytes w) ≡ 20
unfolding wallet_bytes
wallet_length w = refl

order_length : (o : Order) → length (order_bytes o) ≡ 37
unfolding order_bytes
order_length o = refl

saved_append : (a : ℕ) (ws vs : List (Option Funds)) → saved_from a (ws ++ vs) ≡ saved_from a ws ++ saved_from (a + length ws) vs
saved_append a [] vs = let e : a + 0 ≡ a = omega arith in ap (λ n. saved_from n vs) (sym e)
saved_append a (None ∷ ws) vs =
    let e : suc a + length ws ≡ a + suc (length ws) = omega arith in
    saved_append (suc a) ws vs ∙ ap (λ n. saved_from (suc a) ws ++ saved_from n vs) e
saved_append a (Some w ∷ ws) vs =
    let e : suc a + length ws ≡ a + suc (length ws) = omega arith in
    ap (λ l. (a, w) ∷ l) (saved_append (suc a) ws vs ∙ ap (λ n. saved_from (suc a) ws ++ saved_from n vs) e)

one_slot : (a : ℕ) (o : Option Funds) → rows wallet_widths (map wallet_row (saved_from a (o ∷ []))) ≡ option [] (λ w. wallet_bytes (a, w)) o
unfolding wallet_bytes
one_slot a None = refl
one_slot a (Some w) = append-nil (row wallet_widths (wallet_row (a, w)))

module _ (s : Store) where
  abbrev slot : ℕ → Option Funds
  slot i = wallet (s C.accounts i)

  wallets_joined : (n : ℕ) → joined (slot_bytes s) n ≡ rows wallet_widths (map wallet_row (saved_from 0 (listed slot n)))
  unfolding joined listed
  wallets_joined zero = refl
  wallets_joined (suc n) =
      let e : 0 + length (listed slot n) ≡ n = omega (arith, listed_length slot n) in
      ap (λ l. l ++ slot_bytes s n) (wallets_joined n)
      ∙ ap (λ l. rows wallet_widths (map wallet_row (saved_from 0 (listed slot n))) ++ l) (sym (one_slot n (slot n)))
      ∙ sym (mapped wallet_widths wallet_row (saved_from 0 (listed slot n)) (saved_from n (slot n ∷ [])))
      ∙ ap (λ l. rows wallet_widths (map wallet_row l)) (sym (saved_append 0 (listed slot n) (slot n ∷ []) ∙ ap (λ k. saved_from 0 (listed slot n) ++ saved_from k (slot n ∷ [])) e))

pub wallets_all : (xs : List ℕ) (j : ℕ) → j ≤ owner_slots → owner_slots ≤ j → joined (slot_bytes (cell xs)) j ≡ wallets_bytes (saved_in xs)
unfolding contents
wallets_all xs j l h = let e : j ≡ owner_slots = omega arith in ap (joined (slot_bytes (cell xs))) e ∙ wallets_joined (cell xs) owner_slots

wallets_length : (s : Saved) → length (wallets_bytes s) ≡ 20 * length s.wallets
wallets_length s = rows_length wallet_widths wallet_row 20 (λ w. refl) s.wallets

orders_length : (s : Saved) → length (orders_bytes s) ≡ 37 * length s.orders
orders_length s = rows_length order_widths order_row 37 (λ o. refl) s.orders

pub wallets_counted : (xs : List ℕ) (j n : ℕ) → j ≤ owner_slots → owner_slots ≤ j → 20 * n ≡ length (joined (slot_bytes (cell xs)) j) → n ≡ length (saved_in xs).wallets
wallets_counted xs j n l h e = omega (arith, ap length (wallets_all xs j l h), wallets_length (saved_in xs))

-- one slot
module _ (s : Store) (a : ℕ) (b : Bool) (e : b ≡ is_some (wallet (s C.accounts a))) where
  abbrev money : Funds
  money = record { cash = int (s C.accounts a C.account_cash); position = int (s C.accounts a C.account_position) }

  slot_is : (c : Bool) → b ≡ c → slot_bytes s a ≡ cond c (wallet_bytes (a, money)) []
  slot_is c t = go (flag (s C.accounts a C.account_funded)) c (sym e ∙ t)
    where
      go : (x c : Bool) → is_some (cond x (Some money) None) ≡ c → option [] (λ w. wallet_bytes (a, w)) (cond x (Some money) None) ≡ cond c (wallet_bytes (a, money)) []
      go true true q = refl
      go true false q = absurd (false≢true (sym q))
      go false true q = absurd (false≢true q)
      go false false q = refl

  pub one_wallet : b ≡ true → 20 * 1 ≡ length (slot_bytes s a)
  one_wallet t = omega (arith, ap length (slot_is true t), wallet_length (a, money))

  pub no_wallet : b ≡ false → 20 * 0 ≡ length (slot_bytes s a)
  no_wallet t = omega (arith, ap length (slot_is false t))

  pub slot_room : (o room : ℕ) → b ≡ true → o + length (slot_bytes s a) ≤ room → o + 20 ≤ room
  slot_room o room t h = omega (arith, one_wallet t)

  pub slot_put : (o c p : ℕ) (out : List ℕ) {end : List ℕ} → b ≡ true → c ≡ s C.accounts a C.account_cash → p ≡ s C.accounts a C.account_position →
      end ≡ put_bytes o (wallet_bytes (a, record { cash = int c; position = int p })) out → Puts o (slot_bytes s a) (o + 20) out end
  slot_put o c p out t h k q =
      puts_run 20 (slot_bytes s a) out o (sym (one_wallet t))
      (q ∙ ap₂ (λ (u v : ℕ). put_bytes o (wallet_bytes (a, record { cash = int u; position = int v })) out) h k ∙ ap (λ l. put_bytes o l out) (sym (slot_is true t)))

  pub slot_passed : (o : ℕ) (out : List ℕ) → b ≡ false → Puts o (slot_bytes s a) o out out
  slot_passed o out t = rw (slot_is false t) (puts_none o out)

-- ---- the orders

one_row : (n : ℕ) (o : Order) → rows order_widths (map order_row (map (λ (p : ℕ × Order). p.1) (pick n (n, o)))) ≡ cond (flag n) (order_bytes o) []
unfolding order_bytes
one_row zero o = refl
one_row (suc n) o = let f : suc n ≡ 0 → ⊥ = λ e. omega arith in rw (ne_eqb (suc n) 0 f) (append-nil (row order_widths (order_row o)))

module _ (s : Store) where
  abbrev rows_live : ℕ → List (ℕ × Order)
  rows_live n = live (λ (p : ℕ × Order). p.0) (λ i. (s C.orders i C.order_live, order (s C.orders i))) n

  orders_joined : (n : ℕ) → joined (live_bytes s) n ≡ rows order_widths (map order_row (map (λ (p : ℕ × Order). p.1) (rows_live n)))
  unfolding joined live
  orders_joined zero = refl
  orders_joined (suc n) =
      let k = s C.orders n C.order_live in
      let o = order (s C.orders n) in
      ap₂ (λ (u v : List ℕ). u ++ v) (orders_joined n) (sym (one_row k o))
      ∙ sym (mapped order_widths order_row (map (λ (p : ℕ × Order). p.1) (rows_live n)) (map (λ (p : ℕ × Order). p.1) (pick k (k, o))))
      ∙ ap (λ l. rows order_widths (map order_row l)) (sym (map-append (λ (p : ℕ × Order). p.1) (rows_live n) (pick k (k, o))))

pub orders_all : (xs : List ℕ) (j : ℕ) → j ≡ word (cell xs) C.order_rows → joined (live_bytes (cell xs)) j ≡ orders_bytes (saved_in xs)
unfolding contents
orders_all xs j e = ap (joined (live_bytes (cell xs))) e ∙ orders_joined (cell xs) (word (cell xs) C.order_rows)

-- one row
module _ (s : Store) (j w : ℕ) (e : w ≡ s C.orders j C.order_live) where
  pub dead_passed : (o : ℕ) (out : List ℕ) → w ≡ 0 → Puts o (live_bytes s j) o out out
  dead_passed o out z = let f : s C.orders j C.order_live ≡ 0 = sym e ∙ z in rw (eq-eqb (s C.orders j C.order_live) 0 f) (puts_none o out)

  module _ (z : w ≡ 0 → ⊥) where
    row_is : live_bytes s j ≡ order_bytes (order (s C.orders j))
    row_is = let f : s C.orders j C.order_live ≡ 0 → ⊥ = λ y. z (e ∙ y) in rw (ne_eqb (s C.orders j C.order_live) 0 f) refl

    pub live_room : (o room : ℕ) → o + length (live_bytes s j) ≤ room → o + 37 ≤ room
    live_room o room h = omega (arith, ap length row_is, order_length (order (s C.orders j)))

    pub live_put : (o n : ℕ) (x : Words.Live) (out : List ℕ) {end : List ℕ} → x ≡ live_row (s C.orders j) → n ≡ s C.orders j C.order_number →
        end ≡ put_bytes o (order_bytes (order_of n x)) out → Puts o (live_bytes s j) (o + 37) out end
    live_put o n x out h k q =
        puts_run 37 (live_bytes s j) out o (ap length row_is ∙ order_length (order (s C.orders j)))
        (q ∙ ap₂ (λ (u : ℕ) (v : Words.Live). put_bytes o (order_bytes (order_of u v)) out) k h ∙ ap (λ l. put_bytes o l out) (sym row_is))

-- the account of a live order has a row
pub owner_fits : (xs : List ℕ) (j w : ℕ) (x : Words.Live) → State xs → j < word (cell xs) C.order_rows → w ≡ cell xs C.orders j C.order_live → (w ≡ 0 → ⊥) → x ≡ live_row (cell xs C.orders j) → x.account < 2 ^ 32
owner_fits xs j w x st l e z h =
    let f : 0 < cell xs C.orders j C.order_live = pos_of (cell xs C.orders j C.order_live) (λ y. z (e ∙ y)) in
    omega (arith, (st.sound.held.rows j l f).owner_is, ap (λ (y : Words.Live). y.account) h)
  where
    pos_of : (n : ℕ) → (n ≡ 0 → ⊥) → 0 < n
    pos_of zero f = absurd (f refl)
    pos_of (suc n) f = omega arith

pub row_small : (xs : List ℕ) (j : ℕ) → State xs → j < word (cell xs) C.order_rows → j < order_room
row_small xs j st l = omega (arith, st.sound.tables.ordered.bounds.orders_fit)

-- ---- how many there are

pub orders_counted : (xs : List ℕ) (n : ℕ) → State xs → n ≡ word (cell xs) C.live_orders → n ≡ length (saved_in xs).orders
unfolding contents
orders_counted xs n st e = e ∙ st.sound.tables.ordered.counted.live_count

pub orders_few : (xs : List ℕ) (n : ℕ) → State xs → n ≡ word (cell xs) C.live_orders → n ≤ most_orders
orders_few xs n st e = omega (arith, st.sound.tables.live_few)

-- ---- the whole

pub head_saved : (xs out end : List ℕ) (last n p : ℕ) → last ≡ word (cell xs) C.last → n ≡ word (cell xs) C.marked → p ≡ word (cell xs) C.mark →
    end ≡ put_bytes 0 (head_bytes last (maybe_price n p)) out → end ≡ put_bytes 0 (head_bytes (saved_in xs).last (saved_in xs).mark) out
unfolding contents
head_saved xs out end last n p a b c q = q ∙ ap₂ (λ (u v : ℕ). put_bytes 0 (head_bytes u (maybe_price v p)) out) a b ∙ ap (λ v. put_bytes 0 (head_bytes (word (cell xs) C.last) (maybe_price (word (cell xs) C.marked) v)) out) c

module _ (s : Saved) (w : ℕ) (w_is : w ≡ length s.wallets) where
  pub wallets_room : (out mid : List ℕ) → mid ≡ put 4 out 17 w → 21 + 20 * w ≤ length out → 21 + length (wallets_bytes s) ≤ length mid
  wallets_room out mid e h = omega (arith, wallets_length s, ap length e, length_put 4 out 17 w)

  pub wallet_section_put : (out mid end : List ℕ) (o : ℕ) → mid ≡ put 4 out 17 w → Puts 21 (wallets_bytes s) o mid end → Puts 17 (wallet_section s) o out end
  unfolding wallet_section
  wallet_section_put out mid end o b p =
      let e : w ≡ length (map wallet_row s.wallets) = w_is ∙ sym (length-map s.wallets wallet_row) in
      puts_more 17 21 o (number 4 (length (map wallet_row s.wallets))) (wallets_bytes s) out (puts_number 4 17 (length (map wallet_row s.wallets)) out (b ∙ ap (put 4 out 17) e)) p

module _ (s : Saved) (n : ℕ) (n_is : n ≡ length s.orders) where
  pub orders_room : (out mid : List ℕ) (o : ℕ) → mid ≡ put 4 out o n → o + 4 + 37 * n ≤ length out → o + 4 + length (orders_bytes s) ≤ length mid
  orders_room out mid o e h = omega (arith, orders_length s, ap length e, length_put 4 out o n)

  pub order_section_put : (out mid end : List ℕ) (o k : ℕ) → mid ≡ put 4 out o n → Puts (o + 4) (orders_bytes s) k mid end → Puts o (order_section s) k out end
  unfolding order_section
  order_section_put out mid end o k b p =
      let e : n ≡ length (map order_row s.orders) = n_is ∙ sym (length-map s.orders order_row) in
      puts_more o (o + 4) k (number 4 (length (map order_row s.orders))) (orders_bytes s) out (puts_number 4 o (length (map order_row s.orders)) out (b ∙ ap (put 4 out o) e)) p

module _ (s : Saved) where
  pub behind_room : (w n o : ℕ) (bs out low mid : List ℕ) → w ≡ length s.wallets → 25 + 20 * w + 37 * n ≤ length out → low ≡ put_bytes 0 bs out → Puts 17 (wallet_section s) o low mid → o + 4 + 37 * n ≤ length mid
  unfolding wallet_section
  behind_room w n o bs out low mid e h q p =
      omega (arith, wallets_length s, p.next_is, ap length q, put_length 0 bs out, ap length p.put, put_length 17 (section wallet_widths (map wallet_row s.wallets)) low)

  pub all_put : (out low mid end : List ℕ) (o k : ℕ) → low ≡ put_bytes 0 (head_bytes s.last s.mark) out → Puts 17 (wallet_section s) o low mid → Puts o (order_section s) k mid end →
      end ≡ put_bytes 0 (encode s) out
  unfolding encode head_bytes wallet_section order_section
  all_put out low mid end o k a p q =
      let head = row head_widths (raw s).head in
      (puts_more 0 17 k head (section wallet_widths (raw s).wallets ++ section order_widths (raw s).orders) out (puts_run 17 head out 0 refl a)
      (puts_more 17 o k (section wallet_widths (raw s).wallets) (section order_widths (raw s).orders) low p q)).put

pub ruleset walks = (one_wallet, no_wallet, slot_room, slot_put, slot_passed, dead_passed, live_room, live_put, owner_fits, row_small, orders_counted, orders_few, head_saved, wallets_room, wallet_section_put, orders_room, order_section_put, behind_room, all_put, arith)
