-- A new order behind the others: the ledger has it, and the state stays sound. Assumes nothing.
use mathlib.Core.Path.{◌≡◌, refl, sym, ap, ◌∙◌, subst}
use mathlib.Core.Logic.{⊎_elim}
use mathlib.Core.List.{[], ◌∷◌, ◌++◌, append-nil}
use Prim.Native.Nat.{ℕ, ◌+◌, ◌≤◌, ◌<◌}
use native.Mathlib.Omega.{arith}
use lib.IntN.{◌+ℤ◌, ◌-ℤ◌}
use Rattle.orderbook.specs.declared.Side.{Side}
use Rattle.orderbook.specs.declared.Side.TheVariants.{Buy, Sell}
use Rattle.words.specs.Words.{int, wrap}
use Rattle.words.proofs.Int.{int_zero}
use Rattle.table.proofs.Live.{same?}
use Rattle.gateway.specs.Limits.{owner_slots}
use Rattle.store.specs.Cells as C
use Rattle.store.specs.View.{Row, Store, word, write, fill, side, ledger, depth, gateway, order_room}
use Rattle.orders.specs.declared.Live.{Live}
use Rattle.orders.specs.Orders.{order_of}
use Rattle.orders.specs.Orders as Orders
use Rattle.orders.proofs.Views.{Touched, Did, new_row, append_touched, append_view}
use Rattle.orders.proofs.Room.{make_room_view, make_room_room, make_room_each, make_room_other}
use Rattle.levels.specs.Levels.{block, map_block, used, size, row}
use Rattle.pending.specs.Pending.{Chained}
use Rattle.pending.proofs.Chain.{chained_same}
use Rattle.sound.specs.Sound.{Stored, held_cell, Clients, Tables, Sound}
use Rattle.sound.proofs.Kept.{outline, maps_same, levels_kept, clients_kept, clients_write, clients_room, chained_room}
use Rattle.sound.proofs.Totals.{Swapped, Counts, held_swapped}
use Rattle.live.specs.Live.{CanPlace, with_ledger, holding, placing, shift, place}
use Rattle.live.proofs.Accounts.{shift_view, open_view, tables_write, tables_shift, clients_shift, shift_counts, open_counts, hold_is, held_one, open_one}

module _ (s : Store) (d : Sound s) (n : ℕ) (o : Live) (can : CanPlace n o s) where
  abbrev roomy : Store
  roomy = Orders.make_room s

  abbrev grown : Store
  grown = Orders.append n (holding (word s C.fee) o) roomy

  made : Did s roomy (ledger s).orders (depth s).resting
  made = make_room_view s d.tables.ordered

  -- what squeezing leaves alone
  pub word_kept : (k : ℕ) → (k ≡ C.order_rows → ⊥) → word roomy k ≡ word s k
  word_kept k ne = make_room_other s d.tables.ordered C.header 0 k (λ e. omega arith) (λ e. omega arith) (λ e. omega arith) (λ e. ne)

  account_kept : (a k : ℕ) → roomy C.accounts a k ≡ s C.accounts a k
  account_kept a k = make_room_other s d.tables.ordered C.accounts a k (λ e. omega arith) (λ e. omega arith) (λ e. omega arith) (λ e f. omega arith)

  pub room : word roomy C.order_rows < order_room
  room = make_room_room s d.tables.ordered (omega (arith, can.room, d.tables.resting_few))

  above : (j : ℕ) → j < word roomy C.order_rows → roomy C.orders j C.order_number < n
  above = make_room_each s d.tables.ordered (λ r. r C.order_number < n) can.above

  appended : Did roomy grown ((ledger roomy).orders ++ (order_of n (holding (word s C.fee) o) ∷ [])) (depth roomy).resting
  appended = append_view roomy n (holding (word s C.fee) o) made.ordered room above

  orders_are : (ledger grown).orders ≡ (ledger s).orders ++ (order_of n o ∷ [])
  orders_are = ap (λ g. g.core.ledger.orders) appended.view ∙ ap (λ g. g.core.ledger.orders ++ (order_of n o ∷ [])) made.view

  resting_are : (depth grown).resting ≡ (depth s).resting
  resting_are = ap (λ g. g.rest.depth.resting) appended.view ∙ ap (λ g. g.rest.depth.resting) made.view

  pub place_view : gateway (place n o s) ≡ with_ledger (placing n o) (gateway s)
  unfolding place
  place_view =
      shift_view _ _ _ _ _ ∙ open_view _ _ grown ∙ appended.view
      ∙ ap (λ g. with_ledger (placing n o) g) made.view

  -- ---- the state

  owner_is : o.account < owner_slots
  owner_is = can.owner_is

  abbrev last_row : ℕ
  last_row = word roomy C.order_rows

  touched : Touched last_row (new_row roomy n (holding (word s C.fee) o)) roomy grown
  touched = append_touched roomy n (holding (word s C.fee) o)

  -- what is true of every row of s and of the new one is true of every row
  each_row : (P : Row → Type 0) → ((j : ℕ) → j < word s C.order_rows → P (s C.orders j)) → P (new_row roomy n (holding (word s C.fee) o)) → (j : ℕ) → j < word grown C.order_rows → P (grown C.orders j)
  unfolding Orders.append fill
  each_row P h x j l =
      ⊎_elim
      (λ (e : j ≡ last_row). let f : grown C.orders j ≡ new_row roomy n (holding (word s C.fee) o) = rw e touched.here in rw f x)
      (λ e. rw (touched.others j e) (make_room_each s d.tables.ordered P h j (omega (arith, e))))
      (same? j last_row)

  same_levels : (z : Side) (j k : ℕ) → grown (block z) j k ≡ s (block z) j k
  unfolding Orders.append fill
  same_levels Buy j k = make_room_other s d.tables.ordered C.bids j k (λ e. omega arith) (λ e. omega arith) (λ e. omega arith) (λ e f. omega arith)
  same_levels Sell j k = make_room_other s d.tables.ordered C.asks j k (λ e. omega arith) (λ e. omega arith) (λ e. omega arith) (λ e f. omega arith)

  same_map : (z : Side) (j : ℕ) → grown (map_block z) j C.map_bits ≡ s (map_block z) j C.map_bits
  unfolding Orders.append fill
  same_map Buy j = make_room_other s d.tables.ordered C.bid_map j C.map_bits (λ e. omega arith) (λ e. omega arith) (λ e. omega arith) (λ e f. omega arith)
  same_map Sell j = make_room_other s d.tables.ordered C.ask_map j C.map_bits (λ e. omega arith) (λ e. omega arith) (λ e. omega arith) (λ e f. omega arith)

  same_sizes : (z : Side) → outline z grown ≡ outline z s
  unfolding Orders.append fill used size
  same_sizes Buy = λ i. (word_kept C.bid_rows (λ e. omega arith) i, word_kept C.bid_levels (λ e. omega arith) i, maps_same s grown Buy (λ j l. same_map Buy j) i)
  same_sizes Sell = λ i. (word_kept C.ask_rows (λ e. omega arith) i, word_kept C.ask_levels (λ e. omega arith) i, maps_same s grown Sell (λ j l. same_map Sell j) i)

  same_rows : (z : Side) (j : ℕ) → row z grown j ≡ row z s j
  same_rows z j = λ i. record { key = same_levels z j C.level_price i; qty = same_levels z j C.level_qty i; orders = same_levels z j C.level_orders i }

  grown_words : (word grown C.live_orders ≡ word s C.live_orders + 1) × (word grown C.resting_orders ≡ word s C.resting_orders) × (word grown C.last ≡ word s C.last) × (word grown C.flying ≡ word s C.flying)
  unfolding Orders.append fill
  grown_words =
      (ap (λ m. m + 1) (word_kept C.live_orders (λ e. omega arith)), word_kept C.resting_orders (λ e. omega arith), word_kept C.last (λ e. omega arith), word_kept C.flying (λ e. omega arith))

  chained_grown : Chained grown
  unfolding Orders.append fill
  chained_grown = chained_same refl (chained_room s d.tables.ordered d.tables.chained)

  tables_grown : Tables grown
  tables_grown =
      let (a, b, c, e) = grown_words in
      record {
        ordered = appended.ordered;
        bids = levels_kept Buy (same_sizes Buy) (λ j l. same_rows Buy j) resting_are d.tables.bids;
        asks = levels_kept Sell (same_sizes Sell) (λ j l. same_rows Sell j) resting_are d.tables.asks;
        live_few = omega (arith, a, can.room);
        resting_few = rw b d.tables.resting_few;
        numbered = rw c (each_row (λ r. r C.order_number ≤ word s C.last) d.tables.numbered can.at_most_last);
        run = rw (c, e) d.tables.run;
        chained = chained_grown;
      }

  fee_grown : word grown C.fee ≡ word s C.fee
  unfolding Orders.append fill
  fee_grown = word_kept C.fee (λ e. omega arith)

  place_swapped : Swapped s (place n o s) o.account (side o.side) [] (order_of n o ∷ [])
  unfolding place shift
  place_swapped =
      record { low = (ledger s).orders; high = []; from = sym (append-nil (ledger s).orders); to = orders_are; old_mine = tt; new_mine = ((refl, refl), tt); fee_is = fee_grown }

  place_counts : Counts s (place n o s) o.account (side o.side) (int 0) (int (holding (word s C.fee) o).hold) 0 1
  unfolding place Orders.append fill
  place_counts =
      let a = o.account in
      let v = s C.accounts a C.account_open_orders in
      let e = open_counts a (v + 1) grown (place n o s) (side o.side) (int 0) (int (holding (word s C.fee) o).hold) 0 1 (omega (arith, account_kept a C.account_open_orders))
      (shift_counts a 0 (holding (word s C.fee) o).hold 0 (write C.accounts a C.account_open_orders (v + 1) grown) (side o.side)) in
      record {
        others = λ b ne. e.others b ne ∙ (λ i. (account_kept b C.account_cash_held i, account_kept b C.account_position_held i, account_kept b C.account_open_orders i));
        opposite = λ z ne. e.opposite z ne ∙ account_kept a (held_cell z);
        total = e.total ∙ ap (λ x. wrap (int x -ℤ int 0 +ℤ int (holding (word s C.fee) o).hold)) (account_kept a (held_cell (side o.side)));
        count = e.count ∙ ap (λ x. x + 1) (account_kept a C.account_open_orders);
      }

  new_stored : Stored (ledger s).fee (new_row roomy n (holding (word s C.fee) o))
  new_stored = record { hold_is = hold_is (word s C.fee) o.side o.priced o.price o.leaves; owner_is = owner_is }

  tables_placed : Tables (place n o s)
  unfolding place
  tables_placed = tables_shift _ _ _ _ _ (tables_write _ _ _ grown tables_grown)

  clients_grown : Clients grown
  unfolding Orders.append fill
  clients_grown = clients_kept (λ i l. refl) (λ a l. refl) refl (λ j l. refl) (clients_room s d.tables.ordered d.clients)

  clients_placed : Clients (place n o s)
  unfolding place
  clients_placed = clients_shift _ _ _ _ _ (clients_write _ C.account_open_orders _ grown (λ r. refl) clients_grown)

  pub place_sound : Sound (place n o s)
  unfolding place shift
  place_sound =
      record {
        tables = tables_placed;
        clients = clients_placed;
        held =
            held_swapped place_swapped place_counts d.held int_zero (hold_is (word s C.fee) o.side o.priced o.price o.leaves ∙ sym (held_one (ledger s).fee (order_of n o))) refl (sym (open_one (order_of n o)))
            (subst (λ f. (j : ℕ) → j < word grown C.order_rows → 0 < grown C.orders j C.order_live → Stored (int f) (grown C.orders j)) (sym fee_grown)
            (each_row (λ r. 0 < r C.order_live → Stored (ledger s).fee r) d.held.rows (λ _. new_stored)));
      }

  -- no row has a later number
  pub place_last : (j : ℕ) → j < word (place n o s) C.order_rows → place n o s C.orders j C.order_number ≤ n
  unfolding place shift
  place_last = each_row (λ r. r C.order_number ≤ n) (λ j l. let h = can.above j l in omega arith) (omega arith)
