-- A live order changes, ends or comes: the ledger moves as the definitions say, and the state stays sound. Assumes nothing.
use mathlib.Core.Path.{◌≡◌, refl, sym, ap, ◌∙◌}
use mathlib.Core.Logic.{⊎_elim}
use mathlib.Core.List.{[], ◌∷◌, ◌++◌}
use Prim.Native.Nat.{ℕ, zero, suc, ◌+◌, ◌-◌, ◌≤◌, ◌<◌}
use native.Mathlib.Omega.{arith}
use Rattle.orderbook.specs.declared.Side.{Side}
use Rattle.orderbook.specs.declared.Side.TheVariants.{Buy, Sell}
use Rattle.words.specs.Words.{int}
use Rattle.words.proofs.Int.{int_zero}
use Rattle.table.specs.Live.{pick}
use Rattle.table.proofs.Live.{same?}
use Rattle.gateway.specs.Table.{update}
use Rattle.gateway.specs.Ledger.{Order, number_of, remove, with_orders, order_hold, held, open_of}
use Rattle.store.specs.Cells as C
use Rattle.store.specs.View.{Row, Store, word, write, fill, side, order, ledger, depth, gateway}
use Rattle.store.proofs.Rows.{put_cell}
use Rattle.orders.specs.declared.Live.{Live}
use Rattle.orders.specs.Orders.{Ordered, Stays, live_row, strike}
use Rattle.orders.specs.Orders as Orders
use Rattle.orders.proofs.Views as Lists
use Rattle.orders.proofs.Views.{Touched, Did, put_cells, revised, revise_touched, retire_touched, live_parts}
use Rattle.orders.proofs.Kept.{stays_touched}
use Rattle.levels.specs.Levels.{used, size, row}
use Rattle.pending.proofs.Chain.{chains, chained_same}
use Rattle.sound.specs.Sound.{Stored, Clients, Tables, Sound}
use Rattle.sound.proofs.Kept.{sided, outline, levels_kept, clients_kept, clients_write}
use Rattle.sound.proofs.Totals.{Swapped, Counts, open_parts, held_swapped}
use Rattle.live.specs.Live.{with_ledger, hold_word, shift, revise, retire}
use Rattle.live.proofs.Accounts.{shift_view, open_view, tables_write, tables_shift, clients_shift, shift_counts, open_counts, hold_is, held_one, open_one}

-- ---- the order in the row i

one_is : {A : Type 0} (n : ℕ) (x : A) → n ≤ 1 → 0 < n → pick n x ≡ x ∷ []
one_is zero x h k = absurd (omega arith)
one_is (suc n) x h k = refl

-- what the tables need where one row changes and no order rests otherwise
module _ {s u : Store} (i : ℕ) (r : Row) (c : Touched i r s u) (d : Tables s) (g : Ordered u) (rows_are : word u C.order_rows ≡ word s C.order_rows) (number_is : r C.order_number ≡ s C.orders i C.order_number)
    (live_is : word u C.live_orders ≤ word s C.live_orders) (resting_is : word u C.resting_orders ≡ word s C.resting_orders) (rest : (depth u).resting ≡ (depth s).resting)
    (sizes : (z : Side) → outline z u ≡ outline z s) (rows : (z : Side) (j : ℕ) → row z u j ≡ row z s j) (same : chains u ≡ chains s) where
  word_kept : (k : ℕ) → (k ≡ C.order_rows → ⊥) → (k ≡ C.live_orders → ⊥) → (k ≡ C.resting_orders → ⊥) → word u k ≡ word s k
  word_kept = c.words

  tables_row : Tables u
  tables_row =
      record {
        ordered = g;
        bids = levels_kept Buy (sizes Buy) (λ j l. rows Buy j) rest d.bids;
        asks = levels_kept Sell (sizes Sell) (λ j l. rows Sell j) rest d.asks;
        live_few = omega (arith, d.live_few);
        resting_few = rw resting_is d.resting_few;
        numbered = λ j l.
            rw (c.words C.last (λ e. omega arith) (λ e. omega arith) (λ e. omega arith))
            (⊎_elim
            (λ (q : j ≡ i). rw (q, ap (λ (x : Row). x C.order_number) c.here ∙ number_is) (d.numbered i (rw (← q, ← rows_are) l)))
            (λ q. rw (ap (λ (x : Row). x C.order_number) (c.others j q)) (d.numbered j (rw (← rows_are) l)))
            (same? j i));
        run =
            rw (c.words C.flying (λ e. omega arith) (λ e. omega arith) (λ e. omega arith), c.words C.last (λ e. omega arith) (λ e. omega arith) (λ e. omega arith)) d.run;
        chained = chained_same same d.chained;
      }

module _ (s : Store) (d : Sound s) (i : ℕ) (l : i < word s C.order_rows) (m : 0 < s C.orders i C.order_live) where
  abbrev was : Row
  was = s C.orders i

  abbrev o : Live
  o = live_row was

  stored : Stored (ledger s).fee was
  stored = d.held.rows i l m

  picked : pick (was C.order_live) (order was) ≡ order was ∷ []
  picked = one_is (was C.order_live) (order was) (d.tables.ordered.sorted.flags i l).live_is m

  hold_one : int (was C.order_hold) ≡ held (ledger s).fee (was C.order_account) (side (was C.order_side)) (order was ∷ [])
  hold_one = stored.hold_is ∙ sym (held_one (ledger s).fee (order was))

  -- every row but the changed one
  rows_kept : {u : Store} (r : Row) → Touched i r s u → word u C.order_rows ≡ word s C.order_rows → (0 < r C.order_live → Stored (ledger s).fee r) → (j : ℕ) → j < word u C.order_rows → 0 < u C.orders j C.order_live → Stored (ledger s).fee (u C.orders j)
  rows_kept {u} r c w h j q n =
      ⊎_elim
      (λ (e : j ≡ i). let f : u C.orders j ≡ r = rw e c.here in rw f (h (rw f at n)))
      (λ e. let f = c.others j e in rw f (d.held.rows j (rw w at q) (rw f at n)))
      (same? j i)

  -- ---- another price or another quantity
  module _ (c p v : ℕ) where
    abbrev h : ℕ
    h = hold_word (word s C.fee) (was C.order_side) c p v

    abbrev now_row : Row
    now_row = put_cells C.order_priced (c ∷ p ∷ v ∷ h ∷ []) was

    abbrev u : Store
    u = Orders.revise i c p v h s

    abbrev t : Store
    t = revise i o c p v s

    touched : Touched i now_row s u
    touched = revise_touched s i d.tables.ordered l c p v h

    does : (f : Order → Order) → f (order was) ≡ revised c p v (order was) → Did s u (update number_of (was C.order_number) f (ledger s).orders) (depth s).resting
    does f e = Lists.revise_view s i d.tables.ordered l c p v h f e m

    now_stored : Stored (ledger s).fee now_row
    now_stored = record { hold_is = hold_is (word s C.fee) (was C.order_side) c p v; owner_is = stored.owner_is }

    swapped : Swapped s t (was C.order_account) (side (was C.order_side)) (order was ∷ []) (order now_row ∷ [])
    unfolding revise shift fill
    swapped =
        let (low, high, from, to) = live_parts s i d.tables.ordered l now_row u touched refl in
        record {
          low = low;
          high = high;
          from = from ∙ ap (λ x. low ++ (x ++ high)) picked;
          to = to ∙ ap (λ x. low ++ (x ++ high)) (one_is (was C.order_live) (order now_row) (d.tables.ordered.sorted.flags i l).live_is m);
          old_mine = ((refl, refl), tt);
          new_mine = ((refl, refl), tt);
          fee_is = refl;
        }

    counts : Counts s t (was C.order_account) (side (was C.order_side)) (int (was C.order_hold)) (int h) 1 1
    unfolding revise fill
    counts =
        let e = shift_counts (was C.order_account) (was C.order_hold) h 1 u (side (was C.order_side)) in
        record { others = e.others; opposite = e.opposite; total = e.total; count = e.count }

    pub revise_view : (f : Order → Order) → f (order was) ≡ revised c p v (order was) → gateway t ≡ with_ledger (with_orders (update number_of (was C.order_number) f (ledger s).orders)) (gateway s)
    unfolding revise
    revise_view f e = shift_view (was C.order_account) (side (was C.order_side)) (was C.order_hold) h u ∙ (does f e).view

    tables_revised : Tables t
    unfolding revise fill used size
    tables_revised =
        let g = does (revised c p v) refl in
        tables_shift _ _ _ _ u
        (tables_row i now_row touched d.tables g.ordered refl refl (omega arith) refl (ap (λ x. x.rest.depth.resting) g.view) (sided (λ z. outline z u ≡ outline z s) refl refl) (sided (λ z. (j : ℕ) → row z u j ≡ row z s j) (λ j. refl) (λ j. refl)) refl)

    clients_revised : Clients t
    unfolding revise fill
    clients_revised = clients_shift _ _ _ _ u (clients_kept (λ j l. refl) (λ a l. refl) refl (λ j l. refl) d.clients)

    pub revise_sound : Sound t
    unfolding revise shift fill
    revise_sound =
        record {
          tables = tables_revised;
          clients = clients_revised;
          held =
              held_swapped swapped counts d.held hold_one (now_stored.hold_is ∙ sym (held_one (ledger s).fee (order now_row))) (sym (open_one (order was))) (sym (open_one (order now_row)))
              (rows_kept now_row touched refl (λ _. now_stored));
        }

    pub revise_stays : Stays s t
    unfolding revise shift fill
    revise_stays = let e = stays_touched touched refl refl in record { rows_are = e.rows_are; numbers_are = e.numbers_are }

  -- ---- the end of it

  abbrev ended_row : Row
  ended_row = put_cell C.order_kept (was C.order_resting) (put_cell C.order_live 0 was)

  abbrev struck : Store
  struck = Orders.retire i s

  abbrev ended : Store
  ended = retire i o s

  struck_rows : word struck C.order_rows ≡ word s C.order_rows
  unfolding strike
  struck_rows = refl

  pub open_some : 0 < s C.accounts (was C.order_account) C.account_open_orders
  open_some =
      let (low, high, from, to) = live_parts s i d.tables.ordered l ended_row struck (retire_touched s i d.tables.ordered l) (struck_rows) in
      omega (arith, d.held.counts (was C.order_account) stored.owner_is, open_parts (was C.order_account) low (order was ∷ []) [] high, open_one (order was), ap (open_of (was C.order_account)) (from ∙ ap (λ x. low ++ (x ++ high)) picked))

  retire_swapped : Swapped s ended (was C.order_account) (side (was C.order_side)) (order was ∷ []) []
  unfolding retire shift strike
  retire_swapped =
      let (low, high, from, to) = live_parts s i d.tables.ordered l ended_row struck (retire_touched s i d.tables.ordered l) refl in
      record { low = low; high = high; from = from ∙ ap (λ x. low ++ (x ++ high)) picked; to = to; old_mine = ((refl, refl), tt); new_mine = tt; fee_is = refl }

  retire_counts : Counts s ended (was C.order_account) (side (was C.order_side)) (int (was C.order_hold)) (int 0) 1 0
  unfolding retire strike
  retire_counts =
      let a = was C.order_account in
      let n = s C.accounts a C.account_open_orders in
      let e = open_counts a (n - 1) struck ended (side (was C.order_side)) (int (was C.order_hold)) (int 0) 1 0 (omega (arith, open_some))
      (shift_counts a (was C.order_hold) 0 0 (write C.accounts a C.account_open_orders (n - 1) struck) (side (was C.order_side))) in
      record { others = e.others; opposite = e.opposite; total = e.total; count = e.count }

  pub retire_view : gateway ended ≡ with_ledger (with_orders (remove (was C.order_number) (ledger s).orders)) (gateway s)
  unfolding retire
  retire_view = shift_view _ _ _ _ _ ∙ open_view _ _ struck ∙ (Lists.retire_view s i d.tables.ordered l m).view

  tables_retired : Tables ended
  unfolding retire strike used size
  tables_retired =
      let g = Lists.retire_view s i d.tables.ordered l m in
      tables_shift _ _ _ _ _
      (tables_write _ _ _ struck
      (tables_row i ended_row (retire_touched s i d.tables.ordered l) d.tables g.ordered refl refl (omega arith) refl (ap (λ x. x.rest.depth.resting) g.view) (sided (λ z. outline z struck ≡ outline z s) refl refl) (sided (λ z. (j : ℕ) → row z struck j ≡ row z s j) (λ j. refl) (λ j. refl)) refl))

  clients_retired : Clients ended
  unfolding retire strike
  clients_retired =
      clients_shift _ _ _ _ _ (clients_write _ C.account_open_orders _ struck (λ r. refl) (clients_kept (λ j l. refl) (λ a l. refl) refl (λ j l. refl) d.clients))

  pub retire_sound : Sound ended
  unfolding retire shift strike
  retire_sound =
      record {
        tables = tables_retired;
        clients = clients_retired;
        held =
            held_swapped retire_swapped retire_counts d.held hold_one int_zero (sym (open_one (order was))) refl
            (rows_kept ended_row (retire_touched s i d.tables.ordered l) refl (λ n. absurd (omega arith)));
      }

  pub retire_stays : Stays s ended
  unfolding retire shift strike
  retire_stays = let e = stays_touched (retire_touched s i d.tables.ordered l) refl refl in record { rows_are = e.rows_are; numbers_are = e.numbers_are }
