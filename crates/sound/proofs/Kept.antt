-- What leaves a part of the state alone keeps the part of the invariant that speaks of it. Assumes nothing.
use Rattle.std.specs.Prelude.{Option, is_some}
use mathlib.Core.Path.{◌≡◌, refl, sym, ap, ◌∙◌, subst}
use mathlib.Core.List.{List}
use mathlib.Core.Logic.{inl}
use Prim.Native.Nat.{ℕ, ◌/◌, ◌≤◌, ◌<◌}
use native.Mathlib.Omega.{arith}
use lib.IntN.{ℤ}
use lib.ListN.{length, get_or}
use Rattle.orderbook.specs.declared.Side.{Side}
use Rattle.orderbook.specs.declared.Side.TheVariants.{Buy, Sell}
use Rattle.words.specs.Words.{int, wrap}
use Rattle.table.proofs.Live.{live_ext, ascends_ext}
use Rattle.gateway.specs.Limits.{owner_slots, session_slots, most_levels}
use Rattle.gateway.specs.Ledger.{number_of, find, order_hold, held, open_of}
use Rattle.gateway.specs.Depth as Depth
use Rattle.gateway.specs.Calls.{Gateway}
use Rattle.store.specs.Cells as C
use Rattle.store.specs.Layout.{cell}
use Rattle.gateway.specs.Rest.{account_of}
use Rattle.store.specs.View.{Row, Store, Same, Is, Bounds, word, write, listed, session, order, resting, ledger, depth, gateway}
use Rattle.store.proofs.Places.{header_cell, account_cell, session_cell, command_cell, changed_cell, top_cell}
use Rattle.store.proofs.Rows.{put_cell, row_unread}
use Rattle.store.proofs.Listed.{listed_ext, listed_at}
use Rattle.pending.specs.Pending.{Chained}
use Rattle.pending.proofs.Chain.{chained_kept}
use Rattle.clients.proofs.Links.{two_cells, linked_ext}
use Rattle.clients.proofs.Limits.{limited_ext}
use Rattle.store.proofs.Frames.{Agree, order_same, gateway_same}
use Rattle.orders.proofs.Views.{Keeps, live_kept, resting_kept, ordered_kept, same_keeps, bounds_same}
use Rattle.orders.specs.Orders.{Ordered, Sorted, Sees, Stays, make_room}
use Rattle.orders.proofs.Kept.{stays_bytes, still_live, still_resting}
use Rattle.orders.proofs.Room.{make_room_other}
use Rattle.levels.specs.Levels.{block, map_block, used_cell, size_cell, key, orders, row, used, size, bits, entries, best}
use Rattle.levels.proofs.Laws.{used_place, size_place, block_cell, map_row, levels_alike}
use Rattle.bitmap.proofs.Laws.{same_bit}
use Rattle.bitmap.proofs.Mapped.{mapped_ext}
use Rattle.sound.specs.Sound.{Stored, held_cell, Held, Levels, Clients, Tables, Sound, State, Becomes, InPlace}

-- for each side
pub sided : (P : Side → Type 0) → P Buy → P Sell → (z : Side) → P z
sided P b a Buy = b
sided P b a Sell = a

-- ---- the live orders' caches

-- the three cells of an account's row
abbrev pub caches : Store → ℕ → ℕ × ℕ × ℕ
caches s a = (s C.accounts a C.account_cash_held, s C.accounts a C.account_position_held, s C.accounts a C.account_open_orders)

pub total_same : (t s : Store) (a : ℕ) (z : Side) → caches t a ≡ caches s a → t C.accounts a (held_cell z) ≡ s C.accounts a (held_cell z)
total_same t s a Buy e = ap (λ c. c.0) e
total_same t s a Sell e = ap (λ c. c.1) e

pub stored_kept : (fee : ℤ) (q r : Row) → Agree 16 q r → Stored fee q → Stored fee r
stored_kept fee q r h d =
    record {
      hold_is = rw (← h C.order_hold (omega arith)) (d.hold_is ∙ ap (order_hold fee) (order_same q r h));
      owner_is = rw (← h C.order_account (omega arith)) d.owner_is;
    }

pub held_kept : {s t : Store} → Keeps s t → ((a : ℕ) → a < owner_slots → caches t a ≡ caches s a) → Held s → Held t
held_kept {s} {t} e c d =
    record {
      rows = λ j l m.
          let h : j < word s C.order_rows = rw e.rows_are at l in
          subst (λ f. Stored (int f) (t C.orders j)) (sym e.fee_is)
          (stored_kept (ledger s).fee (s C.orders j) (t C.orders j) (λ k q. sym (e.cells j k h q)) (d.rows j h (rw (e.cells j C.order_live h (omega arith)) at m)));
      totals = λ a l z. total_same t s a z (c a l) ∙ d.totals a l z ∙ sym (λ i. wrap (held (int (e.fee_is i)) a z (live_kept e i)));
      counts = λ a l. ap (λ x. x.2) (c a l) ∙ d.counts a l ∙ sym (ap (open_of a) (live_kept e));
    }

pub numbered_kept : {s t : Store} → Keeps s t → word s C.last ≤ word t C.last →
    ((j : ℕ) → j < word s C.order_rows → s C.orders j C.order_number ≤ word s C.last) → (j : ℕ) → j < word t C.order_rows → t C.orders j C.order_number ≤ word t C.last
numbered_kept e w h j l = let m = rw e.rows_are at l in rw (e.cells j C.order_number m (omega arith)) (omega (arith, h j m))

-- ---- the levels

-- how many rows are in use, how many levels there are, and the cells of the map
abbrev pub map_cells : Side → Store → List ℕ
map_cells z s = listed (λ j. s (map_block z) j C.map_bits) 8

abbrev pub outline : Side → Store → ℕ × ℕ × List ℕ
outline z s = (used z s, size z s, map_cells z s)

pub maps_same : (s t : Store) (z : Side) → ((j : ℕ) → j < 8 → t (map_block z) j C.map_bits ≡ s (map_block z) j C.map_bits) → map_cells z t ≡ map_cells z s
maps_same s t z e = listed_ext (λ j. s (map_block z) j C.map_bits) (λ j. t (map_block z) j C.map_bits) 8 e

pub bits_same : (s t : Store) (z : Side) → map_cells z t ≡ map_cells z s → (j : ℕ) → j < most_levels → bits z t j ≡ bits z s j
bits_same s t z e j h =
    same_bit (map_block z) t s j
    (sym (listed_at (λ i. t (map_block z) i C.map_bits) 8 (j / 64) 0 (omega arith)) ∙ ap (λ l. get_or l (j / 64) 0) e ∙ listed_at (λ i. s (map_block z) i C.map_bits) 8 (j / 64) 0 (omega arith))

pub levels_kept : {s t : Store} (z : Side) → outline z t ≡ outline z s → ((j : ℕ) → j < used z s → row z t j ≡ row z s j) → (depth t).resting ≡ (depth s).resting → Levels z s → Levels z t
unfolding entries
levels_kept {s} {t} z n r e d =
    let rows : used z t ≡ used z s = ap (λ x. x.0) n in
    let list : entries z t ≡ entries z s = rw rows (live_ext orders (row z s) (row z t) (used z s) r) in
    record {
      rising = rw rows (ascends_ext key (row z s) (row z t) (used z s) (λ j h. ap key (r j h)) d.rising);
      are = ap (best z) list ∙ d.are ∙ sym (ap (Depth.levels z) e);
      counted = ap (λ x. x.1) n ∙ d.counted ∙ sym (ap length list);
      mapped = rw rows (mapped_ext (map_block z) most_levels s t (bits_same s t z (ap (λ x. x.2) n)) (λ j h. levels_alike (row z s) (row z t) (used z s) j (λ l. inl (ap orders (r j l)))) d.mapped);
    }

-- ---- accounts, sessions and the batch

-- the cells of an account's row that it speaks of
abbrev pub marks : Row → ℕ × ℕ × ℕ
marks r = (r C.account_session, r C.account_max_open, r C.account_rate)

pub clients_kept : {s t : Store} → ((i : ℕ) → i < session_slots → account_of (session (t C.sessions i)) ≡ account_of (session (s C.sessions i))) →
    ((a : ℕ) → a < owner_slots → marks (t C.accounts a) ≡ marks (s C.accounts a)) → word t C.waiting ≡ word s C.waiting →
    ((j : ℕ) → j < word s C.waiting → t C.batch j C.command_owner ≡ s C.batch j C.command_owner) → Clients s → Clients t
clients_kept {s} {t} p q n b d =
    record {
      linked = linked_ext s t p (λ a l. ap (λ x. x.0) (q a l)) d.linked;
      limited = limited_ext s t (λ a l. ap (λ x. x.1) (q a l)) (λ a l. ap (λ x. x.2) (q a l)) d.limited;
      batch = λ j l. let h : j < word s C.waiting = rw n at l in record { owner_fits = rw (b j h) (d.batch j h).owner_fits };
    }

-- a cell of an account's row that it does not speak of
pub clients_write : (a k v : ℕ) (s : Store) → ((r : Row) → marks (put_cell k v r) ≡ marks r) → Clients s → Clients (write C.accounts a k v s)
clients_write a k v s h = clients_kept (λ i l. refl) (λ b l. row_unread C.accounts a k v s marks h b) refl (λ j l. refl)

-- they are elsewhere where the table of orders is squeezed
pub clients_room : (s : Store) → Ordered s → Clients s → Clients (make_room s)
clients_room s o =
    clients_kept (λ i l. ap (λ (r : Row). account_of (session r)) (λ z k. at C.sessions i k (λ e. omega arith) (λ e. omega arith) (λ e. omega arith) (λ e f. omega arith) z))
    (λ a l z. (account a C.account_session z, account a C.account_max_open z, account a C.account_rate z))
    (at C.header 0 C.waiting (λ e. omega arith) (λ e. omega arith) (λ e. omega arith) (λ e f. omega arith))
    (λ j l. at C.batch j C.command_owner (λ e. omega arith) (λ e. omega arith) (λ e. omega arith) (λ e f. omega arith))
  where
    at : (b i k : ℕ) → (b ≡ C.orders → ⊥) → (b ≡ C.hints → ⊥) → (b ≡ C.order_map → ⊥) → (b ≡ C.header → k ≡ C.order_rows → ⊥) → make_room s b i k ≡ s b i k
    at = make_room_other s o

    account : (a k : ℕ) → make_room s C.accounts a k ≡ s C.accounts a k
    account a k = at C.accounts a k (λ e. omega arith) (λ e. omega arith) (λ e. omega arith) (λ e f. omega arith)

pub chained_room : (s : Store) → Ordered s → Chained s → Chained (make_room s)
chained_room s o =
    chained_kept s (make_room s) (make_room_other s o C.header 0 C.changed_rows (λ e. omega arith) (λ e. omega arith) (λ e. omega arith) (λ e f. omega arith))
    (λ j k l m. make_room_other s o C.changed j k (λ e. omega arith) (λ e. omega arith) (λ e. omega arith) (λ e f. omega arith))
    (λ k l. make_room_other s o C.tops k C.top_row (λ e. omega arith) (λ e. omega arith) (λ e. omega arith) (λ e f. omega arith))

-- ---- what changes neither orders nor levels

pub record Beside (s t : Store) : Type 0 where
  pub keeps : Keeps s t
  pub sizes : (z : Side) → outline z t ≡ outline z s
  pub levels_are : (z : Side) (j : ℕ) → j < used z s → row z t j ≡ row z s j

-- the words that may grow: in bounds, and the last number; and the chains of changed levels
pub record Grown (s t : Store) : Type 0 where
  pub bounds : Bounds t
  pub last_is : word s C.last ≤ word t C.last
  pub run : word t C.flying ≤ word t C.last
  pub chained : Chained t

module _ {s t : Store} (e : Beside s t) (g : Grown s t) where
  pub tables_beside : Tables s → Tables t
  tables_beside d =
      record {
        ordered = ordered_kept e.keeps g.bounds d.ordered;
        bids = levels_kept Buy (e.sizes Buy) (e.levels_are Buy) (resting_kept e.keeps) d.bids;
        asks = levels_kept Sell (e.sizes Sell) (e.levels_are Sell) (resting_kept e.keeps) d.asks;
        live_few = rw e.keeps.live_are d.live_few;
        resting_few = rw e.keeps.resting_are d.resting_few;
        numbered = numbered_kept e.keeps g.last_is d.numbered;
        run = g.run;
        chained = g.chained;
      }

  pub sound_beside : ((a : ℕ) → a < owner_slots → caches t a ≡ caches s a) → (Clients s → Clients t) → Sound s → Sound t
  sound_beside c f d = record { tables = tables_beside d.tables; held = held_kept e.keeps c d.held; clients = f d.clients }

-- ---- from a program to its bytes

module _ (s t : Store) (e : Same s t) (d : Sound s) where
  abbrev bounds : Bounds s
  bounds = d.tables.ordered.bounds

  word_same : (k : ℕ) → k < 32 → word t k ≡ word s k
  word_same k l = sym (e C.header 0 k (header_cell k l))

  size_same : (z : Side) → outline z t ≡ outline z s
  unfolding used size
  size_same z =
      λ i. (
        sym (e C.header 0 (used_cell z) (used_place z)) i,
        sym (e C.header 0 (size_cell z) (size_place z)) i,
        maps_same s t z (λ j l. sym (e (map_block z) j C.map_bits (map_row z j l))) i,
      )

  few : (z : Side) → used z s ≤ most_levels
  unfolding used
  few Buy = bounds.bids_fit
  few Sell = bounds.asks_fit

  row_same : (z : Side) (j : ℕ) → j < used z s → row z t j ≡ row z s j
  row_same z j h = λ i. record { key = at 0 (omega arith) i; qty = at 1 (omega arith) i; orders = at 2 (omega arith) i }
    where
      at : (k : ℕ) → k < 4 → t (block z) j k ≡ s (block z) j k
      at k l = sym (e (block z) j k (block_cell z j k (omega (arith, few z)) l))

  cache_same : (a : ℕ) → a < owner_slots → caches t a ≡ caches s a
  cache_same a l = λ i. (at C.account_cash_held (omega arith) i, at C.account_position_held (omega arith) i, at C.account_open_orders (omega arith) i)
    where
      at : (k : ℕ) → k < 16 → t C.accounts a k ≡ s C.accounts a k
      at k q = sym (e C.accounts a k (account_cell a k l q))

  mark_same : (a : ℕ) → a < owner_slots → marks (t C.accounts a) ≡ marks (s C.accounts a)
  mark_same a l = λ i. (at C.account_session (omega arith) i, at C.account_max_open (omega arith) i, at C.account_rate (omega arith) i)
    where
      at : (k : ℕ) → k < 16 → t C.accounts a k ≡ s C.accounts a k
      at k q = sym (e C.accounts a k (account_cell a k l q))

  clients_same : Clients s → Clients t
  clients_same =
      clients_kept
      (λ i l.
      two_cells (t C.sessions i) (s C.sessions i) (sym (e C.sessions i C.session_connected (session_cell i C.session_connected l (omega arith))))
      (sym (e C.sessions i C.session_account (session_cell i C.session_account l (omega arith)))))
      mark_same (word_same C.waiting (omega arith))
      (λ j l. sym (e C.batch j C.command_owner (command_cell j C.command_owner (omega (arith, bounds.batch_fits)) (omega arith))))

  chained_here : Chained t
  chained_here =
      chained_kept s t (word_same C.changed_rows (omega arith)) (λ j k l q. sym (e C.changed j k (changed_cell j k (omega (arith, bounds.changed_fit)) q)))
      (λ k l. sym (e C.tops k C.top_row (top_cell k C.top_row l (omega arith)))) d.tables.chained

  pub sound_same : Sound t
  sound_same =
      sound_beside
      (record { keeps = same_keeps s t e bounds; sizes = size_same; levels_are = row_same })
      (record {
        bounds = bounds_same s t e bounds;
        last_is = rw (word_same C.last (omega arith)) (omega arith);
        run = rw (word_same C.flying (omega arith), word_same C.last (omega arith)) d.tables.run;
        chained = chained_here;
      })
      cache_same clients_same d

-- a program whose store is sound and holds the gateway g
pub becomes : {ys : List ℕ} {s : Store} {g : Gateway} → Is ys s → Sound s → gateway s ≡ g → Becomes ys g
becomes {ys} {s} h d e =
    let q : Same s (cell ys) = λ b i k c. sym (h.same b i k c) in
    record {
      state = record { holds = h.holds; sound = sound_same s (cell ys) q d };
      gateway_is = sym (gateway_same s (cell ys) d.tables.ordered.bounds q) ∙ e;
    }

-- and that moves no row of orders
pub in_place : {xs ys : List ℕ} {t : Store} {g : Gateway} → State xs → Is ys t → Sound t → gateway t ≡ g → Stays (cell xs) t → InPlace xs ys g
in_place st h d e q = record { becomes = becomes h d e; stays = stays_bytes st.sound.tables.ordered.bounds q h }

-- ---- a place survives where no row moves: the order is there as before
module _ {xs ys : List ℕ} {g : Gateway} (b : InPlace xs ys g) (n : ℕ) (at : Option ℕ) where
  sorted : Sorted (cell ys)
  sorted = b.becomes.state.sound.tables.ordered.sorted

  pub seen_live : is_some (find n g.core.ledger.orders) ≡ is_some (find n (ledger (cell xs)).orders) → Sees C.order_live order number_of (cell xs) n at → Sees C.order_live order number_of (cell ys) n at
  seen_live e = still_live n at b.stays sorted (ap (λ (h : Gateway). is_some (find n h.core.ledger.orders)) b.becomes.gateway_is ∙ e)

  pub seen_resting : is_some (Depth.find_resting n g.rest.depth.resting) ≡ is_some (Depth.find_resting n (depth (cell xs)).resting) →
      Sees C.order_resting resting Depth.resting_number (cell xs) n at → Sees C.order_resting resting Depth.resting_number (cell ys) n at
  seen_resting e = still_resting n at b.stays sorted (ap (λ (h : Gateway). is_some (Depth.find_resting n h.rest.depth.resting)) b.becomes.gateway_is ∙ e)
