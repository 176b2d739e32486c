-- What an operation does in steps: first a side's levels change, then the row of the order, then the list of changed levels. Between the first
-- two the levels are those of the list of orders to come. Assumes nothing.
use mathlib.Core.Path.{◌≡◌, refl, sym, ap, ◌∙◌, subst}
use mathlib.Core.Bool.{false, cond}
use mathlib.Core.Logic.{inl}
use mathlib.Core.List.{List, [], ◌∷◌, ◌++◌}
use Prim.Native.Nat.{ℕ, ◌+◌, ◌≤◌, ◌<◌}
use native.Mathlib.Omega.{arith}
use lib.IntN.{ℤ}
use lib.ListN.{length, length-append}
use Rattle.orderbook.specs.declared.Side.{Side}
use Rattle.orderbook.specs.declared.Side.TheVariants.{Buy, Sell}
use Rattle.words.specs.Words.{int, wrap}
use Rattle.table.specs.Live.{Ascends}
use Rattle.table.proofs.Live.{live_ext, ascends_ext}
use Rattle.gateway.specs.Limits.{owner_slots, session_slots, most_orders, most_levels, most_changed}
use Rattle.gateway.specs.Ledger.{order_hold, same_side, held, open_of}
use Rattle.gateway.specs.Rest.{account_of}
use Rattle.gateway.specs.Depth.{Resting, is_changed}
use Rattle.gateway.specs.Depth as D
use Rattle.gateway.proofs.Base.{split}
use Rattle.store.specs.Cells as C
use Rattle.store.specs.Layout.{cell}
use Rattle.store.specs.View.{Row, Store, Bounds, word, session, ledger, depth, changed_key}
use Rattle.store.proofs.Places.{header_cell, account_cell, session_cell, command_cell, order_cell, changed_cell, top_cell, order_map_cell}
use Rattle.store.proofs.Listed.{listed_length}
use Rattle.orders.specs.declared.Live.{Live}
use Rattle.orders.specs.Orders.{Ordered, live_row, order_of}
use Rattle.orders.proofs.Views.{Touched, Did, Keeps, same_rows, ordered_kept}
use Rattle.levels.specs.declared.Row as LRow
use Rattle.levels.specs.Levels.{block, row, used, size, entries, best, Table}
use Rattle.levels.specs.Levels as L
use Rattle.levels.proofs.Laws.{header_not_block, levels_alike}
use Rattle.levels.proofs.Depth.{Holding}
use Rattle.levels.proofs.Views.{asks_stay, bids_stay}
use Rattle.clients.proofs.Links.{two_cells}
use Rattle.pending.specs.Pending as Pending
use Rattle.pending.proofs.Chain.{chains, chained_kept, chained_same}
use Rattle.sound.specs.Sound.{Stored, Held, Levels, Clients, Tables, Sound, State}
use Rattle.sound.proofs.Listed.{side_table}
use Rattle.bitmap.specs.Bitmap.{Mapped}
use Rattle.bitmap.proofs.Mapped.{mapped_ext}
use Rattle.sound.proofs.Kept.{sided, map_cells, bits_same, outline, caches, total_same, held_kept, numbered_kept, marks, clients_kept}
use Rattle.sound.proofs.Waiting.{push_level_sound}
use Rattle.marketdata.specs.Marketdata.{Roomy, remembering}
use Rattle.pending.specs.Pending.{key}

-- the state is sound, but its levels are those of the orders rs
pub record Follows (rs : List Resting) (s : Store) : Type 0 where
  pub ordered : Ordered s
  pub rising : (z : Side) → Ascends L.key (row z s) (used z s)
  pub counted : (z : Side) → size z s ≡ length (entries z s)
  pub mapped : (z : Side) → Mapped (L.map_block z) most_levels s (L.is_level (row z s) (used z s))
  pub are : (z : Side) → best z (entries z s) ≡ D.levels z rs
  pub live_few : word s C.live_orders ≤ most_orders
  pub resting_few : word s C.resting_orders ≤ most_orders
  pub numbered : (j : ℕ) → j < word s C.order_rows → s C.orders j C.order_number ≤ word s C.last
  pub run : word s C.flying ≤ word s C.last
  pub chained : Pending.Chained s
  pub held : Held s
  pub clients : Clients s

pub side_levels : {s : Store} → Tables s → (z : Side) → Levels z s
side_levels {s} d = sided (λ z. Levels z s) d.bids d.asks

pub follows_itself : {s : Store} → Sound s → Follows (depth s).resting s
follows_itself d =
    let t = d.tables in
    record {
      ordered = t.ordered;
      rising = λ z. (side_levels t z).rising;
      counted = λ z. (side_levels t z).counted;
      mapped = λ z. (side_levels t z).mapped;
      are = λ z. (side_levels t z).are;
      live_few = t.live_few;
      resting_few = t.resting_few;
      numbered = t.numbered;
      run = t.run;
      chained = t.chained;
      held = d.held;
      clients = d.clients;
    }

-- ---- the levels of a side change

not_count : (z : Side) {k : ℕ} → k < C.bid_levels → (k ≡ C.bid_rows → ⊥) → (k ≡ C.ask_rows → ⊥) → L.Other z C.header k
not_count Buy h b a = (λ _ e. b e, λ _ e. omega arith)
not_count Sell h b a = (λ _ e. a e, λ _ e. omega arith)

-- the fee stands behind the counts
fee_not_count : (z : Side) → L.Other z C.header C.fee
fee_not_count Buy = (λ _ e. omega arith, λ _ e. omega arith)
fee_not_count Sell = (λ _ e. omega arith, λ _ e. omega arith)

not_block : (z : Side) {b : ℕ} → b < C.bids → b ≡ block z → ⊥
not_block Buy h e = omega arith
not_block Sell h e = omega arith

not_side : (z : Side) {b : ℕ} → C.asks < b → b ≡ block z → ⊥
not_side Buy h e = omega arith
not_side Sell h e = omega arith

not_map : (z : Side) {b : ℕ} → b < C.bid_map → b ≡ L.map_block z → ⊥
not_map Buy h e = omega arith
not_map Sell h e = omega arith

not_levels : (z : Side) → C.order_map ≡ L.map_block z → ⊥
not_levels Buy e = omega arith
not_levels Sell e = omega arith

module _ (z : Side) {xs ys : List ℕ} {l : List LRow.Row} (d : L.Did z xs ys l) (s : State xs) where
  abbrev was : Tables (cell xs)
  was = s.sound.tables

  word_kept : (k : ℕ) → k < C.bid_levels → (k ≡ C.bid_rows → ⊥) → (k ≡ C.ask_rows → ⊥) → word (cell ys) k ≡ word (cell xs) k
  word_kept k q b a = d.kept C.header 0 k (header_cell k (omega arith)) (header_not_block z) (not_map z (omega arith)) (not_count z q b a)

  pub keeps : Keeps (cell xs) (cell ys)
  keeps =
      record {
        rows_are = word_kept C.order_rows (omega arith) (λ e. omega arith) (λ e. omega arith);
        live_are = word_kept C.live_orders (omega arith) (λ e. omega arith) (λ e. omega arith);
        resting_are = word_kept C.resting_orders (omega arith) (λ e. omega arith) (λ e. omega arith);
        fee_is = d.kept C.header 0 C.fee (header_cell C.fee (omega arith)) (header_not_block z) (not_map z (omega arith)) (fee_not_count z);
        cells = λ j k h q. d.kept C.orders j k (order_cell j k (omega (arith, was.ordered.bounds.orders_fit)) q) (not_block z (omega arith)) (not_map z (omega arith)) (λ e. absurd (omega arith), λ e. absurd (omega arith));
        map_is = λ j h. d.kept C.order_map j C.map_bits (order_map_cell j C.map_bits h (omega arith)) (not_side z (omega arith)) (not_levels z) (λ e. absurd (omega arith), λ e. absurd (omega arith));
      }

  caches_kept : (a : ℕ) → a < owner_slots → caches (cell ys) a ≡ caches (cell xs) a
  caches_kept a h = λ i. (at C.account_cash_held (omega arith) i, at C.account_position_held (omega arith) i, at C.account_open_orders (omega arith) i)
    where
      at : (k : ℕ) → k < 16 → cell ys C.accounts a k ≡ cell xs C.accounts a k
      at k q = d.kept C.accounts a k (account_cell a k h q) (not_block z (omega arith)) (not_map z (omega arith)) (λ e. absurd (omega arith), λ e. absurd (omega arith))

  clients_stay : Clients (cell ys)
  clients_stay =
      clients_kept
      (λ i h. two_cells (cell ys C.sessions i) (cell xs C.sessions i) (session i C.session_connected h (omega arith)) (session i C.session_account h (omega arith)))
      (λ a h i. (account a C.account_session h (omega arith) i, account a C.account_max_open h (omega arith) i, account a C.account_rate h (omega arith) i))
      (word_kept C.waiting (omega arith) (λ e. omega arith) (λ e. omega arith))
      (λ j h. d.kept C.batch j C.command_owner (command_cell j C.command_owner (omega (arith, was.ordered.bounds.batch_fits)) (omega arith)) (not_block z (omega arith)) (not_map z (omega arith)) (λ e. absurd (omega arith), λ e. absurd (omega arith)))
      s.sound.clients
    where
      session : (i k : ℕ) → i < session_slots → k < 8 → cell ys C.sessions i k ≡ cell xs C.sessions i k
      session i k h q = d.kept C.sessions i k (session_cell i k h q) (not_block z (omega arith)) (not_map z (omega arith)) (λ e. absurd (omega arith), λ e. absurd (omega arith))

      account : (a k : ℕ) → a < owner_slots → k < 16 → cell ys C.accounts a k ≡ cell xs C.accounts a k
      account a k h q = d.kept C.accounts a k (account_cell a k h q) (not_block z (omega arith)) (not_map z (omega arith)) (λ e. absurd (omega arith), λ e. absurd (omega arith))

  chained_stay : Pending.Chained (cell ys)
  chained_stay =
      chained_kept (cell xs) (cell ys) (word_kept C.changed_rows (omega arith) (λ e. omega arith) (λ e. omega arith))
      (λ j k h q. d.kept C.changed j k (changed_cell j k (omega (arith, was.ordered.bounds.changed_fit)) q) (not_side z (omega arith)) (not_map z (omega arith)) (λ e. absurd (omega arith), λ e. absurd (omega arith)))
      (λ k h. d.kept C.tops k C.top_row (top_cell k C.top_row h (omega arith)) (not_side z (omega arith)) (not_map z (omega arith)) (λ e. absurd (omega arith), λ e. absurd (omega arith)))
      was.chained

  module _ (rs : List Resting) (mine : Holding z ys rs) (other : (w : Side) → same_side w z ≡ false → D.levels w rs ≡ D.levels w (depth (cell xs)).resting) where
    both : (w : Side) → Table w ys × Holding w ys rs
    both = go z d mine other
      where
        go : (z : Side) → L.Did z xs ys l → Holding z ys rs → ((w : Side) → same_side w z ≡ false → D.levels w rs ≡ D.levels w (depth (cell xs)).resting) → (w : Side) → Table w ys × Holding w ys rs
        go Buy d h o Buy = (d.table, h)
        go Buy d h o Sell = let t = asks_stay d (side_table s Sell) in (t.0, ap (best Sell) t.1 ∙ was.asks.are ∙ sym (o Sell refl))
        go Sell d h o Buy = let t = bids_stay d (side_table s Buy) in (t.0, ap (best Buy) t.1 ∙ was.bids.are ∙ sym (o Buy refl))
        go Sell d h o Sell = (d.table, h)

    bounds : Bounds (cell ys)
    unfolding used
    bounds =
        let b = was.ordered.bounds in
        record {
          accounts_fit = rw (word_kept C.owner_limit (omega arith) (λ e. omega arith) (λ e. omega arith)) b.accounts_fit;
          flights_fit = rw (word_kept C.flying (omega arith) (λ e. omega arith) (λ e. omega arith)) b.flights_fit;
          batch_fits = rw (word_kept C.waiting (omega arith) (λ e. omega arith) (λ e. omega arith)) b.batch_fits;
          orders_fit = rw (word_kept C.order_rows (omega arith) (λ e. omega arith) (λ e. omega arith)) b.orders_fit;
          bids_fit = (both Buy).0.few;
          asks_fit = (both Sell).0.few;
          trades_fit = rw (word_kept C.trade_rows (omega arith) (λ e. omega arith) (λ e. omega arith)) b.trades_fit;
          notices_fit = rw (word_kept C.notice_rows (omega arith) (λ e. omega arith) (λ e. omega arith)) b.notices_fit;
          changed_fit = rw (word_kept C.changed_rows (omega arith) (λ e. omega arith) (λ e. omega arith)) b.changed_fit;
        }

    pub levels_step : Follows rs (cell ys)
    levels_step =
        let last_is = word_kept C.last (omega arith) (λ e. omega arith) (λ e. omega arith) in
        record {
          ordered = ordered_kept keeps bounds was.ordered;
          rising = λ w. (both w).0.asc;
          counted = λ w. (both w).0.counted;
          mapped = λ w. (both w).0.mapped;
          are = λ w. (both w).1;
          live_few = rw keeps.live_are was.live_few;
          resting_few = rw keeps.resting_are was.resting_few;
          numbered = numbered_kept keeps (omega (arith, last_is)) was.numbered;
          run = rw (word_kept C.flying (omega arith) (λ e. omega arith) (λ e. omega arith), last_is) was.run;
          chained = chained_stay;
          held = held_kept keeps caches_kept s.sound.held;
          clients = clients_stay;
        }

-- ---- the table of orders changes

-- a row's number, whether it is live, and its live half
abbrev pub half : Row → ℕ × ℕ × Live
half r = (r C.order_number, r C.order_live, live_row r)

stored_half : (fee : ℤ) (q r : Row) → half r ≡ half q → Stored fee q → Stored fee r
stored_half fee q r e d =
    record {
      hold_is = ap (λ h. int h.2.hold) e ∙ d.hold_is ∙ sym (ap (λ h. order_hold fee (order_of h.0 h.2)) e);
      owner_is = rw (ap (λ h. h.2.account) e) d.owner_is;
    }

-- t is s outside the table of orders
pub record Beyond (s t : Store) : Type 0 where
  pub live_are : word t C.live_orders ≡ word s C.live_orders
  pub last_is : word t C.last ≡ word s C.last
  pub flying_is : word t C.flying ≡ word s C.flying
  pub sizes : (z : Side) → outline z t ≡ outline z s
  pub levels_are : (z : Side) (j : ℕ) → row z t j ≡ row z s j
  pub caches_are : (a : ℕ) → caches t a ≡ caches s a
  pub fee_is : word t C.fee ≡ word s C.fee
  pub clients_are : Clients s → Clients t
  pub chained_are : Pending.Chained s → Pending.Chained t

-- the words and rows of that
abbrev pub outside : Store → ℕ × ℕ × ℕ × (ℕ × ℕ × List ℕ) × (ℕ × ℕ × List ℕ) × (ℕ → Row) × (ℕ → Row) × (ℕ → Row) × (ℕ → Row) × (ℕ → Row) × ℕ × (ℕ × (ℕ → Row) × (ℕ → Row)) × ℕ
outside s =
    (word s C.live_orders, word s C.last, word s C.flying, (word s C.bid_rows, word s C.bid_levels, map_cells Buy s), (word s C.ask_rows, word s C.ask_levels, map_cells Sell s), s C.bids, s C.asks, s C.accounts, s C.sessions, s C.batch, word s C.waiting, chains s, word s C.fee)

pub beyond_same : (s t : Store) → outside t ≡ outside s → Beyond s t
unfolding used size
beyond_same s t e =
    record {
      live_are = ap (λ x. x.0) e;
      last_is = ap (λ x. x.1) e;
      flying_is = ap (λ x. x.2) e;
      sizes = sided (λ z. outline z t ≡ outline z s) (ap (λ x. x.3) e) (ap (λ x. x.4) e);
      levels_are = sided (λ z. (j : ℕ) → row z t j ≡ row z s j) (λ j. ap (λ x. level (x.5 j)) e) (λ j. ap (λ x. level (x.6 j)) e);
      caches_are = λ a. ap (λ x. (x.7 a C.account_cash_held, x.7 a C.account_position_held, x.7 a C.account_open_orders)) e;
      clients_are =
          clients_kept (λ i l. ap (λ x. account_of (session (x.8 i))) e) (λ a l. ap (λ x. marks (x.7 a)) e) (ap (λ x. x.10) e) (λ j l. ap (λ x. x.9 j C.command_owner) e);
      chained_are = chained_same (ap (λ x. x.11) e);
      fee_is = ap (λ x. x.12) e;
    }
  where
    level : Row → LRow.Row
    level r = record { key = r C.level_price; qty = r C.level_qty; orders = r C.level_orders }

-- its numbers are at most the last, and its live rows store what they hold
pub record Rows (t : Store) : Type 0 where
  pub numbers : (j : ℕ) → j < word t C.order_rows → t C.orders j C.order_number ≤ word t C.last
  pub stored : (j : ℕ) → j < word t C.order_rows → 0 < t C.orders j C.order_live → Stored (ledger t).fee (t C.orders j)

pub rows_touched : {s t : Store} {rs : List Resting} (i : ℕ) (r : Row) → Touched i r s t → half r ≡ half (s C.orders i) → word t C.order_rows ≡ word s C.order_rows → Beyond s t → Follows rs s → Rows t
rows_touched {s} {t} i r c e w b f =
    let h : (j : ℕ) → half (t C.orders j) ≡ half (s C.orders j) = same_rows i r s t c half e in
    record {
      numbers = λ j l. rw (ap (λ x. x.0) (h j), b.last_is) (f.numbered j (rw w at l));
      stored = λ j l m.
          subst (λ x. Stored (int x) (t C.orders j)) (sym b.fee_is)
          (stored_half (ledger s).fee (s C.orders j) (t C.orders j) (h j) (f.held.rows j (rw w at l) (rw (ap (λ x. x.1) (h j)) at m)));
    }

module _ {rs : List Resting} {s t : Store} (f : Follows rs s) (d : Did s t (ledger s).orders rs) (b : Beyond s t) (r : Rows t) (few : word t C.resting_orders ≤ most_orders) where
  side_is : (z : Side) → Levels z t
  unfolding entries
  side_is z =
      let n : used z t ≡ used z s = ap (λ x. x.0) (b.sizes z) in
      let list : entries z t ≡ entries z s = rw n (live_ext L.orders (row z s) (row z t) (used z s) (λ j h. b.levels_are z j)) in
      record {
        rising = rw n (ascends_ext L.key (row z s) (row z t) (used z s) (λ j h. ap L.key (b.levels_are z j)) (f.rising z));
        are = ap (best z) list ∙ f.are z ∙ sym (ap (λ g. D.levels z g.rest.depth.resting) d.view);
        counted = ap (λ x. x.1) (b.sizes z) ∙ f.counted z ∙ sym (ap length list);
        mapped = rw n (mapped_ext (L.map_block z) most_levels s t (bits_same s t z (ap (λ x. x.2) (b.sizes z))) (λ j h. levels_alike (row z s) (row z t) (used z s) j (λ _. inl (ap L.orders (b.levels_are z j)))) (f.mapped z));
      }

  live_same : (ledger t).orders ≡ (ledger s).orders
  live_same = ap (λ g. g.core.ledger.orders) d.view

  pub orders_step : Sound t
  orders_step =
      record {
        tables =
            record {
              ordered = d.ordered;
              bids = side_is Buy;
              asks = side_is Sell;
              live_few = rw b.live_are f.live_few;
              resting_few = few;
              numbered = r.numbers;
              run = rw (b.flying_is, b.last_is) f.run;
              chained = b.chained_are f.chained;
            };
        held =
            record {
              rows = r.stored;
              totals = λ a l z. total_same t s a z (b.caches_are a) ∙ f.held.totals a l z ∙ sym (λ i. wrap (held (int (b.fee_is i)) a z (live_same i)));
              counts = λ a l. ap (λ x. x.2) (b.caches_are a) ∙ f.held.counts a l ∙ sym (ap (open_of a) live_same);
            };
        clients = b.clients_are f.clients;
      }

-- ---- a level is remembered

pushed_sound : (x p : ℕ) (s : Store) → Sound s → length ((depth s).changed ++ (key x p ∷ [])) ≤ most_changed → Sound (Pending.push_level x p s)
pushed_sound x p s d h =
    push_level_sound s d x p
    (omega (arith, listed_length (λ i. changed_key (s C.changed i)) (word s C.changed_rows), length-append (depth s).changed (key x p ∷ [])))

pub remember_sound : (x p : ℕ) (s : Store) → Sound s → Roomy (remembering (key x p) (depth s)) → Sound (Pending.remember x p s)
unfolding Pending.remember
remember_sound x p s d h =
    split
    (λ c. length (cond c (depth s).changed ((depth s).changed ++ (key x p ∷ []))) ≤ most_changed → Sound (cond c s (Pending.push_level x p s)))
    (is_changed (key x p) (depth s).changed) (λ _ h. d) (λ _ h. pushed_sound x p s d h) h
