-- What waits, and the words of the header: each operation keeps the state sound. Assumes nothing.
use mathlib.Core.Path.{◌≡◌, refl, ap}
use Prim.Native.Nat.{ℕ, ◌+◌, ◌-◌, ◌≤◌, ◌<◌}
use native.Mathlib.Omega.{arith}
use Rattle.orderbook.specs.declared.Side.TheVariants.{Buy, Sell}
use Rattle.orderbook.specs.declared.Command.{Command}
use Rattle.gateway.specs.Limits.{most_notices, most_trades, most_in_flight, most_in_batch, most_changed}
use Rattle.gateway.specs.Rest.{account_of}
use Rattle.store.specs.Cells as C
use Rattle.store.specs.View.{Row, Store, word, fill, session, Bounds}
use Rattle.levels.specs.Levels.{row, used, size}
use Rattle.store.proofs.Rows.{fill_elsewhere}
use Rattle.clients.proofs.Links.{linked_ext}
use Rattle.clients.proofs.Limits.{limited_ext}
use Rattle.pending.specs.Pending as P
use Rattle.pending.proofs.Commands.{batch_fits}
use Rattle.pending.proofs.Chain.{chains, chained_kept, chained_same, chained_none, chained_pushed, forgotten}
use Rattle.sound.specs.Sound.{Clients, Sound}
use Rattle.sound.proofs.Kept.{sided, outline, maps_same, Grown, sound_beside}

-- accounts, sessions, orders and levels are those of s
pub record Untouched (s t : Store) : Type 0 where
  pub accounts : (i k : ℕ) → t C.accounts i k ≡ s C.accounts i k
  pub sessions : (i k : ℕ) → t C.sessions i k ≡ s C.sessions i k
  pub orders : (i k : ℕ) → t C.orders i k ≡ s C.orders i k
  pub order_map : (i k : ℕ) → t C.order_map i k ≡ s C.order_map i k
  pub bids : (i k : ℕ) → t C.bids i k ≡ s C.bids i k
  pub asks : (i k : ℕ) → t C.asks i k ≡ s C.asks i k
  pub bid_map : (i k : ℕ) → t C.bid_map i k ≡ s C.bid_map i k
  pub ask_map : (i k : ℕ) → t C.ask_map i k ≡ s C.ask_map i k
  pub rows_are : word t C.order_rows ≡ word s C.order_rows
  pub live_are : word t C.live_orders ≡ word s C.live_orders
  pub resting_are : word t C.resting_orders ≡ word s C.resting_orders
  pub bid_rows_are : word t C.bid_rows ≡ word s C.bid_rows
  pub ask_rows_are : word t C.ask_rows ≡ word s C.ask_rows
  pub bid_levels_are : word t C.bid_levels ≡ word s C.bid_levels
  pub ask_levels_are : word t C.ask_levels ≡ word s C.ask_levels
  pub fee_is : word t C.fee ≡ word s C.fee

module _ {s t : Store} (e : Untouched s t) (g : Grown s t) (f : P.BatchFits t) where
  clients_there : Clients s → Clients t
  clients_there d =
      record {
        linked = linked_ext s t (λ i l. ap (λ (r : Row). account_of (session r)) (λ z k. e.sessions i k z)) (λ a l. e.accounts a C.account_session) d.linked;
        limited = limited_ext s t (λ a l. e.accounts a C.account_max_open) (λ a l. e.accounts a C.account_rate) d.limited;
        batch = f;
      }

  pub sound_untouched : Sound s → Sound t
  unfolding used size
  sound_untouched =
      sound_beside
      (record {
        keeps = record { rows_are = e.rows_are; live_are = e.live_are; resting_are = e.resting_are; cells = λ j k l m. e.orders j k; map_is = λ j l. e.order_map j C.map_bits; fee_is = e.fee_is };
        sizes = sided (λ z. outline z t ≡ outline z s) (λ i. (e.bid_rows_are i, e.bid_levels_are i, maps_same s t Buy (λ j l. e.bid_map j C.map_bits) i))
            (λ i. (e.ask_rows_are i, e.ask_levels_are i, maps_same s t Sell (λ j l. e.ask_map j C.map_bits) i));
        levels_are =
            sided (λ z. (j : ℕ) → j < used z s → row z t j ≡ row z s j)
            (λ j l i. record { key = e.bids j C.level_price i; qty = e.bids j C.level_qty i; orders = e.bids j C.level_orders i })
            (λ j l i. record { key = e.asks j C.level_price i; qty = e.asks j C.level_qty i; orders = e.asks j C.level_orders i });
      })
      g (λ a l i. (e.accounts a C.account_cash_held i, e.accounts a C.account_position_held i, e.accounts a C.account_open_orders i)) clients_there

-- ---- each of them

module _ (s : Store) (d : Sound s) where
  abbrev b : Bounds s
  b = d.tables.ordered.bounds

  abbrev f : P.BatchFits s
  f = d.clients.batch

  kept : {t : Store} → chains t ≡ chains s → P.Chained t
  kept e = chained_same e d.tables.chained

  pub notices_sound : (a k : ℕ) → k + word s C.notice_rows ≤ most_notices → Sound (P.notices a k s)
  notices_sound a k l =
      let m : word s C.notice_rows + k ≤ most_notices = omega arith in
      sound_untouched (search arith) (record { bounds = let c = b in search (arith, m); last_is = omega arith; run = d.tables.run; chained = kept refl }) f d

  pub trade_sound : (seq id x p q : ℕ) → word s C.trade_rows < most_trades → Sound (P.trade seq id x p q s)
  unfolding fill
  trade_sound seq id x p q l =
      sound_untouched (search arith) (record { bounds = let c = b in search (arith, l); last_is = omega arith; run = d.tables.run; chained = kept refl }) f d

  pub published_sound : Sound (P.published s)
  published_sound = sound_untouched (search arith) (record { bounds = let c = b in search arith; last_is = omega arith; run = d.tables.run; chained = chained_none (P.published s) refl (forgotten s d.tables.chained) }) f d

  pub take_off_sound : (x y z : ℕ) → word s C.flying < most_in_flight → Sound (P.take_off x y z s)
  unfolding fill
  take_off_sound x y z l =
      sound_untouched (search arith) (record { bounds = let c = b in search (arith, l); last_is = omega arith; run = let r = d.tables.run in omega arith; chained = kept refl }) f d

  -- an event of a number in the run
  pub land_sound : (n : ℕ) → 0 < n → word s C.last + 1 ≤ n + word s C.flying → Sound (P.land n s)
  land_sound n l h =
      sound_untouched (search arith)
      (record { bounds = let c = b in let m : word s C.last + 1 - n ≤ most_in_flight = omega (arith, c.flights_fit) in search (arith, m); last_is = omega arith; run = omega arith; chained = kept refl }) f d

  pub push_level_sound : (x p : ℕ) → word s C.changed_rows < most_changed → Sound (P.push_level x p s)
  unfolding fill
  push_level_sound x p l =
      sound_untouched (search arith) (record { bounds = let c = b in search (arith, l); last_is = omega arith; run = d.tables.run; chained = chained_pushed x p s d.tables.chained }) f d

  -- a row of the batch, whose numbers are not known one by one
  pub command_sound : (c : Command) → P.Typed c → word s C.waiting < most_in_batch → Sound (P.command_push c s)
  command_sound c t l =
      sound_untouched
      (record {
        accounts = λ i k. at C.accounts i k (λ e. omega arith);
        sessions = λ i k. at C.sessions i k (λ e. omega arith);
        orders = λ i k. at C.orders i k (λ e. omega arith);
        order_map = λ i k. at C.order_map i k (λ e. omega arith);
        bids = λ i k. at C.bids i k (λ e. omega arith);
        asks = λ i k. at C.asks i k (λ e. omega arith);
        bid_map = λ i k. at C.bid_map i k (λ e. omega arith);
        ask_map = λ i k. at C.ask_map i k (λ e. omega arith);
        rows_are = words C.order_rows;
        live_are = words C.live_orders;
        resting_are = words C.resting_orders;
        bid_rows_are = words C.bid_rows;
        ask_rows_are = words C.ask_rows;
        bid_levels_are = words C.bid_levels;
        ask_levels_are = words C.ask_levels;
        fee_is = words C.fee;
      })
      (record {
        bounds =
            record {
              accounts_fit = rw (words C.owner_limit) b.accounts_fit;
              flights_fit = rw (words C.flying) b.flights_fit;
              batch_fits = omega arith;
              orders_fit = rw (words C.order_rows) b.orders_fit;
              bids_fit = rw (words C.bid_rows) b.bids_fit;
              asks_fit = rw (words C.ask_rows) b.asks_fit;
              trades_fit = rw (words C.trade_rows) b.trades_fit;
              notices_fit = rw (words C.notice_rows) b.notices_fit;
              changed_fit = rw (words C.changed_rows) b.changed_fit;
            };
        last_is = rw (words C.last) (omega arith);
        run = rw (words C.flying, words C.last) d.tables.run;
        chained = chained_kept s _ (words C.changed_rows) (λ j k l m. at C.changed j k (λ e. omega arith)) (λ k l. at C.tops k C.top_row (λ e. omega arith)) d.tables.chained;
      })
      (batch_fits c s t f) d
    where
      at : (b i k : ℕ) → (b ≡ C.batch → ⊥) → fill C.batch (word s C.waiting) 0 (P.command_row c) s b i k ≡ s b i k
      at b i k n = fill_elsewhere C.batch (word s C.waiting) 0 (P.command_row c) s b i k n

      words : (k : ℕ) → word (fill C.batch (word s C.waiting) 0 (P.command_row c) s) k ≡ word s k
      words k = at C.header 0 k (λ e. omega arith)

  pub clear_sound : Sound (P.clear_batch s)
  clear_sound =
      sound_untouched (search arith) (record { bounds = let c = b in search arith; last_is = omega arith; run = d.tables.run; chained = kept refl }) (λ j l. absurd (omega arith)) d

  pub clock_sound : (t : ℕ) → Sound (P.set_clock t s)
  clock_sound t = sound_untouched (search arith) (record { bounds = let c = b in search arith; last_is = omega arith; run = d.tables.run; chained = kept refl }) f d

  pub delivered_sound : (n : ℕ) → Sound (P.set_delivered n s)
  delivered_sound n = sound_untouched (search arith) (record { bounds = let c = b in search arith; last_is = omega arith; run = d.tables.run; chained = kept refl }) f d

  pub collar_sound : (n : ℕ) → Sound (P.set_collar n s)
  collar_sound n = sound_untouched (search arith) (record { bounds = let c = b in search arith; last_is = omega arith; run = d.tables.run; chained = kept refl }) f d

  pub mark_sound : (p : ℕ) → Sound (P.set_mark p s)
  unfolding fill
  mark_sound p = sound_untouched (search arith) (record { bounds = let c = b in search arith; last_is = omega arith; run = d.tables.run; chained = kept refl }) f d
