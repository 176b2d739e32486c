-- Accounts and sessions: each operation keeps the state sound. Assumes nothing.
use Rattle.std.specs.Prelude.{Option, Some, None, is_some}
use mathlib.Core.Path.{◌≡◌, refl, ◌∙◌}
use mathlib.Core.Bool.{true, cond}
use mathlib.Core.List.{List}
use Prim.Native.Nat.{ℕ, ◌+◌, ◌-◌, ◌^◌, ◌<◌}
use native.Mathlib.Omega.{arith}
use borrow.Author.Tests.{ne_eqb}
use Rattle.orderbook.specs.declared.Side.TheVariants.{Buy, Sell}
use Rattle.accounts.specs.declared.Account.{Account}
use Rattle.accounts.specs.declared.Funds.{Funds}
use Rattle.risk.specs.declared.Bucket.{Bucket}
use Rattle.risk.specs.Throttle as Throttle
use Rattle.gateway.specs.Limits.{owner_slots, session_slots}
use Rattle.gateway.specs.Rest.{account_of}
use Rattle.gateway.proofs.Base.{split}
use Rattle.store.specs.Cells as C
use Rattle.store.specs.View.{Store, word, write, flag, session}
use Rattle.orders.proofs.Views.{bounds_from}
use Rattle.levels.specs.Levels.{row, used, size}
use Rattle.clients.specs.Clients.{Limited, Linked}
use Rattle.clients.specs.Clients as P
use Rattle.pending.specs.Pending.{BatchFits}
use Rattle.pending.proofs.Chain.{chained_kept}
use Rattle.clients.proofs.Rows.{write_cell, spares, cells_spare, cells_block}
use Rattle.clients.proofs.Links.{linked_money, linked_bucket, linked_add_account, linked_connect, linked_cell, linked_log_in, linked_forget}
use Rattle.clients.proofs.Limits.{limited_money, limited_bucket, limited_add_account, limited_connect, limited_session, limited_log_in, limited_forget}
use Rattle.sound.specs.Sound.{Clients, Sound}
use Rattle.sound.proofs.Kept.{sided, outline, maps_same, caches, sound_beside}

-- t is s but for accounts and sessions
abbrev pub Elsewhere : Store → Store → Type 0
Elsewhere s t = (b i k : ℕ) → (b ≡ C.accounts → ⊥) → (b ≡ C.sessions → ⊥) → t b i k ≡ s b i k

module _ {s t : Store} (e : Elsewhere s t) (d : Sound s) where
  words : (k : ℕ) → word t k ≡ word s k
  words k = e C.header 0 k (λ q. omega arith) (λ q. omega arith)

  pub sound_clients : ((a : ℕ) → a < owner_slots → caches t a ≡ caches s a) → Clients t → Sound t
  unfolding used size
  sound_clients c f =
      sound_beside
      (record {
        keeps =
            record {
              rows_are = words C.order_rows;
              live_are = words C.live_orders;
              resting_are = words C.resting_orders;
              cells = λ j k l m. e C.orders j k (λ q. omega arith) (λ q. omega arith);
              map_is = λ j l. e C.order_map j C.map_bits (λ q. omega arith) (λ q. omega arith);
              fee_is = words C.fee;
            };
        sizes = sided (λ z. outline z t ≡ outline z s) (λ i. (words C.bid_rows i, words C.bid_levels i, maps_same s t Buy (λ j l. e C.bid_map j C.map_bits (λ q. omega arith) (λ q. omega arith)) i))
            (λ i. (words C.ask_rows i, words C.ask_levels i, maps_same s t Sell (λ j l. e C.ask_map j C.map_bits (λ q. omega arith) (λ q. omega arith)) i));
        levels_are =
            sided (λ z. (j : ℕ) → j < used z s → row z t j ≡ row z s j)
            (λ j l i. record { key = bid j C.level_price i; qty = bid j C.level_qty i; orders = bid j C.level_orders i })
            (λ j l i. record { key = ask j C.level_price i; qty = ask j C.level_qty i; orders = ask j C.level_orders i });
      })
      (record {
        bounds = bounds_from s t (λ k l x y z. words k) (rw (words C.order_rows) d.tables.ordered.bounds.orders_fit) d.tables.ordered.bounds;
        last_is = rw (words C.last) (omega arith);
        run = rw (words C.flying, words C.last) d.tables.run;
        chained =
            chained_kept s t (words C.changed_rows) (λ j k l m. e C.changed j k (λ q. omega arith) (λ q. omega arith)) (λ k l. e C.tops k C.top_row (λ q. omega arith) (λ q. omega arith))
            d.tables.chained;
      })
      c (λ _. f) d
    where
      bid : (j k : ℕ) → t C.bids j k ≡ s C.bids j k
      bid j k = e C.bids j k (λ q. omega arith) (λ q. omega arith)

      ask : (j k : ℕ) → t C.asks j k ≡ s C.asks j k
      ask j k = e C.asks j k (λ q. omega arith) (λ q. omega arith)

-- ---- cells of one row

in_accounts : (i : ℕ) (cs : List (ℕ × ℕ)) (s : Store) → Elsewhere s (P.put_cells C.accounts i cs s)
in_accounts i cs s b j k x y = cells_block C.accounts i cs s b j k (ne_eqb b C.accounts x)

in_sessions : (i : ℕ) (cs : List (ℕ × ℕ)) (s : Store) → Elsewhere s (P.put_cells C.sessions i cs s)
in_sessions i cs s b j k x y = cells_block C.sessions i cs s b j k (ne_eqb b C.sessions y)

then_elsewhere : {s t u : Store} → Elsewhere s t → Elsewhere t u → Elsewhere s u
then_elsewhere p q b i k x y = q b i k x y ∙ p b i k x y

-- what the live orders have in an account's row is not among them
abbrev Spares : List (ℕ × ℕ) → Type 0
Spares cs = (spares C.account_cash_held cs ≡ true) × (spares C.account_position_held cs ≡ true) × (spares C.account_open_orders cs ≡ true)

spared : (i : ℕ) (cs : List (ℕ × ℕ)) (s : Store) → Spares cs → (a : ℕ) → caches (P.put_cells C.accounts i cs s) a ≡ caches s a
spared i cs s h a =
    λ z. (cells_spare C.accounts i C.account_cash_held cs s a h.0 z, cells_spare C.accounts i C.account_position_held cs s a h.1 z, cells_spare C.accounts i C.account_open_orders cs s a h.2 z)

session_caches : (i : ℕ) (cs : List (ℕ × ℕ)) (s : Store) (a : ℕ) → caches (P.put_cells C.sessions i cs s) a ≡ caches s a
session_caches i cs s a =
    λ z. (cells_block C.sessions i cs s C.accounts a C.account_cash_held refl z, cells_block C.sessions i cs s C.accounts a C.account_position_held refl z, cells_block C.sessions i cs s C.accounts a C.account_open_orders refl z)

-- the batch is elsewhere
batch_there : {s t : Store} → Elsewhere s t → BatchFits s → BatchFits t
batch_there {s} {t} e f j l =
    let h : j < word s C.waiting = rw (e C.header 0 C.waiting (λ q. omega arith) (λ q. omega arith)) at l in
    record { owner_fits = rw (e C.batch j C.command_owner (λ q. omega arith) (λ q. omega arith)) (f j h).owner_fits }

funds_spared : (i : ℕ) (f : Option Funds) (s : Store) (a : ℕ) → caches (P.set_funds i f s) a ≡ caches s a
funds_spared i None s a = spared i (P.funds_cells None) s (refl, refl, refl) a
funds_spared i (Some f) s a = spared i (P.funds_cells (Some f)) s (refl, refl, refl) a

module _ (s : Store) (d : Sound s) where
  made : {t : Store} → Elsewhere s t → ((a : ℕ) → caches t a ≡ caches s a) → Linked t → Limited t → Sound t
  made e c l m = sound_clients e d (λ a _. c a) (record { linked = l; limited = m; batch = batch_there e d.clients.batch })

  pub money_sound : (i c p : ℕ) → Sound (P.set_money i c p s)
  money_sound i c p =
      made (in_accounts i (P.money_cells c p) s) (spared i (P.money_cells c p) s (refl, refl, refl)) (linked_money i c p s d.clients.linked) (limited_money i c p s d.clients.limited)

  pub bucket_sound : (i : ℕ) (x : Bucket) → Sound (P.set_bucket i x s)
  bucket_sound i x =
      made (in_accounts i (P.bucket_cells x) s) (spared i (P.bucket_cells x) s (refl, refl, refl)) (linked_bucket i x s d.clients.linked) (limited_bucket i x s d.clients.limited)

  -- an account's limits are of 32 bits by their type
  pub add_account_sound : (a : Account) → a.max_open_orders < 2 ^ 32 → a.messages_per_second < 2 ^ 32 → Sound (P.add_account a s)
  add_account_sound a m r =
      let i = a.id in
      let t = P.set_limits i a s in
      let u = P.set_funds i a.funds t in
      let x = Throttle.full a.messages_per_second in
      made
      (then_elsewhere (then_elsewhere (in_accounts i (P.limit_cells a) s) (in_accounts i (P.funds_cells a.funds) t)) (in_accounts i (P.bucket_cells x) u))
      (λ b. spared i (P.bucket_cells x) u (refl, refl, refl) b ∙ funds_spared i a.funds t b ∙ spared i (P.limit_cells a) s (refl, refl, refl) b)
      (linked_add_account a s d.clients.linked) (limited_add_account a s m r d.clients.limited)

  -- ---- sessions

  pub connect_sound : (i t : ℕ) → session (s C.sessions i) ≡ None → Sound (P.connect i t s)
  connect_sound i t e =
      made (in_sessions i (P.connect_cells t) s) (session_caches i (P.connect_cells t) s) (linked_connect i t s e d.clients.linked) (limited_connect i t s d.clients.limited)

  -- its times and its marks
  pub session_sound : (i k v : ℕ) → C.session_account < k → Sound (write C.sessions i k v s)
  session_sound i k v l =
      made (λ b j c x y. rw (ne_eqb b C.sessions y) refl) (λ a. refl) (linked_cell i k v s l d.clients.linked) (limited_session i k v s d.clients.limited)

  account_session_spared : (a v : ℕ) (t : Store) (b : ℕ) → caches (write C.accounts a C.account_session v t) b ≡ caches t b
  account_session_spared a v t b =
      λ z. (
        write_cell C.accounts a C.account_session v t b C.account_cash_held (λ e. omega arith) z,
        write_cell C.accounts a C.account_session v t b C.account_position_held (λ e. omega arith) z,
        write_cell C.accounts a C.account_session v t b C.account_open_orders (λ e. omega arith) z,
      )

  pub log_in_sound : (i a : ℕ) → i < session_slots → a < owner_slots → is_some (session (s C.sessions i)) ≡ true → account_of (session (s C.sessions i)) ≡ None → s C.accounts a C.account_session ≡ 0 → Sound (P.log_in i a s)
  log_in_sound i a li la e n z =
      made (λ b j c x y. rw (ne_eqb b C.accounts x, ne_eqb b C.sessions y) refl) (account_session_spared a (i + 1) (write C.sessions i C.session_account (a + 1) s))
      (linked_log_in i a s li la e n z d.clients.linked) (limited_log_in i a s d.clients.limited)

  leave_elsewhere : (n : ℕ) → Elsewhere s (P.leave n s)
  leave_elsewhere n b j k x y =
      split (λ c. cond c (write C.accounts (n - 1) C.account_session 0 s) s b j k ≡ s b j k) (flag n) (λ e. rw (ne_eqb b C.accounts x) refl) (λ e. refl)

  leave_spared : (n a : ℕ) → caches (P.leave n s) a ≡ caches s a
  leave_spared n a =
      split (λ c. caches (cond c (write C.accounts (n - 1) C.account_session 0 s) s) a ≡ caches s a) (flag n) (λ e. account_session_spared (n - 1) 0 s a) (λ e. refl)

  pub forget_sound : (i : ℕ) → i < session_slots → Sound (P.forget i s)
  forget_sound i l =
      let n = P.logged_in (s C.sessions i) in
      made (λ b j k x y. rw (ne_eqb b C.sessions y) (leave_elsewhere n b j k x y)) (λ a. leave_spared n a)
      (linked_forget i s l d.clients.linked) (limited_forget i s d.clients.limited)
