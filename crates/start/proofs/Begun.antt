-- The state that begins is sound and holds the definitions' start; an account more is one more of the start's accounts. Assumes nothing.
use Rattle.std.specs.Prelude.{Option, Some, None}
use mathlib.Core.Path.{◌≡◌, refl, sym, ap, ◌∙◌}
use mathlib.Core.Bool.{true, cond}
use mathlib.Core.List.{List, [], ◌∷◌, ◌++◌}
use Prim.Native.Nat.{ℕ, zero, suc, ◌+◌, ◌^◌, ◌≤◌, ◌<◌}
use native.Mathlib.Nat.{not-suc-le-zero}
use native.Mathlib.Omega.{arith}
use borrow.Author.Tests.{le-leb, le-ltb}
use lib.IntN.{pos}
use lib.Signed.{le_z}
use lib.ListN.{length, set, replicate}
use Rattle.accounts.specs.declared.Account.{Account}
use Rattle.accounts.specs.declared.Funds.{Funds}
use Rattle.accounts.specs.declared.Timing.{Timing}
use Rattle.orderbook.specs.declared.Side.{Side}
use Rattle.orderbook.specs.declared.Side.TheVariants.{Buy, Sell}
use Rattle.risk.specs.declared.Bucket.{Bucket}
use Rattle.risk.specs.Throttle as Throttle
use Rattle.words.specs.Words.{int, place_of, wrap}
use Rattle.gateway.specs.Limits.{owner_slots, session_slots}
use Rattle.gateway.specs.Ledger.{step, held, holds_fit, wallets_fit, fits}
use Rattle.gateway.specs.Depth.{levels_few, levels_fit}
use Rattle.gateway.specs.Fits.{MaybeFundsFit}
use Rattle.gateway.specs.Calls.{Gateway}
use Rattle.gateway.specs.Start.{entered, accounts_of, all_below, by_slot, bucket_of, funds_in, charging, set_up, start_unless, started}
use Rattle.gateway.proofs.Begin.{accounts_length}
use Rattle.store.specs.Cells as C
use Rattle.store.specs.Layout.{cell}
use Rattle.store.specs.View.{Store, word, fill, listed, gateway, zeros, Is}
use Rattle.store.proofs.Places.{header_cell}
use Rattle.store.proofs.Rows.{then_fill}
use Rattle.table.specs.Live.{live}
use Rattle.bitmap.proofs.Laws.{zeros_bit}
use Rattle.levels.specs.Levels.{used, size, entries}
use Rattle.levels.proofs.Laws.{no_levels}
use Rattle.clients.specs.Clients as Clients
use Rattle.clients.proofs.Rows.{cells_block}
use Rattle.clients.proofs.Links.{linked_ext, linked_zeros}
use Rattle.clients.proofs.Limits.{limited_ext, limited_zeros}
use Rattle.clients.proofs.Views.{add_account_view}
use Rattle.pending.proofs.Chain.{chained_none}
use Rattle.sound.specs.Sound.{held_cell, Sound, State, Becomes}
use Rattle.sound.proofs.Kept.{becomes}
use Rattle.sound.proofs.Clients.{add_account_sound}
use Rattle.start.specs.Start.{begun_store, begun, entering}

-- ---- lists of nobody

listed_same : {A : Type 0} (x : A) (n : ℕ) → listed (λ i. x) n ≡ replicate n x
unfolding listed
listed_same x zero = refl
listed_same x (suc n) = ap (λ l. l ++ (x ∷ [])) (listed_same x n) ∙ more n
  where
    more : (n : ℕ) → replicate n x ++ (x ∷ []) ≡ x ∷ replicate n x
    more zero = refl
    more (suc n) = ap (λ l. x ∷ l) (more n)

by_slot_nobody : {A : Type 0} (f : Option Account → A) (n m : ℕ) → by_slot f n (replicate m None) ≡ replicate n (f None)
by_slot_nobody f zero zero = refl
by_slot_nobody f zero (suc m) = refl
by_slot_nobody f (suc n) zero = ap (λ l. f None ∷ l) (by_slot_nobody f n zero)
by_slot_nobody f (suc n) (suc m) = ap (λ l. f None ∷ l) (by_slot_nobody f n m)

module _ (fee limit last : ℕ) (t : Timing) (few : limit ≤ owner_slots) where
  abbrev s : Store
  s = begun_store fee limit last t

  -- by its wallets, buckets and accounts
  abbrev shape : List (Option Funds) → List Bucket → List (Option Account) → Gateway
  shape ws bs cs =
      record {
        core = record { ledger = record { last = last; wallets = ws; orders = []; mark = None; fee = int fee }; flights = []; accounts = cs };
        rest =
            record {
              timing = t;
              clock = 0;
              sessions = replicate session_slots None;
              buckets = bs;
              batch = [];
              delivered = last;
              published = last;
              depth = record { resting = []; changed = [] };
              trades = [];
              notices = [];
              collar = None;
            };
      }

  nobody : {A : Type 0} (f : Option Account → A) → listed (λ i. f None) owner_slots ≡ by_slot f owner_slots (replicate limit None)
  nobody f = listed_same (f None) owner_slots ∙ sym (by_slot_nobody f owner_slots limit)

  cells_view : gateway s ≡ shape (listed (λ i. funds_in None) owner_slots) (listed (λ i. bucket_of None) owner_slots) (listed (λ i. None) limit)
  unfolding fill listed live
  cells_view = refl

  pub begun_view : gateway s ≡ begun (int fee) limit last t []
  begun_view = cells_view ∙ (λ z. shape (nobody funds_in z) (nobody bucket_of z) (listed_same {A = Option Account} None limit z))

  pub begun_sound : Sound s
  unfolding fill used size entries live wrap
  begun_sound =
      record {
        tables =
            record {
              ordered =
                  record {
                    bounds = search arith;
                    sorted = record { ascends = λ i j h l. absurd (not-suc-le-zero l); flags = λ j l. absurd (not-suc-le-zero l) };
                    counted = record { live_count = refl; resting_count = refl };
                    mapped = record { bits = λ j l. zeros_bit C.order_map s j refl ∙ sym (ap (λ b. cond b 0 0) (le-ltb j 0 (omega arith))) };
                  };
              bids = record { rising = λ i j h l. absurd (not-suc-le-zero l); are = refl; counted = refl; mapped = no_levels Buy s (λ j l. zeros_bit C.bid_map s j refl) };
              asks = record { rising = λ i j h l. absurd (not-suc-le-zero l); are = refl; counted = refl; mapped = no_levels Sell s (λ j l. zeros_bit C.ask_map s j refl) };
              live_few = omega arith;
              resting_few = omega arith;
              numbered = λ j l. absurd (not-suc-le-zero l);
              run = omega arith;
              chained = chained_none s refl (λ k l. refl);
            };
        held = record { rows = λ j l m. absurd (not-suc-le-zero l); totals = λ a l z. no_total a z; counts = λ a l. refl };
        clients = record { linked = linked_ext zeros s (λ i l. refl) (λ a l. refl) linked_zeros; limited = limited_ext zeros s (λ a l. refl) (λ a l. refl) limited_zeros; batch = λ j l. absurd (not-suc-le-zero l) };
      }
    where
      no_total : (a : ℕ) (z : Side) → s C.accounts a (held_cell z) ≡ wrap (held (int fee) a z [])
      no_total a Buy = refl
      no_total a Sell = refl

-- ---- an account more

entered_more : (t : List (Option Account)) (l : List Account) (a : Account) → entered t (l ++ (a ∷ [])) ≡ set (entered t l) a.id (Some a)
entered_more t [] a = refl
entered_more t (b ∷ l) a = entered_more (set t b.id (Some b)) l a

by_slot_set : {A : Type 0} (f : Option Account → A) (n : ℕ) (t : List (Option Account)) (i : ℕ) (x : Option Account) → i < n → i < length t → by_slot f n (set t i x) ≡ set (by_slot f n t) i (f x)
by_slot_set f zero t i x h l = absurd (not-suc-le-zero h)
by_slot_set f (suc n) [] i x h l = absurd (not-suc-le-zero l)
by_slot_set f (suc n) (y ∷ t) zero x h l = refl
by_slot_set f (suc n) (y ∷ t) (suc i) x h l = ap (λ r. f y ∷ r) (by_slot_set f n t i x (omega arith) (omega arith))

module _ (fee limit last : ℕ) (t : Timing) (few : limit ≤ owner_slots) (l : List Account) where
  pub begun_more : (a : Account) → a.id < limit → entering a (begun (int fee) limit last t l) ≡ begun (int fee) limit last t (l ++ (a ∷ []))
  unfolding step
  begun_more a h =
      sym
      (λ z.
      shape fee limit last t few
      ((ap (by_slot funds_in owner_slots) more ∙ slot funds_in) z)
      ((ap (by_slot bucket_of owner_slots) more ∙ slot bucket_of) z)
      (more z))
    where
      more : accounts_of limit (l ++ (a ∷ [])) ≡ set (accounts_of limit l) a.id (Some a)
      more = entered_more (replicate limit None) l a

      slot : {A : Type 0} (f : Option Account → A) → by_slot f owner_slots (set (accounts_of limit l) a.id (Some a)) ≡ set (by_slot f owner_slots (accounts_of limit l)) a.id (f (Some a))
      slot f = by_slot_set f owner_slots (accounts_of limit l) a.id (Some a) (omega arith) (rw (accounts_length limit l) h)

  -- nothing is held
  nothing_held : (a : ℕ) (ws : List (Option Funds)) → wallets_fit (int fee) a ws [] ≡ true
  unfolding fits place_of
  nothing_held a [] = refl
  nothing_held a (None ∷ ws) = nothing_held (suc a) ws
  nothing_held a (Some w ∷ ws) = nothing_held (suc a) ws

  -- it is what set-up gives for these accounts and no orders
  pub begun_started : le_z (pos 0) (int fee) ≡ true → all_below limit l ≡ true → set_up (int fee) limit last l [] t ≡ started (begun (int fee) limit last t l)
  unfolding set_up charging start_unless levels_few levels_fit holds_fit
  begun_started c h = rw (c, le-leb limit owner_slots few, h, nothing_held 0 (by_slot funds_in owner_slots (accounts_of limit l))) refl

-- ---- in the bytes

pub start_becomes : {a b c d : List ℕ} (fee limit last : ℕ) (t : Timing) → limit ≤ owner_slots → Is a zeros → Is b (fill C.header 0 C.last (last ∷ last ∷ last ∷ []) (cell a)) →
    Is c (fill C.header 0 C.owner_limit (limit ∷ t.heartbeat ∷ t.idle_timeout ∷ []) (cell b)) → Is d (fill C.header 0 C.fee (fee ∷ []) (cell c)) → Becomes d (begun (int fee) limit last t [])
start_becomes fee limit last t few p q r u =
    becomes (then_fill C.header 0 C.fee (fee ∷ []) (then_fill C.header 0 C.owner_limit (limit ∷ t.heartbeat ∷ t.idle_timeout ∷ []) (then_fill C.header 0 C.last (last ∷ last ∷ last ∷ []) p q) r) u)
    (begun_sound fee limit last t few) (begun_view fee limit last t few)

pub enter_becomes : {xs ys : List ℕ} → State xs → (a : Account) → a.id < word (cell xs) C.owner_limit → a.max_open_orders < 2 ^ 32 → a.messages_per_second < 2 ^ 32 → MaybeFundsFit a.funds →
    Is ys (Clients.add_account a (cell xs)) → Becomes ys (entering a (gateway (cell xs)))
enter_becomes {xs} st a l m r f h =
    becomes h (add_account_sound (cell xs) st.sound a m r) (add_account_view a (cell xs) f l st.sound.tables.ordered.bounds.accounts_fit)

-- no row of orders
pub start_rows : {a b c d : List ℕ} (fee limit last : ℕ) (t : Timing) → Is a zeros → Is b (fill C.header 0 C.last (last ∷ last ∷ last ∷ []) (cell a)) →
    Is c (fill C.header 0 C.owner_limit (limit ∷ t.heartbeat ∷ t.idle_timeout ∷ []) (cell b)) → Is d (fill C.header 0 C.fee (fee ∷ []) (cell c)) → word (cell d) C.order_rows ≡ 0
unfolding fill
start_rows fee limit last t p q r u =
    (then_fill C.header 0 C.fee (fee ∷ []) (then_fill C.header 0 C.owner_limit (limit ∷ t.heartbeat ∷ t.idle_timeout ∷ []) (then_fill C.header 0 C.last (last ∷ last ∷ last ∷ []) p q) r) u).same C.header 0 C.order_rows (header_cell C.order_rows (omega arith))

-- an account's cells are none of the header's
pub enter_rows : (xs : List ℕ) {ys : List ℕ} (a : Account) → Is ys (Clients.add_account a (cell xs)) → word (cell ys) C.order_rows ≡ word (cell xs) C.order_rows
enter_rows xs a h =
    h.same C.header 0 C.order_rows (header_cell C.order_rows (omega arith))
    ∙ cells_block C.accounts a.id (Clients.bucket_cells (Throttle.full a.messages_per_second)) _ C.header 0 C.order_rows refl
    ∙ cells_block C.accounts a.id (Clients.funds_cells a.funds) _ C.header 0 C.order_rows refl ∙ cells_block C.accounts a.id (Clients.limit_cells a) (cell xs) C.header 0 C.order_rows refl
