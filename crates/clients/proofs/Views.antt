-- What the operations do to the gateway that the cells hold: each changes its own part, and the rest stays by computation. Assumes nothing.
use Rattle.std.specs.Prelude.{Option, Some, None, option_map}
use mathlib.Core.Path.{◌≡◌, refl, sym, ap, ◌∙◌}
use mathlib.Core.Bool.{Bool, true, false, cond}
use mathlib.Core.List.{List, [], ◌∷◌}
use Prim.Native.Nat.{ℕ, ◌+◌, ◌-◌, ◌^◌, ◌≤◌, ◌<◌}
use native.Mathlib.Omega.{arith}
use borrow.Author.Tests.{eq-eqb}
use lib.IntN.{ℤ}
use lib.ListN.{set, get_or-eq_default}
use Rattle.accounts.specs.declared.Account.{Account}
use Rattle.accounts.specs.declared.Funds.{Funds}
use Rattle.words.specs.Words.{int, word_of}
use Rattle.risk.specs.declared.Bucket.{Bucket}
use Rattle.risk.specs.Throttle as Throttle
use Rattle.gateway.specs.Limits.{owner_slots, session_slots}
use Rattle.gateway.specs.Ledger as Ledger
use Rattle.gateway.specs.Ledger.{step, fits}
use Rattle.gateway.specs.Core.{account_at, system, core_step}
use Rattle.gateway.specs.Entry.{wallet_at, bucket_at}
use Rattle.gateway.specs.Rest as Rest
use Rattle.gateway.specs.Rest.{with_sessions, with_buckets, update_session}
use Rattle.gateway.specs.Calls.{Gateway, fresh_session, without_session, joined}
use Rattle.gateway.specs.Fits.{MaybeFundsFit}
use Rattle.gateway.proofs.Money.{word_back}
use Rattle.store.specs.Cells as C
use Rattle.store.specs.View.{Row, Store, word, write, listed, flag, maybe, account, wallet, bucket, session, gateway}
use Rattle.store.proofs.Listed.{listed_at, listed_length}
use Rattle.clients.specs.Clients as P
use Rattle.clients.specs.Clients.{put_cells}
use Rattle.clients.proofs.Laws.{plus_one}
use Rattle.clients.proofs.Rows.{Rows, rows_kept, rows_set, write_rows, cells_rows}

-- ---- sessions

abbrev with_rest : (Rest.Rest → Rest.Rest) → Gateway → Gateway
with_rest f g = record { core = g.core; rest = f g.rest }

-- one cell of a session's row
session_view : (i k v : ℕ) (s : Store) (x : Option Rest.Session) → i < session_slots → session (write C.sessions i k v s C.sessions i) ≡ x →
    gateway (write C.sessions i k v s) ≡ with_rest (λ r. with_sessions (set r.sessions i x) r) (gateway s)
session_view i k v s x l e =
    ap (λ xs. with_rest (with_sessions xs) (gateway s)) (rows_set (λ j. session) C.sessions i session_slots s (write C.sessions i k v s) (write_rows C.sessions i k v s) x l e)

-- what a writer's f does to a session that may be there
update_view : (i k v : ℕ) (f : Rest.Session → Rest.Session) (s : Store) → i < session_slots →
    session (write C.sessions i k v s C.sessions i) ≡ option_map f (session (s C.sessions i)) →
    gateway (write C.sessions i k v s) ≡ with_rest (update_session i f) (gateway s)
update_view i k v f s l e =
    session_view i k v s (option_map f (session (s C.sessions i))) l e
    ∙ ap (λ x. with_rest (λ r. with_sessions (set r.sessions i (option_map f x)) r) (gateway s)) (sym (listed_at (λ j. session (s C.sessions j)) session_slots i None l))

-- f of a value that may be there
map_maybe : {A B : Type 0} (f : A → B) (n : ℕ) (a : A) → maybe n (f a) ≡ option_map f (maybe n a)
map_maybe f n a = go (flag n)
  where
    go : (b : Bool) → cond b (Some (f a)) None ≡ option_map f (cond b (Some a) None)
    go true = refl
    go false = refl

module _ (i : ℕ) (s : Store) (l : i < session_slots) where
  abbrev connected : ℕ
  connected = s C.sessions i C.session_connected

  pub received_view : (t : ℕ) → gateway (P.set_received i t s) ≡ with_rest (update_session i (Rest.set_received t)) (gateway s)
  received_view t =
      update_view i C.session_last_received t (Rest.set_received t) s l (rw (eq-eqb i i refl) (map_maybe (Rest.set_received t) connected _))

  pub sent_view : (t : ℕ) → gateway (P.set_sent i t s) ≡ with_rest (update_session i (Rest.set_sent t)) (gateway s)
  sent_view t = update_view i C.session_last_sent t (Rest.set_sent t) s l (rw (eq-eqb i i refl) (map_maybe (Rest.set_sent t) connected _))

  pub closing_view : gateway (P.set_closing i s) ≡ with_rest (update_session i Rest.set_closing) (gateway s)
  closing_view = update_view i C.session_closing 1 Rest.set_closing s l (rw (eq-eqb i i refl) (map_maybe Rest.set_closing connected _))

  pub subscribed_view : gateway (P.set_subscribed i s) ≡ with_rest (update_session i Rest.set_subscribed) (gateway s)
  subscribed_view = update_view i C.session_subscribed 1 Rest.set_subscribed s l (rw (eq-eqb i i refl) (map_maybe Rest.set_subscribed connected _))

  pub named_account : (a : ℕ) → session (write C.sessions i C.session_account (a + 1) s C.sessions i) ≡ option_map (Rest.set_account a) (session (s C.sessions i))
  named_account a = rw (eq-eqb i i refl, plus_one (a + 1) a refl) (map_maybe (Rest.set_account a) connected _)

  account_view : (a : ℕ) → gateway (write C.sessions i C.session_account (a + 1) s) ≡ with_rest (update_session i (Rest.set_account a)) (gateway s)
  account_view a = update_view i C.session_account (a + 1) (Rest.set_account a) s l (named_account a)

  gone_view : gateway (write C.sessions i C.session_connected 0 s) ≡ with_rest (without_session i) (gateway s)
  gone_view = session_view i C.session_connected 0 s None l (rw (eq-eqb i i refl) refl)

  pub connect_view : (t : ℕ) → gateway (P.connect i t s) ≡ with_rest (λ r. with_sessions (set r.sessions i (Some (fresh_session t))) r) (gateway s)
  unfolding put_cells
  connect_view t =
      ap (λ xs. with_rest (with_sessions xs) (gateway s))
      (rows_set (λ j. session) C.sessions i session_slots s (P.connect i t s) (cells_rows C.sessions i (P.connect_cells t) s) (Some (fresh_session t)) l (rw (eq-eqb i i refl) refl))

-- ---- accounts

-- the lists that are read from the rows of accounts
abbrev pub with_lists : List (Option Account) → List (Option Funds) → List Bucket → Gateway → Gateway
with_lists xs ws bs g =
    record {
      core =
          record {
            ledger = record { last = g.core.ledger.last; wallets = ws; orders = g.core.ledger.orders; mark = g.core.ledger.mark; fee = g.core.ledger.fee };
            flights = g.core.flights;
            accounts = xs;
          };
      rest = with_buckets bs g.rest;
    }

abbrev with_rows : Gateway → Gateway → Gateway
with_rows h g = with_lists h.core.accounts h.core.ledger.wallets h.rest.buckets g

-- t is s but for the row of account i
record Touched (i : ℕ) (s t : Store) : Type 0 where
  rows : Rows C.accounts i s t
  limit : word t C.owner_limit ≡ word s C.owner_limit
  others : gateway t ≡ with_rows (gateway t) (gateway s)

touched_cells : (i : ℕ) (cs : List (ℕ × ℕ)) (s : Store) → Touched i s (put_cells C.accounts i cs s)
unfolding put_cells
touched_cells i [] s = record { rows = λ j ne. refl; limit = refl; others = refl }
touched_cells i (c ∷ cs) s =
    let k = touched_cells i cs (write C.accounts i c.0 c.1 s) in
    record { rows = cells_rows C.accounts i (c ∷ cs) s; limit = k.limit; others = k.others }

touched_then : (i : ℕ) (s t u : Store) → Touched i s t → Touched i t u → Touched i s u
touched_then i s t u p q =
    record {
      rows = λ j ne. q.rows j ne ∙ p.rows j ne;
      limit = q.limit ∙ p.limit;
      others = q.others ∙ ap (with_rows (gateway u)) p.others;
    }

module _ (i : ℕ) (s t : Store) (h : Touched i s t) where
  accounts_kept : account i (t C.accounts i) ≡ account i (s C.accounts i) → (gateway t).core.accounts ≡ (gateway s).core.accounts
  accounts_kept e = ap (listed (λ j. account j (t C.accounts j))) h.limit ∙ rows_kept account C.accounts i (word s C.owner_limit) s t h.rows e

  accounts_set : (a : Account) → i < word s C.owner_limit → account i (t C.accounts i) ≡ Some a → (gateway t).core.accounts ≡ set (gateway s).core.accounts i (Some a)
  accounts_set a l e =
      ap (listed (λ j. account j (t C.accounts j))) h.limit ∙ rows_set account C.accounts i (word s C.owner_limit) s t h.rows (Some a) l e

  wallets_kept : wallet (t C.accounts i) ≡ wallet (s C.accounts i) → (gateway t).core.ledger.wallets ≡ (gateway s).core.ledger.wallets
  wallets_kept e = rows_kept (λ j. wallet) C.accounts i owner_slots s t h.rows e

  wallets_set : (f : Option Funds) → i < owner_slots → wallet (t C.accounts i) ≡ f → (gateway t).core.ledger.wallets ≡ set (gateway s).core.ledger.wallets i f
  wallets_set f l e = rows_set (λ j. wallet) C.accounts i owner_slots s t h.rows f l e

  buckets_kept : bucket (t C.accounts i) ≡ bucket (s C.accounts i) → (gateway t).rest.buckets ≡ (gateway s).rest.buckets
  buckets_kept e = rows_kept (λ j. bucket) C.accounts i owner_slots s t h.rows e

  buckets_set : (b : Bucket) → i < owner_slots → bucket (t C.accounts i) ≡ b → (gateway t).rest.buckets ≡ set (gateway s).rest.buckets i b
  buckets_set b l e = rows_set (λ j. bucket) C.accounts i owner_slots s t h.rows b l e

  lists_are : {xs : List (Option Account)} {ws : List (Option Funds)} {bs : List Bucket} → (gateway t).core.accounts ≡ xs → (gateway t).core.ledger.wallets ≡ ws →
      (gateway t).rest.buckets ≡ bs → gateway t ≡ with_lists xs ws bs (gateway s)
  lists_are p q r = h.others ∙ (λ d. with_lists (p d) (q d) (r d) (gateway s))

abbrev pub with_wallets : List (Option Funds) → Gateway → Gateway
with_wallets ws g = with_lists g.core.accounts ws g.rest.buckets g

-- where the account has a wallet
pub money_view : (i c p : ℕ) (s : Store) → i < owner_slots → flag (s C.accounts i C.account_funded) ≡ true →
    gateway (P.set_money i c p s) ≡ with_wallets (set (gateway s).core.ledger.wallets i (Some (record { cash = int c; position = int p }))) (gateway s)
unfolding put_cells
money_view i c p s l e =
    let h = touched_cells i (P.money_cells c p) s in
    lists_are i s t h (accounts_kept i s t h (rw (eq-eqb i i refl) refl)) (wallets_set i s t h (Some (record { cash = int c; position = int p })) l (rw (eq-eqb i i refl, e) refl))
    (buckets_kept i s t h (rw (eq-eqb i i refl) refl))
  where
    t : Store
    t = P.set_money i c p s

pub bucket_view : (i : ℕ) (b : Bucket) (s : Store) → i < owner_slots →
    gateway (P.set_bucket i b s) ≡ with_rest (λ r. with_buckets (set r.buckets i b) r) (gateway s)
unfolding put_cells
bucket_view i b s l =
    let h = touched_cells i (P.bucket_cells b) s in
    lists_are i s t h (accounts_kept i s t h (rw (eq-eqb i i refl) refl)) (wallets_kept i s t h (rw (eq-eqb i i refl) refl))
    (buckets_set i s t h b l (rw (eq-eqb i i refl) refl))
  where
    t : Store
    t = P.set_bucket i b s

-- a cell that the gateway does not show
pub cache_view : (i k v : ℕ) (s : Store) → account i (write C.accounts i k v s C.accounts i) ≡ account i (s C.accounts i) →
    wallet (write C.accounts i k v s C.accounts i) ≡ wallet (s C.accounts i) → bucket (write C.accounts i k v s C.accounts i) ≡ bucket (s C.accounts i) →
    gateway (write C.accounts i k v s) ≡ gateway s
unfolding put_cells
cache_view i k v s p q r =
    let h = touched_cells i ((k, v) ∷ []) s in lists_are i s t h (accounts_kept i s t h p) (wallets_kept i s t h q) (buckets_kept i s t h r)
  where
    t : Store
    t = write C.accounts i k v s

-- an account's session is counted, not kept
link_view : (a v : ℕ) (s : Store) → gateway (write C.accounts a C.account_session v s) ≡ gateway s
link_view a v s = cache_view a C.account_session v s (rw (eq-eqb a a refl) refl) (rw (eq-eqb a a refl) refl) (rw (eq-eqb a a refl) refl)

pub log_in_view : (i a : ℕ) (s : Store) → i < session_slots → gateway (P.log_in i a s) ≡ with_rest (update_session i (Rest.set_account a)) (gateway s)
log_in_view i a s l = link_view a (i + 1) (write C.sessions i C.session_account (a + 1) s) ∙ account_view i s l a

leave_view : (a : ℕ) (s : Store) → gateway (P.leave a s) ≡ gateway s
leave_view a s = go (flag a)
  where
    go : (b : Bool) → gateway (cond b (write C.accounts (a - 1) C.account_session 0 s) s) ≡ gateway s
    go true = link_view (a - 1) 0 s
    go false = refl

pub forget_view : (i : ℕ) (s : Store) → i < session_slots → gateway (P.forget i s) ≡ with_rest (without_session i) (gateway s)
forget_view i s l =
    let n = P.logged_in (s C.sessions i) in gone_view i (P.leave n s) l ∙ ap (with_rest (without_session i)) (leave_view n s)

-- ---- what the readers' rows are in the gateway

module _ (i : ℕ) (s : Store) where
  pub account_at_row : i < word s C.owner_limit → account_at i (gateway s).core ≡ account i (s C.accounts i)
  account_at_row l = listed_at (λ j. account j (s C.accounts j)) (word s C.owner_limit) i None l

  pub account_past : word s C.owner_limit ≤ i → account_at i (gateway s).core ≡ None
  account_past l =
      get_or-eq_default (gateway s).core.accounts None {n = i} (rw (listed_length (λ j. account j (s C.accounts j)) (word s C.owner_limit)) l)

  pub wallet_at_row : i < owner_slots → wallet_at i (gateway s).core ≡ wallet (s C.accounts i)
  wallet_at_row l = listed_at (λ j. wallet (s C.accounts j)) owner_slots i None l

  pub bucket_at_row : i < owner_slots → bucket_at i (gateway s).rest ≡ bucket (s C.accounts i)
  bucket_at_row l = listed_at (λ j. bucket (s C.accounts j)) owner_slots i (Throttle.full 0) l

-- ---- a new account

int_back : (z : ℤ) → fits z ≡ true → int (word_of z) ≡ z
unfolding int
int_back z h = word_back z h

-- its row, by its funds
module _ (i token most rate : ℕ) (s : Store) where
  abbrev new : Option Funds → Account
  new f = record { id = i; token = token; max_open_orders = most; messages_per_second = rate; funds = f }

  abbrev new_row : Option Funds → Row
  new_row f = P.add_account (new f) s C.accounts i

  new_account : (f : Option Funds) → MaybeFundsFit f → account i (new_row f) ≡ Some (new f)
  unfolding put_cells
  new_account None h = rw (eq-eqb i i refl) refl
  new_account (Some f) h = rw (eq-eqb i i refl, int_back f.cash h.0, int_back f.position h.1) refl

  new_wallet : (f : Option Funds) → MaybeFundsFit f → wallet (new_row f) ≡ f
  unfolding put_cells
  new_wallet None h = rw (eq-eqb i i refl) refl
  new_wallet (Some f) h = rw (eq-eqb i i refl, int_back f.cash h.0, int_back f.position h.1) refl

  new_bucket : (f : Option Funds) → bucket (new_row f) ≡ Throttle.full rate
  unfolding put_cells
  new_bucket f = rw (eq-eqb i i refl) refl

  new_limits : (f : Option Funds) → most < 2 ^ 32 → rate < 2 ^ 32 → P.LimitsFit (new_row f)
  unfolding put_cells
  new_limits None m r = record { max_open_fits = rw (eq-eqb i i refl) m; rate_fits = rw (eq-eqb i i refl) r }
  new_limits (Some f) m r = record { max_open_fits = rw (eq-eqb i i refl) m; rate_fits = rw (eq-eqb i i refl) r }

touched_by_add : (a : Account) (s : Store) → Touched a.id s (P.add_account a s)
touched_by_add a s =
    let u = P.set_limits a.id a s in
    let v = P.set_funds a.id a.funds u in
    touched_then a.id s v (P.add_account a s)
    (touched_then a.id s u v (touched_cells a.id (P.limit_cells a) s) (touched_cells a.id (P.funds_cells a.funds) u))
    (touched_cells a.id (P.bucket_cells (Throttle.full a.messages_per_second)) v)

pub add_account_rows : (a : Account) (s : Store) → Rows C.accounts a.id s (P.add_account a s)
add_account_rows a s = (touched_by_add a s).rows

pub add_account_view : (a : Account) (s : Store) → MaybeFundsFit a.funds → a.id < word s C.owner_limit → word s C.owner_limit ≤ owner_slots →
    gateway (P.add_account a s) ≡ record { core = core_step system (Ledger.account a) (gateway s).core; rest = joined a (gateway s).rest }
unfolding step
add_account_view a s f l m =
    let i = a.id in
    let h = touched_by_add a s in
    lists_are i s t h
    (accounts_set i s t h a l (new_account i a.token a.max_open_orders a.messages_per_second s a.funds f))
    (wallets_set i s t h a.funds (omega arith) (new_wallet i a.token a.max_open_orders a.messages_per_second s a.funds f))
    (buckets_set i s t h (Throttle.full a.messages_per_second) (omega arith) (new_bucket i a.token a.max_open_orders a.messages_per_second s a.funds))
  where
    t : Store
    t = P.add_account a s

pub add_account_limits : (a : Account) (s : Store) → a.max_open_orders < 2 ^ 32 → a.messages_per_second < 2 ^ 32 → P.LimitsFit (P.add_account a s C.accounts a.id)
add_account_limits a s m r = new_limits a.id a.token a.max_open_orders a.messages_per_second s a.funds m r
