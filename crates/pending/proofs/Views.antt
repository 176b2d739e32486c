-- What the operations do to the gateway that the cells hold: each changes its own part, and the rest stays by computation. Assumes nothing.
use Rattle.std.specs.Prelude.{Option, Some, ℤ}
use mathlib.Core.Path.{◌≡◌, refl, sym, ap, ap₂, ◌∙◌}
use mathlib.Core.Bool.{Bool, true, false, cond}
use mathlib.Core.List.{List, [], ◌∷◌, ◌++◌, append-nil}
use Prim.Native.Nat.{ℕ, zero, suc, ◌+◌, ◌-◌, ◌%◌, ◌≤◌, ◌<◌}
use native.Mathlib.Omega.{arith}
use native.Mathlib.Nat.{add-zero}
use borrow.Author.Tests.{eq-eqb, ne_eqb, le-ltb, lt-ltb}
use Rattle.protocol.specs.declared.TradeTick.{TradeTick}
use Rattle.words.specs.Words.{int}
use Rattle.gateway.specs.Limits.{most_in_flight}
use Rattle.gateway.specs.Core.{Flight, drop_below}
use Rattle.gateway.specs.Calls.{Gateway}
use Rattle.gateway.specs.Entry.{noticing}
use Rattle.gateway.specs.Entry as Entry
use Rattle.gateway.specs.Depth.{Key, is_changed, remember}
use Rattle.gateway.specs.Rest.{Rest, pending, with_batch, with_delivered}
use Rattle.store.specs.Cells as C
use Rattle.store.specs.View.{Row, Store, write, fill, listed, flag, optional, side, word, changed_key, in_slot, flights, depth, gateway}
use Rattle.store.proofs.Listed.{listed_ext, listed_more}
use Rattle.pending.specs.Pending as P

-- a row behind the others: the first n as they were, and x
pub listed_push : {A : Type 0} (f g : ℕ → A) (n : ℕ) (x : A) → ((j : ℕ) → j < n → g j ≡ f j) → g n ≡ x → listed g (n + 1) ≡ listed f n ++ (x ∷ [])
listed_push f g n x h e = listed_more g n ∙ ap (λ l. l ++ (g n ∷ [])) (listed_ext f g n h) ∙ ap (λ y. listed f n ++ (y ∷ [])) e

abbrev pub with_rest : (Rest → Rest) → Gateway → Gateway
with_rest f g = record { core = g.core; rest = f g.rest }

-- a row behind the last notice that does not count is not seen
pub notices_view : (a : ℕ) (s : Store) (b : Bool) → gateway (P.notices a (cond b 1 0) s) ≡ with_rest (noticing (cond b (a ∷ []) [])) (gateway s)
notices_view a s b = ap (λ ns. with_rest (λ r. pending r.depth r.trades ns r) (gateway s)) (go b)
  where
    n : ℕ
    n = word s C.notice_rows

    old : ℕ → ℕ
    old i = s C.notices i C.notice_account

    new : ℕ → ℕ
    new i = write C.notices n C.notice_account a s C.notices i C.notice_account

    same : (j : ℕ) → j < n → new j ≡ old j
    same j l = rw (ne_eqb j n (λ e. omega (arith, e))) refl

    go : (b : Bool) → listed new (n + cond b 1 0) ≡ listed old n ++ cond b (a ∷ []) []
    go true = listed_push old new n a same (rw (eq-eqb n n refl) refl)
    go false = ap (listed new) (add-zero n) ∙ listed_ext old new n same ∙ sym (append-nil (listed old n))

abbrev tick : ℕ → ℕ → ℕ → ℕ → ℕ → TradeTick
tick seq id s p q = record { seq = seq; trade_id = id; side = side s; price = int p; qty = q }

pub trade_view : (seq id x p q : ℕ) (s : Store) →
    gateway (P.trade seq id x p q s) ≡ with_rest (λ r. pending r.depth (r.trades ++ (tick seq id x p q ∷ [])) r.notices r) (gateway s)
unfolding fill
trade_view seq id x p q s =
    ap (λ ts. with_rest (λ r. pending r.depth ts r.notices r) (gateway s))
    (listed_push (λ i. read (s C.trades i)) (λ i. read (P.trade seq id x p q s C.trades i)) n (tick seq id x p q)
    (λ j l. rw (ne_eqb j n (λ e. omega (arith, e))) refl)
    (rw (eq-eqb n n refl) refl))
  where
    n : ℕ
    n = word s C.trade_rows

    read : Row → TradeTick
    read r = tick (r C.trade_seq) (r C.trade_trade_id) (r C.trade_side) (r C.trade_price) (r C.trade_qty)

pub published_view : (s : Store) → gateway (P.published s) ≡ with_rest Entry.published (gateway s)
unfolding listed
published_view s = refl

-- ---- changed levels

abbrev pub with_changed : List Key → Rest → Rest
with_changed ks r = pending (record { resting = r.depth.resting; changed = ks }) r.trades r.notices r

module _ (x p : ℕ) (s : Store) where
  pushed_view : gateway (P.push_level x p s) ≡ with_rest (λ r. with_changed (r.depth.changed ++ (P.key x p ∷ [])) r) (gateway s)
  unfolding fill
  pushed_view =
      ap (λ ks. with_rest (with_changed ks) (gateway s))
      (listed_push (λ i. changed_key (s C.changed i)) (λ i. changed_key (P.push_level x p s C.changed i)) (word s C.changed_rows) (P.key x p)
      (λ j l. rw (ne_eqb j (word s C.changed_rows) (λ e. omega (arith, e))) refl)
      (rw (eq-eqb (word s C.changed_rows) (word s C.changed_rows) refl) refl))

  pub remember_view : gateway (P.remember x p s) ≡ with_rest (λ r. with_changed (remember (P.key x p) r.depth.changed) r) (gateway s)
  unfolding P.remember
  remember_view = go (is_changed (P.key x p) (depth s).changed)
    where
      go : (t : Bool) → gateway (cond t s (P.push_level x p s)) ≡ with_rest (λ r. with_changed (cond t r.depth.changed (r.depth.changed ++ (P.key x p ∷ []))) r) (gateway s)
      go true = refl
      go false = pushed_view

-- ---- words of the header

pub delivered_view : (n : ℕ) (s : Store) → gateway (P.set_delivered n s) ≡ with_rest (with_delivered n) (gateway s)
delivered_view n s = refl

abbrev pub with_mark : Option ℤ → Gateway → Gateway
with_mark p g =
    let l = g.core.ledger in
    record { core = record { ledger = record { last = l.last; wallets = l.wallets; orders = l.orders; mark = p; fee = l.fee }; flights = g.core.flights; accounts = g.core.accounts }; rest = g.rest }

pub mark_view : (p : ℕ) (s : Store) → gateway (P.set_mark p s) ≡ with_mark (Some (int p)) (gateway s)
unfolding fill
mark_view p s = refl

pub clear_view : (s : Store) → gateway (P.clear_batch s) ≡ with_rest (with_batch []) (gateway s)
unfolding listed
clear_view s = refl

-- ---- commands in flight

-- two numbers of a run of at most 256 have slots of their own
slots_apart : (a b : ℕ) → a < b → b < a + most_in_flight → a % most_in_flight ≡ b % most_in_flight → ⊥
slots_apart a b h k e = omega arith

module _ (sender owner places : ℕ) (s : Store) (few : word s C.flying < most_in_flight) (run : word s C.flying ≤ word s C.last) where
  abbrev pub next : ℕ
  next = word s C.last + 1

  abbrev pub new : Flight
  new = record { number = next; session = optional sender; owner = owner; places = flag places }

  old_slot : (n : ℕ) → n < next → next < n + most_in_flight → in_slot (P.take_off sender owner places s) n ≡ in_slot s n
  unfolding fill
  old_slot n h k = rw (ne_eqb (n % most_in_flight) (next % most_in_flight) (slots_apart n next h k)) refl

  new_slot : in_slot (P.take_off sender owner places s) next ≡ new
  unfolding fill
  new_slot = rw (eq-eqb (next % most_in_flight) (next % most_in_flight) refl) refl

  flights_more : flights (P.take_off sender owner places s) ≡ flights s ++ (new ∷ [])
  flights_more =
      listed_push (λ j. in_slot s (word s C.last + 1 + j - word s C.flying)) (λ j. in_slot t (word s C.last + 1 + 1 + j - (word s C.flying + 1))) (word s C.flying) new
      (λ j l.
      let e : word s C.last + 1 + 1 + j - (word s C.flying + 1) ≡ word s C.last + 1 + j - word s C.flying = omega arith in
      ap (in_slot t) e ∙ old_slot (word s C.last + 1 + j - word s C.flying) (omega arith) (omega arith))
      (ap (in_slot t) (let e : word s C.last + 1 + 1 + word s C.flying - (word s C.flying + 1) ≡ next = omega arith in e) ∙ new_slot)
    where
      t : Store
      t = P.take_off sender owner places s

  abbrev pub numbered : Gateway → Gateway
  numbered g =
      record {
        core =
            record {
              ledger = record { last = next; wallets = g.core.ledger.wallets; orders = g.core.ledger.orders; mark = g.core.ledger.mark; fee = g.core.ledger.fee };
              flights = g.core.flights ++ (new ∷ []);
              accounts = g.core.accounts;
            };
        rest = g.rest;
      }

  -- the run grows by the next number, which is the last
  pub take_off_view : gateway (P.take_off sender owner places s) ≡ numbered (gateway s)
  unfolding fill
  take_off_view =
      ap (λ fs. record { core = record { ledger = (numbered (gateway s)).core.ledger; flights = fs; accounts = (gateway s).core.accounts }; rest = (gateway s).rest }) flights_more

pub listed_cons : {A : Type 0} (f : ℕ → A) (m : ℕ) → listed f (suc m) ≡ f 0 ∷ listed (λ j. f (suc j)) m
unfolding listed
listed_cons f zero = refl
listed_cons f (suc m) = ap (λ l. l ++ (f (suc m) ∷ [])) (listed_cons f m)

-- of a run of numbers that starts at k, what is below k + d goes
pub drop_run : (g : ℕ → Flight) → ((x : ℕ) → (g x).number ≡ x) → (d k m : ℕ) → drop_below (k + d) (listed (λ j. g (k + j)) (d + m)) ≡ listed (λ j. g (k + d + j)) m
unfolding listed
drop_run g h zero k zero = refl
drop_run g h zero k (suc m) =
    let e : zero + suc m ≡ suc m = omega arith in
    rw (e, listed_cons (λ j. g (k + j)) m, le-ltb (g (k + 0)).number (k + zero) (rw (h (k + 0)) (omega arith)))
    (sym (listed_cons (λ j. g (k + j)) m) ∙ listed_ext (λ j. g (k + zero + j)) (λ j. g (k + j)) (suc m) (λ j l. ap g (let q : k + j ≡ k + zero + j = omega arith in q)))
drop_run g h (suc d) k m =
    let e : suc d + m ≡ suc (d + m) = omega arith in
    let p : k + suc d ≡ suc k + d = omega arith in
    rw (e, p, listed_cons (λ j. g (k + j)) (d + m), lt-ltb (g (k + 0)).number (suc k + d) (rw (h (k + 0)) (omega arith)))
    (ap (drop_below (suc k + d)) (listed_ext (λ j. g (suc k + j)) (λ j. g (k + suc j)) (d + m) (λ j l. ap g (let q : k + suc j ≡ suc k + j = omega arith in q)))
    ∙ drop_run g h d (suc k) m)

-- an event of number n in the run: what is below n leaves it
module _ (n : ℕ) (s : Store) (low : word s C.last + 1 ≤ n + word s C.flying) (high : n ≤ word s C.last) (run : word s C.flying ≤ word s C.last) where
  flights_less : flights (P.land n s) ≡ drop_below n (flights s)
  flights_less =
      let k = word s C.last + 1 - word s C.flying in
      let d = n - k in
      let m = word s C.last + 1 - n in
      let a : word s C.flying ≡ d + m = omega arith in
      let b : n ≡ k + d = omega arith in
      let from : listed (λ j. in_slot s (word s C.last + 1 + j - word s C.flying)) (word s C.flying) ≡ listed (λ j. in_slot s (k + j)) (d + m) =
      listed_ext (λ j. in_slot s (k + j)) (λ j. in_slot s (word s C.last + 1 + j - word s C.flying)) (word s C.flying)
      (λ j l. ap (in_slot s) (let q : word s C.last + 1 + j - word s C.flying ≡ k + j = omega arith in q))
      ∙ ap (listed (λ j. in_slot s (k + j))) a in
      let to : listed (λ j. in_slot s (word s C.last + 1 + j - m)) m ≡ listed (λ j. in_slot s (k + d + j)) m =
      listed_ext (λ j. in_slot s (k + d + j)) (λ j. in_slot s (word s C.last + 1 + j - m)) m
      (λ j l. ap (in_slot s) (let q : word s C.last + 1 + j - m ≡ k + d + j = omega arith in q)) in
      to ∙ sym (drop_run (in_slot s) (λ x. refl) d k m) ∙ ap₂ drop_below (sym b) (sym from)

  pub land_view : gateway (P.land n s) ≡ record { core = record { ledger = (gateway s).core.ledger; flights = drop_below n (gateway s).core.flights; accounts = (gateway s).core.accounts }; rest = (gateway s).rest }
  land_view = ap (λ fs. record { core = record { ledger = (gateway s).core.ledger; flights = fs; accounts = (gateway s).core.accounts }; rest = (gateway s).rest }) flights_less
