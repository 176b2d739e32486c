-- What the readers find and what the writers write. Assumes nothing.
use Rattle.std.proofs.lemmas.Option.{none-some}
use Rattle.std.specs.Prelude.{Option, Some, None, is_some}
use mathlib.Core.Path.{◌≡◌, refl, sym, ap, ◌∙◌}
use mathlib.Core.Logic.{⊎_elim}
use mathlib.Core.Bool.{Bool, true, false, cond, not-not, ◌&&◌}
use mathlib.Core.List.{List, [], ◌∷◌}
use Prim.Native.Nat.{ℕ, zero, suc, ◌+◌, ◌-◌, ◌≤◌, ◌<◌}
use native.Mathlib.Omega.{arith}
use borrow.Author.Tests.{ltb-true, ne_eqb}
use lib.Dec.{eqb, ltb}
use lib.ListN.{get_or-eq_default}
use mathlib.Core.Bool.{and-eq-true_iff}
use Rattle.accounts.specs.declared.Account.{Account}
use Rattle.accounts.specs.declared.Funds.{Funds}
use Rattle.table.proofs.Live.{same?}
use lib.IntN.{ℤ}
use Rattle.words.specs.Words.{int, fit, word_of, modulus}
use Rattle.words.proofs.Int.{of_int}
use Rattle.words.proofs.Wrap.{fit_int}
use Rattle.risk.specs.declared.Bucket.{Bucket}
use Rattle.risk.specs.Throttle as Throttle
use Rattle.gateway.specs.Fits.{Signed, FundsFit, MaybeFundsFit}
use Rattle.gateway.specs.Ledger.{fits}
use Rattle.gateway.specs.Limits.{owner_slots, session_slots}
use Rattle.gateway.specs.Rest as Rest
use Rattle.gateway.specs.Rest.{is_open, is_present, is_subscribed, account_of, session_at}
use Rattle.store.specs.Cells as C
use Rattle.store.specs.Layout.{blocks, rows, width, cell, Cell, Holds, Set}
use Rattle.store.specs.View.{Row, Store, Same, write, flag, maybe, optional, account, wallet, session, gateway, Is}
use Rattle.store.proofs.Listed.{listed_at, listed_length}
use Rattle.store.proofs.Places.{account_cell}
use Rattle.store.proofs.Rows.{then_set, is_itself, same_write}
use Rattle.clients.specs.declared.Session.{Session}
use Rattle.clients.specs.Clients as P
use Rattle.clients.specs.Clients.{put_cells, session_words, session_in, logged_in, AccountOf, Linked}

-- ---- readers

-- a value is there where its flag is set
there : {A : Type 0} (n : ℕ) (a : A) → flag n ≡ is_some (maybe n a)
there n a = go (flag n)
  where
    go : (b : Bool) → b ≡ is_some (cond b (Some a) None)
    go true = refl
    go false = refl

-- the row of an account
module _ (xs : List ℕ) (i : ℕ) where
  abbrev row : Row
  row = cell xs C.accounts i

  pub account_there : flag (row C.account_exists) ≡ is_some (account i row)
  account_there = there (row C.account_exists) _

  pub wallet_there : flag (row C.account_funded) ≡ is_some (wallet row)
  wallet_there = there (row C.account_funded) _

  pub funds_some : (b : Bool) (c p : ℕ) (f : Funds) → b ≡ flag (row C.account_funded) → b ≡ true →
      c ≡ row C.account_funds_cash → p ≡ row C.account_funds_position → f ≡ record { cash = int c; position = int p } → Some f ≡ P.funds row
  funds_some b c p f h t ce pe e = let g : flag (row C.account_funded) ≡ true = sym h ∙ t in rw (e, ce, pe, g) refl

  pub funds_none : (b : Bool) → b ≡ flag (row C.account_funded) → b ≡ false → None ≡ P.funds row
  funds_none b h t = let g : flag (row C.account_funded) ≡ false = sym h ∙ t in rw g refl

  pub account_row_is : (t n m : ℕ) (f : Option Funds) → flag (row C.account_exists) ≡ true →
      t ≡ row C.account_token → n ≡ row C.account_max_open → m ≡ row C.account_rate → f ≡ P.funds row →
      Some (record { id = i; token = t; max_open_orders = n; messages_per_second = m; funds = f }) ≡ account i row
  account_row_is t n m f h te ne me fe = rw (te, ne, me, fe, h) refl

  pub no_row : (b : Bool) → b ≡ flag (row C.account_exists) → b ≡ false → None ≡ account i row
  no_row b h t = let g : flag (row C.account_exists) ≡ false = sym h ∙ t in rw g refl

-- a row that is not connected, and one that is
module _ (x : Session) where
  pub absent : x.connected ≡ 0 → session_in x ≡ None
  absent e = rw e refl

  pub present : (x.connected ≡ 0 → ⊥) → eqb x.closing 0 ≡ is_present (session_in x)
  present h = rw (ne_eqb x.connected 0 h) (sym (not-not (eqb x.closing 0)))

  pub subscribed : (x.connected ≡ 0 → ⊥) → flag x.subscribed ≡ is_subscribed (session_in x)
  subscribed h = rw (ne_eqb x.connected 0 h) refl

  pub no_account : x.connected ≡ 0 → AccountOf x 0
  no_account e = record { exact = rw e refl; known = rw e refl }

  pub its_account : (x.connected ≡ 0 → ⊥) → AccountOf x x.account
  its_account h = record { exact = rw (ne_eqb x.connected 0 h) refl; known = rw (ne_eqb x.connected 0 h) refl }

-- open: logged in and present
open_by : (o : Option Rest.Session) → is_open o ≡ (is_some (account_of o) && is_present o)
open_by None = refl
open_by (Some x) = refl

pub not_open : (o : Option Rest.Session) (n : ℕ) → optional n ≡ account_of o → n ≡ 0 → false ≡ is_open o
not_open o n e z =
    let f : account_of o ≡ None = sym e ∙ ap optional z in sym (open_by o ∙ ap (λ a. is_some a && is_present o) f)

pub open_present : (o : Option Rest.Session) (n : ℕ) (p : Bool) → optional n ≡ account_of o → (n ≡ 0 → ⊥) → p ≡ is_present o → p ≡ is_open o
open_present o n p e h q =
    let f : is_some (account_of o) ≡ true = ap is_some (sym e) ∙ rw (ne_eqb n 0 h) refl in
    q ∙ sym (open_by o ∙ ap (λ b. b && is_present o) f)

-- the session of a slot, and past the slots
pub in_slot : (xs : List ℕ) (i : ℕ) (x : Session) → i < session_slots → x ≡ session_words (cell xs C.sessions i) →
    session_in x ≡ session_at i (gateway (cell xs)).rest
in_slot xs i x l e = rw e (sym (listed_at (λ j. session (cell xs C.sessions j)) session_slots i None l))

pub past_slots : (xs : List ℕ) (i : ℕ) (x : Session) → session_slots ≤ i → session_in x ≡ None →
    session_in x ≡ session_at i (gateway (cell xs)).rest
past_slots xs i x l e =
    e ∙ sym (get_or-eq_default (gateway (cell xs)).rest.sessions None {n = i} (rw (listed_length (λ j. session (cell xs C.sessions j)) session_slots) l))

-- ---- writers

-- stores one after the other in one row
pub data Sets (b i : ℕ) : List ℕ → List (ℕ × ℕ) → List ℕ → Type 0 where
  no_sets : {xs : List ℕ} → Sets b i xs [] xs
  then_sets : {xs ys zs : List ℕ} {k v : ℕ} {cs : List (ℕ × ℕ)} → Set xs ys b i k v → Sets b i ys cs zs → Sets b i xs ((k, v) ∷ cs) zs

-- the cells stand in a row of this width
abbrev within : ℕ → List (ℕ × ℕ) → Bool
within w [] = true
within w (c ∷ cs) = ltb c.0 w && within w cs

after_sets : {b i : ℕ} {xs zs : List ℕ} {s : Store} {cs : List (ℕ × ℕ)} → b < blocks → i < rows b → within (width b) cs ≡ true →
    Is xs s → Sets b i xs cs zs → Is zs (put_cells b i cs s)
unfolding put_cells
after_sets h l t p no_sets = p
after_sets {b = b} h l t p (then_sets {k = k} {cs = cs} q r) =
    let u = (and-eq-true_iff (ltb k (width b)) (within (width b) cs)).0 t in
    after_sets h l u.1 (then_set p (record { block_is = h; row_is = l; cell_is = ltb-true k (width b) u.0 }) q) r

-- from the cells that xs holds
pub sets_is : {xs zs : List ℕ} (b i : ℕ) (cs : List (ℕ × ℕ)) → Holds xs → b < blocks → i < rows b → within (width b) cs ≡ true →
    Sets b i xs cs zs → Is zs (put_cells b i cs (cell xs))
sets_is b i cs m h l t p = after_sets h l t (is_itself m) p

same_cells : (s t : Store) (b i : ℕ) (cs : List (ℕ × ℕ)) → Same s t → Same (put_cells b i cs s) (put_cells b i cs t)
unfolding put_cells
same_cells s t b i [] p = p
same_cells s t b i (c ∷ cs) p = same_cells (write b i c.0 c.1 s) (write b i c.0 c.1 t) b i cs (same_write s t b i c.0 c.1 p)

-- a row's cells after writes that left s
pub then_cells : {ys zs : List ℕ} {s : Store} (b i : ℕ) (cs : List (ℕ × ℕ)) → Is ys s → Is zs (put_cells b i cs (cell ys)) → Is zs (put_cells b i cs s)
then_cells {ys} {zs} {s} b i cs p q =
    record { holds = q.holds; same = λ d j l c. q.same d j l c ∙ same_cells (cell ys) s b i cs p.same d j l c }

pub then_write : {ys zs : List ℕ} {s : Store} (b i k v : ℕ) → Is ys s → Is zs (write b i k v (cell ys)) → Is zs (write b i k v s)
then_write {ys} {zs} {s} b i k v p q =
    record { holds = q.holds; same = λ d j l c. q.same d j l c ∙ same_write (cell ys) s b i k v p.same d j l c }

pub set_cell_is : {xs ys : List ℕ} (b i k v : ℕ) → Holds xs → Cell b i k → Set xs ys b i k v → Is ys (write b i k v (cell xs))
set_cell_is b i k v h c p = then_set (is_itself h) c p

-- the words of an i64
pub write_funds_is : {xs ys zs us vs : List ℕ} (i c p : ℕ) → Holds xs → i < owner_slots → Set xs ys C.accounts i C.account_funded 1 → Set ys zs C.accounts i C.account_funds_cash c →
    Set zs us C.accounts i C.account_funds_position p → Is vs (P.set_money i c p (cell us)) → Is vs (P.fund i c p (cell xs))
unfolding put_cells
write_funds_is i c p h l x y z q =
    then_cells C.accounts i (P.money_cells c p)
    (sets_is C.accounts i ((C.account_funded, 1) ∷ (C.account_funds_cash, c) ∷ (C.account_funds_position, p) ∷ []) h (omega arith) l refl (then_sets x (then_sets y (then_sets z no_sets)))) q

pub word_fits : (w : ℕ) (z : ℤ) → w < modulus → int w ≡ z → Signed z
unfolding fits
word_fits w z h e = ap (λ x. is_some (fit x)) (sym e) ∙ ap is_some (fit_int w h)

pub fund_is : {zs : List ℕ} (s : Store) (i c p : ℕ) (f : Funds) → c < modulus → p < modulus → int c ≡ f.cash → int p ≡ f.position →
    Is zs (P.fund i c p s) → Is zs (P.fund i (word_of f.cash) (word_of f.position) s) × FundsFit f
fund_is s i c p f h k e g q = (rw (← e, ← g, of_int c h, of_int p k) q, (word_fits c f.cash h e, word_fits p f.position k g))

pub no_funds_is : {xs zs : List ℕ} (i : ℕ) (f : Option Funds) → Holds xs → i < owner_slots → f ≡ None →
    Set xs zs C.accounts i C.account_funded 0 → Is zs (P.set_funds i f (cell xs))
no_funds_is i f h l e p = rw e (sets_is C.accounts i ((C.account_funded, 0) ∷ []) h (omega arith) l refl (then_sets p no_sets))

pub no_funds_fit : (f : Option Funds) → f ≡ None → MaybeFundsFit f
no_funds_fit f e = rw e tt

pub some_funds_is : {zs : List ℕ} (xs : List ℕ) (i : ℕ) (f : Option Funds) (x : Funds) → f ≡ Some x →
    Is zs (P.fund i (word_of x.cash) (word_of x.position) (cell xs)) → Is zs (P.set_funds i f (cell xs))
some_funds_is xs i f x e p = rw e p

pub some_funds_fit : (f : Option Funds) (x : Funds) → f ≡ Some x → FundsFit x → MaybeFundsFit f
some_funds_fit f x e p = rw e p

pub add_account_is : (xs : List ℕ) {a b zs : List ℕ} (x : Account) (y : Bucket) → y ≡ Throttle.full x.messages_per_second →
    Is a (P.set_limits x.id x (cell xs)) → Is b (P.set_funds x.id x.funds (cell a)) → Is zs (P.set_bucket x.id y (cell b)) → Is zs (P.add_account x (cell xs))
add_account_is xs x y e p q r =
    then_cells C.accounts x.id (P.bucket_cells (Throttle.full x.messages_per_second))
    (then_cells C.accounts x.id (P.funds_cells x.funds) p q) (rw e at r)

pub log_in_is : (xs : List ℕ) {ys zs : List ℕ} (i a : ℕ) → a < owner_slots →
    Is ys (write C.sessions i C.session_account (a + 1) (cell xs)) → Set ys zs C.accounts a C.account_session (i + 1) → Is zs (P.log_in i a (cell xs))
log_in_is xs i a l p q = then_set p (account_cell a C.account_session l (omega arith)) q

pub leave_nobody : {xs : List ℕ} (a : ℕ) → Holds xs → a ≡ 0 → Is xs (P.leave a (cell xs))
leave_nobody a h e = rw e (is_itself h)

pub leave_is : {xs ys : List ℕ} (a : ℕ) → Holds xs → (a ≡ 0 → ⊥) → a ≤ owner_slots → Set xs ys C.accounts (a - 1) C.account_session 0 → Is ys (P.leave a (cell xs))
leave_is a h ne l p = rw (ne_eqb a 0 ne) (then_set (is_itself h) (account_cell (a - 1) C.account_session (omega arith) (omega arith)) p)

pub forget_is : (xs : List ℕ) {ys zs : List ℕ} (i a : ℕ) (x : Session) → x ≡ session_words (cell xs C.sessions i) → AccountOf x a →
    Is ys (P.leave a (cell xs)) → Is zs (write C.sessions i C.session_connected 0 (cell ys)) → Is zs (P.forget i (cell xs))
forget_is xs i a x e h p q =
    let n : a ≡ logged_in (cell xs C.sessions i) = rw e at h.exact in
    rw (← n) (then_write C.sessions i C.session_connected 0 p q)

-- what a session's row says of its account
pub account_known : (r : Row) → optional (logged_in r) ≡ account_of (session r)
account_known r = ⊎_elim (λ e. rw e refl) (λ ne. rw (ne_eqb (r C.session_connected) 0 ne) refl) (same? (r C.session_connected) 0)

-- a number plus one
pub plus_one : (n m : ℕ) → n ≡ m + 1 → optional n ≡ Some m
plus_one n m e = rw (ne_eqb n 0 (λ z. omega arith)) (ap Some (let q : n - 1 ≡ m = omega arith in q))

-- and back
pub from_plus_one : (n m : ℕ) → optional n ≡ Some m → n ≡ m + 1
from_plus_one zero m e = absurd (none-some m e)
from_plus_one (suc n) m e = grind arith

account_below : (s : Store) (i n : ℕ) → Linked s → i < session_slots → optional n ≡ account_of (session (s C.sessions i)) → n ≤ owner_slots
account_below s i zero k l e = omega arith
account_below s i (suc n) k l e = omega (arith, (k.forth i n l (sym e ∙ plus_one (suc n) n (omega arith))).0)

pub leave_below : (xs : List ℕ) (i a : ℕ) (x : Session) → Linked (cell xs) → i < session_slots → x ≡ session_words (cell xs C.sessions i) → AccountOf x a → a ≤ owner_slots
leave_below xs i a x k l e h = account_below (cell xs) i a k l (rw e at h.known)
