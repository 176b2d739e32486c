-- Sessions and accounts name each other: the session that an account's row names is the one that the definitions find. Assumes nothing.
use Rattle.std.specs.Prelude.{Option, Some, None, option_map, is_some}
use mathlib.Core.Path.{◌≡◌, refl, sym, ap, ◌∙◌}
use mathlib.Core.Logic.{⊎_elim}
use mathlib.Core.Bool.{true, false}
use mathlib.Core.List.{List, [], ◌∷◌}
use Prim.Native.Nat.{ℕ, zero, suc, ◌+◌, ◌-◌, ◌≤◌, ◌<◌}
use native.Mathlib.Nat.{not-suc-le-zero, le_of_suc-le-suc}
use native.Mathlib.Omega.{arith}
use borrow.Author.Tests.{eq-eqb, ne_eqb}
use lib.ListN.{length, get_or}
use lib.Dec.{eqb}
use Rattle.accounts.specs.declared.Account.{Account}
use Rattle.accounts.specs.declared.Funds.{Funds}
use Rattle.risk.specs.declared.Bucket.{Bucket}
use Rattle.risk.specs.Throttle as Throttle
use Rattle.table.proofs.Live.{same?}
use Rattle.gateway.specs.Basics.{option}
use Rattle.gateway.specs.Limits.{owner_slots, session_slots}
use Rattle.gateway.specs.Rest as Rest
use Rattle.gateway.specs.Rest.{account_of, logged_in, session_from, session_of}
use Rattle.store.specs.Cells as C
use Rattle.store.specs.View.{Row, Store, write, listed, optional, session, gateway, zeros}
use Rattle.store.proofs.Listed.{listed_at, listed_length}
use Rattle.clients.specs.Clients as P
use Rattle.clients.specs.Clients.{put_cells, Linked}
use Rattle.clients.proofs.Laws.{plus_one, account_known}
use Rattle.clients.proofs.Rows.{write_row, write_rows, write_cell, cells_rows, spares, cells_spare, cells_block}
use Rattle.clients.proofs.Views.{named_account}
use Rattle.words.specs.Words.{word_of}

-- the account of the session in slot i, and the cell of account a that names its session
abbrev pub account_in : Store → ℕ → Option ℕ
account_in s i = account_of (session (s C.sessions i))

abbrev pub session_cell_of : Store → ℕ → ℕ
session_cell_of s a = s C.accounts a C.account_session

-- ---- what the definitions find

not_in : (a : ℕ) (o : Option ℕ) → (o ≡ Some a → ⊥) → option false (eqb a) o ≡ false
not_in a None h = refl
not_in a (Some b) h = ne_eqb a b (λ e. h (ap Some (sym e)))

from_first : (k a : ℕ) (xs : List (Option Rest.Session)) (i : ℕ) → i < length xs → account_of (get_or xs i None) ≡ Some a →
    ((j : ℕ) → j < i → account_of (get_or xs j None) ≡ Some a → ⊥) → session_from k a xs ≡ Some (k + i)
from_first k a [] i l e h = absurd (not-suc-le-zero l)
from_first k a (x ∷ xs) zero l e h =
    let t : logged_in a x ≡ true = ap (option false (eqb a)) e ∙ eq-eqb a a refl in
    rw t (ap Some (let q : k ≡ k + 0 = omega arith in q))
from_first k a (x ∷ xs) (suc i) l e h =
    rw (not_in a (account_of x) (h 0 (omega arith)))
    (from_first (suc k) a xs i (le_of_suc-le-suc l) e (λ j m. h (suc j) (omega arith)) ∙ ap Some (let q : suc k + i ≡ k + suc i = omega arith in q))

from_nobody : (k a : ℕ) (xs : List (Option Rest.Session)) → ((j : ℕ) → j < length xs → account_of (get_or xs j None) ≡ Some a → ⊥) → session_from k a xs ≡ None
from_nobody k a [] h = refl
from_nobody k a (x ∷ xs) h =
    rw (not_in a (account_of x) (h 0 (omega arith))) (from_nobody (suc k) a xs (λ j l. h (suc j) (omega arith)))

module _ (s : Store) where
  abbrev slots : List (Option Rest.Session)
  slots = listed (λ i. session (s C.sessions i)) session_slots

  in_list : (i : ℕ) → i < session_slots → account_of (get_or slots i None) ≡ account_in s i
  in_list i l = ap account_of (listed_at (λ j. session (s C.sessions j)) session_slots i None l)

  in_slots : (i : ℕ) → i < length slots → i < session_slots
  in_slots i l = rw (listed_length (λ j. session (s C.sessions j)) session_slots) at l

  nobody_in : (a : ℕ) → ((i : ℕ) → i < session_slots → account_in s i ≡ Some a → ⊥) → session_of a (gateway s).rest ≡ None
  nobody_in a h = from_nobody 0 a slots (λ j l e. h j (in_slots j l) (sym (in_list j (in_slots j l)) ∙ e))

  session_by : (a n : ℕ) → Linked s → a < owner_slots → session_cell_of s a ≡ n → session_of a (gateway s).rest ≡ optional n
  session_by a zero k l c = nobody_in a (λ i m e. let u : ◌≡◌ {A = ℕ} 0 (i + 1) = sym c ∙ (k.forth i a m e).1 in omega arith)
  session_by a (suc i) k l c =
      let u = k.back a i l (c ∙ (let q : suc i ≡ i + 1 = omega arith in q)) in
      from_first 0 a slots i (rw (listed_length (λ j. session (s C.sessions j)) session_slots) u.0) (in_list i u.0 ∙ u.1)
      (λ j m e.
      let n : j < session_slots = omega (arith, u.0) in
      let v = (k.forth j a n (sym (in_list j n) ∙ e)).1 in
      omega (arith, v, c))
      ∙ sym (plus_one (suc i) (0 + i) (omega arith))

  -- the session that an account's row names, plus one, is the one that is logged in for it
  pub session_of_cell : (a : ℕ) → Linked s → a < owner_slots → session_of a (gateway s).rest ≡ optional (session_cell_of s a)
  session_of_cell a k l = session_by a (session_cell_of s a) k l refl

  pub session_of_past : (a : ℕ) → Linked s → owner_slots ≤ a → session_of a (gateway s).rest ≡ None
  session_of_past a k l = nobody_in a (λ i m e. omega (arith, (k.forth i a m e).0))

-- ---- what leaves the links

pub linked_ext : (s t : Store) → ((i : ℕ) → i < session_slots → account_in t i ≡ account_in s i) →
    ((a : ℕ) → a < owner_slots → session_cell_of t a ≡ session_cell_of s a) → Linked s → Linked t
linked_ext s t p q k =
    record {
      forth = λ i a l e. let u = k.forth i a l (sym (p i l) ∙ e) in (u.0, q a u.0 ∙ u.1);
      back = λ a i l e. let u = k.back a i l (sym (q a l) ∙ e) in (u.0, p i u.0 ∙ u.1);
    }

-- two cells of a session's row tell its account
pub two_cells : (q r : Row) → q C.session_connected ≡ r C.session_connected → q C.session_account ≡ r C.session_account → account_of (session q) ≡ account_of (session r)
two_cells q r e f =
    let g : P.logged_in q ≡ P.logged_in r = rw (e, f) refl in
    sym (account_known q) ∙ ap optional g ∙ account_known r

pub linked_zeros : Linked zeros
linked_zeros =
    record {
      forth = λ i a l e. absurd (let z : ◌≡◌ {A = ℕ} 0 1 = cc in omega arith);
      back = λ a i l e. absurd (omega arith);
    }

-- a cell of a session behind the first two: when it was heard, closing, subscribed
pub linked_cell : (i k v : ℕ) (s : Store) → C.session_account < k → Linked s → Linked (write C.sessions i k v s)
linked_cell i k v s l c =
    linked_ext s (write C.sessions i k v s)
    (λ j m.
    two_cells (write C.sessions i k v s C.sessions j) (s C.sessions j) (write_cell C.sessions i k v s j C.session_connected (λ e. omega (arith, e)))
    (write_cell C.sessions i k v s j C.session_account (λ e. omega (arith, e))))
    (λ a m. refl) c

-- cells of an account's row, none of them its session
linked_cells : (i : ℕ) (cs : List (ℕ × ℕ)) (s : Store) → spares C.account_session cs ≡ true → Linked s → Linked (put_cells C.accounts i cs s)
linked_cells i cs s t k =
    linked_ext s (put_cells C.accounts i cs s)
    (λ j l.
    two_cells (put_cells C.accounts i cs s C.sessions j) (s C.sessions j) (cells_block C.accounts i cs s C.sessions j C.session_connected refl)
    (cells_block C.accounts i cs s C.sessions j C.session_account refl))
    (λ a l. cells_spare C.accounts i C.account_session cs s a t) k

pub linked_money : (i c p : ℕ) (s : Store) → Linked s → Linked (P.set_money i c p s)
linked_money i c p s k = linked_cells i (P.money_cells c p) s refl k

pub linked_bucket : (i : ℕ) (b : Bucket) (s : Store) → Linked s → Linked (P.set_bucket i b s)
linked_bucket i b s k = linked_cells i (P.bucket_cells b) s refl k

linked_funds : (i : ℕ) (f : Option Funds) (s : Store) → Linked s → Linked (P.set_funds i f s)
linked_funds i None s k = linked_cells i ((C.account_funded, 0) ∷ []) s refl k
linked_funds i (Some f) s k = linked_cells i (P.fund_cells (word_of f.cash) (word_of f.position)) s refl k

pub linked_add_account : (a : Account) (s : Store) → Linked s → Linked (P.add_account a s)
linked_add_account a s k =
    let u = P.set_limits a.id a s in
    linked_bucket a.id (Throttle.full a.messages_per_second) (P.set_funds a.id a.funds u)
    (linked_funds a.id a.funds u (linked_cells a.id (P.limit_cells a) s refl k))

-- ---- connecting: nobody was in the slot

pub linked_connect : (i t : ℕ) (s : Store) → session (s C.sessions i) ≡ None → Linked s → Linked (P.connect i t s)
unfolding put_cells
linked_connect i t s e k =
    linked_ext s (P.connect i t s)
    (λ j l.
    ⊎_elim (λ (q : j ≡ i). rw (q, eq-eqb i i refl) (sym (ap account_of e))) (λ ne. ap (λ r. account_of (session r)) (cells_rows C.sessions i (P.connect_cells t) s j ne))
    (same? j i))
    (λ a l. refl) k

-- ---- logging in and leaving: session i and account a name each other, or neither names anybody

data Paired (i a : ℕ) (s : Store) : Type 0 where
  apart : account_in s i ≡ None → session_cell_of s a ≡ 0 → Paired i a s
  joined : account_in s i ≡ Some a → session_cell_of s a ≡ i + 1 → Paired i a s

module _ {i a : ℕ} {s : Store} where
  its_account : Paired i a s → (b : ℕ) → account_in s i ≡ Some b → (b ≡ a) × (session_cell_of s a ≡ i + 1)
  its_account (apart p q) b e = absurd (let z : ◌≡◌ {A = ℕ} 0 1 = cc in omega arith)
  its_account (joined p q) b e = (cc, q)

  its_session : Paired i a s → (j : ℕ) → session_cell_of s a ≡ j + 1 → (j ≡ i) × (account_in s i ≡ Some a)
  its_session (apart p q) j e = absurd (let z : ◌≡◌ {A = ℕ} 0 (j + 1) = sym q ∙ e in omega arith)
  its_session (joined p q) j e = (let z : j + 1 ≡ i + 1 = sym e ∙ q in omega arith, p)

relinked : (i a : ℕ) (s t : Store) → i < session_slots → a < owner_slots → Paired i a s → Paired i a t →
    ((j : ℕ) → (j ≡ i → ⊥) → account_in t j ≡ account_in s j) → ((b : ℕ) → (b ≡ a → ⊥) → session_cell_of t b ≡ session_cell_of s b) → Linked s → Linked t
relinked i a s t li la before after p q k =
    record {
      forth = λ j b l e. ⊎_elim (λ (f : j ≡ i). here j b f e) (λ ne. there j b l ne (sym (p j ne) ∙ e)) (same? j i);
      back = λ b j l e. ⊎_elim (λ (f : b ≡ a). home b j f e) (λ ne. away b j l ne (sym (q b ne) ∙ e)) (same? b a);
    }
  where
    here : (j b : ℕ) → j ≡ i → account_in t j ≡ Some b → (b < owner_slots) × (session_cell_of t b ≡ j + 1)
    here j b f e =
        let u = its_account after b (ap (account_in t) (sym f) ∙ e) in
        (rw u.0 la, ap (session_cell_of t) u.0 ∙ u.1 ∙ ap (λ n. n + 1) (sym f))

    there : (j b : ℕ) → j < session_slots → (j ≡ i → ⊥) → account_in s j ≡ Some b → (b < owner_slots) × (session_cell_of t b ≡ j + 1)
    there j b l ne e =
        let u = k.forth j b l e in
        (u.0, q b (λ f. ne (its_session before j (ap (session_cell_of s) (sym f) ∙ u.1)).0) ∙ u.1)

    home : (b j : ℕ) → b ≡ a → session_cell_of t b ≡ j + 1 → (j < session_slots) × (account_in t j ≡ Some b)
    home b j f e =
        let u = its_session after j (ap (session_cell_of t) (sym f) ∙ e) in
        (rw u.0 li, ap (account_in t) u.0 ∙ u.1 ∙ ap Some (sym f))

    away : (b j : ℕ) → b < owner_slots → (b ≡ a → ⊥) → session_cell_of s b ≡ j + 1 → (j < session_slots) × (account_in t j ≡ Some b)
    away b j l ne e =
        let u = k.back b j l e in
        (u.0, p j (λ f. ne (its_account before b (ap (account_in s) (sym f) ∙ u.1)).0) ∙ u.1)

account_set : (a : ℕ) (o : Option Rest.Session) → is_some o ≡ true → account_of (option_map (Rest.set_account a) o) ≡ Some a
account_set a None e = absurd (let z : ◌≡◌ {A = ℕ} 0 1 = cc in omega arith)
account_set a (Some x) e = refl

-- the session is there and not logged in, and the account has no session
pub linked_log_in : (i a : ℕ) (s : Store) → i < session_slots → a < owner_slots → is_some (session (s C.sessions i)) ≡ true → account_in s i ≡ None →
    session_cell_of s a ≡ 0 → Linked s → Linked (P.log_in i a s)
linked_log_in i a s li la e n z k =
    relinked i a s (P.log_in i a s) li la (apart n z)
    (joined (ap account_of (named_account i s li a) ∙ account_set a (session (s C.sessions i)) e) (rw (eq-eqb a a refl) refl))
    (λ j ne. ap (λ r. account_of (session r)) (write_rows C.sessions i C.session_account (a + 1) s j ne))
    (λ b ne. write_row C.accounts a C.account_session (i + 1) s b C.account_session ne) k

-- a session that goes, and the account that it was logged in for
module _ (i : ℕ) (s : Store) (l : i < session_slots) (k : Linked s) where
  gone : (t : Store) → account_in (write C.sessions i C.session_connected 0 t) i ≡ None
  gone t = rw (eq-eqb i i refl) refl

  others : (t : Store) (j : ℕ) → (j ≡ i → ⊥) → account_in (write C.sessions i C.session_connected 0 t) j ≡ account_in t j
  others t j ne = ap (λ r. account_of (session r)) (write_rows C.sessions i C.session_connected 0 t j ne)

  was_nobody : account_in s i ≡ None → Linked (write C.sessions i C.session_connected 0 s)
  was_nobody e =
      linked_ext s (write C.sessions i C.session_connected 0 s)
      (λ j m. ⊎_elim (λ (q : j ≡ i). rw q (gone s ∙ sym e)) (λ ne. others s j ne) (same? j i)) (λ a m. refl) k

  was_in : (a : ℕ) → account_in s i ≡ Some a → Linked (write C.sessions i C.session_connected 0 (write C.accounts a C.account_session 0 s))
  was_in a e =
      let u = k.forth i a l e in
      let t = write C.accounts a C.account_session 0 s in
      relinked i a s (write C.sessions i C.session_connected 0 t) l u.0 (joined e u.1) (apart (gone t) (rw (eq-eqb a a refl) refl)) (others t)
      (λ b ne. write_row C.accounts a C.account_session 0 s b C.account_session ne) k

  by_account : (n : ℕ) → optional n ≡ account_in s i → Linked (write C.sessions i C.session_connected 0 (P.leave n s))
  by_account n e =
      ⊎_elim (λ (z : n ≡ 0). rw z (was_nobody (sym e ∙ ap optional z)))
      (λ ne. rw (ne_eqb n 0 ne) (was_in (n - 1) (sym e ∙ plus_one n (n - 1) (omega arith)))) (same? n 0)

  pub linked_forget : Linked (P.forget i s)
  linked_forget = by_account (P.logged_in (s C.sessions i)) (account_known (s C.sessions i))
