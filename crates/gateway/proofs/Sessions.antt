-- Sessions and accounts name each other: each session's account exists, and no two sessions have one account. Assumes nothing.
use Rattle.std.specs.Prelude.{Option, Some, None, option_map, is_some}
use Prim.Native.Nat.{ℕ, zero, suc, ◌<◌}
use mathlib.Core.Bool.{Bool, true, false, cond}
use mathlib.Core.Path.{◌≡◌, refl, ap, sym, ◌∙◌, subst}
use mathlib.Core.List.{List, [], ◌∷◌}
use mathlib.Core.Logic.{⊎_elim, inl, inr, ◌⊎◌}
use native.Mathlib.Omega.{arith}
use borrow.Author.Tests.{eq-eqb}
use lib.ListN.{length, set, length-set}
use lib.Seq.{get_or-set_same, get_or-set_other}
use lib.Dec.{eqb}
use Rattle.accounts.specs.declared.Account.{Account}
use Rattle.gateway.specs.Basics.{option}
use Rattle.gateway.specs.Rest.{Session, Mail, send, close, Rest, session_at, account_of, logged_in, session_from, update_session, set_sent, stamped}
use Rattle.gateway.specs.Calls.{close_where}
use Rattle.table.proofs.Live.{same?}
use Rattle.gateway.specs.Invariant.{Known, SessionsOk, at}

-- ---- what keeps every account

-- the same accounts in the same slots
pub record Alike (xs ys : List (Option Session)) : Type 0 where
  pub len : length ys ≡ length xs
  pub acct : (i : ℕ) → at ys i ≡ at xs i

pub alike_ok : (t : List (Option Account)) {xs ys : List (Option Session)} → Alike xs ys → SessionsOk t xs → SessionsOk t ys
alike_ok t e ok =
    record {
      slots = e.len ∙ ok.slots;
      known = λ i. subst (Known t) (sym (e.acct i)) (ok.known i);
      single = λ a i j p q. ok.single a i j (sym (e.acct i) ∙ p) (sym (e.acct j) ∙ q);
    }

pub alike_refl : (xs : List (Option Session)) → Alike xs xs
alike_refl xs = record { len = refl; acct = λ i. refl }

alike_trans : {xs ys zs : List (Option Session)} → Alike xs ys → Alike ys zs → Alike xs zs
alike_trans p q = record { len = q.len ∙ p.len; acct = λ i. q.acct i ∙ p.acct i }

set_acct : (xs : List (Option Session)) (s : ℕ) (v : Option Session) → account_of v ≡ at xs s → (i : ℕ) → at (set xs s v) i ≡ at xs i
set_acct [] s v h i = refl
set_acct (x ∷ xs) zero v h zero = h
set_acct (x ∷ xs) zero v h (suc i) = refl
set_acct (x ∷ xs) (suc s) v h zero = refl
set_acct (x ∷ xs) (suc s) v h (suc i) = set_acct xs s v h i

pub set_alike : (xs : List (Option Session)) (s : ℕ) (v : Option Session) → account_of v ≡ at xs s → Alike xs (set xs s v)
set_alike xs s v h = record { len = length-set xs s v; acct = set_acct xs s v h }

map_acct : (f : Session → Session) → ((x : Session) → (f x).account ≡ x.account) → (o : Option Session) → account_of (option_map f o) ≡ account_of o
map_acct f h None = refl
map_acct f h (Some x) = h x

pub update_alike : (s : ℕ) (f : Session → Session) → ((x : Session) → (f x).account ≡ x.account) → (r : Rest) → Alike r.sessions (update_session s f r).sessions
update_alike s f h r = set_alike r.sessions s _ (map_acct f h (session_at s r))

pub closed_alike : (f : Session → Bool) (xs : List (Option Session)) → Alike xs (close_where f xs)
closed_alike f xs = record { len = sized xs; acct = kept xs }
  where
    sized : (xs : List (Option Session)) → length (close_where f xs) ≡ length xs
    sized [] = refl
    sized (x ∷ xs) = ap suc (sized xs)

    one : (b : Bool) (x : Session) → (cond b (record { account = x.account; last_received = x.last_received; last_sent = x.last_sent; closing = true; subscribed = x.subscribed }) x).account ≡ x.account
    one true x = refl
    one false x = refl

    kept : (xs : List (Option Session)) (i : ℕ) → at (close_where f xs) i ≡ at xs i
    kept [] i = refl
    kept (x ∷ xs) zero = map_acct _ (λ y. one (f y) y) x
    kept (x ∷ xs) (suc i) = kept xs i

pub stamped_alike : (ms : List Mail) (r : Rest) → Alike r.sessions (stamped ms r).sessions
stamped_alike [] r = alike_refl r.sessions
stamped_alike (send s m ∷ ms) r =
    alike_trans (update_alike s (set_sent r.clock) (λ x. refl) r) (stamped_alike ms (update_session s (set_sent r.clock) r))
stamped_alike (close s ∷ ms) r = stamped_alike ms r

-- ---- what frees an account, and what takes one

some_none : {a : ℕ} → None ≡ Some a → ⊥
some_none e = let z : ◌≡◌ {A = ℕ} 0 1 = cc in omega arith

at_set_same : (xs : List (Option Session)) (s : ℕ) (v : Option Session) → s < length xs → at (set xs s v) s ≡ account_of v
at_set_same xs s v h = ap account_of (get_or-set_same xs s v None h)

at_set_other : (xs : List (Option Session)) (s i : ℕ) (v : Option Session) → (i ≡ s → ⊥) → at (set xs s v) i ≡ at xs i
at_set_other xs s i v ne = ap account_of (get_or-set_other xs s i v None ne)

-- a slot emptied, wherever it is
at_emptied : (xs : List (Option Session)) (s i : ℕ) → (at (set xs s None) i ≡ None) ⊎ (at (set xs s None) i ≡ at xs i)
at_emptied [] s i = inr refl
at_emptied (x ∷ xs) zero zero = inl refl
at_emptied (x ∷ xs) zero (suc i) = inr refl
at_emptied (x ∷ xs) (suc s) zero = inr refl
at_emptied (x ∷ xs) (suc s) (suc i) = at_emptied xs s i

pub emptied_ok : (t : List (Option Account)) (xs : List (Option Session)) (s : ℕ) → SessionsOk t xs → SessionsOk t (set xs s None)
emptied_ok t xs s ok =
    record {
      slots = rw length-set ok.slots;
      known = λ i. ⊎_elim (λ e. subst (Known t) (sym e) tt) (λ e. subst (Known t) (sym e) (ok.known i)) (at_emptied xs s i);
      single = λ a i j p q. ok.single a i j (was a i p) (was a j q);
    }
  where
    was : (a i : ℕ) → at (set xs s None) i ≡ Some a → at xs i ≡ Some a
    was a i p = ⊎_elim (λ e. absurd (some_none (sym e ∙ p))) (λ e. sym e ∙ p) (at_emptied xs s i)

-- nobody is logged in for a where session-of finds none
acct_in : (a : ℕ) (x : Option Session) → account_of x ≡ Some a → logged_in a x ≡ true
acct_in a x p = ap (option false (eqb a)) p ∙ eq-eqb a a refl

pub nobody : (a s : ℕ) (xs : List (Option Session)) → is_some (session_from s a xs) ≡ false → (i : ℕ) → at xs i ≡ Some a → ⊥
nobody a s [] h i p = some_none p
nobody a s (x ∷ xs) h zero p =
    let e : cond (logged_in a x) (Some s) (session_from (suc s) a xs) ≡ Some s = rw (acct_in a x p) refl in
    let z : true ≡ false = ap is_some (sym e) ∙ h in
    some_none (ap (λ b. cond b None (Some 0)) z)
nobody a s (x ∷ xs) h (suc i) p = nobody a (suc s) xs (tail (logged_in a x) h) i p
  where
    tail : (b : Bool) → is_some (cond b (Some s) (session_from (suc s) a xs)) ≡ false → is_some (session_from (suc s) a xs) ≡ false
    tail true e = absurd (some_none (ap (λ b. cond b None (Some 0)) e))
    tail false e = e

-- a login: slot s is account a's, and nobody else has a
pub taken_ok : (t : List (Option Account)) (a s : ℕ) (xs : List (Option Session)) (v : Option Session) → account_of v ≡ Some a → Known t (Some a) → s < length xs →
    ((i : ℕ) → at xs i ≡ Some a → ⊥) → SessionsOk t xs → SessionsOk t (set xs s v)
taken_ok t a s xs v e l h free ok =
    record {
      slots = rw length-set ok.slots;
      known = λ i. ⊎_elim (λ (q : i ≡ s). subst (Known t) (sym (here i q)) l) (λ ne. subst (Known t) (sym (at_set_other xs s i v ne)) (ok.known i)) (same? i s);
      single = λ b i j p q.
          ⊎_elim
          (λ (u : i ≡ s). ⊎_elim (λ (w : j ≡ s). u ∙ sym w) (λ ne. absurd (free j (sym (at_set_other xs s j v ne) ∙ q ∙ sym p ∙ here i u))) (same? j s))
          (λ ne. ⊎_elim
          (λ (w : j ≡ s). absurd (free i (sym (at_set_other xs s i v ne) ∙ p ∙ sym q ∙ here j w)))
          (λ ne'. ok.single b i j (sym (at_set_other xs s i v ne) ∙ p) (sym (at_set_other xs s j v ne') ∙ q))
          (same? j s))
          (same? i s);
    }
  where
    here : (i : ℕ) → i ≡ s → at (set xs s v) i ≡ Some a
    here i q = ap (at (set xs s v)) q ∙ at_set_same xs s v h ∙ e
