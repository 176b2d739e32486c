-- One session changes: what does not look at the change is as it was, and stamps stay. Assumes nothing.
use Rattle.std.specs.Prelude.{Option, Some, None, option_map}
use mathlib.Core.Path.{◌≡◌, refl, sym, ap, ap₂, ◌∙◌}
use mathlib.Core.Bool.{false, cond}
use mathlib.Core.List.{List, [], ◌∷◌, ◌++◌}
use Prim.Native.Nat.{ℕ, zero, suc}
use lib.ListN.{get_or, set}
use lib.Dec.{eqb}
use Rattle.gateway.specs.Basics.{option}
use Rattle.gateway.specs.Rest as Rest
use Rattle.gateway.specs.Rest.{Session, Mail, Rest, with_sessions, account_of, logged_in, session_from, session_of, is_open, update_session, stamped, each_from}

-- ---- one session changes

module _ (u : Session → Session) where
  abbrev pub changed_at : ℕ → List (Option Session) → List (Option Session)
  changed_at i xs = set xs i (option_map u (get_or xs i None))

  pub session_from_changed : ((x : Option Session) → account_of (option_map u x) ≡ account_of x) → (s a i : ℕ) (xs : List (Option Session)) → session_from s a (changed_at i xs) ≡ session_from s a xs
  session_from_changed e s a i [] = refl
  session_from_changed e s a zero (x ∷ xs) = ap (λ o. cond (option false (eqb a) o) (Some s) (session_from (suc s) a xs)) (e x)
  session_from_changed e s a (suc i) (x ∷ xs) = ap (λ t. cond (logged_in a x) (Some s) t) (session_from_changed e (suc s) a i xs)

  pub each_from_changed : (f : ℕ → Option Session → List Mail) → ((j : ℕ) (x : Option Session) → f j (option_map u x) ≡ f j x) → (n i : ℕ) (xs : List (Option Session)) →
      each_from n f (changed_at i xs) ≡ each_from n f xs
  each_from_changed f e n i [] = refl
  each_from_changed f e n zero (x ∷ xs) = ap (λ ms. ms ++ each_from (suc n) f xs) (e n x)
  each_from_changed f e n (suc i) (x ∷ xs) = ap (λ ms. f n x ++ ms) (each_from_changed f e (suc n) i xs)

  pub changed_keeps : {B : Type 0} (p : Option Session → B) → ((x : Option Session) → p (option_map u x) ≡ p x) → (i s : ℕ) (xs : List (Option Session)) → p (get_or (changed_at i xs) s None) ≡ p (get_or xs s None)
  changed_keeps p e i s [] = refl
  changed_keeps p e zero zero (x ∷ xs) = e x
  changed_keeps p e zero (suc s) (x ∷ xs) = refl
  changed_keeps p e (suc i) zero (x ∷ xs) = refl
  changed_keeps p e (suc i) (suc s) (x ∷ xs) = changed_keeps p e i s xs

-- two changes, of one session or of two, in either order
module _ (u v : Session → Session) (e : (x : Session) → u (v x) ≡ v (u x)) where
  swap_one : (x : Option Session) → option_map u (option_map v x) ≡ option_map v (option_map u x)
  swap_one None = refl
  swap_one (Some x) = ap Some (e x)

  swapped : (i j : ℕ) (xs : List (Option Session)) → changed_at u i (changed_at v j xs) ≡ changed_at v j (changed_at u i xs)
  swapped i j [] = refl
  swapped zero zero (x ∷ xs) = ap (λ y. y ∷ xs) (swap_one x)
  swapped zero (suc j) (x ∷ xs) = refl
  swapped (suc i) zero (x ∷ xs) = refl
  swapped (suc i) (suc j) (x ∷ xs) = ap (λ ys. x ∷ ys) (swapped i j xs)

-- ---- stamps

sent_account : (t : ℕ) (x : Option Session) → account_of (option_map (Rest.set_sent t) x) ≡ account_of x
sent_account t None = refl
sent_account t (Some x) = refl

pub sent_open : (t : ℕ) (x : Option Session) → is_open (option_map (Rest.set_sent t) x) ≡ is_open x
sent_open t None = refl
sent_open t (Some x) = refl

pub session_of_stamped : (a : ℕ) (ms : List Mail) (r : Rest) → session_of a (stamped ms r) ≡ session_of a r
session_of_stamped a [] r = refl
session_of_stamped a (Rest.send s m ∷ ms) r =
    session_of_stamped a ms (Rest.stamp (Rest.send s m) r) ∙ session_from_changed (Rest.set_sent r.clock) (sent_account r.clock) 0 a s r.sessions
session_of_stamped a (Rest.close s ∷ ms) r = session_of_stamped a ms r

-- stamps, and a change that leaves the sessions and the clock alone
module _ (p : Rest → Rest) (sessions_kept : (r : Rest) → (p r).sessions ≡ r.sessions) (clock_kept : (r : Rest) → (p r).clock ≡ r.clock)
    (beside : (xs : List (Option Session)) (r : Rest) → p (with_sessions xs r) ≡ with_sessions xs (p r)) where
  pub stamped_beside : (ms : List Mail) (r : Rest) → stamped ms (p r) ≡ p (stamped ms r)
  stamped_beside [] r = refl
  stamped_beside (Rest.send s m ∷ ms) r =
      ap (stamped ms)
      (ap₂ (λ (xs : List (Option Session)) (t : ℕ). with_sessions (changed_at (Rest.set_sent t) s xs) (p r)) (sessions_kept r) (clock_kept r)
      ∙ sym (beside (changed_at (Rest.set_sent r.clock) s r.sessions) r))
      ∙ stamped_beside ms (Rest.stamp (Rest.send s m) r)
  stamped_beside (Rest.close s ∷ ms) r = stamped_beside ms r

-- stamps and another change of a session
module _ (u : Session → Session) (e : (t : ℕ) (x : Session) → u (Rest.set_sent t x) ≡ Rest.set_sent t (u x)) where
  pub stamped_updated : (s : ℕ) (ms : List Mail) (r : Rest) → stamped ms (update_session s u r) ≡ update_session s u (stamped ms r)
  stamped_updated s [] r = refl
  stamped_updated s (Rest.send i m ∷ ms) r =
      ap (λ xs. stamped ms (with_sessions xs r)) (sym (swapped u (Rest.set_sent r.clock) (e r.clock) s i r.sessions))
      ∙ stamped_updated s ms (Rest.stamp (Rest.send i m) r)
  stamped_updated s (Rest.close i ∷ ms) r = stamped_updated s ms r
