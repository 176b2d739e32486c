-- A session that is heard changes nothing that is told. Assumes nothing.
use Rattle.std.specs.Prelude.{Option, Some, None, option_map}
use mathlib.Core.Path.{◌≡◌, refl, ap, ap₂, ◌∙◌}
use mathlib.Core.Bool.{Bool, cond, ◌&&◌}
use mathlib.Core.List.{List, [], ◌∷◌, ◌++◌}
use Prim.Native.Nat.{ℕ}
use Rattle.gateway.specs.Basics.{option, each}
use Rattle.gateway.specs.Core.{Core}
use Rattle.gateway.specs.Rest as Rest
use Rattle.gateway.specs.Rest.{Session, Mail, Rest, session_at, account_of, is_open, is_subscribed, session_of}
use Rattle.gateway.specs.Entry.{balance, balance_to, notice_mail, changes_to, publish_mail, snapshot}
use Rattle.gateway.specs.Calls.{Gateway}
use Rattle.outcome.specs.Parts.{with_rest, heard}
use Rattle.outcome.proofs.Changed.{changed_keeps, session_from_changed, each_from_changed}
use Rattle.subscribe.specs.Subscribe.{subscribe_mail}

-- ---- heard

module _ (t : ℕ) where
  heard_account : (x : Option Session) → account_of (option_map (Rest.set_received t) x) ≡ account_of x
  heard_account None = refl
  heard_account (Some x) = refl

  heard_open : (x : Option Session) → is_open (option_map (Rest.set_received t) x) ≡ is_open x
  heard_open None = refl
  heard_open (Some x) = refl

  heard_subscribed : (x : Option Session) → is_subscribed (option_map (Rest.set_received t) x) ≡ is_subscribed x
  heard_subscribed None = refl
  heard_subscribed (Some x) = refl

each_same : {A : Type 0} (f h : A → List Mail) → ((a : A) → f a ≡ h a) → (xs : List A) → each f xs ≡ each h xs
each_same f h e [] = refl
each_same f h e (x ∷ xs) = ap₂ (λ (a b : List Mail). a ++ b) (e x) (each_same f h e xs)

module _ (s t : ℕ) (c : Core) (r : Rest) where
  abbrev after : Rest
  after = heard s t r

  notice_heard : (a : ℕ) → notice_mail a c after ≡ notice_mail a c r
  notice_heard a = ap (option [] tell) (session_from_changed (Rest.set_received t) (heard_account t) 0 a s r.sessions) ∙ go (session_of a r)
    where
      tell : ℕ → List Mail
      tell i = cond (is_open (session_at i after)) (balance_to i (balance a c)) []

      go : (o : Option ℕ) → option [] tell o ≡ option [] (λ i. cond (is_open (session_at i r)) (balance_to i (balance a c)) []) o
      go None = refl
      go (Some i) = ap (λ b. cond b (balance_to i (balance a c)) []) (changed_keeps (Rest.set_received t) is_open (heard_open t) s i r.sessions)

  pub publish_heard : publish_mail c after ≡ publish_mail c r
  publish_heard =
      ap₂ (λ (a b : List Mail). a ++ b) (each_same (λ a. notice_mail a c after) (λ a. notice_mail a c r) notice_heard r.notices)
      (each_from_changed (Rest.set_received t) (λ i x. cond (is_open x && is_subscribed x) (changes_to i r) [])
      (λ i x. ap₂ (λ (a b : Bool). cond (a && b) (changes_to i r) []) (heard_open t x) (heard_subscribed t x)) 0 s r.sessions)

pub mail_heard : (s t : ℕ) (g : Gateway) → subscribe_mail s (with_rest (heard s t) g) ≡ subscribe_mail s g
mail_heard s t g = ap (λ ms. ms ++ snapshot s g.rest) (publish_heard s t g.core g.rest)
