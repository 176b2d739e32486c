-- Who is told what does not look at the stamps, and publishing leaves them. Assumes nothing.
use Rattle.std.specs.Prelude.{Option, Some, None, option_map}
use mathlib.Core.Path.{◌≡◌, refl, ap, ◌∙◌}
use mathlib.Core.Bool.{cond, ◌&&◌}
use mathlib.Core.List.{List, []}
use Prim.Native.Nat.{ℕ, ◌<◌}
use lib.ListN.{length, get_or}
use Rattle.gateway.specs.Basics.{option}
use Rattle.gateway.specs.Rest as Rest
use Rattle.gateway.specs.Rest.{Session, Mail, Rest, with_sessions, session_at, is_open, is_subscribed, session_of, stamped}
use Rattle.gateway.specs.Entry.{balance, balance_to, notice_mail, changes_to, published}
use Rattle.gateway.specs.Calls.{Gateway}
use Rattle.outcome.specs.Parts.{with_rest, rest_of, Sends}
use Rattle.outcome.proofs.Changed.{sent_open, session_of_stamped, stamped_beside}
use Rattle.outcome.proofs.Walk.{stamped_rest, stamped_keeps}
use Rattle.mailbox.proofs.Rows.{length_mailed}
use Rattle.balances.specs.Balances.{Exact}
use Rattle.balances.proofs.Laws.{exact_becomes}
use Rattle.feed.specs.Feed.{notice_step, changes_step, trade_step, level_step}

-- ---- stamps

sent_told : (t : ℕ) (x : Option Session) → is_open (option_map (Rest.set_sent t) x) && is_subscribed (option_map (Rest.set_sent t) x) ≡ is_open x && is_subscribed x
sent_told t None = refl
sent_told t (Some x) = refl

pub stamped_published : (ms : List Mail) (r : Rest) → stamped ms (published r) ≡ published (stamped ms r)
stamped_published = stamped_beside published (λ r. refl) (λ r. refl) (λ xs r. refl)

module _ (g : Gateway) (ms : List Mail) where
  abbrev r : Rest
  r = g.rest

  abbrev after : Rest
  after = stamped ms r

  pub notice_keeps : (j : ℕ) → notice_step (with_rest (stamped ms) g) j ≡ notice_step g j
  notice_keeps j =
      ap (λ (q : Rest). notice_mail (get_or q.notices j 0) g.core after) (stamped_rest ms r)
      ∙ ap (option [] tell) (session_of_stamped a ms r) ∙ go (session_of a r)
    where
      a : ℕ
      a = get_or r.notices j 0

      tell : ℕ → List Mail
      tell s = cond (is_open (session_at s after)) (balance_to s (balance a g.core)) []

      go : (o : Option ℕ) → option [] tell o ≡ option [] (λ s. cond (is_open (session_at s r)) (balance_to s (balance a g.core)) []) o
      go None = refl
      go (Some s) = ap (λ b. cond b (balance_to s (balance a g.core)) []) (stamped_keeps is_open sent_open s ms r)

  pub trade_keeps : (s j : ℕ) → trade_step s (with_rest (stamped ms) g) j ≡ trade_step s g j
  trade_keeps s j = ap (λ (q : Rest). trade_step s (with_rest (λ _. q) g) j) (stamped_rest ms r)

  pub level_keeps : (s j : ℕ) → level_step s (with_rest (stamped ms) g) j ≡ level_step s g j
  level_keeps s j = ap (λ (q : Rest). level_step s (with_rest (λ _. q) g) j) (stamped_rest ms r)

  pub changes_keeps : (s : ℕ) → changes_step (with_rest (stamped ms) g) s ≡ changes_step g s
  changes_keeps s =
      ap (λ b. cond b (changes_to s after) []) (stamped_keeps (λ x. is_open x && is_subscribed x) sent_told s ms r)
      ∙ ap (λ (q : Rest). cond (is_open (session_at s r) && is_subscribed (session_at s r)) (changes_to s q) []) (stamped_rest ms r)

-- ---- what stays

-- what stamps leave is as it was
pub sends_kept : {B : Type 0} (p : Rest → B) → ((zs : List (Option Session)) (r : Rest) → p (with_sessions zs r) ≡ p r) → (xs : List ℕ) {ys out end : List ℕ} (i : ℕ) (ms : List Mail) →
    Sends i ms (λ x. x) xs ys out end → p (rest_of ys) ≡ p (rest_of xs)
sends_kept p h xs i ms s =
    ap (λ (g : Gateway). p g.rest) s.becomes.gateway_is ∙ ap p (stamped_rest ms (rest_of xs)) ∙ h (stamped ms (rest_of xs)).sessions (rest_of xs)

-- and there is as much room as there was
pub sends_room : {xs ys out end : List ℕ} {i : ℕ} {ms : List Mail} {f : Rest → Rest} → Sends i ms f xs ys out end → length end ≡ length out
sends_room {out = out} {i = i} {ms = ms} s = ap length s.posted ∙ length_mailed i ms out

pub exact_sends : {xs ys out end : List ℕ} {i : ℕ} (ms : List Mail) → Exact xs → Sends i ms (λ x. x) xs ys out end → Exact ys
exact_sends ms e s = exact_becomes (stamped ms) e s.becomes

-- and so are the rows of a list
pub rows_kept : {A : Type 0} (p : Rest → List A) → ((zs : List (Option Session)) (r : Rest) → p (with_sessions zs r) ≡ p r) → (xs : List ℕ) {ys out end : List ℕ} (i : ℕ) (ms : List Mail) →
    Sends i ms (λ x. x) xs ys out end → (j : ℕ) → j < length (p (rest_of xs)) → j < length (p (rest_of ys))
rows_kept p h xs i ms s j l = rw (sends_kept p h xs i ms s) l
