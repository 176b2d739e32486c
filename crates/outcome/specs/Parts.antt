-- What a part of a call does to the state and to the lent list of mail.
use Rattle.std.specs.Prelude.{ℕ, zero, suc, ◌+◌, ◌≤◌, ◌<◌, ◌≡◌, true, List, [], ◌++◌, length, set, Option, Result, Ok, Err}
use Rattle.gateway.specs.Limits.{session_slots}
use Rattle.gateway.specs.Rest.{Session, Mail, Rest, at_time, with_sessions, session_at, account_of, is_present, update_session, set_received, set_closing, stamped}
use Rattle.gateway.specs.Calls.{Gateway}
use Rattle.store.specs.Layout.{cell}
use Rattle.store.specs.View.{gateway}
use Rattle.mailbox.specs.Mailbox.{places, mailed}
use Rattle.sound.specs.Sound.{Becomes}
use Rattle.outcome.specs.declared.Refusal.{Refusal}
use Rattle.outcome.specs.declared.Refusal.TheVariants.{TooShort}
use Rattle.outcome.specs.Between.{Between}

abbrev pub with_rest : (Rest → Rest) → Gateway → Gateway
with_rest f g = record { core = g.core; rest = f g.rest }

abbrev pub rest_of : List ℕ → Rest
rest_of xs = (gateway (cell xs)).rest

-- ms go out from place i on; whoever is sent one is stamped, after f
pub record Sends (i : ℕ) (ms : List Mail) (f : Rest → Rest) (xs ys out end : List ℕ) : Type 0 where
  pub becomes : Becomes ys (with_rest (λ r. stamped ms (f r)) (gateway (cell xs)))
  pub posted : end ≡ mailed i ms out

-- ms after f, where there are places for all of them; else the refusal and nothing
pub data Tries (ms : List Mail) (f : Rest → Rest) (r : Result ℕ Refusal) (xs ys out end : List ℕ) : Type 0 where
  short : places (length out) < length ms → r ≡ Err TooShort → ys ≡ xs → end ≡ out → Tries ms f r xs ys out end
  sent : length ms ≤ places (length out) → r ≡ Ok (length ms) → Sends 0 ms f xs ys out end → Tries ms f r xs ys out end

-- ms go out from place i on, and `next` is the place behind them; the state is only read
pub record Posts (i : ℕ) (ms : List Mail) (next : ℕ) (out end : List ℕ) : Type 0 where
  pub next_is : next ≡ i + length ms
  pub posted : end ≡ mailed i ms out

-- ---- a walk in which each step sends something

-- what step j sends
abbrev pub Steps : Type 0
Steps = Gateway → ℕ → List Mail

-- what the first n steps send
unfoldable pub steps : Steps → Gateway → ℕ → List Mail
steps f g zero = []
steps f g (suc n) = steps f g n ++ f g n

-- step j sent its mail from place i on, and `next` is the place behind it
pub record Stepped (f : Steps) (i j next : ℕ) (xs ys out end : List ℕ) : Type 0 where
  pub next_is : next ≡ i + length (f (gateway (cell xs)) j)
  pub sends : Sends i (f (gateway (cell xs)) j) (λ r. r) xs ys out end

-- ---- a walk over the sessions that also changes them

-- what session s, which is x, is sent; and x after its turn, stamped
abbrev pub Mails : Type 0
Mails = Rest → ℕ → Option Session → List Mail

abbrev pub After : Type 0
After = Rest → Option Session → Option Session

-- session s had its turn: its mail went out from place i on, and `next` is the place behind it
pub record Visited (f : Mails) (w : After) (i s next : ℕ) (xs ys out end : List ℕ) : Type 0 where
  pub next_is : next ≡ i + length (f (rest_of xs) s (session_at s (rest_of xs)))
  pub becomes : Becomes ys (with_rest (λ r. with_sessions (set r.sessions s (w r (session_at s r))) r) (gateway (cell xs)))
  pub posted : end ≡ mailed i (f (rest_of xs) s (session_at s (rest_of xs))) out

-- ---- a session that speaks

-- it is there, and was heard at time t (`receive`)
abbrev pub heard : ℕ → ℕ → Rest → Rest
heard s t r = update_session s (set_received t) (at_time t r)

-- and nothing more is heard of it
abbrev pub heard_last : ℕ → ℕ → Rest → Rest
heard_last s t r = update_session s set_closing (heard s t r)

-- between calls, session s is there and its account is a: none, or the one it is logged in for
pub record Speaks (s : ℕ) (a : Option ℕ) (xs : List ℕ) : Type 0 where
  pub between : Between xs
  pub slot : s < session_slots
  pub present : is_present (session_at s (rest_of xs)) ≡ true
  pub account : account_of (session_at s (rest_of xs)) ≡ a
