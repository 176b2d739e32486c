-- What an entry point gives: the outcome of its call in the definitions; or 11, and nothing changed, where the state or a row is not one.
use Rattle.std.specs.Prelude.{ℕ, ◌*◌, ◌≡◌, Bool, cond, ◌&&◌, List, [], eqb, length}
use Rattle.gateway.specs.Limits.{malformed}
use Rattle.gateway.specs.Rest.{Mail}
use Rattle.gateway.specs.Entry.{Answer}
use Rattle.gateway.specs.Calls.{Call, call, Outcome, refused}
use Rattle.gateway.specs.Start.{Started, not_started}
use Rattle.store.specs.Layout.{cell, cells, Holds}
use Rattle.store.specs.View.{gateway}
use Rattle.outcome.specs.Between.{Between}
use Rattle.outcome.specs.Answers.{Ends, Unsent, Sent, Listed, Said}
use Rattle.checkpoint.specs.Written.{Written}
use Rattle.numbers.specs.declared.Reply.{Reply}

-- the caller's part, document 01's premise: bytes of a state's length are the state that the last call left
pub record Lent (xs : List ℕ) : Type 0 where
  pub between : Holds xs → Between xs

-- the bytes have a state's length, and what is lent beside them is well formed
unfoldable pub whole : Bool → List ℕ → Bool
whole ok xs = eqb (length xs) (8 * cells) && ok

unfoldable pub asked : Bool → List ℕ → Call → Outcome
asked ok xs x = cond (whole ok xs) (call (gateway (cell xs)) x) (refused malformed)

unfoldable pub begins : Bool → List ℕ → Started → Started
begins ok xs s = cond (whole ok xs) s (not_started malformed)

-- `Answers` (outcome/specs/Answers.antt) for bytes of any length
pub record Enters (o : Outcome) (kept : Type 0) (tells : Answer → List Mail → Type 0) (code : ℕ) (xs ys : List ℕ) : Type 0 where
  pub ends : Ends o kept tells code xs ys
  pub lent : Lent ys

-- ---- how an answer is given, as in outcome/specs/Answers.antt

abbrev pub Gives : Outcome → Reply → (xs ys out end : List ℕ) → Type 0
Gives o r xs ys out end = Enters o (Unsent r.count out end) (λ a ms. Sent a ms r.count out end) r.code xs ys

abbrev pub Lists : ℕ → Outcome → Reply → (xs ys out end : List ℕ) → Type 0
Lists w o r xs ys out end = Enters o (Unsent r.count out end) (λ a ms. Listed w a ms r.count out end) r.code xs ys

abbrev pub Writes : Outcome → Reply → (xs ys out end : List ℕ) → Type 0
Writes o r xs ys out end = Enters o (Unsent r.count out end) (λ a ms. Written a ms r.count out end) r.code xs ys

-- a call that sends nothing and is lent nothing but the state
abbrev pub Lands : Outcome → (code : ℕ) → (xs ys : List ℕ) → Type 0
Lands o code xs ys = Enters o (Unit {0}) (λ a ms. ms ≡ []) code xs ys

-- and answers r, the numbers that `from` reads off the outcome
abbrev pub Tells : {A : Type 0} → (from : Outcome → A) → (r : A) → Outcome → (code : ℕ) → (xs ys : List ℕ) → Type 0
Tells from r o code xs ys = Lands o code xs ys × (r ≡ from o)

-- and answers with its code alone
abbrev pub Says : Answer → Outcome → (code : ℕ) → (xs ys : List ℕ) → Type 0
Says b o code xs ys = Enters o (Unit {0}) (Said b) code xs ys
