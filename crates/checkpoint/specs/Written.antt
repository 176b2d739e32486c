-- A call whose answer is bytes: they stand at the front of the lent slice.
use Rattle.std.specs.Prelude.{ℕ, ◌≡◌, List, [], ◌++◌, length, drop, Result}
use Rattle.gateway.specs.Rest.{Mail}
use Rattle.gateway.specs.Entry.{Answer, nothing, account_was, wallet_is, number_is, levels_are, commands, bytes}
use Rattle.gateway.specs.Calls.{Outcome}
use Rattle.outcome.specs.declared.Refusal.{Refusal}
use Rattle.outcome.specs.Refusals.{code_of, rows_of}
use Rattle.outcome.specs.Answers.{Answers, Unsent}

-- the bytes of an answer
abbrev pub answer_bytes : Answer → List ℕ
answer_bytes (bytes bs) = bs
answer_bytes nothing = []
answer_bytes (account_was a) = []
answer_bytes (wallet_is b) = []
answer_bytes (number_is n) = []
answer_bytes (levels_are ls) = []
answer_bytes (commands ks) = []

-- how many bytes there are; the bytes, and behind them what stood there
pub record Written (a : Answer) (ms : List Mail) (count : ℕ) (out end : List ℕ) : Type 0 where
  pub no_mail : ms ≡ []
  pub count_is : count ≡ length (answer_bytes a)
  pub written : end ≡ answer_bytes a ++ drop (length (answer_bytes a)) out

abbrev pub Writes : Outcome → Result ℕ Refusal → (xs ys out end : List ℕ) → Type 0
Writes o r xs ys out end = Answers o (Unsent (rows_of r) out end) (λ a ms. Written a ms (rows_of r) out end) (code_of r) xs ys
