-- What a call gives, by its outcome in the definitions: the one form of contract for every call of document 01.
use Rattle.std.specs.Prelude.{ℕ, ◌≡◌, cond, List, [], ◌∷◌, map, length, Option, Some, None, Result}
use Rattle.words.specs.Words.{word_of}
use Rattle.gateway.specs.Core.{Tests}
use Rattle.gateway.specs.Depth.{Level}
use Rattle.gateway.specs.Rest.{Mail}
use Rattle.gateway.specs.Entry.{Answer, nothing, account_was, wallet_is, number_is, levels_are, commands, bytes}
use Rattle.gateway.specs.Calls.{Gateway, Outcome, refused, done}
use Rattle.rows.specs.Rows.{put_rows}
use Rattle.mailbox.specs.Mailbox.{mailed}
use Rattle.pending.specs.Pending.{command_row}
use Rattle.sound.specs.Sound.{Becomes}
use Rattle.outcome.specs.declared.Refusal.{Refusal}
use Rattle.outcome.specs.Refusals.{code_of, rows_of}
use Rattle.outcome.specs.Between.{Between}

-- refused with code k: the bytes xs of the state are as they were, and so is what was lent beside them
pub record Refused (k code : ℕ) (xs ys : List ℕ) (kept : Type 0) : Type 0 where
  pub code_is : code ≡ k
  pub state_kept : ys ≡ xs
  pub rest_kept : kept

-- done: code 0, the state holds the next gateway, and the answer is told
pub record Done (g : Gateway) (code : ℕ) (ys : List ℕ) (told : Type 0) : Type 0 where
  pub code_is : code ≡ 0
  pub becomes : Becomes ys g
  pub tells : told

-- `kept` is that nothing lent beside the state changed; `tells` is how the answer and the messages are given
unfoldable pub Ends : Outcome → (kept : Type 0) → (tells : Answer → List Mail → Type 0) → (code : ℕ) → (xs ys : List ℕ) → Type 0
Ends (refused k) kept tells code xs ys = Refused k code xs ys kept
Ends (done a is ms g) kept tells code xs ys = Done g code ys (tells a ms)

-- and what holds between calls holds again
pub record Answers (o : Outcome) (kept : Type 0) (tells : Answer → List Mail → Type 0) (code : ℕ) (xs ys : List ℕ) : Type 0 where
  pub ends : Ends o kept tells code xs ys
  pub between : Between ys

-- ---- how an answer is given

-- nothing: no row is counted, and what was lent is as it was
abbrev pub Unsent : (count : ℕ) → (out end : List ℕ) → Type 0
Unsent count out end = (end ≡ out) × (count ≡ 0)

-- a call that sends: how many rows of mail there are, and the rows
pub record Sent (a : Answer) (ms : List Mail) (count : ℕ) (out end : List ℕ) : Type 0 where
  pub no_answer : a ≡ nothing
  pub count_is : count ≡ length ms
  pub posted : end ≡ mailed 0 ms out

abbrev pub Gives : Outcome → Result ℕ Refusal → (xs ys out end : List ℕ) → Type 0
Gives o r xs ys out end = Answers o (Unsent (rows_of r) out end) (λ a ms. Sent a ms (rows_of r) out end) (code_of r) xs ys

-- a call that answers b (where it is not refused), sends nothing and is lent nothing but the state
pub record Said (b a : Answer) (ms : List Mail) : Type 0 where
  pub answer_is : a ≡ b
  pub no_mail : ms ≡ []

abbrev pub Says : Answer → Outcome → (code : ℕ) → (xs ys : List ℕ) → Type 0
Says b o code xs ys = Answers o (Unit {0}) (Said b) code xs ys

-- the three cells of a level's row: price, quantity, number of orders
abbrev pub level_row : Level → List ℕ
level_row l = word_of l.price ∷ l.qty ∷ l.orders ∷ []

-- the rows of an answer that is a list
abbrev pub answer_rows : Answer → List (List ℕ)
answer_rows (levels_are ls) = map level_row ls
answer_rows (commands ks) = map command_row ks
answer_rows nothing = []
answer_rows (account_was a) = []
answer_rows (wallet_is b) = []
answer_rows (number_is n) = []
answer_rows (bytes bs) = []

-- a call whose answer is a list: how many rows of w bytes there are, and the rows
pub record Listed (w : ℕ) (a : Answer) (ms : List Mail) (count : ℕ) (out end : List ℕ) : Type 0 where
  pub no_mail : ms ≡ []
  pub count_is : count ≡ length (answer_rows a)
  pub listed : end ≡ put_rows w 0 (answer_rows a) out

abbrev pub Lists : ℕ → Outcome → Result ℕ Refusal → (xs ys out end : List ℕ) → Type 0
Lists w o r xs ys out end = Answers o (Unsent (rows_of r) out end) (λ a ms. Listed w a ms (rows_of r) out end) (code_of r) xs ys

-- ---- judging

-- the code of the first test that fails, or 0
abbrev pub verdict : Tests ℕ → ℕ
verdict [] = 0
verdict (t ∷ ts) = cond t.1 (verdict ts) t.0

-- what the first test that fails says
abbrev pub failed : {A : Type 0} → Tests A → Option A
failed [] = None
failed (t ∷ ts) = cond t.1 (failed ts) (Some t.0)
