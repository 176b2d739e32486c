-- A row of a stored file as a call: the call that it asks for, and the row and what was lent after it (compare/README.md).
use Rattle.std.specs.Prelude.{ℕ, ◌+◌, ◌/◌, ◌<◌, ◌≡◌, Bool, true, false, cond, ◌&&◌, List, ◌++◌, eqb, leb, length, take, drop, replicate, ℤ, is_some}
use Rattle.words.specs.Words.{word_of}
use Rattle.protocol.specs.Codes.{logout_of}
use Rattle.gateway.specs.Rest.{Mail}
use Rattle.gateway.specs.Entry.{Answer}
use Rattle.gateway.specs.Calls as C
use Rattle.gateway.specs.Calls.{Call, Outcome, refused, done}
use Rattle.store.specs.View as View
use Rattle.rows.specs.Rows.{put_rows}
use Rattle.mailbox.specs.Mailbox.{places, mailed}
use Rattle.outcome.specs.Answers.{answer_rows}
use Rattle.checkpoint.specs.Written.{answer_bytes}
use Rattle.listing.specs.Rows.{listing}
use Rattle.script.specs.Script.{message_of, event_of}
use Rattle.script.specs.Strict.{is_message, is_event, is_command, is_account}
use Rattle.script.specs.Records.{command_of, account_of}
use Rattle.lists.specs.Lists.{is_listing}
use Rattle.numbers.specs.declared.Number.{Number}
use Rattle.numbers.specs.declared.Wallet.{Wallet}
use Rattle.numbers.specs.declared.Account.{Account}
use Rattle.numbers.specs.Numbers as P
use Rattle.stored.specs.Rows.{word_at, small_at, code_at, put_at, tail_of, replied}
use Rattle.edge.specs.Entering.{Enters, asked}

-- ---- the call of a row; `given` follows the row, and `room` bytes are lent

-- by its number
abbrev pub asks_by : ℕ → (row given : List ℕ) → (room : ℕ) → Call
asks_by k row given room =
    cond (eqb k 1) (C.add_account (account_of (take 56 (tail_of row 4))))
    (cond (eqb k 2) (C.connect (word_at row 4) (word_at row 5))
    (cond (eqb k 3) (C.set_paper_collar (View.maybe (word_at row 4) (small_at row 5)))
    (cond (eqb k 4) (C.wallet (small_at row 4))
    (cond (eqb k 5) C.last_seq
    (cond (eqb k 6) (C.depth_levels (View.side (word_at row 4)) (room / 24))
    (cond (eqb k 7) (C.receive_from (word_at row 4) (message_of (tail_of row 6)) (word_at row 5) (places room))
    (cond (eqb k 8) (C.tick (word_at row 4) (places room))
    (cond (eqb k 9) (C.publish (places room))
    (cond (eqb k 10) (C.end_session (word_at row 4) (P.reason_or (logout_of (code_at row 5))) (places room))
    (cond (eqb k 11) (C.shut_down (places room))
    (cond (eqb k 12) (C.disconnect (word_at row 4))
    (cond (eqb k 13) (C.detach (word_at row 4))
    (cond (eqb k 14) (C.take_batch (places room))
    (cond (eqb k 15) (C.deliver_event (word_at row 4) (event_of (tail_of row 5)) (places room))
    (cond (eqb k 16) (C.replay_command (word_at row 4) (command_of given))
    (cond (eqb k 17) (C.replay_event (word_at row 4) (event_of (tail_of row 5)))
    (cond (eqb k 18) (C.finish (listing given)) (C.checkpoint room))))))))))))))))))

-- whether what it is given is well formed
abbrev pub formed_by : ℕ → (row given : List ℕ) → Bool
formed_by k row given =
    cond (eqb k 1) (is_account (take 56 (tail_of row 4)))
    (cond (eqb k 3) (leb (word_at row 4) 1)
    (cond (eqb k 6) (leb (word_at row 4) 1)
    (cond (eqb k 7) (is_message (tail_of row 6))
    (cond (eqb k 10) (is_some (logout_of (code_at row 5)))
    (cond (eqb k 15) (is_event (tail_of row 5))
    (cond (eqb k 16) (is_command given)
    (cond (eqb k 17) (is_event (tail_of row 5))
    (cond (eqb k 18) (is_listing given) true))))))))

abbrev pub is_call : ℕ → Bool
is_call k = leb 1 k && leb k 19

-- a number that is no call is a malformed row, of whatever call
unfoldable pub asks : (row given : List ℕ) → (room : ℕ) → Call
asks row given room = cond (is_call (word_at row 0)) (asks_by (word_at row 0) row given room) (C.disconnect 0)

unfoldable pub formed : (row given : List ℕ) → Bool
formed row given = cond (is_call (word_at row 0)) (formed_by (word_at row 0) row given) false

-- ---- the answer of a call

-- how it is given: a code alone; with it a number, a wallet or an account in the row; mail, rows of w bytes, or bytes in what was lent
pub data Form : Type 0 where
  code : Form
  number : Form
  wallet : Form
  account : Form
  mail : Form
  rows : (w : ℕ) → Form
  bytes : Form

abbrev pub form_of : Call → Form
form_of (C.add_account a) = code
form_of (C.connect s t) = code
form_of (C.set_paper_collar p) = code
form_of (C.wallet a) = wallet
form_of C.last_seq = number
form_of (C.depth_levels s n) = rows 24
form_of (C.receive_from s m t n) = mail
form_of (C.tick t n) = mail
form_of (C.publish n) = mail
form_of (C.end_session s why n) = mail
form_of (C.shut_down n) = mail
form_of (C.disconnect s) = code
form_of (C.detach s) = account
form_of (C.take_batch n) = rows 96
form_of (C.deliver_event i e n) = mail
form_of (C.replay_command i k) = code
form_of (C.replay_event i e) = code
form_of (C.finish xs) = code
form_of (C.checkpoint n) = bytes

abbrev pub code_of : Outcome → ℕ
code_of (refused k) = k
code_of (done a is ms g) = 0

abbrev pub count_by : Form → Answer → List Mail → ℕ
count_by mail a ms = length ms
count_by (rows w) a ms = length (answer_rows a)
count_by bytes a ms = length (answer_bytes a)
count_by code a ms = 0
count_by number a ms = 0
count_by wallet a ms = 0
count_by account a ms = 0

-- the pieces of mail, rows or bytes; 0 where refused
abbrev pub count_of : Form → Outcome → ℕ
count_of f (refused k) = 0
count_of f (done a is ms g) = count_by f a ms

abbrev pub filled_by : Form → Answer → List Mail → List ℕ → List ℕ
filled_by mail a ms out = mailed 0 ms out
filled_by (rows w) a ms out = put_rows w 0 (answer_rows a) out
filled_by bytes a ms out = answer_bytes a ++ drop (length (answer_bytes a)) out
filled_by code a ms out = out
filled_by number a ms out = out
filled_by wallet a ms out = out
filled_by account a ms out = out

-- what was lent, after the call
abbrev pub filled : Form → Outcome → List ℕ → List ℕ
filled f (refused k) out = out
filled f (done a is ms g) out = filled_by f a ms out

-- ---- the row with its answer

abbrev pub number_told : Number → List ℕ → List ℕ
number_told n got = put_at (put_at got 2 n.code) 4 n.number

abbrev pub pair_told : ℤ → ℤ → ℕ → List ℕ → List ℕ
pair_told cash position i got = put_at (put_at got i (word_of cash)) (i + 1) (word_of position)

abbrev pub wallet_told : Wallet → List ℕ → List ℕ
wallet_told w got =
    pair_told w.cash_held w.position_held 8 (pair_told w.cash w.position 6 (put_at (put_at got 2 w.code) 5 w.there))

abbrev pub account_told : Account → List ℕ → List ℕ
account_told a got = put_at (put_at (put_at got 2 a.code) 5 a.there) 6 a.account

unfoldable pub told : Form → Outcome → List ℕ → List ℕ
told code o got = put_at got 2 (code_of o)
told number o got = number_told (P.number_of o) got
told wallet o got = wallet_told (P.wallet_of o) got
told account o got = account_told (P.account_of o) got
told mail o got = replied got (code_of o) (count_of mail o)
told (rows w) o got = replied got (code_of o) (count_of (rows w) o)
told bytes o got = replied got (code_of o) (count_of bytes o)

-- ---- one step of a list of calls

-- the state, the row and what was lent become those of the call; or of its refusal, where what it is given is not well formed
pub record Step (ok : Bool) (x : Call) (xs ys got end out out' : List ℕ) : Type 0 where
  pub lands : Enters (asked ok xs x) (Unit {0}) (λ a ms. Unit {0}) (code_of (asked ok xs x)) xs ys
  pub tells : end ≡ told (form_of x) (asked ok xs x) got
  pub fills : out' ≡ filled (form_of x) (asked ok xs x) out

-- of a call that is lent nothing
abbrev pub Lone : Bool → Call → (xs ys got end : List ℕ) → Type 0
Lone ok x xs ys got end = (out : List ℕ) → Step ok x xs ys got end out out

-- the step that a row asks for, with what follows it
abbrev pub Takes : (row given xs ys got end out out' : List ℕ) → Type 0
Takes row given xs ys got end out out' = Step (formed row given) (asks row given (length out)) xs ys got end out out'

-- of a row that nothing follows
abbrev pub TakesAlone : (row xs ys got end out out' : List ℕ) → Type 0
TakesAlone row xs ys got end out out' = (given : List ℕ) → Takes row given xs ys got end out out'

-- ---- two gateways

-- the row of a call, from an empty one
abbrev pub shown : Call → List ℕ → List ℕ → List ℕ
shown x xs got = told (form_of x) (asked true xs x) got

-- what shows of an account: the last number, and its wallet
unfoldable pub standing : List ℕ → ℕ → List ℕ
standing xs a = shown (C.wallet a) xs (shown C.last_seq xs (replicate 128 0))

-- the first n accounts show alike
pub record Alike (n : ℕ) (xs ss : List ℕ) : Type 0 where
  pub same : (a : ℕ) → a < n → standing xs a ≡ standing ss a
