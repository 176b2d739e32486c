-- A row of a stored file on one gateway: what its call does, and whether the file has it so (compare/README.md).
use Rattle.std.specs.Prelude.{ℕ, suc, ◌≡◌, Bool, true, false, List, ◌++◌, length, take, drop, replicate}
use Rattle.gateway.specs.Calls.{Call, Outcome}
use Rattle.gateway.specs.Start.{Started, not_started, started}
use Rattle.stored.specs.Rows as R
use Rattle.edge.specs.Entering.{Enters, asked, begins}
use Rattle.playing.specs.Steps as S
use Rattle.replaying.specs.Opened.{starts, start_formed, Opens}

-- ---- a call

-- the bytes that the row says follow it, and those that are lent: each of these holds 0xA5
abbrev pub given_of : (row rows : List ℕ) → List ℕ
given_of row rows = take (R.bytes_at row (R.word_at row 3)) rows

abbrev pub room : List ℕ → ℕ
room row = R.bytes_at row (R.word_at row 1)

abbrev pub fresh : List ℕ
fresh = replicate 24576 165

abbrev pub call_of : (row rows : List ℕ) → Call
call_of row rows = S.asks row (given_of row rows) (length (take (room row) fresh))

abbrev pub outcome_of : (row rows xs : List ℕ) → Outcome
outcome_of row rows xs = asked (S.formed row (given_of row rows)) xs (call_of row rows)

-- the row with its answer; what was lent, and the bytes behind it
abbrev pub answered : (row rows xs : List ℕ) → List ℕ
answered row rows xs = S.told (S.form_of (call_of row rows)) (outcome_of row rows xs) (R.unanswered row)

abbrev pub written : (row rows xs : List ℕ) → List ℕ
written row rows xs = S.filled (S.form_of (call_of row rows)) (outcome_of row rows xs) (take (room row) fresh) ++ drop (room row) fresh

-- the call was made, and r is whether its answer and its rows are the file's
pub record Played (rows row xs ys : List ℕ) (r : Bool) : Type 0 where
  pub lands : Enters (outcome_of row rows xs) (Unit {0}) (λ a ms. Unit {0}) (S.code_of (outcome_of row rows xs)) xs ys
  pub tells : R.Tells r (R.Agree row (answered row rows xs) rows (written row rows xs))

-- ---- a run: the row, and n like it that follow, up to the first that differs
pub data Plays (rows : List ℕ) : ℕ → (row xs ys : List ℕ) → Bool → Type 0 where
  last : {row xs ys : List ℕ} {r : Bool} → Played rows row xs ys r → Plays rows 0 row xs ys r
  differs : {n : ℕ} {row xs ys : List ℕ} → Played rows row xs ys false → Plays rows (suc n) row xs ys false
  more : {n : ℕ} {row xs zs ys : List ℕ} {r : Bool} → Played rows row xs zs true → Plays rows n (R.grow_row row) zs ys r → Plays rows (suc n) row xs ys r

-- ---- a start

abbrev pub code_of : Started → ℕ
code_of (not_started k) = k
code_of (started g) = 0

abbrev pub start_of : (row accounts rows xs : List ℕ) → Started
start_of row accounts rows xs = begins (start_formed row accounts (given_of row rows)) xs (starts row accounts (given_of row rows))

-- the start was made, and r is whether its code is the file's
pub record Started_as (row accounts rows xs ys : List ℕ) (r : Bool) : Type 0 where
  pub opens : Opens row accounts (given_of row rows) (code_of (start_of row accounts rows xs)) xs ys
  pub tells : R.Tells r (row ≡ R.put_at (R.unanswered row) 2 (code_of (start_of row accounts rows xs)))

-- ---- a row of either kind

abbrev pub plays_by : Bool → (row accounts rows xs ys : List ℕ) → Bool → Type 0
plays_by true row accounts rows xs ys r = Started_as row accounts rows xs ys r
plays_by false row accounts rows xs ys r = Plays rows (R.times row) row xs ys r

unfoldable pub PlaysAny : (row accounts rows xs ys : List ℕ) → Bool → Type 0
PlaysAny row accounts rows xs ys r = plays_by (R.is_start row) row accounts rows xs ys r
