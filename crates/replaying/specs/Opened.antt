-- The start that a row of a stored file asks for (compare/README.md): set-up where its number is 0, else restore.
use Rattle.std.specs.Prelude.{ℕ, Bool, cond, List, eqb, ℤ}
use Rattle.words.specs.Words.{int}
use Rattle.accounts.specs.declared.Timing.{Timing}
use Rattle.gateway.specs.Start.{Started, set_up, restore}
use Rattle.listing.specs.Rows.{listing}
use Rattle.script.specs.Strict.{are_accounts}
use Rattle.script.specs.Records.{accounts_in}
use Rattle.lists.specs.Lists.{are_rows}
use Rattle.numbers.specs.Numbers as P
use Rattle.opening.specs.Starts.{Starts}
use Rattle.stored.specs.Rows.{word_at}
use Rattle.edge.specs.Entering.{Lent, begins}

abbrev pub is_set_up : List ℕ → Bool
is_set_up row = eqb (word_at row 0) 0

abbrev pub timing_of : List ℕ → Timing
timing_of row = P.timing (word_at row 7) (word_at row 8)

abbrev pub fee_of : List ℕ → ℤ
fee_of row = int (word_at row 9)

-- `given` has the listing, or the checkpoint's bytes
unfoldable pub starts : (row accounts given : List ℕ) → Started
starts row accounts given =
    cond (is_set_up row) (set_up (fee_of row) (word_at row 5) (word_at row 6) (accounts_in accounts) (listing given) (timing_of row))
    (restore (fee_of row) (word_at row 5) (accounts_in accounts) (timing_of row) given)

unfoldable pub start_formed : (row accounts given : List ℕ) → Bool
start_formed row accounts given = cond (is_set_up row) (are_rows accounts given) (are_accounts accounts)

-- the code and the state are those of the start
pub record Opens (row accounts given : List ℕ) (code : ℕ) (xs ys : List ℕ) : Type 0 where
  pub opened : Starts (begins (start_formed row accounts given) xs (starts row accounts given)) code xs ys
  pub lent : Lent ys
