-- A table of eight rows of 24 bytes at 8, behind its count: what a user of `table` writes for a row type of its own.
-- Assumes nothing.
use Rattle.std.specs.Prelude.{◌≡◌, Bool, true, false, List, [], ◌∷◌, ℕ, ◌≤◌, ◌<◌, length, get_or, Option, Some, None}
use Rattle.le.specs.Le.{le}
use Rattle.le.specs.Row.{gets}
use Rattle.table.specs.Live.{live, replace, Ascends}
use Rattle.table.specs.Table.{rows}
use Rattle.table_test.specs.declared.Row.{Row}

abbrev pub widths : List ℕ
widths = 8 ∷ 8 ∷ 1 ∷ []

abbrev pub values : Row → List ℕ
values r = r.key ∷ r.value ∷ r.mark ∷ []

abbrev pub row : List ℕ → Row
row vs = record { key = get_or vs 0 0; value = get_or vs 1 0; mark = get_or vs 2 0 }

unfoldable pub read : List ℕ → ℕ → Row
read xs o = row (gets widths xs o)

abbrev pub key : Row → ℕ
key r = r.key

abbrev pub mark : Row → ℕ
mark r = r.mark

abbrev pub row_at : List ℕ → ℕ → Row
row_at xs = rows read 8 24 xs

unfoldable pub count : List ℕ → ℕ
count xs = le 8 xs 0

unfoldable pub entries : List ℕ → List Row
entries xs = live mark (row_at xs) (count xs)

pub record Table (xs : List ℕ) : Type 0 where
  pub room : 200 ≤ length xs
  pub few : count xs ≤ 8
  pub asc : Ascends key (row_at xs) (count xs)

-- the table came to hold l
pub record To (ys : List ℕ) (l : List Row) : Type 0 where
  pub table : Table ys
  pub list : entries ys ≡ l

-- its rows are l where the answer is yes, and no byte has changed where it is no
abbrev pub Done : List ℕ → List ℕ → List Row → Bool → Type 0
Done xs ys l true = entries ys ≡ l
Done xs ys l false = ys ≡ xs

pub record Did (xs ys : List ℕ) (l : List Row) (r : Bool) : Type 0 where
  pub table : Table ys
  pub done : Done xs ys l r

abbrev pub live_row : ℕ → ℕ → Row
live_row k v = record { key = k; value = v; mark = 1 }

-- what is known of the key at i, by the answer
abbrev pub IsAt : List ℕ → ℕ → ℕ → ℕ → Bool → Type 0
IsAt xs n i k true = (row_at xs i).key ≡ k
IsAt xs n i k false = i < n → (row_at xs i).key ≡ k → ⊥

-- i is where the row r goes
pub record Place (xs : List ℕ) (n i : ℕ) (r : Row) : Type 0 where
  pub table : Table xs
  pub size : n ≡ count xs
  pub room : n < 8
  pub inside : i ≤ n
  pub low : (j : ℕ) → j < i → (row_at xs j).key < r.key
  pub high : (j : ℕ) → i ≤ j → j < n → r.key < (row_at xs j).key
  pub live : 0 < r.mark

-- l with the value v at the row that was found
abbrev pub revalued : Option Row → ℕ → List Row → List Row
revalued None v l = l
revalued (Some r) v l = replace key (record { key = r.key; value = v; mark = r.mark }) l
