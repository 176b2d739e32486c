-- The words of a row of a stored file, what agrees, and the count. Assumes nothing.
use Rattle.std.specs.Prelude.{◌≡◌, ℕ, zero, suc, ◌+◌, ◌*◌, ◌/◌, ◌%◌, ◌^◌, min, Bool, true, false, cond, ◌&&◌, ◌||◌, List, length, replicate, ◌==◌, nat_lt, ◌<◌, ◌≢◌, Option, Some, None, unwrap_or}
use Rattle.le.specs.Checked.{loaded, stored}
use Rattle.stored.specs.declared.Differing.{Differing}
use Rattle.stored.specs.declared.Tally.{Tally}

abbrev pub sum : ℕ → ℕ → ℕ
sum n m = (n + m) % 2 ^ 64

-- ---- the words of a row

-- what was loaded, or 0
unfoldable pub load_at : List ℕ → ℕ → ℕ
load_at xs o = unwrap_or (loaded xs o 8) 0

-- the word i, or 0 where there is none
unfoldable pub word_at : List ℕ → ℕ → ℕ
word_at xs i = cond (nat_lt i 65536) (load_at xs (8 * i)) 0

abbrev pub small_at : List ℕ → ℕ → ℕ
small_at xs i = word_at xs i % 4294967296

abbrev pub code_at : List ℕ → ℕ → ℕ
code_at xs i = word_at xs i % 256

-- xs with w as its word i, of 16
unfoldable pub put_at : List ℕ → ℕ → ℕ → List ℕ
put_at xs i w = cond (nat_lt i 16) (stored xs (8 * i) 8 w) xs

-- the first n words of xs from `from` on, in a row of their own
unfoldable pub moved : List ℕ → ℕ → ℕ → List ℕ
moved xs from zero = replicate 128 0
moved xs from (suc n) = put_at (moved xs from n) n (word_at xs (from + n))

abbrev pub tail_of : List ℕ → ℕ → List ℕ
tail_of xs from = moved xs from 16

-- the code and the count are the words 2 and 3
abbrev pub replied : List ℕ → ℕ → ℕ → List ℕ
replied xs k n = put_at (put_at xs 2 k) 3 n

-- ---- what differs

-- b is whether A holds
abbrev pub Tells : Bool → Type 0 → Type 0
Tells b A = (b ≡ true → A) × (A → b ≡ true)

-- d is the first word at which xs and ys differ, of the whole words of xs, or none is
abbrev pub FirstDiffers : List ℕ → List ℕ → Option Differing → Type 0
FirstDiffers xs ys (Some d) =
    (d.word < length xs / 8) × (d.want ≡ word_at xs d.word) × (d.got ≡ word_at ys d.word) × (d.want ≢ d.got) ×
    ((k : ℕ) → k < d.word → word_at xs k ≡ word_at ys k)
FirstDiffers xs ys None = (k : ℕ) → k < length xs / 8 → word_at xs k ≡ word_at ys k

-- ---- the file

-- the bytes of n places of a call of the kind k
abbrev pub bytes_by : ℕ → ℕ → ℕ
bytes_by k n =
    cond (k == 6) (24 * min n 1024)
    (cond (k == 0 || k == 18) (64 * min n 384)
    (cond (k == 19 || k == 20) (min n 24576) (96 * min n 256)))

unfoldable pub bytes_at : List ℕ → ℕ → ℕ
bytes_at xs n = bytes_by (word_at xs 0) n

abbrev pub start_by : ℕ → Bool
start_by k = k == 0 || k == 20

unfoldable pub is_start : List ℕ → Bool
is_start xs = start_by (word_at xs 0 % 32)

abbrev pub given_by : ℕ → Bool
given_by k = k == 0 || (k == 16 || (k == 18 || k == 20))

-- the call's rows are its arguments
unfoldable pub is_given : List ℕ → Bool
is_given xs = given_by (word_at xs 0)

-- the answers agree, and so do the rows where they are not given
abbrev pub Agree : (row got rows out : List ℕ) → Type 0
Agree row got rows out = (row ≡ got) × (is_given row ≡ false → rows ≡ out)

-- the row without its code and count
abbrev pub cleared : List ℕ → List ℕ
cleared xs = put_at xs 2 18446744073709551615

abbrev pub unanswered : List ℕ → List ℕ
unanswered xs = cond (is_given xs) (cleared xs) (put_at (cleared xs) 3 0)

-- ---- runs

abbrev pub times : List ℕ → ℕ
times xs = word_at xs 15 / 65536

-- the word i is one that grows
unfoldable pub grows : ℕ → ℕ → Bool
grows words i = nat_lt i 16 && words / 2 ^ i % 2 == 1

unfoldable pub grow_at : List ℕ → ℕ → ℕ → List ℕ
grow_at xs words i = cond (grows words i) (put_at xs i (sum (word_at xs i) 1)) xs

-- the first n words have grown
unfoldable pub grown : List ℕ → ℕ → ℕ → List ℕ
grown xs words zero = xs
grown xs words (suc n) = grow_at (grown xs words n) words n

abbrev pub grow_row : List ℕ → List ℕ
grow_row xs = grown xs (word_at xs 15) 16

-- ---- two gateways

abbrev pub gateway_of : List ℕ → ℕ
gateway_of xs = word_at xs 0 / 32

abbrev pub plain : List ℕ → List ℕ
plain xs = put_at xs 0 (word_at xs 0 % 32)

-- ---- the count

-- the calls with those of one more row
abbrev pub calls_with : List ℕ → ℕ → ℕ
calls_with xs n = sum n (sum (times xs) 1)

-- a list begins with a start of the first gateway
unfoldable pub begins : List ℕ → Bool
begins xs = is_start xs && gateway_of xs == 0

unfoldable pub counted : List ℕ → Tally → Bool → Tally
counted xs t more =
    cond (begins xs)
    (record { lists = sum t.lists 1; rows = 0; calls = calls_with xs t.calls; more = more })
    (record { lists = t.lists; rows = sum t.rows 1; calls = calls_with xs t.calls; more = more })

abbrev pub finished : Tally → Tally
finished t = record { lists = t.lists; rows = t.rows; calls = t.calls; more = false }
