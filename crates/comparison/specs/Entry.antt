-- What each call answers: its code, and what the slices that it may write hold after it.
use Rattle.std.specs.Prelude.{Bool, true, false, cond, List, [], ◌∷◌, ℕ, ◌+◌, ◌^◌, eqb, leb, ltb, ℤ, length, Option, Some, None}
use Rattle.std.specs.Int.{w64}
use Rattle.std.proofs.Common.{of_z}
use Rattle.gateway.specs.Limits.{too_short, outside, malformed}
use Rattle.le.specs.Checked.{is_width, loaded}
use Rattle.le.specs.Le.{le, put}
use Rattle.le.specs.Row.{span, puts}
use Rattle.orderbook.specs.declared.Side.{Side}
use Rattle.protocol.specs.Codes.{side_of}
use Rattle.protocol.specs.declared.Balance.{Balance}
use Rattle.risk.specs.Collar.{near}
use Rattle.risk.specs.Throttle.{take_token}
use Rattle.risk.specs.declared.Bucket.{Bucket}
use Rattle.risk.specs.declared.Taken.{Taken}
use Rattle.wallet.specs.Wallet as W
use Rattle.wallet.specs.declared.Wallet.{Wallet}
use Rattle.words.specs.Words.{int}

-- the code, and the one slice or the two
pub data Answer : Type 0 where
  answer : ℕ → List ℕ → Answer
  answers : ℕ → List ℕ → List ℕ → Answer

-- accepted
abbrev pub done : ℕ
done = 0

abbrev pub flag : Bool → ℕ
flag true = 1
flag false = 0

-- a signed number's word, in two's complement
abbrev pub word : ℤ → ℕ
word z = of_z w64 z

-- n words of 8 bytes
abbrev pub one : List ℕ
one = 8 ∷ []

abbrev pub two : List ℕ
two = 8 ∷ one

abbrev pub four : List ℕ
four = 8 ∷ 8 ∷ two

-- words at the start of an output, if it has room
abbrev pub write : List ℕ → List ℕ → List ℕ → Answer
write ws vs out = cond (ltb (length out) (span ws)) (answer too_short out) (answer done (puts ws out 0 vs))

-- a wallet is four words
abbrev pub wallet_in : List ℕ → Wallet
wallet_in xs = record { cash = le 8 xs 0; position = le 8 xs 8; cash_held = le 8 xs 16; position_held = le 8 xs 24 }

abbrev pub balance_in : List ℕ → Balance
balance_in xs = W.balance_of (wallet_in xs)

abbrev pub put_balance : Balance → List ℕ → List ℕ
put_balance b xs = puts four xs 0 (word b.cash ∷ word b.position ∷ word b.cash_held ∷ word b.position_held ∷ [])

-- a bucket is two
abbrev pub bucket_in : List ℕ → Bucket
bucket_in xs = record { tokens = le 8 xs 0; refilled = le 8 xs 8 }

abbrev pub put_bucket : Bucket → List ℕ → List ℕ
put_bucket b xs = puts two xs 0 (b.tokens ∷ b.refilled ∷ [])

-- a side's number has to be a case's code
abbrev pub by_side : Option Side → List ℕ → (Side → Answer) → Answer
by_side None xs f = answer malformed xs
by_side (Some side) xs f = f side

-- an input has n bytes, and should have k
abbrev pub sized : ℕ → ℕ → List ℕ → Answer → Answer
sized n k xs a = cond (eqb n k) a (answer malformed xs)

-- whether an amount fits, and the amount, or 0
abbrev pub write_amount : Option ℤ → List ℕ → Answer
write_amount None out = write two (0 ∷ 0 ∷ []) out
write_amount (Some z) out = write two (1 ∷ word z ∷ []) out

-- what an order holds where a buyer pays this fee for each lot
abbrev pub hold_of : ℕ → ℕ → ℕ → ℕ → List ℕ → Answer
hold_of fee side price leaves out = by_side (side_of side) out (λ s. write_amount (W.hold_of s (W.charged (int fee) s (int price)) leaves) out)

abbrev pub covers_on : Side → ℕ → List ℕ → List ℕ → Answer
covers_on side amount xs out = sized (length xs) 32 out (write one (flag (W.covers side (int amount) (balance_in xs)) ∷ []) out)

abbrev pub covers : ℕ → ℕ → List ℕ → List ℕ → Answer
covers side amount xs out = by_side (side_of side) out (λ s. covers_on s amount xs out)

-- a wallet after a change, if its total fits
abbrev pub change : Option Balance → List ℕ → Answer
change None xs = answer outside xs
change (Some b) xs = answer done (put_balance b xs)

abbrev pub hold_on : Side → ℕ → ℕ → List ℕ → Answer
hold_on side old new xs = sized (length xs) 32 xs (change (W.hold side (int old) (int new) (balance_in xs)) xs)

abbrev pub hold : ℕ → ℕ → ℕ → List ℕ → Answer
hold side old new xs = by_side (side_of side) xs (λ s. hold_on s old new xs)

abbrev pub settle_on : ℕ → Side → ℕ → ℕ → List ℕ → Answer
settle_on fee side price qty xs = sized (length xs) 32 xs (change (Some (W.settled side (W.charged (int fee) side (int price)) qty (balance_in xs))) xs)

abbrev pub settle : ℕ → ℕ → ℕ → ℕ → List ℕ → Answer
settle fee side price qty xs = by_side (side_of side) xs (λ s. settle_on fee s price qty xs)

-- whether a price is near
abbrev pub near_mark : ℕ → ℕ → ℕ → List ℕ → Answer
near_mark price mark percent out = write one (flag (near (int price) (int mark) percent) ∷ []) out

-- the bucket and the output after a message
abbrev pub took : Taken → List ℕ → List ℕ → Answer
took t xs out = answers done (put_bucket t.bucket xs) (put 8 out 0 (flag t.passed))

abbrev pub take : ℕ → ℕ → List ℕ → List ℕ → Answer
take rate time xs out =
    cond (eqb (length xs) 16)
    (cond (ltb (length out) 8) (answers too_short xs out) (took (take_token rate time (bucket_in xs)) xs out))
    (answers malformed xs out)

abbrev pub write_loaded : Option ℕ → List ℕ → Answer
write_loaded (Some v) out = write one (v ∷ []) out
write_loaded None out = answer malformed out

abbrev pub load : ℕ → ℕ → List ℕ → List ℕ → Answer
load width at xs out = write_loaded (loaded xs at width) out

abbrev pub store : ℕ → ℕ → ℕ → List ℕ → Answer
store width at v xs =
    cond (is_width width)
    (cond (ltb v (256 ^ width)) (cond (leb (at + width) (length xs)) (answer done (put width xs at v)) (answer too_short xs)) (answer outside xs))
    (answer malformed xs)
