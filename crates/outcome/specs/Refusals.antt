-- What a caller reads off a result: its code, and how many rows were written.
use Rattle.std.specs.Prelude.{ℕ, Result, Ok, Err}
use Rattle.gateway.specs.Limits as L
use Rattle.outcome.specs.declared.Refusal.{Refusal}
use Rattle.outcome.specs.declared.Refusal.TheVariants as R

-- the number of a refusal
abbrev pub refusal_code : Refusal → ℕ
refusal_code R.OutOfRange = L.out_of_range
refusal_code R.Foreign = L.foreign
refusal_code R.Exists = L.exists
refusal_code R.Sequence = L.sequence
refusal_code R.Full = L.full
refusal_code R.TooShort = L.too_short
refusal_code R.Outside = L.outside
refusal_code R.Inconsistent = L.inconsistent
refusal_code R.BadSession = L.bad_session
refusal_code R.NotQuiet = L.not_quiet
refusal_code R.Malformed = L.malformed
refusal_code R.HasOrders = L.has_orders
refusal_code R.BadFee = L.bad_fee

-- 0 where a call is done
abbrev pub code_of : {A : Type 0} → Result A Refusal → ℕ
code_of (Ok a) = 0
code_of (Err why) = refusal_code why

-- none where it is refused
abbrev pub rows_of : Result ℕ Refusal → ℕ
rows_of (Ok n) = n
rows_of (Err why) = 0
