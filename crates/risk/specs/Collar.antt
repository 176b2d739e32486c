-- Whether a price lies near the market's, over the integers.
use Rattle.std.specs.Prelude.{Bool, true, ℕ, ℤ, pos, nat_abs, ◌-ℤ◌, ◌*ℤ◌, Option, Some, None}
use Rattle.std.specs.Int.Signed.{le_z}

-- |price − mark| × 100 ≤ mark × percent
abbrev pub near : ℤ → ℤ → ℕ → Bool
near price mark percent = le_z (pos (nat_abs (price -ℤ mark)) *ℤ pos 100) (mark *ℤ pos percent)

-- no percent or no mark: near
abbrev pub near_market : ℤ → Option ℕ → Option ℤ → Bool
near_market price None mark = true
near_market price (Some percent) None = true
near_market price (Some percent) (Some mark) = near price mark percent
