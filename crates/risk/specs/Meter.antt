-- RFC 2697's meter, section 3, color-blind and with EBS 0, as its text has it. Tc counts the tokens of the bucket, CBS is its size.
use Rattle.std.specs.Prelude.{Bool, cond, ℕ, zero, suc, ◌-◌, ltb, pos, ◌-ℤ◌}
use Rattle.std.specs.Int.Signed.{le_z}

-- an update: where Tc is below CBS it grows by one
abbrev pub grow : ℕ → ℕ → ℕ
grow cbs tc = cond (ltb tc cbs) (suc tc) tc

-- n updates, one after the other
unfoldable pub grows : ℕ → ℕ → ℕ → ℕ
grows cbs zero tc = tc
grows cbs (suc n) tc = grow cbs (grows cbs n tc)

-- a packet of b bytes is green where Tc − b ≥ 0
unfoldable pub green : ℕ → ℕ → Bool
green b tc = le_z (pos 0) (pos tc -ℤ pos b)

-- Tc falls by b, never below 0
abbrev pub fall : ℕ → ℕ → ℕ
fall b tc = tc - b
