-- An account's throttle: RFC 2697's meter, with all the updates of a time made at once (Claims.antt claims that it's the same).
-- Tc is counted in billionths of a message, so that `rate` updates fall in each nanosecond.
use Rattle.std.specs.Prelude.{Bool, true, false, ℕ, ◌+◌, ◌*◌, ◌-◌, min, max}
use Rattle.risk.specs.declared.Bucket.{Bucket}
use Rattle.risk.specs.declared.Taken.{Taken}
use Rattle.risk.specs.Meter.{green, fall}

-- B
abbrev pub message : ℕ
message = 1000000000

-- CBS
abbrev pub burst : ℕ → ℕ
burst rate = rate * message

-- the start: full at time 0
abbrev pub full : ℕ → Bucket
full rate = record { tokens = burst rate; refilled = 0 }

-- the updates of a time
unfoldable pub filled : ℕ → ℕ → ℕ → ℕ
filled rate elapsed tc = min (tc + rate * elapsed) (burst rate)

-- a clock that goes back adds nothing
abbrev pub update : ℕ → ℕ → Bucket → Bucket
update rate now b = record { tokens = filled rate (now - b.refilled) b.tokens; refilled = max b.refilled now }

abbrev pub less : Bucket → Bucket
less b = record { tokens = fall message b.tokens; refilled = b.refilled }

-- green passes and takes a message away, red is throttled
abbrev pub colored : Bool → Bucket → Taken
colored true b = record { passed = true; bucket = less b }
colored false b = record { passed = false; bucket = b }

-- update the count, compare, take away
abbrev pub take_token : ℕ → ℕ → Bucket → Taken
take_token rate now b = colored (green message (update rate now b).tokens) (update rate now b)
