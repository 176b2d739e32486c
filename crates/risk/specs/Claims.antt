-- What is claimed of the throttle: it is RFC 2697's meter (01, Throttle). `claims` in src/lib.rt has the proof.
use Rattle.std.specs.Prelude.{◌≡◌, false, ℕ, ◌*◌, ◌≤◌}
use Rattle.risk.specs.declared.Bucket.{Bucket}
use Rattle.risk.specs.Meter.{grows}
use Rattle.risk.specs.Throttle.{burst, filled, take_token}

pub record Claims : Type 0 where
  -- the updates of a time at once are those of the RFC, one by one, `rate` in each nanosecond
  pub meter : (rate elapsed tc : ℕ) → tc ≤ burst rate → filled rate elapsed tc ≡ grows (burst rate) (rate * elapsed) tc
  -- the count never passes CBS
  pub capped : (rate now : ℕ) (b : Bucket) → (take_token rate now b).bucket.tokens ≤ burst rate
  -- rate 0 always throttles
  pub rate_zero : (now : ℕ) (b : Bucket) → (take_token 0 now b).passed ≡ false
