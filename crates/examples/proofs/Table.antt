-- The table of specs/Table.antt, by computation. Assumes nothing.
use mathlib.Core.Path.{refl}
use Rattle.risk.specs.Meter.{green}
use Rattle.risk.specs.Throttle.{filled}
use Rattle.words.specs.Words.{place_of}
use Rattle.gateway.specs.Bytes.{encode}
use Rattle.gateway.specs.Ledger.{hold}
use Rattle.examples.specs.Table.{Examples}

pub examples : Examples
unfolding place_of filled green encode hold
examples = refl
