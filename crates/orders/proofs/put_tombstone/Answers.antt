use Rattle.orders.proofs.Laws.{put_tombstone_is}
use native.Mathlib.Omega.{arith}
use Rattle.orders.proofs.put_tombstone.Goals as goal

pub returns : goal.returns
returns c = search (put_tombstone_is, arith)
