use mathlib.Core.Path.{◌≡◌}
use Prim.Native.Nat.{◌*◌, ◌≤◌}
use lib.ListN.{length}
use Rattle.outcome.specs.Parts.{rest_of}
use Rattle.outcome.proofs.Walk.{mail_before}
use Rattle.sessions.specs.Sessions.{down_mail}
use Rattle.sessions.proofs.count.Given as goal

abbrev pub invariant-loop-s : goal.invariant-loop-s
invariant-loop-s l = (l.n ≤ 2 * l.s) × (l.n ≡ length (mail_before down_mail (rest_of l.m) l.s))
