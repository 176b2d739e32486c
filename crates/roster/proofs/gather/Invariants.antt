use Rattle.std.proofs.Common.{◌≡◌, take}
use Rattle.roster.specs.Rostered.{nobody, entered}
use Rattle.roster.proofs.gather.Given as goal

-- the accounts before it have been entered
abbrev pub invariant-loop-a : goal.invariant-loop-a
invariant-loop-a l = l.r ≡ entered l.limit nobody (take l.a-index l.accounts)
