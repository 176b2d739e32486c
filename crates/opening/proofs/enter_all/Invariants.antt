use Rattle.opening.specs.Opening.{present, Admits}
use Rattle.opening.proofs.enter_all.Given as goal

abbrev pub invariant-loop-account : goal.invariant-loop-account
invariant-loop-account l = Admits (present l.fn.accounts l.account-index) l.initial.m l.m
