use Rattle.words.proofs.Int.{int_most, int_least}
use Rattle.words.proofs.nearest.Goals as goal

pub returns-in-In : goal.returns-in-In
returns-in-In c = rw c.in-In.is

pub returns-in-Above : goal.returns-in-Above
returns-in-Above c = rw c.in-Above.is int_most

pub returns-in-Below : goal.returns-in-Below
returns-in-Below c = rw c.in-Below.is int_least
