use mathlib.Core.Path.{◌≡◌}
use mathlib.Core.List.{map}
use lib.ListN.{take}
use Rattle.pending.specs.Pending.{command_row}
use Rattle.rows.specs.Rows.{put_rows}
use Rattle.outcome.specs.Parts.{rest_of}
use Rattle.commands.proofs.put_batch.Given as goal

abbrev pub invariant-loop-j : goal.invariant-loop-j
invariant-loop-j l = l.out ≡ put_rows 96 0 (map command_row (take l.j (rest_of l.m).batch)) l.initial.out
