use mathlib.Core.Logic.{⊎_elim}
use native.Mathlib.Nat.{sub-zero}
use native.Mathlib.Omega.{arith}
use Prim.Native.Nat.{◌+◌, ◌-◌}
use Rattle.std.proofs.lemmas.Grind.{common_steps}
use Rattle.le.proofs.Laws.{lt_or_le}
use Rattle.table.proofs.move_down.Goals as goal

pub returns : goal.returns
returns c =
    record {
      same = record {
        at = λ k l.
            let moved = c.copy_within.ensures.by_index.0 k 0 (omega arith) (omega arith) in
            grind (arith, common_steps, moved, sub-zero k);
      };
      frame = record {
        len = grind (arith, common_steps);
        at = λ i w.
            ⊎_elim
            (λ l. grind (arith, common_steps))
            (λ l. let still = c.copy_within.ensures.by_index.2 (i - c.args.to) 0 (omega arith) in
            ⊎_elim (λ m. grind (arith, common_steps, still)) (λ m. grind (arith, common_steps)) (lt_or_le i (c.args.to + c.args.by + c.args.len)))
            w;
      };
    }
