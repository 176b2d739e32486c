use Rattle.table.proofs.Search.{row_in, finds_none, finds_past}
use native.Mathlib.Omega.{arith}
use mathlib.Core.Path.{◌∙◌}
use Prim.Native.Nat.{◌-◌}
use Rattle.table.proofs.find.Goals as goal

pub key_at-requires : goal.key_at-requires
key_at-requires c =
    let p = c.requires.0.room in
    omega (arith, row_in p (c.args.n - 1) (omega arith), p.wide)

pub returns-then-key_at-key : goal.returns-then-key_at-key
returns-then-key_at-key c =
    finds_past _ c.requires.0.asc (rw c.key_at.ensures at c.if-key_at-key.true)

pub returns-then-n-i : goal.returns-then-n-i
returns-then-n-i c =
    finds_none _ c.requires.0.asc c.lower_bound-i.ensures (λ h e. absurd (omega arith))

pub key_at-requires-2 : goal.key_at-requires-2
key_at-requires-2 c =
    let p = c.requires.0.room in
    omega (arith, row_in p c.lower_bound-i.result (omega arith), p.wide)

pub returns-then-key_at-key-2 : goal.returns-then-key_at-key-2
returns-then-key_at-key-2 c =
    finds_none _ c.requires.0.asc c.lower_bound-i.ensures (λ h e. absurd (c.if-key_at-key-2.true (c.key_at-2.ensures ∙ e)))

pub mark_at-requires : goal.mark_at-requires
mark_at-requires c =
    omega (arith, row_in c.requires.0.room c.lower_bound-i.result (omega arith))

pub returns-then-mark_at-eq0 : goal.returns-then-mark_at-eq0
returns-then-mark_at-eq0 c =
    finds_none _ c.requires.0.asc c.lower_bound-i.ensures (λ h e. rw c.mark_at.ensures at c.if-mark_at-eq0.true)
