use mathlib.Core.Path.{sym, ◌∙◌}
use native.Mathlib.Omega.{arith}
use Rattle.store.specs.Layout.{cell}
use Rattle.pending.specs.Pending.{key}
use Rattle.pending.proofs.Chain.{passed_top, passed_link, link_less, passed_hit, passed_all}
use Rattle.pending.proofs.changed.is_in.Goals as goal

pub loop-n-init : goal.loop-n-init
loop-n-init c = passed_top (cell c.args.m.now) (key c.args.side c.args.price) _ c.requires.1 c.requires.2

pub returns-then-is_at : goal.returns-then-is_at
returns-then-is_at c =
    passed_hit _ _ c.loop-n.invariant (omega arith) (sym c.is_at.ensures ∙ c.if-is_at.true)

pub loop-n-smaller : goal.loop-n-smaller
loop-n-smaller c =
    link_less _ _ c.loop-n.invariant _ c.requires.1 (omega arith) c.get-n.ensures

pub loop-n-preserved : goal.loop-n-preserved
loop-n-preserved c =
    passed_link _ _ c.loop-n.invariant _ c.requires.1 (omega arith) (sym c.is_at.ensures ∙ c.if-is_at.false) c.get-n.ensures

pub returns : goal.returns
returns c = passed_all _ _ c.loop-n.invariant (omega arith)
