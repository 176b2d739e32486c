use mathlib.Core.Path.{sym, ◌∙◌}
use Rattle.store.specs.Layout.{cell}
use Rattle.pending.specs.Pending as P
use Rattle.pending.proofs.Chain.{top_at}
use Rattle.pending.proofs.Keys.{room_for, remember_found, remember_pushed}
use borrow.Author.Rules.{rules}
use Rattle.pending.proofs.changed.remember.Goals as goal

pub is_in-requires : goal.is_in-requires
is_in-requires c = (search rules, search rules, top_at _ _ _ _ c.slot-k.ensures.0 c.top-t.ensures)

pub returns-then-is_in : goal.returns-then-is_in
returns-then-is_in c =
    remember_found _ c.args.side c.args.price c.requires.0.holds (sym c.is_in.ensures ∙ c.if-is_in.true)

pub push-requires : goal.push-requires
push-requires c =
    let t = sym c.is_in.ensures ∙ c.if-is_in.false in
    let l = room_for (P.key c.args.side c.args.price) (cell c.args.m.now) t c.requires.2 in
    search rules

pub returns : goal.returns
returns c =
    remember_pushed _ _ c.args.side c.args.price (sym c.is_in.ensures ∙ c.if-is_in.false) c.push.ensures
