use mathlib.Core.Path.{sym, ◌∙◌}
use Rattle.feed.proofs.Notices.{notices, balance_funded}
use Rattle.feed.proofs.send_balance.Goals as goal

pub balance_of-b-requires : goal.balance_of-b-requires
balance_of-b-requires c =
    let p = c.requires in
    (p.0, p.3, sym (balance_funded c.args.m.now c.args.a p.3) ∙ p.4)

pub returns : goal.returns
returns c = search notices
