use Rattle.login.proofs.Entered.{laws, heard_linked, linked_rows}
use Rattle.balances.proofs.Laws.{exact_becomes}
use Rattle.login.specs.Login.{logged}
use Rattle.login.proofs.enter.Goals as goal

pub post-requires : goal.post-requires
post-requires c =
    let b = heard_linked c.args.m.now c.args.out.now c.args.s c.args.a c.args.time c.requires.1.slot c.link.ensures c.hear.ensures in
    (exact_becomes (logged c.args.s c.args.a c.args.time) c.requires.0 b, c.requires.1.owner, linked_rows c.args.m.now c.args.out.now c.args.s c.args.a c.args.time b _ c.requires.2)

pub returns : goal.returns
returns c = search laws
