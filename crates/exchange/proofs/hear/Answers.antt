use Rattle.exchange.proofs.Laws.{laws, as_modify}
use borrow.Author.Rules.{rules}
use Rattle.exchange.proofs.hear.Goals as goal

pub log_in_again-requires : goal.log_in_again-requires
log_in_again-requires c = search laws

pub returns-in-Logout : goal.returns-in-Logout
returns-in-Logout c = search laws

pub returns-in-Heartbeat : goal.returns-in-Heartbeat
returns-in-Heartbeat c = search laws

pub returns-in-NewOrder : goal.returns-in-NewOrder
returns-in-NewOrder c = search laws

pub returns-in-Cancel : goal.returns-in-Cancel
returns-in-Cancel c = search laws

pub returns-in-Modify : goal.returns-in-Modify
returns-in-Modify c =
    as_modify c.args.m.now c.args.out.now c.args.s c.args.time _ _ _ _ c.in-Modify.is (search rules) c.modify.ensures

pub returns-in-MassCancel : goal.returns-in-MassCancel
returns-in-MassCancel c = search laws

pub returns-in-Subscribe : goal.returns-in-Subscribe
returns-in-Subscribe c = search laws
