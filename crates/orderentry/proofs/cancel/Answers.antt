use Rattle.orderentry.proofs.Messages.{account_cast, plain_cancel, cancel_done}
use Rattle.orderentry.proofs.cancel.Goals as goal

pub overflow_cast-k : goal.overflow_cast-k
overflow_cast-k c = record { fits = account_cast c.requires }

pub enter_other-requires : goal.enter_other-requires
enter_other-requires c = (c.requires, plain_cancel _ _)

pub returns : goal.returns
returns c = cancel_done c.args.m.now c.args.out.now c.args.s c.args.a c.args.time _ _ _ _ c.requires c.enter_other.ensures
