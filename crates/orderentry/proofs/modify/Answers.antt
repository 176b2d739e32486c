use Rattle.words.proofs.Int.{read}
use Rattle.pretrade.proofs.Existing.{row_needs}
use Rattle.orderentry.proofs.Messages.{exists, account_cast, plain_modify, modify_done}
use Rattle.orderentry.proofs.modify.Goals as goal

pub is_funded-allowed-requires : goal.is_funded-allowed-requires
is_funded-allowed-requires c = row_needs (exists c.requires)

pub overflow_cast-k : goal.overflow_cast-k
overflow_cast-k c = record { fits = account_cast c.requires }

pub enter_other-requires : goal.enter_other-requires
enter_other-requires c = (c.requires, plain_modify _ _ _ _)

pub returns : goal.returns
returns c = modify_done c.args.m.now c.args.out.now c.args.s c.args.a c.args.time _ _ _ c.args.price _ _ _ _ c.requires (read {x = c.args.price} c.ranges.price.sfits) c.is_funded-allowed.ensures c.enter_other.ensures
