use Rattle.joining.proofs.Laws.{laws}
use Rattle.joining.proofs.judge.Goals as goal

pub returns-then-word_at-a : goal.returns-then-word_at-a
returns-then-word_at-a c = search laws

pub returns-then-has_account : goal.returns-then-has_account
returns-then-has_account c = search laws

pub returns-then-open_orders-ne0 : goal.returns-then-open_orders-ne0
returns-then-open_orders-ne0 c = search laws

pub returns : goal.returns
returns c = search laws
