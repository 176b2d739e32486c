use Rattle.pending.proofs.Keys.{same_as_buy, same_as_sell}
use Rattle.pending.proofs.changed.same_side.Goals as goal

pub returns-then-a-eq0 : goal.returns-then-a-eq0
returns-then-a-eq0 c = same_as_buy c.args.a c.args.b c.if-a-eq0.true

pub returns-else-a-eq0 : goal.returns-else-a-eq0
returns-else-a-eq0 c = same_as_sell c.args.a c.args.b c.if-a-eq0.false
