use Rattle.words.proofs.Int.{read, int_of}
use Rattle.words.proofs.of_i64.Goals as goal

pub returns : goal.returns
returns c = rw (c.cast_unsigned.ensures, read {x = c.args.x} c.ranges.x.sfits) (int_of c.args.x c.ranges.x)
