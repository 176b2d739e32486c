use Rattle.bitmap.proofs.Digits.{put_digit}
use Rattle.bitmap.proofs.with_digit.Goals as goal

pub returns : goal.returns
returns c = put_digit c.args.w c.args.k c.args.v c.requires.0
