use Rattle.comparison.proofs.Laws.{Words, wrote_wallet}
use Rattle.std.proofs.Common.{rules}
use Rattle.comparison.proofs.write_wallet.Goals as goal

pub returns : goal.returns
returns c =
    let fits : Words c.args.w = search rules in
    wrote_wallet c.args.w _ _ _ _ _ fits
    c.put_u64.ensures c.put_u64-2.ensures c.put_u64-3.ensures c.put_u64-4.ensures
