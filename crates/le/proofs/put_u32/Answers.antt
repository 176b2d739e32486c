use Rattle.le.proofs.Laws.{put_split}
use Rattle.le.proofs.put_u32.Goals as goal

pub returns : goal.returns
returns c =
    let a = c.args in
    cc (put_split 2 2 a.m.now a.o a.v)
