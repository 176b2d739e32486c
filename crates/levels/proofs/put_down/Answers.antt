use borrow.Author.Rules.{rules}
use Rattle.levels.proofs.Laws.{put_down_is}
use Rattle.levels.proofs.put_down.Goals as goal

pub returns : goal.returns
returns c =
    put_down_is _ _ _ _ _ _ _ _ _ c.requires.0 c.requires.1 c.requires.2 (search rules) (search rules) c.used-n.ensures c.size-k.ensures c.base_of.ensures.0
    c.close_at.ensures c.write_row.ensures c.recount.ensures
