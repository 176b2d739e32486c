use mathlib.Core.Path.{◌∙◌}
use Rattle.words.proofs.Int.{read}
use Rattle.feed.proofs.Changes.{update_is}
use Rattle.feed.proofs.update_of.Goals as goal

pub returns : goal.returns
returns c =
    let w = c.to_i64 in
    let z = c.side_of in
    let q = c.word_at-seq in
    let l = c.level_of-l in
    update_is c.args.m.now c.args.side c.args.price _ _ _ _ l.ensures q.ensures z.ensures (read {x = w.result} w.type_inv ∙ w.ensures)
