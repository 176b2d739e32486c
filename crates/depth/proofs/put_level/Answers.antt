use mathlib.Core.Path.{◌∙◌}
use Rattle.words.proofs.Int.{read}
use Rattle.depth.proofs.Laws.{level_put}
use Rattle.depth.proofs.put_level.Goals as goal

pub returns : goal.returns
returns c =
    let l = c.args.l in
    level_put _ _ c.args.j c.of_i64-price.result l c.of_i64-price.type_inv (c.of_i64-price.ensures ∙ read {x = l.price} c.struct_told-1.given.0.1) c.put.ensures
