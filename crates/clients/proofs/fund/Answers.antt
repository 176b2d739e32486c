use Rattle.clients.proofs.Laws.{fund_is}
use Rattle.words.proofs.Int.{read}
use mathlib.Core.Path.{◌∙◌}
use Rattle.clients.proofs.fund.Goals as goal

pub returns : goal.returns
returns c =
    let f = c.args.f in
    fund_is _ _ c.of_i64-cash.result c.of_i64-position.result f c.of_i64-cash.type_inv c.of_i64-position.type_inv
    (c.of_i64-cash.ensures ∙ read {x = f.cash} c.struct_told-1.given.0.1)
    (c.of_i64-position.ensures ∙ read {x = f.position} c.struct_told-2-1.given.1.0.1) c.write_funds.ensures
