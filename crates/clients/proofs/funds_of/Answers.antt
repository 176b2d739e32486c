use Rattle.words.proofs.Int.{read}
use Rattle.clients.proofs.funds_of.Goals as goal

pub returns : goal.returns
returns c =
    let a = c.to_i64 in
    let b = c.to_i64-2 in
    cc (read {x = a.result} a.type_inv, read {x = b.result} b.type_inv)
