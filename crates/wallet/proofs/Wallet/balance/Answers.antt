use Rattle.words.proofs.Int.{read}
use Rattle.wallet.proofs.Wallet.balance.Goals as goal

pub returns : goal.returns
returns c =
    let a = c.to_i64 in
    let b = c.to_i64-2 in
    let d = c.to_i64-3 in
    let e = c.to_i64-4 in
    cc (read {x = a.result} a.type_inv, read {x = b.result} b.type_inv, read {x = d.result} d.type_inv, read {x = e.result} e.type_inv)
