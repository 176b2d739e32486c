use Rattle.words.proofs.Int.{read, int_zero}
use Rattle.wallet.proofs.Wallet.new.Goals as goal

pub returns : goal.returns
returns c =
    let f = c.args.funds in
    cc (read {x = f.cash} c.struct_told-1.given.0.1, read {x = f.position} c.struct_told-2-1.given.1.0.1, int_zero)
