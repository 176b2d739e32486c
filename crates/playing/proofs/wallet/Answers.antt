use Rattle.playing.proofs.Laws.{wallet_put, wallet_step}
use mathlib.Core.Path.{refl}
use borrow.Author.Rules.{rules}
use Rattle.words.proofs.Int.{read}
use Rattle.playing.proofs.wallet.Goals as goal

pub returns : goal.returns
returns c =
    let w = c.rowanchess_wallet-w.result in
    wallet_step _ _ _ _ _ _ w refl c.rowanchess_wallet-w.ensures
    (wallet_put w _ _ _ _ _ _ _ _ _
    (read {x = w.cash} (search rules))
    (read {x = w.position} (search rules))
    (read {x = w.cash_held} (search rules))
    (read {x = w.position_held} (search rules))
    c.put.ensures c.put-2.ensures c.put_pair.ensures c.put_pair-2.ensures)
