use native.Mathlib.Omega.{arith}
use borrow.Author.Rules.{rules}
use Rattle.pretrade.proofs.Testing.{stands}
use Rattle.pretrade.proofs.live_of.Goals as goal

pub returns : goal.returns
returns c = let w = c.price_word.ensures in
    let x = c.well_formed.1.0.1.1 in
    let u = x.0 in
    let v = x.1.1.0 in
    stands c.args.a c.args.order _ _ _ _ c.price_of-price.ensures (search rules) c.price_flag.ensures w.0 w.1 (omega (arith, u)) (omega (arith, v))
