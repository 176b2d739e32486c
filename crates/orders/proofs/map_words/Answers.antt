use mathlib.Core.Path.{◌≡◌, refl}
use Prim.Native.Nat.{◌-◌}
use native.Mathlib.Omega.{arith}
use borrow.Author.Rules.{rules}
use Rattle.store.proofs.Places.{order_map_cell}
use Rattle.orders.proofs.Laws.{words_none, words_more}
use Rattle.orders.proofs.map_words.Goals as goal

pub loop-g-init : goal.loop-g-init
loop-g-init c =
    words_none _ _ c.requires

pub set-requires : goal.set-requires
set-requires c = search (order_map_cell, rules)

pub loop-g-preserved : goal.loop-g-preserved
loop-g-preserved c =
    words_more _ _ _ _ c.loop-g.g _ (omega arith) c.ones.ensures c.loop-g.invariant c.set.ensures

pub returns : goal.returns
returns c =
    let e : c.loop-g.g ≡ 32 = omega arith in
    rw e at c.loop-g.invariant
