use mathlib.Core.Path.{◌≡◌, refl, subst}
use native.Mathlib.Omega.{arith}
use Rattle.gateway.specs.Limits.{owner_slots}
use Rattle.opening.specs.Opening.{present, Admits}
use Rattle.opening.proofs.Laws.{none_admitted, slot_enters, more_admitted}
use Rattle.opening.proofs.enter_all.Goals as goal

pub loop-account-init : goal.loop-account-init
loop-account-init c = none_admitted c.args.m.now c.args.accounts c.requires.0

pub enter-requires : goal.enter-requires
enter-requires c =
    (c.loop-account.invariant.becomes.state, slot_enters c.args.m.now c.args.accounts c.loop-account.account-index c.loop-account.m c.loop-account.invariant _ refl c.requires.1)

pub loop-account-preserved : goal.loop-account-preserved
loop-account-preserved c =
    more_admitted c.args.m.now c.args.accounts c.loop-account.account-index c.loop-account.m c.loop-account.invariant _ _ refl c.enter.ensures

pub returns : goal.returns
returns c =
    let e : c.loop-account.account-index ≡ owner_slots = omega arith in
    subst (λ k. Admits (present c.args.accounts k) c.args.m.now c.loop-account.m) e c.loop-account.invariant
