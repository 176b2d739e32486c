use mathlib.Core.Path.{◌≡◌, subst}
use Prim.Native.Nat.{ℕ}
use native.Mathlib.Omega.{arith}
use Rattle.store.specs.View.{listed}
use Rattle.roster.specs.Rostered.{nobody, entered}
use Rattle.script.specs.Records.{account_rows, account_at}
use Rattle.lists.proofs.Laws.{no_rows, one_row_more}
use Rattle.lists.proofs.gather.Goals as goal

pub loop-j-init : goal.loop-j-init
loop-j-init c =
    (c.account_rows-n.ensures, no_rows _ _ _ c.nobody-r.ensures)

pub loop-j-preserved : goal.loop-j-preserved
loop-j-preserved c =
    (c.loop-j.invariant.0, one_row_more _ _ _ c.loop-j.j _ _ c.loop-j.invariant.1 c.account_at-a.ensures c.enter-r.ensures)

pub returns : goal.returns
returns c =
    let a = c.args in
    let e : c.loop-j.j ≡ account_rows a.accounts.now = omega arith in
    subst (λ (k : ℕ). c.loop-j.r ≡ entered a.limit nobody (listed (account_at a.accounts.now) k)) e c.loop-j.invariant.1
