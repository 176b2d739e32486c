use Prim.Native.Nat.{ℕ, ◌*◌}
use mathlib.Core.Path.{ap, ◌∙◌}
use borrow.Author.Rules.{rules}
use Rattle.le.specs.Le.{put}
use Rattle.le.proofs.Laws.{length_put}
use Rattle.store.specs.Layout.{store}
use Rattle.store.proofs.set.Goals as goal

pub returns : goal.returns
unfolding store
returns c =
    let e = c.put_u64.ensures ∙ ap (λ (n : ℕ). put 8 c.args.m.now (8 * n) c.args.v) c.spot_of.ensures.0 in
    record { holds = rw e (rw (length_put 8 c.args.m.now _ _) c.requires.0); fits = search rules; exact = e }
