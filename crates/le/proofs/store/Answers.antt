use mathlib.Core.Path.{refl, sym, ◌∙◌}
use Rattle.le.proofs.Checked.{place}
use Rattle.le.specs.Checked.{takes}
use borrow.Author.Tests.{ltb-true}
use Rattle.le.proofs.store.Goals as goal

pub is_small-requires : goal.is_small-requires
is_small-requires c = (place _ _ _ (sym c.is_inside.ensures ∙ c.if-is_inside.true)).width

pub put-requires : goal.put-requires
put-requires c = (
  place _ _ _ (sym c.is_inside.ensures ∙ c.if-is_inside.true),
  ltb-true _ _ (sym c.is_small.ensures ∙ c.if-is_small.true),
)

pub returns-then-is_small : goal.returns-then-is_small
unfolding takes
returns-then-is_small c =
    rw (← c.is_inside.ensures, c.if-is_inside.true, ← c.is_small.ensures, c.if-is_small.true, c.put.ensures) (refl, refl)

pub returns-else-is_small : goal.returns-else-is_small
unfolding takes
returns-else-is_small c = rw (← c.is_inside.ensures, c.if-is_inside.true, ← c.is_small.ensures, c.if-is_small.false) (refl, refl)

pub returns-else-is_inside : goal.returns-else-is_inside
unfolding takes
returns-else-is_inside c = rw (← c.is_inside.ensures, c.if-is_inside.false) (refl, refl)
