use Rattle.table_test.specs.Test.{read}
use mathlib.Core.Path.{sym, ◌∙◌}
use Rattle.table_test.proofs.is_at.Goals as goal

pub returns-then-key_at-k : goal.returns-then-key_at-k
unfolding read
returns-then-key_at-k c = sym c.key_at.ensures ∙ c.if-key_at-k.true

pub returns : goal.returns
unfolding read
returns c = λ h e. c.if-key_at-k.false (c.key_at.ensures ∙ e)
