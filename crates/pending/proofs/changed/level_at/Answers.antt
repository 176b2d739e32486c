use Rattle.pending.proofs.changed.level_at.Goals as goal

pub returns : goal.returns
returns c = λ i. record { side = c.get.ensures i; price = c.get-2.ensures i }
