use Rattle.pending.proofs.Chain.{slot_read}
use Rattle.pending.proofs.changed.slot_at.Goals as goal

pub returns : goal.returns
returns c =
    slot_read c.args.m.now c.args.i _ _ _ c.get-side.ensures c.get.ensures c.slot.ensures.0
