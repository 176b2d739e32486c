use Rattle.deliver.proofs.Events.{as_cancelled}
use Rattle.deliver.proofs.cancelled.Goals as goal

pub returns : goal.returns
returns c =
    as_cancelled _ _ _ _ _ _ _ _ _ _ c.word-id.ensures c.word-qty.ensures c.cancel_reason-reason.ensures c.cancelled.ensures
