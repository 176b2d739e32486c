use Rattle.saved.proofs.Laws.{started}
use Rattle.saved.proofs.start.Goals as goal

pub returns : goal.returns
returns c =
    started c.args.xs.now (λ i. (c.shared_slice_known-1.given i).fits) c.requires c.orders_start.result c.orders_start.ensures.0 c.orders_start.ensures.1
