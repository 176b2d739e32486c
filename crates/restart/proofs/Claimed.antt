-- Every claim of specs/Claims.antt. Assumes nothing.
use Rattle.restart.specs.Claims.{Claims}
use Rattle.restart.proofs.Demand.{demand_3}
use Rattle.restart.proofs.Guards.{settled, room_serves}
use Rattle.restart.proofs.Batches.{read_back}

pub claimed : Claims
claimed = record { demand_3 = demand_3; settled = settled; room_serves = room_serves; reads_back = read_back }
