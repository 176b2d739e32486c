use Rattle.maps.proofs.Entering.{entering}
use Rattle.maps.proofs.is_whole.Goals as goal

pub returns-then-ok : goal.returns-then-ok
returns-then-ok c = search entering

pub returns : goal.returns
returns c = search entering
