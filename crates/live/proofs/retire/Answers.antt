use Rattle.live.proofs.Changes.{reads, row_fits, needs_met, retire_becomes}
use Rattle.live.proofs.retire.Goals as goal

pub live_at-o-requires : goal.live_at-o-requires
live_at-o-requires c = let p = c.requires in row_fits p.0 p.1

pub end-requires : goal.end-requires
end-requires c = let p = c.requires in needs_met p.0 (reads p.1 c.live_at-o.ensures)

pub returns : goal.returns
returns c =
    let p = c.requires in
    retire_becomes p.0 (reads p.1 c.live_at-o.ensures) c.end.ensures
