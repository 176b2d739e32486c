use Rattle.pretrade.proofs.Testing.{testing}
use Rattle.pretrade.proofs.judge_new.Goals as goal

pub has_room-requires : goal.has_room-requires
has_room-requires c = search testing

pub judge_paper-paper-requires : goal.judge_paper-paper-requires
judge_paper-paper-requires c = search testing

pub few_open-requires : goal.few_open-requires
few_open-requires c = search testing

pub returns : goal.returns
returns c = search testing
