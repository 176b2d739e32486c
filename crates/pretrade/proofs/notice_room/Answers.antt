use Rattle.pretrade.proofs.Testing.{testing}
use Rattle.pretrade.proofs.notice_room.Goals as goal

pub returns-then-hold-eq0 : goal.returns-then-hold-eq0
returns-then-hold-eq0 c = search testing

pub returns-then-is_funded : goal.returns-then-is_funded
returns-then-is_funded c = search testing

pub returns : goal.returns
returns c = search testing
