use Rattle.restore.proofs.Laws.{laws}
use Rattle.restore.proofs.judge.Goals as goal

pub returns-then-not-is_whole : goal.returns-then-not-is_whole
returns-then-not-is_whole c = search laws

pub judge_entries-requires : goal.judge_entries-requires
judge_entries-requires c = search laws

pub returns-in_err-judge_entries : goal.returns-in_err-judge_entries
returns-in_err-judge_entries c = search laws

pub all_fit-requires : goal.all_fit-requires
all_fit-requires c = search laws

pub returns-then-not-all_fit : goal.returns-then-not-all_fit
returns-then-not-all_fit c = search laws

pub returns : goal.returns
returns c = search laws
