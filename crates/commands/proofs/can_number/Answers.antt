use Rattle.commands.proofs.Numbering.{number_left, many_flying, many_waiting}
use Rattle.commands.proofs.can_number.Goals as goal
use Rattle.commands.proofs.can_number.Goals.{then-flying-lt-MOST_IN_FLIGHT, else-flying-lt-MOST_IN_FLIGHT}

pub returns-then-waiting-lt-MOST_IN_BATCH : goal.returns-then-waiting-lt-MOST_IN_BATCH
returns-then-waiting-lt-MOST_IN_BATCH c =
    let h = c.if-waiting-lt-MOST_IN_BATCH.true in
    number_left c.args.m.now _ _ _ c.word_at-flying.ensures c.word_at-waiting.ensures c.word_at-last.ensures h.0 h.1

pub returns-else-waiting-lt-MOST_IN_BATCH : goal.returns-else-waiting-lt-MOST_IN_BATCH
returns-else-waiting-lt-MOST_IN_BATCH c =
    let h = c.if-waiting-lt-MOST_IN_BATCH.either in
    elim c.if-flying-lt-MOST_IN_FLIGHT.branch [
      | then-flying-lt-MOST_IN_FLIGHT w ↦ let e = many_waiting c.args.m.now _ _ c.word_at-flying.ensures c.word_at-waiting.ensures w.if-flying-lt-MOST_IN_FLIGHT.true h in cc
      | else-flying-lt-MOST_IN_FLIGHT w ↦ let e = many_flying c.args.m.now _ c.word_at-flying.ensures w.if-flying-lt-MOST_IN_FLIGHT.false in cc
    ]
