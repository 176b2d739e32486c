use Rattle.restore.proofs.Laws.{is_whole, limit_fits, contents_fit, restore_refused, restore_begun}
use Rattle.std.specs.Prelude.{Err}
use mathlib.Core.Path.{◌≡◌}
use borrow.Author.Rules.{rules}
use Rattle.words.specs.Words.{int}
use Rattle.restore.proofs.restore.Goals as goal

pub begin-requires : goal.begin-requires
begin-requires c =
    let bytes = c.args.bytes.now in
    let z = c.in_ok-judge_all.ensures in
    (c.requires.0, limit_fits (int c.args.fee) c.args.limit c.args.timing c.args.accounts bytes z, c.requires.1, is_whole (int c.args.fee) c.args.limit c.args.timing c.args.accounts bytes z, contents_fit (int c.args.fee) c.args.limit c.args.timing c.args.accounts bytes z (λ i. (c.type_inv.bytes i).fits))

pub returns-in_err-judge_all : goal.returns-in_err-judge_all
returns-in_err-judge_all c =
    let r : c.from_residual.result ≡ Err c.in_err-judge_all.field-0.0 = search rules in
    rw r (restore_refused (int c.args.fee) c.args.limit c.args.timing c.args.accounts c.args.bytes.now _ c.in_err-judge_all.ensures c.args.m.now)

pub returns : goal.returns
returns c =
    restore_begun (int c.args.fee) c.args.limit c.args.timing c.args.accounts c.args.bytes.now c.in_ok-judge_all.ensures (λ i. (c.type_inv.bytes i).fits) c.args.m.now _ c.requires.1 c.begin.ensures
