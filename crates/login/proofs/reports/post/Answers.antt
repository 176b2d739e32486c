use mathlib.Core.Path.{◌≡◌, ◌∙◌}
use native.Mathlib.Omega.{arith}
use Rattle.login.proofs.Told.{posted_first, posted_next, posted_room, posted_all, small_row}
use Rattle.login.proofs.reports.post.Goals as goal

pub loop-j-init : goal.loop-j-init
loop-j-init c =
    posted_first c.args.m.now c.args.s c.args.a c.args.i c.args.out.now

pub post_row-n-requires : goal.post_row-n-requires
post_row-n-requires c =
    let e = c.word_at-size.ensures in
    let h = c.loop-j-test.true in
    (c.requires.0.holds, small_row c.requires.0 c.loop-j.j _ e h, rw c.loop-j.auto.out (posted_room c.args.m.now c.args.s c.args.a c.args.i c.args.out.now c.loop-j.j _ c.loop-j.invariant (omega arith) c.requires.1))

pub loop-j-preserved : goal.loop-j-preserved
loop-j-preserved c =
    posted_next c.args.m.now c.args.s c.args.a c.args.i c.args.out.now c.loop-j.j c.loop-j.invariant c.post_row-n.ensures

pub returns : goal.returns
returns c =
    let j : c.loop-j.j ≡ c.word_at-size.result = omega arith in
    posted_all c.args.m.now c.args.s c.args.a c.args.i c.args.out.now c.loop-j.j c.loop-j.invariant (j ∙ c.word_at-size.ensures)
