use Rattle.gateway.specs.Bytes.{order_widths, flags_ok}
use Rattle.saved.proofs.Rising.{passed_first, passed_next, passed_not, passed_last}
use Rattle.saved.proofs.checks.rows_fit.Goals as goal

pub loop-j-init : goal.loop-j-init
loop-j-init c =
    passed_first flags_ok order_widths c.args.xs.now c.args.o c.args.n

pub returns-then-not-order_fits : goal.returns-then-not-order_fits
returns-then-not-order_fits c =
    passed_not flags_ok order_widths c.args.xs.now c.args.o c.args.n c.loop-j.j c.loop-j-test.true c.loop-j.invariant c.order_fits.result c.order_fits.ensures c.if-not-order_fits.true

pub loop-j-preserved : goal.loop-j-preserved
loop-j-preserved c =
    passed_next flags_ok order_widths c.args.xs.now c.args.o c.args.n c.loop-j.j c.loop-j-test.true c.loop-j.invariant c.order_fits.result c.order_fits.ensures c.if-not-order_fits.false

pub returns : goal.returns
returns c =
    passed_last flags_ok order_widths c.args.xs.now c.args.o c.args.n c.loop-j.j c.loop-j-test.false c.loop-j.invariant
