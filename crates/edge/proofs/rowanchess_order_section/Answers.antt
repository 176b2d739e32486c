use native.Mathlib.Omega.{arith}
use Rattle.edge.proofs.Sections.{section_fits, section_at}
use Rattle.edge.proofs.rowanchess_order_section.Goals as goal

pub overflow_sub-result : goal.overflow_sub-result
overflow_sub-result c = section_fits c.args.bytes.now (λ i. omega (arith, c.shared_slice_known-1.given i)) _ c.order_section.ensures

pub returns : goal.returns
returns c = section_at c.args.bytes.now (λ i. omega (arith, c.shared_slice_known-1.given i)) _ c.order_section.ensures
