use mathlib.Core.Path.{refl, ◌∙◌}
use Prim.Native.Nat.{◌+◌, ◌*◌}
use Rattle.words.proofs.Product.{carried, cut}
use Rattle.words.proofs.wide_mul.Goals as goal

pub returns : goal.returns
returns c =
    carried c.half_mul-3.result c.half_mul.result c.half_mul-2.result c.half_mul-low.result _ refl
    ∙ (λ i. (c.half_mul-3.ensures.0 i * 4294967296 + (c.half_mul.ensures.0 i + c.half_mul-2.ensures.0 i)) * 4294967296 + c.half_mul-low.ensures.0 i)
    ∙ cut c.args.a c.args.b
