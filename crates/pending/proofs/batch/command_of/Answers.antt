use mathlib.Core.Path.{◌≡◌, refl, ◌∙◌}
use mathlib.Core.Bool.{false}
use Prim.Native.Nat.{ℕ, ◌<◌}
use native.Mathlib.Omega.{arith}
use borrow.Author.Tests.{ne_eqb}
use lib.Dec.{eqb}
use lib.ListN.{get_or}
use Rattle.words.proofs.Int.{read}
use Rattle.pending.proofs.batch.command_of.Goals as goal

pub returns-in-0 : goal.returns-in-0
returns-in-0 c =
    rw (c.in-0.is, c.side_of-side.ensures, read {x = c.to_i64.result} c.to_i64.type_inv ∙ c.to_i64.ensures, c.tif_of.ensures, c.qty_of.ensures) refl

pub returns-in-1 : goal.returns-in-1
returns-in-1 c = rw (c.in-1.is, c.side_of-side.ensures) refl

pub returns-in-2 : goal.returns-in-2
returns-in-2 c = rw c.in-2.is refl

pub returns-in-3 : goal.returns-in-3
returns-in-3 c = rw (c.in-3.is, read {x = c.to_i64-in-3.result} c.to_i64-in-3.type_inv ∙ c.to_i64-in-3.ensures) refl

pub returns-in-4 : goal.returns-in-4
returns-in-4 c =
    rw (c.in-4.is, c.side_of-side.ensures, read {x = c.to_i64-in-4.result} c.to_i64-in-4.type_inv ∙ c.to_i64-in-4.ensures, c.price_of.ensures) refl
