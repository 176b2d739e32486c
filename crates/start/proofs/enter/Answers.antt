use native.Mathlib.Omega.{arith}
use Rattle.start.proofs.Begun.{enter_becomes, enter_rows}
use Rattle.start.proofs.enter.Goals as goal

pub returns : goal.returns
returns c =
    let added = c.add_account.ensures in (
      enter_becomes c.requires.0 _ c.requires.1 (omega (arith, c.well_formed)) (omega (arith, c.well_formed)) added.1 added.0,
      added.1,
      enter_rows _ c.args.a added.0,
    )
