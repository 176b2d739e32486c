-- The lists of specs/Examples.antt, computed by the checker. Assumes nothing.
use mathlib.Core.Path.{refl}
use Rattle.gateway.specs.Ledger.{order_of, owner_of, changes, pay, paper, change, step, hold, fits, holds_fit}
use Rattle.gateway.specs.Bytes.{well_formed, encode, decode}
use Rattle.gateway.specs.Core.{own_number, owner_below, numbers_agree, names_below, tests}
use Rattle.gateway.specs.Deliver.{reports, tick_of}
use Rattle.gateway.specs.Depth.{add, show, take_off, apply, depth_agrees, levels_fit, levels_few, depth_few}
use Rattle.gateway.specs.Listing.{listing_agrees}
use Rattle.gateway.specs.Saved.{contents}
use Rattle.table.specs.Live.{without, look, insert, replace}
use Rattle.gateway.specs.Table.{update}
use Rattle.words.specs.Words.{place_of}
use Rattle.risk.specs.Throttle.{filled}
use Rattle.risk.specs.Meter.{green}
use Rattle.gateway.specs.Entry.{unless, greet, hear, receive}
use Rattle.gateway.specs.Calls.{within, plan}
use Rattle.gateway.specs.Start.{charging, set_up, restore, start_unless, restore_saved}
use Rattle.gateway.specs.Examples.{Examples}

pub examples : Examples
unfolding well_formed encode decode within plan own_number owner_below numbers_agree names_below tests reports tick_of add show take_off apply depth_agrees levels_fit levels_few depth_few unless greet hear receive order_of owner_of changes pay paper change step hold fits holds_fit listing_agrees contents start_unless charging set_up restore_saved restore without look insert replace update place_of filled green
examples = (refl, (refl, (refl, (refl, (refl, (refl, (refl, (refl, (refl, (refl, (refl, (refl, (refl, tt)))))))))))))
