-- Codes 7 and 5 for the depth after each event, from the invariant. Assumes nothing.
use mathlib.Core.Path.{◌≡◌, ap, ◌∙◌}
use mathlib.Core.Bool.{true}
use mathlib.Core.List.{List}
use Prim.Native.Nat.{ℕ}
use lib.ListN.{length}
use lib.Dec.{leb}
use Rattle.protocol.specs.declared.TradeTick.{TradeTick}
use Rattle.gateway.specs.Basics.{option}
use Rattle.gateway.specs.Limits.{most_changed}
use Rattle.gateway.specs.Depth.{Resting, Depth, Key, key_of, remember, where_resting, filled, levels_fit, depth_few}
use Rattle.gateway.specs.Invariant.{FeedOk}
use Rattle.gateway.proofs.Feed.{Acts, filled_acts}
use Rattle.gateway.proofs.Depths.{After, after, after_few, few_counts, changed_decides, filled_fits}
use Rattle.marketdata.specs.Marketdata.{traded}
use Rattle.shows.specs.Shows.{touched, touched_few, both_few}

module _ (d : Depth) {ts : List TradeTick} {ns : List ℕ} (ok : FeedOk d ts ns) where
  -- an order goes or shows something else: off-acts, filled-acts, modified-acts and shown-acts say so of each event
  pub few_after : (n : ℕ) (f : Resting → Depth → Depth) → Acts f → depth_few (where_resting n f d) ≡ touched_few n d
  few_after n f acts = after_few n d (where_resting n f d) (after n f d ok.ascending acts) ok.few

  module _ (taker maker q tl ml : ℕ) where
    abbrev half : Depth
    half = where_resting maker (filled q ml) d

    first : After maker d half
    first = after maker (filled q ml) d ok.ascending (filled_acts q ml)

    second : After taker half (traded taker maker q tl ml d)
    second = after taker (filled q tl) half first.ascending (filled_acts q tl)

    pub trade_fits : levels_fit (traded taker maker q tl ml d).resting ≡ true
    trade_fits = filled_fits taker half first.ascending (filled_fits maker d ok.ascending ok.fit q ml) q tl

    pub trade_few : (taker ≡ maker → ⊥) → depth_few (traded taker maker q tl ml d) ≡ both_few maker taker d
    trade_few two =
        changed_decides (traded taker maker q tl ml d) (second.counts (first.counts (few_counts d ok.few)))
        ∙ ap (λ (l : List Key). leb (length l) most_changed) (second.changed_is ∙ both)
      where
        both : touched taker half.resting half.changed ≡ touched taker d.resting (touched maker d.resting d.changed)
        both = λ i. option (first.changed_is i) (λ o. remember (key_of o) (first.changed_is i)) (first.others taker two i)
