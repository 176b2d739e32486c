-- The levels by value are those of the definitions. Assumes nothing.
use mathlib.Core.Path.{◌≡◌, sym, ap, ◌∙◌}
use mathlib.Core.List.{List, map}
use Prim.Native.Nat.{ℕ, ◌≤◌, ◌<◌}
use native.Mathlib.Omega.{arith}
use lib.ListN.{length, take, get_or}
use Rattle.orderbook.specs.declared.Side.{Side}
use Rattle.gateway.specs.Depth as Depth
use Rattle.gateway.specs.Limits.{most_levels}
use Rattle.store.specs.Layout.{cell}
use Rattle.store.specs.View.{Store, depth}
use Rattle.levels.specs.declared.Row.{Row}
use Rattle.levels.specs.declared.listed.Level.{Level}
use Rattle.levels.specs.Levels.{level, row, used, size, entries, Table}
use Rattle.levels.specs.Listed.{nth, firsts, seen, Lists}
use Rattle.levels.proofs.Best.{best_length}
use Rattle.levels.proofs.Filled.{firsts_all, firsts_room, firsts_nth}
use Rattle.sound.specs.Sound.{Levels, Sound, State}
use Rattle.sound.proofs.Kept.{sided}

pub side_table : {xs : List ℕ} → State xs → (z : Side) → Table z xs
unfolding used
side_table {xs} s z =
    let t = sided (λ z. Levels z (cell xs)) s.sound.tables.bids s.sound.tables.asks z in
    record {
      holds = s.holds;
      few = sided (λ z. used z (cell xs) ≤ most_levels) s.sound.tables.ordered.bounds.bids_fit s.sound.tables.ordered.bounds.asks_fit z;
      asc = t.rising;
      counted = t.counted;
      mapped = t.mapped;
    }

module _ {s : Store} (d : Sound s) (z : Side) where
  levels_are : Levels z s
  levels_are = sided (λ z. Levels z s) d.tables.bids d.tables.asks z

  pub lists_levels : (l : List Level) → Lists z s l → map seen (take (size z s) l) ≡ Depth.levels z (depth s).resting
  lists_levels l p = p.levels ∙ levels_are.are

  pub size_levels : size z s ≡ length (Depth.levels z (depth s).resting)
  size_levels = levels_are.counted ∙ sym (best_length z (entries z s)) ∙ ap length levels_are.are

  -- the levels of all rows are those of the definitions
  pub firsts_are : (n : ℕ) → n ≡ used z s → firsts z s n ≡ Depth.levels z (depth s).resting
  firsts_are n e = ap (firsts z s) e ∙ firsts_all z s ∙ levels_are.are

  -- and one that is not dead is among them
  pub firsts_below : (i n p : ℕ) (r : Row) → n ≡ used z s → i < n → p ≡ nth z n i → r ≡ row z s p → (r.orders ≡ 0 → ⊥) → length (firsts z s i) < length (Depth.levels z (depth s).resting)
  firsts_below i n p r e h q w d = omega (arith, firsts_room z s i n p r e h q w d, ap length levels_are.are)

  pub firsts_at : (i n p : ℕ) (r : Row) → n ≡ used z s → i < n → p ≡ nth z n i → r ≡ row z s p → (r.orders ≡ 0 → ⊥) →
      get_or (Depth.levels z (depth s).resting) (length (firsts z s i)) (level r) ≡ level r
  firsts_at i n p r e h q w d = ap (λ ls. get_or ls (length (firsts z s i)) (level r)) (sym levels_are.are) ∙ firsts_nth z s i n p r e h q w d
