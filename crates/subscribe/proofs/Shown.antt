-- A side's rows from the best price on, but for the dead ones, in a lent list of rows. Assumes nothing.
use mathlib.Core.Path.{◌≡◌, refl, sym, ap, ◌∙◌}
use mathlib.Core.List.{List, [], ◌∷◌, map, map-append}
use Prim.Native.Nat.{ℕ, ◌+◌, ◌*◌, ◌≤◌, ◌<◌}
use native.Mathlib.Omega.{arith}
use lib.ListN.{length, length-append, length-map}
use Rattle.orderbook.specs.declared.Side.{Side}
use Rattle.gateway.specs.Limits.{most_levels}
use Rattle.gateway.specs.Depth as D
use Rattle.store.specs.Layout.{cell}
use Rattle.levels.specs.declared.Row.{Row}
use Rattle.levels.specs.Levels as L
use Rattle.levels.specs.Listed.{nth, firsts}
use Rattle.levels.proofs.Filled.{firsts_none, firsts_skip, firsts_more}
use Rattle.rows.specs.Rows.{put_row, put_rows}
use Rattle.rows.proofs.Laws.{rows_one, rows_append}
use Rattle.sound.specs.Sound.{State}
use Rattle.sound.proofs.Listed.{side_table, firsts_are, firsts_below}
use Rattle.outcome.specs.Parts.{rest_of}
use Rattle.depth.specs.Levels.{side_levels}

pub row_small : {xs : List ℕ} → State xs → (z : Side) {n k : ℕ} → n ≡ L.used z (cell xs) → k < n → k < most_levels
row_small st z e l = omega (arith, (side_table st z).few)

-- the levels of the first i rows are rows of w bytes, as f makes them, from place a on; place j is the next
pub record Shown (w a : ℕ) (f : D.Level → List ℕ) (z : Side) (xs out : List ℕ) (i j : ℕ) (end : List ℕ) : Type 0 where
  pub rows : end ≡ put_rows w a (map f (firsts z (cell xs) i)) out
  pub next_is : j ≡ a + length (firsts z (cell xs) i)
  pub long : length end ≡ length out

pub shown_none : (w a : ℕ) (f : D.Level → List ℕ) (z : Side) (xs out : List ℕ) → Shown w a f z xs out 0 a out
unfolding put_rows
shown_none w a f z xs out =
    let e = firsts_none z (cell xs) in
    record { rows = sym (ap (λ ls. put_rows w a (map f ls) out) e); next_is = omega (arith, ap length e); long = refl }

module _ {w a : ℕ} {f : D.Level → List ℕ} {z : Side} {xs out : List ℕ} {i j : ℕ} {mid : List ℕ} (s : Shown w a f z xs out i j mid) {n : ℕ} (n_is : n ≡ L.used z (cell xs)) where
  module _ (h : i < n) {p : ℕ} (p_is : p ≡ nth z n i) {r : Row} (r_is : r ≡ L.row z (cell xs) p) where
    pub shown_skip : r.orders ≡ 0 → Shown w a f z xs out (i + 1) j mid
    shown_skip d =
        let e = firsts_skip z (cell xs) i n p r n_is h p_is r_is d in
        record { rows = s.rows ∙ ap (λ ls. put_rows w a (map f ls) out) (sym e); next_is = omega (arith, s.next_is, ap length e); long = s.long }

    module _ (d : r.orders ≡ 0 → ⊥) where
      -- its place is one of those of the side's levels
      pub shown_below : State xs → j < a + length (side_levels z (rest_of xs))
      shown_below st = omega (arith, s.next_is, firsts_below st.sound z i n p r n_is h p_is r_is d)

      pub shown_more : {end : List ℕ} → end ≡ put_row mid (w * j) (f (L.level r)) → length end ≡ length mid → Shown w a f z xs out (i + 1) (j + 1) end
      shown_more {end} e g =
          let ls = firsts z (cell xs) i in
          let rs = map f ls in
          let x = f (L.level r) in
          let m = firsts_more z (cell xs) i n p r n_is h p_is r_is d in
          let k : a + length rs ≡ j = omega (arith, s.next_is, length-map ls f) in
          record {
            rows =
                e ∙ sym (rows_one w j x mid) ∙ ap (put_rows w j (x ∷ [])) s.rows ∙ ap (λ y. put_rows w y (x ∷ []) (put_rows w a rs out)) (sym k)
                ∙ sym (rows_append w a rs (x ∷ []) out) ∙ ap (λ us. put_rows w a us out) (sym (ap (map f) m ∙ map-append f ls (L.level r ∷ [])));
            next_is = omega (arith, s.next_is, ap length m, length-append ls (L.level r ∷ []));
            long = g ∙ s.long;
          }

  pub shown_all : State xs → i ≤ n → n ≤ i → (mid ≡ put_rows w a (map f (side_levels z (rest_of xs))) out) × (j ≡ a + length (side_levels z (rest_of xs)))
  shown_all st h l =
      let e = firsts_are st.sound z i (omega (arith, n_is)) in
      (s.rows ∙ ap (λ ls. put_rows w a (map f ls) out) e, omega (arith, s.next_is, ap length e))
