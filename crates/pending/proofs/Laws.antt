-- What the operations write: one law for each, over the stores on the way. Assumes nothing.
use mathlib.Core.Path.{◌≡◌}
use mathlib.Core.List.{List, [], ◌∷◌}
use Prim.Native.Nat.{ℕ, ◌+◌, ◌-◌, ◌%◌, ◌≤◌, ◌<◌}
use native.Mathlib.Omega.{arith}
use Rattle.gateway.specs.Limits.{most_in_flight}
use Rattle.store.specs.Cells as C
use Rattle.store.specs.Layout.{cell, Holds, Set}
use Rattle.store.specs.View.{word, write, fill, Is, Ready}
use Rattle.store.proofs.Places.{header_cell, notice_cell}
use Rattle.store.proofs.Rows.{then_set, is_itself}
use Rattle.pending.specs.Pending as P

pub push_row_is : (xs : List ℕ) {ys zs : List ℕ} (b k : ℕ) (vs : List ℕ) (n : ℕ) → n ≡ word (cell xs) k → k < 32 →
    Is ys (fill b n 0 vs (cell xs)) → Set ys zs C.header 0 k (n + 1) → Is zs (P.push_row b k vs (cell xs))
push_row_is xs b k vs n e l p q = rw (← e) (then_set p (header_cell k l) q)

pub set_word_is : {xs ys : List ℕ} (k v : ℕ) → Holds xs → k < 32 → Set xs ys C.header 0 k v → Is ys (write C.header 0 k v (cell xs))
set_word_is k v h l p = then_set (is_itself h) (header_cell k l) p

module _ {xs : List ℕ} (r : Ready xs) where
  pub notices_is : {ys zs : List ℕ} (a k n : ℕ) → n ≡ word (cell xs) C.notice_rows → Set xs ys C.notices n C.notice_account a → Set ys zs C.header 0 C.notice_rows (n + k) →
      Is zs (P.notices a k (cell xs))
  notices_is a k n e p q =
      rw (← e)
      (then_set (then_set (is_itself r.holds) (notice_cell n C.notice_account (omega (arith, e, r.bounds.notices_fit)) (omega arith)) p) (header_cell C.notice_rows (omega arith)) q)

  pub published_is : {a b c d zs : List ℕ} (v n : ℕ) → v ≡ word (cell xs) C.delivered → n ≡ word (cell xs) C.changed_rows → Is a (P.forget_tops n (cell xs)) →
      Set a b C.header 0 C.trade_rows 0 → Set b c C.header 0 C.notice_rows 0 → Set c d C.header 0 C.changed_rows 0 → Set d zs C.header 0 C.published v →
      Is zs (P.published (cell xs))
  published_is v n e f p p₁ p₂ p₃ p₄ =
      rw (← e, ← f)
      (then_set (then_set (then_set (then_set p (header_cell C.trade_rows (omega arith)) p₁)
      (header_cell C.notice_rows (omega arith)) p₂) (header_cell C.changed_rows (omega arith)) p₃) (header_cell C.published (omega arith)) p₄)

  pub take_off_is : {a b zs : List ℕ} (last flying x y z : ℕ) → last ≡ word (cell xs) C.last → flying ≡ word (cell xs) C.flying →
      Is a (fill C.flights ((last + 1) % most_in_flight) 0 (x ∷ y ∷ z ∷ []) (cell xs)) → Set a b C.header 0 C.last (last + 1) →
      Set b zs C.header 0 C.flying (flying + 1) → Is zs (P.take_off x y z (cell xs))
  take_off_is last flying x y z e g p q s =
      rw (← e, ← g) (then_set (then_set p (header_cell C.last (omega arith)) q) (header_cell C.flying (omega arith)) s)

  pub land_is : {zs : List ℕ} (last n : ℕ) → last ≡ word (cell xs) C.last → n ≤ word (cell xs) C.last → Set xs zs C.header 0 C.flying (last - n + 1) → Is zs (P.land n (cell xs))
  land_is {zs} last n e l p =
      let q : last - n + 1 ≡ word (cell xs) C.last + 1 - n = omega arith in
      then_set (is_itself r.holds) (header_cell C.flying (omega arith)) (rw q at p)

pub ruleset laws = (push_row_is, set_word_is, notices_is, published_is, take_off_is, land_is, arith)
