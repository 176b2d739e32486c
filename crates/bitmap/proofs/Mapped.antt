-- What keeps a map. Assumes nothing.
use mathlib.Core.Path.{◌≡◌, sym, ap, ◌∙◌}
use mathlib.Core.Logic.{⊎_elim}
use Prim.Native.Nat.{ℕ, ◌<◌}
use Rattle.table.proofs.Live.{same?}
use Rattle.store.specs.View.{Store}
use Rattle.bitmap.specs.Bitmap.{bit, Mapped}

module _ (b n : ℕ) (s t : Store) {f g : ℕ → ℕ} where
  -- the same bits, and the same rows taken
  pub mapped_ext : ((j : ℕ) → j < n → bit b t j ≡ bit b s j) → ((j : ℕ) → j < n → g j ≡ f j) → Mapped b n s f → Mapped b n t g
  mapped_ext e k m = record { bits = λ j h. e j h ∙ m.bits j h ∙ sym (k j h) }

  -- but for one row, and its bit
  pub mapped_one : (i : ℕ) → bit b t i ≡ g i → ((j : ℕ) → j < n → (j ≡ i → ⊥) → bit b t j ≡ bit b s j) → ((j : ℕ) → j < n → (j ≡ i → ⊥) → g j ≡ f j) → Mapped b n s f → Mapped b n t g
  mapped_one i here e k m =
      record { bits = λ j h. ⊎_elim (λ (q : j ≡ i). ap (bit b t) q ∙ here ∙ ap g (sym q)) (λ q. e j h q ∙ m.bits j h ∙ sym (k j h q)) (same? j i) }
