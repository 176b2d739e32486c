-- The order section goes to the end of a checkpoint's bytes. Assumes nothing.
use Rattle.std.specs.Prelude.{is_some}
use Prim.Native.Nat.{ℕ, ◌+◌, ◌-◌, ◌*◌, ◌≤◌, ◌<◌}
use mathlib.Core.Path.{◌≡◌, refl, sym, ap, ◌∙◌}
use mathlib.Core.Bool.{Bool, true, false}
use mathlib.Core.List.{List}
use native.Mathlib.Omega.{arith}
use lib.ListN.{length, drop, get_or, length-drop}
use lib.Seq.{drop-length}
use Rattle.gateway.specs.Bytes.{decode}
use Rattle.saved.specs.Parts.{orders_start}
use Rattle.saved.specs.Contents.{order_section, Start}
use Rattle.saved.proofs.Decoded.{long}
use Rattle.saved.proofs.Laws.{started, none_there}

module _ (xs : List ℕ) (small : (i : ℕ) → get_or xs i 0 < 256) where
  from : (b : Bool) → b ≡ is_some (decode xs) → (r : ℕ) × Start xs r
  from true e = (orders_start xs, started xs small (sym e) (orders_start xs) refl (omega (arith, long xs (sym e))))
  from false e = (length xs, record { is = drop-length xs ∙ none_there xs false e refl; within = omega arith })

  at : (r : ℕ) × Start xs r
  at = from (is_some (decode xs)) refl

  size : length (order_section xs) ≡ length xs - at.0
  size = ap length (sym at.1.is) ∙ length-drop at.0 xs

  pub section_fits : (s : List ℕ) → s ≡ order_section xs → length s ≤ length xs
  section_fits s e = omega (arith, size, ap length e)

  pub section_at : (s : List ℕ) → s ≡ order_section xs → (length xs - length s ≡ length xs - length (order_section xs)) × (drop (length xs - length s) xs ≡ order_section xs)
  section_at s e =
      let q : length xs - length s ≡ at.0 = omega (arith, size, ap length e, at.1.within) in
      (ap (λ t. length xs - length t) e, ap (λ (n : ℕ). drop n xs) q ∙ at.1.is)
