-- What the tests of the checked loads and stores show.
-- Assumes nothing.
use mathlib.Core.Path.{◌≡◌, refl}
use mathlib.Core.Bool.{Bool, true, false, ◌&&◌, false≢true}
use Prim.Native.Nat.{ℕ, ◌+◌}
use lib.Dec.{leb}
use borrow.Author.Tests.{ne_eqb, eqb-true, leb-true}
use Rattle.le.specs.Checked.{is_width, inside, Place}

-- a width that is none of the others is 1
pub width_one : {w : ℕ} → (w ≡ 8 → ⊥) → (w ≡ 4 → ⊥) → (w ≡ 2 → ⊥) → is_width w ≡ true → w ≡ 1
width_one {w} a b c h = eqb-true w 1 (rw (ne_eqb w 8 a, ne_eqb w 4 b, ne_eqb w 2 c) at h)

both : (a b : Bool) → (a && b) ≡ true → (a ≡ true) × (b ≡ true)
both true b h = (refl, h)
both false b h = absurd (false≢true h)

pub place : (n o w : ℕ) → inside n o w ≡ true → Place n o w
unfolding inside
place n o w h =
    let t = both (is_width w) (leb (o + w) n) h in
    record { width = t.0; room = leb-true (o + w) n t.1 }
