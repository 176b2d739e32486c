-- What the checked loads and stores answer, refusals included.
-- Assumes nothing.
use Rattle.std.specs.Prelude.{◌≡◌, Bool, true, false, cond, ◌&&◌, ◌||◌, List, ℕ, ◌+◌, ◌^◌, ◌≤◌, length, eqb, leb, ltb, Option, Some, None}
use Rattle.le.specs.Le.{le, put}

-- the widths are 1, 2, 4 and 8
abbrev pub is_width : ℕ → Bool
is_width w = eqb w 8 || (eqb w 4 || (eqb w 2 || eqb w 1))

-- a number of w bytes stands at o, in a slice of n bytes
unfoldable pub inside : ℕ → ℕ → ℕ → Bool
inside n o w = is_width w && leb (o + w) n

-- and v fits it
unfoldable pub takes : ℕ → ℕ → ℕ → ℕ → Bool
takes n o w v = inside n o w && ltb v (256 ^ w)

abbrev pub answer : Bool → ℕ → Option ℕ
answer true v = Some v
answer false v = None

abbrev pub loaded : List ℕ → ℕ → ℕ → Option ℕ
loaded xs o w = answer (inside (length xs) o w) (le w xs o)

abbrev pub stored : List ℕ → ℕ → ℕ → ℕ → List ℕ
stored xs o w v = cond (takes (length xs) o w v) (put w xs o v) xs

-- a width that is loaded and stored, and a place for it
pub record Place (n o w : ℕ) : Type 0 where
  pub width : is_width w ≡ true
  pub room : o + w ≤ n
