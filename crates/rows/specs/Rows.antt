-- Lists of rows of 8-byte cells in lent bytes.
use Rattle.std.specs.Prelude.{ℕ, ◌+◌, ◌*◌, List, [], ◌∷◌}
use Rattle.le.specs.Le.{put}

-- xs with the numbers of vs in the cells from the byte o on
unfoldable pub put_row : List ℕ → ℕ → List ℕ → List ℕ
put_row xs o [] = xs
put_row xs o (v ∷ vs) = put_row (put 8 xs o v) (o + 8) vs

-- xs with rows in the places from i on, each of w bytes, and nothing else changed
unfoldable pub put_rows : (w i : ℕ) → List (List ℕ) → List ℕ → List ℕ
put_rows w i [] xs = xs
put_rows w i (r ∷ rs) xs = put_rows w (i + 1) rs (put_row xs (w * i) r)
