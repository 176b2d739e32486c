-- A level's row in its bytes: three words of its four.
use Rattle.std.specs.Prelude.{List, [], ◌∷◌, ℕ, get_or}
use Rattle.le.specs.Row.{gets}
use Rattle.levels.specs.declared.Row.{Row}

abbrev pub widths : List ℕ
widths = 8 ∷ 8 ∷ 8 ∷ []

abbrev pub values : Row → List ℕ
values r = r.key ∷ r.qty ∷ r.orders ∷ []

abbrev pub made : List ℕ → Row
made vs = record { key = get_or vs 0 0; qty = get_or vs 1 0; orders = get_or vs 2 0 }

unfoldable pub read : List ℕ → ℕ → Row
read xs o = made (gets widths xs o)
