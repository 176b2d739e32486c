-- The change of one row of a table, and keys that rise; the rest of what the tables of the definitions do is in table/specs/Live.antt.
use Rattle.std.specs.Prelude.{ℕ, suc, ◌≤◌, cond, List, [], ◌∷◌, eqb}

module _ {A : Type 0} (key : A → ℕ) where
  -- l with f of each row whose key is k
  unfoldable pub update : ℕ → (A → A) → List A → List A
  update k f [] = []
  update k f (x ∷ l) = cond (eqb (key x) k) (f x) x ∷ update k f l

  -- keys rise from n on
  abbrev pub Rises : ℕ → List A → Type 0
  Rises n [] = Unit {0}
  Rises n (x ∷ l) = (n ≤ key x) × Rises (suc (key x)) l
