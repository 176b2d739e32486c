-- Cases of an optional value, and lists made of lists.
use Rattle.std.specs.Prelude.{Bool, true, false, List, [], ◌∷◌, ◌++◌, Option, Some, None}

module _ {A B : Type 0} where
  -- f of the value, or what stands for none
  abbrev pub option : B → (A → B) → Option A → B
  option z f None = z
  option z f (Some a) = f a

  abbrev pub each : (A → List B) → List A → List B
  each f [] = []
  each f (x ∷ xs) = f x ++ each f xs

module _ {A : Type 0} where
  abbrev pub is_empty : List A → Bool
  is_empty [] = true
  is_empty (x ∷ xs) = false
