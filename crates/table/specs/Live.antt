-- Rows with a key and a mark, over the type of a row. A row whose mark is 0 is dead. All rows live is the mark `λ r. 1`.
-- Assumes nothing.
use Rattle.std.specs.Prelude.{◌≡◌, cond, List, [], ◌∷◌, ◌++◌, ℕ, zero, suc, ◌+◌, ◌≤◌, ◌<◌, eqb, ltb, Option, Some, None}

module _ {A : Type 0} where
  abbrev pub pick : ℕ → A → List A
  pick zero r = []
  pick (suc n) r = r ∷ []

  abbrev pub Each : (A → Type 0) → List A → Type 0
  Each P [] = Unit {0}
  Each P (r ∷ l) = P r × Each P l

  -- g is f with one row more, at i: the rows of f from i up to n stand one place up
  pub record Gap (f g : ℕ → A) (n i : ℕ) : Type 0 where
    pub inside : i ≤ n
    pub before : (j : ℕ) → j < i → g j ≡ f j
    pub behind : (j : ℕ) → i ≤ j → j < n → g (j + 1) ≡ f j

  -- of the first n rows, g has those of f but for the row i
  pub record Changed (f g : ℕ → A) (n i : ℕ) : Type 0 where
    pub inside : i < n
    pub other : (j : ℕ) → j < n → (j ≡ i → ⊥) → g j ≡ f j

module _ {A : Type 0} (mark : A → ℕ) where
  -- the live ones of the rows f 0, .., f (n - 1), in order
  unfoldable pub live : (ℕ → A) → ℕ → List A
  live f zero = []
  live f (suc n) = live f n ++ pick (mark (f n)) (f n)

  -- the live ones of a list
  unfoldable pub alive : List A → List A
  alive [] = []
  alive (r ∷ l) = pick (mark r) r ++ alive l

-- the places of the live rows, whose marks are ms 0, .., ms (n - 1)
abbrev pub kept : (ℕ → ℕ) → ℕ → List ℕ
kept ms n = live ms (λ j. j) n

module _ {A : Type 0} (key : A → ℕ) where
  -- l without the rows whose key is k
  unfoldable pub without : ℕ → List A → List A
  without k [] = []
  without k (r ∷ l) = cond (eqb (key r) k) (without k l) (r ∷ without k l)

  -- the first row of l whose key is k
  unfoldable pub look : ℕ → List A → Option A
  look k [] = None
  look k (r ∷ l) = cond (eqb (key r) k) (Some r) (look k l)

  -- l with r before the first row of a larger key
  unfoldable pub insert : A → List A → List A
  insert r [] = r ∷ []
  insert r (x ∷ l) = cond (ltb (key r) (key x)) (r ∷ x ∷ l) (x ∷ insert r l)

  -- l with r for each row of its key
  unfoldable pub replace : A → List A → List A
  replace r [] = []
  replace r (x ∷ l) = cond (eqb (key x) (key r)) r x ∷ replace r l

  -- the keys of the first n rows ascend
  abbrev pub Ascends : (ℕ → A) → ℕ → Type 0
  Ascends f n = (i j : ℕ) → i < j → j < n → key (f i) < key (f j)
