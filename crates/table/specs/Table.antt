-- A table in a list of bytes: n rows of `stride` bytes from `base` on. A row's key is its first 8 bytes; its mark is one byte of it.
-- Assumes nothing.
use Rattle.std.specs.Prelude.{◌≡◌, ◌⊎◌, List, ℕ, ◌+◌, ◌*◌, ◌-◌, ◌%◌, ◌≤◌, ◌<◌, length, get_or, Option, Some, None}
use Rattle.le.specs.Le.{le, Outside, Same}
use Rattle.table.specs.Live.{Ascends, kept}

abbrev pub key_at : ℕ → ℕ → List ℕ → ℕ → ℕ
key_at base stride xs i = le 8 xs (base + stride * i)

abbrev pub mark_at : ℕ → ℕ → ℕ → List ℕ → ℕ → ℕ
mark_at base stride mark xs i = le 1 xs (base + stride * i + mark)

-- the rows that f reads
abbrev pub rows : {A : Type 0} → (List ℕ → ℕ → A) → ℕ → ℕ → List ℕ → ℕ → A
rows f base stride xs i = f xs (base + stride * i)

-- n rows of whole words stand in xs
pub record Room (base stride n : ℕ) (xs : List ℕ) : Type 0 where
  pub fits : base + stride * n ≤ length xs
  pub wide : 8 ≤ stride
  pub words : stride % 8 ≡ 0

-- and their keys ascend
pub record Sorted (base stride n : ℕ) (xs : List ℕ) : Type 0 where
  pub room : Room base stride n xs
  pub asc : Ascends (λ k. k) (key_at base stride xs) n

-- of n ascending keys, those before lo are below k, and those from hi on are not
pub record Between (ks : ℕ → ℕ) (n k lo hi : ℕ) : Type 0 where
  pub inside : lo ≤ hi
  pub top : hi ≤ n
  pub below : (j : ℕ) → j < lo → ks j < k
  pub above : (j : ℕ) → hi ≤ j → j < n → k ≤ ks j

-- r is the lesser of d and n
pub record Least (d n r : ℕ) : Type 0 where
  pub small : r ≤ n
  pub near : r ≤ d
  pub is : (r ≡ d) ⊎ (r ≡ n)

-- of `many` rows, the last of w from lo on, of the next w, and so on, the first c have keys below k, and the others have not
pub record Counted (ks : ℕ → ℕ) (k lo w many c : ℕ) : Type 0 where
  pub few : c ≤ many
  pub below : (i : ℕ) → i < c → ks (lo + w * i + (w - 1)) < k
  pub above : (i : ℕ) → c ≤ i → i < many → k ≤ ks (lo + w * i + (w - 1))

-- what a search for the key k finds among n rows
abbrev pub Finds : (ℕ → ℕ) → (ℕ → ℕ) → ℕ → ℕ → Option ℕ → Type 0
Finds ks ms n k (Some i) = (i < n) × (ks i ≡ k) × (0 < ms i)
Finds ks ms n k None = (j : ℕ) → j < n → ks j ≡ k → ms j ≡ 0

abbrev pub found : {A : Type 0} → (ℕ → A) → Option ℕ → Option A
found f (Some i) = Some (f i)
found f None = None

-- the n bytes of xs from o on stand in ys from p on, and nothing else has changed
pub record Moved (xs ys : List ℕ) (o p n : ℕ) : Type 0 where
  pub same : Same n xs o ys p
  pub frame : Outside p (p + n) xs ys

-- the rows from i up to n have moved one place up
pub record Opened (base stride n i : ℕ) (xs ys : List ℕ) : Type 0 where
  pub inside : i ≤ n
  pub before : (j : ℕ) → j < i → Same stride xs (base + stride * j) ys (base + stride * j)
  pub behind : (j : ℕ) → i ≤ j → j < n → Same stride xs (base + stride * j) ys (base + stride * (j + 1))
  pub frame : Outside (base + stride * (i + 1)) (base + stride * (n + 1)) xs ys

-- the rows behind i, up to n, have moved one place down
pub record Closed (base stride n i : ℕ) (xs ys : List ℕ) : Type 0 where
  pub inside : i < n
  pub before : (j : ℕ) → j < i → Same stride xs (base + stride * j) ys (base + stride * j)
  pub behind : (j : ℕ) → i ≤ j → j + 1 < n → Same stride xs (base + stride * (j + 1)) ys (base + stride * j)
  pub frame : Outside (base + stride * i) (base + stride * n) xs ys

-- the first w rows are the live ones of the first n
pub record Compacted (base stride mark n w : ℕ) (xs ys : List ℕ) : Type 0 where
  pub fewer : w ≤ n
  pub count : w ≡ length (kept (mark_at base stride mark xs) n)
  pub rows : (j : ℕ) → j < w → Same stride xs (base + stride * get_or (kept (mark_at base stride mark xs) n) j 0) ys (base + stride * j)
  pub frame : Outside base (base + stride * w) xs ys
