-- What an event asks of the depth before it is applied.
use Rattle.std.specs.Prelude.{ℕ, ◌+◌, ◌≤◌, ◌≡◌, Bool, List, leb, length}
use Rattle.gateway.specs.Basics.{option}
use Rattle.gateway.specs.Limits.{most_changed}
use Rattle.gateway.specs.Depth.{Resting, Depth, Key, key_of, find_resting, remember}

-- the changed levels ks with that of the order n, where it rests
abbrev pub touched : ℕ → List Resting → List Key → List Key
touched n os ks = option ks (λ o. remember (key_of o) ks) (find_resting n os)

-- code 5: the changed levels are few once the order n has gone or shows something else
abbrev pub touched_few : ℕ → Depth → Bool
touched_few n d = leb (length (touched n d.resting d.changed)) most_changed

-- and once two have, the maker before the taker
abbrev pub both_few : (maker taker : ℕ) → Depth → Bool
both_few maker taker d = leb (length (touched taker d.resting (touched maker d.resting d.changed))) most_changed

-- ks with k are r more
pub record Adds (k : Key) (ks : List Key) (r : ℕ) : Type 0 where
  pub most : r ≤ 1
  pub count : length (remember k ks) ≡ length ks + r
