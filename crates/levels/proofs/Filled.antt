-- The levels of a side by value: the places filled so far, and all of them. Assumes nothing.
use mathlib.Core.Path.{◌≡◌, refl, sym, ap, ap₂, ◌∙◌}
use mathlib.Core.List.{List, [], ◌∷◌, ◌++◌, map, map-append, append-nil, append_assoc}
use Prim.Native.Nat.{ℕ, zero, suc, ◌+◌, ◌-◌, ◌≤◌, ◌<◌}
use native.Mathlib.Numerals.{add-one}
use native.Mathlib.Omega.{arith}
use lib.ListN.{length, length-append, length-map, get_or, take, drop, set, replicate, length-set}
use lib.Seq.{drop-drop, drop-set-lt, take-suc-set}
use Rattle.orderbook.specs.declared.Side.{Side}
use Rattle.orderbook.specs.declared.Side.TheVariants.{Buy, Sell}
use Rattle.table.specs.Live.{pick, live}
use Rattle.table.proofs.Live.{live_ext, live_more, live_dead, live_add, live_few}
use Rattle.table.proofs.Packed.{live_front}
use Rattle.gateway.specs.Limits.{most_levels}
use Rattle.gateway.specs.Depth as Depth
use Rattle.store.specs.View.{Store}
use Rattle.levels.specs.declared.Row.{Row}
use Rattle.levels.specs.declared.listed.Level.{Level}
use Rattle.levels.proofs.Best.{best_length}
use Rattle.levels.specs.Levels.{orders, row, used, size, entries, level, best}
use Rattle.levels.specs.Listed.{side_of, nth, firsts, level_of, nothing, seen, Lists}

-- ---- the levels by their places

last_bid : (l : List Row) (r : Row) → best Buy (l ++ (r ∷ [])) ≡ level r ∷ best Buy l
last_bid [] r = refl
last_bid (x ∷ l) r = ap (λ m. m ++ (level x ∷ [])) (last_bid l r)

best_asks : (l : List Row) → best Sell l ≡ map level l
best_asks [] = refl
best_asks (r ∷ l) = ap (λ m. level r ∷ m) (best_asks l)

best_pick : (m : ℕ) (l : List Row) (r : Row) → best Buy (l ++ pick m r) ≡ map level (pick m r) ++ best Buy l
best_pick zero l r = ap (best Buy) (append-nil l)
best_pick (suc m) l r = last_bid l r

-- best first, they are the live ones of the rows from the best on
pub best_live : (z : Side) (f : ℕ → Row) (n : ℕ) → best z (live orders f n) ≡ map level (live orders (λ j. f (nth z n j)) n)
unfolding live
best_live Sell f n = best_asks (live orders f n)
best_live Buy f zero = refl
best_live Buy f (suc n) =
    best_pick (f n).orders (live orders f n) (f n)
    ∙ ap (λ l. map level (pick (f n).orders (f n)) ++ l) (best_live Buy f n)
    ∙ sym
    (ap (map level)
    (live_front orders (λ j. f (nth Buy (suc n) j)) n
    ∙ ap₂ (λ (r : Row) (l : List Row). pick r.orders r ++ l) (at (suc n - 1 - 0) n (omega arith))
    (live_ext orders (λ j. f (nth Buy n j)) (λ j. f (nth Buy (suc n) (suc j))) n (λ j h. at (suc n - 1 - suc j) (n - 1 - j) (omega arith))))
    ∙ map-append level (pick (f n).orders (f n)) (live orders (λ j. f (nth Buy n j)) n))
  where
    at : (i j : ℕ) → i ≡ j → f i ≡ f j
    at i j e = ap f e

-- ---- the levels of the first rows

module _ (z : Side) (s : Store) where
  abbrev from_best : ℕ → Row
  from_best j = row z s (nth z (used z s) j)

  pub firsts_none : firsts z s 0 ≡ []
  unfolding firsts live
  firsts_none = refl

  pub firsts_all : firsts z s (used z s) ≡ best z (entries z s)
  unfolding firsts entries
  firsts_all = sym (best_live z (row z s) (used z s))

  firsts_length : (i : ℕ) → length (firsts z s i) ≡ length (live orders from_best i)
  unfolding firsts
  firsts_length i = length-map (live orders from_best i) level

  pub firsts_few : (i : ℕ) → length (firsts z s i) ≤ i
  firsts_few i = omega (arith, firsts_length i, live_few orders from_best i)

  module _ (i n p : ℕ) (r : Row) (n_is : n ≡ used z s) (h : i < n) (p_is : p ≡ nth z n i) (r_is : r ≡ row z s p) where
    row_is : from_best i ≡ r
    row_is = sym (r_is ∙ ap (row z s) p_is ∙ ap (λ k. row z s (nth z k i)) n_is)

    pub firsts_skip : r.orders ≡ 0 → firsts z s (i + 1) ≡ firsts z s i
    unfolding firsts
    firsts_skip d = ap (map level) (live_dead orders from_best i (ap orders row_is ∙ d))

    module _ (d : r.orders ≡ 0 → ⊥) where
      pub firsts_more : firsts z s (i + 1) ≡ firsts z s i ++ (level r ∷ [])
      unfolding firsts
      firsts_more =
          ap (map level) (live_more orders from_best i (omega (arith, d, ap orders row_is)))
          ∙ map-append level (live orders from_best i) (from_best i ∷ []) ∙ ap (λ x. firsts z s i ++ (level x ∷ [])) row_is

      -- it is one of all of them, in its place
      abbrev lasts : List Depth.Level
      lasts = map level (live orders (λ j. from_best (i + 1 + j)) (used z s - (i + 1)))

      between : best z (entries z s) ≡ firsts z s i ++ (level r ∷ lasts)
      unfolding firsts
      between =
          let e : used z s ≡ i + 1 + (used z s - (i + 1)) = omega arith in
          sym firsts_all
          ∙ ap (map level) (ap (live orders from_best) e ∙ live_add orders from_best (i + 1) (used z s - (i + 1)))
          ∙ map-append level (live orders from_best (i + 1)) (live orders (λ j. from_best (i + 1 + j)) (used z s - (i + 1)))
          ∙ ap (λ ls. ls ++ lasts) firsts_more ∙ append_assoc (firsts z s i) (level r ∷ []) lasts

      pub firsts_room : length (firsts z s i) < length (best z (entries z s))
      firsts_room = omega (arith, ap length between, length-append (firsts z s i) (level r ∷ lasts))

      pub firsts_nth : get_or (best z (entries z s)) (length (firsts z s i)) (level r) ≡ level r
      firsts_nth = ap (λ ls. get_or ls (length (firsts z s i)) (level r)) between ∙ behind (firsts z s i) lasts
        where
          behind : (xs ys : List Depth.Level) → get_or (xs ++ (level r ∷ ys)) (length xs) (level r) ≡ level r
          behind [] ys = refl
          behind (x ∷ xs) ys = behind xs ys

-- ---- they stand in l, and zeros behind them

pub record Filled (z : Side) (s : Store) (n i k : ℕ) (l : List Level) : Type 0 where
  pub within : i ≤ n
  pub count : k ≡ length (firsts z s i)
  pub long : length l ≡ most_levels
  pub front : map seen (take k l) ≡ firsts z s i
  pub behind : drop k l ≡ replicate (most_levels - k) nothing

fewer : (l : List Level) (i : ℕ) → i < most_levels → drop i l ≡ replicate (most_levels - i) nothing → drop (i + 1) l ≡ replicate (most_levels - (i + 1)) nothing
fewer l i h e =
    let m : most_levels - i ≡ suc (most_levels - (i + 1)) = omega arith in
    sym (drop-drop 1 i l) ∙ ap (drop 1) (e ∙ ap (λ n. replicate n nothing) m)

module _ (z : Side) (s : Store) (n : ℕ) where
  pub none_filled : Filled z s n 0 0 (replicate most_levels nothing)
  none_filled =
      record { within = omega arith; count = sym (ap length (firsts_none z s)); long = refl; front = sym (firsts_none z s); behind = refl }

  pub filled_few : (i k : ℕ) (l : List Level) → Filled z s n i k l → k ≤ i
  filled_few i k l f = omega (arith, f.count, firsts_few z s i)

  module _ (i k p : ℕ) (l : List Level) (r : Row) (f : Filled z s n i k l) (n_is : n ≡ used z s) (h : i < n) (p_is : p ≡ nth z n i) (r_is : r ≡ row z s p) where
    pub one_skipped : r.orders ≡ 0 → Filled z s n (i + 1) k l
    one_skipped d =
        let e = firsts_skip z s i n p r n_is h p_is r_is d in
        record { within = omega arith; count = f.count ∙ ap length (sym e); long = f.long; front = f.front ∙ sym e; behind = f.behind }

    pub one_filled : (v : Level) → (r.orders ≡ 0 → ⊥) → n ≤ most_levels → v ≡ level_of r → Filled z s n (i + 1) (k + 1) (set l k v)
    one_filled v d w e =
        let m = firsts_more z s i n p r n_is h p_is r_is d in
        let few = filled_few i k l f in
        record {
          within = omega arith;
          count = omega (arith, f.count, ap length m, length-append (firsts z s i) (level r ∷ []));
          long = length-set l k v ∙ f.long;
          front =
              ap (map seen) (ap (λ y. take y (set l k v)) (add-one k) ∙ take-suc-set l k v (omega (arith, f.long, few)))
              ∙ map-append seen (take k l) (v ∷ [])
              ∙ ap₂ (λ (a : List Depth.Level) (x : Level). a ++ (seen x ∷ [])) f.front e ∙ sym m;
          behind = drop-set-lt (k + 1) l k v (omega arith) ∙ fewer l k (omega (arith, few)) f.behind;
        }

  pub all_filled : (i k : ℕ) (l : List Level) → Filled z s n i k l → n ≤ i → n ≡ used z s → size z s ≡ length (entries z s) → Lists z s l
  all_filled i k l f h e c =
      let m : i ≡ used z s = omega (arith, f.within) in
      let b : firsts z s i ≡ best z (entries z s) = ap (firsts z s) m ∙ firsts_all z s in
      let k_is : k ≡ size z s = omega (arith, f.count, c, ap length b, best_length z (entries z s)) in
      record { levels = ap (λ y. map seen (take y l)) (sym k_is) ∙ f.front ∙ b; rest = rw (← k_is) f.behind }

-- ---- both sides

pub both_listed : (s : Store) (b a : List Level) → Lists Buy s b → Lists Sell s a → (z : Side) → Lists z s (side_of (b ∷ a ∷ []) z)
both_listed s b a p q Buy = p
both_listed s b a p q Sell = q
