-- A row's call and a run of them. Assumes nothing.
use Prim.Native.Nat.{ℕ, ◌-◌, ◌≤◌, ◌<◌, suc, zero}
use mathlib.Core.Path.{◌≡◌, sym, subst}
use mathlib.Core.Bool.{Bool, true, false}
use mathlib.Core.List.{List, ◌++◌}
use native.Mathlib.Omega.{arith}
use borrow.Author.Rules.{rules}
use lib.ListN.{take, drop}
use Rattle.gateway.specs.Start.{Started, not_started, started}
use Rattle.opening.specs.Starts.{Starts}
use Rattle.stored.specs.Rows as R
use Rattle.edge.specs.Entering.{Lent}
use Rattle.playing.specs.Steps as S
use Rattle.replaying.specs.Opened.{Opens}
use Rattle.conformance.specs.Played as P

-- ---- a call

module _ (rows row xs ys : List ℕ) (r : Bool) (given got end out : List ℕ) (lent n : ℕ) (e : lent ≡ P.room row) (f : n ≡ R.bytes_at row (R.word_at row 3)) (g : got ≡ R.unanswered row) where
  pub played : S.Takes row (take n rows) xs ys got end (take lent P.fresh) out → R.Tells r (R.Agree row end rows (out ++ drop lent P.fresh)) → P.Played rows row xs ys r
  played h t = made (rw (e, f, g) at h) (rw e at t)
    where
      made : S.Takes row (P.given_of row rows) xs ys (R.unanswered row) end (take (P.room row) P.fresh) out → R.Tells r (R.Agree row end rows (out ++ drop (P.room row) P.fresh)) → P.Played rows row xs ys r
      made h t = record { lands = h.lands; tells = rw (← h.tells, ← h.fills) t }

-- ---- a run

pub plays_lent : (rows : List ℕ) (n : ℕ) (row xs ys : List ℕ) (r : Bool) → P.Plays rows n row xs ys r → Lent ys
plays_lent rows n row xs ys r (P.last p) = p.lands.lent
plays_lent rows n row xs ys r (P.differs p) = p.lands.lent
plays_lent rows n row xs ys r (P.more {n = k} {zs = zs} p q) = plays_lent rows k (R.grow_row row) zs ys r q

-- the loop of `play_run`, which begins where the row was played and m was so left: the last call made is that of `next`, and what it and the calls left give is what the whole gives
record Reached (rows : List ℕ) (n : ℕ) (row xs : List ℕ) (left : ℕ) (next ms : List ℕ) (same : Bool) : Type 0 where
  before : List ℕ
  played : P.Played rows next before ms same
  whole : (ys : List ℕ) (r : Bool) → P.Plays rows left next before ys r → P.Plays rows n row xs ys r

pub record Goes (rows : List ℕ) (n : ℕ) (row m : List ℕ) (same₀ : Bool) (left : ℕ) (next ms : List ℕ) (same : Bool) : Type 0 where
  goes : (xs : List ℕ) → P.Played rows row xs m same₀ → Reached rows n row xs left next ms same

module _ (rows : List ℕ) (n : ℕ) (row m : List ℕ) (same₀ : Bool) where
  pub goes_first : Goes rows n row m same₀ n row m same₀
  goes_first = record { goes = λ xs p. record { before = xs; played = p; whole = λ ys r h. h } }

  module _ (left : ℕ) (next ms : List ℕ) (same : Bool) (g : Goes rows n row m same₀ left next ms same) where
    module _ (next' ms' : List ℕ) (same' : Bool) (l : 0 < left) (s : same ≡ true) (e : next' ≡ R.grow_row next) (p : P.Played rows next' ms ms' same') where
      one_more : (xs ys : List ℕ) (r : Bool) (h : Reached rows n row xs left next ms same) → P.Plays rows (left - 1) next' ms ys r → P.Plays rows left next h.before ys r
      one_more xs ys r h k =
          let q : left ≡ suc (left - 1) = omega arith in
          subst (λ (i : ℕ). P.Plays rows i next h.before ys r) (sym q) (P.more (subst (P.Played rows next h.before ms) s h.played) (subst (λ (z : List ℕ). P.Plays rows (left - 1) z ms ys r) e k))

      on : (xs : List ℕ) → Reached rows n row xs left next ms same → Reached rows n row xs (left - 1) next' ms' same'
      on xs h = record { before = ms; played = p; whole = λ ys r k. h.whole ys r (one_more xs ys r h k) }

      pub goes_on : Goes rows n row m same₀ (left - 1) next' ms' same'
      goes_on = record { goes = λ xs p. on xs (g.goes xs p) }

    module _ (xs : List ℕ) (e : n ≡ R.times row) (p : P.Played rows row xs m same₀) where
      there : Reached rows n row xs left next ms same
      there = g.goes xs p

      all : P.Plays rows left next there.before ms same → P.Plays rows (R.times row) row xs ms same
      all h = subst (λ (k : ℕ). P.Plays rows k row xs ms same) e (there.whole ms same h)

      pub goes_out : left ≤ 0 → P.Plays rows (R.times row) row xs ms same
      goes_out l = let q : left ≡ 0 = omega arith in all (subst (λ (k : ℕ). P.Plays rows k next there.before ms same) (sym q) (P.last there.played))

      pub goes_not : same ≡ false → P.Plays rows (R.times row) row xs ms same
      goes_not s = all (ended left)
        where
          ended : (k : ℕ) → P.Plays rows k next there.before ms same
          ended zero = P.last there.played
          ended (suc k) = subst (P.Plays rows (suc k) next there.before ms) (sym s) (P.differs (subst (P.Played rows next there.before ms) s there.played))

-- ---- a start

start_code : (s : Started) (code : ℕ) (xs ys : List ℕ) → Starts s code xs ys → code ≡ P.code_of s
unfolding Starts
start_code (not_started k) code xs ys h = h.code_is
start_code (started g) code xs ys h = h.is_done.code_is

module _ (row accounts rows xs ys : List ℕ) (code n : ℕ) (r : Bool) (f : n ≡ R.bytes_at row (R.word_at row 3)) where
  pub started_as : Opens row accounts (take n rows) code xs ys → R.Tells r (row ≡ R.put_at (R.unanswered row) 2 code) → P.Started_as row accounts rows xs ys r
  started_as h t = made (rw f at h)
    where
      made : Opens row accounts (P.given_of row rows) code xs ys → P.Started_as row accounts rows xs ys r
      made h =
          let q : code ≡ P.code_of (P.start_of row accounts rows xs) = start_code (P.start_of row accounts rows xs) code xs ys h.opened in
          record { opens = rw (← q) h; tells = rw (← q) t }

module _ (row accounts rows xs ys : List ℕ) (r b : Bool) (e : b ≡ R.is_start row) where
  pub plays_start : b ≡ true → P.Started_as row accounts rows xs ys r → P.PlaysAny row accounts rows xs ys r
  unfolding P.PlaysAny
  plays_start t h = rw (← e, t) h

  pub plays_call : b ≡ false → P.Plays rows (R.times row) row xs ys r → P.PlaysAny row accounts rows xs ys r
  unfolding P.PlaysAny
  plays_call t h = rw (← e, t) h

pub ruleset laws = (rules, played, plays_lent, goes_first, goes_on, goes_out, goes_not, started_as, plays_start, plays_call)
