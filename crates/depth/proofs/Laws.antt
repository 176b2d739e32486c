-- The levels by value in a lent list; and the call. Assumes nothing.
use Rattle.outcome.specs.declared.Refusal.TheVariants.{TooShort}
use Rattle.std.specs.Prelude.{Ok, Err}
use mathlib.Core.Path.{◌≡◌, refl, sym, ap, ◌∙◌}
use mathlib.Core.List.{List, [], ◌∷◌, ◌++◌, map, map-append}
use Prim.Native.Nat.{ℕ, ◌+◌, ◌*◌, ◌/◌, ◌≤◌, ◌<◌}
use native.Mathlib.Numerals.{add-one}
use native.Mathlib.Omega.{arith}
use borrow.Author.Tests.{le-leb, lt-leb}
use lib.ListN.{length, length-map, get_or, take}
use lib.Seq.{take-suc, length-take-le}
use Rattle.orderbook.specs.declared.Side.{Side}
use Rattle.words.specs.Words.{int, modulus}
use Rattle.gateway.specs.Limits.{most_levels}
use Rattle.gateway.specs.Depth as D
use Rattle.gateway.specs.Entry.{unless, levels_are}
use Rattle.gateway.specs.Calls.{call, plan, depth_levels}
use Rattle.store.specs.Layout.{cell}
use Rattle.store.specs.View.{gateway}
use Rattle.levels.specs.declared.listed.Level.{Level}
use Rattle.levels.specs.Levels as L
use Rattle.levels.specs.Listed as B
use Rattle.levels.specs.Listed.{side_of, nothing, seen}
use Rattle.levels.proofs.Laws.{size_few}
use Rattle.rows.specs.Rows.{put_row, put_rows}
use Rattle.rows.proofs.Laws.{rows_one, rows_append}
use Rattle.mailbox.proofs.Rows.{word_is}
use Rattle.sound.specs.Sound.{State}
use Rattle.sound.proofs.Listed.{side_table, size_levels, lists_levels}
use Rattle.outcome.specs.Between.{Between}
use Rattle.outcome.specs.Parts.{rest_of}
use Rattle.outcome.specs.Answers.{Lists, level_row}
use Rattle.outcome.proofs.Calls.{lists_short, lists_done}
use Rattle.depth.specs.Levels.{side_levels}

-- ---- one level

pub side_few : {xs : List ℕ} → State xs → (z : Side) → L.size z (cell xs) ≤ most_levels
side_few st z = let t = side_table st z in omega (arith, size_few z t, t.few)

pub level_put : (out end : List ℕ) (j p : ℕ) (l : Level) → p < modulus → int p ≡ l.price → end ≡ put_row out (24 * j) (p ∷ l.qty ∷ l.orders ∷ []) → end ≡ put_row out (24 * j) (level_row (seen l))
level_put out end j p l f g t = t ∙ ap (λ v. put_row out (24 * j) (v ∷ l.qty ∷ l.orders ∷ [])) (word_is p l.price f g)

-- ---- the levels of a row, one by one

-- the first i of them
pub record Put (row : List Level) (i : ℕ) (out end : List ℕ) : Type 0 where
  pub rows : end ≡ put_rows 24 0 (map level_row (map seen (take i row))) out
  pub long : length end ≡ length out

pub none_put : (row : List Level) (out : List ℕ) → Put row 0 out out
unfolding put_rows
none_put row out = record { rows = refl; long = refl }

pub one_put : (row : List Level) (i : ℕ) (out mid end : List ℕ) → i < length row → Put row i out mid → end ≡ put_row mid (24 * i) (level_row (seen (get_or row i nothing))) → length end ≡ length mid → Put row (i + 1) out end
one_put row i out mid end h p e g =
    let l = get_or row i nothing in
    let rs = map level_row (map seen (take i row)) in
    let x = level_row (seen l) in
    let n : 0 + length rs ≡ i = omega (arith, length-map (map seen (take i row)) level_row, length-map (take i row) seen, length-take-le i row (omega arith)) in
    let m : map level_row (map seen (take (i + 1) row)) ≡ rs ++ (x ∷ []) =
    ap (λ t. map level_row (map seen t)) (ap (λ y. take y row) (add-one i) ∙ take-suc row i nothing h)
    ∙ ap (map level_row) (map-append seen (take i row) (l ∷ [])) ∙ map-append level_row (map seen (take i row)) (seen l ∷ []) in
    record {
      rows =
          e ∙ sym (rows_one 24 i x mid) ∙ ap (put_rows 24 i (x ∷ [])) p.rows ∙ ap (λ y. put_rows 24 y (x ∷ []) (put_rows 24 0 rs out)) (sym n)
          ∙ sym (rows_append 24 0 rs (x ∷ []) out) ∙ ap (λ us. put_rows 24 0 us out) (sym m);
      long = g ∙ p.long;
    }

pub all_put : (row : List Level) (n i : ℕ) (out end : List ℕ) → i ≤ n → n ≤ i → Put row i out end → end ≡ put_rows 24 0 (map level_row (map seen (take n row))) out
all_put row n i out end h l p = let e : i ≡ n = omega arith in p.rows ∙ ap (λ y. put_rows 24 0 (map level_row (map seen (take y row))) out) e

-- ---- the call

module _ (xs out : List ℕ) (z : Side) (n : ℕ) (b : Between xs) (n_is : n ≡ L.size z (cell xs)) where
  abbrev ls : List D.Level
  ls = side_levels z (rest_of xs)

  count : n ≡ length ls
  count = n_is ∙ size_levels b.state.sound z

  pub levels_short : length out / 24 < n → Lists 24 (call (gateway (cell xs)) (depth_levels z (length out / 24))) (Err TooShort) xs xs out out
  unfolding plan unless
  levels_short l = lists_short xs out (depth_levels z (length out / 24)) tt b 24 (rw (lt-leb (length ls) (length out / 24) (omega (arith, count))) refl)

  pub levels_done : (end : List ℕ) (rows : List (List Level)) (row : List Level) → n ≤ length out / 24 → ((y : Side) → B.Lists y (cell xs) (side_of rows y)) → row ≡ side_of rows z →
      end ≡ put_rows 24 0 (map level_row (map seen (take n row))) out →
      Lists 24 (call (gateway (cell xs)) (depth_levels z (length out / 24))) (Ok n) xs xs out end
  unfolding plan unless
  levels_done end rows row l all r_is h =
      let e : map seen (take n row) ≡ ls = ap (λ y. map seen (take y row)) n_is ∙ ap (λ t. map seen (take (L.size z (cell xs)) t)) r_is ∙ lists_levels b.state.sound z (side_of rows z) (all z) in
      lists_done xs out (depth_levels z (length out / 24)) tt b 24 (levels_are ls) (rest_of xs) n (rw (le-leb (length ls) (length out / 24) (omega (arith, count))) refl)
      (count ∙ sym (length-map ls level_row)) (record { state = b.state; gateway_is = refl }) (h ∙ ap (λ ks. put_rows 24 0 (map level_row ks) out) e)

pub ruleset laws = (level_put, levels_short, levels_done, arith)
