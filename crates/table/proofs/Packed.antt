-- The dead rows squeezed out: what is kept, by its places, by its bytes and by its rows.
-- Assumes nothing.
use mathlib.Core.Path.{◌≡◌, refl, sym, ap, ap₂, ◌∙◌}
use mathlib.Core.Logic.{inl, inr, ⊎_elim}
use mathlib.Core.List.{List, [], ◌∷◌, ◌++◌, append-nil, append_assoc, map}
use Prim.Native.Nat.{ℕ, zero, suc, ◌+◌, ◌*◌, ◌≤◌, ◌<◌}
use native.Mathlib.Nat.{not-suc-le-zero}
use native.Mathlib.Omega.{arith}
use lib.ListN.{length, get_or, length-append, length-map, get_or-append}
use lib.Seq.{get_or_at}
use Rattle.le.proofs.Laws.{lt_or_le, outside_refl, outside_trans, outside_wider, same_trans, same_outside, le_outside}
use Rattle.table.specs.Live.{pick, Each, live, alive, kept, Ascends}
use Rattle.table.specs.Table.{mark_at, Moved, Compacted}
use Rattle.table.proofs.Moves.{next, mono, step}
use Rattle.table.proofs.Live.{live_more, live_dead, each_live}

-- ---- by places

each_at : (P : ℕ → Type 0) (l : List ℕ) → Each P l → (j : ℕ) → j < length l → P (get_or l j 0)
each_at P [] e j h = absurd (not-suc-le-zero h)
each_at P (x ∷ l) e zero h = e.0
each_at P (x ∷ l) e (suc j) h = each_at P l e.1 j (omega arith)

Rises : List ℕ → Type 0
Rises l = (i j : ℕ) → i < j → j < length l → get_or l i 0 < get_or l j 0

rises_pick : (l : List ℕ) (m n : ℕ) → Rises l → Each (λ j. j < n) l → Rises (l ++ pick m n)
unfolding Rises
rises_pick l zero n s e = rw (append-nil l) s
rises_pick l (suc m) n s e = λ i j h k.
    let k' : j < length l + 1 = rw (length-append l (n ∷ [])) at k in
    ⊎_elim
    (λ (q : j < length l). rw (get_or-append l (n ∷ []) 0 i (omega arith), get_or-append l (n ∷ []) 0 j q) (s i j h q))
    (λ (q : length l ≤ j).
    let e' : length l ≡ j = omega arith in
    rw (get_or-append l (n ∷ []) 0 i (omega arith), get_or_at l n [] 0 j e') (each_at (λ j. j < n) l e i (omega arith)))
    (lt_or_le j (length l))

kept_below : (ms : ℕ → ℕ) (n : ℕ) → Each (λ j. j < n) (kept ms n)
kept_below ms n = each_live ms (λ j. j < n) (λ j. j) n (λ j l m. l)

kept_rises : (ms : ℕ → ℕ) (n : ℕ) → Rises (kept ms n)
unfolding Rises live
kept_rises ms zero = λ i j h k. absurd (not-suc-le-zero k)
kept_rises ms (suc n) = rises_pick (kept ms n) (ms n) n (kept_rises ms n) (kept_below ms n)

-- ---- by bytes

pub compacted_none : (base s mark : ℕ) (xs : List ℕ) → Compacted base s mark 0 0 xs xs
unfolding live
compacted_none base s mark xs =
    record { fewer = omega arith; count = refl; rows = λ j h. absurd (not-suc-le-zero h); frame = outside_refl base (base + s * 0) xs }

module _ {base s mark i w : ℕ} {xs ys : List ℕ} (c : Compacted base s mark i w xs ys) where
  -- what was not reached yet is as it was
  pub mark_kept : mark_at base s mark ys i ≡ mark_at base s mark xs i
  mark_kept = le_outside 1 (base + s * i + mark) c.frame (inr (omega (arith, mono s c.fewer)))

  pub compacted_dead : mark_at base s mark ys i ≡ 0 → Compacted base s mark (i + 1) w xs ys
  compacted_dead d =
      let e : kept (mark_at base s mark xs) (i + 1) ≡ kept (mark_at base s mark xs) i = live_dead (mark_at base s mark xs) (λ j. j) i (sym mark_kept ∙ d) in
      record { fewer = omega (arith, c.fewer); count = rw e c.count; rows = rw e c.rows; frame = c.frame }

  pub compacted_live : {zs : List ℕ} → 0 < mark_at base s mark ys i → Moved ys zs (base + s * i) (base + s * w) s → Compacted base s mark (i + 1) (w + 1) xs zs
  compacted_live {zs} l m =
      let ms : ℕ → ℕ = mark_at base s mark xs in
      let k : List ℕ = kept ms i in
      let e : kept ms (i + 1) ≡ k ++ (i ∷ []) = live_more ms (λ j. j) i (rw (← mark_kept) l) in
      record {
        fewer = omega (arith, c.fewer);
        count = rw (e, length-append k (i ∷ [])) (omega (arith, c.count));
        rows = λ j q.
            ⊎_elim
            (λ (r : j < w).
            rw (e, get_or-append k (i ∷ []) 0 j (omega (arith, c.count)))
            (same_trans (c.rows j r) (same_outside s (base + s * j) m.frame (inl (omega (arith, step s r))))))
            (λ (r : w ≤ j).
            let jw : j ≡ w = omega arith in
            rw (e, jw, get_or_at k i [] 0 w (sym c.count))
            (same_trans (same_outside s (base + s * i) c.frame (inr (omega (arith, mono s c.fewer)))) m.same))
            (lt_or_le j w);
        frame =
            outside_trans
            (outside_wider base (base + s * (w + 1)) (omega arith) (omega (arith, next s w)) c.frame)
            (outside_wider base (base + s * (w + 1)) (omega arith) (omega (arith, next s w)) m.frame);
      }

-- ---- by rows

-- the rows of g are those of f at the places that are kept
pub record Packed {A : Type 0} (ms : ℕ → ℕ) (f g : ℕ → A) (n w : ℕ) : Type 0 where
  pub count : w ≡ length (kept ms n)
  pub rows : (j : ℕ) → j < w → g j ≡ f (get_or (kept ms n) j 0)

map_append : {A : Type 0} (f : ℕ → A) (l m : List ℕ) → map f (l ++ m) ≡ map f l ++ map f m
map_append f [] m = refl
map_append f (x ∷ l) m = ap (◌∷◌ (f x)) (map_append f l m)

map_pick : {A : Type 0} (f : ℕ → A) (m n : ℕ) → map f (pick m n) ≡ pick m (f n)
map_pick f zero n = refl
map_pick f (suc m) n = refl

module _ {A : Type 0} (mark : A → ℕ) where
  kept_map : (f : ℕ → A) (ms : ℕ → ℕ) (n : ℕ) → ((j : ℕ) → j < n → mark (f j) ≡ ms j) → map f (kept ms n) ≡ live mark f n
  unfolding live
  kept_map f ms zero h = refl
  kept_map f ms (suc n) h =
      map_append f (kept ms n) (pick (ms n) n)
      ∙ ap₂ (λ (a b : List A). a ++ b)
      (kept_map f ms n (λ j l. h j (omega arith)))
      (map_pick f (ms n) n ∙ ap (λ (m : ℕ). pick m (f n)) (sym (h n (omega arith))))

  pub live_front : (g : ℕ → A) (n : ℕ) → live mark g (suc n) ≡ pick (mark (g 0)) (g 0) ++ live mark (λ j. g (suc j)) n
  unfolding live
  live_front g zero = sym (append-nil (pick (mark (g 0)) (g 0)))
  live_front g (suc n) =
      ap (λ (l : List A). l ++ pick (mark (g (suc n))) (g (suc n))) (live_front g n)
      ∙ append_assoc (pick (mark (g 0)) (g 0)) (live mark (λ j. g (suc j)) n) (pick (mark (g (suc n))) (g (suc n)))

  alive_append : (l m : List A) → alive mark (l ++ m) ≡ alive mark l ++ alive mark m
  unfolding alive
  alive_append [] m = refl
  alive_append (r ∷ l) m =
      ap (λ (x : List A). pick (mark r) r ++ x) (alive_append l m) ∙ sym (append_assoc (pick (mark r) r) (alive mark l) (alive mark m))

  alive_pick : (n : ℕ) (r : A) → (n ≡ 0 → mark r ≡ 0) → alive mark (pick n r) ≡ pick (mark r) r
  unfolding alive
  alive_pick zero r h = rw (h refl)
  alive_pick (suc n) r h = append-nil (pick (mark r) r)

rows_map : {A : Type 0} (f g : ℕ → A) (l : List ℕ) → ((j : ℕ) → j < length l → g j ≡ f (get_or l j 0)) → live (λ r. 1) g (length l) ≡ map f l
unfolding live
rows_map f g [] h = refl
rows_map f g (x ∷ l) h =
    live_front (λ r. 1) g (length l)
    ∙ ap₂ (λ (a : _) (b : List _). a ∷ b) (h 0 (omega arith)) (rows_map f (λ j. g (suc j)) l (λ j k. h (suc j) (omega arith)))

-- marks that are 0 where `mark` is keep no row that `mark` does not keep
pub alive_live : {A : Type 0} (mark mark' : A → ℕ) → ((r : A) → mark r ≡ 0 → mark' r ≡ 0) → (f : ℕ → A) (n : ℕ) → alive mark' (live mark f n) ≡ live mark' f n
unfolding live alive
alive_live mark mark' h f zero = refl
alive_live {A} mark mark' h f (suc n) =
    alive_append mark' (live mark f n) (pick (mark (f n)) (f n))
    ∙ ap₂ (λ (a b : List A). a ++ b) (alive_live mark mark' h f n) (alive_pick mark' (mark (f n)) (f n) (h (f n)))

module _ {A : Type 0} {ms : ℕ → ℕ} {f g : ℕ → A} {n w : ℕ} (p : Packed ms f g n w) where
  -- what holds of each row that is kept holds of each row left
  pub packed_each : (P : A → Type 0) → ((j : ℕ) → j < n → 0 < ms j → P (f j)) → (j : ℕ) → j < w → P (g j)
  packed_each P h j l =
      rw (p.rows j l) (each_at (λ j. P (f j)) (kept ms n) (each_live ms (λ j. P (f j)) (λ j. j) n h) j (omega (arith, p.count)))

  pub packed_ascends : (key : A → ℕ) → Ascends key f n → Ascends key g w
  unfolding Rises
  packed_ascends key s = λ i j h l.
      let l' : j < length (kept ms n) = omega (arith, p.count) in
      rw (p.rows i (omega arith), p.rows j l) (s _ _ (kept_rises ms n i j h l') (each_at (λ j. j < n) (kept ms n) (kept_below ms n) j l'))

  module _ (mark : A → ℕ) (e : (j : ℕ) → j < n → mark (f j) ≡ ms j) where
    -- the rows left are the live ones
    pub packed_rows : live (λ r. 1) g w ≡ live mark f n
    packed_rows =
        ap (live (λ r. 1) g) p.count ∙ rows_map f g (kept ms n) (λ j h. p.rows j (omega (arith, p.count))) ∙ kept_map mark f ms n e

    pub packed_count : w ≡ length (live mark f n)
    packed_count = p.count ∙ sym (length-map (kept ms n) f) ∙ ap length (kept_map mark f ms n e)

    pub packed_live : (mark' : A → ℕ) → ((r : A) → mark r ≡ 0 → mark' r ≡ 0) → live mark' g w ≡ live mark' f n
    packed_live mark' h =
        sym (alive_live (λ r. 1) mark' (λ r q. absurd (omega arith)) g w) ∙ ap (alive mark') packed_rows ∙ alive_live mark mark' h f n
