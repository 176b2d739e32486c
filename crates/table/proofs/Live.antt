-- The live rows of a table: a row added, changed, struck out, looked up, and the dead ones squeezed out.
-- Assumes nothing.
use Rattle.std.specs.Prelude.{Some, None}
use mathlib.Core.Path.{◌≡◌, refl, sym, ap, ap₂, ◌∙◌}
use mathlib.Core.Logic.{◌⊎◌, inl, inr, ⊎_elim}
use mathlib.Core.List.{List, [], ◌∷◌, ◌++◌, append-nil, append_assoc}
use Prim.Native.Nat.{ℕ, zero, suc, ◌+◌, ◌-◌, ◌≤◌, ◌<◌}
use native.Mathlib.Nat.{eq-or-lt_of_le, add-zero, add-suc, not-suc-le-zero}
use native.Mathlib.Numerals.{add-one}
use native.Mathlib.Omega.{arith}
use lib.ListN.{length, length-append}
use Rattle.le.proofs.Laws.{lt_or_le}
use Rattle.table.specs.Live.{pick, Each, Gap, Changed, live, without, look, insert, replace, Ascends}
use Rattle.table.proofs.Lists.{each_append, each_pick, look_here, look_nowhere, Swap, swap_sym, swap_same, swap_behind, swap_length, swap_without, swap_insert, swap_replace}

pub same? : (i j : ℕ) → (i ≡ j) ⊎ (i ≡ j → ⊥)
same? i j =
    ⊎_elim
    (λ (h : i < j). inr (λ e. omega arith))
    (λ (h : j ≤ i). ⊎_elim (λ e. inl (sym e)) (λ l. inr (λ e. omega arith)) (eq-or-lt_of_le h))
    (lt_or_le i j)

module _ {A : Type 0} where
  pick_live : (m : ℕ) (r : A) → 0 < m → pick m r ≡ r ∷ []
  pick_live zero r h = absurd (not-suc-le-zero h)
  pick_live (suc m) r h = refl

  pick_dead : (m : ℕ) (r : A) → m ≡ 0 → pick m r ≡ []
  pick_dead m r h = rw h

module _ {A : Type 0} (mark : A → ℕ) where
  pub live_ext : (f g : ℕ → A) (n : ℕ) → ((j : ℕ) → j < n → g j ≡ f j) → live mark g n ≡ live mark f n
  unfolding live
  live_ext f g zero h = refl
  live_ext f g (suc n) h =
      ap₂ (λ (a b : List A). a ++ b) (live_ext f g n (λ j l. h j (omega arith))) (ap (λ (r : A). pick (mark r) r) (h n (omega arith)))

  -- one row more, at the end
  pub live_more : (f : ℕ → A) (n : ℕ) → 0 < mark (f n) → live mark f (n + 1) ≡ live mark f n ++ (f n ∷ [])
  unfolding live
  live_more f n h = rw (add-one n) (ap (λ (x : List A). live mark f n ++ x) (pick_live (mark (f n)) (f n) h))

  pub live_dead : (f : ℕ → A) (n : ℕ) → mark (f n) ≡ 0 → live mark f (n + 1) ≡ live mark f n
  unfolding live
  live_dead f n h = rw (add-one n) (ap (λ (x : List A). live mark f n ++ x) (pick_dead (mark (f n)) (f n) h) ∙ append-nil (live mark f n))

  -- the first i rows and those behind them
  pub live_add : (f : ℕ → A) (i m : ℕ) → live mark f (i + m) ≡ live mark f i ++ live mark (λ j. f (i + j)) m
  unfolding live
  live_add f i zero = rw add-zero (sym (append-nil (live mark f i)))
  live_add f i (suc m) =
      rw (add-suc i m)
      (ap (λ (x : List A). x ++ pick (mark (f (i + m))) (f (i + m))) (live_add f i m)
      ∙ append_assoc (live mark f i) (live mark (λ j. f (i + j)) m) (pick (mark (f (i + m))) (f (i + m))))

  pub each_live : (P : A → Type 0) (f : ℕ → A) (n : ℕ) → ((j : ℕ) → j < n → 0 < mark (f j) → P (f j)) → Each P (live mark f n)
  unfolding live
  each_live P f zero h = tt
  each_live P f (suc n) h =
      each_append P (live mark f n) (pick (mark (f n)) (f n))
      (each_live P f n (λ j l. h j (omega arith)))
      (each_pick P (mark (f n)) (f n) (h n (omega arith)))

  -- the row i between those before and those behind it
  split : (f : ℕ → A) (i n : ℕ) → i < n → live mark f n ≡ live mark f i ++ (pick (mark (f i)) (f i) ++ live mark (λ j. f (i + 1 + j)) (n - (i + 1)))
  unfolding live
  split f i n h =
      let e : n ≡ i + 1 + (n - (i + 1)) = omega arith in
      ap (live mark f) e
      ∙ live_add f (i + 1) (n - (i + 1))
      ∙ ap (λ (k : ℕ). live mark f k ++ live mark (λ j. f (i + 1 + j)) (n - (i + 1))) (add-one i)
      ∙ append_assoc (live mark f i) (pick (mark (f i)) (f i)) (live mark (λ j. f (i + 1 + j)) (n - (i + 1)))

  split_at : (f : ℕ → A) (i n : ℕ) → i ≤ n → live mark f n ≡ live mark f i ++ live mark (λ j. f (i + j)) (n - i)
  split_at f i n h = let e : n ≡ i + (n - i) = omega arith in ap (live mark f) e ∙ live_add f i (n - i)

  -- ---- how many there are

  pub live_few : (f : ℕ → A) (n : ℕ) → length (live mark f n) ≤ n
  unfolding live
  live_few f zero = omega arith
  live_few f (suc n) =
      omega (arith, live_few f n, length-append (live mark f n) (pick (mark (f n)) (f n)), pick_few (mark (f n)) (f n))
    where
      pick_few : (m : ℕ) (r : A) → length (pick m r) ≤ 1
      pick_few zero r = omega arith
      pick_few (suc m) r = omega arith

  pub live_all : (f : ℕ → A) (n : ℕ) → ((j : ℕ) → j < n → 0 < mark (f j)) → length (live mark f n) ≡ n
  unfolding live
  live_all f zero h = refl
  live_all f (suc n) h =
      ap length (rw (add-one n) at (live_more f n (h n (omega arith))))
      ∙ length-append (live mark f n) (f n ∷ []) ∙ add-one (length (live mark f n)) ∙ ap suc (live_all f n (λ j l. h j (omega arith)))

  pub live_some : (f : ℕ → A) (i n : ℕ) → i < n → 0 < mark (f i) → 0 < length (live mark f n)
  live_some f i n h m =
      let e = ap length (split f i n h) in
      let a = length-append (live mark f i) (pick (mark (f i)) (f i) ++ live mark (λ j. f (i + 1 + j)) (n - (i + 1))) in
      let b = length-append (pick (mark (f i)) (f i)) (live mark (λ j. f (i + 1 + j)) (n - (i + 1))) in
      omega (arith, e, a, b, ap length (pick_live (mark (f i)) (f i) m))

module _ {A : Type 0} (mark key : A → ℕ) where
  pub gap_swap : {f g : ℕ → A} {n i : ℕ} → Gap f g n i → Ascends key g (n + 1)
      → Swap key (key (g i)) [] (pick (mark (g i)) (g i)) (live mark f n) (live mark g (n + 1))
  gap_swap {f} {g} {n} {i} p s =
      let h : i ≤ n = p.inside in
      let e : n ≡ i + (n - i) = omega arith in
      let e' : n + 1 - (i + 1) ≡ n - i = omega arith in
      record {
        low = live mark f i;
        high = live mark (λ j. f (i + j)) (n - i);
        from = ap (live mark f) e ∙ live_add mark f i (n - i);
        to =
            split mark g i (n + 1) (omega arith)
            ∙ ap₂ (λ (a b : List A). a ++ (pick (mark (g i)) (g i) ++ b))
            (live_ext mark f g i p.before)
            (ap (live mark (λ j. g (i + 1 + j))) e'
            ∙ live_ext mark (λ j. f (i + j)) (λ j. g (i + 1 + j)) (n - i)
            (λ j l. let q : i + 1 + j ≡ i + j + 1 = omega arith in ap g q ∙ p.behind (i + j) (omega arith) (omega arith)));
        less = each_live mark (λ r. key r < key (g i)) f i (λ j l m. rw (← p.before j l) (s j i l (omega arith)));
        more =
            each_live mark (λ r. key (g i) < key r) (λ j. f (i + j)) (n - i)
            (λ j l m. rw (← p.behind (i + j) (omega arith) (omega arith)) (s i (i + j + 1) (omega arith) (omega arith)));
      }

  pub change_swap : {f g : ℕ → A} {n i : ℕ} → Changed f g n i → Ascends key f n
      → Swap key (key (f i)) (pick (mark (f i)) (f i)) (pick (mark (g i)) (g i)) (live mark f n) (live mark g n)
  change_swap {f} {g} {n} {i} p s =
      let h : i < n = p.inside in
      record {
        low = live mark f i;
        high = live mark (λ j. f (i + 1 + j)) (n - (i + 1));
        from = split mark f i n h;
        to =
            split mark g i n h
            ∙ ap₂ (λ (a b : List A). a ++ (pick (mark (g i)) (g i) ++ b))
            (live_ext mark f g i (λ j l. p.other j (omega arith) (λ e. omega arith)))
            (live_ext mark (λ j. f (i + 1 + j)) (λ j. g (i + 1 + j)) (n - (i + 1)) (λ j l. p.other (i + 1 + j) (omega arith) (λ e. omega arith)));
        less = each_live mark (λ r. key r < key (f i)) f i (λ j l m. s j i l h);
        more =
            each_live mark (λ r. key (f i) < key r) (λ j. f (i + 1 + j)) (n - (i + 1)) (λ j l m. s i (i + 1 + j) (omega arith) (omega arith));
      }

  -- ---- a row put in, taken out, changed

  pub live_insert : {f g : ℕ → A} {n i : ℕ} → Gap f g n i → Ascends key g (n + 1) → 0 < mark (g i) → live mark g (n + 1) ≡ insert key (g i) (live mark f n)
  live_insert {f} {g} {n} {i} p s m = swap_insert key (g i) (rw (pick_live (mark (g i)) (g i) m) at (gap_swap p s))

  pub live_close : {f g : ℕ → A} {n i : ℕ} → Gap f g n i → Ascends key g (n + 1) → live mark f n ≡ without key (key (g i)) (live mark g (n + 1))
  live_close {f} {g} {n} {i} p s =
      swap_without key (swap_sym key (gap_swap p s)) (each_pick (λ r. key r ≡ key (g i)) (mark (g i)) (g i) (λ h. refl))

  module _ {f g : ℕ → A} {n i : ℕ} (p : Changed f g n i) (s : Ascends key f n) where
    pub live_strike : mark (g i) ≡ 0 → live mark g n ≡ without key (key (f i)) (live mark f n)
    live_strike d =
        swap_without key (rw (pick_dead (mark (g i)) (g i) d) at (change_swap p s)) (each_pick (λ r. key r ≡ key (f i)) (mark (f i)) (f i) (λ h. refl))

    pub live_struck : 0 < mark (f i) → mark (g i) ≡ 0 → length (live mark g n) + 1 ≡ length (live mark f n)
    live_struck a d =
        let e = swap_length key (rw (pick_live (mark (f i)) (f i) a, pick_dead (mark (g i)) (g i) d) at (change_swap p s)) in omega (arith, e)

    pub live_replace : key (g i) ≡ key (f i) → 0 < mark (f i) → 0 < mark (g i) → live mark g n ≡ replace key (g i) (live mark f n)
    live_replace e a b =
        swap_replace key (f i) (g i) (sym e)
        (rw (pick_live (mark (f i)) (f i) a, pick_live (mark (g i)) (g i) b, ← e) at (change_swap p s))

    pub live_revive : key (g i) ≡ key (f i) → mark (f i) ≡ 0 → 0 < mark (g i) → live mark g n ≡ insert key (g i) (live mark f n)
    live_revive e a b =
        swap_insert key (g i) (rw (pick_dead (mark (f i)) (f i) a, pick_live (mark (g i)) (g i) b, ← e) at (change_swap p s))

  -- ---- a row put in over a dead one

  -- the rows from i on have moved up, to the dead row d
  module _ {f g : ℕ → A} {n d i : ℕ} (p : Gap f g d i) (h : d < n) (dead : mark (f d) ≡ 0) (same : (j : ℕ) → d < j → j < n → g j ≡ f j) where
    pub live_over : Ascends key g n → 0 < mark (g i) → live mark g n ≡ insert key (g i) (live mark f n)
    live_over s m =
        split_at mark g (d + 1) n (omega arith)
        ∙ ap (λ (l : List A). live mark g (d + 1) ++ l) tails
        ∙ swap_insert key (g i)
        (swap_behind key (live mark (λ j. f (d + 1 + j)) (n - (d + 1)))
        (rw (pick_live (mark (g i)) (g i) m) at (gap_swap p (λ a b u v. s a b u (omega arith))))
        (each_live mark (λ r. key (g i) < key r) (λ j. f (d + 1 + j)) (n - (d + 1))
        (λ j l q. rw (← same (d + 1 + j) (omega arith) (omega arith)) (s i (d + 1 + j) (omega (arith, p.inside)) (omega arith)))))
        ∙ ap (insert key (g i)) (sym (split_at mark f (d + 1) n (omega arith) ∙ ap (λ (l : List A). l ++ live mark (λ j. f (d + 1 + j)) (n - (d + 1))) (live_dead mark f d dead)))
      where
        tails : live mark (λ j. g (d + 1 + j)) (n - (d + 1)) ≡ live mark (λ j. f (d + 1 + j)) (n - (d + 1))
        tails = live_ext mark (λ j. f (d + 1 + j)) (λ j. g (d + 1 + j)) (n - (d + 1)) (λ j l. same (d + 1 + j) (omega arith) (omega arith))

  -- the rows up to i have moved down, from behind the dead row e, and i is the new one
  module _ {f g : ℕ → A} {n i e : ℕ} (p : Gap g f i e) (h : i < n) (dead : mark (f e) ≡ 0) (same : (j : ℕ) → i < j → j < n → g j ≡ f j) where
    pub live_under : Ascends key f n → Ascends key g n → 0 < mark (g i) → live mark g n ≡ insert key (g i) (live mark f n)
    live_under r s m =
        split_at mark g (i + 1) n (omega arith)
        ∙ ap₂ (λ (a b : List A). a ++ b) (live_more mark g i m) tails
        ∙ swap_insert key (g i)
        (record {
          low = live mark g i;
          high = live mark (λ j. f (i + 1 + j)) (n - (i + 1));
          from = refl;
          to = append_assoc (live mark g i) (g i ∷ []) (live mark (λ j. f (i + 1 + j)) (n - (i + 1)));
          less = each_live mark (λ r. key r < key (g i)) g i (λ j l q. s j i l h);
          more =
              each_live mark (λ r. key (g i) < key r) (λ j. f (i + 1 + j)) (n - (i + 1))
              (λ j l q. rw (← same (i + 1 + j) (omega arith) (omega arith)) (s i (i + 1 + j) (omega arith) (omega arith)));
        })
        ∙ ap (insert key (g i)) (sym (split_at mark f (i + 1) n (omega arith) ∙ ap (λ (l : List A). l ++ live mark (λ j. f (i + 1 + j)) (n - (i + 1))) heads))
      where
        tails : live mark (λ j. g (i + 1 + j)) (n - (i + 1)) ≡ live mark (λ j. f (i + 1 + j)) (n - (i + 1))
        tails = live_ext mark (λ j. f (i + 1 + j)) (λ j. g (i + 1 + j)) (n - (i + 1)) (λ j l. same (i + 1 + j) (omega arith) (omega arith))

        heads : live mark f (i + 1) ≡ live mark g i
        heads = swap_same key (rw (pick_dead (mark (f e)) (f e) dead) at (gap_swap p (λ a b u v. r a b u (omega arith))))

  -- ---- a row looked up

  pub look_some : (f : ℕ → A) (k i n : ℕ) → Ascends key f n → i < n → key (f i) ≡ k → 0 < mark (f i) → look key k (live mark f n) ≡ Some (f i)
  look_some f k i n s h e m =
      ap (look key k) (split mark f i n h)
      ∙ rw (pick_live (mark (f i)) (f i) m)
      (look_here key k (live mark f i) (f i) (live mark (λ j. f (i + 1 + j)) (n - (i + 1)))
      (each_live mark (λ r. key r ≡ k → ⊥) f i (λ j l a q. omega (arith, s j i l h))) e)

  pub look_none : (f : ℕ → A) (k n : ℕ) → ((j : ℕ) → j < n → key (f j) ≡ k → mark (f j) ≡ 0) → look key k (live mark f n) ≡ None
  look_none f k n h = look_nowhere key k (live mark f n) (each_live mark (λ r. key r ≡ k → ⊥) f n (λ j l a q. omega (arith, h j l q)))

module _ {A : Type 0} (key : A → ℕ) where
  -- ---- the keys ascend

  pub ascends_ext : (f g : ℕ → A) (n : ℕ) → ((j : ℕ) → j < n → key (g j) ≡ key (f j)) → Ascends key f n → Ascends key g n
  ascends_ext f g n e s = λ i j h l. rw (e i (omega arith), e j l) (s i j h l)

  pub ascends_change : {f g : ℕ → A} {n i : ℕ} → Changed f g n i → key (g i) ≡ key (f i) → Ascends key f n → Ascends key g n
  ascends_change {f} {g} {n} {i} p e =
      ascends_ext f g n (λ j l. ⊎_elim (λ (q : j ≡ i). rw q e) (λ q. ap key (p.other j l q)) (same? j i))

  pub ascends_close : {f g : ℕ → A} {n i : ℕ} → Gap f g n i → Ascends key g (n + 1) → Ascends key f n
  ascends_close {f} {g} {n} {i} p s = λ a b h l.
      ⊎_elim
      (λ (q : b < i). rw (← p.before a (omega arith), ← p.before b q) (s a b h (omega arith)))
      (λ (q : i ≤ b).
      rw (← p.behind b q l)
      (⊎_elim
      (λ (r : a < i). rw (← p.before a r) (s a (b + 1) (omega arith) (omega arith)))
      (λ (r : i ≤ a). rw (← p.behind a r (omega arith)) (s (a + 1) (b + 1) (omega arith) (omega arith)))
      (lt_or_le a i)))
      (lt_or_le b i)

  pub ascends_open : {f g : ℕ → A} {n i : ℕ} → Gap f g n i → Ascends key f n → ((j : ℕ) → j < i → key (f j) < key (g i)) → ((j : ℕ) → i ≤ j → j < n → key (g i) < key (f j))
      → Ascends key g (n + 1)
  ascends_open {f} {g} {n} {i} p s lo hi = λ a b h l.
      ⊎_elim
      (λ (q : b < i). rw (p.before a (omega arith), p.before b q) (s a b h (omega arith)))
      (λ (q : i ≤ b).
      ⊎_elim
      (λ (e : i ≡ b). rw (← e, p.before a (omega arith)) (lo a (omega arith)))
      (λ (r : i < b).
      let c : ℕ = b - 1 in
      let e : b ≡ c + 1 = omega arith in
      rw (e, p.behind c (omega arith) (omega arith))
      (⊎_elim
      (λ (t : a < i). rw (p.before a t) (s a c (omega arith) (omega arith)))
      (λ (t : i ≤ a).
      ⊎_elim
      (λ (e : i ≡ a). rw (← e) (hi c (omega arith) (omega arith)))
      (λ (t : i < a).
      let d : ℕ = a - 1 in
      let e : a ≡ d + 1 = omega arith in
      rw (e, p.behind d (omega arith) (omega arith)) (s d c (omega arith) (omega arith)))
      (eq-or-lt_of_le t))
      (lt_or_le a i)))
      (eq-or-lt_of_le q))
      (lt_or_le b i)

  -- the first m rows ascend, those behind them are those of f, and are above them
  pub ascends_join : (f g : ℕ → A) (m n : ℕ) → Ascends key g m → Ascends key f n → ((j : ℕ) → m ≤ j → j < n → g j ≡ f j)
      → ((i j : ℕ) → i < m → m ≤ j → j < n → key (g i) < key (f j)) → Ascends key g n
  ascends_join f g m n a b same cross = λ i j h l.
      ⊎_elim
      (λ (q : j < m). a i j h q)
      (λ (q : m ≤ j).
      rw (same j q l)
      (⊎_elim (λ (r : i < m). cross i j r q l) (λ (r : m ≤ i). rw (same i r (omega arith)) (b i j h l)) (lt_or_le i m)))
      (lt_or_le j m)

  pub gap_end : (f g : ℕ → A) (n : ℕ) → ((j : ℕ) → j < n → g j ≡ f j) → Gap f g n n
  gap_end f g n h = record { inside = omega arith; before = h; behind = λ j a b. absurd (omega arith) }
