-- What the operations write, and what a lookup finds in the bytes. Assumes nothing.
use Rattle.std.specs.Prelude.{Option, Some, None, option_map}
use mathlib.Core.Path.{◌≡◌, refl, sym, ap, ap₂, ◌∙◌}
use mathlib.Core.Bool.{cond, ◌&&◌}
use mathlib.Core.Logic.{◌⊎◌, inl, inr, ⊎_elim}
use mathlib.Core.List.{List, [], ◌∷◌, ◌++◌}
use Prim.Native.Nat.{ℕ, zero, suc, ◌+◌, ◌*◌, ◌-◌, ◌/◌, ◌%◌, ◌^◌, ◌≤◌, ◌<◌}
use native.Mathlib.Numerals.{add-one}
use native.Mathlib.Nat.{one-mul}
use native.Mathlib.Omega.{arith}
use Rattle.le.specs.Le.{le, Outside}
use Rattle.le.specs.Le as Le
use lib.ListN.{length, get_or}
use lib.Dec.{eqb, ltb}
use lib.Pow.{shl_exact, pow_pos}
use borrow.Author.Tests.{eq-eqb, ne_eqb, lt-ltb, le-ltb}
use Rattle.le.proofs.Laws.{lt_or_le, le_split, le_local, le_outside, outside_wider, same_part}
use Rattle.table.specs.Live.{pick, live, kept}
use Rattle.table.specs.Table.{key_at, mark_at, Room, Finds, found, Between, Opened, Closed, Compacted}
use Rattle.table.specs.Table as T
use Rattle.table.proofs.Live.{same?}
use Rattle.table.proofs.Search.{finds_look}
use Rattle.gateway.specs.Depth.{resting_number}
use Rattle.gateway.specs.Ledger.{number_of}
use Rattle.words.specs.Words.{modulus}
use Rattle.store.specs.Cells as C
use Rattle.store.specs.Layout.{cell, start, spot, width, Cell, Holds, Set, starts, first_byte}
use Rattle.store.specs.View.{Row, Store, Same, word, write, fill, order, resting, order_room, Is, Ready}
use Rattle.store.proofs.Places.{header_cell, order_cell, hint_cell, order_map_cell, cell_block}
use Rattle.bitmap.specs.Bitmap.{put_bit}
use Rattle.bitmap.proofs.Laws.{same_put, then_put}
use Rattle.store.proofs.Rows.{then_set, then_fill, is_itself, same_write, same_fill, same_trans, row_here}
use Rattle.orders.specs.declared.Live.{Live}
use Rattle.orders.specs.declared.Resting.{Resting}
use Rattle.orders.proofs.Bits.{map_rows_other}
use Rattle.orders.proofs.Shown.{look_map}
use Rattle.orders.specs.Orders.{hint_at, hint_bit, hint_of, with_hint, set_hint, either, Sorted, Marks, FindsRow, Sees, kept_at, set_bit, strike, rest, append, places, packed, compact, hint, hint_rows, map_row, map_rows, remap, ones, map_words, squeeze, make_room, new_place, moved, opened, MadeWay, rows_with, tombstone, open_row, number_at}

-- where the rows start
abbrev base : ℕ
base = first_byte C.orders

-- ---- what is written

pub set_two_is : {xs ys zs : List ℕ} (b i k v w : ℕ) → Holds xs → Cell b i (k + 1) → Set xs ys b i k v → Set ys zs b i (k + 1) w →
    Is zs (fill b i k (v ∷ w ∷ []) (cell xs))
unfolding fill
set_two_is b i k v w h c p q =
    let d : Cell b i k = record { block_is = c.block_is; row_is = c.row_is; cell_is = omega (arith, c.cell_is) } in
    then_set (then_set (is_itself h) d p) c q

pub set_four_is : (xs : List ℕ) {ys zs : List ℕ} (i k u v w x : ℕ) → Is ys (fill C.orders i k (u ∷ v ∷ []) (cell xs)) → Is zs (fill C.orders i (k + 1 + 1) (w ∷ x ∷ []) (cell ys)) →
    Is zs (fill C.orders i k (u ∷ v ∷ w ∷ x ∷ []) (cell xs))
unfolding fill
set_four_is xs i k u v w x p q = then_fill C.orders i (k + 1 + 1) (w ∷ x ∷ []) p q

map_here : (i : ℕ) → i < order_room → Cell C.order_map (i / 64) C.map_bits
map_here i l = order_map_cell (i / 64) C.map_bits (omega arith) (omega arith)

same_set_bit : (i v : ℕ) (s t : Store) → i < order_room → Same s t → Same (set_bit i v s) (set_bit i v t)
same_set_bit i v s t l = same_put C.order_map i v s t (map_here i l)

pub then_bit : {ys zs : List ℕ} {s : Store} (i v : ℕ) → i < order_room → Is ys s → Is zs (set_bit i v (cell ys)) → Is zs (set_bit i v s)
then_bit i v l = then_put C.order_map i v (map_here i l)

pub strike_is : {xs ys zs us vs : List ℕ} (k other c i kept n : ℕ) → Holds xs → i < order_room → k < 16 → c < 32 →
    kept ≡ cell xs C.orders i other → n ≡ cell xs C.header 0 c →
    Set xs ys C.orders i k 0 → Set ys zs C.orders i C.order_kept kept → Set zs us C.header 0 c (n - 1) → Is vs (put_bit C.order_map i kept (cell us)) → Is vs (strike k other c i (cell xs))
unfolding strike
strike_is k other c i kept n h l kl cl ke ne p q r b =
    rw (← ke, ← ne)
    (then_bit i kept l
    (then_set (then_set (then_set (is_itself h) (order_cell i k l kl) p) (order_cell i C.order_kept l (omega arith)) q)
    (header_cell c cl) r) b)

pub rest_is : (xs : List ℕ) {ys zs us vs ws : List ℕ} (i l n : ℕ) (o : Resting) → i < order_room → n ≡ cell xs C.header 0 C.resting_orders →
    Is ys (fill C.orders i C.order_rest_side (o.side ∷ o.price ∷ o.visible ∷ o.leaves ∷ []) (cell xs)) →
    Set ys zs C.orders i C.order_level l →
    Is us (fill C.orders i C.order_resting (1 ∷ 1 ∷ []) (cell zs)) →
    Set us vs C.header 0 C.resting_orders (n + 1) → Is ws (put_bit C.order_map i 1 (cell vs)) → Is ws (rest i o l (cell xs))
unfolding rest fill
rest_is xs i l n o h e p t q r b =
    rw (← e)
    (then_bit i 1 h
    (then_set (then_fill C.orders i C.order_resting (1 ∷ 1 ∷ []) (then_set p (order_cell i C.order_level h (omega arith)) t) q)
    (header_cell C.resting_orders (omega arith)) r) b)

pub put_row_is : (xs : List ℕ) {ys zs us vs : List ℕ} (i n : ℕ) (o : Live) → i < order_room →
    Is ys (fill C.orders i C.order_number (n ∷ 1 ∷ 0 ∷ 1 ∷ []) (cell xs)) →
    Is zs (fill C.orders i C.order_account (o.account ∷ o.client_ref ∷ o.side ∷ o.priced ∷ []) (cell ys)) →
    Is us (fill C.orders i C.order_price (o.price ∷ o.leaves ∷ []) (cell zs)) →
    Set us vs C.orders i C.order_hold o.hold →
    Is vs (fill C.orders i C.order_number (n ∷ 1 ∷ 0 ∷ 1 ∷ o.account ∷ o.client_ref ∷ o.side ∷ o.priced ∷ o.price ∷ o.leaves ∷ o.hold ∷ []) (cell xs))
unfolding fill
put_row_is xs i n o l p q r t =
    then_set
    (then_fill C.orders i C.order_price (o.price ∷ o.leaves ∷ [])
    (then_fill C.orders i C.order_account (o.account ∷ o.client_ref ∷ o.side ∷ o.priced ∷ []) p q) r)
    (order_cell i C.order_hold l (omega arith)) t

hint_here : (n : ℕ) → Cell C.hints (hint_at n) C.hint_four
hint_here n = hint_cell (hint_at n) C.hint_four (omega arith) (omega arith)

pub set_hint_is : {xs ys : List ℕ} (n i w : ℕ) → Holds xs → w ≡ cell xs C.hints (hint_at n) C.hint_four →
    Set xs ys C.hints (hint_at n) C.hint_four (with_hint w (hint_bit n) i) → Is ys (set_hint n i (cell xs))
set_hint_is n i w h e p = rw (← e) (then_set (is_itself h) (hint_here n) p)

same_set_hint : (n i : ℕ) (s t : Store) → Same s t → Same (set_hint n i s) (set_hint n i t)
same_set_hint n i s t p =
    rw (p C.hints (hint_at n) C.hint_four (hint_here n)) (same_write s t C.hints (hint_at n) C.hint_four _ p)

then_hint : {ys zs : List ℕ} {s : Store} (n i : ℕ) → Is ys s → Is zs (set_hint n i (cell ys)) → Is zs (set_hint n i s)
then_hint {ys} {zs} {s} n i p q =
    record { holds = q.holds; same = same_trans (cell zs) (set_hint n i (cell ys)) _ q.same (same_set_hint n i (cell ys) s p.same) }

pub append_is : (xs : List ℕ) {ys zs us vs : List ℕ} (n i c : ℕ) (o : Live) → i < order_room → i ≡ cell xs C.header 0 C.order_rows → c ≡ cell xs C.header 0 C.live_orders →
    Is ys (fill C.orders i C.order_number (n ∷ 1 ∷ 0 ∷ 1 ∷ o.account ∷ o.client_ref ∷ o.side ∷ o.priced ∷ o.price ∷ o.leaves ∷ o.hold ∷ []) (cell xs)) →
    Is zs (fill C.header 0 C.order_rows ((i + 1) ∷ (c + 1) ∷ []) (cell ys)) →
    Is us (set_hint n i (cell zs)) → Is vs (put_bit C.order_map i 1 (cell us)) → Is vs (append n o (cell xs))
unfolding append
append_is xs n i c o l ie ce p q r b =
    rw (← ie, ← ce) (then_bit i 1 l (then_hint n i (then_fill C.header 0 C.order_rows ((i + 1) ∷ (c + 1) ∷ []) p q) r) b)

-- what is appended after writes that left s
same_append : (n : ℕ) (o : Live) (s t : Store) → word t C.order_rows < order_room → Same s t → Same (append n o s) (append n o t)
unfolding append
same_append n o s t l p =
    rw (p C.header 0 C.order_rows (header_cell C.order_rows (omega arith)), p C.header 0 C.live_orders (header_cell C.live_orders (omega arith)))
    (same_set_bit (word t C.order_rows) 1 _ _ l
    (same_set_hint n _ _ _ (same_fill _ _ C.header 0 C.order_rows _ (same_fill s t C.orders (word t C.order_rows) C.order_number _ p))))

pub then_append : {ys zs : List ℕ} {s : Store} (n : ℕ) (o : Live) → word (cell ys) C.order_rows < order_room → Is ys s → Is zs (append n o (cell ys)) → Is zs (append n o s)
then_append {ys} {zs} {s} n o l p q =
    let e : word s C.order_rows < order_room = rw (← p.same C.header 0 C.order_rows (header_cell C.order_rows (omega arith))) l in
    record { holds = q.holds; same = same_trans (cell zs) (append n o (cell ys)) _ q.same (same_append n o (cell ys) s e p.same) }

-- ---- what is found

-- the key and the mark that `table` reads are cells; a cell below 256 is its low byte
key_cell : (xs : List ℕ) (j : ℕ) → key_at base 128 xs j ≡ cell xs C.orders j C.order_number
unfolding cell spot start
key_cell xs j = let e : base + 128 * j ≡ 8 * (get_or starts C.orders 0 + (16 * j + 0)) = omega arith in ap (le 8 xs) e

low_byte : (xs : List ℕ) (o : ℕ) → le 8 xs o < 256 → le 1 xs o ≡ le 8 xs o
low_byte xs o h = omega (arith, le_split 1 7 xs o)

mark_cell : (xs : List ℕ) (k j : ℕ) → cell xs C.orders j k < 256 → mark_at base 128 (8 * k) xs j ≡ cell xs C.orders j k
unfolding cell spot start
mark_cell xs k j h =
    let e : base + 128 * j + 8 * k ≡ 8 * (get_or starts C.orders 0 + (16 * j + k)) = omega arith in ap (le 1 xs) e ∙ low_byte xs (8 * (get_or starts C.orders 0 + (16 * j + k))) h

finds_ext : {ks ms ks' ms' : ℕ → ℕ} (n k : ℕ) → ((j : ℕ) → j < n → ks j ≡ ks' j) → ((j : ℕ) → j < n → ms j ≡ ms' j) → (r : Option ℕ) → Finds ks ms n k r → Finds ks' ms' n k r
finds_ext n k ke me (Some i) h = (h.0, sym (ke i h.0) ∙ h.1, rw (← me i h.0) h.2)
finds_ext n k ke me None h = λ j l e. sym (me j l) ∙ h j l (ke j l ∙ e)

pub sorted_bytes : {xs : List ℕ} (n : ℕ) → Ready xs → Sorted (cell xs) → n ≡ cell xs C.header 0 C.order_rows → T.Sorted base 128 n xs
sorted_bytes {xs} n r s e =
    record {
      room = record { fits = omega (arith, r.holds, r.bounds.orders_fit); wide = omega arith; words = refl };
      asc = λ i j h l. rw (key_cell xs i, key_cell xs j) (s.ascends i j h (rw e at l));
    }

pub find_is : (xs : List ℕ) (k n number : ℕ) (r : Option ℕ) → Marks k (cell xs) → n ≡ cell xs C.header 0 C.order_rows →
    Finds (key_at base 128 xs) (mark_at base 128 (8 * k) xs) n number r → FindsRow k (cell xs) number r
find_is xs k n number r m e h =
    rw (← e)
    (finds_ext n number (λ j l. key_cell xs j) (λ j l. mark_cell xs k j (omega (arith, m.small j (rw e at l)))) r h)

-- ---- hints

pub hint_read : (xs : List ℕ) (n w : ℕ) → w ≡ cell xs C.hints (hint_at n) C.hint_four → w / 2 ^ hint_bit n % 65536 ≡ hint_of n (cell xs)
unfolding hint_of
hint_read xs n w e = ap (λ v. v / 2 ^ hint_bit n % 65536) e

same_hint : (i : ℕ) (s t : Store) → i < order_room → Same s t → Same (hint i s) (hint i t)
unfolding hint
same_hint i s t l e =
    rw (e C.orders i C.order_number (order_cell i C.order_number l (omega arith)))
    (same_set_hint (t C.orders i C.order_number) i s t e)

same_hints : (n : ℕ) (s t : Store) → n ≤ order_room → Same s t → Same (hint_rows n s) (hint_rows n t)
unfolding hint_rows
same_hints zero s t l e = e
same_hints (suc n) s t l e = same_hint n (hint_rows n s) (hint_rows n t) (omega arith) (same_hints n s t (omega arith) e)

pub hint_is : (xs : List ℕ) {ys : List ℕ} (i n : ℕ) → n ≡ cell xs C.orders i C.order_number → Is ys (set_hint n i (cell xs)) → Is ys (hint i (cell xs))
unfolding hint
hint_is xs i n e p = rw (← e) p

pub hints_none : (xs : List ℕ) → Holds xs → Is xs (hint_rows 0 (cell xs))
unfolding hint_rows
hints_none xs h = is_itself h

pub hints_more : (s : Store) (ys zs : List ℕ) (i : ℕ) → i < order_room → Is ys (hint_rows i s) → Is zs (hint i (cell ys)) → Is zs (hint_rows (i + 1) s)
unfolding hint_rows
hints_more s ys zs i l p q =
    rw (add-one i)
    (record { holds = q.holds; same = same_trans (cell zs) (hint i (cell ys)) (hint i (hint_rows i s)) q.same (same_hint i (cell ys) (hint_rows i s) l p.same) })

-- ---- the map made anew

pub kept_in : (xs : List ℕ) (i n v : ℕ) → n ≡ cell xs C.header 0 C.order_rows → i < n → v ≡ cell xs C.orders i C.order_kept → v ≡ kept_at (cell xs) i
kept_in xs i n v e l h = rw (← e, lt-ltb i n l) h

pub kept_out : (xs : List ℕ) (i n : ℕ) → n ≡ cell xs C.header 0 C.order_rows → n ≤ i → 0 ≡ kept_at (cell xs) i
kept_out xs i n e l = rw (← e, le-ltb i n l) refl

pub map_row_is : (xs : List ℕ) {ys : List ℕ} (i v : ℕ) → Holds xs → i < order_room → v ≡ kept_at (cell xs) i → Is ys (put_bit C.order_map i (v % 2) (cell xs)) → Is ys (map_row i (cell xs))
unfolding map_row
map_row_is xs i v h l e p = rw (← e) (then_bit i (v % 2) l (is_itself h) p)

same_map_row : (i : ℕ) (s t : Store) → i < order_room → Same s t → Same (map_row i s) (map_row i t)
unfolding map_row
same_map_row i s t l e =
    rw (e C.header 0 C.order_rows (header_cell C.order_rows (omega arith)), e C.orders i C.order_kept (order_cell i C.order_kept l (omega arith)))
    (same_set_bit i (kept_at t i % 2) s t l e)

same_map_rows : (n : ℕ) (s t : Store) → n ≤ order_room → Same s t → Same (map_rows n s) (map_rows n t)
unfolding map_rows
same_map_rows zero s t l e = e
same_map_rows (suc n) s t l e = same_map_row n (map_rows n s) (map_rows n t) (omega arith) (same_map_rows n s t (omega arith) e)

pub same_remap : (s t : Store) → Same s t → Same (remap s) (remap t)
unfolding remap
same_remap s t e b i k c =
    ⊎_elim
    (λ (q : b ≡ C.order_map). rw q (same_map_rows order_room s t (omega arith) e C.order_map i k (rw q at c)))
    (λ q. rw (ne_eqb b C.order_map q) (e b i k c))
    (same? b C.order_map)

pub map_none : (xs : List ℕ) → Holds xs → Is xs (map_rows 0 (cell xs))
unfolding map_rows
map_none xs h = is_itself h

pub map_more : (s : Store) (ys zs : List ℕ) (i : ℕ) → i < order_room → Is ys (map_rows i s) → Is zs (map_row i (cell ys)) → Is zs (map_rows (i + 1) s)
unfolding map_rows
map_more s ys zs i l p q =
    rw (add-one i)
    (record { holds = q.holds; same = same_trans (cell zs) (map_row i (cell ys)) (map_row i (map_rows i s)) q.same (same_map_row i (cell ys) (map_rows i s) l p.same) })

pub map_all : (s : Store) (ys : List ℕ) → Is ys (map_rows order_room s) → Is ys (remap s)
unfolding remap
map_all s ys p =
    record {
      holds = p.holds;
      same = λ b i k c.
          p.same b i k c
          ∙ ⊎_elim (λ (q : b ≡ C.order_map). rw q refl) (λ q. rw (ne_eqb b C.order_map q) (map_rows_other order_room s b i k q)) (same? b C.order_map);
    }

pub then_remap : {ys zs : List ℕ} {s : Store} → Is ys s → Is zs (remap (cell ys)) → Is zs (remap s)
then_remap {ys} {zs} {s} p q =
    record { holds = q.holds; same = same_trans (cell zs) (remap (cell ys)) (remap s) q.same (same_remap (cell ys) s p.same) }

pub ones_none : (n g : ℕ) → n ≤ 64 * g → 0 ≡ ones n g
ones_none n g l = let e : n - 64 * g ≡ 0 = omega arith in rw e refl

pub shl_some : (k : ℕ) → k < 64 → 1 ≤ 1 * 2 ^ k % 2 ^ 64
shl_some k l = rw (shl_exact {a = 1} 1 k 64 (omega arith) (omega arith), one-mul (2 ^ k)) (pow_pos k)

pub ones_some : (n g k v : ℕ) → k ≡ n - 64 * g → k < 64 → v ≡ 1 * 2 ^ k % 2 ^ 64 - 1 → v ≡ ones n g
ones_some n g k v e l h = rw (← e, lt-ltb k 64 l) (h ∙ ap (λ x. x - 1) (shl_exact {a = 1} 1 k 64 (omega arith) (omega arith) ∙ one-mul (2 ^ k)))

pub ones_all : (n g k : ℕ) → k ≡ n - 64 * g → 64 ≤ k → modulus - 1 ≡ ones n g
ones_all n g k e l = rw (← e, le-ltb k 64 l) refl

pub words_none : (xs : List ℕ) (n : ℕ) → Holds xs → Is xs (map_words 0 n (cell xs))
unfolding map_words
words_none xs n h =
    record {
      holds = h;
      same = λ b i k c.
          sym (⊎_elim (λ (p : b ≡ C.order_map). rw (p, le-ltb i 0 (omega arith)) refl) (λ p. rw (ne_eqb b C.order_map p) refl) (same? b C.order_map));
    }

-- one word more
word_more : (s : Store) (n g b i k : ℕ) → Cell b i k → write C.order_map g C.map_bits (ones n g) (map_words g n s) b i k ≡ map_words (g + 1) n s b i k
unfolding map_words
word_more s n g b i k c =
    ⊎_elim
    (λ (p : b ≡ C.order_map).
    let l : k < 1 = rw p at c.cell_is in
    let z : k ≡ 0 = omega arith in
    ⊎_elim
    (λ (q : i ≡ g). rw (p, q, z, eq-eqb g g refl, lt-ltb g (g + 1) (omega arith)) refl)
    (λ q. rw (p, ne_eqb i g q) (ap (λ x. cond x (ones n i) (s C.order_map i k)) (below q)))
    (same? i g))
    (λ p. rw (ne_eqb b C.order_map p) refl)
    (same? b C.order_map)
  where
    below : (i ≡ g → ⊥) → ltb i g ≡ ltb i (g + 1)
    below q =
        ⊎_elim (λ (l : i < g). lt-ltb i g l ∙ sym (lt-ltb i (g + 1) (omega arith))) (λ l. le-ltb i g l ∙ sym (le-ltb i (g + 1) (omega (arith, q)))) (lt_or_le i g)

pub words_more : (s : Store) (ys zs : List ℕ) (n g v : ℕ) → g < 32 → v ≡ ones n g → Is ys (map_words g n s) → Set ys zs C.order_map g C.map_bits v → Is zs (map_words (g + 1) n s)
words_more s ys zs n g v l e p q =
    let h = then_set p (order_map_cell g C.map_bits l (omega arith)) (rw e at q) in
    record { holds = h.holds; same = λ b i k c. h.same b i k c ∙ word_more s n g b i k c }

then_words : {ys zs : List ℕ} {s : Store} (n : ℕ) → Is ys s → Is zs (map_words 32 n (cell ys)) → Is zs (map_words 32 n s)
unfolding map_words
then_words {ys} {zs} {s} n p q =
    record { holds = q.holds; same = λ b i k c. q.same b i k c ∙ ap (cond (eqb b C.order_map && ltb i 32) (ones n i)) (p.same b i k c) }

-- ---- the tombstones squeezed out

pub room_bytes : {xs : List ℕ} (n : ℕ) → Ready xs → n ≡ cell xs C.header 0 C.order_rows → Room base 128 n xs
room_bytes n r e = record { fits = omega (arith, r.holds, r.bounds.orders_fit); wide = omega arith; words = refl }

-- what changes in the rows is not seen in another block
elsewhere : {lo hi : ℕ} {xs ys : List ℕ} (b i k : ℕ) → base ≤ lo → hi ≤ first_byte C.bids → Outside lo hi xs ys → Cell b i k → (b ≡ C.orders → ⊥) → cell ys b i k ≡ cell xs b i k
unfolding start
elsewhere b i k l h p c ne = cell_block C.orders (omega arith) (outside_wider base (first_byte C.bids) l h p) c ne

order_cell_at : (xs : List ℕ) (i k : ℕ) → cell xs C.orders i k ≡ le 8 xs (base + 128 * i + 8 * k)
unfolding cell spot start
order_cell_at xs i k = let e : 8 * (get_or starts C.orders 0 + (16 * i + k)) ≡ base + 128 * i + 8 * k = omega arith in ap (le 8 xs) e

either_small : (a b : ℕ) → a ≤ 1 → b ≤ 1 → either a b ≤ 1
either_small zero b h l = l
either_small (suc a) b h l = omega arith

kept_ext : (ms ms' : ℕ → ℕ) (n : ℕ) → ((j : ℕ) → j < n → ms j ≡ ms' j) → kept ms n ≡ kept ms' n
unfolding live
kept_ext ms ms' zero h = refl
kept_ext ms ms' (suc n) h = ap₂ (λ l m. l ++ pick m n) (kept_ext ms ms' n (λ j l. h j (omega arith))) (h n (omega arith))

module _ (xs ys : List ℕ) (n w : ℕ) (r : Ready xs) (o : Sorted (cell xs)) (e : n ≡ cell xs C.header 0 C.order_rows) (c : Compacted base 128 24 n w xs ys) where
  places_are : kept (mark_at base 128 24 xs) n ≡ places (cell xs)
  places_are =
      kept_ext (mark_at base 128 24 xs) (λ j. cell xs C.orders j C.order_kept) n (λ j l. mark_cell xs C.order_kept j (kept_small j (rw e at l)))
      ∙ ap (kept (λ j. cell xs C.orders j C.order_kept)) e
    where
      kept_small : (j : ℕ) → j < word (cell xs) C.order_rows → cell xs C.orders j C.order_kept < 256
      kept_small j l = let f = o.flags j l in omega (arith, f.kept_is, either_small _ _ f.live_is f.resting_is)

  size_is : w ≡ length (places (cell xs))
  size_is = c.count ∙ ap length places_are

  -- a row's cell, of a row that moved and of one behind them
  cell_moved : (i k : ℕ) → i < w → k < 16 → cell ys C.orders i k ≡ cell xs C.orders (get_or (places (cell xs)) i 0) k
  cell_moved i k h l =
      order_cell_at ys i k
      ∙ (le_local 8).same (same_part (8 * k) 8 (omega arith) (rw places_are at (c.rows i h)))
      ∙ sym (order_cell_at xs (get_or (places (cell xs)) i 0) k)

  cell_behind : (i k : ℕ) → w ≤ i → cell ys C.orders i k ≡ cell xs C.orders i k
  cell_behind i k h =
      order_cell_at ys i k ∙ le_outside 8 (base + 128 * i + 8 * k) c.frame (inr (omega arith)) ∙ sym (order_cell_at xs i k)

  packed_same : Same (cell ys) (packed (cell xs))
  unfolding packed
  packed_same b i k q =
      ⊎_elim
      (λ (f : b ≡ C.orders).
      let l : k < 16 = rw f at q.cell_is in
      rw (f, ← size_is)
      (⊎_elim
      (λ (h : i < w). rw (lt-ltb i w h) (cell_moved i k h l))
      (λ (h : w ≤ i). rw (le-ltb i w h) (cell_behind i k h))
      (lt_or_le i w)))
      (λ ne. rw (ne_eqb b C.orders ne) (elsewhere b i k (omega arith) (omega (arith, c.fewer, r.bounds.orders_fit, e)) c.frame q ne))
      (same? b C.orders)

  compact_is : (zs : List ℕ) → Set ys zs C.header 0 C.order_rows w → Is zs (compact (cell xs))
  unfolding compact
  compact_is zs p =
      rw (← size_is)
      (then_set (record { holds = omega (arith, c.frame.len, r.holds); same = packed_same }) (header_cell C.order_rows (omega arith)) p)

  hinted : (zs us : List ℕ) → Set ys zs C.header 0 C.order_rows w → Is us (hint_rows w (cell zs)) → Is us (hint_rows w (compact (cell xs)))
  hinted zs us p q =
      record {
        holds = q.holds;
        same =
            same_trans (cell us) (hint_rows w (cell zs)) (hint_rows w (compact (cell xs))) q.same
            (same_hints w (cell zs) (compact (cell xs)) (omega (arith, c.fewer, r.bounds.orders_fit)) (compact_is zs p).same);
      }

  pub squeeze_is : (zs us vs : List ℕ) → Set ys zs C.header 0 C.order_rows w → Is us (hint_rows w (cell zs)) → Is vs (map_words 32 w (cell us)) → Is vs (squeeze (cell xs))
  unfolding squeeze
  squeeze_is zs us vs p q t = rw (← size_is) (then_words w (hinted zs us p q) t)

pub room_there : (xs : List ℕ) (n : ℕ) → Holds xs → n ≡ cell xs C.header 0 C.order_rows → n < order_room → Is xs (make_room (cell xs))
unfolding make_room
room_there xs n h e l = rw (← e, lt-ltb n order_room l) (is_itself h)

pub room_made : (xs ys : List ℕ) (n : ℕ) → n ≡ cell xs C.header 0 C.order_rows → order_room ≤ n → Is ys (squeeze (cell xs)) → Is ys (make_room (cell xs))
unfolding make_room
room_made xs ys n e l h = rw (← e, le-ltb n order_room l) h

-- ---- a row between others

pub place_is : (xs : List ℕ) (n number i : ℕ) → n ≡ cell xs C.header 0 C.order_rows → Between (key_at base 128 xs) n number i i →
    Between (λ j. cell xs C.orders j C.order_number) (word (cell xs) C.order_rows) number i i
place_is xs n number i e b =
    rw (← e)
    (record {
      inside = b.inside;
      top = b.top;
      below = λ j l. rw (← key_cell xs j) (b.below j l);
      above = λ j h l. rw (← key_cell xs j) (b.above j h l);
    })

pub place_down : (d i : ℕ) → d < i → i - 1 ≡ new_place d i
place_down d i l = rw (lt-ltb d i l) refl

pub place_still : (d i : ℕ) → i ≤ d → i ≡ new_place d i
place_still d i l = rw (le-ltb d i l) refl

pub rows_stay : (d n : ℕ) → d < n → n ≡ rows_with d n
rows_stay d n l = rw (lt-ltb d n l) refl

pub rows_grow : (d n : ℕ) → n ≤ d → d + 1 ≡ rows_with d n
rows_grow d n l = rw (le-ltb d n l) refl

-- the rows of xs in ys: those at i stood at j, or stayed
module _ {lo hi : ℕ} (xs ys : List ℕ) (frame : Outside lo hi xs ys) where
  row_stays : (j k : ℕ) → k < 16 → (base + 128 * (j + 1) ≤ lo) ⊎ (hi ≤ base + 128 * j) → cell ys C.orders j k ≡ cell xs C.orders j k
  row_stays j k l w =
      order_cell_at ys j k
      ∙ le_outside 8 (base + 128 * j + 8 * k) frame (⊎_elim (λ h. inl (omega arith)) (λ h. inr (omega arith)) w)
      ∙ sym (order_cell_at xs j k)

row_moves : (xs ys : List ℕ) (i j k : ℕ) → k < 16 → Le.Same 128 xs (base + 128 * i) ys (base + 128 * j) → cell ys C.orders j k ≡ cell xs C.orders i k
row_moves xs ys i j k l p = order_cell_at ys j k ∙ (le_local 8).same (same_part (8 * k) 8 (omega arith) p) ∙ sym (order_cell_at xs i k)

module _ (xs ys : List ℕ) (d p : ℕ) (dl : d < order_room) (pl : p < order_room) where
  -- what is in the table, and what is not
  way : {lo hi : ℕ} → base ≤ lo → hi ≤ first_byte C.bids → Outside lo hi xs ys → ((j k : ℕ) → k < 16 → (j ≡ p → ⊥) → cell ys C.orders j k ≡ cell xs C.orders (moved d p j) k) → MadeWay d p (cell xs) (cell ys)
  unfolding opened
  way l h frame rows =
      record {
        same = λ b j k q ne.
            ⊎_elim
            (λ (g : b ≡ C.orders). let m : k < 16 = rw g at q.cell_is in rw g (rows j k m (ne g)))
            (λ g. rw (ne_eqb b C.orders g) (elsewhere b j k l h frame q g))
            (same? b C.orders);
      }

  pub way_up : p ≤ d → Opened base 128 d p xs ys → MadeWay d p (cell xs) (cell ys)
  way_up l o =
      way (omega arith) (omega arith) o.frame
      (λ j k m ne.
      ⊎_elim
      (λ (h : p < j).
      rw (lt-ltb p j h)
      (⊎_elim (λ (g : d < j). rw (lt-ltb d j g) (row_stays xs ys o.frame j k m (inr (omega arith))))
      (λ (g : j ≤ d).
      let u : j - 1 + 1 ≡ j = omega arith in
      rw (le-ltb d j g) (row_moves xs ys (j - 1) j k m (rw u at (o.behind (j - 1) (omega arith) (omega arith)))))
      (lt_or_le d j)))
      (λ (h : j ≤ p). rw (le-ltb p j h, lt-ltb j d (omega (arith, ne))) (row_stays xs ys o.frame j k m (inl (omega arith))))
      (lt_or_le p j))

  pub way_down : d < p → Closed base 128 (p + 1) d xs ys → MadeWay d p (cell xs) (cell ys)
  way_down l o =
      way (omega arith) (omega arith) o.frame
      (λ j k m ne.
      ⊎_elim
      (λ (h : p < j). rw (lt-ltb p j h, lt-ltb d j (omega arith)) (row_stays xs ys o.frame j k m (inr (omega arith))))
      (λ (h : j ≤ p).
      rw (le-ltb p j h)
      (⊎_elim (λ (g : j < d). rw (lt-ltb j d g) (row_stays xs ys o.frame j k m (inl (omega arith))))
      (λ (g : d ≤ j). rw (le-ltb j d g) (row_moves xs ys (j + 1) j k m (o.behind j g (omega (arith, ne)))))
      (lt_or_le j d)))
      (lt_or_le p j))

-- a row is written whole: what stood there is not seen
module _ (b i : ℕ) where
  fill_before : (k : ℕ) (vs : List ℕ) (s : Store) (l : ℕ) → l < k → fill b i k vs s b i l ≡ s b i l
  unfolding fill
  fill_before k [] s l h = refl
  fill_before k (v ∷ vs) s l h =
      fill_before (k + 1) vs (write b i k v s) l (omega arith) ∙ ap (λ (r : Row). r l) (row_here b i k v s) ∙ rw (ne_eqb l k (λ e. omega arith)) refl

  fill_covers : (k : ℕ) (vs : List ℕ) (s t : Store) (l : ℕ) → k ≤ l → l < k + length vs → fill b i k vs s b i l ≡ fill b i k vs t b i l
  unfolding fill
  fill_covers k [] s t l h m = absurd (omega arith)
  fill_covers k (v ∷ vs) s t l h m =
      ⊎_elim
      (λ (e : l ≡ k). at s e ∙ sym (at t e))
      (λ ne. fill_covers (k + 1) vs (write b i k v s) (write b i k v t) l (omega (arith, ne)) (omega arith))
      (same? l k)
    where
      at : (u : Store) → l ≡ k → fill b i (k + 1) vs (write b i k v u) b i l ≡ v
      at u e =
          fill_before (k + 1) vs (write b i k v u) l (omega arith) ∙ ap (λ (r : Row). r l) (row_here b i k v u) ∙ rw (eq-eqb l k e) refl

  fill_apart : (k : ℕ) (vs : List ℕ) (s : Store) (d j l : ℕ) → (d ≡ b → j ≡ i → ⊥) → fill b i k vs s d j l ≡ s d j l
  unfolding fill
  fill_apart k [] s d j l n = refl
  fill_apart k (v ∷ vs) s d j l n =
      fill_apart (k + 1) vs (write b i k v s) d j l n
      ∙ ⊎_elim (λ (e : d ≡ b). rw (e, eq-eqb b b refl, ne_eqb j i (n e)) refl) (λ e. rw (ne_eqb d b e) refl) (same? d b)

  same_whole : (vs : List ℕ) (s t : Store) → width b ≤ length vs → ((d j l : ℕ) → Cell d j l → (d ≡ b → j ≡ i → ⊥) → s d j l ≡ t d j l) → Same (fill b i 0 vs s) (fill b i 0 vs t)
  same_whole vs s t h e d j l c =
      ⊎_elim
      (λ (p : d ≡ b).
      ⊎_elim
      (λ (q : j ≡ i). let m : l < width b = rw p at c.cell_is in rw (p, q) (fill_covers 0 vs s t l (omega arith) (omega arith)))
      (λ q. apart (λ _. q))
      (same? j i))
      (λ p. apart (λ x y. p x))
      (same? d b)
    where
      apart : (d ≡ b → j ≡ i → ⊥) → fill b i 0 vs s d j l ≡ fill b i 0 vs t d j l
      apart n = fill_apart 0 vs s d j l n ∙ e d j l c n ∙ sym (fill_apart 0 vs t d j l n)

pub put_tombstone_is : (xs : List ℕ) {ys zs us vs : List ℕ} (p n : ℕ) →
    Is ys (fill C.orders p C.order_number (n ∷ 0 ∷ 0 ∷ 0 ∷ []) (cell xs)) → Is zs (fill C.orders p C.order_account (0 ∷ 0 ∷ 0 ∷ 0 ∷ []) (cell ys)) →
    Is us (fill C.orders p C.order_price (0 ∷ 0 ∷ 0 ∷ 0 ∷ []) (cell zs)) → Is vs (fill C.orders p C.order_rest_price (0 ∷ 0 ∷ 0 ∷ 0 ∷ []) (cell us)) →
    Is vs (fill C.orders p C.order_number (tombstone n) (cell xs))
unfolding fill
put_tombstone_is xs p n a b c d =
    then_fill C.orders p C.order_rest_price (0 ∷ 0 ∷ 0 ∷ 0 ∷ [])
    (then_fill C.orders p C.order_price (0 ∷ 0 ∷ 0 ∷ 0 ∷ []) (then_fill C.orders p C.order_account (0 ∷ 0 ∷ 0 ∷ 0 ∷ []) a b) c) d

pub swap_bits_is : (xs : List ℕ) {ys zs : List ℕ} (d p : ℕ) → Holds xs → d < order_room → p < order_room → Is ys (put_bit C.order_map d 1 (cell xs)) → Is zs (put_bit C.order_map p 0 (cell ys)) →
    Is zs (set_bit p 0 (set_bit d 1 (cell xs)))
swap_bits_is xs d p h dl pl a b = then_bit p 0 pl (then_bit d 1 dl (is_itself h) a) b

-- the row is written, and the rows counted
counted_is : (xs ys zs us : List ℕ) (n d p number : ℕ) → MadeWay d p (cell xs) (cell ys) → Is zs (fill C.orders p C.order_number (tombstone number) (cell ys)) → Set zs us C.header 0 C.order_rows (rows_with d n) →
    Is us (write C.header 0 C.order_rows (rows_with d n) (fill C.orders p C.order_number (tombstone number) (opened d p (cell xs))))
counted_is xs ys zs us n d p number w q r =
    then_set
    (record {
      holds = q.holds;
      same =
          same_trans (cell zs) (fill C.orders p C.order_number (tombstone number) (cell ys)) (fill C.orders p C.order_number (tombstone number) (opened d p (cell xs))) q.same
          (same_whole C.orders p (tombstone number) (cell ys) (opened d p (cell xs)) (omega arith) w.same);
    })
    (header_cell C.order_rows (omega arith)) r

then_swap : {ys zs : List ℕ} {s : Store} (d p : ℕ) → d < order_room → p < order_room → Is ys s → Is zs (set_bit p 0 (set_bit d 1 (cell ys))) → Is zs (set_bit p 0 (set_bit d 1 s))
then_swap {ys} {zs} {s} d p dl pl h b =
    record {
      holds = b.holds;
      same =
          same_trans (cell zs) (set_bit p 0 (set_bit d 1 (cell ys))) (set_bit p 0 (set_bit d 1 s)) b.same
          (same_set_bit p 0 (set_bit d 1 (cell ys)) (set_bit d 1 s) pl (same_set_bit d 1 (cell ys) s dl h.same));
    }

pub open_row_is : (xs ys : List ℕ) {zs us vs ws : List ℕ} (n d p number : ℕ) → d < order_room → p < order_room → n ≡ cell xs C.header 0 C.order_rows → MadeWay d p (cell xs) (cell ys) →
    Is zs (fill C.orders p C.order_number (tombstone number) (cell ys)) → (v : ℕ) → v ≡ rows_with d n → Set zs us C.header 0 C.order_rows v →
    Is vs (set_bit p 0 (set_bit d 1 (cell us))) → Is ws (set_hint number p (cell vs)) → Is ws (open_row d p number (cell xs))
unfolding open_row
open_row_is xs ys {zs} {us} n d p number dl pl e w q v ve r b t =
    rw (← e) (then_hint number p (then_swap d p dl pl (counted_is xs ys zs us n d p number w q (rw ve at r)) b) t)

pub live_marks : {s : Store} → Sorted s → Marks C.order_live s
live_marks s = record { inside = omega arith; small = λ j l. (s.flags j l).live_is }

-- ---- what is found is what the view's list has

found_map : {A B : Type 0} (h : A → B) (f : ℕ → A) (r : Option ℕ) → option_map h (found f r) ≡ found (λ j. h (f j)) r
found_map h f (Some i) = refl
found_map h f None = refl

pub sees : {A : Type 0} (k : ℕ) (f : Row → A) (number : A → ℕ) (s : Store) (n : ℕ) (r : Option ℕ) → ((q : Row) → number (f q) ≡ q C.order_number) → Sorted s → FindsRow k s n r →
    Sees k f number s n r
sees {A} k f number s n r e t h =
    record {
      row = h;
      order =
          look_map (λ (p : ℕ × A). p.1) number n (live (λ (p : ℕ × A). p.0) (λ j. (s C.orders j k, f (s C.orders j))) (word s C.order_rows))
          ∙ ap (option_map (λ (p : ℕ × A). p.1))
          (finds_look (λ (p : ℕ × A). p.0) (λ (p : ℕ × A). number p.1) (λ j. (s C.orders j k, f (s C.orders j))) (word s C.order_rows) n (λ j l. e (s C.orders j)) (λ j l. refl)
          (λ i j a b. rw (e (s C.orders i), e (s C.orders j)) (t.ascends i j a b)) r h)
          ∙ found_map (λ (p : ℕ × A). p.1) (λ j. (s C.orders j k, f (s C.orders j))) r;
    }

pub sees_live : (s : Store) (n : ℕ) (r : Option ℕ) → Sorted s → FindsRow C.order_live s n r → Sees C.order_live order number_of s n r
sees_live s n r = sees C.order_live order number_of s n r (λ q. refl)

pub sees_resting : (s : Store) (n : ℕ) (r : Option ℕ) → Sorted s → FindsRow C.order_resting s n r → Sees C.order_resting resting resting_number s n r
sees_resting s n r = sees C.order_resting resting resting_number s n r (λ q. refl)

-- ---- one search for both halves: a row that is not kept has neither

pub kept_marks : {s : Store} → Sorted s → Marks C.order_kept s
kept_marks {s} t =
    record {
      inside = omega arith;
      small = λ j l. let f = t.flags j l in rw f.kept_is (either_small (s C.orders j C.order_live) (s C.orders j C.order_resting) f.live_is f.resting_is);
    }

pub neither : (a b : ℕ) → either a b ≡ 0 → (a ≡ 0) × (b ≡ 0)
neither zero b e = (refl, e)
neither (suc a) b e = absurd (omega (arith, e))

-- the row i alone bears its number
module _ (k : ℕ) (s : Store) (t : Sorted s) (i : ℕ) (inside : i < word s C.order_rows) (v : ℕ) (v_is : v ≡ s C.orders i k) where
  pub half_there : (v ≡ 0 → ⊥) → FindsRow k s (number_at i s) (Some i)
  half_there n = (inside, refl, omega (arith, v_is, n))

  pub half_gone : v ≡ 0 → FindsRow k s (number_at i s) None
  half_gone z j l e =
      ⊎_elim (λ (q : j ≡ i). ap (λ h. s C.orders h k) q ∙ sym v_is ∙ z)
      (λ q. absurd (⊎_elim (λ a. omega (arith, t.ascends j i a inside, e)) (λ b. omega (arith, t.ascends i j (omega arith) l, e)) (lt_or_le j i))) (same? j i)

module _ (s : Store) (t : Sorted s) (n : ℕ) (q : Option ℕ) (h : FindsRow C.order_kept s n q) where
  module _ (i : ℕ) (e : q ≡ Some i) where
    its_row : FindsRow C.order_kept s n (Some i)
    its_row = rw e at h

    pub row_inside : i < word s C.order_rows
    row_inside = its_row.0

    pub its_live : (r : Option ℕ) → FindsRow C.order_live s (number_at i s) r → Sees C.order_live order number_of s n r
    its_live r f = sees_live s n r t (rw its_row.1 at f)

    pub its_resting : (r : Option ℕ) → FindsRow C.order_resting s (number_at i s) r → Sees C.order_resting resting resting_number s n r
    its_resting r f = sees_resting s n r t (rw its_row.1 at f)

  module _ (e : q ≡ None) where
    none_kept : (j : ℕ) → j < word s C.order_rows → s C.orders j C.order_number ≡ n → (s C.orders j C.order_live ≡ 0) × (s C.orders j C.order_resting ≡ 0)
    none_kept j l w = let k : FindsRow C.order_kept s n None = rw e at h in neither (s C.orders j C.order_live) (s C.orders j C.order_resting) (sym (t.flags j l).kept_is ∙ k j l w)

    pub no_live : (r : Option ℕ) → r ≡ None → Sees C.order_live order number_of s n r
    no_live r z = rw z (sees_live s n None t (λ j l w. (none_kept j l w).0))

    pub no_resting : (r : Option ℕ) → r ≡ None → Sees C.order_resting resting resting_number s n r
    no_resting r z = rw z (sees_resting s n None t (λ j l w. (none_kept j l w).1))

pub ruleset laws = (sees_live, sees_resting, half_there, half_gone, row_inside, its_live, its_resting, no_live, no_resting, kept_marks, hint_read, set_hint_is, set_two_is, set_four_is, strike_is, rest_is, put_row_is, append_is, sorted_bytes, room_bytes, hint_is, kept_in, kept_out, map_row_is, ones_none, ones_some, ones_all, squeeze_is, room_there, room_made, place_is, place_down, place_still, rows_stay, rows_grow, way_up, way_down, swap_bits_is, find_is, live_marks, header_cell, order_cell, hint_cell, order_map_cell, arith)
