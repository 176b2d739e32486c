-- The tombstones squeezed out: the gateway stays, the table stays in order, and there is room. Assumes nothing.
use mathlib.Core.Path.{◌≡◌, refl, sym, ap, ap₂, ◌∙◌}
use mathlib.Core.Bool.{false, cond, ◌&&◌}
use mathlib.Core.Logic.{⊎_elim}
use mathlib.Core.List.{List, ◌++◌, map}
use Prim.Native.Nat.{ℕ, zero, suc, ◌+◌, ◌≤◌, ◌<◌}
use native.Mathlib.Omega.{arith}
use borrow.Author.Tests.{ne_eqb, lt-ltb, ltb-true}
use lib.Dec.{eqb, ltb}
use lib.ListN.{length, get_or, length-append, length-map}
use Rattle.table.specs.Live.{pick, live}
use Rattle.table.proofs.Live.{same?}
use Rattle.table.proofs.Packed.{Packed, packed_each, packed_ascends, packed_live}
use Rattle.gateway.specs.Depth as D
use Rattle.gateway.specs.Ledger.{Order}
use Rattle.gateway.proofs.Base.{split}
use Rattle.store.specs.Cells as C
use Rattle.store.specs.View.{Row, Store, Bounds, word, order, resting, marked, ledger, depth, gateway, order_room}
use Rattle.orders.specs.Orders.{either, Flags, Sorted, Counted, Ordered, places, packed, compact, hint, hint_rows, map_words, squeeze, make_room}
use Rattle.orders.proofs.Bits.{words_mapped}
use Rattle.orders.proofs.Shown.{map_append, map_pick, pick_length}
use Rattle.orders.proofs.Views.{with_lists, Did, bounds_from}

-- two ways to read the same marked rows
live_map : {A B E : Type 0} (m : A → ℕ) (m' : B → ℕ) (h : A → E) (h' : B → E) (f : ℕ → A) (g : ℕ → B) (n : ℕ) →
    ((j : ℕ) → j < n → m (f j) ≡ m' (g j)) → ((j : ℕ) → j < n → h (f j) ≡ h' (g j)) → map h (live m f n) ≡ map h' (live m' g n)
unfolding live
live_map m m' h h' f g zero p q = refl
live_map {E = E} m m' h h' f g (suc n) p q =
    map_append h (live m f n) (pick (m (f n)) (f n))
    ∙ ap₂ (λ (a b : List E). a ++ b) (live_map m m' h h' f g n (λ j l. p j (omega arith)) (λ j l. q j (omega arith)))
    (map_pick h (m (f n)) (f n) ∙ ap₂ (λ (k : ℕ) (x : E). pick k x) (p n (omega arith)) (q n (omega arith)) ∙ sym (map_pick h' (m' (g n)) (g n)))
    ∙ sym (map_append h' (live m' g n) (pick (m' (g n)) (g n)))

-- a flag that counts only where the row is kept
abbrev gated : ℕ → ℕ → ℕ
gated zero b = 0
gated (suc a) b = b

gated_live : (a b : ℕ) → gated (either a b) a ≡ a
gated_live zero zero = refl
gated_live zero (suc b) = refl
gated_live (suc a) b = refl

gated_resting : (a b : ℕ) → gated (either a b) b ≡ b
gated_resting zero zero = refl
gated_resting zero (suc b) = refl
gated_resting (suc a) b = refl

-- how many rows are marked
pick_few : {A : Type 0} (k : ℕ) (x : A) → length (pick k x) ≤ 1
pick_few zero x = omega arith
pick_few (suc k) x = omega arith

live_few : {A : Type 0} (m : A → ℕ) (f : ℕ → A) (n : ℕ) → length (live m f n) ≤ n
unfolding live
live_few m f zero = omega arith
live_few m f (suc n) = omega (arith, length-append (live m f n) (pick (m (f n)) (f n)), live_few m f n, pick_few (m (f n)) (f n))

-- a mark that is 1 only where one of two others is
record Covered (a b c : ℕ) : Type 0 where
  one : a ≤ 1
  left : b ≤ 1
  right : c ≤ 1
  sum : a ≤ b + c

live_union : {A B E : Type 0} (m : A → ℕ) (m₁ : B → ℕ) (m₂ : E → ℕ) (f : ℕ → A) (g : ℕ → B) (h : ℕ → E) (n : ℕ) →
    ((j : ℕ) → j < n → Covered (m (f j)) (m₁ (g j)) (m₂ (h j))) → length (live m f n) ≤ length (live m₁ g n) + length (live m₂ h n)
unfolding live
live_union m m₁ m₂ f g h zero c = omega arith
live_union m m₁ m₂ f g h (suc n) c =
    let e = c n (omega arith) in
    omega (
      arith,
      live_union m m₁ m₂ f g h n (λ j l. c j (omega arith)),
      length-append (live m f n) (pick (m (f n)) (f n)),
      pick_length (m (f n)) (f n) e.one,
      length-append (live m₁ g n) (pick (m₁ (g n)) (g n)),
      pick_length (m₁ (g n)) (g n) e.left,
      length-append (live m₂ h n) (pick (m₂ (h n)) (h n)),
      pick_length (m₂ (h n)) (h n) e.right,
      e.sum,
    )

either_covered : (a b : ℕ) → a ≤ 1 → b ≤ 1 → Covered (either a b) a b
either_covered zero b p q = record { one = q; left = p; right = q; sum = omega arith }
either_covered (suc a) b p q = record { one = omega arith; left = p; right = q; sum = omega arith }

kept_one : (r : Row) → Flags r → Covered (r C.order_kept) (r C.order_live) (r C.order_resting)
kept_one r f = rw f.kept_is (either_covered (r C.order_live) (r C.order_resting) f.live_is f.resting_is)

-- t holds the gateway of s, but for the lists of orders; its table is in order, but the map may be anything
record Unmapped (s t : Store) (os : List Order) (rs : List D.Resting) : Type 0 where
  view : gateway t ≡ with_lists os rs (gateway s)
  bounds : Bounds t
  sorted : Sorted t
  counted : Counted t

-- hints are seen by none
hint_did : (s t : Store) (os : List Order) (rs : List D.Resting) (i : ℕ) → Unmapped s t os rs → Unmapped s (hint i t) os rs
unfolding hint
hint_did s t os rs i d =
    record {
      view = d.view;
      bounds = bounds_from t (hint i t) (λ k l x y z. refl) d.bounds.orders_fit d.bounds;
      sorted = record { ascends = d.sorted.ascends; flags = d.sorted.flags };
      counted = record { live_count = d.counted.live_count; resting_count = d.counted.resting_count };
    }

hints_did : (s t : Store) (os : List Order) (rs : List D.Resting) → Unmapped s t os rs → (n : ℕ) → Unmapped s (hint_rows n t) os rs
unfolding hint_rows
hints_did s t os rs d zero = d
hints_did s t os rs d (suc n) = hint_did s (hint_rows n t) os rs n (hints_did s t os rs d n)

-- the map of rows that are all kept
words_did : (s t : Store) (os : List Order) (rs : List D.Resting) (n : ℕ) → word t C.order_rows ≡ n → ((j : ℕ) → j < n → 0 < t C.orders j C.order_kept) → Unmapped s t os rs → Did s (map_words 32 n t) os rs
unfolding map_words
words_did s t os rs n e h d =
    record {
      view = d.view;
      ordered =
          record {
            bounds = bounds_from t (map_words 32 n t) (λ k l x y z. refl) d.bounds.orders_fit d.bounds;
            sorted = record { ascends = d.sorted.ascends; flags = d.sorted.flags };
            counted = record { live_count = d.counted.live_count; resting_count = d.counted.resting_count };
            mapped = words_mapped t n e (λ j l. let c = kept_one (t C.orders j) (d.sorted.flags j (rw e l)) in omega (arith, h j l, c.one));
          };
    }

hints_other : (s : Store) (n b i k : ℕ) → (b ≡ C.hints → ⊥) → hint_rows n s b i k ≡ s b i k
unfolding hint_rows hint
hints_other s zero b i k h = refl
hints_other s (suc n) b i k h = rw (ne_eqb b C.hints h) (hints_other s n b i k h)

hints_row : (s : Store) (n j : ℕ) → hint_rows n s C.orders j ≡ s C.orders j
hints_row s n j = λ z k. hints_other s n C.orders j k (λ e. omega arith) z

module _ (s : Store) (d : Ordered s) where
  abbrev was : ℕ → Row
  was j = s C.orders j

  abbrev now_row : ℕ → Row
  now_row j = compact s C.orders j

  rows_packed : Packed (λ j. was j C.order_kept) was now_row (word s C.order_rows) (length (places s))
  unfolding compact packed
  rows_packed =
      record { count = refl; rows = λ j l. ap (λ b. s C.orders (cond b (get_or (places s) j 0) j)) (lt-ltb j (length (places s)) l) }

  flags_packed : (j : ℕ) → j < length (places s) → Flags (now_row j)
  flags_packed = packed_each rows_packed Flags (λ j l m. d.sorted.flags j l)

  marked_packed : {A : Type 0} (k : ℕ) (f : Row → A) → ((r : Row) → Flags r → gated (r C.order_kept) (r k) ≡ r k) → marked (compact s) k f ≡ marked s k f
  unfolding compact packed
  marked_packed {A} k f g =
      sym
      (live_map (λ (r : Row). gated (r C.order_kept) (r k)) (λ (p : ℕ × A). p.0) f (λ (p : ℕ × A). p.1) now_row (λ j. (now_row j k, f (now_row j))) (length (places s))
      (λ j l. g (now_row j) (flags_packed j l)) (λ j l. refl))
      ∙ ap (map f)
      (packed_live rows_packed (λ (r : Row). r C.order_kept) (λ j l. refl) (λ (r : Row). gated (r C.order_kept) (r k)) (λ r e. rw e refl))
      ∙ live_map (λ (r : Row). gated (r C.order_kept) (r k)) (λ (p : ℕ × A). p.0) f (λ (p : ℕ × A). p.1) was (λ j. (was j k, f (was j))) (word s C.order_rows)
      (λ j l. g (was j) (d.sorted.flags j l)) (λ j l. refl)

  gateway_packed : (os : List Order) (rs : List D.Resting) → marked (compact s) C.order_live order ≡ os → marked (compact s) C.order_resting resting ≡ rs →
      gateway (compact s) ≡ with_lists os rs (gateway s)
  unfolding compact packed
  gateway_packed os rs a b = ap₂ (λ x y. with_lists x y (gateway s)) a b

  live_packed : marked (compact s) C.order_live order ≡ (ledger s).orders
  live_packed = marked_packed C.order_live order (λ r f. ap (λ x. gated x (r C.order_live)) f.kept_is ∙ gated_live (r C.order_live) (r C.order_resting))

  resting_packed : marked (compact s) C.order_resting resting ≡ (depth s).resting
  resting_packed = marked_packed C.order_resting resting (λ r f. ap (λ x. gated x (r C.order_resting)) f.kept_is ∙ gated_resting (r C.order_live) (r C.order_resting))

  compact_view : Unmapped s (compact s) (ledger s).orders (depth s).resting
  unfolding compact packed
  compact_view =
      record {
        view = gateway_packed _ _ live_packed resting_packed;
        bounds =
            bounds_from s (compact s) (λ k l x y z. rw (ne_eqb k C.order_rows x) refl)
            (omega (arith, live_few (λ j. was j C.order_kept) (λ j. j) (word s C.order_rows), d.bounds.orders_fit)) d.bounds;
        sorted = record { ascends = packed_ascends rows_packed (λ (r : Row). r C.order_number) d.sorted.ascends; flags = flags_packed };
        counted =
            record {
              live_count = d.counted.live_count ∙ sym (ap length live_packed);
              resting_count = d.counted.resting_count ∙ sym (ap length resting_packed);
            };
      }

  -- each is live or rests
  pub kept_few : word s C.live_orders + word s C.resting_orders < order_room → length (places s) < order_room
  kept_few h =
      let m = word s C.order_rows in
      omega (
        arith,
        d.counted.live_count,
        d.counted.resting_count,
        length-map (live (λ (p : ℕ × Order). p.0) (λ j. (was j C.order_live, order (was j))) m) (λ (p : ℕ × Order). p.1),
        length-map (live (λ (p : ℕ × D.Resting). p.0) (λ j. (was j C.order_resting, resting (was j))) m) (λ (p : ℕ × D.Resting). p.1),
        live_union (λ j. was j C.order_kept) (λ (p : ℕ × Order). p.0) (λ (p : ℕ × D.Resting). p.0) (λ j. j) (λ j. (was j C.order_live, order (was j))) (λ j. (was j C.order_resting, resting (was j))) m
            (λ j l. kept_one (was j) (d.sorted.flags j l)),
      )

  -- as many rows are left as are kept
  compact_room : word s C.live_orders + word s C.resting_orders < order_room → word (compact s) C.order_rows < order_room
  unfolding compact
  compact_room = kept_few

  -- with the hints: as many rows, and all are kept
  hinted_rows : word (hint_rows (length (places s)) (compact s)) C.order_rows ≡ length (places s)
  unfolding compact
  hinted_rows = hints_other (compact s) (length (places s)) C.header 0 C.order_rows (λ e. omega arith)

  hinted_kept : (j : ℕ) → j < length (places s) → 0 < hint_rows (length (places s)) (compact s) C.orders j C.order_kept
  hinted_kept j l = rw (hints_row (compact s) (length (places s)) j) (packed_each rows_packed (λ (r : Row). 0 < r C.order_kept) (λ i m k. k) j l)

  pub make_room_view : Did s (make_room s) (ledger s).orders (depth s).resting
  unfolding make_room squeeze
  make_room_view =
      split (λ b. Did s (cond b s (squeeze s)) (ledger s).orders (depth s).resting) (ltb (word s C.order_rows) order_room)
      (λ e. record { view = refl; ordered = d }) (λ e. words_did s _ _ _ (length (places s)) hinted_rows hinted_kept (hints_did s (compact s) _ _ compact_view (length (places s))))

  pub make_room_room : word s C.live_orders + word s C.resting_orders < order_room → word (make_room s) C.order_rows < order_room
  unfolding make_room squeeze map_words
  make_room_room h =
      split (λ b. (ltb (word s C.order_rows) order_room ≡ b) → word (cond b s (squeeze s)) C.order_rows < order_room) (ltb (word s C.order_rows) order_room)
      (λ _ e. ltb-true (word s C.order_rows) order_room e) (λ _ e. rw (hints_other (compact s) (length (places s)) C.header 0 C.order_rows (λ e. omega arith)) (compact_room h)) refl

  -- what is true of every row stays so
  pub make_room_each : (P : Row → Type 0) → ((j : ℕ) → j < word s C.order_rows → P (was j)) → (j : ℕ) → j < word (make_room s) C.order_rows → P (make_room s C.orders j)
  unfolding make_room squeeze compact map_words
  make_room_each P h =
      split (λ b. (j : ℕ) → j < word (cond b s (squeeze s)) C.order_rows → P (cond b s (squeeze s) C.orders j)) (ltb (word s C.order_rows) order_room) (λ e. h)
      (λ e j l.
      rw (hints_row (compact s) (length (places s)) j)
      (packed_each rows_packed P (λ i m n. h i m) j (rw (hints_other (compact s) (length (places s)) C.header 0 C.order_rows (λ e. omega arith)) at l)))

  -- the rows of orders, their number, their map and the hints are all that changes
  pub make_room_other : (b i k : ℕ) → (b ≡ C.orders → ⊥) → (b ≡ C.hints → ⊥) → (b ≡ C.order_map → ⊥) → (b ≡ C.header → k ≡ C.order_rows → ⊥) → make_room s b i k ≡ s b i k
  unfolding make_room squeeze compact packed map_words
  make_room_other b i k o h m w =
      split (λ c. cond c s (squeeze s) b i k ≡ s b i k) (ltb (word s C.order_rows) order_room) (λ e. refl)
      (λ e.
      rw (ne_eqb b C.order_map m) refl
      ∙ hints_other (compact s) (length (places s)) b i k h
      ∙ ⊎_elim
      (λ (q : b ≡ C.header). rw (q, ne_eqb k C.order_rows (w q)) (split (λ x. cond (x && false) (length (places s)) (s C.header i k) ≡ s C.header i k) (eqb i 0) (λ e. refl) (λ e. refl)))
      (λ q. rw (ne_eqb b C.header q, ne_eqb b C.orders o) refl)
      (same? b C.header))
