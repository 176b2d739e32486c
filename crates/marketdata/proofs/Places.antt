-- A row for an order that comes: one that bears its number, or a new one between the others. The gateway stays. Assumes nothing.
use Rattle.std.specs.Prelude.{Option, Some, None}
use mathlib.Core.Path.{◌≡◌, refl, sym, ap, ◌∙◌, subst}
use mathlib.Core.Logic.{⊎_elim}
use mathlib.Core.Bool.{Bool, true, false}
use mathlib.Core.List.{List}
use Prim.Native.Nat.{ℕ, ◌+◌, ◌≤◌, ◌<◌}
use native.Mathlib.Omega.{arith}
use Rattle.le.proofs.Laws.{lt_or_le}
use Rattle.table.proofs.Live.{same?}
use Rattle.gateway.specs.Depth as D
use Rattle.gateway.specs.Ledger.{number_of}
use Rattle.words.specs.Words.{int}
use Rattle.store.specs.Cells as C
use Rattle.store.specs.Layout.{cell}
use Rattle.store.specs.View.{Row, Store, Is, Ready, word, fill, order, ledger, depth, gateway, order_room}
use Rattle.bitmap.specs.Bitmap.{Nearest}
use Rattle.orders.specs.Orders.{Sees, new_place, opened, open_row}
use Rattle.orders.proofs.Views.{Did, same_keeps, resting_at}
use Rattle.orders.proofs.Opened.{open_row_view, open_row_each, open_row_here}
use Rattle.orders.proofs.Opened as Opened
use Rattle.sound.specs.Sound.{Stored, Sound, State}
use Rattle.sound.proofs.Kept.{becomes}
use Rattle.marketdata.specs.Marketdata.{Free, CanOpen, Missing, Bears, Sought, Opens}
use Rattle.marketdata.proofs.Steps.{beyond_same, Beyond, Rows, follows_itself, orders_step}

-- ---- a row that bears the number

-- no order rests there where none of the number rests
pub free_row : {xs : List ℕ} (s : State xs) (n i : ℕ) → D.find_resting n (depth (cell xs)).resting ≡ None → i < word (cell xs) C.order_rows → cell xs C.orders i C.order_number ≡ n →
    Free i n (cell xs)
free_row {xs} s n i a h e =
    record {
      inside = h;
      number_is = e;
      free =
          ⊎_elim (λ (q : cell xs C.orders i C.order_resting ≡ 0). q)
          (λ ne.
          let t = resting_at (cell xs) i s.sound.tables.ordered h (omega (arith, ne)) in
          let b : None ≡ Some _ = sym a ∙ ap (λ m. D.find_resting m (depth (cell xs)).resting) (sym e) ∙ t in
          let z : ◌≡◌ {A = ℕ} 0 1 = cc in absurd (omega (arith, z)))
          (same? (cell xs C.orders i C.order_resting) 0);
    }

module _ (xs : List ℕ) (n i : ℕ) (s : State xs) (c : CanOpen n (cell xs)) where
  bearing : i < word (cell xs) C.order_rows → cell xs C.orders i C.order_number ≡ n → Opens xs xs n i
  bearing h e = record { same = record { state = s; gateway_is = refl }; free = free_row s n i c.absent h e }

  -- that of a live order, or a tombstone
  pub live_opens : (r : Option ℕ) → Sees C.order_live order number_of (cell xs) n r → r ≡ Some i → Opens xs xs n i
  live_opens r e q = let f : Sees C.order_live order number_of (cell xs) n (Some i) = rw q at e in bearing f.row.0 f.row.1

  pub dead_opens : (r : Bool) → Bears i n (cell xs) r → r ≡ true → Opens xs xs n i
  dead_opens r e q = let f : Bears i n (cell xs) true = rw q at e in bearing f.0 f.1

-- the row that was sought does not bear it, so none does
pub missing_is : {xs : List ℕ} → State xs → (n i : ℕ) → Sought i n (cell xs) → (r : Bool) → Bears i n (cell xs) r → r ≡ false → Missing n (cell xs)
missing_is {xs} s n i b r e q j l w =
    let not : Bears i n (cell xs) false = rw q at e in
    ⊎_elim
    (λ (p : j ≡ i). not (rw (← p) l) (rw (← p) w))
    (λ ne.
    ⊎_elim (λ (h : j < i). omega (arith, b.below j h))
    (λ (h : i ≤ j). omega (arith, s.sound.tables.ordered.sorted.ascends i j (omega (arith, ne)) l, b.above i (omega arith) (omega (arith, ne))))
    (lt_or_le j i))
    (same? j i)

-- ---- a new row

module _ {xs : List ℕ} (s : State xs) (n : ℕ) (c : CanOpen n (cell xs)) (missing : Missing n (cell xs)) (i : ℕ) (b : Sought i n (cell xs)) (d : ℕ) (near : Nearest C.order_map (cell xs) order_room i d) where
  abbrev was : Sound (cell xs)
  was = s.sound

  few : word (cell xs) C.live_orders + word (cell xs) C.resting_orders < order_room
  few = omega (arith, was.tables.live_few, c.room)

  high : (j : ℕ) → i ≤ j → j < word (cell xs) C.order_rows → n < cell xs C.orders j C.order_number
  high j g l = omega (arith, b.above j g l, missing j l)

  abbrev p : ℕ
  p = new_place d i

  pub open_asks : (q : ℕ) → q ≡ p → Ready xs × (d < order_room) × (q < order_room)
  open_asks q e =
      let a = Opened.open_asks (cell xs) n i d was.tables.ordered few b.top b.below high near in
      (record { holds = s.holds; bounds = was.tables.ordered.bounds }, a.0, rw e a.1)

  abbrev t : Store
  t = open_row d p n (cell xs)

  does : Did (cell xs) t (ledger (cell xs)).orders (depth (cell xs)).resting
  does = open_row_view (cell xs) n i d was.tables.ordered few b.top b.below high near

  here : (p < word t C.order_rows) × (t C.orders p C.order_number ≡ n) × (t C.orders p C.order_resting ≡ 0) × (t C.orders p C.order_live ≡ 0)
  here = open_row_here (cell xs) n i d was.tables.ordered few b.top b.below high near

  each : (P : Row → Type 0) → ((j : ℕ) → j < word (cell xs) C.order_rows → P (cell xs C.orders j)) → P (t C.orders p) → (j : ℕ) → j < word t C.order_rows → P (t C.orders j)
  each = open_row_each (cell xs) n i d was.tables.ordered few b.top b.below high near

  beyond : Beyond (cell xs) t
  unfolding open_row fill opened
  beyond = beyond_same (cell xs) t refl

  resting_is : word t C.resting_orders ≡ word (cell xs) C.resting_orders
  unfolding open_row fill opened
  resting_is = refl

  rows : Rows t
  rows =
      record {
        numbers = rw beyond.last_is (each (λ r. r C.order_number ≤ word (cell xs) C.last) was.tables.numbered (omega (arith, here.1, c.at_most_last)));
        stored =
            subst (λ x. (j : ℕ) → j < word t C.order_rows → 0 < t C.orders j C.order_live → Stored (int x) (t C.orders j)) (sym beyond.fee_is)
            (each (λ r. 0 < r C.order_live → Stored (ledger (cell xs)).fee r) was.held.rows (λ m. absurd (omega (arith, here.3))));
      }

  sound : Sound t
  sound = orders_step (follows_itself was) does beyond rows (rw resting_is was.tables.resting_few)

  opens_there : {ys : List ℕ} → Is ys t → Opens xs ys n p
  opens_there {ys} g =
      let k = same_keeps t (cell ys) (λ b i k q. sym (g.same b i k q)) sound.tables.ordered.bounds in
      record {
        same = becomes g sound does.view;
        free =
            record {
              inside = rw k.rows_are here.0;
              number_is = k.cells p C.order_number here.0 (omega arith) ∙ here.1;
              free = k.cells p C.order_resting here.0 (omega arith) ∙ here.2;
            };
      }

  pub opens : {ys : List ℕ} (q : ℕ) → q ≡ p → Is ys (open_row d q n (cell xs)) → Opens xs ys n q
  opens {ys} q e h =
      let g : Is ys t = rw e at h in
      rw e (opens_there g)
