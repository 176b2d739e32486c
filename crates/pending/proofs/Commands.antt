-- A command's row: what is written for it is read back. Assumes nothing.
use Rattle.std.specs.Prelude.{Option, Some, None}
use mathlib.Core.Path.{◌≡◌, refl, sym, ap, ◌∙◌}
use mathlib.Core.Logic.{⊎_elim}
use mathlib.Core.List.{List, [], ◌∷◌}
use Prim.Native.Nat.{ℕ, ◌+◌, ◌≤◌, ◌<◌}
use native.Mathlib.Nat.{eq-or-lt_of_le}
use native.Mathlib.Omega.{arith}
use borrow.Author.Tests.{eq-eqb, ne_eqb}
use lib.IntN.{ℤ}
use mir.Syntax.{w64}
use mir.Val.{of_z}
use Rattle.orderbook.specs.declared.Side.{Side}
use Rattle.orderbook.specs.declared.Side.TheVariants.{Buy, Sell}
use Rattle.orderbook.specs.declared.TimeInForce.{TimeInForce}
use Rattle.orderbook.specs.declared.TimeInForce.TheVariants.{Gtc, Ioc, Fok, PostOnly}
use Rattle.orderbook.specs.declared.Command.{Command}
use Rattle.orderbook.specs.declared.Command.TheVariants.{Limit, Market, Cancel, Modify, Stop, CancelAll, SetPhase}
use Rattle.protocol.specs.Codes.{side_code, tif_code}
use Rattle.words.specs.Words.{int, word_of, modulus}
use Rattle.words.proofs.Int.{int_of, of_int}
use Rattle.gateway.specs.Bytes.{price_flag, price_word}
use Rattle.gateway.specs.Entry.{queued}
use Rattle.gateway.specs.Ledger.{owner_of}
use Rattle.gateway.specs.Rest.{with_batch}
use Rattle.store.specs.Cells as C
use Rattle.store.specs.Layout.{cell}
use Rattle.store.specs.View.{Row, Store, fill, listed, side, tif, maybe_price, maybe_qty, command, word, gateway}
use Rattle.pending.specs.Pending as P
use Rattle.pending.proofs.Views.{listed_push, with_rest}

pub word_is : (w : ℕ) (z : ℤ) → w < modulus → int w ≡ z → w ≡ word_of z
word_is w z h e = sym (of_int w h) ∙ ap (of_z w64) e

-- ---- what is read back

pub side_back : (s : Side) → side (side_code s) ≡ s
side_back Buy = refl
side_back Sell = refl

tif_back : (t : TimeInForce) → tif (tif_code t) ≡ t
tif_back Gtc = refl
tif_back Ioc = refl
tif_back Fok = refl
tif_back PostOnly = refl

pub qty_back : (q : Option ℕ) → maybe_qty (P.qty_flag q) (P.qty_word q) ≡ q
qty_back None = refl
qty_back (Some q) = refl

pub price_back : (p : Option ℤ) → P.MaybeFits p → maybe_price (price_flag p) (price_word p) ≡ p
price_back None f = refl
price_back (Some p) f = ap Some (int_of p f)

abbrev row : Command → Row
row c = P.by_cell (P.command_row c)

abbrev cells_of : Row → List ℕ
cells_of r = r 0 ∷ r 1 ∷ r 2 ∷ r 3 ∷ r 4 ∷ r 5 ∷ r 6 ∷ r 7 ∷ r 8 ∷ r 9 ∷ r 10 ∷ r 11 ∷ []

row_cells : (c : Command) → P.command_row c ≡ cells_of (row c)
row_cells (Limit id owner s price qty t d) = refl
row_cells (Market id owner s qty) = refl
row_cells (Cancel id owner) = refl
row_cells (Modify id owner price qty) = refl
row_cells (Stop id owner s trigger limit qty) = refl
row_cells (CancelAll owner) = refl
row_cells (SetPhase p) = refl

row_owner : (c : Command) → row c C.command_owner ≡ owner_of c
unfolding owner_of
row_owner (Limit id owner s price qty t d) = refl
row_owner (Market id owner s qty) = refl
row_owner (Cancel id owner) = refl
row_owner (Modify id owner price qty) = refl
row_owner (Stop id owner s trigger limit qty) = refl
row_owner (CancelAll owner) = refl
row_owner (SetPhase p) = refl

row_back : (c : Command) → P.Batched c → P.PricesFit c → command (row c) ≡ c
row_back (Limit id owner s price qty t d) b f = rw (side_back s, int_of price f, tif_back t, qty_back d) refl
row_back (Market id owner s qty) b f = rw (side_back s) refl
row_back (Cancel id owner) b f = refl
row_back (Modify id owner price qty) b f = rw (int_of price f) refl
row_back (Stop id owner s trigger limit qty) b f = rw (side_back s, int_of trigger f.0, price_back limit f.1) refl
row_back (CancelAll owner) b f = refl
row_back (SetPhase p) b f = absurd b

-- ---- a row that is read from the bytes

module _ (xs vs : List ℕ) (i : ℕ) (e : vs ≡ listed (λ j. cell xs C.batch i (0 + j)) 12) where
  pub read_command : command (P.by_cell vs) ≡ command (cell xs C.batch i)
  unfolding listed
  read_command = rw e refl

  pub read_fits : P.CommandFits (cell xs C.batch i) → P.CommandFits (P.by_cell vs)
  unfolding listed
  read_fits f = record { owner_fits = rw e f.owner_fits }

-- ---- a row joins the batch

module _ (r : Row) (s : Store) where
  abbrev pushed : Store
  pushed = P.push_row C.batch C.waiting (cells_of r) s

  row_view : gateway pushed ≡ with_rest (queued (command r)) (gateway s)
  unfolding fill
  row_view =
      ap (λ cs. with_rest (with_batch cs) (gateway s))
      (listed_push (λ i. command (s C.batch i)) (λ i. command (pushed C.batch i)) (word s C.waiting) (command r)
      (λ j h. rw (ne_eqb j (word s C.waiting) (λ e. omega (arith, e))) refl)
      (rw (eq-eqb (word s C.waiting) (word s C.waiting) refl) refl))

  pushed_other : (j l : ℕ) → j < word s C.waiting → pushed C.batch j l ≡ s C.batch j l
  unfolding fill
  pushed_other j l h = rw (ne_eqb j (word s C.waiting) (λ e. omega (arith, e))) refl

  pushed_owner : pushed C.batch (word s C.waiting) C.command_owner ≡ r C.command_owner
  unfolding fill
  pushed_owner = rw (eq-eqb (word s C.waiting) (word s C.waiting) refl) refl

module _ (c : Command) (s : Store) (t : P.Typed c) where
  pub command_view : P.Batched c → gateway (P.command_push c s) ≡ with_rest (queued c) (gateway s)
  command_view b =
      ap (λ vs. gateway (P.push_row C.batch C.waiting vs s)) (row_cells c) ∙ row_view (row c) s ∙ ap (λ k. with_rest (queued k) (gateway s)) (row_back c b t.prices_fit)

  -- its row can be read, and so can those before it
  owner_cell : (j : ℕ) → P.command_push c s C.batch j C.command_owner ≡ pushed (row c) s C.batch j C.command_owner
  owner_cell j = ap (λ vs. P.push_row C.batch C.waiting vs s C.batch j C.command_owner) (row_cells c)

  pub command_fits : P.CommandFits (P.command_push c s C.batch (word s C.waiting))
  command_fits = record { owner_fits = rw (owner_cell (word s C.waiting) ∙ pushed_owner (row c) s ∙ row_owner c) t.owner_fits }

  pub batch_fits : P.BatchFits s → P.BatchFits (P.command_push c s)
  batch_fits f j h =
      ⊎_elim (λ (e : j ≡ word s C.waiting). rw e command_fits)
      (λ l. record { owner_fits = rw (owner_cell j ∙ pushed_other (row c) s j C.command_owner l) (f j l).owner_fits })
      (eq-or-lt_of_le (let l : j ≤ word s C.waiting = omega arith in l))
