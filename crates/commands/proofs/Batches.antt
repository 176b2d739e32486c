-- The batch is handed over. Assumes nothing.
use Rattle.outcome.specs.declared.Refusal.TheVariants.{TooShort}
use Rattle.std.specs.Prelude.{Ok, Err}
use mathlib.Core.Path.{◌≡◌, refl, sym, ap, ◌∙◌}
use mathlib.Core.List.{List, [], ◌∷◌, ◌++◌, map}
use Prim.Native.Nat.{ℕ, ◌+◌, ◌*◌, ◌≤◌, ◌<◌}
use native.Mathlib.Numerals.{add-one}
use native.Mathlib.Omega.{arith}
use borrow.Author.Tests.{le-leb, lt-leb}
use lib.ListN.{length, get_or, take, length-map}
use lib.Seq.{take-suc, take_all, length-take-le}
use Rattle.orderbook.specs.declared.Command.{Command}
use Rattle.orderbook.specs.declared.Command.TheVariants.{CancelAll}
use Rattle.gateway.specs.Rest.{with_batch}
use Rattle.gateway.specs.Entry.{number_is, commands, unless, quiet}
use Rattle.gateway.specs.Calls.{call, plan, last_seq, take_batch}
use Rattle.store.specs.Cells as C
use Rattle.store.specs.Layout.{cell}
use Rattle.store.specs.View.{word, command, gateway, Is}
use Rattle.store.proofs.Listed.{listed_at}
use Rattle.orders.proofs.Shown.{map_append}
use Rattle.pending.specs.Pending as Pending
use Rattle.pending.specs.Pending.{command_row, CommandFits}
use Rattle.pending.proofs.Views.{clear_view}
use Rattle.rows.specs.Rows.{put_row, put_rows}
use Rattle.rows.proofs.Laws.{rows_one, rows_append}
use Rattle.sound.specs.Sound.{State, Becomes}
use Rattle.sound.proofs.Kept.{becomes}
use Rattle.sound.proofs.Waiting.{clear_sound}
use Rattle.mailbox.specs.Mailbox.{places}
use Rattle.outcome.specs.Between.{Between}
use Rattle.outcome.specs.Parts.{with_rest, rest_of}
use Rattle.outcome.specs.Answers.{Says, Lists}
use Rattle.outcome.proofs.Calls.{says_done, lists_short, lists_done}
use Rattle.commands.proofs.Numbering.{batch_is}

-- ---- the loop: the first j rows stand in out

module _ (xs out : List ℕ) where
  abbrev batch : List Command
  batch = (rest_of xs).batch

  abbrev rows : ℕ → List (List ℕ)
  rows j = map command_row (take j batch)

  pub rows_none : out ≡ put_rows 96 0 (rows 0) out
  unfolding put_rows
  rows_none = refl

  module _ (j : ℕ) (l : j < word (cell xs) C.waiting) where
    inside : j < length batch
    inside = omega (arith, l, batch_is (cell xs))

    one_more : rows (j + 1) ≡ rows j ++ (command_row (command (cell xs C.batch j)) ∷ [])
    one_more =
        ap rows (add-one j) ∙ ap (map command_row) (take-suc batch j (CancelAll 0) inside)
        ∙ map_append command_row (take j batch) (get_or batch j (CancelAll 0) ∷ [])
        ∙ ap (λ k. rows j ++ (command_row k ∷ [])) (listed_at (λ i. command (cell xs C.batch i)) (word (cell xs) C.waiting) j (CancelAll 0) l)

    place_is : 0 + length (rows j) ≡ j
    place_is = omega (arith, length-map (take j batch) command_row, length-take-le j batch (omega (arith, inside)))

    pub rows_more : (mid end : List ℕ) → mid ≡ put_rows 96 0 (rows j) out → end ≡ put_row mid (96 * j) (command_row (command (cell xs C.batch j))) → end ≡ put_rows 96 0 (rows (j + 1)) out
    rows_more mid end p q =
        q ∙ ap (λ ys. put_row ys (96 * j) row) p ∙ sym (rows_one 96 j row (put_rows 96 0 (rows j) out))
        ∙ ap (λ i. put_rows 96 i (row ∷ []) (put_rows 96 0 (rows j) out)) (sym place_is) ∙ sym (rows_append 96 0 (rows j) (row ∷ []) out)
        ∙ ap (λ rs. put_rows 96 0 rs out) (sym one_more)
      where
        row : List ℕ
        row = command_row (command (cell xs C.batch j))

  pub rows_all : (j : ℕ) (end : List ℕ) → word (cell xs) C.waiting ≤ j → end ≡ put_rows 96 0 (rows j) out → end ≡ put_rows 96 0 (map command_row batch) out
  rows_all j end l p = p ∙ ap (λ ks. put_rows 96 0 (map command_row ks) out) (take_all j batch (omega (arith, l, batch_is (cell xs))))

-- ---- the call

pub clear_becomes : {xs ys : List ℕ} → State xs → Is ys (Pending.clear_batch (cell xs)) → Becomes ys (with_rest (with_batch []) (gateway (cell xs)))
clear_becomes {xs} st h = becomes h (clear_sound (cell xs) st.sound) (clear_view (cell xs))

module _ (xs out : List ℕ) (n p : ℕ) (b : Between xs) (n_is : n ≡ word (cell xs) C.waiting) (room : p ≡ places (length out)) where
  pub batch_short : p < n → Lists 96 (call (gateway (cell xs)) (take_batch (places (length out)))) (Err TooShort) xs xs out out
  unfolding plan unless
  batch_short l =
      lists_short xs out (take_batch (places (length out))) tt b 96
      (rw (lt-leb (length (rest_of xs).batch) (places (length out)) (omega (arith, l, n_is, room, batch_is (cell xs)))) refl)

  pub batch_done : {ys end : List ℕ} → n ≤ p → end ≡ put_rows 96 0 (map command_row (rest_of xs).batch) out → Becomes ys (with_rest (with_batch []) (gateway (cell xs))) →
      Lists 96 (call (gateway (cell xs)) (take_batch (places (length out)))) (Ok n) xs ys out end
  unfolding plan unless
  batch_done l h d =
      lists_done xs out (take_batch (places (length out))) tt b 96 (commands (rest_of xs).batch) (with_batch [] (rest_of xs)) n
      (rw (le-leb (length (rest_of xs).batch) (places (length out)) (omega (arith, l, n_is, room, batch_is (cell xs)))) refl)
      (omega (arith, n_is, batch_is (cell xs), length-map (rest_of xs).batch command_row)) d h

-- ---- the last number

pub last_said : (xs : List ℕ) (r : ℕ) → Between xs → r ≡ word (cell xs) C.last → Says (number_is r) (call (gateway (cell xs)) last_seq) 0 xs xs
unfolding plan
last_said xs r b e =
    says_done xs last_seq tt b (number_is r) (gateway (cell xs)).rest (ap (λ n. quiet (number_is n) [] (gateway (cell xs)).rest) (sym e)) (record { state = b.state; gateway_is = refl })

pub ruleset batches = (last_said, clear_becomes, batch_short, batch_done, arith)
