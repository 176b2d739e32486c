-- The run of numbers that an event moves. Assumes nothing.
use mathlib.Core.Path.{◌≡◌, sym, ap, ◌∙◌}
use mathlib.Core.Bool.{true, false≢true}
use mathlib.Core.Logic.{⊎_elim}
use mathlib.Core.List.{List}
use Prim.Native.Nat.{ℕ, ◌+◌, ◌-◌, ◌≤◌, ◌<◌}
use native.Mathlib.Omega.{arith}
use borrow.Author.Tests.{ltb-true}
use lib.Dec.{ltb}
use Rattle.le.proofs.Laws.{lt_or_le}
use Rattle.gateway.specs.Core.{owner_limit, in_flight}
use Rattle.gateway.specs.Rest.{with_delivered}
use Rattle.store.specs.Cells as C
use Rattle.store.specs.Layout.{cell}
use Rattle.store.specs.View.{word, account, gateway, Is}
use Rattle.store.proofs.Listed.{listed_length}
use Rattle.pending.specs.Pending as Pending
use Rattle.pending.proofs.Flights.{in_run, past_run}
use Rattle.pending.proofs.Views.{land_view, delivered_view}
use Rattle.sound.specs.Sound.{State, Becomes}
use Rattle.sound.proofs.Kept.{becomes}
use Rattle.sound.proofs.Waiting.{land_sound, delivered_sound}
use Rattle.outcome.specs.Parts.{with_rest}
use Rattle.outcome.proofs.Laws.{then_becomes}
use Rattle.delivery.specs.Delivery.{landed}

module _ {xs : List ℕ} (st : State xs) (n : ℕ) (e : in_flight n (gateway (cell xs)).core ≡ true) where
  pub high : n ≤ word (cell xs) C.last
  high = ⊎_elim (λ l. absurd (false≢true (past_run (cell xs) st.sound.tables.run n l ∙ e))) (λ l. l) (lt_or_le (word (cell xs) C.last) n)

  inside : word (cell xs) C.last - n < word (cell xs) C.flying
  inside = ltb-true _ _ (in_run (cell xs) st.sound.tables.run n high ∙ e)

  pub some_number : 0 < n
  some_number = omega (arith, inside, st.sound.tables.run, high)

  pub run_becomes : {ys : List ℕ} → Is ys (Pending.land n (cell xs)) →
      Becomes ys (record { core = record { ledger = (gateway (cell xs)).core.ledger; flights = (landed n (gateway (cell xs))).core.flights; accounts = (gateway (cell xs)).core.accounts }; rest = (gateway (cell xs)).rest })
  run_becomes h =
      let low : word (cell xs) C.last + 1 ≤ n + word (cell xs) C.flying = omega (arith, inside, high) in
      becomes h (land_sound (cell xs) st.sound n some_number low) (land_view n (cell xs) low high st.sound.tables.run)

  pub landed_becomes : {ys zs : List ℕ} → Is ys (Pending.land n (cell xs)) → Is zs (Pending.set_delivered n (cell ys)) → Becomes zs (landed n (gateway (cell xs)))
  landed_becomes {ys} h k =
      let b = run_becomes h in
      then_becomes (with_rest (with_delivered n)) b (becomes k (delivered_sound (cell ys) b.state.sound n) (delivered_view n (cell ys)))

-- an account's number in range
pub owner_is : (xs : List ℕ) (o w : ℕ) → w ≡ word (cell xs) C.owner_limit → ltb o w ≡ ltb o (owner_limit (gateway (cell xs)).core)
owner_is xs o w e = ap (ltb o) (e ∙ sym (listed_length (λ i. account i (cell xs C.accounts i)) (word (cell xs) C.owner_limit)))

pub ruleset runs = (owner_is, landed_becomes, high, some_number, arith)
