-- No session is connected: the first slots, one by one. Assumes nothing.
use Rattle.std.specs.Prelude.{Option, Some, None, is_some}
use mathlib.Core.Path.{◌≡◌, refl, sym, ap, ◌∙◌}
use mathlib.Core.Bool.{Bool, true, false, false≢true}
use mathlib.Core.List.{List, [], ◌∷◌}
use Prim.Native.Nat.{ℕ, zero, suc, ◌+◌, ◌≤◌, ◌<◌}
use native.Mathlib.Nat.{not-suc-le-zero}
use native.Mathlib.Numerals.{add-one}
use native.Mathlib.Omega.{arith}
use borrow.Author.Tests.{ne_eqb}
use lib.ListN.{length, get_or, take}
use lib.Seq.{take_all}
use Rattle.gateway.specs.Limits.{session_slots}
use Rattle.gateway.specs.Rest.{Session, no_session}
use Rattle.store.specs.Cells as C
use Rattle.store.specs.Layout.{cell}
use Rattle.clients.specs.declared.Session as Words
use Rattle.clients.specs.Clients.{session_words}
use Rattle.clients.proofs.Laws.{absent, in_slot}
use Rattle.outcome.specs.Parts.{rest_of}
use Rattle.outcome.proofs.Walk.{slots}

-- ---- lists

free_next : (xs : List (Option Session)) (j : ℕ) → j < length xs → no_session (take j xs) ≡ true → get_or xs j None ≡ None → no_session (take (suc j) xs) ≡ true
free_next [] j l h e = absurd (not-suc-le-zero l)
free_next (None ∷ xs) zero l h e = refl
free_next (Some x ∷ xs) zero l h e = absurd (false≢true (ap is_some (sym e)))
free_next (None ∷ xs) (suc j) l h e = free_next xs j (omega arith) h e
free_next (Some x ∷ xs) (suc j) l h e = h

one_there : (xs : List (Option Session)) (j : ℕ) → is_some (get_or xs j None) ≡ true → false ≡ no_session xs
one_there [] j e = absurd (false≢true e)
one_there (None ∷ xs) zero e = absurd (false≢true e)
one_there (Some x ∷ xs) zero e = refl
one_there (None ∷ xs) (suc j) e = one_there xs j e
one_there (Some x ∷ xs) (suc j) e = refl

-- ---- the slots

module _ (xs : List ℕ) where
  abbrev pub free_below : ℕ → Bool
  free_below j = no_session (take j (rest_of xs).sessions)

  module _ (s : ℕ) (x : Words.Session) (l : s < session_slots) (x_is : x ≡ session_words (cell xs C.sessions s)) where
    pub slot_free : x.connected ≡ 0 → free_below s ≡ true → free_below (s + 1) ≡ true
    slot_free e h =
        ap free_below (add-one s) ∙ free_next (rest_of xs).sessions s (rw (slots xs) l) h (sym (in_slot xs s x l x_is) ∙ absent x e)

    pub slot_taken : (x.connected ≡ 0 → ⊥) → false ≡ no_session (rest_of xs).sessions
    slot_taken e = one_there (rest_of xs).sessions s (ap is_some (sym (in_slot xs s x l x_is)) ∙ rw (ne_eqb x.connected 0 e) refl)

  pub all_free : (s : ℕ) → session_slots ≤ s → free_below s ≡ true → true ≡ no_session (rest_of xs).sessions
  all_free s l h = sym (ap no_session (sym (take_all s (rest_of xs).sessions (rw (slots xs) l))) ∙ h)

pub ruleset alone = (slot_free, slot_taken, all_free, arith)
