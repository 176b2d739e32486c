-- The collar is set. Assumes nothing.
use Rattle.std.specs.Prelude.{Option, Some, None}
use mathlib.Core.Path.{◌≡◌, refl, ap}
use mathlib.Core.List.{List}
use Prim.Native.Nat.{ℕ, ◌+◌}
use Rattle.gateway.specs.Rest.{with_collar}
use Rattle.gateway.specs.Entry.{nothing}
use Rattle.gateway.specs.Calls.{call, plan, set_paper_collar}
use Rattle.store.specs.Layout.{cell}
use Rattle.store.specs.View.{optional, gateway, Is}
use Rattle.pending.specs.Pending as Pending
use Rattle.sound.proofs.Kept.{becomes}
use Rattle.sound.proofs.Waiting.{collar_sound}
use Rattle.clients.proofs.Laws.{plus_one}
use Rattle.outcome.specs.Between.{Between}
use Rattle.outcome.specs.Parts.{rest_of}
use Rattle.outcome.specs.Answers.{Says}
use Rattle.outcome.proofs.Calls.{says_done}

pub no_percent : (p : Option ℕ) → p ≡ None → optional 0 ≡ p
no_percent p e = rw e refl

pub one_percent : (p : Option ℕ) (n : ℕ) → p ≡ Some n → optional (n + 1) ≡ p
one_percent p n e = rw e (plus_one (n + 1) n refl)

pub collar_set : (xs : List ℕ) {ys : List ℕ} (p : Option ℕ) (w : ℕ) → Between xs → optional w ≡ p → Is ys (Pending.set_collar w (cell xs)) → Says nothing (call (gateway (cell xs)) (set_paper_collar p)) 0 xs ys
unfolding plan
collar_set xs p w b e h =
    says_done xs (set_paper_collar p) tt b nothing (with_collar p (rest_of xs)) refl
    (becomes h (collar_sound (cell xs) b.state.sound w) (ap (λ (o : Option ℕ). record { core = (gateway (cell xs)).core; rest = with_collar o (rest_of xs) }) e))

pub ruleset collars = (no_percent, one_percent, collar_set)
