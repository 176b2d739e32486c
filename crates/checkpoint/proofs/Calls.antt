-- The call, from its tests. Assumes nothing.
use Rattle.outcome.specs.declared.Refusal.TheVariants.{TooShort, NotQuiet}
use Rattle.std.specs.Prelude.{Ok, Err}
use mathlib.Core.Path.{◌≡◌, refl, sym, ap, ◌∙◌}
use mathlib.Core.Bool.{Bool, true, false, ◌&&◌, and-eq-true_iff, false≢true}
use mathlib.Core.List.{List, [], ◌∷◌, ◌++◌}
use Prim.Native.Nat.{ℕ, zero, suc, ◌+◌, ◌*◌, ◌≤◌, ◌<◌}
use native.Mathlib.Omega.{arith}
use borrow.Author.Tests.{le-leb, lt-leb, eq-eqb, ne_eqb, not-true, not-false}
use lib.Dec.{eqb, leb}
use lib.ListN.{length}
use Rattle.gateway.specs.Basics.{is_empty}
use Rattle.gateway.specs.Limits.{not_quiet, too_short}
use Rattle.gateway.specs.Bytes.{encode}
use Rattle.gateway.specs.Entry as Entry
use Rattle.gateway.specs.Entry.{Plan, refuse, unless, bytes}
use Rattle.gateway.specs.Calls.{Call, call, plan, checkpoint}
use Rattle.gateway.proofs.Bytes.{encode_length}
use Rattle.store.specs.Cells as C
use Rattle.store.specs.Layout.{cell}
use Rattle.store.specs.View.{listed, word, command, gateway}
use Rattle.outcome.specs.Answers.{Unsent}
use Rattle.outcome.specs.Between.{Between}
use Rattle.outcome.specs.Parts.{rest_of}
use Rattle.outcome.proofs.Calls.{refuses, answers}
use Rattle.checkpoint.specs.Put.{quiet, saved_in, put_bytes}
use Rattle.checkpoint.specs.Written.{Written, Writes}
use Rattle.checkpoint.proofs.Stores.{put_front, stores}
use Rattle.checkpoint.proofs.Walks.{walks}

-- ---- quiet

empty_is : {A : Type 0} (f : ℕ → A) (n : ℕ) → is_empty (listed f n) ≡ eqb n 0
unfolding listed
empty_is f zero = refl
empty_is f (suc n) = go (listed f n) ∙ sym (ne_eqb (suc n) 0 (λ e. omega arith))
  where
    go : (l : List _) → is_empty (l ++ (f n ∷ [])) ≡ false
    go [] = refl
    go (x ∷ l) = refl

module _ (xs : List ℕ) (w : ℕ) (e : w ≡ word (cell xs) C.waiting) where
  batch_is : is_empty (rest_of xs).batch ≡ eqb w 0
  batch_is = empty_is (λ i. command (cell xs C.batch i)) (word (cell xs) C.waiting) ∙ ap (λ n. eqb n 0) (sym e)

  pub quiet_waiting : (w ≡ 0 → ⊥) → false ≡ quiet (gateway (cell xs))
  quiet_waiting z = rw (batch_is, ne_eqb w 0 z) refl

  pub quiet_is : (d l : ℕ) → w ≡ 0 → d ≡ word (cell xs) C.delivered → l ≡ word (cell xs) C.last → eqb d l ≡ quiet (gateway (cell xs))
  quiet_is d l z h k = rw (batch_is, eq-eqb w 0 z, h, k) refl

-- ---- the call

module _ (xs out : List ℕ) (b : Between xs) (q : Bool) (q_is : q ≡ quiet (gateway (cell xs))) where
  abbrev bs : List ℕ
  bs = encode (saved_in xs)

  abbrev x : Call
  x = checkpoint (length out)

  pub loud : q ≡ false → Writes (call (gateway (cell xs)) x) (Err NotQuiet) xs xs out out
  unfolding plan unless
  loud t =
      refuses xs x tt b (Unsent 0 out out) (λ a ms. Written a ms 0 out out) not_quiet
      (go (is_empty (rest_of xs).batch) (eqb (rest_of xs).delivered (gateway (cell xs)).core.ledger.last) (leb (length bs) (length out)) (Entry.quiet (bytes bs) [] (rest_of xs)) (sym q_is ∙ t)) (refl, refl)
    where
      go : (u v c : Bool) (p : Plan) → (u && v) ≡ false → unless ((not_quiet, u) ∷ (not_quiet, v) ∷ (too_short, c) ∷ []) refuse p ≡ refuse not_quiet
      go true true c p h = absurd (false≢true (sym h))
      go true false c p h = refl
      go false v c p h = refl

  module _ (t : q ≡ true) (w n : ℕ) (w_is : w ≡ length (saved_in xs).wallets) (n_is : n ≡ length (saved_in xs).orders) where
    size_is : length bs ≡ 25 + 20 * w + 37 * n
    size_is = omega (arith, encode_length (saved_in xs))

    judged : (c : Bool) → leb (length bs) (length out) ≡ c → plan (gateway (cell xs)).core (rest_of xs) x ≡ unless ((too_short, c) ∷ []) refuse (Entry.quiet (bytes bs) [] (rest_of xs))
    unfolding plan unless
    judged c e =
        let h = (and-eq-true_iff (is_empty (rest_of xs).batch) (eqb (rest_of xs).delivered (gateway (cell xs)).core.ledger.last)).0 (sym q_is ∙ t) in
        rw (h.0, h.1, e) refl

    pub short : length out < 25 + 20 * w + 37 * n → Writes (call (gateway (cell xs)) x) (Err TooShort) xs xs out out
    unfolding unless
    short l = refuses xs x tt b (Unsent 0 out out) (λ a ms. Written a ms 0 out out) too_short (judged false (lt-leb (length bs) (length out) (omega (arith, size_is)))) (refl, refl)

    pub saved : (end : List ℕ) → 25 + 20 * w + 37 * n ≤ length out → end ≡ put_bytes 0 bs out → Writes (call (gateway (cell xs)) x) (Ok (25 + 20 * w + 37 * n)) xs xs out end
    unfolding unless
    saved end l e =
        answers xs x tt b (Unsent (25 + 20 * w + 37 * n) out end) (λ a ms. Written a ms (25 + 20 * w + 37 * n) out end) (bytes bs) [] (rest_of xs) (judged true (le-leb (length bs) (length out) (omega (arith, size_is))))
        (record { state = b.state; gateway_is = refl }) (record { no_mail = refl; count_is = sym size_is; written = e ∙ put_front bs out (omega (arith, size_is)) })

pub ruleset laws = (stores, walks, not-true, not-false, quiet_waiting, quiet_is, loud, short, saved, arith)
