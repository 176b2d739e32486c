-- A walk in which each step sends something and changes no more than the stamps of what it sends. Assumes nothing.
use Rattle.std.specs.Prelude.{Option, None}
use mathlib.Core.Path.{◌≡◌, refl, sym, ap, ap₂, ◌∙◌}
use mathlib.Core.Logic.{⊎_elim}
use mathlib.Core.List.{List, [], ◌∷◌, ◌++◌, map, append-nil, append_assoc}
use Prim.Native.Nat.{ℕ, zero, suc, ◌+◌, ◌≤◌, ◌<◌}
use native.Mathlib.Numerals.{add-one}
use native.Mathlib.Nat.{not-suc-le-zero}
use native.Mathlib.Omega.{arith}
use lib.ListN.{length, get_or, take, length-append}
use lib.Seq.{take-suc, take_all}
use Rattle.le.proofs.Laws.{lt_or_le}
use Rattle.gateway.specs.Basics.{each}
use Rattle.gateway.specs.Rest.{Session, Mail, stamped, each_from, each_session}
use Rattle.gateway.specs.Calls.{Gateway}
use Rattle.store.specs.Layout.{cell}
use Rattle.store.specs.View.{gateway}
use Rattle.sound.specs.Sound.{State}
use Rattle.outcome.specs.Parts.{with_rest, Steps, steps, Stepped, Sends}
use Rattle.outcome.proofs.Walk.{sends_none, sends_more, each_more}

-- ---- counting

pub steps_next : (f : Steps) (g : Gateway) (j : ℕ) → steps f g (j + 1) ≡ steps f g j ++ f g j
unfolding steps
steps_next f g j = rw add-one refl

pub steps_first : (f : Steps) (g : Gateway) → 0 ≡ length (steps f g 0)
unfolding steps
steps_first f g = refl

pub steps_count : (f : Steps) (g : Gateway) (j n k : ℕ) → n ≡ length (steps f g j) → k ≡ length (f g j) → n + k ≡ length (steps f g (j + 1))
steps_count f g j n k e h = omega (arith, ap length (steps_next f g j), length-append (steps f g j) (f g j))

-- the steps so far and one more send at most what all send
pub steps_most : (f : Steps) (g : Gateway) (j n : ℕ) → j < n → length (steps f g j) + length (f g j) ≤ length (steps f g n)
unfolding steps
steps_most f g j zero l = absurd (not-suc-le-zero l)
steps_most f g j (suc n) l =
    let sum = length-append (steps f g n) (f g n) in
    ⊎_elim (λ (h : j < n). omega (arith, steps_most f g j n h, sum))
    (λ h. let e : j ≡ n = omega arith in omega (arith, sum, ap (λ i. length (steps f g i) + length (f g i)) e)) (lt_or_le j n)

-- ---- writing: what a step sends does not look at the stamps

module _ (f : Steps) (keeps : (g : Gateway) (ms : List Mail) (j : ℕ) → f (with_rest (stamped ms) g) j ≡ f g j) (xs out : List ℕ) (i : ℕ) where
  abbrev g : Gateway
  g = gateway (cell xs)

  -- the first j steps were made, and n is the next place
  pub record Sent (ys end : List ℕ) (n j : ℕ) : Type 0 where
    pub sends : Sends i (steps f g j) (λ r. r) xs ys out end
    pub next_is : n ≡ i + length (steps f g j)

  pub sent_first : State xs → Sent xs out i 0
  unfolding steps
  sent_first st = record { sends = sends_none i out st; next_is = omega arith }

  module _ {ys end : List ℕ} {n j : ℕ} (t : Sent ys end n j) where
    -- what the next step sends is what it would have sent at first
    next_mail : f (gateway (cell ys)) j ≡ f g j
    next_mail = ap (λ (h : Gateway). f h j) t.sends.becomes.gateway_is ∙ keeps g (steps f g j) j

    pub sent_room : (m k : ℕ) → j < m → i + length (steps f g m) ≤ k → n + length (f (gateway (cell ys)) j) ≤ k
    sent_room m k l h = omega (arith, ap length next_mail, t.next_is, steps_most f g j m l)

    pub sent_more : {zs fin : List ℕ} {k : ℕ} → Stepped f n j k ys zs end fin → Sent zs fin k (j + 1)
    sent_more {zs} {fin} v =
        let s : Sends n (f g j) (λ r. r) ys zs end fin = rw next_mail at v.sends in
        record {
          sends = rw (← steps_next f g j) at (sends_more xs out i n (steps f g j) (f g j) (λ r. r) t.sends t.next_is s);
          next_is = omega (arith, v.next_is, ap length next_mail, t.next_is, ap length (steps_next f g j), length-append (steps f g j) (f g j));
        }

-- ---- the definitions' lists as steps

module _ {A : Type 0} (h : A → List Mail) where
  pub each_append : (xs ys : List A) → each h (xs ++ ys) ≡ each h xs ++ each h ys
  each_append [] ys = refl
  each_append (x ∷ xs) ys = ap (λ ms. h x ++ ms) (each_append xs ys) ∙ sym (append_assoc (h x) (each h xs) (each h ys))

  module _ (f : Steps) (g : Gateway) (xs : List A) (d : A) (e : (j : ℕ) → j < length xs → f g j ≡ h (get_or xs j d)) where
    each_taken : (n : ℕ) → n ≤ length xs → steps f g n ≡ each h (take n xs)
    unfolding steps
    each_taken zero l = refl
    each_taken (suc n) l =
        ap (λ ms. ms ++ f g n) (each_taken n (omega arith)) ∙ ap (λ ms. each h (take n xs) ++ ms) (e n (omega arith) ∙ sym (append-nil (h (get_or xs n d))))
        ∙ sym (each_append (take n xs) (get_or xs n d ∷ [])) ∙ ap (each h) (sym (take-suc xs n d (omega arith)))

    -- a step for each element
    pub steps_each : (n : ℕ) → n ≡ length xs → steps f g n ≡ each h xs
    steps_each n q = each_taken n (omega arith) ∙ ap (each h) (take_all n xs (omega arith))

-- each element is sent as one message
pub each_one : {A : Type 0} (h : A → Mail) (xs : List A) → each (λ x. h x ∷ []) xs ≡ map h xs
each_one h [] = refl
each_one h (x ∷ xs) = ap (λ ms. h x ∷ ms) (each_one h xs)

-- a step for each session
module _ (h : ℕ → Option Session → List Mail) (f : Steps) (g : Gateway) (e : (j : ℕ) → f g j ≡ h j (get_or g.rest.sessions j None)) where
  sessions_taken : (n : ℕ) → n ≤ length g.rest.sessions → steps f g n ≡ each_from 0 h (take n g.rest.sessions)
  unfolding steps
  sessions_taken zero l = refl
  sessions_taken (suc n) l =
      ap (λ ms. ms ++ f g n) (sessions_taken n (omega arith)) ∙ ap (λ ms. each_from 0 h (take n g.rest.sessions) ++ ms) (e n)
      ∙ sym (each_more h g.rest.sessions n (omega arith))

  pub steps_sessions : (n : ℕ) → n ≡ length g.rest.sessions → steps f g n ≡ each_session h g.rest
  steps_sessions n q = sessions_taken n (omega arith) ∙ ap (each_from 0 h) (take_all n g.rest.sessions (omega arith))

-- ---- the whole walk

module _ (f : Steps) (keeps : (g : Gateway) (ms : List Mail) (j : ℕ) → f (with_rest (stamped ms) g) j ≡ f g j) where
  pub steps_kept : (g : Gateway) (ms : List Mail) (n : ℕ) → steps f (with_rest (stamped ms) g) n ≡ steps f g n
  unfolding steps
  steps_kept g ms zero = refl
  steps_kept g ms (suc n) = ap₂ (λ (a b : List Mail). a ++ b) (steps_kept g ms n) (keeps g ms n)

-- f sends ms in as many steps as there are rows
module _ (f : Steps) (keeps : (g : Gateway) (ms : List Mail) (j : ℕ) → f (with_rest (stamped ms) g) j ≡ f g j) (xs out : List ℕ) (i rows : ℕ) (ms : Gateway → List Mail)
    (all : steps f (gateway (cell xs)) rows ≡ ms (gateway (cell xs))) {ys end : List ℕ} {n j : ℕ} (t : Sent f keeps xs out i ys end n j) where
  pub walk_room : j < rows → (k : ℕ) → i + length (ms (gateway (cell xs))) ≤ k → n + length (f (gateway (cell ys)) j) ≤ k
  walk_room l k h = sent_room f keeps xs out i t rows k l (omega (arith, ap length all))

  pub walk_last : j ≤ rows → rows ≤ j → Stepped (λ h k. ms h) i 0 n xs ys out end
  walk_last a b =
      let e : j ≡ rows = omega arith in
      let q : steps f (gateway (cell xs)) j ≡ ms (gateway (cell xs)) = ap (steps f (gateway (cell xs))) e ∙ all in
      record { next_is = t.next_is ∙ ap (λ l. i + length l) q; sends = rw q at t.sends }
