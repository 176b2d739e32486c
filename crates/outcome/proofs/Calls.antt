-- What a call gives, from its plan. Assumes nothing.
use Rattle.outcome.specs.declared.Refusal.TheVariants as R
use Rattle.outcome.specs.declared.Refusal.TheVariants.{TooShort}
use Rattle.std.specs.Prelude.{Ok, Err, Result}
use mathlib.Core.Path.{◌≡◌, refl, sym, ap, subst, ◌∙◌}
use mathlib.Core.Bool.{Bool, true, false, cond, not, ◌&&◌, and-eq-true_iff}
use mathlib.Core.List.{List, [], ◌∷◌}
use Prim.Native.Nat.{ℕ, ◌≤◌, ◌<◌}
use native.Mathlib.Omega.{arith}
use borrow.Author.Tests.{le-leb, lt-leb, not-true}
use lib.ListN.{length}
use lib.Dec.{eqb}
use Rattle.gateway.specs.Basics.{option}
use Rattle.gateway.specs.Limits.{too_short}
use Rattle.gateway.specs.Ledger.{Item}
use Rattle.gateway.specs.Core.{Tests, Origin, core_step}
use Rattle.gateway.specs.Rest.{Mail, Rest, stamped}
use Rattle.gateway.specs.Entry.{Answer, Plan, refuse, quiet, records, nothing, unless, sends}
use Rattle.gateway.specs.Calls.{Gateway, Call, Outcome, refused, done, mail_of, carry_out, call, plan, within}
use Rattle.gateway.specs.Fits.{CallFits}
use Rattle.gateway.specs.Invariant.{GatewayOk}
use Rattle.gateway.specs.Restart.{next_of}
use Rattle.gateway.proofs.Restart.{call_ok}
use Rattle.store.specs.Layout.{cell}
use Rattle.store.specs.View.{gateway}
use Rattle.rows.specs.Rows.{put_rows}
use Rattle.mailbox.specs.Mailbox.{places, mailed}
use Rattle.sound.specs.Sound.{Becomes}
use Rattle.outcome.specs.Between.{Between}
use Rattle.outcome.specs.declared.Refusal.{Refusal}
use Rattle.outcome.specs.Refusals.{refusal_code}
use Rattle.outcome.specs.Parts.{with_rest, rest_of, Tries, short, sent}
use Rattle.outcome.specs.Answers.{Ends, Answers, Unsent, Sent, Gives, Said, Says, answer_rows, Listed, Lists, verdict, failed}

-- ---- judging

-- a judge's verdict; that no code is 0 is `refl`
abbrev pub codes : Tests ℕ → Bool
codes [] = true
codes (t ∷ ts) = not (eqb t.0 0) && codes ts

pub judged : (ts : Tests ℕ) (p : Plan) → codes ts ≡ true → unless ts refuse p ≡ cond (eqb (verdict ts) 0) p (refuse (verdict ts))
unfolding unless
judged [] p e = refl
judged ((k, true) ∷ ts) p e = judged ts p ((and-eq-true_iff (not (eqb k 0)) (codes ts)).0 e).1
judged ((k, false) ∷ ts) p e = rw (not-true (eqb k 0) ((and-eq-true_iff (not (eqb k 0)) (codes ts)).0 e).0) refl

-- a refusal has a code
pub coded : (why : Refusal) → eqb (refusal_code why) 0 ≡ false
coded R.OutOfRange = refl
coded R.Foreign = refl
coded R.Exists = refl
coded R.Sequence = refl
coded R.Full = refl
coded R.TooShort = refl
coded R.Outside = refl
coded R.Inconsistent = refl
coded R.BadSession = refl
coded R.NotQuiet = refl
coded R.Malformed = refl
coded R.HasOrders = refl
coded R.BadFee = refl

-- tests with other answers than codes
pub unless_failed : {A : Type 0} (ts : Tests A) (no_way : A → Plan) (p : Plan) → unless ts no_way p ≡ option p no_way (failed ts)
unfolding unless
unless_failed [] no_way p = refl
unless_failed ((k, true) ∷ ts) no_way p = unless_failed ts no_way p
unless_failed ((k, false) ∷ ts) no_way p = refl

-- more messages than places
pub within_short : (room : ℕ) (p : Plan) → room < length (mail_of p) → within room p ≡ refuse too_short
unfolding within unless
within_short room p l = rw (lt-leb (length (mail_of p)) room l) refl

pub within_fits : (room : ℕ) (p : Plan) → length (mail_of p) ≤ room → within room p ≡ p
unfolding within unless
within_fits room p l = rw (le-leb (length (mail_of p)) room l) refl

-- ---- less said of an answer

pub ends_as : {kept kept' : Type 0} {tells tells' : Answer → List Mail → Type 0} (o : Outcome) (code : ℕ) (xs ys : List ℕ) → (kept → kept') → ((a : Answer) (ms : List Mail) → tells a ms → tells' a ms) →
    Ends o kept tells code xs ys → Ends o kept' tells' code xs ys
unfolding Ends
ends_as (refused k) code xs ys f h e = record { code_is = e.code_is; state_kept = e.state_kept; rest_kept = f e.rest_kept }
ends_as (done a is ms g) code xs ys f h e = record { code_is = e.code_is; becomes = e.becomes; tells = h a ms e.tells }

-- ---- any call: that its numbers fit comes of their types

module _ (xs : List ℕ) (x : Call) (fits : CallFits x) (b : Between xs) (kept : Type 0) (tells : Answer → List Mail → Type 0) where
  abbrev g : Gateway
  g = gateway (cell xs)

  again : (ys : List ℕ) (code : ℕ) → Ends (call g x) kept tells code xs ys → Between ys
  unfolding Ends
  again ys code h = go (call g x) (call_ok g x fits b.ok) h
    where
      go : (o : Outcome) → GatewayOk (next_of g o) → Ends o kept tells code xs ys → Between ys
      go (refused k) ok e = subst Between (sym e.state_kept) b
      go (done a is ms h) ok e = record { state = e.becomes.state; ok = subst GatewayOk (sym e.becomes.gateway_is) ok }

  pub ended : (o : Outcome) → call g x ≡ o → (ys : List ℕ) (code : ℕ) → Ends o kept tells code xs ys → Answers (call g x) kept tells code xs ys
  ended o e ys code h = let t : Ends (call g x) kept tells code xs ys = rw e h in record { ends = t; between = again ys code t }

  pub refuses : (k : ℕ) → plan g.core g.rest x ≡ refuse k → kept → Answers (call g x) kept tells k xs xs
  unfolding Ends
  refuses k e h = ended (refused k) (ap (carry_out g.core) e) xs k (record { code_is = refl; state_kept = refl; rest_kept = h })

  pub answers : {ys : List ℕ} (a : Answer) (ms : List Mail) (r : Rest) → plan g.core g.rest x ≡ quiet a ms r → Becomes ys (with_rest (λ _. stamped ms r) g) → tells a ms → Answers (call g x) kept tells 0 xs ys
  unfolding Ends
  answers {ys} a ms r e d t =
      ended (done a [] ms (with_rest (λ _. stamped ms r) g)) (ap (carry_out g.core) e) ys 0 (record { code_is = refl; becomes = d; tells = t })

  pub recorded : {ys : List ℕ} (from : Origin) (i : Item) (ms : List Mail) (r : Rest) → plan g.core g.rest x ≡ records from i ms r →
      Becomes ys (record { core = core_step from i g.core; rest = stamped ms r }) → tells nothing ms → Answers (call g x) kept tells 0 xs ys
  unfolding Ends
  recorded {ys} from i ms r e d t =
      ended (done nothing (i ∷ []) ms (record { core = core_step from i g.core; rest = stamped ms r })) (ap (carry_out g.core) e) ys 0
      (record { code_is = refl; becomes = d; tells = t })

-- ---- a call that sends: its plan is `within` the places

module _ (xs out : List ℕ) (x : Call) (fits : CallFits x) (b : Between xs) (q : Plan) (is_plan : plan (gateway (cell xs)).core (rest_of xs) x ≡ within (places (length out)) q) where
  pub gives_short : (n p : ℕ) → n ≡ length (mail_of q) → p ≡ places (length out) → p < n → Gives (call (gateway (cell xs)) x) (Err TooShort) xs xs out out
  gives_short n p e h l =
      refuses xs x fits b (Unsent 0 out out) (λ a ms. Sent a ms 0 out out) too_short (is_plan ∙ within_short (places (length out)) q (omega arith)) (refl, refl)

module _ (xs out : List ℕ) (x : Call) (fits : CallFits x) (b : Between xs) (ms : List Mail) (r : Rest) (is_plan : plan (gateway (cell xs)).core (rest_of xs) x ≡ within (places (length out)) (sends ms r)) where
  pub sends_short : (n p : ℕ) → n ≡ length ms → p ≡ places (length out) → p < n → Gives (call (gateway (cell xs)) x) (Err TooShort) xs xs out out
  sends_short = gives_short xs out x fits b (sends ms r) is_plan

  pub sends_done : {ys end : List ℕ} (n p : ℕ) → n ≡ length ms → p ≡ places (length out) → n ≤ p →
      Becomes ys (with_rest (λ _. stamped ms r) (gateway (cell xs))) → end ≡ mailed 0 ms out → Gives (call (gateway (cell xs)) x) (Ok n) xs ys out end
  sends_done {ys} {end} n p e h l d t =
      answers xs x fits b (Unsent n out end) (λ a ns. Sent a ns n out end) nothing ms r (is_plan ∙ within_fits (places (length out)) (sends ms r) (omega arith)) d
      (record { no_answer = refl; count_is = e; posted = t })

-- ---- a call that sends nothing

module _ (xs : List ℕ) (x : Call) (fits : CallFits x) (b : Between xs) (a : Answer) where
  pub says_refused : (k : ℕ) → plan (gateway (cell xs)).core (rest_of xs) x ≡ refuse k → Says a (call (gateway (cell xs)) x) k xs xs
  says_refused k e = refuses xs x fits b (Unit {0}) (Said a) k e tt

  pub says_done : {ys : List ℕ} (r : Rest) → plan (gateway (cell xs)).core (rest_of xs) x ≡ quiet a [] r → Becomes ys (with_rest (λ _. r) (gateway (cell xs))) → Says a (call (gateway (cell xs)) x) 0 xs ys
  says_done r e d = answers xs x fits b (Unit {0}) (Said a) a [] r e d (record { answer_is = refl; no_mail = refl })

pub says_recorded : (xs : List ℕ) (x : Call) → CallFits x → Between xs → {ys : List ℕ} (from : Origin) (i : Item) (r : Rest) →
    plan (gateway (cell xs)).core (rest_of xs) x ≡ records from i [] r → Becomes ys (record { core = core_step from i (gateway (cell xs)).core; rest = r }) →
    Says nothing (call (gateway (cell xs)) x) 0 xs ys
says_recorded xs x fits b from i r e d = recorded xs x fits b (Unit {0}) (Said nothing) from i [] r e d (record { answer_is = refl; no_mail = refl })

-- ---- a call that answers with rows of w bytes

module _ (xs out : List ℕ) (x : Call) (fits : CallFits x) (b : Between xs) (w : ℕ) where
  pub lists_short : plan (gateway (cell xs)).core (rest_of xs) x ≡ refuse too_short → Lists w (call (gateway (cell xs)) x) (Err TooShort) xs xs out out
  lists_short e = refuses xs x fits b (Unsent 0 out out) (λ a ms. Listed w a ms 0 out out) too_short e (refl, refl)

  pub lists_done : {ys end : List ℕ} (a : Answer) (r : Rest) (n : ℕ) → plan (gateway (cell xs)).core (rest_of xs) x ≡ quiet a [] r → n ≡ length (answer_rows a) →
      Becomes ys (with_rest (λ _. r) (gateway (cell xs))) → end ≡ put_rows w 0 (answer_rows a) out → Lists w (call (gateway (cell xs)) x) (Ok n) xs ys out end
  lists_done {ys} {end} a r n e h d t =
      answers xs x fits b (Unsent n out end) (λ c ms. Listed w c ms n out end) a [] r e d (record { no_mail = refl; count_is = h; listed = t })

-- ---- a call that is one attempt to send

-- f is what the plan does to the rest
pub gives_tried : (xs out : List ℕ) (x : Call) → CallFits x → Between xs → (ms : List Mail) (f : Rest → Rest) → plan (gateway (cell xs)).core (rest_of xs) x ≡ within (places (length out)) (sends ms (f (rest_of xs))) →
    {r : Result ℕ Refusal} {ys end : List ℕ} → Tries ms f r xs ys out end → Gives (call (gateway (cell xs)) x) r xs ys out end
gives_tried xs out x fits b ms f e (short l p q h) = rw (p, q, h) (sends_short xs out x fits b ms (f (rest_of xs)) e (length ms) (places (length out)) refl refl l)
gives_tried xs out x fits b ms f e (sent l p d) = rw p (sends_done xs out x fits b ms (f (rest_of xs)) e (length ms) (places (length out)) refl refl l d.becomes d.posted)
