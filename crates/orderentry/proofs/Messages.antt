-- What every order-entry message shares, and those that place nothing. Assumes nothing.
use Rattle.outcome.specs.declared.Refusal.TheVariants.{TooShort}
use Rattle.std.specs.Prelude.{Option, Some, None, is_some, Ok, Err, Result}
use mathlib.Core.Path.{◌≡◌, refl, sym, ap, subst, ◌∙◌}
use mathlib.Core.Bool.{Bool, true, false, cond, not, ◌&&◌}
use mathlib.Core.List.{List, [], ◌∷◌}
use Prim.Native.Nat.{ℕ, ◌+◌, ◌^◌, ◌≤◌, ◌<◌}
use native.Mathlib.Omega.{arith}
use lib.IntN.{ℤ}
use lib.ListN.{length}
use lib.Dec.{ltb}
use Rattle.orderbook.specs.declared.Command.{Command}
use Rattle.orderbook.specs.declared.Command.TheVariants.{Cancel, Modify, CancelAll}
use Rattle.protocol.specs.declared.Inbound.{Inbound}
use Rattle.protocol.specs.declared.Inbound.TheVariants as In
use Rattle.protocol.specs.declared.Outbound.TheVariants as Out
use Rattle.protocol.specs.declared.RejectCode.{RejectCode}
use Rattle.protocol.specs.declared.RejectCode.TheVariants.{Throttled, Unavailable, NotAllowed}
use Rattle.risk.specs.declared.Bucket.{Bucket}
use Rattle.risk.specs.declared.Taken.{Taken}
use Rattle.words.specs.Words.{modulus}
use Rattle.gateway.specs.Limits.{owner_slots, most_in_flight, most_in_batch}
use Rattle.gateway.specs.Ledger.{Item, command, order_of, owner_of}
use Rattle.gateway.specs.Core.{Tests, Origin, core_step}
use Rattle.gateway.specs.Rest.{Mail, send, Rest, at_time, stamped}
use Rattle.gateway.specs.Entry.{Plan, records, sends, unless, reject, next, taken, hear}
use Rattle.gateway.specs.Entry as Entry
use Rattle.gateway.specs.Fits.{InboundFits}
use Rattle.gateway.specs.Invariant.{Known}
use Rattle.gateway.specs.Calls.{Gateway, call, mail_of, carry_out, within, receive_from}
use Rattle.store.specs.Cells as C
use Rattle.store.specs.Layout.{cell}
use Rattle.store.specs.View.{wallet, gateway, Is}
use Rattle.clients.specs.Clients as Clients
use Rattle.clients.proofs.Laws.{plus_one}
use Rattle.clients.proofs.Views.{wallet_at_row, bucket_view}
use Rattle.sound.specs.Sound.{State, Becomes}
use Rattle.sound.proofs.Kept.{becomes}
use Rattle.sound.proofs.Clients.{bucket_sound}
use Rattle.mailbox.specs.Mailbox.{places}
use Rattle.mailbox.proofs.Rows.{mailed_none}
use Rattle.outcome.specs.declared.Refusal.{Refusal}
use Rattle.outcome.specs.Refusals.{code_of, rows_of}
use Rattle.outcome.specs.Parts.{with_rest, rest_of, heard, Sends, Speaks}
use Rattle.outcome.specs.Answers.{Ends, Unsent, Sent, Gives}
use Rattle.outcome.proofs.Laws.{then_becomes}
use Rattle.outcome.proofs.Calls.{within_short, within_fits, ended}
use Rattle.outcome.proofs.Heard.{hear_plan}
use Rattle.commands.specs.Commands as Commands
use Rattle.pretrade.specs.Pretrade.{first, Exists, other_tests}
use Rattle.orderentry.specs.OrderEntry.{with_bucket, after, other_plan, Does}
use Rattle.pretrade.proofs.Judging.{joined, unless_passed, unless_failed}
use Rattle.pretrade.proofs.Existing.{slot}

-- ---- the account

pub exists : {s a : ℕ} {xs : List ℕ} → Speaks s (Some a) xs → Exists a xs
exists {s} {a} {xs} h =
    record {
      between = h.between;
      exists = subst (Known (gateway (cell xs)).core.accounts) h.account (h.between.ok.rest_is.sessions.known s);
    }

pub account_cast : {s a : ℕ} {xs : List ℕ} → Speaks s (Some a) xs → a < 2 ^ 32
account_cast h = let l = slot (exists h) in omega arith

-- ---- the session is heard, and the token taken

pub bucket_becomes : {xs ys : List ℕ} (a : ℕ) (b : Bucket) → State xs → a < owner_slots → Is ys (Clients.set_bucket a b (cell xs)) → Becomes ys (with_rest (with_bucket a b) (gateway (cell xs)))
bucket_becomes {xs} a b st l h = becomes h (bucket_sound (cell xs) st.sound a b) (bucket_view a b (cell xs) l)

pub begin_becomes : (xs : List ℕ) {ys zs : List ℕ} (s a : ℕ) (b : Bucket) (t : ℕ) → Becomes ys (with_rest (heard s t) (gateway (cell xs))) → Becomes zs (with_rest (with_bucket a b) (gateway (cell ys))) →
    Becomes zs (with_rest (after s a b t) (gateway (cell xs)))
begin_becomes xs s a b t p q = then_becomes (with_rest (with_bucket a b)) p q

-- ---- what a plan gives

module _ (xs out : List ℕ) where
  pub does_short : (q : Plan) (n p : ℕ) → n ≡ length (mail_of q) → p ≡ places (length out) → p < n → Does q (Err TooShort) xs xs out out
  unfolding Ends
  does_short q n p e h l =
      rw (within_short (places (length out)) q (omega arith)) (record { code_is = refl; state_kept = refl; rest_kept = (refl, refl) })

  pub does_send : {ys zs end : List ℕ} (m : Mail) (f : Rest → Rest) (p : ℕ) → p ≡ places (length out) → 1 ≤ p → Becomes ys (with_rest f (gateway (cell xs))) → Sends 0 (m ∷ []) (λ x. x) ys zs out end →
      Does (sends (m ∷ []) (f (rest_of xs))) (Ok 1) xs zs out end
  unfolding Ends
  does_send m f p h l b d =
      rw (within_fits (places (length out)) (sends (m ∷ []) (f (rest_of xs))) (omega arith))
      (record { code_is = refl; becomes = then_becomes (with_rest (stamped (m ∷ []))) b d.becomes; tells = record { no_answer = refl; count_is = refl; posted = d.posted } })

  pub does_record : {ys : List ℕ} (from : Origin) (i : Item) (r : Rest) → Becomes ys (record { core = core_step from i (gateway (cell xs)).core; rest = r }) → Does (records from i [] r) (Ok 0) xs ys out out
  unfolding Ends
  does_record from i r b =
      rw (within_fits (places (length out)) (records from i [] r) (omega arith))
      (record { code_is = refl; becomes = b; tells = record { no_answer = refl; count_is = refl; posted = sym (mailed_none 0 out) } })

-- a call whose plan is q
pub gives : (xs out ys end : List ℕ) (s a : ℕ) (m : Inbound) (t : ℕ) (r : Result ℕ Refusal) → Speaks s (Some a) xs → InboundFits m → Does (hear s a m (gateway (cell xs)).core (heard s t (rest_of xs))) r xs ys out end →
    Gives (call (gateway (cell xs)) (receive_from s m t (places (length out)))) r xs ys out end
gives xs out ys end s a m t r h fits d =
    ended xs (receive_from s m t (places (length out))) fits h.between (Unsent (rows_of r) out end) (λ b ms. Sent b ms (rows_of r) out end)
    (carry_out (gateway (cell xs)).core (within (places (length out)) (hear s a m (gateway (cell xs)).core (heard s t (rest_of xs)))))
    (ap (carry_out (gateway (cell xs)).core) (hear_plan xs s m t (places (length out)) a h)) ys (code_of r) d

-- ---- the reject

module _ (xs out : List ℕ) (s a : ℕ) (b : Bucket) (why : RejectCode) (ref t p : ℕ) (room : p ≡ places (length out)) where
  pub refuse_short : p < 1 → Does (reject s ref (after s a b t (rest_of xs)) why) (Err TooShort) xs xs out out
  refuse_short l = does_short xs out (reject s ref (after s a b t (rest_of xs)) why) 1 p refl room l

  pub refuse_done : {ys zs end : List ℕ} → 1 ≤ p → Becomes ys (with_rest (after s a b t) (gateway (cell xs))) → Sends 0 (send s (Out.Reject why ref) ∷ []) (λ x. x) ys zs out end →
      Does (reject s ref (after s a b t (rest_of xs)) why) (Ok 1) xs zs out end
  refuse_done l d e = does_send xs out (send s (Out.Reject why ref)) (after s a b t) p room l d e

-- ---- a command that places nothing

pub push_needs : (xs : List ℕ) {ys : List ℕ} (s a : ℕ) (b : Bucket) (k : Command) (t : ℕ) → Commands.can_number (gateway (cell xs)) ≡ true → Commands.Plain a k → Becomes ys (with_rest (after s a b t) (gateway (cell xs))) →
    State ys × (Commands.can_number (gateway (cell ys)) ≡ true) × Commands.Plain a k
push_needs xs s a b k t can p d = (d.state, ap Commands.can_number d.gateway_is ∙ can, p)

pub push_becomes : (xs : List ℕ) {ys zs : List ℕ} (s a : ℕ) (b : Bucket) (k : Command) (t : ℕ) → Becomes ys (with_rest (after s a b t) (gateway (cell xs))) → Becomes zs (Commands.numbered (s + 1) k (gateway (cell ys))) →
    Becomes zs (Commands.numbered (s + 1) k (with_rest (after s a b t) (gateway (cell xs))))
push_becomes xs s a b k t d e = then_becomes (Commands.numbered (s + 1) k) d e

module _ (xs out : List ℕ) (s a : ℕ) (allowed : Bool) (k : Command) (time : ℕ) where
  abbrev g : Gateway
  g = gateway (cell xs)

  abbrev token : Taken
  token = taken a g.core (at_time time g.rest)

  abbrev left : Rest
  left = after s a token.bucket time g.rest

  abbrev all : Tests RejectCode
  all = (Throttled, token.passed) ∷ (NotAllowed, allowed) ∷ Entry.can_number Unavailable g.core left

  plan_is : other_plan s a allowed k time g ≡ unless all (reject s 0 left) (Entry.numbered (Some s) k g.core left)
  unfolding unless
  plan_is = refl

  judged : first all ≡ first (other_tests token.passed allowed g)
  judged =
      let f = ltb (length g.core.flights) most_in_flight in
      let w = ltb (length g.rest.batch) most_in_batch in
      let n = ltb (next g.core) modulus in
      ap (λ v. cond token.passed (cond allowed v (Some NotAllowed)) (Some Throttled))
      (ap (λ v. cond f v (Some Unavailable)) (joined Unavailable w n []) ∙ joined Unavailable f (w && n) [])

  module _ (x : Taken) (v : Option RejectCode) (x_is : x ≡ token) (v_is : v ≡ first (other_tests x.passed allowed g)) where
    same : first all ≡ v
    same = judged ∙ ap (λ (y : Taken). first (other_tests y.passed allowed g)) (sym x_is) ∙ sym v_is

    pub other_refused : (ys end : List ℕ) (why : RejectCode) (r : Result ℕ Refusal) → v ≡ Some why → Does (reject s 0 (after s a x.bucket time g.rest) why) r xs ys out end → Does (other_plan s a allowed k time g) r xs ys out end
    other_refused ys end why r e d =
        subst (λ q. Does q r xs ys out end)
        (ap (λ (y : Taken). reject s 0 (after s a y.bucket time g.rest) why) x_is ∙ sym (plan_is ∙ unless_failed all (reject s 0 left) (Entry.numbered (Some s) k g.core left) why (same ∙ e))) d

    pub other_passes : v ≡ None → Commands.can_number g ≡ true
    other_passes e = last_passed x.passed allowed (Commands.can_number g) (sym v_is ∙ e)
      where
        last_passed : (p q b : Bool) → first ((Throttled, p) ∷ (NotAllowed, q) ∷ (Unavailable, b) ∷ []) ≡ None → b ≡ true
        last_passed p q true h = refl
        last_passed true true false h = absurd (let z : ◌≡◌ {A = ℕ} 0 1 = cc in omega (arith, z))
        last_passed true false false h = absurd (let z : ◌≡◌ {A = ℕ} 0 1 = cc in omega (arith, z))
        last_passed false q false h = absurd (let z : ◌≡◌ {A = ℕ} 0 1 = cc in omega (arith, z))

    pub other_done : {ys : List ℕ} → v ≡ None → Becomes ys (Commands.numbered (s + 1) k (with_rest (after s a x.bucket time) g)) → Does (other_plan s a allowed k time g) (Ok 0) xs ys out out
    other_done {ys} e d =
        subst (λ q. Does q (Ok 0) xs ys out out) (sym (plan_is ∙ unless_passed all (reject s 0 left) (Entry.numbered (Some s) k g.core left) (same ∙ e)))
        (does_record xs out _ _ _ (record { state = d.state; gateway_is = d.gateway_is ∙ after_is }))
      where
        after_is : Commands.numbered (s + 1) k (with_rest (after s a x.bucket time) g) ≡ record { core = core_step (record { client_ref = 0; session = Some s }) (command (next g.core) k) g.core; rest = Entry.queued k left }
        after_is = rw (plus_one (s + 1) s refl, x_is) refl

-- ---- the calls

module _ (xs out : List ℕ) (s a t : ℕ) where
  pub cancel_done : (ys end : List ℕ) (i : ℕ) (r : Result ℕ Refusal) → Speaks s (Some a) xs → Does (other_plan s a true (Cancel i a) t (gateway (cell xs))) r xs ys out end →
      Gives (call (gateway (cell xs)) (receive_from s (In.Cancel i) t (places (length out)))) r xs ys out end
  unfolding hear unless
  cancel_done ys end i r h d = gives xs out ys end s a (In.Cancel i) t r h tt d

  pub mass_done : (ys end : List ℕ) (r : Result ℕ Refusal) → Speaks s (Some a) xs → Does (other_plan s a true (CancelAll a) t (gateway (cell xs))) r xs ys out end →
      Gives (call (gateway (cell xs)) (receive_from s In.MassCancel t (places (length out)))) r xs ys out end
  unfolding hear unless
  mass_done ys end r h d = gives xs out ys end s a In.MassCancel t r h tt d

  pub modify_done : (ys end : List ℕ) (i : ℕ) (p z : ℤ) (q : ℕ) (f : Bool) (r : Result ℕ Refusal) → Speaks s (Some a) xs → z ≡ p → f ≡ is_some (wallet (cell xs C.accounts a)) → Does (other_plan s a (not f) (Modify i a z q) t (gateway (cell xs))) r xs ys out end →
      Gives (call (gateway (cell xs)) (receive_from s (In.Modify i p q) t (places (length out)))) r xs ys out end
  unfolding hear
  modify_done ys end i p z q f r h z_is e d =
      gives xs out ys end s a (In.Modify i p q) t r h tt
      (subst (λ b. Does (other_plan s a (not b) (Modify i a p q) t (gateway (cell xs))) r xs ys out end) (e ∙ ap is_some (sym (wallet_at_row a (cell xs) (slot (exists h)))))
      (subst (λ x. Does (other_plan s a (not f) (Modify i a x q) t (gateway (cell xs))) r xs ys out end) z_is d))

pub plain_cancel : (i a : ℕ) → Commands.Plain a (Cancel i a)
unfolding order_of owner_of
plain_cancel i a = record { batched = tt; owner_is = refl; places_nothing = refl }

pub plain_modify : (i a : ℕ) (p : ℤ) (q : ℕ) → Commands.Plain a (Modify i a p q)
unfolding order_of owner_of
plain_modify i a p q = record { batched = tt; owner_is = refl; places_nothing = refl }

pub plain_mass : (a : ℕ) → Commands.Plain a (CancelAll a)
unfolding order_of owner_of
plain_mass a = record { batched = tt; owner_is = refl; places_nothing = refl }

pub ruleset messages = (bucket_becomes, begin_becomes, refuse_short, refuse_done, push_becomes, arith)
