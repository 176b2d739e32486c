-- What becomes of a message, by its session and its kind. Assumes nothing.
use Rattle.std.specs.Prelude.{Some, None, Ok, Result, Option}
use mathlib.Core.Path.{◌≡◌, refl, sym, ap, subst, ◌∙◌}
use mathlib.Core.Bool.{Bool, true, false}
use mathlib.Core.List.{List, [], ◌∷◌}
use Prim.Native.Nat.{ℕ, ◌-◌, ◌<◌}
use native.Mathlib.Omega.{arith}
use borrow.Author.Tests.{eq-eqb, ne_eqb}
use lib.IntN.{ℤ}
use lib.ListN.{length}
use mir.Syntax.{w64}
use mir.Val.{of_z, to_z}
use lib.Signed.{mag}
use Rattle.words.specs.Words.{half}
use Rattle.words.proofs.Int.{read}
use Rattle.protocol.specs.declared.Inbound.{Inbound}
use Rattle.protocol.specs.declared.Inbound.TheVariants as In
use Rattle.protocol.specs.declared.Outbound.TheVariants as Out
use Rattle.protocol.specs.declared.LoginError.TheVariants.{AlreadyInSession}
use Rattle.protocol.specs.declared.LogoutReason.TheVariants.{Requested, ProtocolError}
use Rattle.gateway.specs.Core.{Core}
use Rattle.gateway.specs.Rest.{Mail, Rest, send, close, at_time, session_at, account_of, is_present}
use Rattle.gateway.specs.Entry.{Answer, Plan, sends, ended, greet, hear}
use Rattle.gateway.specs.Calls.{call, carry_out, plan, within, receive_from}
use Rattle.store.specs.Layout.{cell}
use Rattle.store.specs.View.{optional, gateway}
use Rattle.sound.specs.Sound.{Becomes}
use Rattle.mailbox.specs.Mailbox.{places}
use Rattle.mailbox.proofs.Rows.{mailed_none}
use Rattle.outcome.specs.declared.Refusal.{Refusal}
use Rattle.outcome.specs.Between.{Between}
use Rattle.outcome.specs.Parts.{with_rest, rest_of, heard, heard_last, Tries, Speaks}
use Rattle.outcome.specs.Answers.{Answers, Gives}
use Rattle.outcome.proofs.Calls.{sends_done, gives_tried}
use Rattle.outcome.proofs.Heard.{speaks, unheard_plan, greet_plan, hear_plan}
use Rattle.exchange.specs.Receive.{IsLogin, NoLogin}

module _ (xs out : List ℕ) (s t : ℕ) where
  abbrev heard_as : Inbound → Plan
  heard_as m = plan (gateway (cell xs)).core (rest_of xs) (receive_from s m t (places (length out)))

  -- two messages with one plan
  alike : (m n : Inbound) {kept : Type 0} {tells : Answer → List Mail → Type 0} {code : ℕ} {ys : List ℕ} → heard_as m ≡ heard_as n →
      Answers (call (gateway (cell xs)) (receive_from s n t (places (length out)))) kept tells code xs ys →
      Answers (call (gateway (cell xs)) (receive_from s m t (places (length out)))) kept tells code xs ys
  alike m n {kept} {tells} {code} {ys} e h = subst (λ p. Answers (carry_out (gateway (cell xs)).core p) kept tells code xs ys) (sym e) h

  -- a message by its kind
  pub as_message : (m n : Inbound) {kept : Type 0} {tells : Answer → List Mail → Type 0} {code : ℕ} {ys : List ℕ} → m ≡ n →
      Answers (call (gateway (cell xs)) (receive_from s n t (places (length out)))) kept tells code xs ys →
      Answers (call (gateway (cell xs)) (receive_from s m t (places (length out)))) kept tells code xs ys
  as_message m n e h = alike m n (ap heard_as e) h

  -- a modify's price comes back from its word
  pub as_modify : (m : Inbound) (i : ℕ) (p : ℤ) (q : ℕ) {kept : Type 0} {tells : Answer → List Mail → Type 0} {code : ℕ} {ys : List ℕ} → m ≡ In.Modify i p q → mag p < half →
      Answers (call (gateway (cell xs)) (receive_from s (In.Modify i (to_z w64 (of_z w64 p)) q) t (places (length out)))) kept tells code xs ys →
      Answers (call (gateway (cell xs)) (receive_from s m t (places (length out)))) kept tells code xs ys
  as_modify m i p q e f h = as_message m (In.Modify i (to_z w64 (of_z w64 p)) q) (e ∙ ap (λ (z : ℤ). In.Modify i z q) (sym (read {x = p} f))) h

  -- ---- nobody is heard, whatever the message

  pub receive_unheard : (m : Inbound) (b : Bool) {ys : List ℕ} → Between xs → b ≡ is_present (session_at s (rest_of xs)) → b ≡ false →
      Becomes ys (with_rest (at_time t) (gateway (cell xs))) → Gives (call (gateway (cell xs)) (receive_from s m t (places (length out)))) (Ok 0) xs ys out out
  receive_unheard m b h e q d =
      alike m In.Heartbeat (unheard m ∙ sym (unheard In.Heartbeat))
      (sends_done xs out (receive_from s In.Heartbeat t (places (length out))) tt h [] (at_time t (rest_of xs)) (unheard In.Heartbeat) 0 (places (length out)) refl refl (omega arith) d (sym (mailed_none 0 out)))
    where
      unheard : (n : Inbound) → heard_as n ≡ within (places (length out)) (sends [] (at_time t (rest_of xs)))
      unheard n = unheard_plan xs s n t (places (length out)) (sym e ∙ q)

  -- ---- a session without an account

  module _ (h : Speaks s None xs) where
    not_login : (m : Inbound) → NoLogin m → (c : Core) (r : Rest) → greet s m c r ≡ ended s (Out.Logout ProtocolError) r
    unfolding greet
    not_login (In.Login version a token) n c r = absurd n
    not_login In.Logout n c r = refl
    not_login In.Heartbeat n c r = refl
    not_login (In.NewOrder o) n c r = refl
    not_login (In.Cancel i) n c r = refl
    not_login (In.Modify i p q) n c r = refl
    not_login In.MassCancel n c r = refl
    not_login In.Subscribe n c r = refl

    error_plan : (m : Inbound) → NoLogin m → heard_as m ≡ within (places (length out)) (ended s (Out.Logout ProtocolError) (heard s t (rest_of xs)))
    error_plan m n = greet_plan xs s m t (places (length out)) h ∙ ap (within (places (length out))) (not_login m n (gateway (cell xs)).core (heard s t (rest_of xs)))

    pub protocol_error : (m : Inbound) {r : Result ℕ Refusal} {ys end : List ℕ} → NoLogin m → Tries (send s (Out.Logout ProtocolError) ∷ close s ∷ []) (heard_last s t) r xs ys out end →
        Gives (call (gateway (cell xs)) (receive_from s m t (places (length out)))) r xs ys out end
    protocol_error m n d =
        alike m In.Logout (error_plan m n ∙ sym (error_plan In.Logout tt))
        (gives_tried xs out (receive_from s In.Logout t (places (length out))) tt h.between (send s (Out.Logout ProtocolError) ∷ close s ∷ []) (heard_last s t) (error_plan In.Logout tt) d)

  -- ---- one that is logged in

  module _ (a : ℕ) (h : Speaks s (Some a) xs) where
    again : (m : Inbound) → IsLogin m → (c : Core) (r : Rest) → hear s a m c r ≡ sends (send s (Out.LoginRejected AlreadyInSession) ∷ []) r
    unfolding hear
    again (In.Login version b token) n c r = refl
    again In.Logout n c r = absurd n
    again In.Heartbeat n c r = absurd n
    again (In.NewOrder o) n c r = absurd n
    again (In.Cancel i) n c r = absurd n
    again (In.Modify i p q) n c r = absurd n
    again In.MassCancel n c r = absurd n
    again In.Subscribe n c r = absurd n

    again_plan : (m : Inbound) → IsLogin m → heard_as m ≡ within (places (length out)) (sends (send s (Out.LoginRejected AlreadyInSession) ∷ []) (heard s t (rest_of xs)))
    again_plan m n = hear_plan xs s m t (places (length out)) a h ∙ ap (within (places (length out))) (again m n (gateway (cell xs)).core (heard s t (rest_of xs)))

    pub logged_in_again : (m : Inbound) {r : Result ℕ Refusal} {ys end : List ℕ} → IsLogin m → Tries (send s (Out.LoginRejected AlreadyInSession) ∷ []) (heard s t) r xs ys out end →
        Gives (call (gateway (cell xs)) (receive_from s m t (places (length out)))) r xs ys out end
    logged_in_again m n d =
        alike m (In.Login 0 0 0) (again_plan m n ∙ sym (again_plan (In.Login 0 0 0) tt))
        (gives_tried xs out (receive_from s (In.Login 0 0 0) t (places (length out))) tt h.between (send s (Out.LoginRejected AlreadyInSession) ∷ []) (heard s t) (again_plan (In.Login 0 0 0) tt) d)

    pub logged_out : {r : Result ℕ Refusal} {ys end : List ℕ} → Tries (send s (Out.Logout Requested) ∷ close s ∷ []) (heard_last s t) r xs ys out end →
        Gives (call (gateway (cell xs)) (receive_from s In.Logout t (places (length out)))) r xs ys out end
    unfolding hear
    logged_out d =
        gives_tried xs out (receive_from s In.Logout t (places (length out))) tt h.between (send s (Out.Logout Requested) ∷ close s ∷ []) (heard_last s t)
        (hear_plan xs s In.Logout t (places (length out)) a h) d

    pub beaten : {ys : List ℕ} → Becomes ys (with_rest (heard s t) (gateway (cell xs))) → Gives (call (gateway (cell xs)) (receive_from s In.Heartbeat t (places (length out)))) (Ok 0) xs ys out out
    unfolding hear
    beaten d =
        sends_done xs out (receive_from s In.Heartbeat t (places (length out))) tt h.between [] (heard s t (rest_of xs)) (hear_plan xs s In.Heartbeat t (places (length out)) a h) 0 (places (length out)) refl refl (omega arith) d
        (sym (mailed_none 0 out))

-- ---- who speaks

pub whose : (xs : List ℕ) (s : ℕ) → Between xs → is_present (session_at s (rest_of xs)) ≡ true → (o a : Option ℕ) → o ≡ account_of (session_at s (rest_of xs)) → o ≡ a → Speaks s a xs
whose xs s b p o a e f = speaks xs s a b p (sym e ∙ f)

-- ---- its kind

pub is_login : (m : Inbound) (version a token : ℕ) → m ≡ In.Login version a token → IsLogin m
is_login m version a token e = subst IsLogin (sym e) tt

pub no_login : (m : Inbound) → ((version a token : ℕ) → m ≡ In.Login version a token → ⊥) → NoLogin m
no_login (In.Login version a token) n = n version a token refl
no_login In.Logout n = tt
no_login In.Heartbeat n = tt
no_login (In.NewOrder o) n = tt
no_login (In.Cancel i) n = tt
no_login (In.Modify i p q) n = tt
no_login In.MassCancel n = tt
no_login In.Subscribe n = tt

pub ruleset laws = (as_message, receive_unheard, protocol_error, logged_in_again, logged_out, beaten, is_login, arith)
