-- An entry point answers as its call does, or 11 and nothing changed. Assumes nothing.
use Rattle.std.specs.Prelude.{Option, Some, None}
use Prim.Native.Nat.{ℕ, ◌*◌}
use mathlib.Core.Path.{◌≡◌, refl, sym, ap, subst, ◌∙◌}
use mathlib.Core.Bool.{Bool, true, false, cond, ◌&&◌, and-true, and-false, and-eq-true_iff}
use mathlib.Core.List.{List, []}
use borrow.Author.Rules.{rules}
use borrow.Author.Tests.{eq-eqb, ne_eqb, eqb-true}
use lib.Dec.{eqb}
use lib.ListN.{length}
use Rattle.orderbook.specs.declared.Side.{Side}
use Rattle.orderbook.specs.declared.Event.{Event}
use Rattle.orderbook.specs.declared.Command.{Command}
use Rattle.protocol.specs.declared.Balance.{Balance}
use Rattle.protocol.specs.declared.Inbound.{Inbound}
use Rattle.protocol.specs.declared.LogoutReason.{LogoutReason}
use Rattle.protocol.specs.Codes.{logout_of}
use Rattle.accounts.specs.declared.Account.{Account}
use Rattle.gateway.specs.Limits.{malformed}
use Rattle.gateway.specs.Rest.{Mail}
use Rattle.gateway.specs.Entry.{Answer, account_was, wallet_is, number_is}
use Rattle.gateway.specs.Calls as C
use Rattle.gateway.specs.Calls.{Call, call, Outcome, refused}
use Rattle.store.specs.Layout.{cell, cells, Holds}
use Rattle.store.specs.View as View
use Rattle.store.specs.View.{gateway, maybe}
use Rattle.outcome.specs.Between.{Between}
use Rattle.outcome.specs.Answers.{Ends, Answers, Said}
use Rattle.outcome.proofs.Calls.{ends_as}
use Rattle.script.specs.Script.{word_at, message_of, event_of}
use Rattle.script.specs.Strict.{is_message, is_event, is_command, is_account, message_fits, event_fits, owned_fits, account_fits}
use Rattle.script.specs.Records.{command_of}
use Rattle.script.specs.Records as Records
use Rattle.numbers.specs.declared.Wallet.{Wallet}
use Rattle.numbers.specs.declared.Account as A
use Rattle.edge.specs.Entering.{Lent, whole, asked, Enters, Lands, Tells}
use Rattle.numbers.specs.Numbers.{reason_or, number_in, number_of, wallet_in, no_wallet, wallet_row, wallet_of, account_in, account_row, account_of}

-- ---- the length

whole_yes : (xs : List ℕ) → length xs ≡ 467592 → true ≡ whole true xs
unfolding whole
whole_yes xs h = rw (eq-eqb (length xs) 467592 h) refl

whole_no : (xs : List ℕ) → (length xs ≡ 467592 → ⊥) → false ≡ whole true xs
unfolding whole
whole_no xs h = rw (ne_eqb (length xs) 467592 h) refl

pub is_whole_yes : (ok : Bool) (xs : List ℕ) → ok ≡ true → eqb (length xs) 467592 ≡ whole ok xs
unfolding whole
is_whole_yes ok xs h = rw (h, and-true (eqb (length xs) 467592)) refl

pub is_whole_no : (ok : Bool) (xs : List ℕ) → ok ≡ false → false ≡ whole ok xs
unfolding whole
is_whole_no ok xs h = rw (h, and-false (eqb (length xs) 467592)) refl

module _ (xs : List ℕ) (b d : Bool) (e : b ≡ whole d xs) (t : b ≡ true) where
  parts : (eqb (length xs) (8 * cells) ≡ true) × (d ≡ true)
  unfolding whole
  parts = (and-eq-true_iff (eqb (length xs) (8 * cells)) d).0 (sym e ∙ t)

  pub whole_holds : Holds xs
  whole_holds = eqb-true (length xs) (8 * cells) parts.0

  pub lent_between : Lent xs → Between xs
  lent_between l = l.between whole_holds

-- a row of the right kind has its length
sized : (n k : ℕ) (q : Bool) → (eqb n k && q) ≡ true → n ≡ k
sized n k q e = eqb-true n k ((and-eq-true_iff (eqb n k) q).0 e).0

module _ (ys : List ℕ) (b d : Bool) (xs : List ℕ) where
  pub message_sized : d ≡ is_message xs → b ≡ whole d ys → b ≡ true → length xs ≡ 128
  unfolding is_message
  message_sized f e t = sized (length xs) 128 (message_fits (word_at xs 0) xs) (sym f ∙ (parts ys b d e t).1)

  pub event_sized : d ≡ is_event xs → b ≡ whole d ys → b ≡ true → length xs ≡ 128
  unfolding is_event
  event_sized f e t = sized (length xs) 128 (event_fits (word_at xs 0) xs) (sym f ∙ (parts ys b d e t).1)

  pub command_sized : d ≡ is_command xs → b ≡ whole d ys → b ≡ true → length xs ≡ 96
  unfolding is_command
  command_sized f e t = sized (length xs) 96 (owned_fits xs) (sym f ∙ (parts ys b d e t).1)

  pub account_sized : d ≡ is_account xs → b ≡ whole d ys → b ≡ true → length xs ≡ 56
  unfolding is_account
  account_sized f e t = sized (length xs) 56 (account_fits xs) (sym f ∙ (parts ys b d e t).1)

-- ---- the call, and its refusal

module _ (xs : List ℕ) (b d ok : Bool) (kept : Type 0) (tells : Answer → List Mail → Type 0) (x : Call) (f : d ≡ ok) (e : b ≡ whole d xs) where
  is : (c : Bool) → b ≡ c → asked ok xs x ≡ cond c (call (gateway (cell xs)) x) (refused malformed)
  unfolding asked
  is c t = ap (λ (z : Bool). cond z (call (gateway (cell xs)) x) (refused malformed)) (ap (λ (z : Bool). whole z xs) (sym f) ∙ sym e ∙ t)

  pub entered : (code : ℕ) (ys : List ℕ) → b ≡ true → Answers (call (gateway (cell xs)) x) kept tells code xs ys → Enters (asked ok xs x) kept tells code xs ys
  entered code ys t h =
      record {
        ends = subst (λ (o : Outcome). Ends o kept tells code xs ys) (sym (is true t)) h.ends;
        lent = record { between = λ k. h.between };
      }

  pub malformed_no : b ≡ false → Lent xs → kept → Enters (asked ok xs x) kept tells 11 xs xs
  unfolding Ends
  malformed_no t l k =
      record {
        ends = subst (λ (o : Outcome). Ends o kept tells 11 xs xs) (sym (is false t)) (record { code_is = refl; state_kept = refl; rest_kept = k });
        lent = l;
      }

-- ---- a call that is lent nothing but a state

pub between : (xs : List ℕ) → Lent xs → length xs ≡ 467592 → Between xs
between xs l h = l.between h

module _ (xs : List ℕ) (kept : Type 0) (tells : Answer → List Mail → Type 0) (x : Call) where
  pub held : (code : ℕ) (ys : List ℕ) → length xs ≡ 467592 → Answers (call (gateway (cell xs)) x) kept tells code xs ys → Enters (asked true xs x) kept tells code xs ys
  held code ys h = entered xs true true true kept tells x refl (whole_yes xs h) code ys refl

  pub held_no : (length xs ≡ 467592 → ⊥) → Lent xs → kept → Enters (asked true xs x) kept tells 11 xs xs
  held_no h = malformed_no xs false true true kept tells x refl (whole_no xs h) refl

-- ---- a call whose argument was read

module _ (xs ys : List ℕ) (b d ok : Bool) (kept : Type 0) (tells : Answer → List Mail → Type 0) (code : ℕ) (f : d ≡ ok) (e : b ≡ whole d xs) (t : b ≡ true) where
  entered_as : (x y : Call) → x ≡ y → Answers (call (gateway (cell xs)) x) kept tells code xs ys → Enters (asked ok xs y) kept tells code xs ys
  entered_as x y q h = subst (λ (z : Call). Enters (asked ok xs z) kept tells code xs ys) q (entered xs b d ok kept tells x f e code ys t h)

  pub received : (s time room : ℕ) (row : List ℕ) (v : Inbound) → v ≡ message_of row → Answers (call (gateway (cell xs)) (C.receive_from s v time room)) kept tells code xs ys → Enters (asked ok xs (C.receive_from s (message_of row) time room)) kept tells code xs ys
  received s time room row v q h = entered_as _ _ (ap (λ (z : Inbound). C.receive_from s z time room) q) h

  pub redelivered : (n : ℕ) (row : List ℕ) (v : Event) → v ≡ event_of row → Answers (call (gateway (cell xs)) (C.replay_event n v)) kept tells code xs ys → Enters (asked ok xs (C.replay_event n (event_of row))) kept tells code xs ys
  redelivered n row v q h = entered_as _ _ (ap (C.replay_event n) q) h

  pub replayed : (n : ℕ) (row : List ℕ) (v : Command) → v ≡ command_of row → Answers (call (gateway (cell xs)) (C.replay_command n v)) kept tells code xs ys → Enters (asked ok xs (C.replay_command n (command_of row))) kept tells code xs ys
  replayed n row v q h = entered_as _ _ (ap (C.replay_command n) q) h

  pub joined : (row : List ℕ) (v : Account) → v ≡ Records.account_of row → Answers (call (gateway (cell xs)) (C.add_account v)) kept tells code xs ys → Enters (asked ok xs (C.add_account (Records.account_of row))) kept tells code xs ys
  joined row v q h = entered_as _ _ (ap C.add_account q) h

  pub ended : (s why room : ℕ) (v : LogoutReason) → v ≡ reason_or (logout_of why) → Answers (call (gateway (cell xs)) (C.end_session s v room)) kept tells code xs ys → Enters (asked ok xs (C.end_session s (reason_or (logout_of why)) room)) kept tells code xs ys
  ended s why room v q h = entered_as _ _ (ap (λ (z : LogoutReason). C.end_session s z room) q) h

  pub levelled : (n room : ℕ) (v : Side) → v ≡ View.side n → Answers (call (gateway (cell xs)) (C.depth_levels v room)) kept tells code xs ys → Enters (asked ok xs (C.depth_levels (View.side n) room)) kept tells code xs ys
  levelled n room v q h = entered_as _ _ (ap (λ (z : Side). C.depth_levels z room) q) h

  pub collared : (n p : ℕ) (v : Option ℕ) → v ≡ maybe n p → Answers (call (gateway (cell xs)) (C.set_paper_collar v)) kept tells code xs ys → Enters (asked ok xs (C.set_paper_collar (maybe n p))) kept tells code xs ys
  collared n p v q h = entered_as _ _ (ap C.set_paper_collar q) h

-- ---- an answer in numbers

module _ (xs : List ℕ) (x : Call) where
  pub asked_yes : length xs ≡ 467592 → asked true xs x ≡ call (gateway (cell xs)) x
  unfolding asked
  asked_yes h = ap (λ (z : Bool). cond z (call (gateway (cell xs)) x) (refused malformed)) (sym (whole_yes xs h))

  asked_no : (length xs ≡ 467592 → ⊥) → asked true xs x ≡ refused malformed
  unfolding asked
  asked_no h = ap (λ (z : Bool). cond z (call (gateway (cell xs)) x) (refused malformed)) (sym (whole_no xs h))

  lands : (ys : List ℕ) (b : Answer) (code : ℕ) → length xs ≡ 467592 → Answers (call (gateway (cell xs)) x) (Unit {0}) (Said b) code xs ys → Lands (asked true xs x) code xs ys
  lands ys b code h r =
      held xs (Unit {0}) (λ a ms. ms ≡ []) x code ys h
      (record { ends = ends_as (call (gateway (cell xs)) x) code xs ys (λ k. k) (λ a ms t. t.no_mail) r.ends; between = r.between })

  pub not_told : {A : Type 0} (from : Outcome → A) (r : A) → (length xs ≡ 467592 → ⊥) → Lent xs → r ≡ from (refused malformed) → Tells from r (asked true xs x) 11 xs xs
  not_told from r h l e = (held_no xs (Unit {0}) (λ a ms. ms ≡ []) x h l tt, e ∙ ap from (sym (asked_no h)))

pub no_wallet_told : (xs : List ℕ) (a : ℕ) (w : Wallet) → (length xs ≡ 467592 → ⊥) → Lent xs → w ≡ no_wallet 11 → Tells wallet_of w (asked true xs (C.wallet a)) w.code xs xs
no_wallet_told xs a w h l e = subst (λ (v : Wallet). Tells wallet_of v (asked true xs (C.wallet a)) v.code xs xs) (sym e) (not_told xs (C.wallet a) wallet_of (no_wallet 11) h l refl)

module _ (xs ys : List ℕ) (h : length xs ≡ 467592) where
  pub number_told : (n : ℕ) → Answers (call (gateway (cell xs)) C.last_seq) (Unit {0}) (Said (number_is n)) 0 xs ys → Tells number_of (record { code = 0; number = n }) (asked true xs C.last_seq) 0 xs ys
  unfolding Ends C.plan
  number_told n r =
      (lands xs C.last_seq ys (number_is n) 0 h r, ap (λ a. record { code = 0; number = number_in a }) (sym r.ends.tells.answer_is) ∙ ap number_of (sym (asked_yes xs C.last_seq h)))

  pub wallet_told : (a : ℕ) (v : Option Balance) (w : Wallet) → w ≡ wallet_row v → Answers (call (gateway (cell xs)) (C.wallet a)) (Unit {0}) (Said (wallet_is v)) 0 xs ys →
      Tells wallet_of w (asked true xs (C.wallet a)) w.code xs ys
  unfolding Ends C.plan
  wallet_told a v w e r = (
    subst (λ k. Lands (asked true xs (C.wallet a)) k xs ys) (sym (ap (λ (z : Wallet). z.code) e ∙ coded v)) (lands xs (C.wallet a) ys (wallet_is v) 0 h r),
    e ∙ ap (λ b. wallet_row (wallet_in b)) (sym r.ends.tells.answer_is) ∙ ap wallet_of (sym (asked_yes xs (C.wallet a) h)),
  )
    where
      coded : (o : Option Balance) → (wallet_row o).code ≡ 0
      coded None = refl
      coded (Some b) = refl

  pub account_told : (s : ℕ) (v : Option ℕ) (w : A.Account) → w ≡ account_row v → Answers (call (gateway (cell xs)) (C.detach s)) (Unit {0}) (Said (account_was v)) 0 xs ys →
      Tells account_of w (asked true xs (C.detach s)) w.code xs ys
  unfolding Ends C.plan
  account_told s v w e r = (
    subst (λ k. Lands (asked true xs (C.detach s)) k xs ys) (sym (ap (λ (z : A.Account). z.code) e ∙ coded v)) (lands xs (C.detach s) ys (account_was v) 0 h r),
    e ∙ ap (λ b. account_row (account_in b)) (sym r.ends.tells.answer_is) ∙ ap account_of (sym (asked_yes xs (C.detach s) h)),
  )
    where
      coded : (o : Option ℕ) → (account_row o).code ≡ 0
      coded None = refl
      coded (Some b) = refl

pub ruleset laws = (rules, is_whole_yes, is_whole_no, lent_between, between, held, held_no, message_sized, event_sized, command_sized, account_sized, entered, malformed_no, received, redelivered, replayed, joined, ended, levelled, collared, not_told, no_wallet_told, number_told, wallet_told, account_told)
