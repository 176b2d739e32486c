-- Who is told of a balance, and the loop over the notices. Assumes nothing.
use Rattle.std.proofs.lemmas.Option.{none-some}
use Rattle.std.specs.Prelude.{Option, Some, None, option_map, is_some}
use mathlib.Core.Path.{◌≡◌, refl, sym, ap, subst, ◌∙◌}
use mathlib.Core.Bool.{Bool, true, false, cond, ◌&&◌, and-eq-true_iff, true≢false, false≢true}
use mathlib.Core.List.{List, [], ◌∷◌}
use Prim.Native.Nat.{ℕ, zero, suc, ◌+◌, ◌-◌, ◌≤◌, ◌<◌}
use native.Mathlib.Omega.{arith}
use borrow.Author.Tests.{eq-eqb, ne_eqb}
use lib.ListN.{length}
use Rattle.protocol.specs.declared.Balance.{Balance}
use Rattle.protocol.specs.declared.Outbound.TheVariants as Out
use Rattle.accounts.specs.declared.Funds.{Funds}
use Rattle.gateway.specs.Basics.{option}
use Rattle.gateway.specs.Limits.{owner_slots, session_slots, most_notices}
use Rattle.gateway.specs.Rest.{Mail, send, session_at, session_of, is_open}
use Rattle.gateway.specs.Entry.{wallet_at, balance_with, balance, balance_to, notice_mail}
use Rattle.gateway.specs.Calls.{Gateway}
use Rattle.store.specs.Cells as C
use Rattle.store.specs.Layout.{cell}
use Rattle.store.specs.View.{word, optional, wallet, gateway}
use Rattle.store.proofs.Listed.{listed_at, listed_length}
use Rattle.clients.proofs.Links.{session_of_cell, session_of_past}
use Rattle.clients.proofs.Views.{wallet_at_row}
use Rattle.clients.proofs.Laws.{from_plus_one}
use Rattle.sound.specs.Sound.{State}
use Rattle.outcome.specs.Parts.{rest_of, Sends, steps, Stepped}
use Rattle.outcome.proofs.Walk.{sends_none}
use Rattle.outcome.proofs.Steps.{steps_each}
use Rattle.feed.specs.Feed.{Receives, notice_step, balances}

-- ---- who is told

module _ (xs : List ℕ) (a : ℕ) where
  abbrev g : Gateway
  g = gateway (cell xs)

  abbrev tell : ℕ → List Mail
  tell s = cond (is_open (session_at s g.rest)) (balance_to s (balance a g.core)) []

  abbrev row_funded : Bool
  row_funded = is_some (wallet (cell xs C.accounts a))

  pub past_owners : State xs → owner_slots ≤ a → Receives a None g
  past_owners st l = ap (option [] tell) (session_of_past (cell xs) a st.sound.clients.linked l)

  balance_there : (o : Option Funds) → is_some (option_map (balance_with g.core.ledger.fee a g.core.ledger.orders) o) ≡ is_some o
  balance_there None = refl
  balance_there (Some w) = refl

  pub balance_funded : a < owner_slots → is_some (balance a g.core) ≡ row_funded
  balance_funded l = balance_there (wallet_at a g.core) ∙ ap is_some (wallet_at_row a (cell xs) l)

  module _ (st : State xs) (o : Option ℕ) (l : a < owner_slots) (o_is : o ≡ optional (cell xs C.accounts a C.account_session)) where
    session_is : session_of a g.rest ≡ o
    session_is = session_of_cell (cell xs) a st.sound.clients.linked l ∙ sym o_is

    pub no_session : o ≡ None → Receives a None g
    no_session h = ap (option [] tell) (session_is ∙ h)

    module _ (s : ℕ) (h : o ≡ Some s) (b : Bool) (b_is : b ≡ (row_funded && is_open (session_at s g.rest))) where
      mail_is : notice_mail a g.core g.rest ≡ tell s
      mail_is = ap (option [] tell) (session_is ∙ h)

      pub its_session : b ≡ true → Receives a (Some s) g
      its_session t =
          let u = (and-eq-true_iff row_funded (is_open (session_at s g.rest))).0 (sym b_is ∙ t) in
          record {
            told = mail_is ∙ ap (λ o. cond o (balance_to s (balance a g.core)) []) u.1;
            slot = (st.sound.clients.linked.back a s l (from_plus_one _ s (sym o_is ∙ h))).0;
            owner = l;
            funded = balance_funded l ∙ u.0;
          }

      silent : (w : Option Funds) (o : Bool) → (is_some w && o) ≡ false → cond o (balance_to s (option_map (balance_with g.core.ledger.fee a g.core.ledger.orders) w)) [] ≡ []
      silent None true e = refl
      silent None false e = refl
      silent (Some w) false e = refl
      silent (Some w) true e = absurd (true≢false e)

      pub not_told : b ≡ false → Receives a None g
      not_told t =
          mail_is
          ∙ silent (wallet_at a g.core) (is_open (session_at s g.rest))
          (ap (λ (w : Option Funds). is_some w && is_open (session_at s g.rest)) (wallet_at_row a (cell xs) l) ∙ sym b_is ∙ t)

-- ---- one notice

pub notices_many : (xs : List ℕ) → length (rest_of xs).notices ≡ word (cell xs) C.notice_rows
notices_many xs = listed_length (λ j. cell xs C.notices j C.notice_account) (word (cell xs) C.notice_rows)

pub notice_small : {xs : List ℕ} → State xs → (j : ℕ) → j < length (rest_of xs).notices → j < most_notices
notice_small {xs} st j l = omega (arith, notices_many xs, st.sound.tables.ordered.bounds.notices_fit)

one_long : (s : ℕ) (o : Option Balance) → is_some o ≡ true → length (balance_to s o) ≡ 1
one_long s None e = absurd (false≢true e)
one_long s (Some b) e = refl

module _ (xs : List ℕ) (j a : ℕ) (l : j < length (rest_of xs).notices) (a_is : a ≡ cell xs C.notices j C.notice_account) where
  abbrev gw : Gateway
  gw = gateway (cell xs)

  step_is : notice_step gw j ≡ notice_mail a gw.core gw.rest
  step_is =
      ap (λ b. notice_mail b gw.core gw.rest)
      (listed_at (λ k. cell xs C.notices k C.notice_account) (word (cell xs) C.notice_rows) j 0 (rw (← notices_many xs) l) ∙ sym a_is)

  pub rows_none : Receives a None gw → 0 ≡ length (notice_step gw j)
  rows_none r = ap length (sym (step_is ∙ r))

  pub no_notice : State xs → Receives a None gw → (out : List ℕ) (i : ℕ) → Stepped notice_step i j i xs xs out out
  no_notice st r out i =
      let no_mail = step_is ∙ r in record { next_is = omega (arith, ap length no_mail); sends = rw no_mail (sends_none i out st) }

  module _ (s : ℕ) (r : Receives a (Some s) gw) where
    its_mail : notice_step gw j ≡ balance_to s (balance a gw.core)
    its_mail = step_is ∙ r.told

    length_one : length (notice_step gw j) ≡ 1
    length_one = ap length its_mail ∙ one_long s (balance a gw.core) r.funded

    pub rows_one : 1 ≡ length (notice_step gw j)
    rows_one = sym length_one

    pub notice_room : (i k : ℕ) → i + length (notice_step gw j) ≤ k → i < k
    notice_room i k h = omega (arith, length_one)

    pub one_notice : {ys : List ℕ} (out : List ℕ) {end : List ℕ} (i : ℕ) → Sends i (balance_to s (balance a gw.core)) (λ x. x) xs ys out end → Stepped notice_step i j (i + 1) xs ys out end
    one_notice out i h = record { next_is = omega (arith, length_one); sends = rw its_mail h }

pub balance_sends : (xs : List ℕ) {ys : List ℕ} (out : List ℕ) {end : List ℕ} (i s a : ℕ) (b : Balance) → Some b ≡ balance a (gateway (cell xs)).core →
    Sends i (send s (Out.Balance b) ∷ []) (λ x. x) xs ys out end → Sends i (balance_to s (balance a (gateway (cell xs)).core)) (λ x. x) xs ys out end
balance_sends xs {ys} out {end} i s a b e h = subst (λ (o : Option Balance). Sends i (balance_to s o) (λ x. x) xs ys out end) e h

-- ---- all of them

pub notices_each : (xs : List ℕ) (m : ℕ) → m ≡ word (cell xs) C.notice_rows → steps notice_step (gateway (cell xs)) m ≡ balances (gateway (cell xs))
notices_each xs m e =
    let g = gateway (cell xs) in
    steps_each (λ a. notice_mail a g.core g.rest) notice_step g g.rest.notices 0 (λ j l. refl) m (e ∙ sym (notices_many xs))

pub ruleset notices = (past_owners, no_session, its_session, not_told, notice_small, rows_none, rows_one, no_notice, one_notice, balance_sends, arith)
