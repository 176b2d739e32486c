-- Whether a login is accepted. Assumes nothing.
use Rattle.std.specs.Bool.{then_some}
use Rattle.std.specs.Prelude.{Option, Some, None, is_some}
use Rattle.protocol.specs.declared.LoginError.{LoginError}
use mathlib.Core.Path.{◌≡◌, refl, sym, ap, ◌∙◌}
use mathlib.Core.Bool.{Bool, true, false, cond, not, false≢true}
use mathlib.Core.Logic.{⊎_elim}
use mathlib.Core.List.{List}
use Prim.Native.Nat.{ℕ, ◌≤◌, ◌<◌}
use native.Mathlib.Omega.{arith}
use borrow.Author.Tests.{eq-eqb, ne_eqb}
use lib.ListN.{get_or-eq_default}
use lib.Dec.{eqb}
use Rattle.protocol.specs.declared.LoginError.TheVariants.{UnsupportedVersion, BadCredentials, AlreadyLoggedIn}
use Rattle.le.proofs.Laws.{lt_or_le}
use Rattle.gateway.specs.Limits.{owner_slots}
use Rattle.gateway.specs.Core.{Core, account_at}
use Rattle.gateway.specs.Rest.{session_of}
use Rattle.gateway.specs.Entry.{token_is, login_tests}
use Rattle.store.specs.Cells as C
use Rattle.store.specs.Layout.{cell}
use Rattle.store.specs.View.{word, flag, account, optional, gateway}
use Rattle.store.proofs.Listed.{listed_at, listed_length}
use Rattle.clients.proofs.Laws.{account_there, no_row}
use Rattle.clients.proofs.Links.{session_of_cell}
use Rattle.sound.specs.Sound.{State}
use Rattle.outcome.specs.Parts.{rest_of}
use Rattle.outcome.specs.Answers.{failed}
use Rattle.login.specs.Login.{session_error}

-- ---- the account

module _ (xs : List ℕ) (a token : ℕ) where
  abbrev core : Core
  core = (gateway (cell xs)).core

  abbrev limit : ℕ
  limit = word (cell xs) C.owner_limit

  -- below the limit, an account is the one of its row
  account_is : a < limit → account_at a core ≡ account a (cell xs C.accounts a)
  account_is l = listed_at (λ i. account i (cell xs C.accounts i)) limit a None l

  module _ (l : a < limit) (b : Bool) (e : b ≡ is_some (account a (cell xs C.accounts a))) where
    exists_is : b ≡ flag (cell xs C.accounts a C.account_exists)
    exists_is = e ∙ sym (account_there xs a)

    pub token_there : (w : ℕ) → b ≡ true → w ≡ cell xs C.accounts a C.account_token → eqb w token ≡ token_is token (account_at a core)
    token_there w t q =
        let f : flag (cell xs C.accounts a C.account_exists) ≡ true = sym exists_is ∙ t in
        rw (account_is l, f) (ap (λ v. eqb v token) q)

    pub token_absent : b ≡ false → false ≡ token_is token (account_at a core)
    token_absent t = ap (token_is token) (no_row xs a b exists_is t ∙ sym (account_is l))

  pub token_past : limit ≤ a → false ≡ token_is token (account_at a core)
  token_past l =
      sym (ap (token_is token) (get_or-eq_default core.accounts None {n = a} (rw (listed_length (λ i. account i (cell xs C.accounts i)) limit) l)))

  -- who is known has a row
  pub known_small : State xs → (b : Bool) → b ≡ token_is token (account_at a core) → b ≡ true → a < owner_slots
  known_small st b e t =
      ⊎_elim (λ l. omega (arith, l, st.sound.tables.ordered.bounds.accounts_fit)) (λ l. absurd (false≢true (token_past l ∙ sym e ∙ t))) (lt_or_le a limit)

-- ---- its session

pub session_judged : (xs : List ℕ) (a : ℕ) → State xs → a < owner_slots → (o : Option ℕ) → o ≡ optional (cell xs C.accounts a C.account_session) → (r : Option LoginError) → r ≡ then_some (is_some o) AlreadyLoggedIn →
    r ≡ session_error (is_some (session_of a (rest_of xs)))
session_judged xs a st l o e r f =
    f ∙ ap (λ p. then_some (is_some p) AlreadyLoggedIn) (e ∙ sym (session_of_cell (cell xs) a st.sound.clients.linked l)) ∙ go (is_some (session_of a (rest_of xs)))
  where
    go : (b : Bool) → then_some b AlreadyLoggedIn ≡ session_error b
    go true = refl
    go false = refl

-- ---- the tests in their order

module _ (xs : List ℕ) (version a token : ℕ) where
  abbrev pub Judged : Option LoginError → Type 0
  Judged r = r ≡ failed (login_tests version a token (gateway (cell xs)).core (rest_of xs))

  pub judged_version : (version ≡ 1 → ⊥) → Judged (Some UnsupportedVersion)
  judged_version e = rw (ne_eqb version 1 e) refl

  module _ (v : version ≡ 1) (b : Bool) (e : b ≡ token_is token (account_at a (gateway (cell xs)).core)) where
    pub judged_unknown : b ≡ false → Judged (Some BadCredentials)
    judged_unknown t = rw (eq-eqb version 1 v, ← e, t) refl

    pub judged_known : (r : Option LoginError) → b ≡ true → r ≡ session_error (is_some (session_of a (rest_of xs))) → Judged r
    judged_known r t q = rw (eq-eqb version 1 v, ← e, t, q) (by_session (is_some (session_of a (rest_of xs))))
      where
        by_session : (c : Bool) → session_error c ≡ cond (not c) None (Some AlreadyLoggedIn)
        by_session true = refl
        by_session false = refl

pub ruleset judging = (token_there, token_absent, token_past, known_small, session_judged, judged_version, judged_unknown, judged_known, arith)
