-- An accepted login: what is sent, what the session becomes, and the whole call. Assumes nothing.
use Rattle.outcome.specs.declared.Refusal.TheVariants.{TooShort}
use Rattle.std.specs.Prelude.{Option, Some, None, option_map, is_some, Ok, Err, Result}
use mathlib.Core.Path.{◌≡◌, refl, sym, ap, ◌∙◌}
use mathlib.Core.Bool.{Bool, true, false, cond, not, false≢true}
use mathlib.Core.List.{List, [], ◌∷◌, ◌++◌}
use Prim.Native.Nat.{ℕ, ◌+◌, ◌-◌, ◌≤◌, ◌<◌}
use native.Mathlib.Omega.{arith}
use borrow.Author.Tests.{eqb-true}
use lib.Dec.{eqb}
use lib.ListN.{length, set, length-append, length-set}
use Rattle.accounts.specs.declared.Funds.{Funds}
use Rattle.protocol.specs.declared.Balance.{Balance}
use Rattle.protocol.specs.declared.Inbound.TheVariants as In
use Rattle.protocol.specs.declared.Outbound.TheVariants as Out
use Rattle.protocol.specs.declared.LoginError.{LoginError}
use Rattle.protocol.specs.declared.LoginError.TheVariants.{UnsupportedVersion, BadCredentials, AlreadyLoggedIn}
use Rattle.table.specs.Live.{Each}
use Rattle.gateway.specs.Basics.{option}
use Rattle.gateway.specs.Limits.{owner_slots, session_slots, protocol_version}
use Rattle.gateway.specs.Core.{Core, account_at}
use Rattle.gateway.specs.Rest.{Session, send, close, Rest, at_time, with_sessions, session_at, session_of, account_of, is_present, update_session, set_account, set_received, set_sent, stamped}
use Rattle.gateway.specs.Entry.{token_is, wallet_at, balance_with, balance, balance_to, login_tests, greet, ended, logged_in}
use Rattle.gateway.specs.Calls.{Gateway, call, plan, within, receive_from}
use Rattle.store.specs.Cells as C
use Rattle.store.specs.Layout.{cell}
use Rattle.store.specs.View.{word, optional, session, wallet, gateway, Is}
use Rattle.store.proofs.Listed.{listed_at}
use Rattle.clients.specs.Clients as Clients
use Rattle.clients.proofs.Views.{log_in_view}
use Rattle.clients.proofs.Links.{session_of_cell}
use Rattle.sound.specs.Sound.{Becomes}
use Rattle.sound.proofs.Kept.{becomes}
use Rattle.sound.proofs.Clients.{log_in_sound}
use Rattle.mailbox.specs.Mailbox.{places, put_mail, mailed}
use Rattle.mailbox.proofs.Rows.{mailed_one}
use Rattle.balances.proofs.Laws.{exact_between}
use Rattle.outcome.specs.declared.Refusal.{Refusal}
use Rattle.outcome.specs.Parts.{with_rest, rest_of, heard, heard_last, Sends, Posts, Tries, short, sent, Speaks}
use Rattle.outcome.specs.Answers.{Gives, failed}
use Rattle.outcome.proofs.Laws.{then_becomes}
use Rattle.outcome.proofs.Calls.{unless_failed, gives_tried}
use Rattle.outcome.proofs.Heard.{session_of_heard, greet_plan}
use Rattle.outcome.proofs.Walk.{To, slots, posts_none, posts_more, update_twice, stamped_to}
use Rattle.login.specs.Login.{open_mail, login_mail, logged, balance_rows, login_rows, Free}
use Rattle.login.proofs.Judging.{known_small, judging}
use Rattle.login.proofs.Told.{told_length, told_to, told}

-- ---- what is sent

module _ (s a : ℕ) (g : Gateway) where
  balance_length : (b : Option Balance) → length (balance_to s b) ≡ cond (is_some b) 1 0
  balance_length None = refl
  balance_length (Some x) = refl

  -- as many balances as wallets
  pub wallet_rows : length (balance_to s (balance a g.core)) ≡ balance_rows a g.core
  wallet_rows = balance_length (balance a g.core) ∙ ap (λ (b : Bool). cond b 1 0) (mapped (wallet_at a g.core))
    where
      mapped : (o : Option Funds) → is_some (option_map (balance_with g.core.ledger.fee a g.core.ledger.orders) o) ≡ is_some o
      mapped None = refl
      mapped (Some x) = refl

  pub login_length : length (login_mail s a g) ≡ login_rows a g
  login_length =
      omega (arith, length-append (balance_to s (balance a g.core)) (open_mail s a g), wallet_rows, told_length s a g.core.ledger.last g.rest.delivered g.core.ledger.orders)

  pub balance_fits : (room : ℕ) → login_rows a g ≤ room → 1 + length (balance_to s (balance a g.core)) ≤ room
  balance_fits room l = omega (arith, wallet_rows)

  pub orders_fit : (n room : ℕ) → n ≡ 1 + length (balance_to s (balance a g.core)) → login_rows a g ≤ room → n + length (open_mail s a g) ≤ room
  orders_fit n room e l = omega (arith, wallet_rows, told_length s a g.core.ledger.last g.rest.delivered g.core.ledger.orders)

  -- everything behind the first message goes to the session too
  rest_to : Each (To s) (balance_to s (balance a g.core) ++ open_mail s a g)
  rest_to = both (balance a g.core)
    where
      both : (b : Option Balance) → Each (To s) (balance_to s b ++ open_mail s a g)
      both None = told_to s a g.core.ledger.last g.rest.delivered g.core.ledger.orders
      both (Some x) = (refl, told_to s a g.core.ledger.last g.rest.delivered g.core.ledger.orders)

  -- so the session is stamped once
  pub login_stamped : (r : Rest) → s < length r.sessions → stamped (login_mail s a g) r ≡ update_session s (set_sent r.clock) r
  login_stamped r l = stamped_to s r l (Out.LoginAccepted a g.core.ledger.last) (balance_to s (balance a g.core) ++ open_mail s a g) rest_to

-- ---- the session and the account name each other

pub link_becomes : {xs ys : List ℕ} (s a : ℕ) → Free s a xs → Is ys (Clients.log_in s a (cell xs)) → Becomes ys (with_rest (update_session s (set_account a)) (gateway (cell xs)))
link_becomes {xs} s a f h =
    becomes h (log_in_sound (cell xs) f.state.sound s a f.slot f.owner there nobody alone) (log_in_view s a (cell xs) f.slot)
  where
    in_slot : session_at s (rest_of xs) ≡ session (cell xs C.sessions s)
    in_slot = listed_at (λ i. session (cell xs C.sessions i)) session_slots s None f.slot

    present_there : (o : Option Session) → is_present o ≡ true → is_some o ≡ true
    present_there None e = absurd (false≢true e)
    present_there (Some x) e = refl

    there : is_some (session (cell xs C.sessions s)) ≡ true
    there = sym (ap is_some in_slot) ∙ present_there (session_at s (rest_of xs)) f.present

    nobody : account_of (session (cell xs C.sessions s)) ≡ None
    nobody = sym (ap account_of in_slot) ∙ f.nobody

    no_cell : (n : ℕ) → optional n ≡ None → n ≡ 0
    no_cell n e = go (eqb n 0) refl
      where
        go : (b : Bool) → eqb n 0 ≡ b → n ≡ 0
        go true q = eqb-true n 0 q
        go false q = absurd (let z : ◌≡◌ {A = Bool} true false = ap is_some (sym (ap (λ (c : Bool). cond (not c) (Some (n - 1)) None) q) ∙ e) in false≢true (sym z))

    alone : cell xs C.accounts a C.account_session ≡ 0
    alone = no_cell _ (sym (session_of_cell (cell xs) a f.state.sound.clients.linked f.owner) ∙ f.alone)

-- ---- entering

module _ (xs out : List ℕ) (s a t : ℕ) where
  abbrev g : Gateway
  g = gateway (cell xs)

  -- linked and then heard
  linked : Rest → Rest
  linked r = heard s t (update_session s (set_account a) r)

  linked_is : s < session_slots → with_rest linked g ≡ with_rest (logged s a t) g
  unfolding linked
  linked_is l =
      let n : s < length (rest_of xs).sessions = rw (slots xs) l in
      ap (λ (q : Rest). with_rest (λ _. q) g)
      (update_twice (set_account a) (set_received t) s (at_time t (rest_of xs)) n
      ∙ ap (λ o. with_sessions (set (rest_of xs).sessions s o) (at_time t (rest_of xs))) (swap (session_at s (rest_of xs)))
      ∙ sym (update_twice (set_received t) (set_account a) s (at_time t (rest_of xs)) n))
    where
      swap : (o : Option Session) → option_map (set_received t) (option_map (set_account a) o) ≡ option_map (set_account a) (option_map (set_received t) o)
      swap None = refl
      swap (Some x) = refl

  pub heard_linked : {ys zs : List ℕ} → s < session_slots → Becomes ys (with_rest (update_session s (set_account a)) g) → Becomes zs (with_rest (heard s t) (gateway (cell ys))) → Becomes zs (with_rest (logged s a t) g)
  unfolding linked
  heard_linked l b d = let e = then_becomes (with_rest (heard s t)) b d in record { state = e.state; gateway_is = e.gateway_is ∙ linked_is l }

  module _ {zs : List ℕ} (b : Becomes zs (with_rest (logged s a t) g)) where
    -- neither the wallets nor the orders nor the delivered number have changed
    pub linked_rows : (n : ℕ) → login_rows a g ≤ n → login_rows a (gateway (cell zs)) ≤ n
    linked_rows n l = omega (arith, ap (λ (h : Gateway). login_rows a h) b.gateway_is)

    pub enter_sends : {ws end : List ℕ} → s < session_slots → end ≡ mailed 0 (login_mail s a (gateway (cell zs))) out →
        Becomes ws (with_rest (λ x. update_session s (set_sent x.clock) x) (gateway (cell zs))) → Sends 0 (login_mail s a g) (logged s a t) xs ws out end
    enter_sends l p d =
        let e = then_becomes (with_rest (λ x. update_session s (set_sent x.clock) x)) b d in
        record {
          becomes =
              record {
                state = e.state;
                gateway_is = e.gateway_is ∙ ap (λ (q : Rest). with_rest (λ _. q) g) (sym (login_stamped s a g (logged s a t (rest_of xs)) (rw (length-set, length-set, slots xs) l)));
              };
          posted = p ∙ ap (λ (h : Gateway). mailed 0 (login_mail s a h) out) b.gateway_is;
        }

-- ---- what is written

module _ (xs out : List ℕ) (s a : ℕ) where
  pub post_done : {mid low end : List ℕ} (last n k : ℕ) → last ≡ word (cell xs) C.last → mid ≡ put_mail 0 (send s (Out.LoginAccepted a last)) out →
      Posts 1 (balance_to s (balance a (gateway (cell xs)).core)) n mid low → Posts n (open_mail s a (gateway (cell xs))) k low end → end ≡ mailed 0 (login_mail s a (gateway (cell xs))) out
  post_done {mid} {low} {end} last n k e p q r =
      let first : Posts 0 (send s (Out.LoginAccepted a (word (cell xs) C.last)) ∷ []) 1 out mid =
      record { next_is = refl; posted = p ∙ ap (λ l. put_mail 0 (send s (Out.LoginAccepted a l)) out) e ∙ sym (mailed_one 0 (send s (Out.LoginAccepted a (word (cell xs) C.last))) out) } in
      (posts_more 0 n k (send s (Out.LoginAccepted a (word (cell xs) C.last)) ∷ balance_to s (balance a (gateway (cell xs)).core)) (open_mail s a (gateway (cell xs))) out
      (posts_more 0 1 n (send s (Out.LoginAccepted a (word (cell xs) C.last)) ∷ []) (balance_to s (balance a (gateway (cell xs)).core)) out first q) r).posted

  -- a balance, or none
  module _ (i : ℕ) (b : Option Balance) (e : b ≡ balance a (gateway (cell xs)).core) where
    pub no_balance : b ≡ None → Posts i (balance_to s (balance a (gateway (cell xs)).core)) i out out
    no_balance q = let n : balance a (gateway (cell xs)).core ≡ None = sym e ∙ q in rw n (posts_none i out)

    pub one_balance : (x : Balance) {end : List ℕ} → b ≡ Some x → end ≡ put_mail i (send s (Out.Balance x)) out → Posts i (balance_to s (balance a (gateway (cell xs)).core)) (i + 1) out end
    one_balance x q p =
        let n : balance a (gateway (cell xs)).core ≡ Some x = sym e ∙ q in
        rw n (record { next_is = refl; posted = p ∙ sym (mailed_one i (send s (Out.Balance x)) out) })

    pub balance_room : (x : Balance) (room : ℕ) → b ≡ Some x → i + length (balance_to s (balance a (gateway (cell xs)).core)) ≤ room → i < room
    balance_room x room q l = omega (arith, ap (λ o. length (balance_to s o)) (sym e ∙ q))

-- ---- the call

module _ (xs out : List ℕ) (s version a token t : ℕ) (h : Speaks s None xs) (why : Option LoginError)
    (e : why ≡ failed (login_tests version a token (gateway (cell xs)).core (rest_of xs))) where
  abbrev c : Core
  c = (gateway (cell xs)).core

  abbrev after : Rest
  after = heard s t (rest_of xs)

  -- the tests see the session's message no more than the clock
  plan_is : (o : Option LoginError) → why ≡ o →
      plan c (rest_of xs) (receive_from s (In.Login version a token) t (places (length out)))
      ≡ within (places (length out)) (option (logged_in s a c after) (λ q. ended s (Out.LoginRejected q) after) o)
  unfolding greet
  plan_is o q =
      greet_plan xs s (In.Login version a token) t (places (length out)) h
      ∙ ap (within (places (length out)))
      (unless_failed (login_tests version a token c after) (λ q. ended s (Out.LoginRejected q) after) (logged_in s a c after)
      ∙ ap (option (logged_in s a c after) (λ q. ended s (Out.LoginRejected q) after))
      (ap (λ u. failed ((UnsupportedVersion, eqb version protocol_version) ∷ (BadCredentials, token_is token (account_at a c)) ∷ (AlreadyLoggedIn, not (is_some u)) ∷ [])) (session_of_heard a s t (rest_of xs)) ∙ sym e ∙ q))

  pub login_refused : (q : LoginError) {r : Result ℕ Refusal} {ys end : List ℕ} → why ≡ Some q → Tries (send s (Out.LoginRejected q) ∷ close s ∷ []) (heard_last s t) r xs ys out end →
      Gives (call (gateway (cell xs)) (receive_from s (In.Login version a token) t (places (length out)))) r xs ys out end
  login_refused q w d = gives_tried xs out (receive_from s (In.Login version a token) t (places (length out))) tt h.between (send s (Out.LoginRejected q) ∷ close s ∷ []) (heard_last s t) (plan_is (Some q) w) d

  module _ (w : why ≡ None) where
    passed : (u v x : Bool) → cond u (cond v (cond x None (Some AlreadyLoggedIn)) (Some BadCredentials)) (Some UnsupportedVersion) ≡ None → (v ≡ true) × (x ≡ true)
    passed true true true q = (refl, refl)
    passed true true false q = absurd (false≢true (sym (ap is_some q)))
    passed true false x q = absurd (false≢true (sym (ap is_some q)))
    passed false v x q = absurd (false≢true (sym (ap is_some q)))

    both : (token_is token (account_at a c) ≡ true) × (not (is_some (session_of a (rest_of xs))) ≡ true)
    both = passed (eqb version protocol_version) (token_is token (account_at a c)) (not (is_some (session_of a (rest_of xs)))) (sym e ∙ w)

    nobody : (o : Option ℕ) → not (is_some o) ≡ true → o ≡ None
    nobody None q = refl
    nobody (Some x) q = absurd (false≢true q)

    pub login_free : Free s a xs
    login_free =
        record {
          state = h.between.state;
          slot = h.slot;
          owner = known_small xs a token h.between.state true (sym both.0) refl;
          present = h.present;
          nobody = h.account;
          alone = nobody (session_of a (rest_of xs)) both.1;
        }

    pub login_accepted : {r : Result ℕ Refusal} {ys end : List ℕ} → Tries (login_mail s a (gateway (cell xs))) (logged s a t) r xs ys out end →
        Gives (call (gateway (cell xs)) (receive_from s (In.Login version a token) t (places (length out)))) r xs ys out end
    login_accepted d = gives_tried xs out (receive_from s (In.Login version a token) t (places (length out))) tt h.between (login_mail s a (gateway (cell xs))) (logged s a t) (plan_is None w) d

module _ (xs out : List ℕ) (s a t n p : ℕ) (e : n ≡ login_rows a (gateway (cell xs))) (room : p ≡ places (length out)) where
  pub accept_short : p < n → Tries (login_mail s a (gateway (cell xs))) (logged s a t) (Err TooShort) xs xs out out
  accept_short l = short (omega (arith, login_length s a (gateway (cell xs)))) refl refl refl

  pub accept_done : {ys end : List ℕ} → n ≤ p → Sends 0 (login_mail s a (gateway (cell xs))) (logged s a t) xs ys out end → Tries (login_mail s a (gateway (cell xs))) (logged s a t) (Ok n) xs ys out end
  accept_done l d =
      sent (omega (arith, login_length s a (gateway (cell xs)))) (ap (λ k. Ok k) (e ∙ sym (login_length s a (gateway (cell xs))))) d

-- whether an account has a wallet
funded_rows : (xs : List ℕ) (a : ℕ) (b : Bool) → a < owner_slots → b ≡ is_some (wallet (cell xs C.accounts a)) → b ≡ is_some (wallet_at a (gateway (cell xs)).core)
funded_rows xs a b l e = e ∙ ap is_some (sym (listed_at (λ i. wallet (cell xs C.accounts i)) owner_slots a None l))

pub one_row : (xs : List ℕ) (a : ℕ) (b : Bool) → a < owner_slots → b ≡ is_some (wallet (cell xs C.accounts a)) → b ≡ true → 1 ≡ balance_rows a (gateway (cell xs)).core
one_row xs a b l e t = ap (λ (c : Bool). cond c 1 0) (sym t ∙ funded_rows xs a b l e)

pub no_row : (xs : List ℕ) (a : ℕ) (b : Bool) → a < owner_slots → b ≡ is_some (wallet (cell xs C.accounts a)) → b ≡ false → 0 ≡ balance_rows a (gateway (cell xs)).core
no_row xs a b l e t = ap (λ (c : Bool). cond c 1 0) (sym t ∙ funded_rows xs a b l e)

pub ruleset laws = (judging, told, one_row, no_row, link_becomes, heard_linked, linked_rows, enter_sends, post_done, no_balance, one_balance, balance_room, login_refused, login_free, login_accepted, exact_between, accept_short, accept_done, arith)
