-- The start that a row asks for, and the call of a row, by its number. Assumes nothing.
use Prim.Native.Nat.{ℕ, ◌≤◌}
use mathlib.Core.Path.{◌≡◌, refl, sym, subst}
use mathlib.Core.Bool.{true, false, and-false}
use mathlib.Core.List.{List}
use native.Mathlib.Omega.{arith}
use borrow.Author.Rules.{rules}
use borrow.Author.Tests.{ne_eqb, lt-leb}
use lib.Dec.{leb}
use lib.ListN.{length, take}
use Rattle.words.specs.Words.{int}
use Rattle.gateway.specs.Calls as C
use Rattle.gateway.specs.Start.{Started, not_started, started, set_up, restore}
use Rattle.mailbox.specs.Mailbox.{places}
use Rattle.listing.specs.Rows.{listing}
use Rattle.script.specs.Script.{event_of}
use Rattle.script.specs.Strict.{is_event, is_command, is_account, are_accounts}
use Rattle.script.specs.Records.{command_of, account_of, accounts_in}
use Rattle.lists.specs.Lists.{is_listing, are_rows}
use Rattle.numbers.specs.Numbers as P
use Rattle.opening.specs.Starts.{Starts}
use Rattle.numbers.specs.declared.Reply.{Reply}
use Rattle.stored.specs.Rows as R
use Rattle.edge.specs.Entering.{Lent, begins, asked, Gives, Says}
use Rattle.gateway.specs.Entry.{nothing}
use Rattle.playing.specs.Steps as S
use Rattle.playing.specs.Steps.{Step, Lone}
use Rattle.playing.proofs.Laws.{says_step, gives_step, lists_step, writes_step, malformed_step, took}
use Rattle.replaying.specs.Opened.{starts, start_formed, Opens}

-- ---- a start

pub starts_lent : (s : Started) (code : ℕ) (xs ys : List ℕ) → Starts s code xs ys → Lent xs → Lent ys
unfolding Starts
starts_lent (not_started k) code xs ys h b = subst Lent (sym h.state_kept) b
starts_lent (started g) code xs ys h b = record { between = λ _. h.between }

module _ (row accounts given xs ys : List ℕ) (code k limit last heartbeat idle fee : ℕ) (e : k ≡ R.word_at row 0) (e5 : limit ≡ R.word_at row 5) (e6 : last ≡ R.word_at row 6)
    (e7 : heartbeat ≡ R.word_at row 7) (e8 : idle ≡ R.word_at row 8) (e9 : fee ≡ R.word_at row 9) (l : Lent xs) where
  opens : Starts (begins (start_formed row accounts given) xs (starts row accounts given)) code xs ys → Opens row accounts given code xs ys
  opens h = record { opened = h; lent = starts_lent _ code xs ys h l }

  pub opens_new : k ≡ 0 → Starts (begins (are_rows accounts given) xs (set_up (int fee) limit last (accounts_in accounts) (listing given) (P.timing heartbeat idle))) code xs ys → Opens row accounts given code xs ys
  unfolding starts start_formed
  opens_new z h = opens (rw (← e, z, ← e5, ← e6, ← e7, ← e8, ← e9) h)

  pub opens_again : (k ≡ 0 → ⊥) → Starts (begins (are_accounts accounts) xs (restore (int fee) limit (accounts_in accounts) (P.timing heartbeat idle) given)) code xs ys → Opens row accounts given code xs ys
  unfolding starts start_formed
  opens_again n h = opens (rw (← e, ne_eqb k 0 n, ← e5, ← e7, ← e8, ← e9) h)

-- ---- a row of its own inside the row

module _ (row v xs ys got end : List ℕ) where
  pub adds : (code : ℕ) → v ≡ R.tail_of row 4 → Says nothing (asked (is_account (take 56 v)) xs (C.add_account (account_of (take 56 v)))) code xs ys → end ≡ R.put_at got 2 code
      → Lone (is_account (take 56 (R.tail_of row 4))) (C.add_account (account_of (take 56 (R.tail_of row 4)))) xs ys got end
  adds code e h = rw (← e) (says_step _ _ xs ys got end code refl h)

  module _ (n : ℕ) (e : v ≡ R.tail_of row 5) (f : n ≡ R.word_at row 4) where
    pub replays : (code : ℕ) → Says nothing (asked (is_event v) xs (C.replay_event n (event_of v))) code xs ys → end ≡ R.put_at got 2 code
        → Lone (is_event (R.tail_of row 5)) (C.replay_event (R.word_at row 4) (event_of (R.tail_of row 5))) xs ys got end
    replays code h = rw (← e, ← f) (says_step _ _ xs ys got end code refl h)

    pub delivers : (out out' : List ℕ) (r : Reply) → Gives (asked (is_event v) xs (C.deliver_event n (event_of v) (places (length out)))) r xs ys out out' → end ≡ R.replied got r.code r.count
        → Step (is_event (R.tail_of row 5)) (C.deliver_event (R.word_at row 4) (event_of (R.tail_of row 5)) (places (length out))) xs ys got end out out'
    delivers out out' r h = rw (← e, ← f) (gives_step _ _ xs ys got end r out out' refl h)

-- ---- the call of a row

module _ (row given : List ℕ) (k : ℕ) (e : k ≡ R.word_at row 0) where
  module _ (xs got end out : List ℕ) (l : Lent xs) (f : end ≡ R.put_at got 2 11) where
    none : S.is_call k ≡ false → S.Takes row given xs xs got end out out
    unfolding S.asks S.formed
    none n = rw (← e, n) (malformed_step (C.disconnect 0) xs got end refl l f out)

    pub takes_zero : k ≡ 0 → S.Takes row given xs xs got end out out
    takes_zero z = none (rw z refl)

    pub takes_past : 20 ≤ k → S.Takes row given xs xs got end out out
    takes_past h = none (rw (lt-leb k 19 (omega arith), and-false (leb 1 k)) refl)

  module _ (xs ys got end out : List ℕ) where
    pub takes_account : k ≡ 1 → Lone (is_account (take 56 (R.tail_of row 4))) (C.add_account (account_of (take 56 (R.tail_of row 4)))) xs ys got end → S.Takes row given xs ys got end out out
    takes_account i h = took row k e given xs ys got end out out 1 i refl (h out)

    pub takes_disconnect : (s : ℕ) → k ≡ 12 → s ≡ R.word_at row 4 → Lone true (C.disconnect s) xs ys got end → S.Takes row given xs ys got end out out
    takes_disconnect s i f h = took row k e given xs ys got end out out 12 i refl (rw (← f) (h out))

    pub takes_detach : (s : ℕ) → k ≡ 13 → s ≡ R.word_at row 4 → Lone true (C.detach s) xs ys got end → S.Takes row given xs ys got end out out
    takes_detach s i f h = took row k e given xs ys got end out out 13 i refl (rw (← f) (h out))

    pub takes_command : (n : ℕ) → k ≡ 16 → n ≡ R.word_at row 4 → Lone (is_command given) (C.replay_command n (command_of given)) xs ys got end → S.Takes row given xs ys got end out out
    takes_command n i f h = took row k e given xs ys got end out out 16 i refl (rw (← f) (h out))

    pub takes_event : k ≡ 17 → Lone (is_event (R.tail_of row 5)) (C.replay_event (R.word_at row 4) (event_of (R.tail_of row 5))) xs ys got end → S.Takes row given xs ys got end out out
    takes_event i h = took row k e given xs ys got end out out 17 i refl (h out)

    pub takes_finish : k ≡ 18 → Lone (is_listing given) (C.finish (listing given)) xs ys got end → S.Takes row given xs ys got end out out
    takes_finish i h = took row k e given xs ys got end out out 18 i refl (h out)

  module _ (xs ys got end out out' : List ℕ) where
    pub takes_batch : k ≡ 14 → Step true (C.take_batch (places (length out))) xs ys got end out out' → S.Takes row given xs ys got end out out'
    takes_batch i h = took row k e given xs ys got end out out' 14 i refl h

    pub takes_deliver : k ≡ 15 → Step (is_event (R.tail_of row 5)) (C.deliver_event (R.word_at row 4) (event_of (R.tail_of row 5)) (places (length out))) xs ys got end out out' → S.Takes row given xs ys got end out out'
    takes_deliver i h = took row k e given xs ys got end out out' 15 i refl h

    pub takes_checkpoint : 16 ≤ R.word_at row 0 → R.word_at row 0 ≤ 19 → (k ≡ 16 → ⊥) → (k ≡ 17 → ⊥) → (k ≡ 18 → ⊥) → Step true (C.checkpoint (length out)) xs ys got end out out' → S.Takes row given xs ys got end out out'
    takes_checkpoint a b n16 n17 n18 h = took row k e given xs ys got end out out' 19 (omega arith) refl h

    pub takes_alone : S.TakesAlone row xs ys got end out out' → S.Takes row given xs ys got end out out'
    takes_alone h = h given

pub ruleset laws = (rules, says_step, lists_step, writes_step, opens_new, opens_again, adds, replays, delivers, takes_zero, takes_past, takes_account, takes_disconnect, takes_detach, takes_command, takes_event, takes_finish, takes_batch, takes_deliver, takes_checkpoint, takes_alone)
