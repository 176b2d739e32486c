-- Demand 3 of document 01 about the entry points (`Demand3` of specs/Claims.antt). Assumes nothing.
use Rattle.std.specs.Prelude.{Some}
use Prim.Native.Nat.{ℕ}
use mathlib.Core.Path.{◌≡◌, refl, sym, ap, subst, ◌∙◌}
use mathlib.Core.Bool.{true}
use mathlib.Core.Logic.{inl, inr}
use mathlib.Core.List.{List, [], ◌∷◌, ◌++◌, map}
use lib.IntN.{ℤ}
use lib.Dec.{eqb, leb}
use lib.ListN.{length, take, drop}
use lib.Seq.{take-append_seam}
use Rattle.accounts.specs.declared.Account.{Account}
use Rattle.accounts.specs.declared.Timing.{Timing}
use Rattle.gateway.specs.Basics.{is_empty}
use Rattle.gateway.specs.Limits.{too_short, not_quiet}
use Rattle.gateway.specs.Core.{Tests}
use Rattle.gateway.specs.Ledger.{Item}
use Rattle.gateway.specs.Bytes.{encode}
use Rattle.gateway.specs.Saved.{contents}
use Rattle.gateway.specs.Entry.{Plan, quiet, bytes}
use Rattle.gateway.specs.Calls.{Gateway, Call, Outcome, checkpoint, done, plan, carry_out, call}
use Rattle.gateway.specs.Invariant.{AllOk}
use Rattle.gateway.specs.Start.{started, restore}
use Rattle.gateway.specs.Restart.{next_of, final, record_of, added, all_later, SameBooks, Restarts}
use Rattle.gateway.proofs.Restart.{restart, final_append}
use Rattle.store.specs.Cells as C
use Rattle.store.specs.Layout.{cell, Holds}
use Rattle.store.specs.View.{Store, word, gateway}
use Rattle.live.proofs.Fits.{held_exact}
use Rattle.outcome.specs.Answers.{Ends, Unsent}
use Rattle.outcome.specs.Between.{Between}
use Rattle.checkpoint.specs.Written.{Written}
use Rattle.opening.specs.Starts.{Starts}
use Rattle.numbers.specs.declared.Reply.{Reply}
use Rattle.edge.specs.Entering.{asked, Writes}
use Rattle.edge.proofs.Laws.{asked_yes}
use Rattle.restart.specs.Chain.{Tries, Opened, Asking, Chain, ends_at, heard, recorded, replays, Exact, Restarted}
use Rattle.restart.specs.Claims.{Demand3}
use Rattle.restart.proofs.Plans.{Either, unless_either}
use Rattle.restart.proofs.Cells.{cells_agree}
use Rattle.restart.proofs.Chains.{chain_final, chain_between, chain_ok, replay_follows}
use Rattle.restart.proofs.Begun.{tried, opened}

-- ---- an accepted checkpoint

module _ (xs out end : List ℕ) (r : Reply) (h : Holds xs) (w : Writes (asked true xs (checkpoint (length out))) r xs xs out end) (ok : r.code ≡ 0) where
  -- the bytes that it wrote
  abbrev written : List ℕ
  written = take r.count end

  abbrev g : Gateway
  g = gateway (cell xs)

  abbrev bs : List ℕ
  bs = encode (contents g.core.ledger)

  abbrev ts : Tests ℕ
  ts = (not_quiet, is_empty g.rest.batch) ∷ (not_quiet, eqb g.rest.delivered g.core.ledger.last) ∷ (too_short, leb (length bs) (length out)) ∷ []

  abbrev Tells : Outcome → Type 0
  Tells o = Ends o (Unsent r.count out end) (λ a ms. Written a ms r.count out end) r.code xs xs

  by_plan : (p : Plan) → plan g.core g.rest (checkpoint (length out)) ≡ p → Tells (carry_out g.core p)
  by_plan p e = subst (λ q. Tells (carry_out g.core q)) e (subst Tells (asked_yes xs (checkpoint (length out)) h) w.ends)

  pub checkpoint_taken : call g (checkpoint (length out)) ≡ done (bytes written) [] [] g
  unfolding Ends plan
  checkpoint_taken = go (unless_either ts (quiet (bytes bs) [] g.rest) refl)
    where
      go : Either ts (quiet (bytes bs) [] g.rest) → call g (checkpoint (length out)) ≡ done (bytes written) [] [] g
      go (inl (k, e, n)) = absurd (n (sym (by_plan _ e).code_is ∙ ok))
      go (inr e) =
          let t = (by_plan _ e).tells in
          ap (carry_out g.core) e
          ∙ ap (λ b. done (bytes b) [] [] g) (sym (ap (take r.count) t.written ∙ ap (λ n. take n (bs ++ drop (length bs) out)) t.count_is ∙ take-append_seam bs (drop (length bs) out)))

-- ---- the theorem

pub exact : (xs : List ℕ) → Between xs → Exact (cell xs)
exact xs b = record { sums = λ a l w z. held_exact (cell xs) a b.state.sound.held b.ok.core_is.holds l w z }

module _ (fee : ℤ) (limit : ℕ) (l : List Account) (xs : List ℕ) (start : Opened fee limit l xs) (cs ds : List Asking) (first : Chain xs cs) where
  abbrev mid : List ℕ
  mid = ends_at xs cs first

  abbrev n : ℕ
  n = word (cell mid) C.last

  abbrev items : List Item
  items = recorded mid ds

  -- the accounts of the checkpoint's moment
  abbrev present : List Account
  present = l ++ added (recorded xs cs)

  abbrev b : Between xs
  b = (opened fee limit l xs start).between

  module _ (since : Chain mid ds) (room : ℕ) (bs : List ℕ) (taken : call (gateway (cell mid)) (checkpoint room) ≡ done (bytes bs) [] [] (gateway (cell mid))) (late : all_later n items) where
    abbrev now : List ℕ
    now = ends_at mid ds since

    -- by the definitions
    claimed : (timing : Timing) → Restarts fee limit present timing n bs items (gateway (cell now))
    claimed timing =
        let e : gateway (cell mid) ≡ final (gateway (cell xs)) (heard cs) = chain_final xs cs first b in
        let m = chain_between xs cs first b in
        let t : call (final (gateway (cell xs)) (heard cs)) (checkpoint room) ≡ done (bytes bs) [] [] (gateway (cell mid)) = subst (λ g. call g (checkpoint room) ≡ done (bytes bs) [] [] (gateway (cell mid))) e taken in
        let r = restart fee limit l timing (gateway (cell xs)) (opened fee limit l xs start).accounts (heard cs) (heard ds) room bs (gateway (cell mid)) (chain_ok xs cs first b)
        (subst (λ g. AllOk g (heard ds)) e (chain_ok mid ds since m)) t (subst (λ g. all_later g.core.ledger.last (record_of g (heard ds))) e late) in
        let f : final (gateway (cell xs)) (heard cs ++ (checkpoint room ∷ heard ds)) ≡ gateway (cell now) =
        final_append (gateway (cell xs)) (heard cs) (checkpoint room ∷ heard ds) ∙ ap (λ o. final (next_of (final (gateway (cell xs)) (heard cs)) o) (heard ds)) t ∙ sym (chain_final mid ds since m) in
        subst (λ g. Restarts fee limit present timing g.core.ledger.last bs (record_of g (heard ds)) (gateway (cell now))) (sym e)
        (subst (Restarts fee limit present timing (final (gateway (cell xs)) (heard cs)).core.ledger.last bs (record_of (final (gateway (cell xs)) (heard cs)) (heard ds))) f r)

    restarts : (timing : Timing) (k : ℕ) (ys zs : List ℕ) → Starts (restore fee limit present timing bs) k ys zs → (again : Chain zs (map replays items)) →
        Restarted fee n bs items now k zs again
    unfolding Starts
    restarts timing k ys zs h again =
        let r = claimed timing in
        let s : Starts (started r.begun) k ys zs = subst (λ o. Starts o k ys zs) r.accepts h in
        let f = replay_follows items zs again r.begun r.ended s.between s.is_done.becomes.gateway_is r.replays in
        let same = subst (λ g. SameBooks n (gateway (cell now)).core g.core) (sym f.ends) r.agrees in
        let one = chain_between mid ds since (chain_between xs cs first b) in
        let two = chain_between zs (map replays items) again s.between in
        record {
          restored = s.is_done.code_is;
          replayed = f.accepted;
          same_cells = cells_agree n (cell now) (cell (ends_at zs (map replays items) again)) one.state.sound two.state.sound same;
          same_books = same;
          exact = (exact now one, exact (ends_at zs (map replays items) again) two);
          counted = r.counted ∙ ap (λ (g : Gateway). Some g.core.ledger) (sym f.ends);
        }

pub demand_3 : Demand3
demand_3 =
    record {
      restarts = λ fee limit l xs start cs ds first since out end r w ok late timing k ys zs h again.
          let m = ends_at xs cs first in
          let holds = (chain_between xs cs first (opened fee limit l xs start).between).state.holds in
          restarts fee limit l xs start cs ds first since (length out) (take r.count end) (checkpoint_taken m out end r holds w ok) late timing k ys zs (tried _ k ys zs h) again;
    }
