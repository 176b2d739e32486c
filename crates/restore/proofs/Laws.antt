-- The start: what was judged is what the definition judges, and what is written is the gateway that it begins with. Assumes nothing.
use Rattle.std.specs.Prelude.{Option, Some, None, is_some}
use Prim.Native.Nat.{ℕ, ◌≤◌, ◌<◌}
use mathlib.Core.Path.{◌≡◌, refl, sym, ap, subst, ◌∙◌}
use mathlib.Core.Bool.{Bool, true, false, cond, not}
use mathlib.Core.Logic.{⊎_elim}
use mathlib.Core.List.{List, [], ◌∷◌}
use native.Mathlib.Omega.{arith}
use borrow.Author.Tests.{leb-true, eq-eqb, ne_eqb, not-true, not-false}
use lib.IntN.{ℤ, pos}
use lib.Signed.{le_z}
use lib.Dec.{eqb}
use lib.ListN.{get_or}
use Rattle.accounts.specs.declared.Account.{Account}
use Rattle.accounts.specs.declared.Timing.{Timing}
use Rattle.table.proofs.Live.{same?}
use Rattle.gateway.specs.Basics.{option, each}
use Rattle.gateway.specs.Bytes.{decode}
use Rattle.gateway.specs.Limits.{bad_fee, owner_slots, outside, malformed}
use Rattle.gateway.specs.Core.{Pass}
use Rattle.gateway.specs.Invariant.{GatewayOk}
use Rattle.gateway.specs.Calls.{Gateway}
use Rattle.gateway.specs.Saved.{Saved}
use Rattle.gateway.specs.Start.{charging, Started, not_started, started, accounts_of, restored_ledger, restore_tests, hold_notice_of, empty_depth, begin, restore_saved, restore}
use Rattle.gateway.proofs.Begin as Begin
use Rattle.gateway.proofs.Begin.{restore_begins}
use Rattle.gateway.proofs.Bytes.{decode_fits}
use Rattle.gateway.proofs.Calls.{pass_append}
use Rattle.store.specs.Layout.{cell}
use Rattle.store.specs.View.{gateway}
use Rattle.sound.specs.Sound.{Becomes}
use Rattle.start.specs.Start.{begun}
use Rattle.outcome.specs.Answers.{verdict}
use Rattle.outcome.specs.declared.Refusal.{Refusal}
use Rattle.outcome.specs.Refusals.{refusal_code}
use Rattle.outcome.proofs.Calls.{coded}
use Rattle.roster.specs.declared.Roster.{Roster}
use Rattle.roster.specs.Rostered.{Numbered, Gathered}
use Rattle.opening.specs.Opening.{present, Stands}
use Rattle.opening.specs.Starts.{Starts, Begins}
use Rattle.opening.proofs.Codes.{codes_append, verdict_append, restore_codes, passes, start_refused, start_accepted}
use Rattle.opening.proofs.Tables.{present_table, gathered_table}
use Rattle.saved.specs.Contents.{nothing, saved_of}
use Rattle.saved.proofs.Decoded.{decoded}
use Rattle.saved.proofs.Laws.{all_bytes}
use Rattle.totals.specs.Totals.{wallets_fit}
use Rattle.refill.specs.Refill.{refilled, Fits, Empty}
use Rattle.restore.specs.Judging.{entry_tests, roster_tests, code_of, all_code, restored, Restored}
use Rattle.restore.proofs.Verdicts.{entry_codes, owners_below, orders_inside}
use Rattle.restore.proofs.Rosters.{verdict_is}

-- ---- judging

pub is_checkpoint : (bytes : List ℕ) (b : Bool) → b ≡ is_some (decode bytes) → not b ≡ false → is_some (decode bytes) ≡ true
is_checkpoint bytes b b_is t = sym b_is ∙ not-false b t

module _ (fee : ℤ) (limit : ℕ) (r : Roster) (bytes : List ℕ) (b : Bool) (b_is : b ≡ is_some (decode bytes)) where
  pub no_checkpoint : not b ≡ true → 11 ≡ code_of fee limit r bytes
  unfolding code_of
  no_checkpoint t = sym (ap (λ c. cond c (verdict (roster_tests fee limit r (saved_of bytes))) malformed) (sym b_is ∙ not-true b t))

  module _ (t : not b ≡ false) where
    so_far : (c : ℕ) → c ≡ verdict (entry_tests limit r.below (saved_of bytes)) → code_of fee limit r bytes ≡ cond (eqb c 0) (cond (wallets_fit fee r 0 (saved_of bytes).orders) 0 7) c
    unfolding code_of
    so_far c c_is =
        ap (λ d. cond d (verdict (roster_tests fee limit r (saved_of bytes))) malformed) (sym b_is ∙ not-false b t)
        ∙ verdict_append (entry_tests limit r.below (saved_of bytes)) ((outside, wallets_fit fee r 0 (saved_of bytes).orders) ∷ []) (entry_codes limit r.below (saved_of bytes))
        ∙ ap (λ k. cond (eqb k 0) (cond (wallets_fit fee r 0 (saved_of bytes).orders) 0 7) k) (sym c_is)

    pub entry_fails : (why : Refusal) → refusal_code why ≡ verdict (entry_tests limit r.below (saved_of bytes)) → refusal_code why ≡ code_of fee limit r bytes
    entry_fails why e = sym (so_far (refusal_code why) e ∙ ap (λ d. cond d (cond (wallets_fit fee r 0 (saved_of bytes).orders) 0 7) (refusal_code why)) (coded why))

    module _ (z : 0 ≡ verdict (entry_tests limit r.below (saved_of bytes))) (f : Bool) (f_is : f ≡ wallets_fit fee r 0 (saved_of bytes).orders) where
      last_test : code_of fee limit r bytes ≡ cond f 0 7
      last_test = so_far 0 z ∙ ap (λ d. cond d 0 7) (sym f_is)

      pub total_outside : not f ≡ true → 7 ≡ code_of fee limit r bytes
      total_outside n = sym (last_test ∙ ap (λ d. cond d 0 7) (not-true f n))

      pub all_fine : not f ≡ false → 0 ≡ code_of fee limit r bytes
      all_fine n = sym (last_test ∙ ap (λ d. cond d 0 7) (not-false f n))

-- ---- the fee

module _ (fee : ℤ) (limit : ℕ) (r : Roster) (bytes : List ℕ) (b : Bool) (b_is : b ≡ le_z (pos 0) fee) where
  pub fee_fine : (c : ℕ) → b ≡ true → c ≡ code_of fee limit r bytes → c ≡ all_code fee limit r bytes
  unfolding all_code
  fee_fine c t h = h ∙ sym (ap (λ y. cond y (code_of fee limit r bytes) bad_fee) (sym b_is ∙ t))

  pub fee_below : b ≡ false → 15 ≡ all_code fee limit r bytes
  unfolding all_code
  fee_below e = sym (ap (λ y. cond y (code_of fee limit r bytes) bad_fee) (sym b_is ∙ e))

-- ---- the state that begins is filled

begun_filled : (fee : ℤ) (limit : ℕ) (timing : Timing) (l : List Account) (s : Saved) → refilled s (begun fee limit s.last timing l) ≡ restored fee limit timing l s
unfolding refilled restored
begun_filled fee limit timing l s = refl

module _ (fee : ℤ) (limit : ℕ) (timing : Timing) (r : Roster) (bytes : List ℕ) (n : ℕ) (n_is : n ≡ (saved_of bytes).last) {ys : List ℕ} (h : Stands fee limit n timing (present r owner_slots) ys) where
  pub open_empty : Empty (saved_of bytes) ys
  open_empty =
      let e = h.becomes.gateway_is in
      record {
        state = h.becomes.state;
        no_rows = h.no_rows;
        last_is = ap (λ (g : Gateway). g.core.ledger.last) e ∙ n_is;
        no_orders = ap (λ (g : Gateway). g.core.ledger.orders) e;
        no_mark = ap (λ (g : Gateway). g.core.ledger.mark) e;
        no_notices = ap (λ (g : Gateway). g.rest.notices) e;
      }

  pub is_restored : {zs : List ℕ} → Becomes zs (refilled (saved_of bytes) (gateway (cell ys))) → Restored fee limit timing r (saved_of bytes) zs
  is_restored b =
      record {
        becomes =
            record {
              state = b.state;
              gateway_is =
                  b.gateway_is ∙ ap (refilled (saved_of bytes)) (h.becomes.gateway_is ∙ ap (λ k. begun fee limit k timing (present r owner_slots)) n_is)
                  ∙ begun_filled fee limit timing (present r owner_slots) (saved_of bytes);
            };
        fit = h.fit;
        below = h.below;
      }

-- ---- the definition's verdict

module _ (fee : ℤ) (limit : ℕ) (timing : Timing) (r : Roster) (l : List Account) (h : Gathered limit l r) where
  saved_is : (c : ℕ) (s : Saved) → c ≡ verdict (roster_tests fee limit r s) → restore_saved fee limit l timing s ≡ cond (eqb c 0) (started (restored fee limit timing l s)) (not_started c)
  unfolding restore_saved restored
  saved_is c s e =
      let v : verdict (restore_tests fee limit l s) ≡ c = verdict_is fee limit l r h s ∙ sym e in
      ⊎_elim
      (λ (z : c ≡ 0).
      start_accepted (restore_tests fee limit l s) (restored fee limit timing l s) (restore_codes fee limit l s) (v ∙ z)
      ∙ sym (ap (λ b. cond b (started (restored fee limit timing l s)) (not_started c)) (eq-eqb c 0 z)))
      (λ n.
      start_refused (restore_tests fee limit l s) (restored fee limit timing l s) (restore_codes fee limit l s) (λ z. n (sym v ∙ z)) ∙ ap not_started v
      ∙ sym (ap (λ b. cond b (started (restored fee limit timing l s)) (not_started c)) (ne_eqb c 0 n)))
      (same? c 0)

  decoded_is : (c : ℕ) (o : Option Saved) → c ≡ cond (is_some o) (verdict (roster_tests fee limit r (option nothing (λ s. s) o))) malformed →
      option (not_started malformed) (restore_saved fee limit l timing) o ≡ cond (eqb c 0) (started (restored fee limit timing l (option nothing (λ s. s) o))) (not_started c)
  decoded_is c None e = sym (ap (λ k. cond (eqb k 0) (started (restored fee limit timing l nothing)) (not_started k)) e)
  decoded_is c (Some s) e = saved_is c s e

  restore_is : (bytes : List ℕ) (c : ℕ) → c ≡ all_code fee limit r bytes → restore fee limit l timing bytes ≡ cond (eqb c 0) (started (restored fee limit timing l (saved_of bytes))) (not_started c)
  unfolding restore charging all_code code_of saved_of
  restore_is bytes c e = go (le_z (pos 0) fee) e
    where
      go : (b : Bool) → c ≡ cond b (cond (is_some (decode bytes)) (verdict (roster_tests fee limit r (option nothing (λ s. s) (decode bytes)))) malformed) bad_fee →
          cond b (option (not_started malformed) (restore_saved fee limit l timing) (decode bytes)) (not_started bad_fee) ≡ cond (eqb c 0) (started (restored fee limit timing l (option nothing (λ s. s) (decode bytes)))) (not_started c)
      go true d = decoded_is c (decode bytes) d
      go false d = sym (ap (λ k. cond (eqb k 0) (started (restored fee limit timing l (option nothing (λ s. s) (decode bytes)))) (not_started k)) d)

-- the gateway that begins looks at the table alone
table_decides : (fee : ℤ) (limit : ℕ) (timing : Timing) (k l : List Account) (s : Saved) → accounts_of limit k ≡ accounts_of limit l → restored fee limit timing k s ≡ restored fee limit timing l s
unfolding restored
table_decides fee limit timing k l s e = ap (λ t. begin timing (restored_ledger fee t s) t empty_depth (each (hold_notice_of fee (restored_ledger fee t s).wallets) s.orders)) e

-- ---- the call

module _ (fee : ℤ) (limit : ℕ) (timing : Timing) (r : Roster) (bytes : List ℕ) where
  pub restore_refused : (why : Refusal) → refusal_code why ≡ all_code fee limit r bytes → (xs : List ℕ) → Begins limit r (λ l. restore fee limit l timing bytes) (refusal_code why) xs xs
  unfolding Starts
  restore_refused why e xs =
      record {
        starts = λ l h.
            subst (λ (s : Started). Starts s (refusal_code why) xs xs)
            (sym (restore_is fee limit timing r l h bytes (refusal_code why) e ∙ ap (λ b. cond b (started (restored fee limit timing l (saved_of bytes))) (not_started (refusal_code why))) (coded why)))
            (record { code_is = refl; state_kept = refl; rest_kept = tt });
      }

  module _ (z : 0 ≡ all_code fee limit r bytes) where
    -- the fee passes
    code_is_0 : code_of fee limit r bytes ≡ 0
    unfolding all_code
    code_is_0 = go (le_z (pos 0) fee) (sym z)
      where
        go : (b : Bool) → cond b (code_of fee limit r bytes) bad_fee ≡ 0 → code_of fee limit r bytes ≡ 0
        go true e = e
        go false e = absurd (omega (arith, e))

    whole : is_some (decode bytes) ≡ true
    unfolding code_of
    whole = go (is_some (decode bytes)) code_is_0
      where
        go : (b : Bool) → cond b (verdict (roster_tests fee limit r (saved_of bytes))) malformed ≡ 0 → b ≡ true
        go true e = refl
        go false e = absurd (omega (arith, e))

    passed : Pass (roster_tests fee limit r (saved_of bytes))
    unfolding code_of
    passed =
        passes (roster_tests fee limit r (saved_of bytes))
        (codes_append (entry_tests limit r.below (saved_of bytes)) ((outside, wallets_fit fee r 0 (saved_of bytes).orders) ∷ []) (entry_codes limit r.below (saved_of bytes)) refl)
        (sym (ap (λ b. cond b (verdict (roster_tests fee limit r (saved_of bytes))) malformed) whole) ∙ code_is_0)

    entries : Pass (entry_tests limit r.below (saved_of bytes))
    entries = (pass_append (entry_tests limit r.below (saved_of bytes)) ((outside, wallets_fit fee r 0 (saved_of bytes).orders) ∷ []) passed).0

    pub is_whole : is_some (decode bytes) ≡ true
    is_whole = whole

    pub limit_fits : limit ≤ owner_slots
    limit_fits = leb-true limit owner_slots entries.0

    module _ (small : (i : ℕ) → get_or bytes i 0 < 256) where
      pub contents_fit : Fits (saved_of bytes)
      contents_fit =
          let f = decode_fits bytes (saved_of bytes) (all_bytes bytes small) (decoded bytes whole) in
          record {
            owners = owners_below limit limit_fits (saved_of bytes).wallets entries.1.1.0;
            wallets_rise = f.wallets_fit.rise;
            orders_rise = f.orders_fit.rise;
            inside = orders_inside limit (saved_of bytes).last limit_fits (saved_of bytes).orders entries.1.1.1;
          }

      pub restore_begun : (xs ys : List ℕ) → Numbered limit r → Restored fee limit timing r (saved_of bytes) ys → Begins limit r (λ l. restore fee limit l timing bytes) 0 xs ys
      unfolding Starts
      restore_begun xs ys num d =
          record {
            starts = λ l h.
                subst (λ (s : Started). Starts s 0 xs ys) (sym (begins l h))
                (record {
                  is_done = record { code_is = refl; becomes = record { state = d.becomes.state; gateway_is = d.becomes.gateway_is ∙ same l h }; tells = tt };
                  between = record { state = d.becomes.state; ok = subst GatewayOk (sym d.becomes.gateway_is) fine };
                });
          }
        where
          begins : (l : List Account) → Gathered limit l r → restore fee limit l timing bytes ≡ started (restored fee limit timing l (saved_of bytes))
          begins l h = restore_is fee limit timing r l h bytes 0 z

          same : (l : List Account) → Gathered limit l r → restored fee limit timing (present r owner_slots) (saved_of bytes) ≡ restored fee limit timing l (saved_of bytes)
          same l h = table_decides fee limit timing (present r owner_slots) l (saved_of bytes) (gathered_table limit l r h limit_fits)

          own : Gathered limit (present r owner_slots) r
          own = record { numbered = num; below = entries.1.0 ∙ sym d.below; table = λ few. sym (present_table limit r num few) }

          fine : Begin.Begins GatewayOk (started (restored fee limit timing (present r owner_slots) (saved_of bytes)))
          fine = subst (Begin.Begins GatewayOk) (begins (present r owner_slots) own) (restore_begins fee limit (present r owner_slots) timing bytes d.fit (all_bytes bytes small))

pub ruleset laws = (no_checkpoint, is_checkpoint, entry_fails, total_outside, all_fine, open_empty, is_restored, restore_refused, fee_below, fee_fine, arith)
