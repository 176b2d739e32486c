-- The reference price, and the whole. Assumes nothing.
use Rattle.std.specs.Prelude.{Some, None}
use Prim.Native.Nat.{ℕ}
use mathlib.Core.Path.{◌≡◌, sym, ap, subst, ◌∙◌}
use mathlib.Core.Bool.{Bool, cond, not}
use mathlib.Core.List.{List}
use native.Mathlib.Omega.{arith}
use borrow.Author.Tests.{eq-eqb, ne_eqb}
use lib.ListN.{length}
use Rattle.words.specs.Words.{int}
use Rattle.gateway.specs.Limits.{owner_slots}
use Rattle.gateway.specs.Ledger.{with_orders}
use Rattle.gateway.specs.Calls.{Gateway}
use Rattle.gateway.specs.Saved.{Saved}
use Rattle.store.specs.Cells as C
use Rattle.store.specs.Layout.{cell}
use Rattle.store.specs.View.{wallet, maybe_price, gateway, Is}
use Rattle.store.proofs.Listed.{listed_length}
use Rattle.pending.specs.Pending as Pending
use Rattle.pending.proofs.Views.{mark_view}
use Rattle.sound.specs.Sound.{State, Becomes}
use Rattle.sound.proofs.Kept.{becomes}
use Rattle.sound.proofs.Waiting.{mark_sound}
use Rattle.live.specs.Live.{with_ledger}
use Rattle.saved.specs.declared.Reference.{Reference}
use Rattle.saved.specs.Contents.{saved_of}
use Rattle.refill.specs.Refill.{with_mark, own_all, noticed, refilled, Fits, Empty}
use Rattle.refill.proofs.Wallets.{own_there, own_none, all_restored}
use Rattle.refill.proofs.Noticing.{account_there, notice_fits, notice_becomes}

-- ---- the reference price

module _ (xs : List ℕ) (st : State xs) (r : Reference) where
  abbrev g : Gateway
  g = gateway (cell xs)

  pub mark_there : {ys : List ℕ} → (r.marked ≡ 0 → ⊥) → Is ys (Pending.set_mark r.price (cell xs)) → Becomes ys (with_ledger (with_mark (maybe_price r.marked r.price)) g)
  mark_there {ys} n h =
      subst (λ (b : Bool). Becomes ys (with_ledger (with_mark (cond (not b) (Some (int r.price)) None)) g)) (sym (ne_eqb r.marked 0 n))
      (becomes h (mark_sound (cell xs) st.sound r.price) (mark_view r.price (cell xs)))

  pub mark_none : (gateway (cell xs)).core.ledger.mark ≡ None → r.marked ≡ 0 → Becomes xs (with_ledger (with_mark (maybe_price r.marked r.price)) g)
  mark_none e n =
      subst (λ (b : Bool). Becomes xs (with_ledger (with_mark (cond (not b) (Some (int r.price)) None)) g)) (sym (eq-eqb r.marked 0 n))
      (record { state = st; gateway_is = ap (λ p. with_ledger (with_mark p) g) e })

-- ---- the whole

module _ (bytes xs : List ℕ) (emp : Empty (saved_of bytes) xs) where
  abbrev s : Saved
  s = saved_of bytes

  abbrev g₀ : Gateway
  g₀ = gateway (cell xs)

  module _ {ys : List ℕ} (p : Becomes ys (with_ledger (with_orders (saved_of bytes).orders) (gateway (cell xs)))) where
    pub still_unmarked : (gateway (cell ys)).core.ledger.mark ≡ None
    still_unmarked = ap (λ (h : Gateway). h.core.ledger.mark) p.gateway_is ∙ emp.no_mark

    module _ {zs us : List ℕ} (r : Reference) (r_is : maybe_price r.marked r.price ≡ (saved_of bytes).mark) (q : Becomes zs (with_ledger (with_mark (maybe_price r.marked r.price)) (gateway (cell ys))))
        (v : Becomes us (with_ledger (own_all (saved_of bytes).wallets) (gateway (cell zs)))) where
      so_far : gateway (cell us) ≡ with_ledger (λ l. own_all s.wallets (with_mark s.mark (with_orders s.orders l))) g₀
      so_far =
          v.gateway_is
          ∙ ap (with_ledger (own_all s.wallets))
          (q.gateway_is ∙ ap (λ m. with_ledger (with_mark m) (gateway (cell ys))) r_is ∙ ap (with_ledger (with_mark s.mark)) p.gateway_is)

      pub still_unnoticed : length (gateway (cell us)).rest.notices ≡ 0
      still_unnoticed = ap (λ (h : Gateway). length h.rest.notices) so_far ∙ ap length emp.no_notices

      pub refill_becomes : {ts : List ℕ} → Fits (saved_of bytes) → Becomes ts (noticed (saved_of bytes).orders (gateway (cell us))) → Becomes ts (refilled (saved_of bytes) (gateway (cell xs)))
      unfolding refilled
      refill_becomes f b =
          record {
            state = b.state;
            gateway_is =
                b.gateway_is ∙ ap (noticed s.orders) so_far
                ∙ ap (λ ws. noticed s.orders (with_ledger (λ l. record { last = l.last; wallets = ws; orders = s.orders; mark = s.mark; fee = l.fee }) g₀))
                (all_restored s.wallets g₀.core.ledger.wallets f.wallets_rise (listed_length (λ i. wallet (cell xs C.accounts i)) owner_slots));
          }

pub ruleset laws = (mark_there, mark_none, own_there, own_none, account_there, notice_fits, notice_becomes, still_unmarked, still_unnoticed, refill_becomes, arith)
