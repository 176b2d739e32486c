-- The orders of the bytes take their places one by one, each above the last. Assumes nothing.
use Prim.Native.Nat.{ℕ, suc, ◌+◌, ◌≤◌, ◌<◌}
use mathlib.Core.Path.{◌≡◌, sym, ap, subst, ◌∙◌}
use mathlib.Core.List.{List, [], ◌∷◌, ◌++◌}
use native.Mathlib.Nat.{not-suc-le-zero}
use native.Mathlib.Numerals.{add-one}
use native.Mathlib.Omega.{arith}
use lib.ListN.{length, take, drop}
use lib.Seq.{take-suc, take_all, drop-cons, length-take-le}
use Rattle.gateway.specs.Limits.{owner_slots, most_orders}
use Rattle.gateway.specs.Table.{Rises}
use Rattle.gateway.specs.Ledger.{Order, number_of, with_orders}
use Rattle.gateway.specs.Invariant.{Inside}
use Rattle.gateway.specs.Calls.{Gateway}
use Rattle.gateway.specs.Saved.{Saved}
use Rattle.store.specs.Cells as C
use Rattle.store.specs.Layout.{cell}
use Rattle.store.specs.View.{word, gateway}
use Rattle.sound.specs.Sound.{Becomes}
use Rattle.live.specs.Live.{with_ledger}
use Rattle.saved.specs.Contents.{saved_of, order_at, no_order}
use Rattle.refill.specs.Refill.{HasRoom, Places, Fits, Empty}
use Rattle.refill.proofs.Wallets.{each_at}

-- ---- the first j have come to the state xs, which was empty

module _ (bytes xs : List ℕ) (emp : Empty (saved_of bytes) xs) (fits : Fits (saved_of bytes)) (few : length (saved_of bytes).orders ≤ most_orders) where
  abbrev s : Saved
  s = saved_of bytes

  abbrev g : Gateway
  g = gateway (cell xs)

  pub record Placed (j : ℕ) (ys : List ℕ) : Type 0 where
    pub becomes : Becomes ys (with_ledger (with_orders (take j s.orders)) g)
    -- the least number that the next may have
    pub next : ℕ
    pub under : (i : ℕ) → i < word (cell ys) C.order_rows → cell ys C.orders i C.order_number < next
    pub rises : Rises number_of next (drop j s.orders)

  pub none_placed : Placed 0 xs
  none_placed =
      record {
        becomes = record { state = emp.state; gateway_is = ap (λ os. with_ledger (with_orders os) g) emp.no_orders };
        next = 0;
        under = λ i l. absurd (not-suc-le-zero (let k : i < 0 = omega (arith, l, emp.no_rows) in k));
        rises = fits.orders_rise;
      }

  module _ (j : ℕ) (ys : List ℕ) (a : Placed j ys) (l : j < length s.orders) where
    abbrev o : Order
    o = order_at bytes j

    apart : Rises number_of a.next (o ∷ drop (suc j) s.orders)
    apart = subst (Rises number_of a.next) (drop-cons s.orders j no_order l) a.rises

    inside : Inside s.last owner_slots o
    inside = each_at (Inside s.last owner_slots) s.orders j no_order fits.inside l

    pub has_room : HasRoom o (cell ys)
    has_room =
        let e = a.becomes.gateway_is in
        let last : word (cell ys) C.last ≡ s.last = ap (λ (h : Gateway). h.core.ledger.last) e ∙ emp.last_is in
        let size : word (cell ys) C.live_orders ≡ j =
        a.becomes.state.sound.tables.ordered.counted.live_count ∙ ap (λ (h : Gateway). length h.core.ledger.orders) e ∙ length-take-le j s.orders (omega arith) in
        record {
          above = λ i k. let p = a.under i k in omega (arith, p, apart.0);
          at_most_last = omega (arith, last, inside.0);
          room = omega (arith, size, few, l);
          owner_is = inside.1;
        }

    pub more_placed : (zs : List ℕ) → Places o ys zs → Placed (j + 1) zs
    more_placed zs b =
        subst (λ k. Placed k zs) (sym (add-one j))
        (record {
          becomes =
              record {
                state = b.becomes.state;
                gateway_is =
                    b.becomes.gateway_is ∙ ap (with_ledger (λ l. with_orders (l.orders ++ (o ∷ [])) l)) a.becomes.gateway_is
                    ∙ ap (λ os. with_ledger (with_orders os) g) (sym (take-suc s.orders j no_order l));
              };
          next = suc o.number;
          under = λ i k. let p = b.last i k in omega (arith, p);
          rises = apart.1;
        })

  pub all_placed : (j : ℕ) (ys : List ℕ) → length s.orders ≤ j → Placed j ys → Becomes ys (with_ledger (with_orders s.orders) g)
  all_placed j ys l a = subst (λ os. Becomes ys (with_ledger (with_orders os) g)) (take_all j s.orders l) a.becomes
