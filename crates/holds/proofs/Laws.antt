-- What a caller uses: what was weighed is the definitions' test, for one order and for two, also behind a new mark. Assumes nothing.
use Rattle.std.specs.Prelude.{Option, Some, None, option_map, is_some}
use mathlib.Core.Path.{◌≡◌, refl, sym, ap, subst, ◌∙◌}
use mathlib.Core.Bool.{Bool, true, false, cond, ◌&&◌}
use mathlib.Core.List.{List, [], ◌∷◌, ◌++◌}
use Prim.Native.Nat.{ℕ, ◌+◌, ◌≤◌}
use native.Mathlib.Omega.{arith}
use borrow.Author.Tests.{leb-true}
use lib.Dec.{eqb, leb}
use lib.IntN.{ℤ, ◌+ℤ◌, ◌-ℤ◌}
use lib.ListN.{length, length-append, get_or}
use Rattle.words.specs.Words.{int}
use Rattle.gateway.specs.Basics.{option}
use Rattle.table.specs.Live.{look}
use Rattle.gateway.specs.Limits.{most_notices}
use Rattle.gateway.specs.Table.{update}
use Rattle.gateway.specs.Ledger.{Order, Ledger, Change, number_of, with_leaves, mark_by, find, paper, wallet_of, change, same_side, held, fits, holds_fit}
use Rattle.gateway.specs.Deliver.{hold_after, order_notices, change_notices, notices_of}
use Rattle.gateway.specs.Calls.{Gateway}
use Rattle.gateway.specs.Invariant.{GatewayOk}
use Rattle.gateway.proofs.Base.{split}
use Rattle.gateway.proofs.Invariant.{fees_stay}
use Rattle.gateway.proofs.Moves.{Of, names, find_changed, wallets_changed, marked_alike, changed_alike, holds_alike, notices_alike}
use Rattle.store.specs.Cells as C
use Rattle.store.specs.Layout.{cell}
use Rattle.store.specs.View.{word, side, order, ledger, gateway}
use Rattle.orders.specs.Orders.{Sees}
use Rattle.sound.specs.Sound.{Becomes, InPlace}
use Rattle.sound.proofs.Kept.{seen_live}
use Rattle.holds.specs.declared.Move.{Move}
use Rattle.holds.specs.declared.Move.TheVariants.{Leaves}
use Rattle.holds.specs.declared.Shift.{Shift}
use Rattle.holds.specs.Holds.{change_of, moved, Part, part_of, paper_order, part, NewHold, Weighs, Weighed, shift_fits, few_notices, pair_fits}
use Rattle.holds.proofs.Totals as Totals
use Rattle.holds.proofs.Totals.{part_fits, both_fit}
use Rattle.holds.proofs.Weighing.{of, notices_two}
use Rattle.holds.proofs.Applying.{notices_count}

-- ---- the tests, by what a shift says

shift_is : (s : Shift) (l : Ledger) → shift_fits s l ≡ part_fits (part s) l
shift_is s l =
    split (λ b. cond b (fits h) true ≡ part_fits (cond b (Some p) None) l) s.funded (λ _. refl) (λ _. refl)
  where
    p : Part
    p = record { account = s.account; side = side s.side; old = int s.old; new = int s.new }

    h : ℤ
    h = held l.fee p.account p.side l.orders -ℤ p.old +ℤ p.new

pair_is : (s t : Shift) (l : Ledger) → pair_fits s t l ≡ both_fit (part s) (part t) l
pair_is s t l =
    split
    (λ b. cond (b && (t.funded && same)) both (cond b (fits h) true && shift_fits t l) ≡ both_fit (cond b (Some p) None) (part t) l)
    s.funded
    (λ _. split (λ c. cond (c && same) both (fits h && cond c (fits k) true) ≡ both_fit (Some p) (cond c (Some q) None) l) t.funded (λ _. refl) (λ _. refl))
    (λ _. shift_is t l)
  where
    p : Part
    p = record { account = s.account; side = side s.side; old = int s.old; new = int s.new }

    q : Part
    q = record { account = t.account; side = side t.side; old = int t.old; new = int t.new }

    same : Bool
    same = eqb s.account t.account && same_side (side s.side) (side t.side)

    h : ℤ
    h = held l.fee p.account p.side l.orders -ℤ p.old +ℤ p.new

    k : ℤ
    k = held l.fee q.account q.side l.orders -ℤ q.old +ℤ q.new

    both : Bool
    both = fits (h -ℤ q.old +ℤ q.new)

-- ---- what was weighed holds of every ledger in which the order and the wallets are as they were

paper_some : (n : ℕ) (l : Ledger) → paper n l ≡ is_some (paper_order n l)
unfolding paper
paper_some n l = go (find n l.orders)
  where
    go : (w : Option Order) → option false (λ o. is_some (wallet_of l.wallets o)) w ≡ is_some (option None (λ o. cond (is_some (wallet_of l.wallets o)) (Some o) None) w)
    go None = refl
    go (Some o) = split (λ b. b ≡ is_some (cond b (Some o) None)) (is_some (wallet_of l.wallets o)) (λ _. refl) (λ _. refl)

notices_paper : {n : ℕ} {c : Change} → Of n c → (l : Ledger) → change_notices c l ≡ option [] (order_notices l.fee c) (paper_order n l)
notices_paper {n} {c} h l = ap (option [] (λ o. cond (is_some (wallet_of l.wallets o)) (order_notices l.fee c o) [])) (names h l.orders) ∙ go (find n l.orders)
  where
    go : (w : Option Order) → option [] (λ o. cond (is_some (wallet_of l.wallets o)) (order_notices l.fee c o) []) w ≡ option [] (order_notices l.fee c) (option None (λ o. cond (is_some (wallet_of l.wallets o)) (Some o) None) w)
    go None = refl
    go (Some o) = split (λ b. cond b (order_notices l.fee c o) [] ≡ option [] (order_notices l.fee c) (cond b (Some o) None)) (is_some (wallet_of l.wallets o)) (λ _. refl) (λ _. refl)

paper_same : (n : ℕ) (l k : Ledger) → find n k.orders ≡ find n l.orders → ((a : ℕ) → is_some (get_or k.wallets a None) ≡ is_some (get_or l.wallets a None)) → paper_order n k ≡ paper_order n l
paper_same n l k e f = ap (option None (λ o. cond (is_some (wallet_of k.wallets o)) (Some o) None)) e ∙ go (find n l.orders)
  where
    go : (w : Option Order) → option None (λ o. cond (is_some (wallet_of k.wallets o)) (Some o) None) w ≡ option None (λ o. cond (is_some (wallet_of l.wallets o)) (Some o) None) w
    go None = refl
    go (Some o) = ap (λ b. cond b (Some o) None) (f o.account)

hold_same : (n : ℕ) (x : Move) (w : ℕ) (l k : Ledger) → k.fee ≡ l.fee → find n k.orders ≡ find n l.orders → NewHold n x w l → NewHold n x w k
hold_same n x w l k q e h o f = h o (sym e ∙ f) ∙ ap (λ y. hold_after y (change_of n x) o) (sym q)

weighs_same : {n : ℕ} {x : Move} {s : Shift} {g : Gateway} → Weighs n x s g → (h : Gateway) → h.core.ledger.fee ≡ g.core.ledger.fee → find n h.core.ledger.orders ≡ find n g.core.ledger.orders →
    ((a : ℕ) → is_some (get_or h.core.ledger.wallets a None) ≡ is_some (get_or g.core.ledger.wallets a None)) → Weighs n x s h
weighs_same {n} {x} {s} {g} w h q d f =
    let l = g.core.ledger in
    let k = h.core.ledger in
    let e = paper_same n l k d f in
    record {
      owned = record { inside = w.owned.inside; has_wallet = λ u. f s.account ∙ w.owned.has_wallet u };
      paper_is = paper_some n k ∙ ap is_some e ∙ sym (paper_some n l) ∙ w.paper_is;
      noticed = ap length (notices_paper (of n x) k ∙ (λ i. option [] (order_notices (q i) (change_of n x)) (e i)) ∙ sym (notices_paper (of n x) l)) ∙ w.noticed;
      is = w.is ∙ sym (λ i. option_map (part_of (q i) (change_of n x)) (e i));
      holds = hold_same n x s.new l k q d w.holds;
    }

-- where another order has changed
pub kept_hold : (n : ℕ) (x : Move) (w : ℕ) (l : Ledger) → NewHold n x w l → (i : ℕ) (y : Move) → (i ≡ n → ⊥) → NewHold n x w (change (change_of i y) l)
kept_hold n x w l h i y ne = hold_same n x w l (change (change_of i y) l) (fees_stay (change_of i y ∷ []) l) (find_changed i n ne (of i y) l) h

-- in the bytes
pub kept_hold_at : (n : ℕ) (x : Move) (w : ℕ) (xs : List ℕ) {ys : List ℕ} → NewHold n x w (ledger (cell xs)) → (i : ℕ) (y : Move) → (i ≡ n → ⊥) → Becomes ys (moved (change_of i y) (gateway (cell xs))) → NewHold n x w (ledger (cell ys))
kept_hold_at n x w xs h i y ne b = subst (λ g. NewHold n x w g.core.ledger) (sym b.gateway_is) (kept_hold n x w (ledger (cell xs)) h i y ne)

-- it is found where it was
pub kept_live : {xs ys : List ℕ} {g : Gateway} (b : InPlace xs ys g) (n : ℕ) (at : Option ℕ) (i : ℕ) (y : Move) → (i ≡ n → ⊥) → g.core.ledger.orders ≡ (change (change_of i y) (ledger (cell xs))).orders →
    Sees C.order_live order number_of (cell xs) n at → Sees C.order_live order number_of (cell ys) n at
kept_live {xs} b n at i y ne e = seen_live b n at (ap is_some (ap (find n) e ∙ find_changed i n ne (of i y) (ledger (cell xs))))

-- and so is an order whose own open quantity changed
find_updated : (n : ℕ) (f : Order → Order) → ((o : Order) → (f o).number ≡ o.number) → (os : List Order) → is_some (find n (update number_of n f os)) ≡ is_some (find n os)
unfolding look update
find_updated n f h [] = refl
find_updated n f h (o ∷ os) =
    split
    (λ b. (eqb o.number n ≡ b) → is_some (cond (eqb (cond b (f o) o).number n) (Some (cond b (f o) o)) (find n (update number_of n f os))) ≡ is_some (cond b (Some o) (find n os)))
    (eqb o.number n)
    (λ _ e. ap (λ c. is_some (cond c (Some (f o)) (find n (update number_of n f os)))) (ap (λ k. eqb k n) (h o) ∙ e))
    (λ _ e. ap (λ c. is_some (cond c (Some o) (find n (update number_of n f os)))) e ∙ find_updated n f h os)
    refl

pub left_live : {xs ys : List ℕ} (n v : ℕ) (b : InPlace xs ys (moved (change_of n (Leaves v)) (gateway (cell xs)))) (at : Option ℕ) →
    Sees C.order_live order number_of (cell xs) n at → Sees C.order_live order number_of (cell ys) n at
unfolding change
left_live {xs} n v b at = seen_live b n at (find_updated n (with_leaves v) (λ o. refl) (ledger (cell xs)).orders)

pub weighs_after : {j : ℕ} {y : Move} {t : Shift} {g : Gateway} → Weighs j y t g → (i : ℕ) (x : Move) → (i ≡ j → ⊥) → Weighs j y t (moved (change_of i x) g)
weighs_after {j} {g = g} w i x ne =
    weighs_same w (moved (change_of i x) g) (fees_stay (change_of i x ∷ []) g.core.ledger) (find_changed i j ne (of i x) g.core.ledger) (wallets_changed (change_of i x) g.core.ledger)

-- at most two notices
pub weighs_few : {n : ℕ} {x : Move} {s : Shift} {g : Gateway} → Weighs n x s g → s.notices ≤ 2
weighs_few {n} {x} {s} {g} w = let e = w.noticed in omega (arith, ap length (notices_paper (of n x) g.core.ledger), go (paper_order n g.core.ledger))
  where
    go : (o : Option Order) → length (option [] (order_notices g.core.ledger.fee (change_of n x)) o) ≤ 2
    go None = omega arith
    go (Some o) = notices_two g.core.ledger.fee n x o

pub weighed : (xs : List ℕ) (i : ℕ) (x : Move) (h : Shift) → Weighs i x h (gateway (cell xs)) → Weighed h (ledger (cell xs))
weighed xs i x h w = record { owned = w.owned; few = omega (arith, weighs_few w) }

-- ---- code 5

-- those of one change
pub notices_come : {i : ℕ} {x : Move} {h : Shift} (g : Gateway) → Weighs i x h g →
    few_notices h g ≡ leb (length (g.rest.notices ++ (change_notices (change_of i x) g.core.ledger ++ []))) most_notices
notices_come {i} {x} {h} g w =
    let cs = change_notices (change_of i x) g.core.ledger in
    let e : h.notices + length g.rest.notices ≡ length (g.rest.notices ++ (cs ++ [])) = omega (arith, length-append g.rest.notices (cs ++ []), length-append cs [], w.noticed) in
    ap (λ k. leb k most_notices) e

-- by the header's count
pub few_is : (xs : List ℕ) (h : Shift) (r : Bool) → r ≡ leb (h.notices + word (cell xs) C.notice_rows) most_notices → r ≡ few_notices h (gateway (cell xs))
few_is xs h r e = e ∙ ap (λ k. leb (h.notices + k) most_notices) (sym (notices_count (cell xs)))

pub few_noticed : {i : ℕ} {x : Move} {h : Shift} (g : Gateway) → Weighs i x h g → few_notices h g ≡ true → length (change_notices (change_of i x) g.core.ledger) + length g.rest.notices ≤ most_notices
few_noticed {h = h} g w e = omega (arith, w.noticed, leb-true (h.notices + length g.rest.notices) most_notices e)

pub noticed_room : (xs : List ℕ) (x : Change) → length (change_notices x (gateway (cell xs)).core.ledger) + length (gateway (cell xs)).rest.notices ≤ most_notices →
    length (change_notices x (ledger (cell xs))) + word (cell xs) C.notice_rows ≤ most_notices
noticed_room xs x l = omega (arith, notices_count (cell xs), l)

-- ---- code 7

pub one_fits : {n : ℕ} {x : Move} {s : Shift} {g : Gateway} → Weighs n x s g → GatewayOk g → shift_fits s g.core.ledger ≡ holds_fit (change (change_of n x) g.core.ledger)
one_fits {n} {x} {s} {g} w ok = shift_is s g.core.ledger ∙ Totals.one_fits g.core.ledger ok.core_is.rise ok.core_is.holds (of n x) (part s) w.is

module _ {i j : ℕ} {x y : Move} {s t : Shift} {g : Gateway} (w : Weighs i x s g) (v : Weighs j y t g) (ne : i ≡ j → ⊥) where
  abbrev l : Ledger
  l = g.core.ledger

  pub two_fit : GatewayOk g → pair_fits s t l ≡ holds_fit (change (change_of j y) (change (change_of i x) l))
  two_fit ok = pair_is s t l ∙ Totals.two_fit l ok.core_is.rise ok.core_is.holds (of i x) (of j y) ne (part s) (part t) w.is v.is

  pub two_noticed : length (change_notices (change_of j y) (change (change_of i x) l)) ≡ t.notices
  two_noticed = (weighs_after v i x ne).noticed

  -- behind a new mark, as in a trade
  module _ (a b : ℕ) (p : ℤ) where
    pub trade_fits : GatewayOk g → pair_fits s t l ≡ holds_fit (change (change_of j y) (change (change_of i x) (change (mark_by a b p) l)))
    trade_fits ok = two_fit ok ∙ sym (holds_alike (changed_alike (change_of j y) (changed_alike (change_of i x) (marked_alike a b p l))))

    pub trade_noticed : length (notices_of (mark_by a b p ∷ change_of i x ∷ change_of j y ∷ []) l) ≡ s.notices + t.notices
    trade_noticed =
        let first = change_notices (change_of i x) (change (mark_by a b p) l) in
        let second = change_notices (change_of j y) (change (change_of i x) (change (mark_by a b p) l)) in
        let e = ap length (notices_alike (change_of i x) (marked_alike a b p l)) in
        let f = ap length (notices_alike (change_of j y) (changed_alike (change_of i x) (marked_alike a b p l))) in
        omega (arith, length-append first (second ++ []), length-append second [], e, f, w.noticed, two_noticed)
