-- Code 7 for one changed order and for two: where every total fitted, those that the orders are parts of decide. Assumes nothing.
use Rattle.std.specs.Prelude.{Option, Some, None, option_map, is_some}
use mathlib.Core.Path.{◌≡◌, refl, sym, ap, ap₂, subst, ◌∙◌}
use mathlib.Core.Bool.{Bool, true, false, cond, ◌&&◌, and-true, and-eq-true_iff, false≢true}
use mathlib.Core.List.{List, [], ◌∷◌, ◌++◌, map}
use Prim.Native.Nat.{ℕ}
use borrow.Author.Tests.{eq-eqb, eqb-true}
use lib.Dec.{eqb}
use lib.IntN.{ℤ, pos, neg_ℤ, ◌+ℤ◌, ◌-ℤ◌, +ℤ_idr, +ℤ_assoc, +ℤ_comm}
use lib.ListN.{get_or}
use Rattle.accounts.specs.declared.Funds.{Funds}
use Rattle.orderbook.specs.declared.Side.{Side}
use Rattle.orderbook.specs.declared.Side.TheVariants.{Buy, Sell}
use Rattle.table.specs.Live.{Each}
use Rattle.table.proofs.Lists.{each_append}
use Rattle.gateway.specs.Basics.{option}
use Rattle.gateway.specs.Ledger.{Order, Ledger, Change, find, wallet_of, change, same_side, held, fits, holds_fit}
use Rattle.gateway.specs.Deliver.{hold_after}
use Rattle.gateway.proofs.Base.{split}
use Rattle.gateway.proofs.Invariant.{Rise, fees_stay}
use Rattle.gateway.proofs.Holds.{Total, totals_fit, Other, holds_listed, side_is}
use Rattle.gateway.specs.Claims.{hold_move}
use Rattle.gateway.proofs.Moves.{Of, mine, held_changed, find_changed, rise_changed, wallets_changed}
use Rattle.holds.specs.Holds.{Part, part_of, paper_order}

-- ---- parts of totals change

-- what the total of account a and side z grows by
abbrev pub move : ℕ → Side → Part → ℤ
move a z p = cond (eqb p.account a && same_side z p.side) (p.new -ℤ p.old) (pos 0)

abbrev pub moved_by : ℕ → Side → ℤ → List Part → ℤ
moved_by a z h [] = h
moved_by a z h (p ∷ ps) = moved_by a z (h +ℤ move a z p) ps

abbrev key : Part → Total
key p = (p.account, p.side)

untouched : (a : ℕ) (z : Side) (ps : List Part) → Each (Other a z) (map key ps) → (h : ℤ) → moved_by a z h ps ≡ h
untouched a z [] e h = refl
untouched a z (p ∷ ps) e h = ap (λ (b : Bool). moved_by a z (h +ℤ cond b (p.new -ℤ p.old) (pos 0)) ps) e.0 ∙ ap (λ k. moved_by a z k ps) (+ℤ_idr h) ∙ untouched a z ps e.1 h

abbrev Funded : Ledger → ℕ → Type 0
Funded l a = is_some (get_or l.wallets a None) ≡ true

keys_funded : (l : Ledger) (ps : List Part) → Each (λ p. Funded l p.account) ps → Each (λ t. Funded l t.0) (map key ps)
keys_funded l [] e = tt
keys_funded l (p ∷ ps) e = (e.0, keys_funded l ps e.1)

parts_fit : (l k : Ledger) (ps : List Part) → k.fee ≡ l.fee → holds_fit l ≡ true → ((a : ℕ) → is_some (get_or k.wallets a None) ≡ is_some (get_or l.wallets a None)) → Each (λ p. Funded l p.account) ps →
    ((a : ℕ) (z : Side) → Funded l a → held l.fee a z k.orders ≡ moved_by a z (held l.fee a z l.orders) ps) → holds_fit k ≡ totals_fit l.fee (map key ps) k.orders
parts_fit l k ps q h same owned moves =
    holds_listed l k (map key ps) h same (keys_funded l ps owned) (λ a z w e. ap (λ f. held f a z k.orders) q ∙ moves a z w ∙ untouched a z ps e (held l.fee a z l.orders))
    ∙ ap (λ f. totals_fit f (map key ps) k.orders) q

-- ---- the part of the order n

abbrev listed : Option Part → List Part
listed None = []
listed (Some p) = p ∷ []

abbrev weighed : ℤ → Change → List (Option Funds) → Option Order → Option Part
weighed fee c ws w = option_map (part_of fee c) (option None (λ o. cond (is_some (wallet_of ws o)) (Some o) None) w)

listed_funded : (c : Change) (l : Ledger) (w : Option Order) → Each (λ p. Funded l p.account) (listed (weighed l.fee c l.wallets w))
listed_funded c l None = tt
listed_funded c l (Some o) =
    split (λ b. (is_some (wallet_of l.wallets o) ≡ b) → Each (λ p. Funded l p.account) (listed (option_map (part_of l.fee c) (cond b (Some o) None)))) (is_some (wallet_of l.wallets o)) (λ _ e. (e, tt)) (λ _ e. tt) refl

move_is : (a : ℕ) (z : Side) (c : Change) (l : Ledger) → Funded l a → (w : Option Order) (h : ℤ) → h +ℤ hold_move l.fee a z c w ≡ moved_by a z h (listed (weighed l.fee c l.wallets w))
move_is a z c l f None h = +ℤ_idr h
move_is a z c l f (Some o) h =
    split (λ b. (is_some (wallet_of l.wallets o) ≡ b) → h +ℤ hold_move l.fee a z c (Some o) ≡ moved_by a z h (listed (option_map (part_of l.fee c) (cond b (Some o) None)))) (is_some (wallet_of l.wallets o))
    (λ _ e. refl)
    (λ _ e.
    split (λ m. (mine a z o ≡ m) → h +ℤ cond m (hold_after l.fee c o -ℤ (part_of l.fee c o).old) (pos 0) ≡ h) (mine a z o)
    (λ _ m. absurd (false≢true (sym e ∙ ap (λ b. is_some (get_or l.wallets b None)) (eqb-true o.account a ((and-eq-true_iff (eqb o.account a) (same_side z o.side)).0 m).0) ∙ f)))
    (λ _ m. +ℤ_idr h) refl)
    refl

-- ---- the tests

abbrev pub part_fits : Option Part → Ledger → Bool
part_fits None l = true
part_fits (Some p) l = fits (held l.fee p.account p.side l.orders -ℤ p.old +ℤ p.new)

abbrev pub both_fit : Option Part → Option Part → Ledger → Bool
both_fit None v l = part_fits v l
both_fit (Some p) None l = part_fits (Some p) l && true
both_fit (Some p) (Some q) l =
    cond (eqb p.account q.account && same_side p.side q.side) (fits (held l.fee p.account p.side l.orders -ℤ p.old +ℤ p.new -ℤ q.old +ℤ q.new))
    (part_fits (Some p) l && part_fits (Some q) l)

-- ---- sums

less_more : (h o n : ℤ) → h +ℤ (n -ℤ o) ≡ h -ℤ o +ℤ n
less_more h o n = ap (λ w. h +ℤ w) (+ℤ_comm n (neg_ℤ o)) ∙ sym (+ℤ_assoc h (neg_ℤ o) n)

itself : (z : Side) → same_side z z ≡ true
itself Buy = refl
itself Sell = refl

side_comm : (z w : Side) → same_side z w ≡ same_side w z
side_comm Buy Buy = refl
side_comm Buy Sell = refl
side_comm Sell Buy = refl
side_comm Sell Sell = refl

eqb_comm : (a b : ℕ) → eqb a b ≡ eqb b a
eqb_comm a b =
    split (λ x. (eqb a b ≡ x) → x ≡ eqb b a) (eqb a b) (λ _ e. sym (eq-eqb b a (sym (eqb-true a b e))))
    (λ _ e. split (λ y. (eqb b a ≡ y) → false ≡ y) (eqb b a) (λ _ d. absurd (false≢true (sym e ∙ eq-eqb a b (sym (eqb-true b a d))))) (λ _ d. refl) refl) refl

-- q is a part of the total of a and z, or of another
here : (a : ℕ) (z : Side) (h : ℤ) (q : Part) → (eqb q.account a && same_side z q.side) ≡ true → h +ℤ move a z q ≡ h -ℤ q.old +ℤ q.new
here a z h q e = ap (λ (b : Bool). h +ℤ cond b (q.new -ℤ q.old) (pos 0)) e ∙ less_more h q.old q.new

elsewhere : (a : ℕ) (z : Side) (h : ℤ) (q : Part) → (eqb q.account a && same_side z q.side) ≡ false → h +ℤ move a z q ≡ h
elsewhere a z h q e = ap (λ (b : Bool). h +ℤ cond b (q.new -ℤ q.old) (pos 0)) e ∙ +ℤ_idr h

own : (p : Part) → (eqb p.account p.account && same_side p.side p.side) ≡ true
own p = ap₂ (λ b c. b && c) (eq-eqb p.account p.account refl) (itself p.side)

-- ---- one order

module _ (l : Ledger) (rise : Rise 0 l.orders) (fit : holds_fit l ≡ true) where
  module _ {i : ℕ} {c : Change} (of : Of i c) where
    one_moves : (a : ℕ) (z : Side) → Funded l a → held l.fee a z (change c l).orders ≡ moved_by a z (held l.fee a z l.orders) (listed (option_map (part_of l.fee c) (paper_order i l)))
    one_moves a z f = held_changed l.fee a z of l rise ∙ move_is a z c l f (find i l.orders) (held l.fee a z l.orders)

    one_decides : (u : Option Part) → u ≡ option_map (part_of l.fee c) (paper_order i l) → holds_fit (change c l) ≡ totals_fit l.fee (map key (listed u)) (change c l).orders
    one_decides u e =
        parts_fit l (change c l) (listed u) (fees_stay (c ∷ []) l) fit (wallets_changed c l) (subst (λ v. Each (λ p. Funded l p.account) (listed v)) (sym e) (listed_funded c l (find i l.orders)))
        (λ a z f. one_moves a z f ∙ ap (λ v. moved_by a z (held l.fee a z l.orders) (listed v)) (sym e))

    pub one_fits : (u : Option Part) → u ≡ option_map (part_of l.fee c) (paper_order i l) → part_fits u l ≡ holds_fit (change c l)
    one_fits None e = sym (one_decides None e)
    one_fits (Some p) e =
        sym
        (one_decides (Some p) e ∙ and-true _
        ∙ ap fits
        (one_moves p.account p.side owned ∙ ap (λ v. moved_by p.account p.side (held l.fee p.account p.side l.orders) (listed v)) (sym e)
        ∙ here p.account p.side (held l.fee p.account p.side l.orders) p (own p)))
      where
        owned : Funded l p.account
        owned = (subst (λ v. Each (λ q. Funded l q.account) (listed v)) (sym e) (listed_funded c l (find i l.orders))).0

    -- ---- two orders

    module _ {j : ℕ} {d : Change} (od : Of j d) (ne : i ≡ j → ⊥) where
      abbrev after : Ledger
      after = change d (change c l)

      split_moves : (a : ℕ) (z : Side) (h : ℤ) (ps qs : List Part) → moved_by a z h (ps ++ qs) ≡ moved_by a z (moved_by a z h ps) qs
      split_moves a z h [] qs = refl
      split_moves a z h (p ∷ ps) qs = split_moves a z (h +ℤ move a z p) ps qs

      two_moves : (u v : Option Part) → u ≡ option_map (part_of l.fee c) (paper_order i l) → v ≡ option_map (part_of l.fee d) (paper_order j l) → (a : ℕ) (z : Side) → Funded l a →
          held l.fee a z after.orders ≡ moved_by a z (held l.fee a z l.orders) (listed u ++ listed v)
      two_moves u v e f a z w =
          held_changed l.fee a z od (change c l) (rise_changed c l rise)
          ∙ ap₂ (λ h x. h +ℤ hold_move l.fee a z d x) (one_moves a z w ∙ ap (λ y. moved_by a z (held l.fee a z l.orders) (listed y)) (sym e)) (find_changed i j ne of l)
          ∙ move_is a z d l w (find j l.orders) (moved_by a z (held l.fee a z l.orders) (listed u))
          ∙ ap (λ y. moved_by a z (moved_by a z (held l.fee a z l.orders) (listed u)) (listed y)) (sym f)
          ∙ sym (split_moves a z (held l.fee a z l.orders) (listed u) (listed v))

      two_owned : (u v : Option Part) → u ≡ option_map (part_of l.fee c) (paper_order i l) → v ≡ option_map (part_of l.fee d) (paper_order j l) → Each (λ p. Funded l p.account) (listed u ++ listed v)
      two_owned u v e f =
          each_append (λ p. Funded l p.account) (listed u) (listed v) (subst (λ y. Each (λ q. Funded l q.account) (listed y)) (sym e) (listed_funded c l (find i l.orders)))
          (subst (λ y. Each (λ q. Funded l q.account) (listed y)) (sym f) (listed_funded d l (find j l.orders)))

      two_decide : (u v : Option Part) → u ≡ option_map (part_of l.fee c) (paper_order i l) → v ≡ option_map (part_of l.fee d) (paper_order j l) → holds_fit after ≡ totals_fit l.fee (map key (listed u ++ listed v)) after.orders
      two_decide u v e f =
          parts_fit l after (listed u ++ listed v) (fees_stay (c ∷ d ∷ []) l) fit (λ a. wallets_changed d (change c l) a ∙ wallets_changed c l a) (two_owned u v e f) (two_moves u v e f)

      twice : (b : Bool) → b && (b && true) ≡ b
      twice true = refl
      twice false = refl

      both_parts : (p q : Part) → Some p ≡ option_map (part_of l.fee c) (paper_order i l) → Some q ≡ option_map (part_of l.fee d) (paper_order j l) → both_fit (Some p) (Some q) l ≡ holds_fit after
      both_parts p q e f =
          let o = two_owned (Some p) (Some q) e f in
          let at_p = two_moves (Some p) (Some q) e f p.account p.side o.0 in
          let at_q = two_moves (Some p) (Some q) e f q.account q.side o.1.0 in
          let hp = held l.fee p.account p.side l.orders in
          let hq = held l.fee q.account q.side l.orders in
          let flip : (eqb q.account p.account && same_side p.side q.side) ≡ (eqb p.account q.account && same_side p.side q.side) = ap (λ b. b && same_side p.side q.side) (eqb_comm q.account p.account) in
          let turn : (eqb p.account q.account && same_side q.side p.side) ≡ (eqb p.account q.account && same_side p.side q.side) = ap (λ b. eqb p.account q.account && b) (side_comm q.side p.side) in
          split
          (λ b. ((eqb p.account q.account && same_side p.side q.side) ≡ b) → cond b (fits (hp -ℤ p.old +ℤ p.new -ℤ q.old +ℤ q.new)) (part_fits (Some p) l && part_fits (Some q) l) ≡ holds_fit after)
          (eqb p.account q.account && same_side p.side q.side)
          (λ _ s.
          let k = (and-eq-true_iff (eqb p.account q.account) (same_side p.side q.side)).0 s in
          let sum : held l.fee p.account p.side after.orders ≡ hp -ℤ p.old +ℤ p.new -ℤ q.old +ℤ q.new =
          at_p ∙ ap (λ h. h +ℤ move p.account p.side q) (here p.account p.side hp p (own p)) ∙ here p.account p.side (hp -ℤ p.old +ℤ p.new) q (flip ∙ s) in
          let one : held l.fee q.account q.side after.orders ≡ held l.fee p.account p.side after.orders =
          sym (ap₂ (λ a z. held l.fee a z after.orders) (eqb-true p.account q.account k.0) (side_is p.side q.side k.1)) in
          sym
          (two_decide (Some p) (Some q) e f ∙ ap₂ (λ x y. fits x && (fits y && true)) sum (one ∙ sum) ∙ twice (fits (hp -ℤ p.old +ℤ p.new -ℤ q.old +ℤ q.new))))
          (λ _ s.
          let first = at_p ∙ elsewhere p.account p.side (hp +ℤ move p.account p.side p) q (flip ∙ s) ∙ here p.account p.side hp p (own p) in
          let second = at_q ∙ ap (λ h. h +ℤ move q.account q.side q) (elsewhere q.account q.side hq p (turn ∙ s)) ∙ here q.account q.side hq q (own q) in
          sym (two_decide (Some p) (Some q) e f ∙ ap₂ (λ x y. fits x && (fits y && true)) first second ∙ ap (λ b. fits (hp -ℤ p.old +ℤ p.new) && b) (and-true (fits (hq -ℤ q.old +ℤ q.new)))))
          refl

      pub two_fit : (u v : Option Part) → u ≡ option_map (part_of l.fee c) (paper_order i l) → v ≡ option_map (part_of l.fee d) (paper_order j l) → both_fit u v l ≡ holds_fit after
      two_fit None None e f = sym (two_decide None None e f)
      two_fit None (Some q) e f =
          let at_q = two_moves None (Some q) e f q.account q.side (two_owned None (Some q) e f).0 in
          sym (two_decide None (Some q) e f ∙ and-true _ ∙ ap fits (at_q ∙ here q.account q.side (held l.fee q.account q.side l.orders) q (own q)))
      two_fit (Some p) None e f =
          let at_p = two_moves (Some p) None e f p.account p.side (two_owned (Some p) None e f).0 in
          sym (two_decide (Some p) None e f ∙ ap (λ x. fits x && true) (at_p ∙ here p.account p.side (held l.fee p.account p.side l.orders) p (own p)))
      two_fit (Some p) (Some q) e f = both_parts p q e f
