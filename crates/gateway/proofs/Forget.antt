-- Forgetting client references goes past every step of the ledger, and no check sees it. Assumes nothing.
use Rattle.std.specs.Prelude.{Option, Some, None, is_some}
use Prim.Native.Nat.{ℕ, suc, ◌<◌}
use mathlib.Core.Bool.{false, cond, ◌&&◌}
use mathlib.Core.Path.{◌≡◌, refl, ap, ap₂, sym, ◌∙◌}
use mathlib.Core.List.{List, [], ◌∷◌, ◌++◌, map}
use borrow.Author.Tests.{lt-leb}
use lib.IntN.{ℤ, ◌+ℤ◌}
use lib.Dec.{eqb}
use Rattle.orderbook.specs.declared.Side.{Side}
use Rattle.accounts.specs.declared.Funds.{Funds}
use Rattle.gateway.specs.Ledger.{Order, Ledger, New, Item, account, command, event, order_of, owner_of, placed, number_of, find, remove, with_leaves, with_price, with_orders, left}
use Rattle.gateway.specs.Ledger.{Change, mark_by, fill, set_leaves, reprice, retire, changes, change, changed, pay, paper, wallet_of, step, held, held_by, wallet_fits, wallets_fit, holds_fit, open_of}
use Rattle.gateway.specs.Basics.{option}
use Rattle.table.specs.Live.{look, without}
use Rattle.gateway.specs.Table.{update}
use Rattle.gateway.specs.Restart.{forget, forgetting}
use Rattle.gateway.proofs.Base.{if_map}

-- the item's number is above n
abbrev pub above : ℕ → Item → Type 0
above n (account a) = Unit {0}
above n (command m k) = n < m
above n (event m e) = n < m

module _ (N : ℕ) where
  abbrev pub forgotten : Option Order → Option Order
  forgotten None = None
  forgotten (Some o) = Some (forget N o)

  pub find_forget : (n : ℕ) (os : List Order) → find n (map (forget N) os) ≡ forgotten (find n os)
  unfolding look
  find_forget n [] = refl
  find_forget n (o ∷ os) = sym (if_map forgotten (eqb o.number n) refl (sym (find_forget n os)))

  pub remove_forget : (n : ℕ) (os : List Order) → map (forget N) (remove n os) ≡ remove n (map (forget N) os)
  unfolding without
  remove_forget n [] = refl
  remove_forget n (o ∷ os) = if_map (map (forget N)) (eqb o.number n) (remove_forget n os) (ap (λ l. forget N o ∷ l) (remove_forget n os))

  pub update_forget : (f : Order → Order) → ((o : Order) → forget N (f o) ≡ f (forget N o)) →
      (n : ℕ) (os : List Order) → map (forget N) (update number_of n f os) ≡ update number_of n f (map (forget N) os)
  unfolding update
  update_forget f h n [] = refl
  update_forget f h n (o ∷ os) = ap₂ (λ x l. x ∷ l) (if_map (forget N) (eqb o.number n) (h o) refl) (update_forget f h n os)

  pub left_forget : (f : Order → Order) → ((o : Order) → forget N (f o) ≡ f (forget N o)) →
      (n v : ℕ) (os : List Order) → map (forget N) (left n f v os) ≡ left n f v (map (forget N) os)
  left_forget f h n v os =
      if_map (map (forget N)) (eqb v 0) (remove_forget n os)
      (update_forget (λ o. with_leaves v (f o)) (λ o. ap (with_leaves v) (h o)) n os)

  pay_forget : (fee p : ℤ) (q : ℕ) (o : Option Order) (ws : List (Option Funds)) → pay fee p q (forgotten o) ws ≡ pay fee p q o ws
  unfolding pay
  pay_forget fee p q None ws = refl
  pay_forget fee p q (Some o) ws = refl

  paper_forget : (n : ℕ) (l : Ledger) → paper n (forgetting N l) ≡ paper n l
  unfolding paper
  paper_forget n l = ap (option false (λ o. is_some (wallet_of l.wallets o))) (find_forget n l.orders) ∙ same (find n l.orders)
    where
      same : (o : Option Order) → option false (λ x. is_some (wallet_of l.wallets x)) (forgotten o) ≡ option false (λ x. is_some (wallet_of l.wallets x)) o
      same None = refl
      same (Some o) = refl

  pub change_forget : (x : Change) (l : Ledger) → forgetting N (change x l) ≡ change x (forgetting N l)
  unfolding change
  change_forget (mark_by t m p) l = simp (paper_forget t l, paper_forget m l)
  change_forget (fill n p q v) l =
      simp (left_forget (λ o. o) (λ o. refl) n v l.orders, find_forget n l.orders, pay_forget l.fee p q (find n l.orders) l.wallets)
  change_forget (set_leaves n v) l = ap (λ os. with_orders os l) (update_forget (with_leaves v) (λ o. refl) n l.orders)
  change_forget (reprice n p v) l = ap (λ os. with_orders os l) (left_forget (with_price p) (λ o. refl) n v l.orders)
  change_forget (retire n) l = ap (λ os. with_orders os l) (remove_forget n l.orders)

  pub changed_forget : (xs : List Change) (l : Ledger) → forgetting N (changed xs l) ≡ changed xs (forgetting N l)
  changed_forget [] l = refl
  changed_forget (x ∷ xs) l = changed_forget xs (change x l) ∙ ap (changed xs) (change_forget x l)

  map_append : (f : Order → Order) (a b : List Order) → map f (a ++ b) ≡ map f a ++ map f b
  map_append f [] b = refl
  map_append f (o ∷ a) b = ap (λ l. f o ∷ l) (map_append f a b)

  placed_forget : (ref n a : ℕ) (x : Option New) → N < n → map (forget N) (placed ref n a x) ≡ placed 0 n a x
  placed_forget ref n a None h = refl
  placed_forget ref n a (Some x) h = simp (lt-leb n N h)

  -- the ledger's step with any reference, forgotten, is the step with none
  pub step_forget : (ref : ℕ) (i : Item) (l : Ledger) → above N i → forgetting N (step ref i l) ≡ step 0 i (forgetting N l)
  unfolding step
  step_forget ref (account a) l h = refl
  step_forget ref (command n k) l h = simp (map_append, placed_forget ref n (owner_of k) (order_of k) h)
  step_forget ref (event n e) l h = changed_forget (changes n e) l

  pub open_forget : (a : ℕ) (os : List Order) → open_of a (map (forget N) os) ≡ open_of a os
  open_forget a [] = refl
  open_forget a (o ∷ os) = ap (λ n. cond (eqb o.account a) (suc n) n) (open_forget a os)

  pub held_forget : (fee : ℤ) (a : ℕ) (s : Side) (os : List Order) → held fee a s (map (forget N) os) ≡ held fee a s os
  held_forget fee a s [] = refl
  held_forget fee a s (o ∷ os) = ap (λ n. held_by fee a s o +ℤ n) (held_forget fee a s os)

  fits_forget : (fee : ℤ) (a : ℕ) (w : Option Funds) (os : List Order) → wallet_fits fee a w (map (forget N) os) ≡ wallet_fits fee a w os
  fits_forget fee a None os = refl
  fits_forget fee a (Some w) os = simp held_forget

  all_fit_forget : (fee : ℤ) (a : ℕ) (ws : List (Option Funds)) (os : List Order) → wallets_fit fee a ws (map (forget N) os) ≡ wallets_fit fee a ws os
  all_fit_forget fee a [] os = refl
  all_fit_forget fee a (w ∷ ws) os = ap₂ ◌&&◌ (fits_forget fee a w os) (all_fit_forget fee (suc a) ws os)

  pub holds_forget : (l : Ledger) → holds_fit (forgetting N l) ≡ holds_fit l
  unfolding holds_fit
  holds_forget l = all_fit_forget l.fee 0 l.wallets l.orders
