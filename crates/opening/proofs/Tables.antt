-- The accounts of a roster have the definitions' table, so the start with them is the start with any list that the roster is of. Assumes nothing.
use Rattle.std.specs.Prelude.{Option, Some, None}
use Prim.Native.Nat.{ℕ, zero, suc, ◌≤◌, ◌<◌}
use mathlib.Core.Path.{◌≡◌, refl, sym, ap, ◌∙◌}
use mathlib.Core.Bool.{cond}
use mathlib.Core.Logic.{⊎_elim}
use mathlib.Core.List.{List, [], ◌∷◌, ◌++◌, append-nil}
use native.Mathlib.Nat.{eq-or-lt_of_le}
use native.Mathlib.Omega.{arith}
use borrow.Author.Tests.{lt-ltb, le-ltb}
use lib.Dec.{ltb}
use lib.ListN.{set, replicate}
use Rattle.accounts.specs.declared.Account.{Account}
use Rattle.le.proofs.Laws.{lt_or_le}
use Rattle.table.proofs.Live.{same?}
use Rattle.gateway.specs.Basics.{option}
use Rattle.gateway.specs.Limits.{owner_slots}
use Rattle.gateway.specs.Start.{entered, accounts_of}
use Rattle.store.specs.View.{listed}
use Rattle.store.proofs.Listed.{listed_ext, listed_set}
use Rattle.roster.specs.declared.Roster.{Roster}
use Rattle.roster.specs.Rostered.{account_of, Numbered, Gathered}
use Rattle.roster.proofs.Tables.{listed_same}
use Rattle.opening.specs.Opening.{present}

entered_more : (t : List (Option Account)) (l : List Account) (a : Account) → entered t (l ++ (a ∷ [])) ≡ set (entered t l) a.id (Some a)
entered_more t [] a = refl
entered_more t (b ∷ l) a = entered_more (set t b.id (Some b)) l a

module _ (limit : ℕ) (r : Roster) (h : Numbered limit r) where
  -- the accounts numbered below n
  abbrev below : ℕ → ℕ → Option Account
  below n j = cond (ltb j n) (account_of r j) None

  but_last : (n j : ℕ) → (j ≡ n → ⊥) → below (suc n) j ≡ below n j
  but_last n j d =
      ⊎_elim
      (λ l. rw (lt-ltb j n l, lt-ltb j (suc n) (omega arith)) refl)
      (λ l. ⊎_elim (λ (e : n ≡ j). absurd (d (sym e))) (λ m. rw (le-ltb j n l, le-ltb j (suc n) m) refl) (eq-or-lt_of_le l)) (lt_or_le j n)

  first : (n : ℕ) → below (suc n) n ≡ account_of r n
  first n = rw (lt-ltb n (suc n) (omega arith)) refl

  module _ (n : ℕ) (t : accounts_of limit (present r n) ≡ listed (below n) limit) where
    -- a slot with nobody
    nobody_more : account_of r n ≡ None → listed (below n) limit ≡ listed (below (suc n)) limit
    nobody_more e =
        sym
        (listed_ext (below n) (below (suc n)) limit
        (λ j l. ⊎_elim (λ (q : j ≡ n). ap (below (suc n)) q ∙ first n ∙ e ∙ sym (rw (le-ltb n n (omega arith)) refl) ∙ sym (ap (below n) q)) (λ q. but_last n j q) (same? j n)))

    -- an account
    one_more : (a : Account) → account_of r n ≡ Some a → (a.id ≡ n) × (n < limit) → accounts_of limit (present r n ++ (a ∷ [])) ≡ listed (below (suc n)) limit
    one_more a e b =
        entered_more (replicate limit None) (present r n) a ∙ ap (λ l. set l a.id (Some a)) t ∙ ap (λ i. set (listed (below n) limit) i (Some a)) b.0
        ∙ sym (listed_set (below n) (below (suc n)) limit n (Some a) b.1 (first n ∙ e) (λ j l q. but_last n j q))

    slot_more : accounts_of limit (present r n ++ option [] (λ a. a ∷ []) (account_of r n)) ≡ listed (below (suc n)) limit
    slot_more = go (account_of r n) refl
      where
        go : (o : Option Account) → account_of r n ≡ o → accounts_of limit (present r n ++ option [] (λ a. a ∷ []) (account_of r n)) ≡ listed (below (suc n)) limit
        go (Some a) q = ap (λ o. accounts_of limit (present r n ++ option [] (λ a. a ∷ []) o)) q ∙ one_more a q (h.at n a q)
        go None q = ap (λ o. accounts_of limit (present r n ++ option [] (λ a. a ∷ []) o)) q ∙ ap (accounts_of limit) (append-nil (present r n)) ∙ t ∙ nobody_more q

  present_below : (n : ℕ) → accounts_of limit (present r n) ≡ listed (below n) limit
  unfolding present
  present_below zero = sym (listed_ext (λ j. None) (below zero) limit (λ j l. rw (le-ltb j 0 (omega arith)) refl) ∙ listed_same None limit)
  present_below (suc n) = slot_more n (present_below n)

  pub present_table : limit ≤ owner_slots → accounts_of limit (present r owner_slots) ≡ listed (account_of r) limit
  present_table few = present_below owner_slots ∙ listed_ext (account_of r) (below owner_slots) limit (λ j l. rw (lt-ltb j owner_slots (omega arith)) refl)

module _ (limit : ℕ) (l : List Account) (r : Roster) (h : Gathered limit l r) (few : limit ≤ owner_slots) where
  pub gathered_table : accounts_of limit (present r owner_slots) ≡ accounts_of limit l
  gathered_table = present_table limit r h.numbered few ∙ h.table few
