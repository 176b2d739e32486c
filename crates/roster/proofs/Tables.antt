-- The roster of a list has the definitions' table of its accounts. Assumes nothing.
use Rattle.std.specs.Prelude.{Option, Some, None}
use Prim.Native.Nat.{ℕ, zero, suc, ◌+◌, ◌≤◌, ◌<◌}
use mathlib.Core.Path.{◌≡◌, refl, sym, ap, subst, ◌∙◌}
use mathlib.Core.Bool.{true, false, cond, ◌&&◌, and-true, and-false, and_assoc}
use mathlib.Core.Logic.{⊎_elim}
use mathlib.Core.List.{List, [], ◌∷◌, ◌++◌}
use native.Mathlib.Omega.{arith}
use native.Mathlib.Nat.{not-suc-le-zero}
use borrow.Author.Tests.{ltb-true, ltb-false}
use lib.Dec.{ltb}
use lib.ListN.{length, get_or, set, take, replicate, length-set, length-replicate}
use lib.Seq.{get_or-set_same, get_or-set_other}
use Rattle.std.proofs.lemmas.List.{take_more}
use Rattle.accounts.specs.declared.Account.{Account}
use Rattle.gateway.specs.Limits.{owner_slots}
use Rattle.gateway.specs.Start.{entered as entered_in, all_below}
use Rattle.gateway.proofs.Base.{split}
use Rattle.store.specs.View.{listed}
use Rattle.store.proofs.Listed.{listed_set, listed_ext}
use Rattle.table.proofs.Live.{same?}
use Rattle.roster.specs.declared.Roster.{Roster}
use Rattle.roster.specs.Rostered.{nobody, enter, entered, account_of, Numbered, Gathered}
use Rattle.roster.proofs.Laws.{enter_above, enter_past, enter_in}

-- a number past the table changes nothing
set_past : {A : Type 0} (l : List A) (i : ℕ) (x : A) → length l ≤ i → set l i x ≡ l
set_past [] i x h = refl
set_past (y ∷ l) zero x h = absurd (not-suc-le-zero h)
set_past (y ∷ l) (suc i) x h = ap (λ m. y ∷ m) (set_past l i x (omega arith))

-- what is kept account by account
record Keeps (limit : ℕ) (r : Roster) (t : List (Option Account)) : Type 0 where
  numbered : Numbered limit r
  table : limit ≤ owner_slots → listed (account_of r) limit ≡ t
  size : length t ≡ limit

module _ (limit : ℕ) (r : Roster) (t : List (Option Account)) (k : Keeps limit r t) (a : Account) where
  above : limit ≤ a.id → Keeps limit (enter limit r a) (set t a.id (Some a))
  above l =
      let e = enter_above limit r a l in
      let p = set_past t a.id (Some a) (rw k.size l) in
      subst (λ s. Keeps limit s (set t a.id (Some a))) e
      (record { numbered = record { size = k.numbered.size; at = k.numbered.at }; table = λ h. k.table h ∙ sym p; size = ap length p ∙ k.size })

  past : a.id < limit → owner_slots ≤ a.id → Keeps limit (enter limit r a) (set t a.id (Some a))
  past l h =
      subst (λ s. Keeps limit s (set t a.id (Some a))) (enter_past limit r a l h)
      (record { numbered = k.numbered; table = λ f. absurd (not-suc-le-zero (let z : 1 ≤ 0 = omega arith in z)); size = length-set t a.id (Some a) ∙ k.size })

  within : a.id < limit → a.id < owner_slots → Keeps limit (enter limit r a) (set t a.id (Some a))
  within l h =
      subst (λ s. Keeps limit s (set t a.id (Some a))) (enter_in limit r a l h)
      (record {
        numbered =
            record {
              size = length-set r.slots a.id (Some a) ∙ k.numbered.size;
              at = λ i b f.
                  ⊎_elim (λ (e : i ≡ a.id). let q : a ≡ b = here b (sym (ap (λ j. get_or (set r.slots a.id (Some a)) j None) e ∙ same) ∙ f) in (sym (ap (λ x. x.id) q) ∙ sym e, rw e l))
                  (λ n. k.numbered.at i b (sym (get_or-set_other r.slots a.id i (Some a) None n) ∙ f)) (same? i a.id);
            };
        table = λ f.
            listed_set (account_of r) (λ i. get_or (set r.slots a.id (Some a)) i None) limit a.id (Some a) l same
            (λ j m n. get_or-set_other r.slots a.id j (Some a) None n)
            ∙ ap (λ x. set x a.id (Some a)) (k.table f);
        size = length-set t a.id (Some a) ∙ k.size;
      })
    where
      same : get_or (set r.slots a.id (Some a)) a.id None ≡ Some a
      same = get_or-set_same r.slots a.id (Some a) None (rw k.numbered.size h)

      here : (b : Account) → Some a ≡ Some b → a ≡ b
      here b e = cc

  more : Keeps limit (enter limit r a) (set t a.id (Some a))
  more =
      split (λ b. (ltb a.id limit ≡ b) → Keeps limit (enter limit r a) (set t a.id (Some a))) (ltb a.id limit)
      (λ _ e.
      split (λ b. (ltb a.id owner_slots ≡ b) → Keeps limit (enter limit r a) (set t a.id (Some a))) (ltb a.id owner_slots)
      (λ _ f. within (ltb-true a.id limit e) (ltb-true a.id owner_slots f)) (λ _ f. past (ltb-true a.id limit e) (ltb-false a.id owner_slots f)) refl)
      (λ _ e. above (ltb-false a.id limit e)) refl

entered_keeps : (limit : ℕ) (r : Roster) (t : List (Option Account)) → Keeps limit r t → (l : List Account) → Keeps limit (entered limit r l) (entered_in t l)
unfolding entered
entered_keeps limit r t k [] = k
entered_keeps limit r t k (a ∷ l) = entered_keeps limit (enter limit r a) (set t a.id (Some a)) (more limit r t k a) l

-- one account more, behind the others
pub entered_more : (limit : ℕ) (r : Roster) (l : List Account) (a : Account) → enter limit (entered limit r l) a ≡ entered limit r (l ++ (a ∷ []))
unfolding entered
entered_more limit r [] a = refl
entered_more limit r (b ∷ l) a = entered_more limit (enter limit r b) l a

-- and the next of a list
pub entered_next : (limit : ℕ) (l : List Account) (i : ℕ) (d : Account) (r s : Roster) → i < length l → r ≡ entered limit nobody (take i l) → s ≡ enter limit r (get_or l i d)
    → s ≡ entered limit nobody (take (i + 1) l)
entered_next limit l i d r s h e f =
    f ∙ ap (λ x. enter limit x (get_or l i d)) e ∙ entered_more limit nobody (take i l) (get_or l i d) ∙ ap (entered limit nobody) (sym (take_more l i d h))

-- ---- nobody

get_d_replicate : {A : Type 0} (n i : ℕ) (x : A) → get_or (replicate n x) i x ≡ x
get_d_replicate zero zero x = refl
get_d_replicate zero (suc i) x = refl
get_d_replicate (suc n) zero x = refl
get_d_replicate (suc n) (suc i) x = get_d_replicate n i x

pub listed_same : {A : Type 0} (x : A) (n : ℕ) → listed (λ i. x) n ≡ replicate n x
unfolding listed
listed_same x zero = refl
listed_same x (suc n) = ap (λ l. l ++ (x ∷ [])) (listed_same x n) ∙ more n
  where
    more : (n : ℕ) → replicate n x ++ (x ∷ []) ≡ x ∷ replicate n x
    more zero = refl
    more (suc n) = ap (λ l. x ∷ l) (more n)

no_account : (a : Account) → None ≡ Some a → ⊥
no_account a e = cc

nobody_keeps : (limit : ℕ) → Keeps limit nobody (replicate limit None)
nobody_keeps limit =
    record {
      numbered = record { size = length-replicate {A = Option Account} owner_slots None; at = λ i a e. absurd (no_account a (sym (get_d_replicate {A = Option Account} owner_slots i None) ∙ e)) };
      table = λ f. listed_ext (λ i. None) (account_of nobody) limit (λ i l. get_d_replicate {A = Option Account} owner_slots i None) ∙ listed_same None limit;
      size = length-replicate {A = Option Account} limit None;
    }

-- ---- below the limit

enter_below : (limit : ℕ) (r : Roster) (a : Account) → (enter limit r a).below ≡ (r.below && ltb a.id limit)
unfolding enter
enter_below limit r a =
    split (λ b. (cond b (cond (ltb a.id owner_slots) (record { below = r.below; slots = set r.slots a.id (Some a) }) r) (record { below = false; slots = r.slots })).below ≡ (r.below && b)) (ltb a.id limit)
    (λ _. split (λ b. (cond b (record { below = r.below; slots = set r.slots a.id (Some a) }) r).below ≡ (r.below && true)) (ltb a.id owner_slots) (λ _. sym (and-true r.below)) (λ _. sym (and-true r.below)))
    (λ _. sym (and-false r.below))

entered_below : (limit : ℕ) (r : Roster) (l : List Account) → (entered limit r l).below ≡ (r.below && all_below limit l)
unfolding entered
entered_below limit r [] = sym (and-true r.below)
entered_below limit r (a ∷ l) =
    entered_below limit (enter limit r a) l ∙ ap (λ b. b && all_below limit l) (enter_below limit r a) ∙ and_assoc r.below (ltb a.id limit) (all_below limit l)

-- ---- the whole

pub gathered : (limit : ℕ) (l : List Account) (r : Roster) → r ≡ entered limit nobody l → Gathered limit l r
gathered limit l r e =
    subst (Gathered limit l) (sym e)
    (let k = entered_keeps limit nobody (replicate limit None) (nobody_keeps limit) l in record { numbered = k.numbered; below = entered_below limit nobody l; table = k.table })
