-- The start with the accounts of a roster. Assumes nothing.
use Rattle.std.specs.Prelude.{Option, Some, None}
use Prim.Native.Nat.{ℕ, zero, suc, ◌+◌, ◌≤◌, ◌<◌}
use mathlib.Core.Path.{◌≡◌, refl, sym, ap, subst, ◌∙◌}
use mathlib.Core.Bool.{true}
use mathlib.Core.List.{List, [], ◌∷◌, ◌++◌, append-nil, append_assoc}
use native.Mathlib.Numerals.{add-one}
use native.Mathlib.Omega.{arith}
use borrow.Author.Tests.{lt-ltb}
use lib.ListN.{length, length-set}
use Rattle.accounts.specs.declared.Account.{Account}
use Rattle.accounts.specs.declared.Timing.{Timing}
use Rattle.words.specs.Words.{int}
use Rattle.gateway.specs.Basics.{option}
use Rattle.gateway.specs.Fits.{AccountFits, AccountsFit}
use Rattle.gateway.specs.Limits.{owner_slots}
use Rattle.gateway.specs.Calls.{Gateway}
use Rattle.gateway.specs.Start.{all_below}
use Rattle.gateway.proofs.Begin.{accounts_length}
use Rattle.store.specs.Cells as C
use Rattle.store.specs.Layout.{cell}
use Rattle.store.specs.View.{word, account, gateway}
use Rattle.store.proofs.Listed.{listed_length}
use Rattle.sound.specs.Sound.{State, Becomes}
use Rattle.start.specs.Start.{begun, entering}
use Rattle.start.proofs.Begun.{begun_more}
use Rattle.roster.specs.declared.Roster.{Roster}
use Rattle.roster.specs.Rostered.{account_of, Numbered}
use Rattle.opening.specs.Opening.{present, CanEnter, Enters, admitted, Admits, Stands}

-- ---- one account more

admitted_more : (l : List Account) (a : Account) (g : Gateway) → admitted (l ++ (a ∷ [])) g ≡ entering a (admitted l g)
admitted_more [] a g = refl
admitted_more (b ∷ l) a g = admitted_more l a (entering b g)

fit_more : (l : List Account) (a : Account) → AccountsFit l → AccountFits a → AccountsFit (l ++ (a ∷ []))
fit_more [] a f h = (h, tt)
fit_more (b ∷ l) a f h = (f.0, fit_more l a f.1 h)

-- the owner limit is the number of slots for accounts
limit_is : {xs : List ℕ} {g : Gateway} → Becomes xs g → length g.core.accounts ≡ word (cell xs) C.owner_limit
limit_is {xs} b = ap (λ (h : Gateway). length h.core.accounts) (sym b.gateway_is) ∙ listed_length (λ i. account i (cell xs C.accounts i)) (word (cell xs) C.owner_limit)

admitted_limit : (l : List Account) (g : Gateway) → length (admitted l g).core.accounts ≡ length g.core.accounts
admitted_limit [] g = refl
admitted_limit (a ∷ l) g = admitted_limit l (entering a g) ∙ length-set g.core.accounts a.id (Some a)

-- ---- the slots below i

module _ (xs : List ℕ) (r : Roster) where
  abbrev g : Gateway
  g = gateway (cell xs)

  pub none_admitted : State xs → Admits (present r 0) xs xs
  unfolding present
  none_admitted h = record { becomes = record { state = h; gateway_is = refl }; fit = tt; rows_are = refl }

  module _ (i : ℕ) (ys : List ℕ) (a : Admits (present r i) xs ys) where
    same_limit : word (cell ys) C.owner_limit ≡ word (cell xs) C.owner_limit
    same_limit = sym (limit_is a.becomes) ∙ admitted_limit (present r i) g ∙ listed_length (λ j. account j (cell xs C.accounts j)) (word (cell xs) C.owner_limit)

    pub slot_enters : (s : Option Account) → s ≡ account_of r i → Numbered (word (cell xs) C.owner_limit) r → CanEnter s ys
    slot_enters s e n =
        record {
          below = λ x t.
              let b = n.at i x (sym e ∙ t) in
              rw (same_limit, b.0) b.1;
        }

    pub more_admitted : (s : Option Account) (zs : List ℕ) → s ≡ account_of r i → Enters s ys zs → Admits (present r (i + 1)) xs zs
    unfolding present
    more_admitted s zs e h =
        subst (λ k. Admits (present r k) xs zs) (sym (add-one i)) (subst (λ o. Admits (present r i ++ option [] (λ x. x ∷ []) o) xs zs) e (go s refl))
      where
        go : (o : Option Account) → s ≡ o → Admits (present r i ++ option [] (λ x. x ∷ []) o) xs zs
        go (Some x) t =
            record {
              becomes =
                  record {
                    state = h.becomes.state;
                    gateway_is =
                        h.becomes.gateway_is ∙ ap (option (gateway (cell ys)) (λ b. entering b (gateway (cell ys)))) t ∙ ap (entering x) a.becomes.gateway_is
                        ∙ sym (admitted_more (present r i) x g);
                  };
              fit = fit_more (present r i) x a.fit (h.fits x t);
              rows_are = h.rows_are ∙ a.rows_are;
            }
        go None t =
            rw (append-nil (present r i))
            (record {
              becomes =
                  record {
                    state = h.becomes.state;
                    gateway_is = h.becomes.gateway_is ∙ ap (option (gateway (cell ys)) (λ b. entering b (gateway (cell ys)))) t ∙ a.becomes.gateway_is;
                  };
              fit = a.fit;
              rows_are = h.rows_are ∙ a.rows_are;
            })

-- ---- the start

-- of numbers below the limit
Below : ℕ → List Account → Type 0
Below limit [] = Unit {0}
Below limit (a ∷ l) = (a.id < limit) × Below limit l

admitted_begun : (fee limit last : ℕ) (t : Timing) → limit ≤ owner_slots → (l m : List Account) → Below limit m → admitted m (begun (int fee) limit last t l) ≡ begun (int fee) limit last t (l ++ m)
unfolding Below
admitted_begun fee limit last t few l [] h = ap (begun (int fee) limit last t) (sym (append-nil l))
admitted_begun fee limit last t few l (a ∷ m) h =
    ap (admitted m) (begun_more fee limit last t few l a h.0) ∙ admitted_begun fee limit last t few (l ++ (a ∷ [])) m h.1 ∙ ap (begun (int fee) limit last t) (append_assoc l (a ∷ []) m)

below_append : (limit : ℕ) (l m : List Account) → Below limit l → Below limit m → Below limit (l ++ m)
unfolding Below
below_append limit [] m p q = q
below_append limit (a ∷ l) m p q = (p.0, below_append limit l m p.1 q)

all_of : (limit : ℕ) (l : List Account) → Below limit l → all_below limit l ≡ true
unfolding Below
all_of limit [] h = refl
all_of limit (a ∷ l) h = rw (lt-ltb a.id limit h.0) (all_of limit l h.1)

present_below : (limit : ℕ) (r : Roster) → Numbered limit r → (n : ℕ) → Below limit (present r n)
unfolding present Below
present_below limit r h zero = tt
present_below limit r h (suc n) = below_append limit (present r n) (option [] (λ a. a ∷ []) (account_of r n)) (present_below limit r h n) (last (account_of r n) (h.at n))
  where
    last : (o : Option Account) → ((a : Account) → o ≡ Some a → (a.id ≡ n) × (n < limit)) → Below limit (option [] (λ a. a ∷ []) o)
    last (Some a) f = let e = f a refl in (rw e.0 e.1, tt)
    last None f = tt

pub all_stand : (fee limit last : ℕ) (t : Timing) (r : Roster) {xs ys : List ℕ} → limit ≤ owner_slots → Numbered limit r → Becomes xs (begun (int fee) limit last t []) × (word (cell xs) C.order_rows ≡ 0) → Admits (present r owner_slots) xs ys →
    Stands (int fee) limit last t (present r owner_slots) ys
all_stand fee limit last t r few n b a =
    let p = present_below limit r n owner_slots in
    record {
      becomes = record { state = a.becomes.state; gateway_is = a.becomes.gateway_is ∙ ap (admitted (present r owner_slots)) b.0.gateway_is ∙ admitted_begun fee limit last t few [] (present r owner_slots) p };
      fit = a.fit;
      below = all_of limit (present r owner_slots) p;
      no_rows = a.rows_are ∙ b.1;
    }

pub start_limit : (fee limit last : ℕ) (t : Timing) (r : Roster) {xs : List ℕ} → Becomes xs (begun (int fee) limit last t []) → Numbered limit r → Numbered (word (cell xs) C.owner_limit) r
start_limit fee limit last t r b n = subst (λ k. Numbered k r) (sym (accounts_length limit []) ∙ limit_is b) n

pub ruleset laws = (none_admitted, slot_enters, more_admitted, all_stand, start_limit, arith)
