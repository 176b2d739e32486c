-- An accepted set-up or restore leaves a state that keeps the invariant and has the accounts and the fee. Assumes nothing.
use Rattle.std.specs.Prelude.{Option, Some, None}
use Prim.Native.Nat.{ℕ}
use mathlib.Core.Bool.{Bool, true, false, cond, not, and-eq-true_iff}
use mathlib.Core.Path.{◌≡◌, sym, ap, subst}
use mathlib.Core.List.{List, [], ◌∷◌}
use native.Mathlib.Omega.{arith}
use lib.IntN.{ℤ, pos}
use lib.Signed.{le_z}
use lib.Dec.{eqb}
use Rattle.accounts.specs.declared.Account.{Account}
use Rattle.accounts.specs.declared.Timing.{Timing}
use Rattle.orderbook.specs.declared.Listed.{Listed}
use Rattle.gateway.specs.Basics.{option}
use Rattle.gateway.specs.Limits.{malformed, bad_fee}
use Rattle.gateway.specs.Core.{Tests}
use Rattle.gateway.specs.Saved.{Saved}
use Rattle.gateway.specs.Bytes.{decode}
use Rattle.gateway.specs.Calls.{Gateway}
use Rattle.gateway.specs.Start.{Started, not_started, started, start_unless, charging, set_up_tests, restore_tests, set_up, restore, restore_saved}
use Rattle.gateway.proofs.Restore.{Accounts}
use Rattle.gateway.proofs.Begin.{Begins, Given, set_up_given, restore_given}
use Rattle.store.specs.Layout.{cell}
use Rattle.store.specs.View.{gateway}
use Rattle.outcome.specs.Between.{Between}
use Rattle.outcome.proofs.Calls.{codes}
use Rattle.opening.specs.Starts.{Starts}
use Rattle.opening.proofs.Codes.{set_up_codes, restore_codes, code_not_0}
use Rattle.edge.specs.Entering as Entering
use Rattle.restart.specs.Chain.{Tries, entered, begun, Opened, by_set_up, by_restore}

-- ---- no refusal has the code 0

-- the code of a start that is refused, else 1
abbrev fails : Started → ℕ
fails (not_started k) = k
fails (started g) = 1

refused_not_0 : (ts : Tests ℕ) (g : Gateway) → codes ts ≡ true → fails (start_unless ts g) ≡ 0 → ⊥
unfolding start_unless
refused_not_0 [] g c e = omega (arith, e)
refused_not_0 ((k, true) ∷ ts) g c e = refused_not_0 ts g ((and-eq-true_iff (not (eqb k 0)) (codes ts)).0 c).1 e
refused_not_0 ((k, false) ∷ ts) g c e = code_not_0 k ts c e

set_up_not_0 : (fee : ℤ) (limit last : ℕ) (l : List Account) (xs : List Listed) (timing : Timing) → fails (set_up fee limit last l xs timing) ≡ 0 → ⊥
unfolding set_up charging start_unless
set_up_not_0 fee limit last l xs timing = refused_not_0 ((bad_fee, le_z (pos 0) fee) ∷ set_up_tests fee limit last l xs) _ (set_up_codes fee limit last l xs)

restore_not_0 : (fee : ℤ) (limit : ℕ) (l : List Account) (timing : Timing) (s : Option Saved) → fails (charging fee (option (not_started malformed) (restore_saved fee limit l timing) s)) ≡ 0 → ⊥
unfolding restore_saved charging
restore_not_0 fee limit l timing s = go (le_z (pos 0) fee) s
  where
    go : (b : Bool) (s : Option Saved) → fails (cond b (option (not_started malformed) (restore_saved fee limit l timing) s) (not_started bad_fee)) ≡ 0 → ⊥
    go false s e = omega (arith, e)
    go true None e = omega (arith, e)
    go true (Some s) e = refused_not_0 (restore_tests fee limit l s) _ (restore_codes fee limit l s) e

-- ---- what the contract says of a start

-- an entry point that is handed a state's length, and rows that are ones, starts as `beginning` does
pub tried : (s : Started) (k : ℕ) (xs ys : List ℕ) → Tries s k xs ys → Starts s k xs ys
unfolding Entering.begins
tried s k xs ys (entered ok w h) = subst (λ b. Starts (cond b s (not_started malformed)) k xs ys) w h
tried s k xs ys (begun h) = h

-- that answers 0
record Begun (s : Started) (ys : List ℕ) : Type 0 where
  is : s ≡ started (gateway (cell ys))
  between : Between ys

begins : (s : Started) (xs ys : List ℕ) → (fails s ≡ 0 → ⊥) → Starts s 0 xs ys → Begun s ys
unfolding Starts
begins (not_started k) xs ys n h = absurd (n (sym h.code_is))
begins (started g) xs ys n h = record { is = ap started (sym h.is_done.becomes.gateway_is); between = h.between }

-- it keeps the invariant, and has the accounts and the fee
pub record Stands (fee : ℤ) (limit : ℕ) (l : List Account) (ys : List ℕ) : Type 0 where
  pub between : Between ys
  pub accounts : Accounts fee limit l (gateway (cell ys)).core

module _ (fee : ℤ) (limit : ℕ) (l : List Account) (ys : List ℕ) where
  stands : (s : Started) (xs : List ℕ) → (fails s ≡ 0 → ⊥) → Begins (Given fee limit l) s → Tries s 0 xs ys → Stands fee limit l ys
  stands s xs n a h =
      let b = begins s xs ys n (tried s 0 xs ys h) in
      record { between = b.between; accounts = subst (Begins (Given fee limit l)) b.is a }

  pub opened : Opened fee limit l ys → Stands fee limit l ys
  unfolding restore
  opened (by_set_up last listing timing xs h) = stands _ xs (set_up_not_0 fee limit last l listing timing) (set_up_given fee limit last l listing timing) h
  opened (by_restore timing bs xs h) = stands _ xs (restore_not_0 fee limit l timing (decode bs)) (restore_given fee limit l timing bs) h
