-- Rows in a list: tested from the last to the first; and the rows of a list of accounts. Assumes nothing.
use Prim.Native.Nat.{ℕ, ◌+◌, ◌-◌, ◌*◌, ◌%◌, ◌≤◌, ◌<◌}
use mathlib.Core.Path.{◌≡◌, refl, sym, ap, subst, ◌∙◌}
use mathlib.Core.Bool.{Bool, true, false, ◌&&◌, and-true, and-false}
use mathlib.Core.List.{List}
use native.Mathlib.Numerals.{add-one}
use native.Mathlib.Omega.{arith}
use lib.ListN.{length, take, drop, length-drop}
use lib.Seq.{length-take-le}
use borrow.Author.Rules.{rules}
use Rattle.accounts.specs.declared.Account.{Account}
use Rattle.script.specs.Records.{account_of, account_bytes, account_rows, account_row, account_at}
use Rattle.script.specs.Strict.{is_account, all_fit, is_account_at, are_accounts}
use Rattle.script.proofs.Tests.{no_row, a_row}

-- ---- tested one by one

module _ (fits : ℕ → Bool) (n : ℕ) (all b : Bool) (e : b ≡ fits n) (so : all ≡ all_fit fits (n + 1)) where
  last : all ≡ (all_fit fits n && b)
  unfolding all_fit
  last = so ∙ ap (all_fit fits) (add-one n) ∙ ap (λ (z : Bool). all_fit fits n && z) (sym e)

  pub fits_not : b ≡ false → false ≡ all
  fits_not f = sym (last ∙ ap (λ (z : Bool). all_fit fits n && z) f ∙ and-false (all_fit fits n))

  pub fits_too : b ≡ true → all ≡ all_fit fits n
  fits_too f = last ∙ ap (λ (z : Bool). all_fit fits n && z) f ∙ and-true (all_fit fits n)

pub none_left : (fits : ℕ → Bool) (all : Bool) → all ≡ all_fit fits 0 → true ≡ all
unfolding all_fit
none_left fits all e = sym e

-- ---- accounts

module _ (xs : List ℕ) where
  pub row_inside : (j : ℕ) → j < account_rows xs → account_bytes * j + account_bytes ≤ length xs
  row_inside j h = omega arith

  pub row_is : (j : ℕ) → take (56 * j + 56 - 56 * j) (drop (56 * j) xs) ≡ account_row xs j
  row_is j = let e : 56 * j + 56 - 56 * j ≡ 56 = omega arith in ap (λ (n : ℕ). take n (drop (56 * j) xs)) e

  module _ (j : ℕ) (row : List ℕ) (e : row ≡ account_row xs j) where
    pub row_sized : j < account_rows xs → length row ≡ 56
    row_sized h =
        let k = row_inside j h in
        ap length e
        ∙ length-take-le account_bytes (drop (account_bytes * j) xs) (subst (λ (n : ℕ). account_bytes ≤ n) (sym (length-drop (account_bytes * j) xs)) (omega arith))

    pub row_read : (a : Account) → a ≡ account_of row → a ≡ account_at xs j
    row_read a f = f ∙ ap account_of e

    pub row_tested : (b : Bool) → b ≡ is_account row → b ≡ is_account_at xs j
    row_tested b f = f ∙ ap is_account e

  pub no_accounts : (length xs % 56 ≡ 0 → ⊥) → false ≡ are_accounts xs
  unfolding are_accounts
  no_accounts h = no_row (length xs % account_bytes) 0 (all_fit (is_account_at xs) (account_rows xs)) h

  pub accounts_too : (b : Bool) → length xs % 56 ≡ 0 → b ≡ all_fit (is_account_at xs) (account_rows xs) → b ≡ are_accounts xs
  unfolding are_accounts
  accounts_too b h f = f ∙ a_row (length xs % account_bytes) 0 (all_fit (is_account_at xs) (account_rows xs)) h

pub ruleset rows_laws = (rules, row_inside, row_is, row_sized, row_read, row_tested, no_accounts, accounts_too)
