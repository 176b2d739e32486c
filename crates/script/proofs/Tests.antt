-- Whether a row is one, test by test; and commands and accounts by their rows' words. Assumes nothing.
use Rattle.std.specs.Prelude.{Option, Some, None}
use mathlib.Core.Path.{◌≡◌, refl, sym, ap, ◌∙◌}
use mathlib.Core.Bool.{Bool, true, false, not, ◌&&◌}
use mathlib.Core.List.{List}
use Prim.Native.Nat.{ℕ}
use lib.Dec.{eqb, leb}
use lib.IntN.{ℤ}
use lib.ListN.{length}
use borrow.Author.Rules.{rules}
use borrow.Author.Tests.{eq-eqb, ne_eqb}
use Rattle.orderbook.specs.declared.Command.{Command}
use Rattle.orderbook.specs.declared.Command.TheVariants as Co
use Rattle.orderbook.specs.declared.Phase.{Phase}
use Rattle.accounts.specs.declared.Account.{Account}
use Rattle.accounts.specs.declared.Funds.{Funds}
use Rattle.words.specs.Words.{int}
use Rattle.script.specs.Script.{word_at, small_at, phase_at}
use Rattle.script.specs.Strict.{at_most, kind_fits, message_fits, is_message, event_fits, is_event, command_fits, owned_fits, is_command, account_fits, is_account}
use Rattle.script.specs.Records.{command_by, command_of, funds, account_of}

-- ---- one test after another

pub at_most_is : (xs : List ℕ) (i m w : ℕ) → w ≡ word_at xs i → leb w m ≡ at_most xs i m
at_most_is xs i m w e = ap (λ (x : ℕ). leb x m) e

pub both_no : (a p q : Bool) → a ≡ p → a ≡ false → false ≡ (p && q)
both_no a p q e f = rw (← e, f) refl

pub both : (a b p q : Bool) → a ≡ p → a ≡ true → b ≡ q → b ≡ (p && q)
both a b p q e f g = rw (← e, f) g

pub none_no : (a p q : Bool) → a ≡ p → a ≡ true → false ≡ (not p && q)
none_no a p q e f = rw (← e, f) refl

pub none : (a b p q : Bool) → a ≡ p → a ≡ false → b ≡ q → b ≡ (not p && q)
none a b p q e f g = rw (← e, f) g

-- ---- a test by the kind

module _ (xs : List ℕ) (k : ℕ) (n : ℕ) (b : Bool) where
  pub by_order_kind : k ≡ word_at xs 4 → k ≡ n → b ≡ kind_fits n xs → b ≡ kind_fits (word_at xs 4) xs
  by_order_kind e h f = f ∙ ap (λ (j : ℕ). kind_fits j xs) (sym h ∙ e)

  pub by_message : k ≡ word_at xs 0 → k ≡ n → b ≡ message_fits n xs → b ≡ message_fits (word_at xs 0) xs
  by_message e h f = f ∙ ap (λ (j : ℕ). message_fits j xs) (sym h ∙ e)

  pub by_event : k ≡ word_at xs 0 → k ≡ n → b ≡ event_fits n xs → b ≡ event_fits (word_at xs 0) xs
  by_event e h f = f ∙ ap (λ (j : ℕ). event_fits j xs) (sym h ∙ e)

  pub by_command : k ≡ word_at xs 0 → k ≡ n → b ≡ command_fits n xs → b ≡ command_fits (word_at xs 0) xs
  by_command e h f = f ∙ ap (λ (j : ℕ). command_fits j xs) (sym h ∙ e)

module _ (xs : List ℕ) (k : ℕ) where
  pub no_kind : k ≡ word_at xs 4 → (k ≡ 0 → ⊥) → (k ≡ 1 → ⊥) → (k ≡ 2 → ⊥) → false ≡ kind_fits (word_at xs 4) xs
  no_kind e h0 h1 h2 = rw (← e, ne_eqb k 0 h0, ne_eqb k 1 h1, ne_eqb k 2 h2) refl

  pub other_message : k ≡ word_at xs 0 → (k ≡ 0 → ⊥) → (k ≡ 3 → ⊥) → leb k 7 ≡ message_fits (word_at xs 0) xs
  other_message e h0 h3 = rw (← e, ne_eqb k 0 h0, ne_eqb k 3 h3) refl

  pub other_event : k ≡ word_at xs 0 → (k ≡ 1 → ⊥) → (k ≡ 2 → ⊥) → (k ≡ 3 → ⊥) → (k ≡ 4 → ⊥) → (k ≡ 5 → ⊥) → (k ≡ 7 → ⊥) → (k ≡ 9 → ⊥) → (k ≡ 10 → ⊥) → leb k 8 ≡ event_fits (word_at xs 0) xs
  other_event e h1 h2 h3 h4 h5 h7 h9 h10 = rw (← e, ne_eqb k 1 h1, ne_eqb k 2 h2, ne_eqb k 3 h3, ne_eqb k 4 h4, ne_eqb k 5 h5, ne_eqb k 7 h7, ne_eqb k 9 h9, ne_eqb k 10 h10) refl

  pub other_command : k ≡ word_at xs 0 → (k ≡ 0 → ⊥) → (k ≡ 1 → ⊥) → (k ≡ 4 → ⊥) → (k ≡ 6 → ⊥) → leb k 5 ≡ command_fits (word_at xs 0) xs
  other_command e h0 h1 h4 h6 = rw (← e, ne_eqb k 0 h0, ne_eqb k 1 h1, ne_eqb k 4 h4, ne_eqb k 6 h6) refl

-- ---- a row's length

pub no_row : (n k : ℕ) (q : Bool) → (n ≡ k → ⊥) → false ≡ (eqb n k && q)
no_row n k q h = rw (ne_eqb n k h) refl

pub a_row : (n k : ℕ) (q : Bool) → n ≡ k → q ≡ (eqb n k && q)
a_row n k q h = rw (eq-eqb n k h) refl

module _ (xs : List ℕ) where
  pub no_message : (length xs ≡ 128 → ⊥) → false ≡ is_message xs
  unfolding is_message
  no_message h = no_row (length xs) 128 (message_fits (word_at xs 0) xs) h

  pub a_message : (b : Bool) → length xs ≡ 128 → b ≡ message_fits (word_at xs 0) xs → b ≡ is_message xs
  unfolding is_message
  a_message b h f = f ∙ a_row (length xs) 128 (message_fits (word_at xs 0) xs) h

  pub no_event : (length xs ≡ 128 → ⊥) → false ≡ is_event xs
  unfolding is_event
  no_event h = no_row (length xs) 128 (event_fits (word_at xs 0) xs) h

  pub an_event : (b : Bool) → length xs ≡ 128 → b ≡ event_fits (word_at xs 0) xs → b ≡ is_event xs
  unfolding is_event
  an_event b h f = f ∙ a_row (length xs) 128 (event_fits (word_at xs 0) xs) h

  pub no_command : (length xs ≡ 96 → ⊥) → false ≡ is_command xs
  unfolding is_command
  no_command h = no_row (length xs) 96 (owned_fits xs) h

  pub a_command : (b : Bool) → length xs ≡ 96 → b ≡ owned_fits xs → b ≡ is_command xs
  unfolding is_command
  a_command b h f = f ∙ a_row (length xs) 96 (owned_fits xs) h

  pub no_account : (length xs ≡ 56 → ⊥) → false ≡ is_account xs
  unfolding is_account
  no_account h = no_row (length xs) 56 (account_fits xs) h

  pub an_account : (b : Bool) → length xs ≡ 56 → b ≡ account_fits xs → b ≡ is_account xs
  unfolding is_account
  an_account b h f = f ∙ a_row (length xs) 56 (account_fits xs) h

-- ---- a command by its kind

module _ (xs : List ℕ) (k : ℕ) (e : k ≡ word_at xs 0) where
  pub is_command_of : (n : ℕ) (v : Command) → k ≡ n → v ≡ command_by n xs → v ≡ command_of xs
  unfolding command_of
  is_command_of n v h f = f ∙ ap (λ (j : ℕ). command_by j xs) (sym h ∙ e)

  pub is_cancel_of : (i o : ℕ) → k ≡ 2 → i ≡ word_at xs 1 → o ≡ small_at xs 2 → Co.Cancel i o ≡ command_of xs
  is_cancel_of i o h f g = ap (λ (j : ℕ). Co.Cancel j o) f ∙ ap (Co.Cancel (word_at xs 1)) g ∙ is_command_of 2 (Co.Cancel (word_at xs 1) (small_at xs 2)) h refl

  pub is_cancel_all : (o : ℕ) → k ≡ 5 → o ≡ small_at xs 2 → Co.CancelAll o ≡ command_of xs
  is_cancel_all o h g = ap Co.CancelAll g ∙ is_command_of 5 (Co.CancelAll (small_at xs 2)) h refl

  pub is_set_phase : (p : Phase) → (k ≡ 0 → ⊥) → (k ≡ 1 → ⊥) → (k ≡ 2 → ⊥) → (k ≡ 3 → ⊥) → (k ≡ 4 → ⊥) → (k ≡ 5 → ⊥) → p ≡ phase_at xs 3 → Co.SetPhase p ≡ command_of xs
  unfolding command_of
  is_set_phase p h0 h1 h2 h3 h4 h5 f = rw (← e, ne_eqb k 0 h0, ne_eqb k 1 h1, ne_eqb k 2 h2, ne_eqb k 3 h3, ne_eqb k 4 h4, ne_eqb k 5 h5, f) refl

-- ---- an account

pub no_funds : (w v a b : ℕ) → w ≡ v → w ≡ 0 → None ≡ funds v a b
no_funds w v a b e z = rw (← e, z) refl

pub some_funds : (w v a b : ℕ) (p q : ℤ) → w ≡ v → (w ≡ 0 → ⊥) → p ≡ int a → q ≡ int b → Some (record { cash = p; position = q }) ≡ funds v a b
some_funds w v a b p q e z f g = rw (← e, ne_eqb w 0 z, f, g) refl

pub account_is : (xs : List ℕ) (i t o m : ℕ) (f : Option Funds) → i ≡ small_at xs 0 → t ≡ word_at xs 1 → o ≡ small_at xs 2 → m ≡ small_at xs 3 → f ≡ funds (word_at xs 4) (word_at xs 5) (word_at xs 6) →
    record { id = i; token = t; max_open_orders = o; messages_per_second = m; funds = f } ≡ account_of xs
unfolding account_of
account_is xs i t o m f a b d e g = λ j. record { id = a j; token = b j; max_open_orders = d j; messages_per_second = e j; funds = g j }

pub ruleset tests = (rules, at_most_is, both_no, both, none_no, none, by_order_kind, by_message, by_event, by_command, no_kind, other_message, other_event, other_command, no_message, a_message, no_event, an_event, no_command, a_command, no_account, an_account, is_command_of, is_cancel_of, is_cancel_all, is_set_phase, no_funds, some_funds, account_is)
