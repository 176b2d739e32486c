-- Rows of a listing tested one by one, and rows of accounts gathered. Assumes nothing.
use Prim.Native.Nat.{ℕ, ◌+◌, ◌%◌}
use mathlib.Core.Path.{◌≡◌, sym, ap, ◌∙◌}
use mathlib.Core.Bool.{Bool, false}
use mathlib.Core.List.{List}
use borrow.Author.Rules.{rules}
use lib.ListN.{length}
use Rattle.accounts.specs.declared.Account.{Account}
use Rattle.listing.specs.Rows.{rows}
use Rattle.script.specs.Strict.{all_fit}
use Rattle.script.proofs.Tests.{no_row, a_row}
use Rattle.store.specs.View.{listed}
use Rattle.store.proofs.Listed.{listed_more}
use Rattle.roster.specs.declared.Roster.{Roster}
use Rattle.roster.specs.Rostered.{nobody, enter, entered}
use Rattle.roster.proofs.Tables.{entered_more}
use Rattle.lists.specs.Lists.{entry_fits_at, is_listing}

pub listing_yes : (xs : List ℕ) (b : Bool) → length xs % 64 ≡ 0 → b ≡ all_fit (entry_fits_at xs) (rows xs) → b ≡ is_listing xs
unfolding is_listing
listing_yes xs b h f = f ∙ a_row (length xs % 64) 0 (all_fit (entry_fits_at xs) (rows xs)) h

pub listing_no : (xs : List ℕ) → (length xs % 64 ≡ 0 → ⊥) → false ≡ is_listing xs
unfolding is_listing
listing_no xs h = no_row (length xs % 64) 0 (all_fit (entry_fits_at xs) (rows xs)) h

-- ---- the roster of rows

module _ (limit : ℕ) (row : ℕ → Account) (r : Roster) where
  pub no_rows : r ≡ nobody → r ≡ entered limit nobody (listed row 0)
  unfolding entered listed
  no_rows e = e

  pub one_row_more : (j : ℕ) (s : Roster) (a : Account) → r ≡ entered limit nobody (listed row j) → a ≡ row j → s ≡ enter limit r a
      → s ≡ entered limit nobody (listed row (j + 1))
  one_row_more j s a e f g =
      g ∙ ap (enter limit r) f ∙ ap (λ (x : Roster). enter limit x (row j)) e
      ∙ entered_more limit nobody (listed row j) (row j) ∙ ap (entered limit nobody) (sym (listed_more row j))

pub ruleset laws = (rules, listing_yes, listing_no)
