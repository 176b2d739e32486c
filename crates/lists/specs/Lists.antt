-- Which rows are a book listing, and what a start is handed. Assumes nothing.
use Rattle.std.specs.Prelude.{ℕ, ◌%◌, Bool, ◌&&◌, List, eqb, leb, length}
use Rattle.listing.specs.declared.Entry.{Entry}
use Rattle.listing.specs.Rows.{row_bytes, entry, rows}
use Rattle.script.specs.Strict.{most_32, all_fit, are_accounts}

-- the side, and whether there is a price
abbrev pub flags_fit : Entry → Bool
flags_fit e = leb e.side 1 && leb e.priced 1

abbrev pub owner_fits : Entry → Bool
owner_fits e = leb e.owner most_32 && flags_fit e

abbrev pub entry_fits : Entry → Bool
entry_fits e = leb e.kind 1 && owner_fits e

abbrev pub entry_fits_at : List ℕ → ℕ → Bool
entry_fits_at xs j = entry_fits (entry xs j)

-- whole rows, and each an entry
unfoldable pub is_listing : List ℕ → Bool
is_listing xs = eqb (length xs % row_bytes) 0 && all_fit (entry_fits_at xs) (rows xs)

-- the rows of accounts and of the listing
abbrev pub are_rows : (accounts list : List ℕ) → Bool
are_rows accounts list = are_accounts accounts && is_listing list
