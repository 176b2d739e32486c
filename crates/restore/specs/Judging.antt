-- What is judged of a checkpoint's bytes and a roster, and the gateway that starts from them.
use Rattle.std.specs.Prelude.{ℕ, ◌≡◌, Bool, true, cond, List, [], ◌∷◌, ◌++◌, ℤ, pos, ltb, leb, is_some}
use Rattle.std.specs.Int.Signed.{le_z}
use Rattle.accounts.specs.declared.Account.{Account}
use Rattle.accounts.specs.declared.Timing.{Timing}
use Rattle.gateway.specs.Basics.{each}
use Rattle.gateway.specs.Bytes.{decode}
use Rattle.gateway.specs.Core.{Tests}
use Rattle.gateway.specs.Fits.{AccountsFit}
use Rattle.gateway.specs.Limits.{bad_fee, owner_slots, out_of_range, foreign, full, outside, malformed}
use Rattle.gateway.specs.Ledger.{Order}
use Rattle.gateway.specs.Calls.{Gateway}
use Rattle.gateway.specs.Saved.{Saved}
use Rattle.gateway.specs.Start.{accounts_of, all_below, wallets_below, order_tests, restored_ledger, hold_notice_of, empty_depth, begin}
use Rattle.sound.specs.Sound.{Becomes}
use Rattle.outcome.specs.Answers.{verdict}
use Rattle.roster.specs.declared.Roster.{Roster}
use Rattle.opening.specs.Opening.{present}
use Rattle.saved.specs.Contents.{saved_of}
use Rattle.totals.specs.Totals.{wallets_fit}

-- the verdict on one order
abbrev pub order_code : ℕ → ℕ → ℕ → ℕ → ℕ
order_code limit last number account = cond (leb number last) (cond (ltb account limit) 0 out_of_range) foreign

abbrev pub code_at : ℕ → ℕ → Order → ℕ
code_at limit last o = order_code limit last o.number o.account

-- the definitions' tests (`restore_tests`), with what a roster says of the accounts
abbrev pub entry_tests : ℕ → Bool → Saved → Tests ℕ
entry_tests limit below s =
    (full, leb limit owner_slots)
    ∷ (out_of_range, below)
    ∷ (out_of_range, wallets_below limit s.wallets)
    ∷ order_tests limit s.last s.orders

abbrev pub roster_tests : ℤ → ℕ → Roster → Saved → Tests ℕ
roster_tests fee limit r s = entry_tests limit r.below s ++ ((outside, wallets_fit fee r 0 s.orders) ∷ [])

-- 11 where the bytes are no checkpoint
unfoldable pub code_of : ℤ → ℕ → Roster → List ℕ → ℕ
code_of fee limit r xs = cond (is_some (decode xs)) (verdict (roster_tests fee limit r (saved_of xs))) malformed

-- 15 where the fee is below 0, before all others
unfoldable pub all_code : ℤ → ℕ → Roster → List ℕ → ℕ
all_code fee limit r xs = cond (le_z (pos 0) fee) (code_of fee limit r xs) bad_fee

-- the gateway of `restore_saved`
unfoldable pub restored : ℤ → ℕ → Timing → List Account → Saved → Gateway
restored fee limit timing l s =
    let led = restored_ledger fee (accounts_of limit l) s in
    begin timing led (accounts_of limit l) empty_depth (each (hold_notice_of fee led.wallets) led.orders)

-- ys holds it, of the roster's accounts
pub record Restored (fee : ℤ) (limit : ℕ) (timing : Timing) (r : Roster) (s : Saved) (ys : List ℕ) : Type 0 where
  pub becomes : Becomes ys (restored fee limit timing (present r owner_slots) s)
  pub fit : AccountsFit (present r owner_slots)
  pub below : all_below limit (present r owner_slots) ≡ true
