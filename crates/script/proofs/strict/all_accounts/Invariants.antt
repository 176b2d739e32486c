use mathlib.Core.Path.{◌≡◌}
use Prim.Native.Nat.{◌-◌, ◌≤◌}
use Rattle.script.specs.Records.{account_rows}
use Rattle.script.specs.Strict.{all_fit, is_account_at}
use Rattle.script.proofs.strict.all_accounts.Given as goal

abbrev pub invariant-loop-j : goal.invariant-loop-j
invariant-loop-j l = all_fit (is_account_at l.list) (account_rows l.list) ≡ all_fit (is_account_at l.list) l.j
