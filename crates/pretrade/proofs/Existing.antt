-- An account that exists: its row, and its token. Assumes nothing.
use Rattle.std.specs.Prelude.{Some, None, is_some}
use mathlib.Core.Path.{◌≡◌, refl, sym, ap, ap₂, ◌∙◌}
use mathlib.Core.Bool.{Bool, true, false, cond, false≢true}
use mathlib.Core.Logic.{⊎_elim}
use mathlib.Core.List.{List}
use Prim.Native.Nat.{ℕ, ◌<◌}
use native.Mathlib.Omega.{arith}
use Rattle.risk.specs.declared.Bucket.{Bucket}
use Rattle.risk.specs.declared.Taken.{Taken}
use Rattle.risk.specs.Throttle as Throttle
use Rattle.le.proofs.Laws.{lt_or_le}
use Rattle.gateway.specs.Limits.{owner_slots}
use Rattle.gateway.specs.Core.{account_at}
use Rattle.gateway.specs.Rest.{at_time}
use Rattle.gateway.specs.Entry.{rate_of, taken}
use Rattle.store.specs.Cells as C
use Rattle.store.specs.Layout.{cell, Holds}
use Rattle.store.specs.View.{Row, word, flag, bucket, gateway}
use Rattle.clients.specs.Clients as Clients
use Rattle.clients.proofs.Views.{account_at_row, account_past, bucket_at_row}
use Rattle.outcome.specs.Parts.{rest_of}
use Rattle.pretrade.specs.Pretrade.{Exists}

pub there : {A : Type 0} (b : Bool) (x : A) → is_some (cond b (Some x) None) ≡ true → cond b (Some x) None ≡ Some x
there true x e = refl
there false x e = absurd (false≢true e)

module _ {a : ℕ} {xs : List ℕ} (h : Exists a xs) where
  abbrev row : Row
  row = cell xs C.accounts a

  limited : a < word (cell xs) C.owner_limit
  limited =
      ⊎_elim (λ (l : a < word (cell xs) C.owner_limit). l)
      (λ l. absurd (false≢true (ap is_some (sym (account_past a (cell xs) l)) ∙ h.exists))) (lt_or_le a (word (cell xs) C.owner_limit))

  pub slot : a < owner_slots
  slot = let b = h.between.state.sound.tables.ordered.bounds.accounts_fit in omega (arith, limited)

  pub account_is : account_at a (gateway (cell xs)).core ≡ Some (record { id = a; token = row C.account_token; max_open_orders = row C.account_max_open; messages_per_second = row C.account_rate; funds = Clients.funds row })
  account_is =
      let e = account_at_row a (cell xs) limited in
      e ∙ there (flag (row C.account_exists)) _ (ap is_some (sym e) ∙ h.exists)

  pub rate_needs : Holds xs × (a < owner_slots) × Clients.LimitsFit row
  rate_needs = (h.between.state.holds, slot, h.between.state.sound.clients.limited.limits a slot)

  pub row_needs : Holds xs × (a < owner_slots)
  row_needs = (h.between.state.holds, slot)

  pub token_is : (t r : ℕ) (b : Bucket) (x : Taken) → r ≡ row C.account_rate → b ≡ bucket row → x ≡ Throttle.take_token r t b → x ≡ taken a (gateway (cell xs)).core (at_time t (rest_of xs))
  token_is t r b x e f g = g ∙ ap₂ (λ n d. Throttle.take_token n t d) (e ∙ sym (ap rate_of account_is)) (f ∙ sym (bucket_at_row a (cell xs) slot))

pub ruleset existing = (rate_needs, row_needs, token_is, arith)
