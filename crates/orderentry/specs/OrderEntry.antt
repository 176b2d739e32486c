-- An order-entry message: what its parts do.
use Rattle.std.specs.Prelude.{ℕ, ◌+◌, ◌<◌, ◌≡◌, Bool, true, List, [], ◌∷◌, length, set, Some, Result}
use Rattle.orderbook.specs.declared.Command.{Command}
use Rattle.protocol.specs.declared.NewOrder.{NewOrder}
use Rattle.protocol.specs.declared.RejectCode.TheVariants.{NotAllowed}
use Rattle.risk.specs.declared.Bucket.{Bucket}
use Rattle.gateway.specs.Limits.{owner_slots, most_orders}
use Rattle.gateway.specs.Ledger.{command}
use Rattle.gateway.specs.Core.{core_step}
use Rattle.gateway.specs.Rest.{Rest, with_buckets}
use Rattle.gateway.specs.Entry.{Plan, with_token, enter_other, next, queued, noticing, new_notice, wallet_at}
use Rattle.gateway.specs.Calls.{Gateway, carry_out, within}
use Rattle.store.specs.Layout.{cell}
use Rattle.store.specs.View.{gateway}
use Rattle.orders.specs.declared.Live.{Live}
use Rattle.pending.specs.Pending.{Batched}
use Rattle.live.specs.Live as Live
use Rattle.mailbox.specs.Mailbox.{places}
use Rattle.outcome.specs.declared.Refusal.{Refusal}
use Rattle.outcome.specs.Refusals.{code_of, rows_of}
use Rattle.outcome.specs.Parts.{with_rest, heard}
use Rattle.outcome.specs.Answers.{Ends, Unsent, Sent}
use Rattle.commands.specs.Commands as Commands
use Rattle.pretrade.specs.Pretrade.{the_command}

-- ---- parts

abbrev pub with_bucket : ℕ → Bucket → Rest → Rest
with_bucket a b r = with_buckets (set r.buckets a b) r

-- session s is heard at time t, and account a's bucket is b
abbrev pub after : ℕ → ℕ → Bucket → ℕ → Rest → Rest
after s a b t r = with_bucket a b (heard s t r)

-- a message of session s that asks for k, which places nothing
abbrev pub other_plan : ℕ → ℕ → Bool → Command → ℕ → Gateway → Plan
other_plan s a allowed k t g = with_token s a 0 g.core (heard s t g.rest) (enter_other s ((NotAllowed, allowed) ∷ []) k g.core)

-- what is asked before the order o is numbered: its number is the next, and k its command
pub record CanPlace (n : ℕ) (o : Live) (k : Command) (g : Gateway) : Type 0 where
  pub can : Commands.can_number g ≡ true
  pub room : length g.core.ledger.orders < most_orders
  pub next_is : n ≡ next g.core
  pub owner_is : o.account < owner_slots
  pub batched : Batched k

-- it is numbered, live and in the batch
abbrev pub in_book : ℕ → ℕ → Live → Command → Gateway → Gateway
in_book s n o k g = with_rest (queued k) (Live.with_ledger (Live.placing n o) (Commands.flying (s + 1) o.account 1 g))

-- the order of session s is numbered, placed, noticed and in the batch
abbrev pub placed : ℕ → ℕ → NewOrder → Gateway → Gateway
placed s a o g =
    let k = the_command a o g.core in
    record {
      core = core_step (record { client_ref = o.client_ref; session = Some s }) (command (next g.core) k) g.core;
      rest = queued k (noticing (new_notice g.core.ledger.fee a o (wallet_at a g.core)) g.rest);
    }

-- what a plan gives, within the places lent
abbrev pub Does : Plan → Result ℕ Refusal → (xs ys out end : List ℕ) → Type 0
Does p r xs ys out end =
    Ends (carry_out (gateway (cell xs)).core (within (places (length out)) p)) (Unsent (rows_of r) out end) (λ a ms. Sent a ms (rows_of r) out end) (code_of r) xs ys
