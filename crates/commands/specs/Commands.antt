-- Numbering commands: what every numbering asks, and what it does to the gateway.
use Rattle.std.specs.Prelude.{ℕ, ◌<◌, ◌≡◌, Bool, ◌&&◌, List, [], ◌∷◌, ◌++◌, length, ltb, None}
use Rattle.orderbook.specs.declared.Command.{Command}
use Rattle.words.specs.Words.{modulus}
use Rattle.gateway.specs.Limits.{most_in_flight, most_in_batch}
use Rattle.gateway.specs.Core.{core_step}
use Rattle.gateway.specs.Ledger.{command, order_of, owner_of}
use Rattle.gateway.specs.Entry.{next, queued}
use Rattle.gateway.specs.Calls.{Gateway}
use Rattle.store.specs.Cells as C
use Rattle.store.specs.Layout.{cell}
use Rattle.store.specs.View.{word, flag, optional}
use Rattle.pending.specs.Pending.{Batched}

-- the three tests of `can_number`
abbrev pub can_number : Gateway → Bool
can_number g =
    ltb (length g.core.flights) most_in_flight && (ltb (length g.rest.batch) most_in_batch && ltb (next g.core) modulus)

-- what is asked of a command that takes off: not 256 in flight, a number left
pub record CanFly (g : Gateway) : Type 0 where
  pub flight : length g.core.flights < most_in_flight
  pub number : next g.core < modulus

-- the next number is in flight, of a sender (a session's number plus one, or 0 for SYSTEM) and for an owner
abbrev pub flying : (sender owner places : ℕ) → Gateway → Gateway
flying sender owner places g =
    let c = g.core in
    record {
      core =
          record {
            ledger = record { last = next c; wallets = c.ledger.wallets; orders = c.ledger.orders; mark = c.ledger.mark; fee = c.ledger.fee };
            flights = c.flights ++ (record { number = next c; session = optional sender; owner = owner; places = flag places } ∷ []);
            accounts = c.accounts;
          };
      rest = g.rest;
    }

-- a command of that owner that places nothing; a phase change is never in the batch
pub record Plain (owner : ℕ) (k : Command) : Type 0 where
  pub batched : Batched k
  pub owner_is : owner ≡ owner_of k
  pub places_nothing : order_of k ≡ None

-- it is numbered (`numbered` of the definitions)
abbrev pub numbered : ℕ → Command → Gateway → Gateway
numbered sender k g =
    record {
      core = core_step (record { client_ref = 0; session = optional sender }) (command (next g.core) k) g.core;
      rest = queued k g.rest;
    }

-- every order's number is below the last: that of the command that just took off
abbrev pub Unplaced : List ℕ → Type 0
Unplaced xs = (j : ℕ) → j < word (cell xs) C.order_rows → cell xs C.orders j C.order_number < word (cell xs) C.last
