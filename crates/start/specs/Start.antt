-- The start without orders: what is written, and the gateway that begins (gateway/specs/Start.antt).
use Rattle.std.specs.Prelude.{ℕ, List, [], ◌∷◌, ℤ}
use Rattle.accounts.specs.declared.Account.{Account}
use Rattle.accounts.specs.declared.Timing.{Timing}
use Rattle.gateway.specs.Ledger.{account}
use Rattle.gateway.specs.Core.{system, core_step}
use Rattle.gateway.specs.Listing.{listed_depth}
use Rattle.gateway.specs.Calls.{Gateway, joined}
use Rattle.gateway.specs.Start.{accounts_of, listed_ledger, begin}
use Rattle.store.specs.Cells as C
use Rattle.store.specs.View.{Store, fill, zeros}

-- the words of the header; every other cell is 0
abbrev pub begun_store : ℕ → ℕ → ℕ → Timing → Store
begun_store fee limit last t =
    fill C.header 0 C.fee (fee ∷ []) (fill C.header 0 C.owner_limit (limit ∷ t.heartbeat ∷ t.idle_timeout ∷ []) (fill C.header 0 C.last (last ∷ last ∷ last ∷ []) zeros))

-- the definitions' start, with accounts and no orders
abbrev pub begun : ℤ → ℕ → ℕ → Timing → List Account → Gateway
begun fee limit last t l = begin t (listed_ledger fee limit last l []) (accounts_of limit l) (listed_depth []) []

-- an account more
abbrev pub entering : Account → Gateway → Gateway
entering a g = record { core = core_step system (account a) g.core; rest = joined a g.rest }
