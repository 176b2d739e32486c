-- All examples of document 01 marked P, with no fee, and one with a fee (02, order 7): beside what the definitions give, what the paper says.
use Rattle.std.specs.Prelude.{ℕ, Bool, true, false, cond, ◌≡◌, List, [], ◌∷◌, map, replicate, ℤ, pos, negsuc, ◌-ℤ◌, Option, Some, None}
use Rattle.orderbook.specs.declared.TimeInForce.TheVariants.{Gtc}
use Rattle.orderbook.specs.declared.Side.TheVariants.{Buy, Sell}
use Rattle.protocol.specs.Codes.{reject_code}
use Rattle.protocol.specs.declared.Balance.{Balance}
use Rattle.protocol.specs.declared.OrderKind.TheVariants.{Limit}
use Rattle.protocol.specs.declared.RejectCode.{RejectCode}
use Rattle.risk.specs.Collar.{near}
use Rattle.risk.specs.Throttle.{take_token}
use Rattle.words.specs.Words.{most}
use Rattle.wallet.specs.Wallet as W
use Rattle.gateway.specs.Bytes.{encode}
use Rattle.gateway.specs.Core.{Tests, Core}
use Rattle.gateway.specs.Ledger.{hold}
use Rattle.gateway.specs.Entry.{paper_tests}
use Rattle.gateway.specs.Rest.{Rest}
use Rattle.gateway.specs.Start.{begin, empty_depth}

abbrev flag : Bool → ℤ
flag true = pos 1
flag false = pos 0

-- whether a message passes, and the tokens after it; the bucket is 0 at time 0
abbrev throttle : ℕ → ℕ → List ℤ
throttle rate now = flag (take_token rate now (record { tokens = 0; refilled = 0 })).passed ∷ pos (take_token rate now (record { tokens = 0; refilled = 0 })).bucket.tokens ∷ []

-- what a buy at 250 holds with so many open
abbrev buy : ℤ → ℕ → ℤ
buy fee leaves = hold fee Buy (Some (pos 250)) leaves

-- by how much the cash fell, and the cash held
abbrev fell : ℤ → Option Balance → List ℤ
fell cash None = []
fell cash (Some b) = (cash -ℤ b.cash) ∷ b.cash_held ∷ []

-- an account with just the cash for its buy of 4 at 250, which fills 2 at 240 and has 2 left
abbrev placed : ℤ → Balance
placed fee = record { cash = buy fee 4; position = pos 0; cash_held = buy fee 4; position_held = pos 0 }

abbrev bought : ℤ → List ℤ
bought fee = fell (buy fee 4) (W.hold Buy (buy fee 4) (buy fee 2) (W.settled Buy (W.charged fee Buy (pos 240)) 2 (placed fee)))

-- a gateway with no orders, accounts, mark or collar
abbrev core : Core
core = record { ledger = record { last = 0; wallets = []; orders = []; mark = None; fee = pos 0 }; flights = []; accounts = [] }

abbrev rest : Rest
rest = (begin (record { heartbeat = 0; idle_timeout = 0 }) core.ledger [] empty_depth []).rest

-- the code of the first test that fails
abbrev first : Tests RejectCode → List ℤ
first [] = []
first (t ∷ ts) = cond t.1 (first ts) (pos (reject_code t.0) ∷ [])

abbrev table : List (List ℤ × List ℤ)
table =
    (throttle 2 499999999, pos 0 ∷ pos 999999998 ∷ [])
    ∷ (throttle 2 500000000, pos 1 ∷ pos 0 ∷ [])
    ∷ (throttle 2 5000000000, pos 1 ∷ pos 1000000000 ∷ [])
    ∷ (throttle 0 5000000000, pos 0 ∷ pos 0 ∷ [])
    ∷ (flag (near (pos 1100) (pos 1000) 10) ∷ [], pos 1 ∷ [])
    ∷ (flag (near (pos 1101) (pos 1000) 10) ∷ [], pos 0 ∷ [])
    ∷ (flag (near (negsuc 999) (negsuc 999) 10) ∷ [], pos 0 ∷ [])
    ∷ (buy (pos 0) 4 ∷ [], pos 1000 ∷ [])
    ∷ (hold (pos 0) Sell (Some (pos 250)) 4 ∷ [], pos 4 ∷ [])
    ∷ (hold (pos 0) Buy (Some most) 2 ∷ [], pos 0 ∷ [])
    ∷ (first (paper_tests 0 Buy 2 core rest (Limit most Gtc None) (record { cash = most; position = most })), pos 4 ∷ [])
    ∷ (bought (pos 0), pos 480 ∷ pos 500 ∷ [])
    ∷ (buy (pos 10) 4 ∷ bought (pos 10), pos 1040 ∷ pos 500 ∷ pos 520 ∷ [])
    ∷ ((W.settle Buy (negsuc 4611686018427387903) 4 (record { cash = pos 0; position = pos 0 })).cash ∷ [], negsuc 9223372036854775806 ∷ [])
    ∷ (map pos (encode (record { last = 0; mark = None; wallets = []; orders = [] })), replicate 25 (pos 0))
    ∷ []

-- what the definitions give is what the paper says, row by row
abbrev pub Examples : Type 0
Examples = map (λ row. row.0) table ≡ map (λ row. row.1) table
