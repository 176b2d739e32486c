-- What is claimed of the entry points: each end theorem as a type. `claims` in src/lib.rt has a proof of all of them; docs/REVIEW.md lists them.
use Rattle.std.specs.Prelude.{ℕ, ◌*◌, ◌<◌, ◌≡◌, true, List, ◌++◌, map, ℤ, length, get_or, take, drop}
use Rattle.orderbook.specs.declared.Side.{Side}
use Rattle.orderbook.specs.declared.Command.{Command}
use Rattle.orderbook.specs.declared.Event.TheVariants.{Trade}
use Rattle.accounts.specs.declared.Account.{Account}
use Rattle.accounts.specs.declared.Timing.{Timing}
use Rattle.le.specs.Le.{Bytes}
use Rattle.gateway.specs.Limits.{full, not_quiet}
use Rattle.gateway.specs.Calls.{take_batch, deliver_event, replay_event, checkpoint}
use Rattle.gateway.specs.Start.{restore}
use Rattle.gateway.specs.Restart.{added, all_later}
use Rattle.gateway.specs.Claims.{Settles, Roomy}
use Rattle.store.specs.Cells as C
use Rattle.store.specs.Layout.{cell}
use Rattle.store.specs.View.{word, ledger, gateway}
use Rattle.outcome.specs.Between.{Between}
use Rattle.mailbox.specs.Mailbox.{places}
use Rattle.script.specs.Strict.{is_command}
use Rattle.script.specs.Records.{command_of}
use Rattle.numbers.specs.declared.Reply.{Reply}
use Rattle.edge.specs.Entering.{asked, Lists, Writes}
use Rattle.restart.specs.Chain.{Opened, Tries, Asking, Made, Chain, ends_at, recorded, replays, Restarted}

-- ---- demand 3 of document 01

-- Take bytes that an accepted set-up or restore left, by an entry point or by `beginning`, and any calls of the entry points, refused and malformed ones too, each
-- made on the bytes that the last one left. Take an accepted checkpoint among them, the bytes that it wrote, and the calls that followed it, up to any later
-- moment, none of which accepted an event of a command numbered at or before the checkpoint. Then restore those bytes, anywhere, with the owner limit and the
-- accounts of the checkpoint's moment, and replay the record of what was accepted since, call by call. Every one of these calls answers 0, and afterwards both
-- states have the same last number, reference price, fee, live orders and holds, wallets, cash held, seats held and open counts in their cells, so that `wallet`
-- and `last_seq` answer alike; in both, what is held is exactly 01's sums; and the second is what the independent ledger makes of the bytes and the record.
-- Client references of orders placed since the checkpoint read 0. Nothing is asked of the numbers in the calls, only that nobody else writes the bytes.
-- Nothing is said of sessions, the depth, batches or what waits to be published, which a restart loses. 01 also excludes checkpoints followed by an accepted
-- `finish`; they are included here, since `finish` moves nothing that the ledger holds.
pub record Demand3 : Type 0 where
  pub restarts : (fee : ℤ) (limit : ℕ) (l : List Account) (xs : List ℕ) → Opened fee limit l xs → (cs ds : List Asking) (first : Chain xs cs) →
      (let mid = ends_at xs cs first in
      (since : Chain mid ds) (out end : List ℕ) (r : Reply) → Writes (asked true mid (checkpoint (length out))) r mid mid out end → r.code ≡ 0 →
      all_later (word (cell mid) C.last) (recorded mid ds) →
      (timing : Timing) (k : ℕ) (ys zs : List ℕ) → Tries (restore fee limit (l ++ added (recorded xs cs)) timing (take r.count end)) k ys zs →
      (again : Chain zs (map replays (recorded mid ds))) →
      Restarted fee (word (cell mid) C.last) (take r.count end) (recorded mid ds) (ends_at mid ds since) k zs again)

-- ---- what no silly gateway does (01, What a reviewer will try, 3, 4 and 6)

-- A trade that is accepted, delivered or replayed, leaves wallets in which exactly its settlement was made, and holds that moved by exactly the two orders' new
-- holds less the old.
pub record Settled : Type 0 where
  pub delivered : (xs : List ℕ) → Between xs → (n t taker maker : ℕ) (s : Side) (p : ℤ) (q tl ml room : ℕ) →
      (m : Made (record { formed = true; for = deliver_event n (Trade t taker maker s p q tl ml) room }) xs) → m.code ≡ 0 →
      Settles (ledger (cell xs)) (ledger (cell m.left)) taker maker p q tl ml
  pub replayed : (xs : List ℕ) → Between xs → (n t taker maker : ℕ) (s : Side) (p : ℤ) (q tl ml : ℕ) →
      (m : Made (record { formed = true; for = replay_event n (Trade t taker maker s p q tl ml) }) xs) → m.code ≡ 0 →
      Settles (ledger (cell xs)) (ledger (cell m.left)) taker maker p q tl ml

-- Bytes whose tables are empty, with a number left, get neither 5 nor 10 from any call.
abbrev pub RoomServes : Type 0
RoomServes = (xs : List ℕ) (x : Asking) (m : Made x xs) → Roomy (gateway (cell xs)).core (gateway (cell xs)).rest → (m.code ≡ full → ⊥) × (m.code ≡ not_quiet → ⊥)

-- ---- the record's commands

-- Each row that an accepted `take_batch` wrote is one that `replay_command` takes, and reads as the command of the batch; the state's bytes are bytes.
abbrev pub ReadsBack : Type 0
ReadsBack = (xs ys out end : List ℕ) (r : Reply) → Between xs → Bytes xs → Lists 96 (asked true xs (take_batch (places (length out)))) r xs ys out end → r.code ≡ 0 →
    (j : ℕ) (d : Command) → j < r.count →
    (is_command (take 96 (drop (96 * j) end)) ≡ true) × (command_of (take 96 (drop (96 * j) end)) ≡ get_or (gateway (cell xs)).rest.batch j d)

-- ---- all of them

pub record Claims : Type 0 where
  pub demand_3 : Demand3
  pub settled : Settled
  pub room_serves : RoomServes
  pub reads_back : ReadsBack
