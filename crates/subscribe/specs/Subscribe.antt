-- A subscription in steps: what waits, the snapshot's first message, and the levels of each side.
use Rattle.std.specs.Prelude.{◌≡◌, ℕ, ◌+◌, List, [], ◌∷◌, ◌++◌, map, length}
use Rattle.orderbook.specs.declared.Side.{Side}
use Rattle.orderbook.specs.declared.Side.TheVariants.{Buy, Sell}
use Rattle.protocol.specs.declared.Outbound.TheVariants as Out
use Rattle.gateway.specs.Rest.{Mail, send, Rest, update_session, set_subscribed}
use Rattle.gateway.specs.Entry.{level_to, publish_mail, published, snapshot}
use Rattle.gateway.specs.Calls.{Gateway}
use Rattle.store.specs.Layout.{cell}
use Rattle.store.specs.View.{gateway}
use Rattle.mailbox.specs.Mailbox.{mailed}
use Rattle.depth.specs.Levels.{side_levels}

abbrev pub levels_to : ℕ → Side → Gateway → List Mail
levels_to s z g = map (level_to s g.rest.delivered z) (side_levels z g.rest)

-- f's messages go out from place i on; who is sent them is not stamped
pub record Posts (f : Gateway → List Mail) (i next : ℕ) (xs out end : List ℕ) : Type 0 where
  pub next_is : next ≡ i + length (f (gateway (cell xs)))
  pub posted : end ≡ mailed i (f (gateway (cell xs))) out

abbrev pub level_count : Rest → ℕ
level_count r = length (side_levels Buy r) + length (side_levels Sell r)

abbrev pub first_to : ℕ → Gateway → List Mail
first_to s g = send s (Out.BookSnapshot g.rest.delivered (level_count g.rest)) ∷ []

abbrev pub subscribe_mail : ℕ → Gateway → List Mail
subscribe_mail s g = publish_mail g.core g.rest ++ snapshot s g.rest

abbrev pub subscribed : ℕ → Rest → Rest
subscribed s r = update_session s set_subscribed (published r)
