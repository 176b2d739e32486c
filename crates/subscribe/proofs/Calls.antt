-- The whole call. Assumes nothing.
use Rattle.outcome.specs.declared.Refusal.TheVariants.{TooShort}
use Rattle.std.specs.Prelude.{Some, Ok, Err}
use mathlib.Core.Path.{◌≡◌, refl, sym, ap, ◌∙◌}
use mathlib.Core.List.{List}
use Prim.Native.Nat.{ℕ, ◌+◌, ◌≤◌, ◌<◌}
use native.Mathlib.Omega.{arith}
use lib.ListN.{length, length-append}
use Rattle.orderbook.specs.declared.Side.TheVariants.{Buy, Sell}
use Rattle.protocol.specs.declared.Inbound.TheVariants as In
use Rattle.gateway.specs.Rest as Rest
use Rattle.gateway.specs.Rest.{Mail, Rest, update_session, stamped}
use Rattle.gateway.specs.Entry.{publish_mail, published, snapshot, hear}
use Rattle.gateway.specs.Calls.{Gateway, call, receive_from}
use Rattle.store.specs.Layout.{cell}
use Rattle.store.specs.View.{gateway}
use Rattle.sound.specs.Sound.{Becomes}
use Rattle.mailbox.specs.Mailbox.{places, mailed}
use Rattle.outcome.specs.Parts.{with_rest, rest_of, heard, Sends, Speaks}
use Rattle.outcome.specs.Answers.{Gives}
use Rattle.outcome.proofs.Laws.{then_becomes}
use Rattle.outcome.proofs.Calls.{sends_short, sends_done}
use Rattle.outcome.proofs.Changed.{stamped_updated}
use Rattle.outcome.proofs.Heard.{hear_plan}
use Rattle.outcome.proofs.Walk.{stamped_rest, sends_more}
use Rattle.balances.specs.Balances.{Exact}
use Rattle.balances.proofs.Laws.{exact_between, exact_becomes}
use Rattle.feed.proofs.Stamps.{sends_room}
use Rattle.subscribe.specs.Subscribe.{subscribe_mail, subscribed, levels_to, level_count}
use Rattle.subscribe.proofs.Snapshot.{levels_long}
use Rattle.subscribe.proofs.Kept.{mail_heard}

-- ---- counting

abbrev pub waiting : List ℕ → List Mail
waiting xs = publish_mail (gateway (cell xs)).core (rest_of xs)

pub mail_long : (xs : List ℕ) (s : ℕ) → length (subscribe_mail s (gateway (cell xs))) ≡ length (waiting xs) + 1 + level_count (rest_of xs)
mail_long xs s =
    let g = gateway (cell xs) in
    omega (arith, length-append (waiting xs) (snapshot s (rest_of xs)), length-append (levels_to s Buy g) (levels_to s Sell g), levels_long s Buy g, levels_long s Sell g)

pub count_is : (xs : List ℕ) (s n k : ℕ) → n ≡ length (waiting xs) → k ≡ level_count (rest_of xs) → n + 1 + k ≡ length (subscribe_mail s (gateway (cell xs)))
count_is xs s n k e f = omega (arith, mail_long xs s)

-- ---- everything goes out, then the snapshot

module _ (xs : List ℕ) (s : ℕ) (out : List ℕ) {ys mid : List ℕ} (n : ℕ) (e : n ≡ length (waiting xs)) (p : Sends 0 (waiting xs) published xs ys out mid) where
  same_snapshot : snapshot s (rest_of ys) ≡ snapshot s (rest_of xs)
  same_snapshot =
      ap (λ (g : Gateway). snapshot s g.rest) p.becomes.gateway_is ∙ ap (snapshot s) (stamped_rest (waiting xs) (published (rest_of xs)))

  pub snapshot_room : length (subscribe_mail s (gateway (cell xs))) ≤ places (length out) → n + length (snapshot s (rest_of ys)) ≤ places (length mid)
  snapshot_room l = rw (sends_room p) (omega (arith, length-append (waiting xs) (snapshot s (rest_of xs)), ap length same_snapshot))

  pub all_told : {zs end us : List ℕ} → Sends n (snapshot s (rest_of ys)) (λ x. x) ys zs mid end → Becomes us (with_rest (update_session s Rest.set_subscribed) (gateway (cell zs))) →
      Sends 0 (subscribe_mail s (gateway (cell xs))) (subscribed s) xs us out end
  all_told {zs} {end} q b =
      let v : Sends n (snapshot s (rest_of xs)) (λ x. x) ys zs mid end = rw same_snapshot at q in
      let w = sends_more xs out 0 n (waiting xs) (snapshot s (rest_of xs)) published p (omega (arith, e)) v in
      let d = then_becomes (with_rest (update_session s Rest.set_subscribed)) w.becomes b in
      record {
        becomes =
            record {
              state = d.state;
              gateway_is =
                  d.gateway_is
                  ∙ ap (λ (r : Rest). with_rest (λ _. r) (gateway (cell xs)))
                  (sym (stamped_updated Rest.set_subscribed (λ t x. refl) s (subscribe_mail s (gateway (cell xs))) (published (rest_of xs))));
            };
        posted = w.posted;
      }

-- ---- the call

module _ (xs out : List ℕ) (s a time n p : ℕ) (h : Speaks s (Some a) xs) (count : n ≡ length (subscribe_mail s (gateway (cell xs)))) (room : p ≡ places (length out)) where
  abbrev next : Gateway
  next = with_rest (heard s time) (gateway (cell xs))

  count_heard : n ≡ length (subscribe_mail s next)
  count_heard = count ∙ ap length (sym (mail_heard s time (gateway (cell xs))))

  pub subscribe_short : p < n → Gives (call (gateway (cell xs)) (receive_from s In.Subscribe time (places (length out)))) (Err TooShort) xs xs out out
  unfolding hear
  subscribe_short l =
      sends_short xs out (receive_from s In.Subscribe time (places (length out))) tt h.between (subscribe_mail s next) (subscribed s next.rest)
      (hear_plan xs s In.Subscribe time (places (length out)) a h) n p count_heard room l

  module _ {ys : List ℕ} (d : Becomes ys next) where
    pub exact_heard : Exact ys
    exact_heard = exact_becomes (heard s time) (exact_between h.between) d

    pub mail_room : n ≤ p → length (subscribe_mail s (gateway (cell ys))) ≤ places (length out)
    mail_room l = omega (arith, count_heard, ap (λ (g : Gateway). length (subscribe_mail s g)) d.gateway_is)

    pub subscribe_done : {zs end : List ℕ} → n ≤ p → Sends 0 (subscribe_mail s (gateway (cell ys))) (subscribed s) ys zs out end →
        Gives (call (gateway (cell xs)) (receive_from s In.Subscribe time (places (length out)))) (Ok n) xs zs out end
    unfolding hear
    subscribe_done l q =
        sends_done xs out (receive_from s In.Subscribe time (places (length out))) tt h.between (subscribe_mail s next) (subscribed s next.rest)
        (hear_plan xs s In.Subscribe time (places (length out)) a h) n p count_heard room l
        (then_becomes (λ g. with_rest (λ r. stamped (subscribe_mail s g) (subscribed s r)) g) d q.becomes)
        (q.posted ∙ ap (λ (g : Gateway). mailed 0 (subscribe_mail s g) out) d.gateway_is)
