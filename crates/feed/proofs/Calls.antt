-- The whole call. Assumes nothing.
use Rattle.outcome.specs.declared.Refusal.TheVariants.{TooShort}
use Rattle.std.specs.Prelude.{Ok, Err}
use mathlib.Core.Path.{◌≡◌, refl, sym, ap, ◌∙◌}
use mathlib.Core.List.{List}
use Prim.Native.Nat.{ℕ, ◌+◌, ◌≤◌, ◌<◌}
use native.Mathlib.Omega.{arith}
use lib.ListN.{length, length-append}
use Rattle.gateway.specs.Limits.{session_slots, most_notices}
use Rattle.gateway.specs.Rest.{Mail, Rest}
use Rattle.gateway.specs.Entry.{publish_mail, published}
use Rattle.gateway.specs.Calls.{Gateway, call, plan, publish}
use Rattle.store.specs.Layout.{cell}
use Rattle.store.specs.View.{gateway, Is}
use Rattle.pending.specs.Pending as Pending
use Rattle.pending.proofs.Views.{published_view}
use Rattle.sound.specs.Sound.{State, Becomes}
use Rattle.sound.proofs.Kept.{becomes}
use Rattle.sound.proofs.Waiting.{published_sound}
use Rattle.mailbox.specs.Mailbox.{places}
use Rattle.outcome.proofs.Steps.{steps_kept}
use Rattle.outcome.specs.Between.{Between}
use Rattle.outcome.specs.Parts.{with_rest, rest_of, Sends, steps}
use Rattle.outcome.specs.Answers.{Gives}
use Rattle.outcome.proofs.Laws.{then_becomes}
use Rattle.outcome.proofs.Calls.{sends_short, sends_done}
use Rattle.outcome.proofs.Walk.{sends_more}
use Rattle.feed.specs.Feed.{Told, balances, market, changes_step, most_market, most_mail}
use Rattle.feed.proofs.Stamps.{changes_keeps, stamped_published, sends_room}
use Rattle.feed.proofs.Changes.{sessions_each}

abbrev pub mail : List ℕ → List Mail
mail xs = publish_mail (gateway (cell xs)).core (rest_of xs)

pub mail_long : (xs : List ℕ) → length (mail xs) ≡ length (balances (gateway (cell xs))) + length (market (gateway (cell xs)))
mail_long xs = length-append (balances (gateway (cell xs))) (market (gateway (cell xs)))

pub count_is : (xs : List ℕ) (n k : ℕ) → (n ≡ length (balances (gateway (cell xs)))) × (n ≤ most_notices) → (k ≡ length (market (gateway (cell xs)))) × (k ≤ most_market) → (n + k ≡ length (mail xs)) × (n + k ≤ most_mail)
count_is xs n k p q = (omega (arith, mail_long xs, p.0, q.0), omega (arith, p.1, q.1))

pub settled : {xs ys : List ℕ} → State xs → Is ys (Pending.published (cell xs)) → Becomes ys (with_rest published (gateway (cell xs)))
settled {xs} st h = becomes h (published_sound (cell xs) st.sound) (published_view (cell xs))

-- ---- everything goes out

module _ (xs : List ℕ) {ys : List ℕ} (out : List ℕ) {mid : List ℕ} (n : ℕ) (t : Told balances 0 n xs ys out mid) where
  -- the balances leave it to the others what they are told
  same_market : market (gateway (cell ys)) ≡ market (gateway (cell xs))
  same_market =
      sym (sessions_each ys session_slots refl) ∙ ap (λ (h : Gateway). steps changes_step h session_slots) t.sends.becomes.gateway_is
      ∙ steps_kept changes_step changes_keeps (gateway (cell xs)) (balances (gateway (cell xs))) session_slots
      ∙ sessions_each xs session_slots refl

  pub market_room : length (mail xs) ≤ places (length out) → n + length (market (gateway (cell ys))) ≤ places (length mid)
  market_room l = rw (sends_room t.sends) (omega (arith, t.next_is, mail_long xs, ap length same_market))

  module _ {zs end : List ℕ} (k : ℕ) (v : Told market n k ys zs mid end) where
    pub all_many : k ≡ length (mail xs)
    all_many = omega (arith, v.next_is, t.next_is, mail_long xs, ap length same_market)

    all_sent : Sends 0 (mail xs) (λ x. x) xs zs out end
    all_sent =
        let q : Sends n (market (gateway (cell xs))) (λ x. x) ys zs mid end = rw same_market at v.sends in
        sends_more xs out 0 n (balances (gateway (cell xs))) (market (gateway (cell xs))) (λ x. x) t.sends t.next_is q

    pub all_told : {us : List ℕ} → Becomes us (with_rest published (gateway (cell zs))) → Sends 0 (mail xs) published xs us out end
    all_told b =
        let d = then_becomes (with_rest published) all_sent.becomes b in
        record {
          becomes =
              record {
                state = d.state;
                gateway_is = d.gateway_is ∙ ap (λ (r : Rest). with_rest (λ _. r) (gateway (cell xs))) (sym (stamped_published (mail xs) (rest_of xs)));
              };
          posted = all_sent.posted;
        }

-- ---- the call

module _ (xs out : List ℕ) (n p : ℕ) (b : Between xs) (count : n ≡ length (mail xs)) (room : p ≡ places (length out)) where
  pub publish_short : p < n → Gives (call (gateway (cell xs)) (publish (places (length out)))) (Err TooShort) xs xs out out
  unfolding plan
  publish_short l = sends_short xs out (publish (places (length out))) tt b (mail xs) (published (rest_of xs)) refl n p count room l

  pub publish_done : {ys end : List ℕ} → n ≤ p → Sends 0 (mail xs) published xs ys out end → Gives (call (gateway (cell xs)) (publish (places (length out)))) (Ok n) xs ys out end
  unfolding plan
  publish_done l h = sends_done xs out (publish (places (length out))) tt b (mail xs) (published (rest_of xs)) refl n p count room l h.becomes h.posted

pub ruleset calls = (settled, publish_short, publish_done, arith)
