-- What a command says, in words. Assumes nothing.
use Rattle.std.specs.Prelude.{Option, Some, None, is_some}
use mathlib.Core.Path.{◌≡◌, refl, sym, ap, ap₂, subst, ◌∙◌}
use mathlib.Core.Bool.{Bool, true, false}
use mathlib.Core.List.{[], ◌∷◌}
use Prim.Native.Nat.{ℕ, ◌<◌}
use native.Mathlib.Omega.{arith}
use lib.Dec.{eqb}
use lib.IntN.{ℤ}
use lib.Signed.{mag}
use mir.Syntax.{w64}
use mir.Val.{of_z, to_z}
use Rattle.orderbook.specs.declared.Side.{Side}
use Rattle.orderbook.specs.declared.Phase.{Phase}
use Rattle.orderbook.specs.declared.TimeInForce.{TimeInForce}
use Rattle.orderbook.specs.declared.Command.{Command}
use Rattle.orderbook.specs.declared.Command.TheVariants.{Limit, Market, Cancel, Modify, Stop, CancelAll, SetPhase}
use Rattle.protocol.specs.Codes.{side_code}
use Rattle.words.specs.Words.{half, modulus}
use Rattle.words.proofs.Int.{read}
use Rattle.gateway.specs.Ledger.{Order, order_of, owner_of, placed}
use Rattle.gateway.specs.Core.{own_number, owner_below}
use Rattle.gateway.specs.Bytes.{price_flag, price_word}
use Rattle.gateway.specs.Fits.{PriceFits}
use Rattle.pending.specs.Pending.{MaybeFits}
use Rattle.pretrade.proofs.Testing.{signed, stored}
use Rattle.replay.specs.declared.Terms.{Terms}
use Rattle.replay.specs.Replay.{Places, Plain, Reads}

price_fits : (p : Option ℤ) → MaybeFits p → PriceFits p
price_fits None f = tt
price_fits (Some p) f = signed p f

-- ---- an order

pub order_reads : (n i o : ℕ) (y : Side) (p : Option ℤ) (q z f w : ℕ) → z ≡ side_code y → f ≡ price_flag p → w ≡ price_word p → MaybeFits p → q < modulus → (k : Command) → Places i o y p q k →
    Reads n k (record { own = eqb i n; owned = true; places = 1; order = record { account = o; client_ref = 0; side = z; priced = f; price = w; leaves = q; hold = 0 } })
order_reads n i o y p q z f w z_is f_is w_is m l k s =
    record {
      own_is = s.own n;
      below_is = s.below;
      owner_is = s.acts_for;
      places_is = ap is_some s.order;
      order_is = ap₂ (placed 0 n) s.acts_for s.order ∙ ap (λ (x : Order). x ∷ []) (sym (stored o 0 q y p z f w z_is f_is w_is m n));
      fits = s.fits (price_fits p m) l;
    }

pub plain_reads : (n o : ℕ) (b : Bool) (k : Command) → Plain o b k →
    Reads n k (record { own = true; owned = b; places = 0; order = record { account = o; client_ref = 0; side = 0; priced = 0; price = 0; leaves = 0; hold = 0 } })
plain_reads n o b k s =
    record { own_is = s.own n; below_is = s.below; owner_is = s.acts_for; places_is = ap is_some s.no_order; order_is = ap (placed 0 n (owner_of k)) s.no_order; fits = s.fits }

-- ---- each kind

limit_places : (i o : ℕ) (z : Side) (p : ℤ) (q : ℕ) (t : TimeInForce) (d : Option ℕ) → Places i o z (Some p) q (Limit i o z p q t d)
unfolding own_number owner_below owner_of order_of
limit_places i o z p q t d = record { own = λ n. refl; below = λ m. refl; acts_for = refl; order = refl; fits = λ f g. (f, g) }

market_places : (i o : ℕ) (z : Side) (q : ℕ) → Places i o z None q (Market i o z q)
unfolding own_number owner_below owner_of order_of
market_places i o z q = record { own = λ n. refl; below = λ m. refl; acts_for = refl; order = refl; fits = λ f g. g }

stop_places : (i o : ℕ) (z : Side) (t : ℤ) (l : Option ℤ) (q : ℕ) → Places i o z l q (Stop i o z t l q)
unfolding own_number owner_below owner_of order_of
stop_places i o z t l q = record { own = λ n. refl; below = λ m. refl; acts_for = refl; order = refl; fits = λ f g. (f, g) }

cancel_plain : (i o : ℕ) → Plain o true (Cancel i o)
unfolding own_number owner_below owner_of order_of
cancel_plain i o = record { own = λ n. refl; below = λ m. refl; acts_for = refl; no_order = refl; fits = tt }

modify_plain : (i o : ℕ) (p : ℤ) (q : ℕ) → Plain o true (Modify i o p q)
unfolding own_number owner_below owner_of order_of
modify_plain i o p q = record { own = λ n. refl; below = λ m. refl; acts_for = refl; no_order = refl; fits = tt }

all_plain : (o : ℕ) → Plain o true (CancelAll o)
unfolding own_number owner_below owner_of order_of
all_plain o = record { own = λ n. refl; below = λ m. refl; acts_for = refl; no_order = refl; fits = tt }

phase_plain : (p : Phase) → Plain 0 false (SetPhase p)
unfolding own_number owner_below owner_of order_of
phase_plain p = record { own = λ n. refl; below = λ m. refl; acts_for = refl; no_order = refl; fits = tt }

-- ---- in the arms of the match

module _ (n : ℕ) (k : Command) (r : Terms) where
  as_said : (j : Command) → k ≡ j → Reads n j r → Reads n k r
  as_said j e h = subst (λ x. Reads n x r) (sym e) h

  -- with a price that is read back from its bits
  pub said_limit : (i o : ℕ) (z : Side) (p : ℤ) (q : ℕ) (t : TimeInForce) (d : Option ℕ) → k ≡ Limit i o z p q t d → mag p < half →
      ((j : Command) → Places i o z (Some (to_z w64 (of_z w64 p))) q j → Reads n j r) → Reads n k r
  said_limit i o z p q t d e l h =
      as_said (Limit i o z p q t d) e (h (Limit i o z p q t d) (subst (λ (x : ℤ). Places i o z (Some x) q (Limit i o z p q t d)) (sym (read {x = p} l)) (limit_places i o z p q t d)))

  pub said_market : (i o : ℕ) (z : Side) (q : ℕ) → k ≡ Market i o z q → ((j : Command) → Places i o z None q j → Reads n j r) → Reads n k r
  said_market i o z q e h = as_said (Market i o z q) e (h (Market i o z q) (market_places i o z q))

  pub said_stop : (i o : ℕ) (z : Side) (t : ℤ) (l : Option ℤ) (q : ℕ) → k ≡ Stop i o z t l q → ((j : Command) → Places i o z l q j → Reads n j r) → Reads n k r
  said_stop i o z t l q e h = as_said (Stop i o z t l q) e (h (Stop i o z t l q) (stop_places i o z t l q))

  pub said_cancel : (i o : ℕ) → k ≡ Cancel i o → ((j : Command) → Plain o true j → Reads n j r) → Reads n k r
  said_cancel i o e h = as_said (Cancel i o) e (h (Cancel i o) (cancel_plain i o))

  pub said_modify : (i o : ℕ) (p : ℤ) (q : ℕ) → k ≡ Modify i o p q → ((j : Command) → Plain o true j → Reads n j r) → Reads n k r
  said_modify i o p q e h = as_said (Modify i o p q) e (h (Modify i o p q) (modify_plain i o p q))

  pub said_all : (o : ℕ) → k ≡ CancelAll o → ((j : Command) → Plain o true j → Reads n j r) → Reads n k r
  said_all o e h = as_said (CancelAll o) e (h (CancelAll o) (all_plain o))

  pub said_phase : (p : Phase) → k ≡ SetPhase p → ((j : Command) → Plain 0 false j → Reads n j r) → Reads n k r
  said_phase p e h = as_said (SetPhase p) e (h (SetPhase p) (phase_plain p))

pub ruleset saying = (order_reads, plain_reads, said_limit, said_market, said_stop, said_cancel, said_modify, said_all, said_phase, arith)
