-- What a restored gateway sees of the core: references forgotten, commands up to N not in flight, senders unknown. Replay moves the view as the
-- core is moved. Assumes nothing.
use Rattle.std.specs.Prelude.{None}
use Prim.Native.Nat.{ℕ, suc, ◌<◌, ◌≤◌}
use mathlib.Core.Bool.{true, cond}
use mathlib.Core.Path.{◌≡◌, refl, ap, sym, ◌∙◌}
use mathlib.Core.List.{List, [], ◌∷◌, ◌++◌, map}
use native.Mathlib.Omega.{arith}
use borrow.Author.Tests.{ltb-true, ltb-false, lt-ltb, le-ltb}
use lib.ListN.{length, length-map}
use lib.Dec.{ltb}
use Rattle.gateway.specs.Limits.{most_in_flight}
use Rattle.gateway.specs.Ledger.{Item, account, command, event}
use Rattle.gateway.specs.Core.{Pass, Origin, system, Flight, Core, drop_below, is_first, first_places, tests, fits_after, flights_after, core_step}
use Rattle.gateway.specs.Restart.{forgetting}
use Rattle.gateway.proofs.Base.{split, if_map}
use Rattle.gateway.proofs.Forget.{above, step_forget, open_forget, holds_forget}

below_step : (n : ℕ) (f : Flight) (fs : List Flight) → f.number < n → drop_below n (f ∷ fs) ≡ drop_below n fs
below_step n f fs h = simp (lt-ltb f.number n h)

below_stay : (n : ℕ) (f : Flight) (fs : List Flight) → n ≤ f.number → drop_below n (f ∷ fs) ≡ f ∷ fs
below_stay n f fs h = simp (le-ltb f.number n h)

pub below_below : (m n : ℕ) → m ≤ n → (fs : List Flight) → drop_below n (drop_below m fs) ≡ drop_below n fs
below_below m n h [] = refl
below_below m n h (f ∷ fs) =
    split (λ b. drop_below n (cond b (drop_below m fs) (f ∷ fs)) ≡ drop_below n (f ∷ fs)) (ltb f.number m)
    (λ e. below_below m n h fs ∙ sym (below_step n f fs (omega (arith, ltb-true f.number m e)))) (λ e. refl)

below_low : (m n : ℕ) → m ≤ n → (fs : List Flight) → drop_below m (drop_below n fs) ≡ drop_below n fs
below_low m n h [] = refl
below_low m n h (f ∷ fs) =
    split (λ b. drop_below m (cond b (drop_below n fs) (f ∷ fs)) ≡ cond b (drop_below n fs) (f ∷ fs)) (ltb f.number n)
    (λ e. below_low m n h fs) (λ e. below_stay m f fs (omega (arith, ltb-false f.number n e)))

below_append : (m : ℕ) (fs : List Flight) (f : Flight) → m ≤ f.number → drop_below m (fs ++ (f ∷ [])) ≡ drop_below m fs ++ (f ∷ [])
below_append m [] f h = below_stay m f [] h
below_append m (x ∷ fs) f h =
    split (λ b. cond b (drop_below m (fs ++ (f ∷ []))) (x ∷ (fs ++ (f ∷ []))) ≡ cond b (drop_below m fs) (x ∷ fs) ++ (f ∷ [])) (ltb x.number m)
    (λ e. below_append m fs f h) (λ e. refl)

pub below_short : (m : ℕ) (fs : List Flight) → length (drop_below m fs) ≤ length fs
below_short m [] = omega arith
below_short m (f ∷ fs) =
    let h = below_short m fs in
    split (λ b. length (cond b (drop_below m fs) (f ∷ fs)) ≤ suc (length fs)) (ltb f.number m) (λ e. omega arith) (λ e. omega arith)

-- senders unknown
abbrev pub unsent : Flight → Flight
unsent f = record { number = f.number; session = None; owner = f.owner; places = f.places }

below_unsent : (n : ℕ) (fs : List Flight) → drop_below n (map unsent fs) ≡ map unsent (drop_below n fs)
below_unsent n [] = refl
below_unsent n (f ∷ fs) = sym (if_map (map unsent) (ltb f.number n) (sym (below_unsent n fs)) refl)

append_unsent : (fs gs : List Flight) → map unsent (fs ++ gs) ≡ map unsent fs ++ map unsent gs
append_unsent [] gs = refl
append_unsent (f ∷ fs) gs = ap (λ t. unsent f ∷ t) (append_unsent fs gs)

first_unsent : (n : ℕ) (fs : List Flight) → is_first n (map unsent fs) ≡ is_first n fs
first_unsent n [] = refl
first_unsent n (f ∷ fs) = refl

places_unsent : (fs : List Flight) → first_places (map unsent fs) ≡ first_places fs
places_unsent [] = refl
places_unsent (f ∷ fs) = refl

module _ (N : ℕ) where
  abbrev pub seen_flights : List Flight → List Flight
  seen_flights fs = map unsent (drop_below (suc N) fs)

  abbrev pub view : Core → Core
  view c = record { ledger = forgetting N c.ledger; flights = seen_flights c.flights; accounts = c.accounts }

  flights_view : (from : Origin) (i : Item) (fs : List Flight) → above N i → seen_flights (flights_after from i fs) ≡ flights_after system i (seen_flights fs)
  flights_view from (account a) fs h = refl
  flights_view from (command n k) fs h = ap (map unsent) (below_append (suc N) fs _ h) ∙ append_unsent (drop_below (suc N) fs) _
  flights_view from (event n e) fs h =
      ap (map unsent) (below_low (suc N) n h fs ∙ sym (below_below (suc N) n h fs)) ∙ sym (below_unsent n (drop_below (suc N) fs))

  -- the core's step, seen, is the replay of what was seen
  pub step_view : (from : Origin) (i : Item) (c : Core) → above N i → view (core_step from i c) ≡ core_step system i (view c)
  step_view from i c h = simp (step_forget N from.client_ref i c.ledger h, flights_view from i c.flights h)

  fits_view : (i : Item) (c : Core) → above N i → fits_after i (view c) ≡ fits_after i c
  fits_view i c h = rw (← step_forget N 0 i c.ledger h) (holds_forget N _)

  -- the run from n on is seen as it is
  run_view : (n : ℕ) (fs : List Flight) → N < n → drop_below n (seen_flights fs) ≡ map unsent (drop_below n fs)
  run_view n fs h = below_unsent n (drop_below (suc N) fs) ∙ ap (map unsent) (below_below (suc N) n h fs)

  few_view : (fs : List Flight) → ltb (length fs) most_in_flight ≡ true → ltb (length (seen_flights fs)) most_in_flight ≡ true
  few_view fs h =
      lt-ltb (length (seen_flights fs)) most_in_flight
      (rw length-map (omega (arith, ltb-true (length fs) most_in_flight h, below_short (suc N) fs)))

  -- replay's checks pass on what is seen where they pass on the core
  pub tests_view : (i : Item) (c : Core) → above N i → Pass (tests i c) → Pass (tests i (view c))
  unfolding tests
  tests_view (account a) c h p = (p.0, (p.1.0, (rw open_forget p.1.1.0, tt)))
  tests_view (command n k) c h p = (
    p.0,
    (
      p.1.0,
      (
        p.1.1.0,
        (
          few_view c.flights p.1.1.1.0,
          (rw length-map p.1.1.1.1.0, (fits_view (command n k) c h ∙ p.1.1.1.1.1.0, tt)),
        ),
      ),
    ),
  )
  tests_view (event n e) c h p = (
    rw (run_view n c.flights h) (first_unsent n (drop_below n c.flights) ∙ p.0),
    (
      p.1.0,
      (
        rw (run_view n c.flights h, places_unsent (drop_below n c.flights)) p.1.1.0,
        (fits_view (event n e) c h ∙ p.1.1.1.0, tt),
      ),
    ),
  )
