-- Whom an event is reported to, and the report. Assumes nothing.
use Rattle.std.proofs.lemmas.Option.{none-some}
use Rattle.std.specs.Prelude.{Option, Some, None, is_some}
use mathlib.Core.Path.{◌≡◌, refl, sym, ap, subst, ◌∙◌}
use mathlib.Core.Bool.{Bool, true, false, cond, not, ◌&&◌, false≢true}
use mathlib.Core.Logic.{⊎_elim}
use mathlib.Core.List.{List, [], ◌∷◌}
use Prim.Native.Nat.{ℕ, ◌-◌, ◌<◌}
use native.Mathlib.Omega.{arith}
use borrow.Author.Tests.{eq-eqb, ne_eqb}
use lib.ListN.{length, get_or-eq_default}
use lib.Dec.{eqb, leb}
use Rattle.le.proofs.Laws.{lt_or_le}
use Rattle.table.proofs.Live.{same?}
use Rattle.std.specs.Option.{option_eq}
use Rattle.protocol.specs.declared.Report.{Report}
use Rattle.protocol.specs.declared.ReportKind.{ReportKind}
use Rattle.protocol.specs.declared.Outbound.TheVariants as Out
use Rattle.gateway.specs.Basics.{option}
use Rattle.gateway.specs.Core.{drop_below, in_flight}
use Rattle.gateway.specs.Core as C2
use Rattle.gateway.specs.Limits.{owner_slots, session_slots}
use Rattle.gateway.specs.Ledger.{Order, number_of, find}
use Rattle.gateway.specs.Rest.{Session, Rest, send, session_at, session_of, account_of, is_open, logged_in, report, report_to}
use Rattle.gateway.specs.Deliver.{about, tell_owner, tell_sender, refused_ref}
use Rattle.gateway.specs.Calls.{Gateway}
use Rattle.store.specs.Cells as C
use Rattle.store.specs.Layout.{cell}
use Rattle.store.specs.View.{Row, flag, session, optional, order, ledger, gateway, order_room, in_slot}
use Rattle.store.proofs.Listed.{listed_at}
use Rattle.clients.proofs.Laws.{from_plus_one}
use Rattle.clients.proofs.Links.{session_of_cell}
use Rattle.orders.specs.declared.Live.{Live}
use Rattle.orders.specs.Orders.{Sees, live_row}
use Rattle.pending.specs.declared.Flight as Flight
use Rattle.pending.specs.Pending as Pending
use Rattle.pending.proofs.Flights.{first_in_run}
use Rattle.sound.specs.Sound.{State}
use Rattle.outcome.specs.Parts.{rest_of, Sends}
use Rattle.outcome.proofs.Walk.{slots, sends_none}
use Rattle.reporting.specs.declared.Told.{Told}
use Rattle.reporting.specs.Reporting.{where_open, Hears, speaks_for, Sender, InSlots, told_mail, told_rows, Tells, TellsSender}

some_is : (s : ℕ) → (s ≡ 0 → ⊥) → optional s ≡ Some (s - 1)
some_is s h = rw (ne_eqb s 0 h) refl

none_is : (s : ℕ) → s ≡ 0 → optional s ≡ None
none_is s h = rw (eq-eqb s 0 h) refl

-- ---- the listener

-- a session that is logged in is open unless it is closing
unless_closing : {a : ℕ} (c : Bool) (y : Session) → account_of (cond c (Some y) None) ≡ Some a → is_open (cond c (Some y) None) ≡ not y.closing
unless_closing true y e = ap (λ w. is_some w && not y.closing) e
unless_closing {a} false y e = absurd (none-some a e)

module _ {xs : List ℕ} (st : State xs) (a : ℕ) (l : a < owner_slots) (o : Option ℕ) (o_is : o ≡ optional (cell xs C.accounts a C.account_session)) where
  session_is : session_of a (rest_of xs) ≡ o
  session_is = session_of_cell (cell xs) a st.sound.clients.linked l ∙ sym o_is

  pub nobody_listens : o ≡ None → Hears a None (rest_of xs)
  nobody_listens h = record { slot = tt; is = sym (ap (option None (λ t. cond (is_open (session_at t (rest_of xs))) (Some t) None)) (session_is ∙ h)) }

  module _ (s : ℕ) (h : o ≡ Some s) where
    abbrev row : Row
    row = cell xs C.sessions s

    link : (s < session_slots) × (account_of (session row) ≡ Some a)
    link = st.sound.clients.linked.back a s l (from_plus_one _ s (sym o_is ∙ h))

    pub slot_below : s < session_slots
    slot_below = link.0

    module _ (b : Bool) (b_is : b ≡ flag (row C.session_closing)) where
      open_row : is_open (session_at s (rest_of xs)) ≡ not b
      open_row = ap is_open (listed_at (λ j. session (cell xs C.sessions j)) session_slots s None link.0) ∙ unless_closing (flag (row C.session_connected)) _ link.1 ∙ ap not (sym b_is)

      open_is : where_open (session_of a (rest_of xs)) (rest_of xs) ≡ cond (not b) (Some s) None
      open_is =
          ap (option None (λ t. cond (is_open (session_at t (rest_of xs))) (Some t) None)) (session_is ∙ h)
          ∙ ap (λ (d : Bool). cond d (Some s) None) open_row

      pub listens : b ≡ false → Hears a (Some s) (rest_of xs)
      listens e = record { slot = slot_below; is = sym (open_is ∙ ap (λ (d : Bool). cond (not d) (Some s) None) e) }

      pub is_deaf : b ≡ true → Hears a None (rest_of xs)
      is_deaf e = record { slot = tt; is = sym (open_is ∙ ap (λ (d : Bool). cond (not d) (Some s) None) e) }

pub session_count : (xs : List ℕ) → length (rest_of xs).sessions ≡ session_slots
session_count xs = slots xs

-- ---- whom it is told

pub to_open : (a : ℕ) (m : Report) (r : Rest) → report_to (session_of a r) m r ≡ option [] (λ s. send s (Out.Report m) ∷ []) (where_open (session_of a r) r)
to_open a m r = go (session_of a r)
  where
    sent : (t : ℕ) (b : Bool) → cond b (send t (Out.Report m) ∷ []) [] ≡ option [] (λ s. send s (Out.Report m) ∷ []) (cond b (Some t) None)
    sent t true = refl
    sent t false = refl

    go : (o : Option ℕ) → report_to o m r ≡ option [] (λ s. send s (Out.Report m) ∷ []) (option None (λ s. cond (is_open (session_at s r)) (Some s) None) o)
    go None = refl
    go (Some t) = sent t (is_open (session_at t r))

abbrev pub Seen : List ℕ → ℕ → Option ℕ → Type 0
Seen xs n r = Sees C.order_live order number_of (cell xs) n r

module _ (xs : List ℕ) (st : State xs) (n : ℕ) (r : Option ℕ) (seen : Seen xs n r) where
  pub told_nobody : r ≡ None → Tells n (record { to = None; client_ref = 0 }) (gateway (cell xs))
  told_nobody e =
      let s : Seen xs n None = rw e at seen in
      record {
        slot = tt;
        mail = λ m k. sym (ap (option [] (λ (o : Order). report_to (session_of o.account (rest_of xs)) (about m n o.client_ref k) (rest_of xs))) s.order);
      }

  module _ (i : ℕ) (found : r ≡ Some i) where
    there : Seen xs n (Some i)
    there = rw found at seen

    pub row_small : i < order_room
    row_small = omega (arith, there.row.0, st.sound.tables.ordered.bounds.orders_fit)

    module _ (o : Live) (o_is : o ≡ live_row (cell xs C.orders i)) where
      pub owner_small : o.account < owner_slots
      owner_small = rw o_is (st.sound.held.rows i there.row.0 there.row.2).owner_is

      pub told_owner : (to : Option ℕ) → Hears o.account to (rest_of xs) → Tells n (record { to = to; client_ref = o.client_ref }) (gateway (cell xs))
      told_owner to h =
          record {
            slot = h.slot;
            mail = λ m k.
                ap (option [] (λ (s : ℕ). send s (Out.Report (about m n o.client_ref k)) ∷ [])) h.is
                ∙ sym (to_open o.account (about m n o.client_ref k) (rest_of xs))
                ∙ ap (λ (w : Live). report_to (session_of w.account (rest_of xs)) (about m n w.client_ref k) (rest_of xs)) o_is
                ∙ sym (ap (option [] (λ (x : Order). report_to (session_of x.account (rest_of xs)) (about m n x.client_ref k) (rest_of xs))) there.order);
          }

-- ---- the report

pub told_length : (n i : ℕ) (k : ReportKind) (t : Told) → told_rows t ≡ length (told_mail n i k t)
told_length n i k t = go t.to
  where
    go : (o : Option ℕ) → cond (is_some o) 1 0 ≡ length (option [] (λ (s : ℕ). send s (Out.Report (about n i t.client_ref k)) ∷ []) o)
    go None = refl
    go (Some s) = refl

-- there is room for it
pub rows_are : (n i room : ℕ) (k : ReportKind) (t : Told) (g : Gateway) → Tells i t g → leb (told_rows t) room ≡ leb (length (tell_owner n i k g.core g.rest)) room
rows_are n i room k t g s = ap (λ l. leb l room) (told_length n i k t ∙ ap length (s.mail n k))

pub one_row : (t : Told) (s : ℕ) → t.to ≡ Some s → 1 ≡ told_rows t
one_row t s e = rw e refl

pub slot_is : (t : Told) (s : ℕ) → t.to ≡ Some s → InSlots t.to → s < session_slots
slot_is t s e l = subst InSlots e l

module _ (xs out : List ℕ) (p n i : ℕ) (t : Told) (k : ReportKind) where
  pub no_report : State xs → t.to ≡ None → Sends p (told_mail n i k t) (λ x. x) xs xs out out
  no_report st e = rw e (sends_none p out st)

  pub one_report : {ys end : List ℕ} (s : ℕ) → t.to ≡ Some s → Sends p (send s (Out.Report (about n i t.client_ref k)) ∷ []) (λ x. x) xs ys out end →
      Sends p (told_mail n i k t) (λ x. x) xs ys out end
  one_report s e h = rw e h

-- ---- the sender of a refused command

module _ (xs : List ℕ) (n : ℕ) (r : Option ℕ) (seen : Seen xs n r) where
  pub ref_there : (i : ℕ) → r ≡ Some i → (o : Live) → o ≡ live_row (cell xs C.orders i) → o.client_ref ≡ option 0 (λ x. x.client_ref) (find n (ledger (cell xs)).orders)
  ref_there i e o o_is = let s : Seen xs n (Some i) = rw e at seen in ap (λ (w : Live). w.client_ref) o_is ∙ sym (ap (option 0 (λ (x : Order). x.client_ref)) s.order)

  pub ref_none : r ≡ None → 0 ≡ option 0 (λ x. x.client_ref) (find n (ledger (cell xs)).orders)
  ref_none e = let s : Seen xs n None = rw e at seen in sym (ap (option 0 (λ (x : Order). x.client_ref)) s.order)

-- whether the account that the session speaks for is this one
module _ (q : Rest) (s a : ℕ) (o : Option ℕ) (o_is : o ≡ account_of (session_at s q)) (r : Bool) (r_is : r ≡ option_eq eqb o (Some a)) where
  logged : logged_in a (session_at s q) ≡ r
  logged = ap (option false (eqb a)) (sym o_is) ∙ go o ∙ sym r_is
    where
      either : (t : ℕ) → eqb a t ≡ eqb t a
      either t = ⊎_elim (λ (e : a ≡ t). eq-eqb a t e ∙ sym (eq-eqb t a (sym e))) (λ n. ne_eqb a t n ∙ sym (ne_eqb t a (λ e. n (sym e)))) (same? a t)

      go : (x : Option ℕ) → option false (eqb a) x ≡ option_eq eqb x (Some a)
      go None = refl
      go (Some t) = either t

  pub speaks_not : r ≡ false → r ≡ speaks_for s a q
  speaks_not h = h ∙ sym (ap (λ b. b && is_open (session_at s q)) (logged ∙ h))

  pub speaks : r ≡ true → (b : Bool) → b ≡ is_open (session_at s q) → b ≡ speaks_for s a q
  speaks h b b_is = b_is ∙ sym (ap (λ c. c && is_open (session_at s q)) (logged ∙ h))

-- a session that is open stands in its slots
module _ (q : Rest) (slots_are : length q.sessions ≡ session_slots) (from a : ℕ) where
  abbrev of : ℕ → Option ℕ
  of t = cond (speaks_for t a q) (Some t) None

  pub sent_by_nobody : from ≡ 0 → Sender from a None q
  sent_by_nobody e = record { slot = tt; is = sym (ap (option None of) (none_is from e)) }

  module _ (h : from ≡ 0 → ⊥) (b : Bool) (b_is : b ≡ speaks_for (from - 1) a q) where
    pub sent_by_other : b ≡ false → Sender from a None q
    sent_by_other e = record { slot = tt; is = sym (ap (option None of) (some_is from h) ∙ ap (λ (c : Bool). cond c (Some (from - 1)) None) (sym b_is ∙ e)) }

    inside : b ≡ true → from - 1 < session_slots
    inside e =
        ⊎_elim (λ (l : from - 1 < session_slots). l)
        (λ l. absurd (false≢true (sym (ap (λ x. logged_in a x && is_open x) (get_or-eq_default q.sessions None (rw slots_are l))) ∙ sym b_is ∙ e)))
        (lt_or_le (from - 1) session_slots)

    pub sent_by : b ≡ true → Sender from a (Some (from - 1)) q
    sent_by e =
        record {
          slot = inside e;
          is = sym (ap (option None of) (some_is from h) ∙ ap (λ (c : Bool). cond c (Some (from - 1)) None) (sym b_is ∙ e));
        }

-- the report to it
to_sender : (m : Report) (r : Rest) (a : ℕ) (o : Option ℕ) →
    option [] (λ s. cond (logged_in a (session_at s r)) (report s m r) []) o ≡ option [] (λ s. send s (Out.Report m) ∷ []) (option None (λ t. cond (speaks_for t a r) (Some t) None) o)
to_sender m r a None = refl
to_sender m r a (Some t) = go (logged_in a (session_at t r)) (is_open (session_at t r))
  where
    go : (b c : Bool) → cond b (cond c (send t (Out.Report m) ∷ []) []) [] ≡ option [] (λ s. send s (Out.Report m) ∷ []) (cond (b && c) (Some t) None)
    go true true = refl
    go true false = refl
    go false c = refl

module _ {xs : List ℕ} (st : State xs) (n i : ℕ) (f : Flight.Flight) (f_is : Pending.in_flight_as n f ≡ in_slot (cell xs) n) (to : Option ℕ) (sends : Sender f.sender f.owner to (rest_of xs)) where
  refused_mail : (ref : ℕ) → refused_ref (Pending.in_flight_as n f) (find i (ledger (cell xs)).orders) ≡ ref → in_flight n (gateway (cell xs)).core ≡ true → (k : ReportKind) →
      told_mail n i k (record { to = to; client_ref = ref }) ≡ tell_sender n i k (gateway (cell xs)).core (rest_of xs) (drop_below n (gateway (cell xs)).core.flights)
  refused_mail ref ref_is e k =
      let w = first_in_run (cell xs) st.sound.tables.run n e in
      ap (option [] (λ s. send s (Out.Report (about n i ref k)) ∷ [])) sends.is
      ∙ sym (to_sender (about n i ref k) (rest_of xs) f.owner (optional f.sender))
      ∙ ap (λ (v : ℕ). option [] (λ s. cond (logged_in f.owner (session_at s (rest_of xs))) (report s (about n i v k) (rest_of xs)) []) (optional f.sender)) (sym ref_is)
      ∙ ap (λ (x : C2.Flight). tell_sender n i k (gateway (cell xs)).core (rest_of xs) (x ∷ w.behind)) f_is
      ∙ ap (tell_sender n i k (gateway (cell xs)).core (rest_of xs)) (sym w.are)

  pub told_refused : f.places ≡ 0 → TellsSender n i (record { to = to; client_ref = 0 }) (gateway (cell xs))
  told_refused e = record { slot = sends.slot; mail = refused_mail 0 (rw (eq-eqb f.places 0 e) refl) }

  pub told_placer : (f.places ≡ 0 → ⊥) → (ref : ℕ) → ref ≡ option 0 (λ o. o.client_ref) (find i (ledger (cell xs)).orders) → TellsSender n i (record { to = to; client_ref = ref }) (gateway (cell xs))
  told_placer h ref ref_is = record { slot = sends.slot; mail = refused_mail ref (rw (ne_eqb f.places 0 h) (sym ref_is)) }

pub ruleset reports = (slot_below, nobody_listens, listens, is_deaf, told_nobody, told_owner, no_report, one_report, row_small, owner_small, ref_there, ref_none, speaks_not, speaks, sent_by_nobody, sent_by_other, sent_by, session_count, told_refused, told_placer, arith)
