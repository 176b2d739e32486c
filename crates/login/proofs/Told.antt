-- The open orders that a login is told: row by row they are the definitions' list. Assumes nothing.
use Rattle.std.specs.Prelude.{Option, Some, None, is_some}
use mathlib.Core.Path.{◌≡◌, refl, sym, ap, ap₂, ◌∙◌}
use mathlib.Core.Bool.{Bool, true, false, cond, ◌&&◌}
use mathlib.Core.Logic.{⊎_elim}
use mathlib.Core.List.{List, [], ◌∷◌, ◌++◌, map, append-nil}
use Prim.Native.Nat.{ℕ, zero, suc, ◌+◌, ◌≤◌, ◌<◌}
use native.Mathlib.Numerals.{add-one}
use native.Mathlib.Nat.{not-suc-le-zero}
use native.Mathlib.Omega.{arith}
use borrow.Author.Tests.{ne_eqb}
use lib.Dec.{eqb, leb}
use lib.ListN.{length, length-append}
use Rattle.protocol.specs.declared.Outbound.TheVariants as Out
use Rattle.protocol.specs.declared.Report.{Report}
use Rattle.words.specs.Words.{int}
use Rattle.le.proofs.Laws.{lt_or_le}
use Rattle.table.specs.Live.{Each, live, pick}
use Rattle.gateway.specs.Basics.{option, each}
use Rattle.gateway.specs.Ledger.{Order}
use Rattle.gateway.specs.Rest.{Mail, send}
use Rattle.gateway.specs.Entry.{rested, open_order}
use Rattle.gateway.specs.Calls.{Gateway}
use Rattle.store.specs.Cells as C
use Rattle.store.specs.Layout.{cell}
use Rattle.store.specs.View.{Row, Store, word, flag, order, order_room, gateway}
use Rattle.sound.specs.Sound.{State}
use Rattle.mailbox.specs.Mailbox.{put_mail, mailed}
use Rattle.mailbox.proofs.Rows.{mailed_one}
use Rattle.outcome.specs.Parts.{Posts}
use Rattle.outcome.proofs.Walk.{To, posts_none, posts_more}
use Rattle.outcome.proofs.Steps.{each_append}
use Rattle.login.specs.Login.{open_mail, is_told, told_rows, first_orders, row_told, report_of, row_mail}

-- ---- counting

module _ (s : Store) where
  map_append : (ps qs : List (ℕ × Order)) → map (λ (p : ℕ × Order). p.1) (ps ++ qs) ≡ map (λ (p : ℕ × Order). p.1) ps ++ map (λ (p : ℕ × Order). p.1) qs
  map_append [] qs = refl
  map_append (p ∷ ps) qs = ap (λ l. p.1 ∷ l) (map_append ps qs)

  -- the live order of a row
  abbrev in_row : Row → List Order
  in_row r = cond (flag (r C.order_live)) (order r ∷ []) []

  picked : (n : ℕ) (o : Order) → map (λ (p : ℕ × Order). p.1) (pick n (n, o)) ≡ cond (flag n) (o ∷ []) []
  picked zero o = refl
  picked (suc n) o = let f : suc n ≡ 0 → ⊥ = λ e. omega arith in rw (ne_eqb (suc n) 0 f) refl

  first_next : (j : ℕ) → first_orders s (j + 1) ≡ first_orders s j ++ in_row (s C.orders j)
  unfolding live
  first_next j =
      rw add-one
      (map_append (live (λ (p : ℕ × Order). p.0) (λ i. (s C.orders i C.order_live, order (s C.orders i))) j) (pick (s C.orders j C.order_live) (s C.orders j C.order_live, order (s C.orders j)))
      ∙ ap (λ os. first_orders s j ++ os) (picked (s C.orders j C.order_live) (order (s C.orders j))))

  module _ (a delivered : ℕ) where
    told_append : (os ps : List Order) → told_rows a delivered (os ++ ps) ≡ told_rows a delivered os + told_rows a delivered ps
    told_append [] ps = omega arith
    told_append (o ∷ os) ps = go (told_append os ps) (is_told a delivered o)
      where
        go : told_rows a delivered (os ++ ps) ≡ told_rows a delivered os + told_rows a delivered ps → (b : Bool) → cond b (suc (told_rows a delivered (os ++ ps))) (told_rows a delivered (os ++ ps)) ≡ cond b (suc (told_rows a delivered os)) (told_rows a delivered os) + told_rows a delivered ps
        go e true = omega arith
        go e false = e

    row_count : (r : Row) → told_rows a delivered (in_row r) ≡ cond (row_told a delivered r) 1 0
    row_count r = go (flag (r C.order_live))
      where
        go : (b : Bool) → told_rows a delivered (cond b (order r ∷ []) []) ≡ cond (b && is_told a delivered (order r)) 1 0
        go false = refl
        go true = one (is_told a delivered (order r))
          where
            one : (d : Bool) → cond d (suc 0) 0 ≡ cond d 1 0
            one true = refl
            one false = refl

    pub count_first : 0 ≡ told_rows a delivered (first_orders s 0)
    unfolding live
    count_first = refl

    pub count_next : (j n k : ℕ) → n ≡ told_rows a delivered (first_orders s j) → k ≡ cond (row_told a delivered (s C.orders j)) 1 0 → n + k ≡ told_rows a delivered (first_orders s (j + 1))
    count_next j n k e q =
        omega (arith, ap (told_rows a delivered) (first_next j), told_append (first_orders s j) (in_row (s C.orders j)), row_count (s C.orders j))

pub count_all : (xs : List ℕ) (a delivered j n : ℕ) → delivered ≡ word (cell xs) C.delivered → j ≡ word (cell xs) C.order_rows → n ≡ told_rows a delivered (first_orders (cell xs) j) →
    n ≡ told_rows a (gateway (cell xs)).rest.delivered (gateway (cell xs)).core.ledger.orders
count_all xs a delivered j n d e h = h ∙ ap₂ (λ (k i : ℕ). told_rows a k (first_orders (cell xs) i)) d e

-- ---- writing

module _ (s a : ℕ) (last delivered : ℕ) where
  abbrev F : Order → List Mail
  F = open_order s a last delivered

  order_mail : (o : Order) (b : Bool) → length (cond b (option [] (λ p. rested s last o p ∷ []) o.price) []) ≡ cond (b && is_some o.price) 1 0
  order_mail o false = refl
  order_mail o true = go o.price
    where
      go : (p : Option _) → length (option [] (λ p. rested s last o p ∷ []) p) ≡ cond (is_some p) 1 0
      go None = refl
      go (Some p) = refl

  -- as many messages as orders that are told
  pub told_length : (os : List Order) → length (each F os) ≡ told_rows a delivered os
  told_length [] = refl
  told_length (o ∷ os) =
      length-append (F o) (each F os) ∙ go (told_length os) (is_told a delivered o) (order_mail o (eqb o.account a && leb o.number delivered))
    where
      go : length (each F os) ≡ told_rows a delivered os → (b : Bool) → length (F o) ≡ cond b 1 0 → length (F o) + length (each F os) ≡ cond b (suc (told_rows a delivered os)) (told_rows a delivered os)
      go h true e = omega (arith, e, h)
      go h false e = omega (arith, e, h)

  -- each goes to the session
  pub told_to : (os : List Order) → Each (To s) (each F os)
  told_to [] = tt
  told_to (o ∷ os) = both (told_to os) (F o) (one (eqb o.account a && leb o.number delivered) o.price)
    where
      one : (b : Bool) (p : Option _) → Each (To s) (cond b (option [] (λ p. rested s last o p ∷ []) p) [])
      one false p = tt
      one true None = tt
      one true (Some p) = (refl, tt)

      both : Each (To s) (each F os) → (ms : List Mail) → Each (To s) ms → Each (To s) (ms ++ each F os)
      both t [] h = t
      both t (m ∷ ms) h = (h.0, both t ms h.1)

  -- the mail of a row
  row_mail_is : (r : Row) → cond (row_told a delivered r) (send s (Out.Report (report_of last r)) ∷ []) [] ≡ each F (cond (flag (r C.order_live)) (order r ∷ []) [])
  row_mail_is r = go (flag (r C.order_live))
    where
      one : (b p : Bool) → cond (b && is_some ((cond p (Some (int (r C.order_price))) None))) (send s (Out.Report (report_of last r)) ∷ []) [] ≡ cond b (option [] (λ q. rested s last (order r) q ∷ []) ((cond p (Some (int (r C.order_price))) None))) []
      one false p = refl
      one true true = refl
      one true false = refl

      go : (n : Bool) → cond (n && is_told a delivered (order r)) (send s (Out.Report (report_of last r)) ∷ []) [] ≡ each F (cond n (order r ∷ []) [])
      go false = refl
      go true = one (eqb (r C.order_account) a && leb (r C.order_number) delivered) (flag (r C.order_priced)) ∙ sym (append-nil (F (order r)))

-- ---- the loop

module _ (xs : List ℕ) (s a i : ℕ) (out : List ℕ) where
  abbrev g : Gateway
  g = gateway (cell xs)

  -- the mail of the first j rows
  abbrev mail : ℕ → List Mail
  mail j = each (open_order s a g.core.ledger.last g.rest.delivered) (first_orders (cell xs) j)

  abbrev pub Posted : List ℕ → ℕ → ℕ → Type 0
  Posted end n j = Posts i (mail j) n out end

  pub posted_first : Posted out i 0
  unfolding live
  posted_first = posts_none i out

  next_mail : (j : ℕ) → mail (j + 1) ≡ mail j ++ row_mail s a g (cell xs C.orders j)
  next_mail j =
      ap (each (open_order s a g.core.ledger.last g.rest.delivered)) (first_next (cell xs) j)
      ∙ each_append (open_order s a g.core.ledger.last g.rest.delivered) (first_orders (cell xs) j) (cond (flag (cell xs C.orders j C.order_live)) (order (cell xs C.orders j) ∷ []) [])
      ∙ ap (λ ms. mail j ++ ms) (sym (row_mail_is s a g.core.ledger.last g.rest.delivered (cell xs C.orders j)))

  pub posted_next : {mid end : List ℕ} {n k : ℕ} (j : ℕ) → Posted mid n j → Posts n (row_mail s a g (cell xs C.orders j)) k mid end → Posted end k (j + 1)
  posted_next {n = n} {k = k} j p q = rw (← next_mail j) at (posts_more i n k (mail j) (row_mail s a g (cell xs C.orders j)) out p q)

  -- the first rows and one more send at most what all send
  most : (j n : ℕ) → j < n → length (mail j) + length (row_mail s a g (cell xs C.orders j)) ≤ length (mail n)
  most j zero l = absurd (not-suc-le-zero l)
  most j (suc n) l =
      let sum : length (mail (suc n)) ≡ length (mail n) + length (row_mail s a g (cell xs C.orders n)) =
      ap (λ k. length (mail k)) (sym (add-one n)) ∙ ap length (next_mail n) ∙ length-append (mail n) (row_mail s a g (cell xs C.orders n)) in
      ⊎_elim (λ (h : j < n). omega (arith, most j n h, sum))
      (λ h. let e : j ≡ n = omega arith in omega (arith, sum, ap (λ k. length (mail k) + length (row_mail s a g (cell xs C.orders k))) e)) (lt_or_le j n)

  pub posted_room : {mid : List ℕ} {n : ℕ} (j room : ℕ) → Posted mid n j → j < word (cell xs) C.order_rows → i + length (open_mail s a g) ≤ room →
      n + length (row_mail s a g (cell xs C.orders j)) ≤ room
  posted_room j room p l h = omega (arith, p.next_is, most j (word (cell xs) C.order_rows) l)

  pub posted_all : {end : List ℕ} {n : ℕ} (j : ℕ) → Posted end n j → j ≡ word (cell xs) C.order_rows → Posts i (open_mail s a g) n out end
  posted_all j p e = rw e at p

-- ---- one row's turn

module _ (xs : List ℕ) (s a i j last delivered : ℕ) (l : last ≡ word (cell xs) C.last) (d : delivered ≡ word (cell xs) C.delivered) (b : Bool) (e : b ≡ row_told a delivered (cell xs C.orders j)) where
  abbrev m : List Mail
  m = row_mail s a (gateway (cell xs)) (cell xs C.orders j)

  told_is : (c : Bool) → b ≡ c → m ≡ cond c (send s (Out.Report (report_of last (cell xs C.orders j))) ∷ []) []
  told_is c t = rw (← d, ← e, t, ← l) refl

  pub row_room : (room : ℕ) → b ≡ true → i + length m ≤ room → i < room
  row_room room t h = omega (arith, ap length (told_is true t))

  pub row_posted : (out : List ℕ) {end : List ℕ} (r : Report) → b ≡ true → r ≡ report_of last (cell xs C.orders j) → end ≡ put_mail i (send s (Out.Report r)) out → Posts i m (i + 1) out end
  row_posted out r t q p =
      record {
        next_is = ap (λ k. i + k) (sym (ap length (told_is true t)));
        posted = p ∙ ap (λ (x : Report). put_mail i (send s (Out.Report x)) out) q ∙ sym (mailed_one i (send s (Out.Report (report_of last (cell xs C.orders j)))) out) ∙ ap (λ ms. mailed i ms out) (sym (told_is true t));
      }

  pub row_passed : (out : List ℕ) → b ≡ false → Posts i m i out out
  row_passed out t = rw (told_is false t) (posts_none i out)

pub small_row : {xs : List ℕ} → State xs → (j n : ℕ) → n ≡ word (cell xs) C.order_rows → j < n → j < order_room
small_row st j n e l = omega (arith, st.sound.tables.ordered.bounds.orders_fit)

pub ruleset told = (row_posted, row_passed, arith)
