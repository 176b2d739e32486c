-- The rows that `take_batch` writes are rows that `replay_command` takes, and reads as the commands of the batch (`ReadsBack` of specs/Claims.antt). Assumes nothing.
use Rattle.std.specs.Prelude.{Option, Some, None}
use Prim.Native.Nat.{ℕ, zero, suc, ◌+◌, ◌*◌, ◌^◌, ◌≤◌, ◌<◌}
use mathlib.Core.Path.{◌≡◌, refl, sym, ap, subst, ◌∙◌}
use mathlib.Core.Bool.{Bool, true, false, cond, ◌&&◌}
use mathlib.Core.List.{List, [], ◌∷◌, map}
use native.Mathlib.Nat.{not-suc-le-zero}
use native.Mathlib.Omega.{arith}
use borrow.Author.Tests.{le-leb, eq-eqb, leb-true}
use lib.IntN.{ℤ}
use lib.Dec.{eqb, leb, lit<}
use lib.ListN.{length, get_or, take, drop, length-map, length-drop}
use lib.Seq.{get_or-take, get_or-drop, length-take-le}
use mir.Syntax.{w64}
use mir.Val.{SFits}
use mir.Facts.{sfits_to_z}
use Rattle.orderbook.specs.declared.Side.{Side}
use Rattle.orderbook.specs.declared.Side.TheVariants.{Buy, Sell}
use Rattle.orderbook.specs.declared.TimeInForce.{TimeInForce}
use Rattle.orderbook.specs.declared.TimeInForce.TheVariants.{Gtc, Ioc, Fok, PostOnly}
use Rattle.orderbook.specs.declared.Command.{Command}
use Rattle.orderbook.specs.declared.Command.TheVariants.{Limit, Market, Cancel, Modify, Stop, CancelAll, SetPhase}
use Rattle.protocol.specs.Codes.{side_code, tif_code}
use Rattle.words.specs.Words.{int, word_of, modulus}
use Rattle.words.proofs.Int.{of_int}
use Rattle.le.specs.Le.{le, Bytes}
use Rattle.le.proofs.Laws.{le_local, le_bound}
use Rattle.table.specs.Live.{Each}
use Rattle.gateway.specs.Bytes.{price_flag, price_word}
use Rattle.gateway.specs.Ledger.{owner_of}
use Rattle.gateway.specs.Limits.{too_short}
use Rattle.gateway.specs.Entry.{unless, refuse, quiet, commands}
use Rattle.gateway.specs.Rest.{with_batch}
use Rattle.gateway.specs.Calls.{Gateway, Outcome, take_batch, plan, carry_out, call}
use Rattle.gateway.proofs.Base.{split}
use Rattle.store.specs.Cells as C
use Rattle.store.specs.Layout.{spot, cell}
use Rattle.store.specs.View.{Row, flag, maybe_qty, maybe_price, side, tif, command, listed, word, gateway}
use Rattle.store.proofs.Listed.{listed_at, listed_length}
use Rattle.refill.proofs.Wallets.{each_at}
use Rattle.rows.specs.Rows.{put_rows}
use Rattle.rows.proofs.Laws.{length_rows, rows_read}
use Rattle.mailbox.specs.Mailbox.{places}
use Rattle.pending.specs.Pending.{command_row, qty_flag, qty_word, MaybeFits, Batched, Typed}
use Rattle.outcome.specs.Between.{Between}
use Rattle.outcome.specs.Answers.{Ends, Unsent, Listed}
use Rattle.script.specs.Script.{word_at}
use Rattle.script.specs.Strict.{most_32, last_tif, command_fits, owned_fits, is_command}
use Rattle.script.specs.Records.{command_of}
use Rattle.numbers.specs.declared.Reply.{Reply}
use Rattle.edge.specs.Entering.{asked, Lists}
use Rattle.edge.proofs.Laws.{asked_yes}
use Rattle.edge.proofs.Commands.{Written, reads_back}
use Rattle.restart.specs.Claims.{ReadsBack}

-- ---- a command whose numbers are words

abbrev Word : ℕ → Type 0
Word v = v < modulus

-- its row can be written and read back, and is one of `replay_command`
record Rowed (c : Command) : Type 0 where
  batched : Batched c
  typed : Typed c
  words : Each Word (command_row c)
  fits : (xs : List ℕ) → Written c xs → owned_fits xs ≡ true

-- the word i of xs is v, which is at most m
at_most_is : (xs : List ℕ) (i v m : ℕ) → word_at xs i ≡ v → v ≤ m → leb (word_at xs i) m ≡ true
at_most_is xs i v m e l = ap (λ w. leb w m) e ∙ le-leb v m l

both : {b c : Bool} → b ≡ true → c ≡ true → (b && c) ≡ true
both {b} {c} p q = rw (p, q) refl

side_bit : (s : Side) → side_code s ≤ 1
side_bit Buy = omega arith
side_bit Sell = omega arith

tif_few : (t : TimeInForce) → tif_code t ≤ last_tif
tif_few Gtc = omega arith
tif_few Ioc = omega arith
tif_few Fok = omega arith
tif_few PostOnly = omega arith

qty_bit : (d : Option ℕ) → qty_flag d ≤ 1
qty_bit None = omega arith
qty_bit (Some q) = omega arith

price_bit : (p : Option ℤ) → price_flag p ≤ 1
price_bit None = omega arith
price_bit (Some p) = omega arith

-- of each kind
module _ (o : ℕ) (o_fits : o < 2 ^ 32) where
  owner_small : (c : Command) → get_or (command_row c) 2 0 ≡ o → (xs : List ℕ) → Written c xs → leb (word_at xs 2) most_32 ≡ true
  owner_small c e xs h = at_most_is xs 2 o most_32 (h 2 (lit< tt) ∙ e) (omega arith)

  kind_fits : (c : Command) (k : ℕ) → get_or (command_row c) 0 0 ≡ k → (xs : List ℕ) → Written c xs → command_fits k xs ≡ true → command_fits (word_at xs 0) xs ≡ true
  kind_fits c k e xs h f = ap (λ n. command_fits n xs) (h 0 (lit< tt) ∙ e) ∙ f

  limit_rowed : (id : ℕ) (s : Side) (p : ℤ) (q : ℕ) (t : TimeInForce) (d : Option ℕ) → Word id → SFits w64 p → Word (word_of p) → Word q → Word (qty_word d) → Rowed (Limit id o s p q t d)
  unfolding owner_of
  limit_rowed id s p q t d a b c e f =
      record {
        batched = tt;
        typed = record { owner_fits = o_fits; prices_fit = b };
        words = (omega arith, (a, (omega arith, (omega (arith, side_bit s), (c, (e, (omega (arith, tif_few t), (omega (arith, qty_bit d), (f, (omega arith, (omega arith, (omega arith, tt))))))))))));
        fits = λ xs h.
            let k = Limit id o s p q t d in
            both (owner_small k refl xs h)
            (kind_fits k 0 refl xs h
            (both (at_most_is xs 3 (side_code s) 1 (h 3 (lit< tt)) (side_bit s))
            (both (at_most_is xs 6 (tif_code t) last_tif (h 6 (lit< tt)) (tif_few t)) (at_most_is xs 7 (qty_flag d) 1 (h 7 (lit< tt)) (qty_bit d)))));
      }

  market_rowed : (id : ℕ) (s : Side) (q : ℕ) → Word id → Word q → Rowed (Market id o s q)
  unfolding owner_of
  market_rowed id s q a e =
      record {
        batched = tt;
        typed = record { owner_fits = o_fits; prices_fit = tt };
        words = (omega arith, (a, (omega arith, (omega (arith, side_bit s), (omega arith, (e, (omega arith, (omega arith, (omega arith, (omega arith, (omega arith, (omega arith, tt))))))))))));
        fits = λ xs h.
            let k = Market id o s q in
            both (owner_small k refl xs h) (kind_fits k 1 refl xs h (at_most_is xs 3 (side_code s) 1 (h 3 (lit< tt)) (side_bit s)));
      }

  cancel_rowed : (id : ℕ) → Word id → Rowed (Cancel id o)
  unfolding owner_of
  cancel_rowed id a =
      record {
        batched = tt;
        typed = record { owner_fits = o_fits; prices_fit = tt };
        words = (omega arith, (a, (omega arith, (omega arith, (omega arith, (omega arith, (omega arith, (omega arith, (omega arith, (omega arith, (omega arith, (omega arith, tt))))))))))));
        fits = λ xs h. let k = Cancel id o in both (owner_small k refl xs h) (kind_fits k 2 refl xs h refl);
      }

  modify_rowed : (id : ℕ) (p : ℤ) (q : ℕ) → Word id → SFits w64 p → Word (word_of p) → Word q → Rowed (Modify id o p q)
  unfolding owner_of
  modify_rowed id p q a b c e =
      record {
        batched = tt;
        typed = record { owner_fits = o_fits; prices_fit = b };
        words = (omega arith, (a, (omega arith, (omega arith, (c, (e, (omega arith, (omega arith, (omega arith, (omega arith, (omega arith, (omega arith, tt))))))))))));
        fits = λ xs h. let k = Modify id o p q in both (owner_small k refl xs h) (kind_fits k 3 refl xs h refl);
      }

  stop_rowed : (id : ℕ) (s : Side) (t : ℤ) (l : Option ℤ) (q : ℕ) → Word id → SFits w64 t → MaybeFits l → Word (word_of t) → Word (price_word l) → Word q → Rowed (Stop id o s t l q)
  unfolding owner_of
  stop_rowed id s t l q a b c e f g =
      record {
        batched = tt;
        typed = record { owner_fits = o_fits; prices_fit = (b, c) };
        words = (omega arith, (a, (omega arith, (omega (arith, side_bit s), (omega arith, (g, (omega arith, (omega arith, (omega arith, (e, (omega (arith, price_bit l), (f, tt))))))))))));
        fits = λ xs h.
            let k = Stop id o s t l q in
            both (owner_small k refl xs h)
            (kind_fits k 4 refl xs h (both (at_most_is xs 3 (side_code s) 1 (h 3 (lit< tt)) (side_bit s)) (at_most_is xs 10 (price_flag l) 1 (h 10 (lit< tt)) (price_bit l))));
      }

  all_rowed : Rowed (CancelAll o)
  unfolding owner_of
  all_rowed =
      record {
        batched = tt;
        typed = record { owner_fits = o_fits; prices_fit = tt };
        words = (omega arith, (omega arith, (omega arith, (omega arith, (omega arith, (omega arith, (omega arith, (omega arith, (omega arith, (omega arith, (omega arith, (omega arith, tt))))))))))));
        fits = λ xs h. let k = CancelAll o in both (owner_small k refl xs h) (kind_fits k 5 refl xs h refl);
      }

-- ---- a command that is read from a row of words

module _ (r : Row) (small : (k : ℕ) → r k < modulus) (o_fits : r C.command_owner < 2 ^ 32) where
  signed : (k : ℕ) → SFits w64 (int (r k))
  unfolding int
  signed k = sfits_to_z (record { fits = small k })

  worded : (k : ℕ) → Word (word_of (int (r k)))
  worded k = rw (of_int (r k) (small k)) (small k)

  quantity : (n k : ℕ) → Word (qty_word (maybe_qty (r n) (r k)))
  quantity n k = split (λ b. Word (qty_word (cond b (Some (r k)) None))) (flag (r n)) (λ _. small k) (λ _. omega arith)

  priced : (n k : ℕ) → MaybeFits (maybe_price (r n) (r k)) × Word (price_word (maybe_price (r n) (r k)))
  priced n k =
      split (λ b. let p = cond b (Some (int (r k))) None in MaybeFits p × Word (price_word p)) (flag (r n)) (λ _. (signed k, worded k)) (λ _. (tt, omega arith))

  one_of : (k : ℕ) (x y : Command) → Rowed x → Rowed y → Rowed (cond (eqb (r C.command_kind) k) x y)
  one_of k x y p q = split (λ b. Rowed (cond b x y)) (eqb (r C.command_kind) k) (λ _. p) (λ _. q)

  rowed : Rowed (command r)
  rowed =
      let o = r C.command_owner in
      one_of 0 _ _ (limit_rowed o o_fits _ _ _ _ _ _ (small C.command_id) (signed C.command_price) (worded C.command_price) (small C.command_qty) (quantity C.command_displayed C.command_display))
      (one_of 1 _ _ (market_rowed o o_fits _ _ _ (small C.command_id) (small C.command_qty))
      (one_of 2 _ _ (cancel_rowed o o_fits _ (small C.command_id))
      (one_of 3 _ _ (modify_rowed o o_fits _ _ _ (small C.command_id) (signed C.command_price) (worded C.command_price) (small C.command_qty))
      (one_of 4 _ _
      (stop_rowed o o_fits _ _ _ _ _ (small C.command_id) (signed C.command_trigger) (priced C.command_limited C.command_limit).0 (worded C.command_trigger) (priced C.command_limited C.command_limit).1 (small C.command_qty))
      (all_rowed o o_fits)))))

-- ---- the batch

-- a cell of bytes is a word
bounded : (xs : List ℕ) → Bytes xs → (j k : ℕ) → cell xs C.batch j k < modulus
unfolding cell
bounded xs small j k = le_bound 8 xs (8 * spot C.batch j k) small

row_12 : (c : Command) → length (command_row c) ≡ 12
row_12 (Limit id o s p q t d) = refl
row_12 (Market id o s q) = refl
row_12 (Cancel id o) = refl
row_12 (Modify id o p q) = refl
row_12 (Stop id o s t l q) = refl
row_12 (CancelAll o) = refl
row_12 (SetPhase p) = refl

rows_12 : (cs : List Command) → Each (λ r. length r ≡ 12) (map command_row cs)
rows_12 [] = tt
rows_12 (c ∷ cs) = (row_12 c, rows_12 cs)

row_at : (cs : List Command) (j : ℕ) (d : Command) → j < length cs → get_or (map command_row cs) j [] ≡ command_row (get_or cs j d)
row_at [] j d l = absurd (not-suc-le-zero l)
row_at (c ∷ cs) zero d l = refl
row_at (c ∷ cs) (suc j) d l = row_at cs j d (omega arith)

module _ (xs ys out end : List ℕ) (r : Reply) (b : Between xs) (small : Bytes xs) (lists : Lists 96 (asked true xs (take_batch (places (length out)))) r xs ys out end) (ok : r.code ≡ 0) where
  abbrev g : Gateway
  g = gateway (cell xs)

  abbrev batch : List Command
  batch = g.rest.batch

  abbrev Tells : Outcome → Type 0
  Tells o = Ends o (Unsent r.count out end) (λ a ms. Listed 96 a ms r.count out end) r.code xs ys

  -- what was written, and that there was room
  record Took : Type 0 where
    count_is : r.count ≡ length batch
    rows_are : end ≡ put_rows 96 0 (map command_row batch) out
    room : length batch ≤ places (length out)

  took : Took
  unfolding Ends plan unless
  took = go (leb (length batch) (places (length out))) refl (subst Tells (asked_yes xs (take_batch (places (length out))) b.state.holds) lists.ends)
    where
      go : (c : Bool) → leb (length batch) (places (length out)) ≡ c → Tells (carry_out g.core (cond c (quiet (commands batch) [] (with_batch [] g.rest)) (refuse too_short))) → Took
      go true e t = record { count_is = t.tells.count_is ∙ length-map batch command_row; rows_are = t.tells.listed; room = leb-true (length batch) (places (length out)) e }
      go false e t = absurd (let z : 0 ≡ 6 = sym ok ∙ t.code_is in omega (arith, z))

  module _ (j : ℕ) (d : Command) (l : j < r.count) where
    abbrev row : List ℕ
    row = take 96 (drop (96 * j) end)

    inside : j < length batch
    inside = omega (arith, l, took.count_is)

    waiting : j < word (cell xs) C.waiting
    waiting = omega (arith, inside, listed_length (λ i. command (cell xs C.batch i)) (word (cell xs) C.waiting))

    abbrev c : Command
    c = get_or batch j d

    c_is : c ≡ command (cell xs C.batch j)
    c_is = listed_at (λ i. command (cell xs C.batch i)) (word (cell xs) C.waiting) j d waiting

    its : Rowed c
    its = subst Rowed (sym c_is) (rowed (cell xs C.batch j) (bounded xs small j) (b.state.sound.clients.batch j waiting).owner_fits)

    room_is : 96 * length batch ≤ length out
    room_is = omega (arith, took.room)

    end_length : length end ≡ length out
    end_length = ap length took.rows_are ∙ length_rows 96 0 (map command_row batch) out

    written : Written c row
    written k q =
        (le_local 8).same (record { at = λ i h. get_or-take 96 (drop (96 * j) end) (8 * k + i) 0 (omega arith) ∙ get_or-drop (96 * j) end (8 * k + i) 0 ∙ ap (λ n. get_or end n 0) (let z : 96 * j + (8 * k + i) ≡ 96 * j + 8 * k + i = omega arith in z) })
        ∙ ap (λ e. le 8 e (96 * j + 8 * k)) took.rows_are
        ∙ ap (le 8 (put_rows 96 0 (map command_row batch) out)) (let z : 96 * j + 8 * k ≡ 96 * (0 + j) + 8 * k = omega arith in z)
        ∙ rows_read 12 0 (map command_row batch) out j k (rows_12 batch) (omega (arith, room_is, length-map batch command_row)) (omega (arith, inside, length-map batch command_row)) q
        (rw (row_at batch j d inside) (each_at Word (command_row c) k 0 its.words (omega (arith, row_12 c))))
        ∙ ap (λ v. get_or v k 0) (row_at batch j d inside)

    sized : length row ≡ 96
    sized = length-take-le 96 (drop (96 * j) end) (omega (arith, length-drop (96 * j) end, end_length, room_is, inside))

    read : (is_command row ≡ true) × (command_of row ≡ c)
    unfolding is_command
    read = (both (eq-eqb (length row) 96 sized) (its.fits row written), reads_back row c its.batched its.typed written)

pub read_back : ReadsBack
read_back xs ys out end r b small lists ok j d l = read xs ys out end r b small lists ok j d l
