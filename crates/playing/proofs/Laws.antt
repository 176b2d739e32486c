-- One step of a list of calls, from each form in which an entry point answers. Assumes nothing.
use Rattle.std.specs.Prelude.{is_some}
use Prim.Native.Nat.{ℕ, ◌+◌, ◌*◌, ◌/◌, ◌<◌, ◌≤◌}
use mathlib.Core.Path.{◌≡◌, refl, sym, ap, ap₂, subst, ◌∙◌}
use mathlib.Core.Bool.{Bool, true, false, false≢true, and-false}
use mathlib.Core.List.{List, []}
use mathlib.Core.Logic.{⊎_elim}
use lib.Dec.{eqb, leb}
use lib.ListN.{length, replicate}
use lib.IntN.{ℤ}
use Rattle.words.specs.Words.{word_of}
use native.Mathlib.Omega.{arith}
use borrow.Author.Rules.{rules}
use borrow.Author.Tests.{not-true, not-false}
use Rattle.gateway.specs.Rest.{Mail}
use Rattle.gateway.specs.Entry.{Answer, nothing}
use Rattle.gateway.specs.Calls as C
use Rattle.gateway.specs.Calls.{Call, Outcome, refused, done}
use Rattle.protocol.specs.Codes.{logout_of}
use Rattle.store.specs.Layout.{cells}
use Rattle.store.specs.View as View
use Rattle.script.specs.Script.{message_of}
use Rattle.script.specs.Strict.{is_message}
use Rattle.mailbox.specs.Mailbox.{places}
use Rattle.le.proofs.Laws.{lt_or_le}
use Rattle.outcome.specs.Answers.{Ends, Unsent, Said}
use Rattle.numbers.specs.Numbers as P
use Rattle.numbers.specs.declared.Reply.{Reply}
use Rattle.numbers.specs.declared.Number.{Number}
use Rattle.numbers.specs.declared.Wallet.{Wallet}
use Rattle.numbers.specs.declared.Account.{Account}
use Rattle.stored.specs.Rows as R
use Rattle.edge.specs.Entering.{Lent, whole, asked, Enters, Gives, Lists, Writes}
use Rattle.playing.specs.Steps as S
use Rattle.playing.specs.Steps.{Form, form_of, code_of, count_of, filled, told, Step, Lone}

-- ---- what an outcome ends in

-- the code
code_is : (o : Outcome) (kept : Type 0) (tells : Answer → List Mail → Type 0) (code : ℕ) (xs ys : List ℕ) → Ends o kept tells code xs ys → code ≡ code_of o
unfolding Ends
code_is (refused k) kept tells code xs ys h = h.code_is
code_is (done a is ms g) kept tells code xs ys h = h.code_is

-- the state alone
ends : (o : Outcome) (kept : Type 0) (tells : Answer → List Mail → Type 0) (code : ℕ) (xs ys : List ℕ) → Ends o kept tells code xs ys → Ends o (Unit {0}) (λ a ms. Unit {0}) (code_of o) xs ys
unfolding Ends
ends (refused k) kept tells code xs ys h = record { code_is = refl; state_kept = h.state_kept; rest_kept = tt }
ends (done a is ms g) kept tells code xs ys h = record { code_is = refl; becomes = h.becomes; tells = tt }

module _ (f : Form) (n : ℕ) (code : ℕ) (xs ys out end : List ℕ) where
  -- the count and what was lent, of an answer in what was lent
  given : (o : Outcome) (tells : Answer → List Mail → Type 0) → ((a : Answer) (ms : List Mail) → tells a ms → (n ≡ S.count_by f a ms) × (end ≡ S.filled_by f a ms out))
      → Ends o (Unsent n out end) tells code xs ys → (n ≡ count_of f o) × (end ≡ filled f o out)
  unfolding Ends
  given (refused k) tells g h = (h.rest_kept.1, h.rest_kept.0)
  given (done a is ms g') tells g h = g a ms h.tells

-- an answer in the row leaves what was lent
data InRow : Form → Type 0 where
  a_code : InRow S.code
  a_number : InRow S.number
  a_wallet : InRow S.wallet
  an_account : InRow S.account

kept : (f : Form) → InRow f → (o : Outcome) (out : List ℕ) → out ≡ filled f o out
kept f i (refused k) out = refl
kept S.code a_code (done a is ms g) out = refl
kept S.number a_number (done a is ms g) out = refl
kept S.wallet a_wallet (done a is ms g) out = refl
kept S.account an_account (done a is ms g) out = refl
kept S.mail i (done a is ms g) out = elim i [ ]
kept (S.rows w) i (done a is ms g) out = elim i [ ]
kept S.bytes i (done a is ms g) out = elim i [ ]

-- ---- a step

module _ (ok : Bool) (x : Call) (xs ys got end : List ℕ) where
  lands : (kept : Type 0) (tells : Answer → List Mail → Type 0) (code : ℕ) → Enters (asked ok xs x) kept tells code xs ys
      → Enters (asked ok xs x) (Unit {0}) (λ a ms. Unit {0}) (code_of (asked ok xs x)) xs ys
  lands kept tells code h = record { ends = ends (asked ok xs x) kept tells code xs ys h.ends; lent = h.lent }

  -- an answer in the row
  in_row : (f : Form) → InRow f → (kept : Type 0) (tells : Answer → List Mail → Type 0) (code : ℕ) → form_of x ≡ f → Enters (asked ok xs x) kept tells code xs ys → end ≡ told f (asked ok xs x) got → Lone ok x xs ys got end
  in_row f i kept' tells code is h e out = record { lands = lands kept' tells code h; tells = rw is e; fills = rw is (kept f i (asked ok xs x) out) }

  -- an answer in what was lent
  counted : (f : Form) → ((o : Outcome) → told f o got ≡ R.replied got (code_of o) (count_of f o)) → (kept : Type 0) (tells : Answer → List Mail → Type 0) (n code : ℕ) (out out' : List ℕ)
      → form_of x ≡ f → Enters (asked ok xs x) kept tells code xs ys → (n ≡ count_of f (asked ok xs x)) × (out' ≡ filled f (asked ok xs x) out) → end ≡ R.replied got code n → Step ok x xs ys got end out out'
  counted f t kept tells n code out out' is h c e =
      record {
        lands = lands kept tells code h;
        tells = rw is (e ∙ ap₂ (R.replied got) (code_is (asked ok xs x) kept tells code xs ys h.ends) c.0 ∙ sym (t (asked ok xs x)));
        fills = rw is c.1;
      }

  pub says_step : (code : ℕ) → form_of x ≡ S.code → Enters (asked ok xs x) (Unit {0}) (Said nothing) code xs ys → end ≡ R.put_at got 2 code → Lone ok x xs ys got end
  unfolding told
  says_step code is h e = in_row S.code a_code _ _ code is h (e ∙ ap (R.put_at got 2) (code_is (asked ok xs x) _ _ code xs ys h.ends))

  pub number_step : (n : Number) → form_of x ≡ S.number → Enters (asked ok xs x) (Unit {0}) (λ a ms. ms ≡ []) n.code xs ys × (n ≡ P.number_of (asked ok xs x)) → end ≡ S.number_told n got → Lone ok x xs ys got end
  unfolding told
  number_step n is h e = in_row S.number a_number _ _ n.code is h.0 (e ∙ ap (λ (z : Number). S.number_told z got) h.1)

  pub wallet_step : (w : Wallet) → form_of x ≡ S.wallet → Enters (asked ok xs x) (Unit {0}) (λ a ms. ms ≡ []) w.code xs ys × (w ≡ P.wallet_of (asked ok xs x)) → end ≡ S.wallet_told w got → Lone ok x xs ys got end
  unfolding told
  wallet_step w is h e = in_row S.wallet a_wallet _ _ w.code is h.0 (e ∙ ap (λ (z : Wallet). S.wallet_told z got) h.1)

  pub account_step : (a : Account) → form_of x ≡ S.account → Enters (asked ok xs x) (Unit {0}) (λ a ms. ms ≡ []) a.code xs ys × (a ≡ P.account_of (asked ok xs x)) → end ≡ S.account_told a got → Lone ok x xs ys got end
  unfolding told
  account_step a is h e = in_row S.account an_account _ _ a.code is h.0 (e ∙ ap (λ (z : Account). S.account_told z got) h.1)

  module _ (r : Reply) (out out' : List ℕ) where
    pub gives_step : form_of x ≡ S.mail → Gives (asked ok xs x) r xs ys out out' → end ≡ R.replied got r.code r.count → Step ok x xs ys got end out out'
    unfolding told
    gives_step is h = counted S.mail (λ o. refl) _ _ r.count r.code out out' is h (given S.mail r.count r.code xs ys out out' (asked ok xs x) _ (λ a ms s. (s.count_is, s.posted)) h.ends)

    pub lists_step : (w : ℕ) → form_of x ≡ S.rows w → Lists w (asked ok xs x) r xs ys out out' → end ≡ R.replied got r.code r.count → Step ok x xs ys got end out out'
    unfolding told
    lists_step w is h = counted (S.rows w) (λ o. refl) _ _ r.count r.code out out' is h (given (S.rows w) r.count r.code xs ys out out' (asked ok xs x) _ (λ a ms s. (s.count_is, s.listed)) h.ends)

    pub writes_step : form_of x ≡ S.bytes → Writes (asked ok xs x) r xs ys out out' → end ≡ R.replied got r.code r.count → Step ok x xs ys got end out out'
    unfolding told
    writes_step is h = counted S.bytes (λ o. refl) _ _ r.count r.code out out' is h (given S.bytes r.count r.code xs ys out out' (asked ok xs x) _ (λ a ms s. (s.count_is, s.written)) h.ends)

-- a message in a row of its own
pub receives : (row v xs ys got end out out' : List ℕ) (s t : ℕ) (r : Reply) → v ≡ R.tail_of row 6 → s ≡ R.word_at row 4 → t ≡ R.word_at row 5
    → Gives (asked (is_message v) xs (C.receive_from s (message_of v) t (places (length out)))) r xs ys out out' → end ≡ R.replied got r.code r.count
    → Step (is_message (R.tail_of row 6)) (C.receive_from (R.word_at row 4) (message_of (R.tail_of row 6)) (R.word_at row 5) (places (length out))) xs ys got end out out'
receives row v xs ys got end out out' s t r e f g h = rw (← e, ← f, ← g) (gives_step _ _ xs ys got end r out out' refl h)

-- a row that is no call
module _ (x : Call) (xs got end : List ℕ) where
  none_asked : asked false xs x ≡ refused 11
  unfolding asked whole
  none_asked = rw (and-false (eqb (length xs) (8 * cells))) refl

  pub malformed_step : form_of x ≡ S.code → Lent xs → end ≡ R.put_at got 2 11 → Lone false x xs xs got end
  unfolding Ends
  malformed_step is l e =
      says_step false x xs xs got end 11 is
      (record {
        ends = subst (λ (o : Outcome). Ends o (Unit {0}) (Said nothing) 11 xs xs) (sym none_asked) (record { code_is = refl; state_kept = refl; rest_kept = tt });
        lent = l;
      })
      e

-- ---- the call of a row, by its number

module _ (row : List ℕ) (k : ℕ) (e : k ≡ R.word_at row 0) where
  pub took : (given xs ys got end out out' : List ℕ) (j : ℕ) → k ≡ j → S.is_call j ≡ true → Step (S.formed_by j row given) (S.asks_by j row given (length out)) xs ys got end out out' → S.Takes row given xs ys got end out out'
  unfolding S.asks S.formed
  took given xs ys got end out out' j i c h = rw (← e, i, c) h

  module _ (xs ys got end out : List ℕ) where
    pub takes_connect : (s t : ℕ) → k ≡ 2 → s ≡ R.word_at row 4 → t ≡ R.word_at row 5 → Lone true (C.connect s t) xs ys got end → S.TakesAlone row xs ys got end out out
    takes_connect s t i f g h given = took given xs ys got end out out 2 i refl (rw (← f, ← g) (h out))

    pub takes_collar : (n p : ℕ) → k ≡ 3 → n ≡ R.word_at row 4 → p ≡ R.small_at row 5 → Lone (leb n 1) (C.set_paper_collar (View.maybe n p)) xs ys got end → S.TakesAlone row xs ys got end out out
    takes_collar n p i f g h given = took given xs ys got end out out 3 i refl (rw (← f, ← g) (h out))

    pub takes_wallet : (a : ℕ) → k ≡ 4 → a ≡ R.small_at row 4 → Lone true (C.wallet a) xs ys got end → S.TakesAlone row xs ys got end out out
    takes_wallet a i f h given = took given xs ys got end out out 4 i refl (rw (← f) (h out))

    pub takes_last : k ≡ 5 → Lone true C.last_seq xs ys got end → S.TakesAlone row xs ys got end out out
    takes_last i h given = took given xs ys got end out out 5 i refl (h out)

  module _ (xs ys got end out out' : List ℕ) where
    pub takes_levels : (s : ℕ) → 2 ≤ R.word_at row 0 → R.word_at row 0 ≤ 6 → (k ≡ 2 → ⊥) → (k ≡ 3 → ⊥) → (k ≡ 4 → ⊥) → (k ≡ 5 → ⊥) → s ≡ R.word_at row 4
        → Step (leb s 1) (C.depth_levels (View.side s) (length out / 24)) xs ys got end out out' → S.TakesAlone row xs ys got end out out'
    takes_levels s a b n2 n3 n4 n5 f h given = took given xs ys got end out out' 6 (omega arith) refl (rw (← f) h)

    pub takes_receive : k ≡ 7 → Step (is_message (R.tail_of row 6)) (C.receive_from (R.word_at row 4) (message_of (R.tail_of row 6)) (R.word_at row 5) (places (length out))) xs ys got end out out' → S.TakesAlone row xs ys got end out out'
    takes_receive i h given = took given xs ys got end out out' 7 i refl h

    pub takes_tick : (t : ℕ) → k ≡ 8 → t ≡ R.word_at row 4 → Step true (C.tick t (places (length out))) xs ys got end out out' → S.TakesAlone row xs ys got end out out'
    takes_tick t i f h given = took given xs ys got end out out' 8 i refl (rw (← f) h)

    pub takes_publish : k ≡ 9 → Step true (C.publish (places (length out))) xs ys got end out out' → S.TakesAlone row xs ys got end out out'
    takes_publish i h given = took given xs ys got end out out' 9 i refl h

    pub takes_end : (s why : ℕ) → k ≡ 10 → s ≡ R.word_at row 4 → why ≡ R.code_at row 5 → Step (is_some (logout_of why)) (C.end_session s (P.reason_or (logout_of why)) (places (length out))) xs ys got end out out' → S.TakesAlone row xs ys got end out out'
    takes_end s why i f g h given = took given xs ys got end out out' 10 i refl (rw (← f, ← g) h)

    pub takes_shut_down : 7 ≤ R.word_at row 0 → R.word_at row 0 ≤ 11 → (k ≡ 7 → ⊥) → (k ≡ 8 → ⊥) → (k ≡ 9 → ⊥) → (k ≡ 10 → ⊥)
        → Step true (C.shut_down (places (length out))) xs ys got end out out' → S.TakesAlone row xs ys got end out out'
    takes_shut_down a b n7 n8 n9 n10 h given = took given xs ys got end out out' 11 (omega arith) refl h

-- ---- two gateways

pub pair_put : (v w i : ℕ) (a b : ℤ) (xs ys zs : List ℕ) → v ≡ word_of a → w ≡ word_of b → ys ≡ R.put_at xs i v → zs ≡ R.put_at ys (i + 1) w → zs ≡ S.pair_told a b i xs
pair_put v w i a b xs ys zs e f p q = q ∙ ap₂ (λ (y : List ℕ) (u : ℕ). R.put_at y (i + 1) u) (p ∙ ap (R.put_at xs i) e) f

-- a wallet's six words
pub wallet_put : (w : Wallet) (got ps qs rs ss : List ℕ) (x y x' y' : ℤ) → x ≡ w.cash → y ≡ w.position → x' ≡ w.cash_held → y' ≡ w.position_held
    → ps ≡ R.put_at got 2 w.code → qs ≡ R.put_at ps 5 w.there → rs ≡ S.pair_told x y 6 qs → ss ≡ S.pair_told x' y' 8 rs → ss ≡ S.wallet_told w got
wallet_put w got ps qs rs ss x y x' y' e f e' f' p q r t = rw (← e, ← f, ← e', ← f', ← p, ← q, ← r) t

-- what stands in the row after both calls
pub stands : (xs ys zs : List ℕ) (a : ℕ) → Lone true C.last_seq xs xs (replicate 128 0) ys → Lone true (C.wallet a) xs xs ys zs → zs ≡ S.standing xs a
unfolding S.standing
stands xs ys zs a h k = (k []).tells ∙ ap (S.shown (C.wallet a) xs) (h []).tells

-- the loop of `are_alike`
module _ (xs ss : List ℕ) where
  pub alike_none : S.Alike 0 xs ss
  alike_none = record { same = λ a h. absurd (none a h) }
    where
      none : (a : ℕ) → a < 0 → ⊥
      none a h = omega arith

  module _ (n : ℕ) (v w : List ℕ) (b : Bool) (e : v ≡ S.standing xs n) (f : w ≡ S.standing ss n) (t : R.Tells b (v ≡ w)) where
    pub alike_more : S.Alike n xs ss → b ≡ true → S.Alike (n + 1) xs ss
    alike_more h i = record { same = λ a l. ⊎_elim (λ m. h.same a m) (λ m. let q : a ≡ n = omega arith in rw q (sym e ∙ t.0 i ∙ f)) (lt_or_le a n) }

    pub alike_not : b ≡ false → n < 256 → R.Tells false (S.Alike 256 xs ss)
    alike_not i l = (λ z. absurd (false≢true z), λ h. sym i ∙ t.1 (e ∙ h.same n l ∙ sym f))

  pub alike_all : (n : ℕ) → 256 ≤ n → S.Alike n xs ss → R.Tells true (S.Alike 256 xs ss)
  alike_all n a h = (λ _. record { same = λ i l. h.same i (omega arith) }, λ _. refl)

pub ruleset laws = (rules, not-true, not-false, says_step, gives_step, lists_step, receives, takes_connect, takes_collar, takes_wallet, takes_last, takes_levels, takes_receive, takes_tick, takes_publish, takes_end, takes_shut_down, stands, alike_none, alike_more, alike_not, alike_all)
