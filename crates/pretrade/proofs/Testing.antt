-- The tests of a new order: each is the definitions' test. Assumes nothing.
use Rattle.std.specs.Prelude.{Option, Some, None, is_some}
use Rattle.std.specs.Option.{option_or}
use Rattle.std.specs.Bool.{then_some}
use mathlib.Core.Path.{◌≡◌, refl, sym, ap, ap₂, subst, ◌∙◌}
use mathlib.Core.Bool.{Bool, true, false, cond, not, ◌&&◌, false≢true}
use mathlib.Core.Logic.{⊎_elim}
use mathlib.Core.List.{List, [], ◌∷◌, ◌++◌, append-nil}
use Prim.Native.Nat.{ℕ, ◌+◌, ◌-◌, ◌≤◌, ◌<◌}
use native.Mathlib.Omega.{arith}
use borrow.Author.Tests.{eq-eqb, ne_eqb, lt-ltb, le-ltb, le-leb, lt-leb}
use mir.Syntax.{w64}
use mir.Val.{SFits, of_z}
use mir.ValLaws.{of_z_fits}
use lib.IntN.{ℤ, pos, ◌+ℤ◌, ◌-ℤ◌, +ℤ_idr}
use lib.Signed.{le_z}
use lib.ListN.{length, length-append}
use lib.Dec.{ltb, leb}
use Rattle.orderbook.specs.declared.Side.{Side}
use Rattle.orderbook.specs.declared.Side.TheVariants.{Buy, Sell}
use Rattle.protocol.specs.Codes.{side_code}
use Rattle.protocol.specs.declared.NewOrder.{NewOrder}
use Rattle.protocol.specs.declared.OrderKind.{OrderKind}
use Rattle.protocol.specs.declared.OrderKind.TheVariants as Kind
use Rattle.protocol.specs.declared.RejectCode.{RejectCode}
use Rattle.protocol.specs.declared.RejectCode.TheVariants.{TooManyOrders, Throttled, Unavailable, InsufficientFunds, NotAllowed, OffMarket}
use Rattle.accounts.specs.declared.Funds.{Funds}
use Rattle.le.proofs.Laws.{lt_or_le}
use Rattle.words.specs.Words.{int, modulus, amount}
use Rattle.words.proofs.Int.{int_zero, int_of}
use Rattle.wallet.specs.declared.Wallet.{Wallet}
use Rattle.wallet.specs.Wallet as W
use Rattle.risk.specs.Collar.{near, near_market}
use Rattle.gateway.specs.Basics.{option}
use Rattle.gateway.specs.Limits.{owner_slots, most_orders, most_notices}
use Rattle.gateway.specs.Ledger.{Order, Ledger, command, step, placed, order_of, owner_of, with_orders, wallet_of, hold, order_hold, held, fits, holds_fit, open_of}
use Rattle.gateway.specs.Core.{Tests, account_at, fits_after}
use Rattle.gateway.specs.Entry.{wallet_at, balance_with, most_open, next, is_zero, new_notice, price_of, command_of}
use Rattle.gateway.specs.Bytes.{price_flag, price_word}
use Rattle.gateway.specs.Fits.{Signed, KindFits}
use Rattle.gateway.specs.Calls.{Gateway}
use Rattle.store.specs.Cells as C
use Rattle.store.specs.Layout.{cell}
use Rattle.store.specs.View.{Store, word, flag, side, maybe_price, wallet, gateway}
use Rattle.store.proofs.Listed.{listed_length}
use Rattle.clients.specs.Clients as Clients
use Rattle.clients.proofs.Laws.{word_fits}
use Rattle.clients.proofs.Views.{wallet_at_row}
use Rattle.pending.specs.Pending.{MaybeFits}
use Rattle.pending.proofs.Commands.{side_back, price_back}
use Rattle.orders.specs.declared.Live.{Live}
use Rattle.orders.specs.Orders as Orders
use Rattle.sound.specs.Sound.{held_cell}
use Rattle.live.specs.Live.{hold_word, hold_notice}
use Rattle.live.proofs.Accounts.{hold_is, held_one}
use Rattle.live.proofs.Notices.{same_hold, other_hold, no_wallet, a_wallet}
use Rattle.live.proofs.Fits.{Swap, holds_swap, held_exact}
use Rattle.outcome.specs.Parts.{rest_of}
use Rattle.commands.specs.Commands.{can_number}
use Rattle.pretrade.specs.Pretrade.{first, Exists, other_tests, is_free, is_covered, limit_tests, paper, hold_fits, the_command, has_place, has_room, new_order_tests, Stands}
use Rattle.pretrade.proofs.Judging.{one_test, or_more}
use Rattle.pretrade.proofs.Existing.{there, slot, account_is}

-- ---- open orders

pub few_is : {a : ℕ} {xs : List ℕ} (h : Exists a xs) (o m : ℕ) → o ≡ cell xs C.accounts a C.account_open_orders → m ≡ cell xs C.accounts a C.account_max_open →
    ltb o m ≡ ltb (open_of a (gateway (cell xs)).core.ledger.orders) (most_open (account_at a (gateway (cell xs)).core))
few_is {a} h o m e f = ap₂ ltb (e ∙ h.between.state.sound.held.counts a (slot h)) (f ∙ sym (ap most_open (account_is h)))

-- ---- the collar

module _ (xs : List ℕ) (p c : ℕ) (c_is : c ≡ word (cell xs) C.collar) where
  pub near_free : c ≡ 0 → true ≡ near_market (int p) (rest_of xs).collar ((gateway (cell xs)).core.ledger.mark)
  near_free e = rw (← c_is, eq-eqb c 0 e) refl

  module _ (ne : c ≡ 0 → ⊥) (m : ℕ) (m_is : m ≡ word (cell xs) C.marked) where
    pub near_unmarked : m ≡ 0 → true ≡ near_market (int p) (rest_of xs).collar ((gateway (cell xs)).core.ledger.mark)
    near_unmarked e = rw (← c_is, ← m_is, ne_eqb c 0 ne, eq-eqb m 0 e) refl

    pub near_is : (k : ℕ) (r : Bool) → (m ≡ 0 → ⊥) → k ≡ word (cell xs) C.mark → r ≡ near (int p) (int k) (c - 1) → r ≡ near_market (int p) (rest_of xs).collar ((gateway (cell xs)).core.ledger.mark)
    near_is k r n k_is e = e ∙ rw (← c_is, ← m_is, ← k_is, ne_eqb c 0 ne, ne_eqb m 0 n) refl

-- ---- cover

pub signed : (p : ℤ) → SFits w64 p → Signed p
signed p f = word_fits (of_z w64 p) p (of_z_fits w64 p f).fits (int_of p f)

module _ {a : ℕ} {xs : List ℕ} (h : Exists a xs) (w_is : is_some (wallet_at a (gateway (cell xs)).core) ≡ true) where
  abbrev g : Gateway
  g = gateway (cell xs)

  abbrev its_funds : Funds
  its_funds = record { cash = int (cell xs C.accounts a C.account_cash); position = int (cell xs C.accounts a C.account_position) }

  -- its wallet
  pub wallet_is : wallet_at a g.core ≡ Some its_funds
  wallet_is =
      let e = wallet_at_row a (cell xs) (slot h) in
      e ∙ there (flag (cell xs C.accounts a C.account_funded)) its_funds (ap is_some (sym e) ∙ w_is)

  exact : (z : Side) → int (cell xs C.accounts a (held_cell z)) ≡ held g.core.ledger.fee a z g.core.ledger.orders
  exact = held_exact (cell xs) a h.between.state.sound.held h.between.ok.core_is.holds (slot h) w_is

  balance_is : W.balance_of (Clients.wallet_words (cell xs C.accounts a)) ≡ balance_with g.core.ledger.fee a g.core.ledger.orders its_funds
  balance_is = λ i. record { cash = its_funds.cash; position = its_funds.position; cash_held = exact Buy i; position_held = exact Sell i }

  pub free_is : (z : Side) (n : ℕ) (b : Bool) (w : Wallet) (r : Bool) → b ≡ le_z (pos 0) (int n) → b ≡ true → w ≡ Clients.wallet_words (cell xs C.accounts a) → r ≡ W.covers z (int n) (W.balance_of w) →
      r ≡ option false (is_free (int n) z a g.core) (wallet_at a g.core)
  free_is z n b w r s t e f =
      f ∙ ap (λ (x : Wallet). W.covers z (int n) (W.balance_of x)) e ∙ ap (W.covers z (int n)) balance_is
      ∙ sym (ap (option false (is_free (int n) z a g.core)) wallet_is ∙ ap (λ b. b && W.covers z (int n) (balance_with g.core.ledger.fee a g.core.ledger.orders its_funds)) (sym s ∙ t))

  pub not_free : (z : Side) (n : ℕ) (b : Bool) → b ≡ le_z (pos 0) (int n) → b ≡ false → false ≡ option false (is_free (int n) z a g.core) (wallet_at a g.core)
  not_free z n b s e =
      sym (ap (option false (is_free (int n) z a g.core)) wallet_is ∙ ap (λ b. b && W.covers z (int n) (balance_with g.core.ledger.fee a g.core.ledger.orders its_funds)) (sym s ∙ e))

  module _ (z : Side) (fee p q : ℕ) (fee_is : fee ≡ word (cell xs) C.fee) (m : Option ℕ) (m_at : amount m ≡ W.hold_of z (W.charged (int fee) z (int p)) q) where
    m_is : amount m ≡ W.hold_of z (W.charged g.core.ledger.fee z (int p)) q
    m_is = m_at ∙ ap (λ f. W.hold_of z (W.charged (int f) z (int p)) q) fee_is

    pub covered_is : (n : ℕ) (r : Bool) → m ≡ Some n → r ≡ option false (is_free (int n) z a g.core) (wallet_at a g.core) → r ≡ option false (is_covered z (int p) q a g.core) (wallet_at a g.core)
    covered_is n r e f =
        f ∙ ap (λ (o : Option ℤ). option false (λ w. option false (λ x. is_free x z a g.core w) o) (wallet_at a g.core)) (ap amount (sym e) ∙ m_is)

    pub covered_not : m ≡ None → false ≡ option false (is_covered z (int p) q a g.core) (wallet_at a g.core)
    covered_not e =
        sym (ap (option false (is_covered z (int p) q a g.core)) wallet_is ∙ ap (λ (o : Option ℤ). option false (λ x. is_free x z a g.core its_funds) o) (sym m_is ∙ ap amount e))

  -- ---- what a wallet's account is asked

  pub limit_paper : (z : Side) (q : ℕ) (kind : OrderKind) (p : ℤ) (w : ℕ) (t : _) (d : _) (v : Option RejectCode) → kind ≡ Kind.Limit p t d → int w ≡ p → v ≡ first (limit_tests z (int w) q a g) → v ≡ first (paper a z q kind g)
  limit_paper z q kind p w t d v e f h = h ∙ rw (f, wallet_is, e) refl

  pub market_paper : (z : Side) (q : ℕ) (kind : OrderKind) → kind ≡ Kind.Market → Some NotAllowed ≡ first (paper a z q kind g)
  market_paper z q kind e = rw (wallet_is, e) refl

  pub stop_paper : (z : Side) (q : ℕ) (kind : OrderKind) (t : ℤ) (l : _) → kind ≡ Kind.Stop t l → Some NotAllowed ≡ first (paper a z q kind g)
  stop_paper z q kind t l e = rw (wallet_is, e) refl

pub limit_is : (g : Gateway) (z : Side) (p : ℤ) (q a : ℕ) (n c : Bool) (x y v : Option RejectCode) → n ≡ near_market p g.rest.collar g.core.ledger.mark → x ≡ then_some (not n) OffMarket →
    c ≡ option false (is_covered z p q a g.core) (wallet_at a g.core) → y ≡ then_some (not c) InsufficientFunds → v ≡ option_or x y → v ≡ first (limit_tests z p q a g)
limit_is g z p q a n c x y v n_is x_is c_is y_is v_is =
    or_more x y v ((OffMarket, n) ∷ []) ((InsufficientFunds, c) ∷ []) (x_is ∙ one_test OffMarket n) (y_is ∙ one_test InsufficientFunds c) v_is
    ∙ ap₂ (λ i j. first ((OffMarket, i) ∷ (InsufficientFunds, j) ∷ [])) n_is c_is

module _ {a : ℕ} {xs : List ℕ} (h : Exists a xs) (f : Bool) (f_is : f ≡ is_some (wallet (cell xs C.accounts a))) where
  pub funded : is_some (wallet_at a (gateway (cell xs)).core) ≡ f
  funded = ap is_some (wallet_at_row a (cell xs) (slot h)) ∙ sym f_is

  pub kind_needs : f ≡ true → Exists a xs × (is_some (wallet_at a (gateway (cell xs)).core) ≡ true)
  kind_needs e = (h, funded ∙ e)

  nobody : (w : Option Funds) → is_some w ≡ false → w ≡ None
  nobody None e = refl
  nobody (Some x) e = absurd (false≢true (sym e))

  pub no_paper : (z : Side) (q : ℕ) (k : OrderKind) → f ≡ false → None ≡ first (paper a z q k (gateway (cell xs)))
  no_paper z q k e = rw (nobody (wallet_at a (gateway (cell xs)).core) (funded ∙ e)) refl

  -- ---- the total

  pub total_any : (z : Side) (n : ℕ) → f ≡ false → true ≡ hold_fits a z (int n) (gateway (cell xs))
  total_any z n e = rw (funded ∙ e) refl

  pub total_is : (z : Side) (n : ℕ) (r : Bool) → f ≡ true → r ≡ fits (int (cell xs C.accounts a (held_cell z)) -ℤ int 0 +ℤ int n) → r ≡ hold_fits a z (int n) (gateway (cell xs))
  total_is z n r e r_is =
      r_is ∙ ap₂ (λ x y. fits (x -ℤ y +ℤ int n)) (exact h (funded ∙ e) z) int_zero
      ∙ sym (ap (λ (c : Bool). cond c (fits (held (gateway (cell xs)).core.ledger.fee a z (gateway (cell xs)).core.ledger.orders -ℤ pos 0 +ℤ int n)) true) (funded ∙ e))

-- ---- the notice

below_is : (n : ℕ) → ltb n most_notices ≡ leb (1 + n) most_notices
below_is n =
    ⊎_elim (λ (l : n < most_notices). lt-ltb n most_notices l ∙ sym (le-leb (1 + n) most_notices (omega arith)))
    (λ l. le-ltb n most_notices l ∙ sym (lt-leb (1 + n) most_notices (omega arith))) (lt_or_le n most_notices)

module _ (s : Store) (a new n : ℕ) (n_is : n ≡ word s C.notice_rows) where
  abbrev Room : Bool → Type 0
  Room r = r ≡ leb (length (hold_notice a (int 0) (int new) s) + word s C.notice_rows) most_notices

  counted : (ns : List ℕ) (k : ℕ) → hold_notice a (int 0) (int new) s ≡ ns → k + n ≡ length ns + n → Room (leb (k + n) most_notices)
  counted ns k e h = ap (λ x. leb x most_notices) (h ∙ (λ i. length (sym e i) + n_is i))

  none_counted : hold_notice a (int 0) (int new) s ≡ [] → Room (leb n most_notices)
  none_counted e = ap (λ x. leb x most_notices) (let z : n ≡ 0 + n = omega arith in z) ∙ counted [] 0 e refl

  pub room_same : new ≡ 0 → Room (leb n most_notices)
  room_same e = none_counted (same_hold s a 0 new (sym e))

  module _ (f : new < modulus) (ne : new ≡ 0 → ⊥) (b : Bool) (b_is : b ≡ is_some (wallet (s C.accounts a))) where
    pub room_funded : b ≡ true → Room (ltb n most_notices)
    room_funded e = below_is n ∙ counted (a ∷ []) 1 (other_hold s a 0 new (omega arith) f (λ q. ne (sym q)) ∙ a_wallet s a b b_is e) refl

    pub room_unfunded : b ≡ false → Room (leb n most_notices)
    room_unfunded e = none_counted (other_hold s a 0 new (omega arith) f (λ q. ne (sym q)) ∙ no_wallet s a b b_is e)

-- ---- the words of the order

kind_fits : (k : OrderKind) → MaybeFits (price_of k) → KindFits k
kind_fits (Kind.Limit p t d) f = signed p f
kind_fits Kind.Market f = tt
kind_fits (Kind.Stop t None) f = tt
kind_fits (Kind.Stop t (Some p)) f = signed p f

-- an order is read back from its words
pub stored : (a ref v : ℕ) (y : Side) (p : Option ℤ) (z f w : ℕ) → z ≡ side_code y → f ≡ price_flag p → w ≡ price_word p → MaybeFits p → (n : ℕ) →
    Orders.order_of n (record { account = a; client_ref = ref; side = z; priced = f; price = w; leaves = v; hold = 0 })
    ≡ record { number = n; account = a; client_ref = ref; side = y; price = p; leaves = v }
stored a ref v y p z f w z_is f_is w_is m n i =
    record {
      number = n;
      account = a;
      client_ref = ref;
      side = (ap side z_is ∙ side_back y) i;
      price = (ap₂ maybe_price f_is w_is ∙ price_back p m) i;
      leaves = v;
    }

pub stands : (a : ℕ) (q : NewOrder) (p : Option ℤ) (z f w : ℕ) → p ≡ price_of q.kind → z ≡ side_code q.side → f ≡ price_flag p → w ≡ price_word p → MaybeFits p → q.client_ref < modulus → q.qty < modulus →
    Stands a q (record { account = a; client_ref = q.client_ref; side = z; priced = f; price = w; leaves = q.qty; hold = 0 })
stands a q p z f w p_is z_is f_is w_is m c d =
    record {
      is =
          λ n.
          stored a q.client_ref q.qty q.side p z f w z_is f_is w_is m n
          ∙ ap (λ (x : Option ℤ). record { number = n; account = a; client_ref = q.client_ref; side = q.side; price = x; leaves = q.qty }) p_is;
      fits = (c, (d, kind_fits q.kind (subst MaybeFits p_is m)));
    }

-- what the order holds
module _ {a : ℕ} {q : NewOrder} {o : Live} (w : Stands a q o) where
  pub account_stands : o.account ≡ a
  account_stands = ap (λ (x : Order). x.account) (w.is 0)

  pub hold_stands : (fee n : ℕ) → n ≡ hold_word fee o.side o.priced o.price o.leaves → int n ≡ hold (int fee) q.side (price_of q.kind) q.qty
  hold_stands fee n e =
      ap int e ∙ hold_is fee o.side o.priced o.price o.leaves ∙ ap (λ (x : Order). hold (int fee) x.side x.price x.leaves) (w.is 0)

  -- its notice, by the words
  pub notice_stands : (s : Store) (n : ℕ) → a < owner_slots → n ≡ hold_word (word s C.fee) o.side o.priced o.price o.leaves → new_notice (gateway s).core.ledger.fee a q (wallet_at a (gateway s).core) ≡ hold_notice a (int 0) (int n) s
  notice_stands s n l e =
      ap (new_notice (gateway s).core.ledger.fee a q) (wallet_at_row a s l) ∙ go (wallet (s C.accounts a)) (cond (is_zero (hold (gateway s).core.ledger.fee q.side (price_of q.kind) q.qty)) [] (a ∷ []))
      ∙ ap (λ x. cond (is_some (wallet (s C.accounts a))) (cond (is_zero x) [] (a ∷ [])) [])
      (sym (ap (λ z. int n -ℤ z) int_zero ∙ +ℤ_idr (int n) ∙ hold_stands (word s C.fee) n e))
    where
      go : (x : Option Funds) (ns : List ℕ) → option [] (λ f. ns) x ≡ cond (is_some x) ns []
      go None ns = refl
      go (Some y) ns = refl

-- ---- the hold

abbrev pub the_order : (q : NewOrder) (ref n a : ℕ) → Order
the_order q ref n a = record { number = n; account = a; client_ref = ref; side = q.side; price = price_of q.kind; leaves = q.qty }

pub owner_is : (n a : ℕ) (z : Side) (q : ℕ) (k : OrderKind) → owner_of (command_of n a z q k) ≡ a
unfolding owner_of
owner_is n a z q (Kind.Limit p t d) = refl
owner_is n a z q Kind.Market = refl
owner_is n a z q (Kind.Stop t l) = refl

pub order_is : (n a : ℕ) (z : Side) (q : ℕ) (k : OrderKind) → order_of (command_of n a z q k) ≡ Some (record { side = z; price = price_of k; qty = q })
unfolding order_of
order_is n a z q (Kind.Limit p t d) = refl
order_is n a z q Kind.Market = refl
order_is n a z q (Kind.Stop t l) = refl

pub placed_is : (q : NewOrder) (ref n a : ℕ) → placed ref n (owner_of (command_of n a q.side q.qty q.kind)) (order_of (command_of n a q.side q.qty q.kind)) ≡ the_order q ref n a ∷ []
placed_is q ref n a = ap₂ (placed ref n) (owner_is n a q.side q.qty q.kind) (order_is n a q.side q.qty q.kind)

-- code 7 for any order that comes: the one total that it joins
pub more_fits : (l : Ledger) (o : Order) → holds_fit l ≡ true →
    holds_fit (with_orders (l.orders ++ (o ∷ [])) l) ≡ cond (is_some (wallet_of l.wallets o)) (fits (held l.fee o.account o.side l.orders -ℤ pos 0 +ℤ order_hold l.fee o)) true
more_fits l o fine =
    holds_swap l swapped fine
    ∙ ap (λ x. cond (is_some (wallet_of l.wallets o)) (fits (held l.fee o.account o.side l.orders -ℤ pos 0 +ℤ x)) true) (held_one l.fee o)
  where
    swapped : Swap o.account o.side [] (o ∷ []) l.orders (l.orders ++ (o ∷ []))
    swapped = record { low = l.orders; high = []; from = sym (append-nil l.orders); to = refl; old_mine = tt; new_mine = ((refl, refl), tt) }

module _ (a : ℕ) (q : NewOrder) (g : Gateway) (fine : holds_fit g.core.ledger ≡ true) where
  abbrev l : Ledger
  l = g.core.ledger

  abbrev more : List Order
  more = l.orders ++ (the_order q 0 (next g.core) a ∷ [])

  step_is : fits_after (command (next g.core) (the_command a q g.core)) g.core ≡ holds_fit (with_orders more l)
  unfolding step holds_fit
  step_is = rw (placed_is q 0 (next g.core) a) refl

  pub fits_is : hold_fits a q.side (hold g.core.ledger.fee q.side (price_of q.kind) q.qty) g ≡ fits_after (command (next g.core) (the_command a q g.core)) g.core
  fits_is = sym (step_is ∙ more_fits l (the_order q 0 (next g.core) a) fine)

-- ---- room for all of it

module _ {a : ℕ} {xs : List ℕ} {q : NewOrder} {o : Live} (h : Exists a xs) (w : Stands a q o) where
  abbrev gw : Gateway
  gw = gateway (cell xs)

  orders_are : word (cell xs) C.live_orders ≡ length gw.core.ledger.orders
  orders_are = h.between.state.sound.tables.ordered.counted.live_count

  module _ (fee n v : ℕ) (fee_is : fee ≡ word (cell xs) C.fee) (n_at : n ≡ hold_word fee o.side o.priced o.price o.leaves) (v_is : v ≡ word (cell xs) C.live_orders) where
    n_is : n ≡ hold_word (word (cell xs) C.fee) o.side o.priced o.price o.leaves
    n_is = n_at ∙ ap (λ f. hold_word f o.side o.priced o.price o.leaves) fee_is

    notice_is : leb (length (hold_notice a (int 0) (int n) (cell xs)) + word (cell xs) C.notice_rows) most_notices ≡ leb (length (gw.rest.notices ++ new_notice gw.core.ledger.fee a q (wallet_at a gw.core))) most_notices
    notice_is =
        let e = ap length (notice_stands w (cell xs) n (slot h) n_is) in
        let d : length (hold_notice a (int 0) (int n) (cell xs)) + word (cell xs) C.notice_rows ≡ length (gw.rest.notices ++ new_notice gw.core.ledger.fee a q (wallet_at a gw.core)) =
        omega (arith, e, length-append gw.rest.notices (new_notice gw.core.ledger.fee a q (wallet_at a gw.core)), listed_length (λ i. cell xs C.notices i C.notice_account) (word (cell xs) C.notice_rows)) in
        ap (λ x. leb x most_notices) d

    pub no_place : most_orders ≤ v → false ≡ has_place a q gw
    no_place l = rw (← orders_are, ← v_is, le-ltb v most_orders l) refl

    module _ (l : v < most_orders) (b : Bool) (b_is : b ≡ leb (length (hold_notice a (int 0) (int n) (cell xs)) + word (cell xs) C.notice_rows) most_notices) where
      pub no_notice : b ≡ false → false ≡ has_place a q gw
      no_notice e = rw (← orders_are, ← v_is, lt-ltb v most_orders l, ← notice_is, ← b_is, e) refl

      pub place_is : (r : Bool) → b ≡ true → r ≡ hold_fits a q.side (int n) gw → r ≡ has_place a q gw
      place_is r e f =
          f ∙ ap (λ x. hold_fits a q.side x gw) (hold_stands w (word (cell xs) C.fee) n n_is) ∙ fits_is a q gw h.between.ok.core_is.holds
          ∙ sym (rw (← orders_are, ← v_is, lt-ltb v most_orders l, ← notice_is, ← b_is, e) refl)

-- ---- all tests

pub new_is : (g : Gateway) (a : ℕ) (q : NewOrder) (passed f r : Bool) (t m x y u v w : Option RejectCode) → t ≡ then_some (not passed) Throttled →
    f ≡ ltb (open_of a g.core.ledger.orders) (most_open (account_at a g.core)) → m ≡ then_some (not f) TooManyOrders → x ≡ first (paper a q.side q.qty q.kind g) →
    r ≡ has_room a q g → y ≡ then_some (not r) Unavailable → u ≡ option_or t m → v ≡ option_or u x → w ≡ option_or v y → w ≡ first (new_order_tests a q passed g)
new_is g a q passed f r t m x y u v w t_is f_is m_is x_is r_is y_is u_is v_is w_is =
    or_more v y w ((Throttled, passed) ∷ (TooManyOrders, f) ∷ ts) ((Unavailable, r) ∷ [])
    (or_more u x v ((Throttled, passed) ∷ (TooManyOrders, f) ∷ []) ts
    (or_more t m u ((Throttled, passed) ∷ []) ((TooManyOrders, f) ∷ []) (t_is ∙ one_test Throttled passed) (m_is ∙ one_test TooManyOrders f) u_is) x_is v_is)
    (y_is ∙ one_test Unavailable r) w_is
    ∙ ap₂ (λ i j. first ((Throttled, passed) ∷ (TooManyOrders, i) ∷ (ts ++ ((Unavailable, j) ∷ [])))) f_is r_is
  where
    ts : Tests RejectCode
    ts = paper a q.side q.qty q.kind g

-- ---- a command that places nothing

pub other_is : (g : Gateway) (passed allowed can : Bool) (t n y u v : Option RejectCode) → t ≡ then_some (not passed) Throttled → n ≡ then_some (not allowed) NotAllowed →
    can ≡ can_number g → y ≡ then_some (not can) Unavailable → u ≡ option_or t n → v ≡ option_or u y → v ≡ first (other_tests passed allowed g)
other_is g passed allowed can t n y u v t_is n_is e y_is u_is v_is =
    or_more u y v ((Throttled, passed) ∷ (NotAllowed, allowed) ∷ []) ((Unavailable, can) ∷ [])
    (or_more t n u ((Throttled, passed) ∷ []) ((NotAllowed, allowed) ∷ []) (t_is ∙ one_test Throttled passed) (n_is ∙ one_test NotAllowed allowed) u_is)
    (y_is ∙ one_test Unavailable can) v_is
    ∙ ap (λ b. first ((Throttled, passed) ∷ (NotAllowed, allowed) ∷ (Unavailable, b) ∷ [])) e

pub ruleset testing = (other_is, few_is, near_free, near_unmarked, near_is, covered_is, covered_not, limit_is, no_paper, total_any, total_is, room_same, room_funded, room_unfunded, new_is, arith)
