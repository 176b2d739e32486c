-- The verdict on a list of tests, and on the orders one by one. Assumes nothing.
use Prim.Native.Nat.{ℕ, suc, ◌+◌, ◌≤◌, ◌<◌}
use mathlib.Core.Path.{◌≡◌, refl, sym, ap, ◌∙◌}
use mathlib.Core.Bool.{Bool, true, false, cond, ◌&&◌, and-eq-true_iff}
use mathlib.Core.List.{List, [], ◌∷◌}
use native.Mathlib.Numerals.{add-one}
use native.Mathlib.Omega.{arith}
use borrow.Author.Tests.{lt-ltb, le-ltb, ltb-true, leb-true}
use lib.Dec.{eqb, ltb, leb}
use lib.ListN.{length, drop}
use lib.Seq.{drop-cons, drop-length}
use Rattle.accounts.specs.declared.Funds.{Funds}
use Rattle.table.specs.Live.{Each}
use Rattle.gateway.specs.Limits.{owner_slots}
use Rattle.gateway.specs.Core.{Pass}
use Rattle.gateway.specs.Ledger.{Order}
use Rattle.gateway.specs.Invariant.{Inside}
use Rattle.gateway.specs.Saved.{Saved}
use Rattle.gateway.specs.Start.{wallets_below, order_tests}
use Rattle.outcome.specs.Answers.{verdict}
use Rattle.outcome.specs.declared.Refusal.{Refusal}
use Rattle.outcome.specs.Refusals.{refusal_code}
use Rattle.outcome.proofs.Calls.{codes, coded}
use Rattle.opening.proofs.Codes.{order_codes}
use Rattle.saved.specs.declared.Purse.{Purse}
use Rattle.saved.specs.Contents.{saved_of, wallet_of, wallet_at, no_wallet, order_at, no_order}
use Rattle.restore.specs.Judging.{code_at, entry_tests}

-- no code is 0
pub entry_codes : (limit : ℕ) (b : Bool) (s : Saved) → codes (entry_tests limit b s) ≡ true
entry_codes limit b s = order_codes limit s.last s.orders

-- ---- wallets

module _ (limit : ℕ) (bytes : List ℕ) where
  abbrev ws : List (ℕ × Funds)
  ws = (saved_of bytes).wallets

  -- those before j are below the limit
  abbrev pub Below : ℕ → Type 0
  Below j = wallets_below limit (drop j ws) ≡ wallets_below limit ws

  module _ (j : ℕ) (h : Below j) (l : j < length ws) (w : Purse) (is : wallet_of w ≡ wallet_at bytes j) where
    wallet_here : wallets_below limit (drop j ws) ≡ (ltb w.account limit && wallets_below limit (drop (suc j) ws))
    wallet_here =
        ap (wallets_below limit) (drop-cons ws j no_wallet l)
        ∙ ap (λ (x : ℕ × Funds). ltb x.0 limit && wallets_below limit (drop (suc j) ws)) (sym is)

    pub one_above : limit ≤ w.account → false ≡ wallets_below limit ws
    one_above k = sym (sym h ∙ wallet_here ∙ ap (λ b. b && wallets_below limit (drop (suc j) ws)) (le-ltb w.account limit k))

    pub one_below : w.account < limit → Below (j + 1)
    one_below k =
        ap (λ i. wallets_below limit (drop i ws)) (add-one j) ∙ sym (wallet_here ∙ ap (λ b. b && wallets_below limit (drop (suc j) ws)) (lt-ltb w.account limit k)) ∙ h

  pub all_below : (j : ℕ) → j ≡ length ws → Below j → true ≡ wallets_below limit ws
  all_below j e h = sym (ap (wallets_below limit) (ap (λ i. drop i ws) e ∙ drop-length ws)) ∙ h

pub owners_below : (limit : ℕ) → limit ≤ owner_slots → (ws : List (ℕ × Funds)) → wallets_below limit ws ≡ true → Each (λ (w : ℕ × Funds). w.0 < owner_slots) ws
owners_below limit few [] h = tt
owners_below limit few (w ∷ ws) h =
    let p = (and-eq-true_iff (ltb w.0 limit) (wallets_below limit ws)).0 h in
    (let q : w.0 < limit = ltb-true w.0 limit p.0 in omega arith, owners_below limit few ws p.1)

-- ---- orders

-- one order, and those behind it
order_more : (limit last : ℕ) (o : Order) (os : List Order) → verdict (order_tests limit last (o ∷ os)) ≡ cond (eqb (code_at limit last o) 0) (verdict (order_tests limit last os)) (code_at limit last o)
order_more limit last o os = go (leb o.number last) (ltb o.account limit)
  where
    v : ℕ
    v = verdict (order_tests limit last os)

    go : (a b : Bool) → cond a (cond b v 1) 2 ≡ cond (eqb (cond a (cond b 0 1) 2) 0) v (cond a (cond b 0 1) 2)
    go true true = refl
    go true false = refl
    go false b = refl

module _ (limit : ℕ) (bytes : List ℕ) (last : ℕ) (last_is : last ≡ (saved_of bytes).last) where
  abbrev os : List Order
  os = (saved_of bytes).orders

  abbrev judgement : List Order → ℕ
  judgement l = verdict (order_tests limit last l)

  -- those before j pass
  abbrev pub Passed : ℕ → Type 0
  Passed j = judgement (drop j os) ≡ judgement os

  whole : judgement os ≡ verdict (order_tests limit (saved_of bytes).last os)
  whole = ap (λ n. verdict (order_tests limit n os)) last_is

  module _ (j : ℕ) (h : Passed j) (l : j < length os) where
    order_here : (c : ℕ) → c ≡ code_at limit last (order_at bytes j) → judgement (drop j os) ≡ cond (eqb c 0) (judgement (drop (suc j) os)) c
    order_here c is =
        ap judgement (drop-cons os j no_order l) ∙ order_more limit last (order_at bytes j) (drop (suc j) os)
        ∙ ap (λ k. cond (eqb k 0) (judgement (drop (suc j) os)) k) (sym is)

    pub one_fails : (why : Refusal) → refusal_code why ≡ code_at limit last (order_at bytes j) → refusal_code why ≡ verdict (order_tests limit (saved_of bytes).last (saved_of bytes).orders)
    one_fails why is = sym (order_here (refusal_code why) is ∙ ap (λ b. cond b (judgement (drop (suc j) os)) (refusal_code why)) (coded why)) ∙ h ∙ whole

    pub one_passes : 0 ≡ code_at limit last (order_at bytes j) → Passed (j + 1)
    one_passes z = ap (λ i. judgement (drop i os)) (add-one j) ∙ sym (order_here 0 z) ∙ h

  pub all_passed : (j : ℕ) → j ≡ length os → Passed j → 0 ≡ verdict (order_tests limit (saved_of bytes).last (saved_of bytes).orders)
  all_passed j e h = sym (ap judgement (ap (λ i. drop i os) e ∙ drop-length os)) ∙ h ∙ whole

pub orders_inside : (limit last : ℕ) → limit ≤ owner_slots → (os : List Order) → Pass (order_tests limit last os) → Each (Inside last owner_slots) os
orders_inside limit last few [] p = tt
orders_inside limit last few (o ∷ os) p =
    ((leb-true o.number last p.0, (let q : o.account < limit = ltb-true o.account limit p.1.0 in omega arith)), orders_inside limit last few os p.1.1)
