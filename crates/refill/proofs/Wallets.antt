-- The wallets of the bytes, taken one by one, are the definitions' restored wallets. Assumes nothing.
use Rattle.std.specs.Prelude.{Option, Some, None, is_some}
use Prim.Native.Nat.{ℕ, zero, suc, ◌+◌, ◌≤◌, ◌<◌}
use mathlib.Core.Path.{◌≡◌, refl, sym, ap, subst, ◌∙◌}
use mathlib.Core.Bool.{Bool, true, false, cond, false≢true, true≢false}
use mathlib.Core.Logic.{⊎_elim}
use mathlib.Core.List.{List, [], ◌∷◌, ◌++◌}
use native.Mathlib.Nat.{not-suc-le-zero}
use native.Mathlib.Numerals.{add-one}
use native.Mathlib.Omega.{arith}
use borrow.Author.Tests.{eq-eqb, ne_eqb}
use lib.Dec.{eqb}
use lib.ListN.{length, get_or, set, take, length-set}
use lib.Seq.{ext_get_or, get_or-set_same, get_or-set_other, take-suc, take_all}
use Rattle.accounts.specs.declared.Funds.{Funds}
use Rattle.words.specs.Words.{int}
use Rattle.table.proofs.Live.{same?}
use Rattle.table.specs.Live.{Each}
use Rattle.gateway.specs.Limits.{owner_slots}
use Rattle.gateway.specs.Table.{Rises}
use Rattle.gateway.specs.Saved.{slots}
use Rattle.gateway.specs.Start.{restored_wallet, restored_wallets}
use Rattle.gateway.specs.Calls.{Gateway}
use Rattle.gateway.proofs.Base.{split}
use Rattle.store.specs.Cells as C
use Rattle.store.specs.Layout.{cell}
use Rattle.store.specs.View.{Row, wallet, flag, gateway, Is}
use Rattle.store.proofs.Listed.{listed_at, listed_set}
use Rattle.clients.specs.Clients as Clients
use Rattle.clients.proofs.Views.{money_view}
use Rattle.sound.specs.Sound.{State, Becomes}
use Rattle.sound.proofs.Clients.{money_sound}
use Rattle.sound.proofs.Kept.{becomes}
use Rattle.live.specs.Live.{with_ledger}
use Rattle.saved.specs.declared.Purse.{Purse}
use Rattle.saved.specs.Contents.{wallet_of, no_wallet, saved_of, wallet_at}
use Rattle.refill.specs.Refill.{with_wallets, owned, all_owned, own, own_all}

-- ---- the wallet of an account among those of the bytes

abbrev Rising : ℕ → List (ℕ × Funds) → Type 0
Rising k l = Rises (λ (w : ℕ × Funds). w.0) k l

find_wallet : ℕ → List (ℕ × Funds) → Option Funds
find_wallet a [] = None
find_wallet a (w ∷ l) = cond (eqb w.0 a) (Some w.1) (find_wallet a l)

find_below : (a k : ℕ) (l : List (ℕ × Funds)) → a < k → Rising k l → find_wallet a l ≡ None
unfolding find_wallet
find_below a k [] h r = refl
find_below a k (w ∷ l) h r = rw (ne_eqb w.0 a (λ e. omega (arith, r.0, e))) (find_below a (suc w.0) l (omega (arith, r.0)) r.1)

slots_at : (n a : ℕ) (l : List (ℕ × Funds)) (i : ℕ) → Rising a l → i < n → get_or (slots n a l) i None ≡ find_wallet (a + i) l
unfolding find_wallet
slots_at zero a l i r h = absurd (not-suc-le-zero h)
slots_at (suc n) a [] zero r h = refl
slots_at (suc n) a [] (suc i) r h = slots_at n (suc a) [] i tt (omega arith)
slots_at (suc n) a (x ∷ l) i r h =
    ⊎_elim
    (λ (e : x.0 ≡ a). rw (eq-eqb x.0 a e) (here e (λ j k. slots_at n (suc a) l j (subst (λ k. Rising (suc k) l) e r.1) k) i h))
    (λ d. let u : suc a ≤ x.0 = omega (arith, r.0, d) in rw (ne_eqb x.0 a d) (there u (λ j k. slots_at n (suc a) (x ∷ l) j (u, r.1) k) i h))
    (same? x.0 a)
  where
    here : x.0 ≡ a → ((j : ℕ) → j < n → get_or (slots n (suc a) l) j None ≡ find_wallet (suc a + j) l) →
        (i : ℕ) → i < suc n → get_or (Some x.1 ∷ slots n (suc a) l) i None ≡ find_wallet (a + i) (x ∷ l)
    here e more zero h = rw (eq-eqb x.0 (a + 0) (omega (arith, e))) refl
    here e more (suc i) h =
        let q : suc a + i ≡ a + suc i = omega arith in
        more i (omega arith) ∙ ap (λ k. find_wallet k l) q ∙ sym (rw (ne_eqb x.0 (a + suc i) (λ f. omega (arith, e, f))) refl)

    there : suc a ≤ x.0 → ((j : ℕ) → j < n → get_or (slots n (suc a) (x ∷ l)) j None ≡ find_wallet (suc a + j) (x ∷ l)) →
        (i : ℕ) → i < suc n → get_or (None ∷ slots n (suc a) (x ∷ l)) i None ≡ find_wallet (a + i) (x ∷ l)
    there u more zero h = sym (find_below (a + 0) (suc a) (x ∷ l) (omega arith) (u, r.1))
    there u more (suc i) h = let q : suc a + i ≡ a + suc i = omega arith in more i (omega arith) ∙ ap (λ k. find_wallet k (x ∷ l)) q

-- ---- one by one

restored_none : (x : Option Funds) → restored_wallet x None ≡ x
restored_none None = refl
restored_none (Some f) = refl

all_owned_at : (l : List (ℕ × Funds)) (ws : List (Option Funds)) (k i : ℕ) → Rising k l → i < length ws → get_or (all_owned l ws) i None ≡ restored_wallet (get_or ws i None) (find_wallet i l)
unfolding find_wallet
all_owned_at [] ws k i r h = sym (restored_none (get_or ws i None))
all_owned_at (w ∷ l) ws k i r h =
    all_owned_at l (owned w ws) (suc w.0) i r.1 (rw (length-set ws w.0 (restored_wallet (get_or ws w.0 None) (Some w.1))) h)
    ∙ ⊎_elim
    (λ (e : i ≡ w.0).
    let f : find_wallet i l ≡ None = find_below i (suc w.0) l (omega (arith, e)) r.1 in
    let s : get_or (owned w ws) i None ≡ restored_wallet (get_or ws i None) (Some w.1) =
    subst (λ j. get_or (set ws j (restored_wallet (get_or ws j None) (Some w.1))) i None ≡ restored_wallet (get_or ws i None) (Some w.1)) e
    (get_or-set_same ws i (restored_wallet (get_or ws i None) (Some w.1)) None h) in
    ap (restored_wallet (get_or (owned w ws) i None)) f ∙ restored_none (get_or (owned w ws) i None) ∙ s ∙ sym (rw (eq-eqb w.0 i (sym e)) refl))
    (λ d.
    ap (λ x. restored_wallet x (find_wallet i l)) (get_or-set_other ws w.0 i (restored_wallet (get_or ws w.0 None) (Some w.1)) None d)
    ∙ sym (rw (ne_eqb w.0 i (λ e. d (sym e))) refl))
    (same? i w.0)

all_owned_length : (l : List (ℕ × Funds)) (ws : List (Option Funds)) → length (all_owned l ws) ≡ length ws
all_owned_length [] ws = refl
all_owned_length (w ∷ l) ws = all_owned_length l (owned w ws) ∙ length-set ws w.0 (restored_wallet (get_or ws w.0 None) (Some w.1))

restored_length : (fs ws : List (Option Funds)) → length (restored_wallets fs ws) ≡ length fs
restored_length [] ws = refl
restored_length (f ∷ fs) [] = ap suc (restored_length fs [])
restored_length (f ∷ fs) (w ∷ ws) = ap suc (restored_length fs ws)

restored_at : (fs ws : List (Option Funds)) (i : ℕ) → get_or (restored_wallets fs ws) i None ≡ restored_wallet (get_or fs i None) (get_or ws i None)
restored_at [] ws i = refl
restored_at (f ∷ fs) [] zero = sym (restored_none f)
restored_at (f ∷ fs) [] (suc i) = restored_at fs [] i
restored_at (f ∷ fs) (w ∷ ws) zero = refl
restored_at (f ∷ fs) (w ∷ ws) (suc i) = restored_at fs ws i

pub all_restored : (l : List (ℕ × Funds)) (ws : List (Option Funds)) → Rising 0 l → length ws ≡ owner_slots → all_owned l ws ≡ restored_wallets ws (slots owner_slots 0 l)
all_restored l ws r e =
    ext_get_or None (all_owned l ws) (restored_wallets ws (slots owner_slots 0 l)) (all_owned_length l ws ∙ sym (restored_length ws (slots owner_slots 0 l)))
    (λ i h.
    let k : i < length ws = omega (arith, h, all_owned_length l ws) in
    let z : 0 + i ≡ i = omega arith in
    all_owned_at l ws 0 i r k
    ∙ ap (restored_wallet (get_or ws i None)) (ap (λ j. find_wallet j l) (sym z) ∙ sym (slots_at owner_slots 0 l i r (omega (arith, k, e))))
    ∙ sym (restored_at ws (slots owner_slots 0 l) i))

-- ---- one wallet

-- a wallet is there where its flag is set
funded_is : (r : Row) → is_some (wallet r) ≡ flag (r C.account_funded)
funded_is r =
    let f : Funds = record { cash = int (r C.account_cash); position = int (r C.account_position) } in
    split (λ b. is_some (cond b (Some f) None) ≡ b) (flag (r C.account_funded)) (λ e. refl) (λ e. refl)

module _ (xs : List ℕ) (st : State xs) (w : Purse) (few : w.account < owner_slots) (b : Bool) (is : b ≡ is_some (wallet (cell xs C.accounts w.account))) where
  abbrev g : Gateway
  g = gateway (cell xs)

  abbrev ws : List (Option Funds)
  ws = g.core.ledger.wallets

  abbrev f : Funds
  f = (wallet_of w).1

  there : get_or ws w.account None ≡ wallet (cell xs C.accounts w.account)
  there = listed_at (λ i. wallet (cell xs C.accounts i)) owner_slots w.account None few

  pub own_there : {ys : List ℕ} → b ≡ true → Is ys (Clients.set_money w.account w.cash w.position (cell xs)) → Becomes ys (with_ledger (own (wallet_of w)) g)
  own_there t h =
      becomes h (money_sound (cell xs) st.sound w.account w.cash w.position)
      (money_view w.account w.cash w.position (cell xs) few (sym (funded_is (cell xs C.accounts w.account)) ∙ sym is ∙ t)
      ∙ ap (λ o. with_ledger (with_wallets (set ws w.account o)) g) (go (wallet (cell xs C.accounts w.account)) (sym is ∙ t) ∙ ap (λ o. restored_wallet o (Some f)) (sym there)))
    where
      go : (o : Option Funds) → is_some o ≡ true → Some f ≡ restored_wallet o (Some f)
      go None e = absurd (false≢true e)
      go (Some x) e = refl

  pub own_none : b ≡ false → Becomes xs (with_ledger (own (wallet_of w)) g)
  own_none t =
      record {
        state = st;
        gateway_is = ap (λ l. with_ledger (with_wallets l) g)
            (listed_set (λ i. wallet (cell xs C.accounts i)) (λ i. wallet (cell xs C.accounts i)) owner_slots w.account None few none_there (λ j m n. refl)
            ∙ ap (λ o. set ws w.account (restored_wallet o (Some f))) (sym (there ∙ none_there)));
      }
    where
      go : (o : Option Funds) → is_some o ≡ false → o ≡ None
      go None e = refl
      go (Some x) e = absurd (true≢false e)

      none_there : wallet (cell xs C.accounts w.account) ≡ None
      none_there = go (wallet (cell xs C.accounts w.account)) (sym is ∙ t)

-- ---- all of them

pub each_at : {A : Type 0} (P : A → Type 0) (l : List A) (j : ℕ) (d : A) → Each P l → j < length l → P (get_or l j d)
each_at P [] j d e h = absurd (not-suc-le-zero h)
each_at P (x ∷ l) zero d e h = e.0
each_at P (x ∷ l) (suc j) d e h = each_at P l j d e.1 (omega arith)

all_more : (l : List (ℕ × Funds)) (w : ℕ × Funds) (ws : List (Option Funds)) → all_owned (l ++ (w ∷ [])) ws ≡ owned w (all_owned l ws)
all_more [] w ws = refl
all_more (x ∷ l) w ws = all_more l w (owned x ws)

module _ (bytes : List ℕ) where
  abbrev l : List (ℕ × Funds)
  l = (saved_of bytes).wallets

  -- the first j
  abbrev pub Owned : ℕ → List ℕ → List ℕ → Type 0
  Owned j xs ys = Becomes ys (with_ledger (own_all (take j l)) (gateway (cell xs)))

  pub more_owned : (xs ys zs : List ℕ) (j : ℕ) → j < length l → Owned j xs ys → Becomes zs (with_ledger (own (wallet_at bytes j)) (gateway (cell ys))) → Owned (j + 1) xs zs
  more_owned xs ys zs j h a b =
      record {
        state = b.state;
        gateway_is =
            b.gateway_is ∙ ap (with_ledger (own (wallet_at bytes j))) a.gateway_is
            ∙ ap (λ k. with_ledger (with_wallets k) (gateway (cell xs)))
            (sym (all_more (take j l) (wallet_at bytes j) (gateway (cell xs)).core.ledger.wallets) ∙ ap (λ k. all_owned k (gateway (cell xs)).core.ledger.wallets) (sym (take-suc l j no_wallet h) ∙ ap (λ k. take k l) (sym (add-one j))));
      }

  pub all_there : (xs ys : List ℕ) (j : ℕ) → length l ≤ j → Owned j xs ys → Becomes ys (with_ledger (own_all l) (gateway (cell xs)))
  all_there xs ys j h a = subst (λ k. Becomes ys (with_ledger (own_all k) (gateway (cell xs)))) (take_all j l h) a
