-- A notice is pushed, or none: the list of notices grows as the definitions say, and the state stays sound. Assumes nothing.
use Rattle.std.specs.Prelude.{is_some}
use mathlib.Core.Path.{◌≡◌, refl, sym, ap, ◌∙◌}
use mathlib.Core.Logic.{⊎_elim}
use mathlib.Core.Bool.{Bool, true, false, cond, not, ◌&&◌, and-true}
use mathlib.Core.List.{List, [], ◌∷◌}
use Prim.Native.Nat.{ℕ, ◌+◌, ◌≤◌, ◌<◌}
use native.Mathlib.Omega.{arith}
use borrow.Author.Tests.{eq-eqb, ne_eqb}
use lib.Dec.{eqb}
use lib.ListN.{length}
use lib.IntN.{ℤ, pos, ◌+ℤ◌, ◌-ℤ◌, +ℤ_idl, +ℤ_invr, -ℤ-+ℤ_cancel}
use Rattle.words.specs.Words.{int, modulus}
use Rattle.words.proofs.Int.{int_injective}
use Rattle.table.proofs.Live.{same?}
use Rattle.gateway.specs.Limits.{most_notices}
use Rattle.gateway.specs.Entry.{is_zero}
use Rattle.gateway.proofs.Base.{split}
use Rattle.gateway.proofs.Counted.{same_is}
use Rattle.store.specs.Cells as C
use Rattle.store.specs.Layout.{cell}
use Rattle.store.specs.View.{Store, word, wallet, gateway, Is, Ready}
use Rattle.pending.specs.Pending as Pending
use Rattle.pending.proofs.Views.{notices_view}
use Rattle.sound.specs.Sound.{State, InPlace}
use Rattle.sound.proofs.Kept.{in_place}
use Rattle.sound.proofs.Waiting.{notices_sound}
use Rattle.live.specs.Live.{with_notices, notice_where, wallet_notice, hold_notice}

-- whether there is a wallet
pub no_wallet : (s : Store) (a : ℕ) (b : Bool) → b ≡ is_some (wallet (s C.accounts a)) → b ≡ false → wallet_notice a s ≡ []
no_wallet s a b e f = ap (λ c. cond c (a ∷ []) []) (sym e ∙ f)

pub a_wallet : (s : Store) (a : ℕ) (b : Bool) → b ≡ is_some (wallet (s C.accounts a)) → b ≡ true → wallet_notice a s ≡ a ∷ []
a_wallet s a b e f = ap (λ c. cond c (a ∷ []) []) (sym e ∙ f)

-- a hold that stays, and one that changes
abbrev nobody : List ℕ
nobody = []

pub stays : (old new : ℕ) → old ≡ new → is_zero (int new -ℤ int old) ≡ true
stays old new e = ap is_zero (ap (λ x. int new -ℤ int x) e ∙ +ℤ_invr (int new))

pub differs : (old new : ℕ) → old < modulus → new < modulus → (old ≡ new → ⊥) → is_zero (int new -ℤ int old) ≡ false
differs old new f g n =
    split (λ b. (is_zero (int new -ℤ int old) ≡ b) → b ≡ false) (is_zero (int new -ℤ int old))
    (λ _ e.
    let d = same_is (int new -ℤ int old) (pos 0) e in
    absurd (n (sym (int_injective new old g f (sym (-ℤ-+ℤ_cancel (int new) (int old)) ∙ ap (λ (x : ℤ). x +ℤ int old) d ∙ +ℤ_idl (int old))))))
    (λ _ e. refl) refl

pub same_hold : (s : Store) (a old new : ℕ) → old ≡ new → hold_notice a (int old) (int new) s ≡ []
same_hold s a old new e = rw (stays old new e) (split (λ b. cond b nobody nobody ≡ nobody) (is_some (wallet (s C.accounts a))) (λ e. refl) (λ e. refl))

pub other_hold : (s : Store) (a old new : ℕ) → old < modulus → new < modulus → (old ≡ new → ⊥) → hold_notice a (int old) (int new) s ≡ wallet_notice a s
other_hold s a old new f g n = rw (differs old new f g n) refl

module _ (xs : List ℕ) (a : ℕ) (b : Bool) (b_is : b ≡ is_some (wallet (cell xs C.accounts a))) where
  pub wallet_where : notice_where a b ≡ wallet_notice a (cell xs)
  wallet_where = ap (notice_where a) b_is

  pub hold_where : (old new : ℕ) → old < modulus → new < modulus → notice_where a (b && not (eqb old new)) ≡ hold_notice a (int old) (int new) (cell xs)
  hold_where old new f g =
      ⊎_elim
      (λ (e : old ≡ new). rw (eq-eqb old new e) (split (λ c. notice_where a (c && false) ≡ nobody) b (λ _. refl) (λ _. refl) ∙ sym (same_hold (cell xs) a old new e)))
      (λ n. rw (ne_eqb old new n, and-true b) (wallet_where ∙ sym (other_hold (cell xs) a old new f g n)))
      (same? old new)

-- the same notices
module _ (xs : List ℕ) {ns ms : List ℕ} (e : ns ≡ ms) where
  pub same_needs : length ms + word (cell xs) C.notice_rows ≤ most_notices → length ns + word (cell xs) C.notice_rows ≤ most_notices
  same_needs l = rw e l

  pub same_becomes : {ys : List ℕ} → InPlace xs ys (with_notices ns (gateway (cell xs))) → InPlace xs ys (with_notices ms (gateway (cell xs)))
  same_becomes b = rw (← e) b

-- one is pushed, or none
module _ {xs : List ℕ} (st : State xs) (a k : ℕ) (b : Bool) (e : k ≡ cond b 1 0) (l : length (notice_where a b) + word (cell xs) C.notice_rows ≤ most_notices) where
  counted : (k ≤ 1) × (k + word (cell xs) C.notice_rows ≤ most_notices)
  counted = let n : length (notice_where a b) ≡ k = split (λ c. length (notice_where a c) ≡ cond c 1 0) b (λ _. refl) (λ _. refl) ∙ sym e in
      (rw e (split (λ c. cond c 1 0 ≤ 1) b (λ _. omega arith) (λ _. omega arith)), omega arith)

  pub where_needs : Ready xs × (k ≤ 1) × (k + word (cell xs) C.notice_rows ≤ most_notices)
  where_needs = (record { holds = st.holds; bounds = st.sound.tables.ordered.bounds }, counted.0, counted.1)

  pub where_becomes : {ys : List ℕ} → Is ys (Pending.notices a k (cell xs)) → InPlace xs ys (with_notices (notice_where a b) (gateway (cell xs)))
  where_becomes h = in_place st h (notices_sound (cell xs) st.sound a k counted.1) (rw e (notices_view a (cell xs) b)) (record { rows_are = refl; numbers_are = λ j l. refl })
