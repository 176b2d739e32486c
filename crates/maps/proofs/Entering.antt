-- A call enters, and is done or refuses; or it is kept out with 11. Assumes nothing.
use mathlib.Core.Path.{◌≡◌, refl, sym, ap, subst, ◌∙◌}
use mathlib.Core.Bool.{Bool, true, false, cond, and-true, and-false, and-eq-true_iff}
use mathlib.Core.List.{List}
use Prim.Native.Nat.{ℕ, suc, ◌*◌}
use native.Mathlib.Omega.{arith}
use borrow.Author.Rules.{rules}
use borrow.Author.Tests.{eq-eqb, eqb-true}
use lib.Dec.{eqb}
use lib.ListN.{length}
use Rattle.orderbook.specs.declared.Side.{Side}
use Rattle.gateway.specs.Limits.{malformed}
use Rattle.store.specs.Layout.{cells, Holds}
use Rattle.store.specs.View.{Store, zeros, Is}
use Rattle.levels.specs.Levels as L
use Rattle.maps.specs.Tables.{Stands, Lent, whole, judged, Ends, answer, Done}
use Rattle.maps.proofs.Stands.{zeros_stand}

-- ---- the length, and a number beside it

pub is_whole_yes : (ok : Bool) (xs : List ℕ) → ok ≡ true → eqb (length xs) 467592 ≡ whole ok xs
unfolding whole
is_whole_yes ok xs h = rw (h, and-true (eqb (length xs) 467592)) refl

pub is_whole_no : (ok : Bool) (xs : List ℕ) → ok ≡ false → false ≡ whole ok xs
unfolding whole
is_whole_no ok xs h = rw (h, and-false (eqb (length xs) 467592)) refl

module _ (xs : List ℕ) (b ok : Bool) (e : b ≡ whole ok xs) where
  pub whole_holds : b ≡ true → Holds xs
  unfolding whole
  whole_holds t = eqb-true (length xs) (8 * cells) ((and-eq-true_iff (eqb (length xs) (8 * cells)) ok).0 (sym e ∙ t)).0

  pub lent_stands : b ≡ true → Lent xs → Stands xs
  lent_stands t l = l.stands (whole_holds t)

  is : (c : Bool) (code : ℕ) → b ≡ c → judged ok xs code ≡ cond c code malformed
  unfolding judged
  is c code t = ap (λ z. cond z code malformed) (sym e ∙ t)

  pub entered : {code : ℕ} {done refused : Type 0} {r : ℕ} {ys : List ℕ} → b ≡ true → Ends code done refused r ys → Ends (judged ok xs code) done refused r ys
  entered {code} {done} {refused} {r} {ys} t h = subst (λ y. Ends y done refused r ys) (sym (is true code t)) h

  pub kept_out : (code : ℕ) {done refused : Type 0} → b ≡ false → Lent xs → refused → Ends (judged ok xs code) done refused 11 xs
  kept_out code {done} {refused} t l k =
      subst (λ y. Ends y done refused 11 xs) (sym (is false code t)) (record { code_is = refl; is_done = λ z. absurd (omega arith); is_refused = λ z. k; lent = l })

  pub told : {m n : ℕ} → b ≡ true → m ≡ n → record { code = 0; number = m } ≡ answer (judged ok xs 0) n
  told t q = rw (is true 0 t, q) refl

  pub untold : (n : ℕ) → b ≡ false → record { code = 11; number = 0 } ≡ answer (judged ok xs 0) n
  untold n t = rw (is false 0 t) refl

-- bytes of another length are no state, whatever they are
pub never_lent : (xs : List ℕ) (b : Bool) → b ≡ whole true xs → b ≡ false → Lent xs
unfolding whole
never_lent xs b e f = record { stands = λ h. absurd (differ (sym f ∙ e ∙ rw (eq-eqb (length xs) (8 * cells) h) refl)) }
  where
    differ : false ≡ true → ⊥
    differ p = subst (λ (c : Bool). cond c ⊥ Unit) p tt

-- ---- what is done

pub does : {done refused : Type 0} {ys : List ℕ} (code : ℕ) {c : ℕ} → c ≡ code → c ≡ 0 → done → Stands ys → Ends code done refused c ys
does code e z d s = record { code_is = e; is_done = λ _. d; is_refused = λ n. absurd (n (sym e ∙ z)); lent = record { stands = λ _. s } }

pub refuses : {done : Type 0} {xs : List ℕ} (code : ℕ) {c : ℕ} → c ≡ code → (c ≡ 0 → ⊥) → Stands xs → Ends code done (xs ≡ xs) c xs
refuses code e n s = record { code_is = e; is_done = λ z. absurd (n (e ∙ z)); is_refused = λ _. refl; lent = record { stands = λ _. s } }

pub cleared : (xs ys : List ℕ) (b : Bool) → b ≡ whole true xs → b ≡ true → Is ys zeros → Ends (judged true xs 0) (Is ys zeros) (ys ≡ xs) 0 ys
cleared xs ys b e t h = entered xs b true e t (does 0 refl refl h (zeros_stand h))

pub zero_then : (b : Bool) (c m : ℕ) → cond b c (suc m) ≡ 0 → (b ≡ true) × (c ≡ 0)
zero_then true c m e = (refl, e)
zero_then false c m e = absurd (omega (arith, e))

pub changes : (g : ℕ → Store → Store) (xs ys : List ℕ) (b : Bool) (n r : ℕ) → b ≡ whole true xs → b ≡ true → Done g xs ys n r × Lent ys → Ends (judged true xs 0) (Done g xs ys n r) ((ys ≡ xs) × (r ≡ 0)) 0 ys
changes g xs ys b n r e t d = entered xs b true e t (record { code_is = refl; is_done = λ _. d.0; is_refused = λ z. absurd (z refl); lent = d.1 })

pub table_of : {xs : List ℕ} (s : Side) → Stands xs → L.Table s xs
table_of s st = st.levels s

pub ruleset entering = (rules, is_whole_yes, is_whole_no, whole_holds, lent_stands, entered, kept_out, untold, never_lent, cleared, changes, table_of)
