-- What the ways through the code show that are not found alone. Assumes nothing.
use Rattle.std.specs.Prelude.{Option, Some, None}
use mathlib.Core.Path.{◌≡◌, sym, ◌∙◌, ap}
use mathlib.Core.Bool.{Bool, true, false, and-true}
use mathlib.Core.List.{List, [], ◌∷◌}
use Prim.Native.Nat.{ℕ, ◌+◌, ◌^◌, ◌≤◌, ◌<◌}
use native.Mathlib.Omega.{arith}
use lib.IntN.{ℤ}
use lib.Dec.{leb, ltb}
use lib.ListN.{length, get_or-eq_default}
use borrow.Author.Rules.{rules}
use borrow.Author.Tests.{eq-eqb, ne_eqb, lt-ltb, le-ltb}
use Rattle.le.specs.Checked.{is_width, inside, takes, loaded, stored}
use Rattle.le.specs.Le.{put}
use Rattle.le.specs.Row.{span}
use Rattle.orderbook.specs.declared.Side.{Side}
use Rattle.orderbook.specs.Codes.{side_cases, side_of}
use Rattle.risk.specs.Collar.{near}
use Rattle.risk.specs.Throttle.{take_token}
use Rattle.risk.specs.declared.Bucket.{Bucket}
use Rattle.risk.specs.declared.Taken.{Taken}
use Rattle.wallet.specs.Wallet as W
use Rattle.wallet.specs.declared.Wallet.{Wallet}
use Rattle.words.proofs.Int.{of_int}
use Rattle.words.specs.Words.{int, amount, modulus}
use Rattle.comparison.specs.Entry as E
use Rattle.comparison.specs.Entry.{Answer, answer, answers}

-- ---- outputs

pub fits : (a : Option ℕ) (w r : ℕ) (out ys : List ℕ) → w < modulus → a ≡ Some w → answer r ys ≡ E.write E.two (1 ∷ w ∷ []) out → answer r ys ≡ E.write_amount (amount a) out
fits a w r out ys h t e = rw (t, of_int w h) e

pub too_big : (a : Option ℕ) (r : ℕ) (out ys : List ℕ) → a ≡ None → answer r ys ≡ E.write E.two (0 ∷ 0 ∷ []) out → answer r ys ≡ E.write_amount (amount a) out
too_big a r out ys t e = rw t e

-- ---- wallets

abbrev pub Words : Wallet → Type 0
Words w = (w.cash < modulus) × (w.position < modulus) × (w.cash_held < modulus) × (w.position_held < modulus)

pub wrote_wallet : (w : Wallet) (m m₁ m₂ m₃ m₄ : List ℕ) → Words w → m₁ ≡ put 8 m 0 w.cash → m₂ ≡ put 8 m₁ 8 w.position → m₃ ≡ put 8 m₂ 16 w.cash_held → m₄ ≡ put 8 m₃ 24 w.position_held
    → answer 0 m₄ ≡ answer 0 (E.put_balance (W.balance_of w) m)
wrote_wallet w m m₁ m₂ m₃ m₄ (a, b, c, d) e f g h =
    rw (h, g, f, e, of_int w.cash a, of_int w.position b, of_int w.cash_held c, of_int w.position_held d)

-- ---- bytes

pub no_width : (width at v : ℕ) (xs : List ℕ) (w : Bool) → w ≡ is_width width → w ≡ false → answer 11 xs ≡ E.store width at v xs
no_width width at v xs w e t = rw (← e, t)

pub too_long : (width at v : ℕ) (xs : List ℕ) (w s : Bool) → w ≡ is_width width → w ≡ true → s ≡ ltb v (256 ^ width) → s ≡ false → answer 7 xs ≡ E.store width at v xs
too_long width at v xs w s e t f u = rw (← e, t, ← f, u)

module _ (width at v : ℕ) (xs ys : List ℕ) (w s b : Bool) (e : w ≡ is_width width) (t : w ≡ true) (f : s ≡ ltb v (256 ^ width)) (u : s ≡ true)
    (g : (b ≡ takes (length xs) at width v) × (ys ≡ stored xs at width v)) where
  room : leb (at + width) (length xs) ≡ b
  unfolding takes inside
  room = sym (rw (← e, t, ← f, u, and-true) at g.0)

  pub stores : b ≡ true → answer 0 ys ≡ E.store width at v xs
  stores h = rw (← e, t, ← f, u, room, h, g.1, ← g.0, h)

  pub no_room : b ≡ false → answer 6 ys ≡ E.store width at v xs
  no_room h = rw (← e, t, ← f, u, room, h, g.1, ← g.0, h)

pub ruleset laws = (rules, fits, too_big, no_width, too_long, stores, no_room)
