-- What each way through the code shows, one law for each, for `search`. Assumes nothing.
use mathlib.Core.Path.{◌≡◌, sym, ◌∙◌, ap}
use mathlib.Core.Bool.{Bool, true, false}
use Prim.Native.Nat.{ℕ, ◌+◌, ◌*◌, ◌≤◌}
use native.Mathlib.Omega.{arith}
use lib.Dec.{leb}
use lib.IntN.{ℤ, pos, nat_abs, ◌-ℤ◌, ◌*ℤ◌}
use lib.Signed.{le_z}
use borrow.Author.Rules.{rules}
use borrow.Author.Tests.{leb-true}
use Rattle.risk.specs.declared.Bucket.{Bucket}
use Rattle.words.specs.Words.{int, ◌⊖◌}
use Rattle.words.proofs.Diff.{pos_is, ⊖_sub, ⊖_le, leb_same}
use Rattle.risk.specs.Collar as C
use Rattle.risk.specs.Meter as M
use Rattle.risk.specs.Throttle as T

pub nears : (price mark percent d p : ℕ) (m : ℤ) (r : Bool) → d ≡ nat_abs (int price -ℤ int mark) → p ≡ d * 100 → m ≡ int mark *ℤ pos percent → r ≡ le_z (pos p) m → r ≡ C.near (int price) (int mark) percent
nears price mark percent d p m r e f g h = h ∙ (λ i. le_z (pos ((f ∙ ap (λ (n : ℕ). n * 100) e) i)) (g i))

-- Tc − B ≥ 0 is B ≤ Tc
pub green_is : (b tc : ℕ) → leb b tc ≡ M.green b tc
unfolding M.green
green_is b tc = sym ((λ i. le_z (pos_is 0 0 0 (omega arith) i) (pos_is tc tc 0 (omega arith) i -ℤ pos_is b b 0 (omega arith) i)) ∙ ap (le_z (0 ⊖ 0)) (⊖_sub tc 0 b 0) ∙ ⊖_le 0 0 (tc + 0) (0 + b) ∙ leb_same (0 + (0 + b)) (tc + 0 + 0) b tc (omega arith) (omega arith))

pub green_le : (b tc : ℕ) (g : Bool) → g ≡ M.green b tc → g ≡ true → b ≤ tc
green_le b tc g e t = leb-true b tc (green_is b tc ∙ sym e ∙ t)

taken : (rate now : ℕ) (b u : Bucket) (g t : Bool) → u ≡ T.update rate now b → g ≡ M.green T.message u.tokens → g ≡ t → T.colored t u ≡ T.take_token rate now b
taken rate now b u g t eu e f = (λ i. T.colored ((sym f ∙ e) i) u) ∙ (λ i. T.colored (M.green T.message (eu i).tokens) (eu i))

pub passes : (rate now : ℕ) (b u l : Bucket) (g : Bool) → u ≡ T.update rate now b → g ≡ M.green T.message u.tokens → g ≡ true → l ≡ T.less u → record { passed = true; bucket = l } ≡ T.take_token rate now b
passes rate now b u l g eu e f p = (λ i. record { passed = true; bucket = p i }) ∙ taken rate now b u g true eu e f

pub throttled : (rate now : ℕ) (b u : Bucket) (g : Bool) → u ≡ T.update rate now b → g ≡ M.green T.message u.tokens → g ≡ false → record { passed = false; bucket = u } ≡ T.take_token rate now b
throttled rate now b u g eu e f = taken rate now b u g false eu e f

pub ruleset laws = (rules, nears, green_is, green_le, passes, throttled)
