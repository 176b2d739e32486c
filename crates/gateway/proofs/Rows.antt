-- Numbers, rows and sections of bytes, over any field widths: what was written is read back, whatever bytes stand behind it; bytes that are read are
-- those written for what was read; every byte is below 256. Assumes nothing.
use Rattle.std.specs.Prelude.{Some, None}
use Prim.Native.Nat.{ℕ, zero, suc, ◌+◌, ◌*◌, ◌^◌, ◌/◌, ◌<◌}
use mathlib.Core.Path.{◌≡◌, refl, ap, ap₂, ◌∙◌}
use mathlib.Core.List.{List, [], ◌∷◌, ◌++◌, map, append_assoc}
use native.Mathlib.Omega.{arith}
use native.Mathlib.Nat.{pow-succ', mod-add-div}
use lib.ListN.{length, length-append}
use Rattle.table.specs.Live.{Each}
use Rattle.gateway.specs.Fits.{Bytes}
use Rattle.gateway.specs.Bytes.{number, row, rows, section, Read, then, read_number, read_row, read_rows, read_section}

-- the values fit their fields
pub data Fit : List ℕ → List ℕ → Type 0 where
  done : Fit [] []
  field : {w v : ℕ} {ws vs : List ℕ} → v < 256 ^ w → Fit ws vs → Fit (w ∷ ws) (v ∷ vs)

-- a section's rows fit, and so does their count
pub record FitRows (ws : List ℕ) (rs : List (List ℕ)) : Type 0 where
  pub count : length rs < 256 ^ 4
  pub each : Each (Fit ws) rs

-- ---- what was written is read back, whatever stands behind it

pub number_back : (n v : ℕ) (ys : List ℕ) → v < 256 ^ n → read_number n (number n v ++ ys) ≡ Some (v, ys)
number_back zero v ys h = ap (λ x. Some (x, ys)) (omega arith)
number_back (suc n) v ys h = rw (number_back n (v / 256) ys (omega (arith, pow-succ' 256 n)), mod-add-div v 256)

pub row_back : {ws vs : List ℕ} → Fit ws vs → (ys : List ℕ) → read_row ws (row ws vs ++ ys) ≡ Some (vs, ys)
row_back done ys = refl
row_back (field {w = w} {v = v} {ws = ws} {vs = vs} h t) ys = rw (append_assoc (number w v) (row ws vs) ys, number_back w v (row ws vs ++ ys) h, row_back t ys)

rows_back : (ws : List ℕ) (rs : List (List ℕ)) → Each (Fit ws) rs → (ys : List ℕ) → read_rows ws (length rs) (rows ws rs ++ ys) ≡ Some (rs, ys)
rows_back ws [] h ys = refl
rows_back ws (r ∷ rs) h ys = rw (append_assoc (row ws r) (rows ws rs) ys, row_back h.0 (rows ws rs ++ ys), rows_back ws rs h.1 ys)

pub section_back : (ws : List ℕ) (rs : List (List ℕ)) → FitRows ws rs → (ys : List ℕ) → read_section ws (section ws rs ++ ys) ≡ Some (rs, ys)
section_back ws rs h ys = ap (λ r. then r (read_rows ws)) (number_back 4 (length rs) (rows ws rs ++ ys) h.count) ∙ rows_back ws rs h.each ys

-- ---- bytes that are read are those written

-- P of what was read and of the bytes behind it
pub data Of {A : Type 0} (P : A → List ℕ → Type 0) : Read A → Type 0 where
  missing : Of P None
  got : (a : A) (ys : List ℕ) → P a ys → Of P (Some (a, ys))

-- reading one thing, then another
pub of_then : {A B : Type 0} {P : A → List ℕ → Type 0} {Q : B → List ℕ → Type 0} {r : Read A} {f : A → List ℕ → Read B} → Of P r → ((a : A) (ys : List ℕ) → P a ys → Of Q (f a ys)) → Of Q (then r f)
of_then missing q = missing
of_then (got a ys p) q = q a ys p

pub of_map : {A : Type 0} {P Q : A → List ℕ → Type 0} {r : Read A} → Of P r → ((a : A) (ys : List ℕ) → P a ys → Q a ys) → Of Q r
of_map missing q = missing
of_map (got a ys p) q = got a ys (q a ys p)

-- xs are what is written for a, and the bytes ys
pub record Wrote {A : Type 0} (Good : A → Type 0) (write : A → List ℕ) (xs : List ℕ) (a : A) (ys : List ℕ) : Type 0 where
  pub good : Good a
  pub same : write a ++ ys ≡ xs
  pub more : Bytes ys

-- two things written one behind the other
pub chain : (a b zs : List ℕ) {xs ys : List ℕ} → a ++ ys ≡ xs → b ++ zs ≡ ys → (a ++ b) ++ zs ≡ xs
chain a b zs p q = append_assoc a b zs ∙ ap (λ l. a ++ l) q ∙ p

pub number_only : (n : ℕ) (xs : List ℕ) → Bytes xs → Of (Wrote (λ v. v < 256 ^ n) (number n) xs) (read_number n xs)
number_only zero xs b = got 0 xs (record { good = omega arith; same = refl; more = b })
number_only (suc n) [] b = missing
number_only (suc n) (x ∷ xs) b =
    of_then (number_only n xs b.1)
    (λ v ys h. got (x + 256 * v) ys (record {
      good = omega (arith, pow-succ' 256 n, h.good);
      same = ap₂ (λ a l. a ∷ l) (omega (arith, b.0)) (ap (λ u. number n u ++ ys) (omega (arith, b.0)) ∙ h.same);
      more = h.more;
    }))

pub row_only : (ws xs : List ℕ) → Bytes xs → Of (Wrote (Fit ws) (row ws) xs) (read_row ws xs)
row_only [] xs b = got [] xs (record { good = done; same = refl; more = b })
row_only (w ∷ ws) xs b =
    of_then (number_only w xs b)
    (λ v ys h. of_then (row_only ws ys h.more)
    (λ vs zs k. got (v ∷ vs) zs (record { good = field h.good k.good; same = chain (number w v) (row ws vs) zs h.same k.same; more = k.more })))

rows_only : (ws : List ℕ) (n : ℕ) (xs : List ℕ) → Bytes xs → Of (Wrote (λ rs. (length rs ≡ n) × Each (Fit ws) rs) (rows ws) xs) (read_rows ws n xs)
rows_only ws zero xs b = got [] xs (record { good = (refl, tt); same = refl; more = b })
rows_only ws (suc n) xs b =
    of_then (row_only ws xs b)
    (λ r ys h. of_then (rows_only ws n ys h.more)
    (λ rs zs k. got (r ∷ rs) zs (record { good = (ap suc k.good.0, (h.good, k.good.1)); same = chain (row ws r) (rows ws rs) zs h.same k.same; more = k.more })))

pub section_only : (ws xs : List ℕ) → Bytes xs → Of (Wrote (FitRows ws) (section ws) xs) (read_section ws xs)
section_only ws xs b =
    of_then (number_only 4 xs b)
    (λ n ys h. of_map (rows_only ws n ys h.more)
    (λ rs zs k. record {
      good = record { count = omega (arith, h.good, k.good.0); each = k.good.1 };
      same = chain (number 4 (length rs)) (rows ws rs) zs (ap (λ m. number 4 m ++ ys) k.good.0 ∙ h.same) k.same;
      more = k.more;
    }))

-- ---- bytes and lengths

pub bytes_append : (xs ys : List ℕ) → Bytes xs → Bytes ys → Bytes (xs ++ ys)
bytes_append [] ys b c = c
bytes_append (x ∷ xs) ys b c = (b.0, bytes_append xs ys b.1 c)

number_bytes : (n v : ℕ) → Bytes (number n v)
number_bytes zero v = tt
number_bytes (suc n) v = (omega arith, number_bytes n (v / 256))

pub row_bytes : (ws vs : List ℕ) → Bytes (row ws vs)
row_bytes [] vs = tt
row_bytes (w ∷ ws) [] = tt
row_bytes (w ∷ ws) (v ∷ vs) = bytes_append (number w v) (row ws vs) (number_bytes w v) (row_bytes ws vs)

rows_bytes : (ws : List ℕ) (rs : List (List ℕ)) → Bytes (rows ws rs)
rows_bytes ws [] = tt
rows_bytes ws (r ∷ rs) = bytes_append (row ws r) (rows ws rs) (row_bytes ws r) (rows_bytes ws rs)

pub section_bytes : (ws : List ℕ) (rs : List (List ℕ)) → Bytes (section ws rs)
section_bytes ws rs = bytes_append (number 4 (length rs)) (rows ws rs) (number_bytes 4 (length rs)) (rows_bytes ws rs)

-- rows of n bytes each
pub rows_length : {A : Type 0} (ws : List ℕ) (to : A → List ℕ) (n : ℕ) → ((a : A) → length (row ws (to a)) ≡ n) → (l : List A) → length (rows ws (map to l)) ≡ n * length l
rows_length ws to n h [] = omega arith
rows_length ws to n h (x ∷ l) = rw (length-append, h x, rows_length ws to n h l) (omega arith)
