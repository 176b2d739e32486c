-- The limits of every account stay within 32 bits. Assumes nothing.
use mathlib.Core.Path.{◌≡◌, refl}
use mathlib.Core.Logic.{⊎_elim}
use mathlib.Core.Bool.{Bool, true, false, cond}
use mathlib.Core.List.{List}
use Prim.Native.Nat.{ℕ, ◌+◌, ◌-◌, ◌^◌, ◌<◌}
use native.Mathlib.Omega.{arith}
use Rattle.accounts.specs.declared.Account.{Account}
use Rattle.risk.specs.declared.Bucket.{Bucket}
use Rattle.table.proofs.Live.{same?}
use Rattle.gateway.specs.Limits.{owner_slots}
use Rattle.store.specs.Cells as C
use Rattle.store.specs.View.{Row, Store, write, flag, zeros}
use Rattle.clients.specs.Clients as P
use Rattle.clients.specs.Clients.{put_cells, LimitsFit, Limited}
use Rattle.clients.proofs.Rows.{write_cell, spares, cells_spare}
use Rattle.clients.proofs.Views.{add_account_rows, add_account_limits}

-- the two limits are those of a row that fits
same_limits : (q r : Row) → q C.account_max_open ≡ r C.account_max_open → q C.account_rate ≡ r C.account_rate → LimitsFit r → LimitsFit q
same_limits q r e f h = record { max_open_fits = rw e h.max_open_fits; rate_fits = rw f h.rate_fits }

pub limited_ext : (s t : Store) → ((i : ℕ) → i < owner_slots → t C.accounts i C.account_max_open ≡ s C.accounts i C.account_max_open) →
    ((i : ℕ) → i < owner_slots → t C.accounts i C.account_rate ≡ s C.accounts i C.account_rate) → Limited s → Limited t
limited_ext s t p q k = record { limits = λ i l. same_limits (t C.accounts i) (s C.accounts i) (p i l) (q i l) (k.limits i l) }

pub limited_zeros : Limited zeros
limited_zeros = record { limits = λ i l. record { max_open_fits = omega arith; rate_fits = omega arith } }

-- cells of an account's row behind its limits
pub limited_cell : (i k v : ℕ) (s : Store) → C.account_rate < k → Limited s → Limited (write C.accounts i k v s)
limited_cell i k v s l c =
    limited_ext s (write C.accounts i k v s) (λ j m. write_cell C.accounts i k v s j C.account_max_open (λ e. omega (arith, e)))
    (λ j m. write_cell C.accounts i k v s j C.account_rate (λ e. omega (arith, e))) c

limited_cells : (i : ℕ) (cs : List (ℕ × ℕ)) (s : Store) → spares C.account_max_open cs ≡ true → spares C.account_rate cs ≡ true → Limited s → Limited (put_cells C.accounts i cs s)
limited_cells i cs s p q k =
    limited_ext s (put_cells C.accounts i cs s) (λ j l. cells_spare C.accounts i C.account_max_open cs s j p)
    (λ j l. cells_spare C.accounts i C.account_rate cs s j q) k

pub limited_money : (i c p : ℕ) (s : Store) → Limited s → Limited (P.set_money i c p s)
limited_money i c p s k = limited_cells i (P.money_cells c p) s refl refl k

pub limited_bucket : (i : ℕ) (b : Bucket) (s : Store) → Limited s → Limited (P.set_bucket i b s)
limited_bucket i b s k = limited_cells i (P.bucket_cells b) s refl refl k

pub limited_add_account : (a : Account) (s : Store) → a.max_open_orders < 2 ^ 32 → a.messages_per_second < 2 ^ 32 → Limited s → Limited (P.add_account a s)
limited_add_account a s m r k =
    record {
      limits = λ i l.
          ⊎_elim (λ (e : i ≡ a.id). rw e (add_account_limits a s m r)) (λ ne. rw (add_account_rows a s i ne) (k.limits i l)) (same? i a.id);
    }

-- a login and the end of a session write the session's cell
pub limited_log_in : (i a : ℕ) (s : Store) → Limited s → Limited (P.log_in i a s)
limited_log_in i a s k = limited_cell a C.account_session (i + 1) (write C.sessions i C.session_account (a + 1) s) (omega arith) (record { limits = k.limits })

limited_leave : (a : ℕ) (s : Store) → Limited s → Limited (P.leave a s)
limited_leave a s k = go (flag a)
  where
    go : (b : Bool) → Limited (cond b (write C.accounts (a - 1) C.account_session 0 s) s)
    go true = limited_cell (a - 1) C.account_session 0 s (omega arith) k
    go false = k

pub limited_forget : (i : ℕ) (s : Store) → Limited s → Limited (P.forget i s)
limited_forget i s k = record { limits = (limited_leave (P.logged_in (s C.sessions i)) s k).limits }

-- the cells of a session
pub limited_session : (i k v : ℕ) (s : Store) → Limited s → Limited (write C.sessions i k v s)
limited_session i k v s c = record { limits = c.limits }

pub limited_connect : (i t : ℕ) (s : Store) → Limited s → Limited (P.connect i t s)
unfolding put_cells
limited_connect i t s k = record { limits = k.limits }
