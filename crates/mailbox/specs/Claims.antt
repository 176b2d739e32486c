-- What is claimed of rows of mail. `claims` in src/lib.rt has the proof.
use Rattle.std.specs.Prelude.{◌≡◌, List, ℕ, ◌+◌, ◌*◌, length}
use Rattle.le.specs.Le.{Outside}
use Rattle.gateway.specs.Rest.{Mail}
use Rattle.mailbox.specs.Mailbox.{mail_row, MailFits, mailed}

pub record Claims : Type 0 where
  -- a row says which message it is: two pieces of mail with the same row are the same
  pub same_mail : (m n : Mail) → MailFits m → MailFits n → mail_row m ≡ mail_row n → m ≡ n
  -- places behind the last row written, and before the first, keep their contents (01, Refusals by operation)
  pub outside : (i : ℕ) (ms : List Mail) (xs : List ℕ) → Outside (96 * i) (96 * (i + length ms)) xs (mailed i ms xs)
