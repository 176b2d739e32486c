-- A row of mail read back: two pieces of mail with the same row are the same. Assumes nothing.
use Rattle.std.specs.Prelude.{Option, Some, None}
use Prim.Native.Nat.{ℕ}
use mathlib.Core.Path.{◌≡◌, refl, sym, ap, ◌∙◌}
use mathlib.Core.Bool.{cond}
use mathlib.Core.List.{List}
use lib.Dec.{eqb}
use lib.IntN.{ℤ}
use lib.ListN.{get_or}
use mir.Syntax.{w64}
use mir.Val.{to_z}
use Rattle.orderbook.specs.declared.Side.{Side}
use Rattle.orderbook.specs.declared.Side.TheVariants.{Buy}
use Rattle.orderbook.specs.declared.Phase.{Phase}
use Rattle.orderbook.specs.declared.Phase.TheVariants.{Continuous}
use Rattle.orderbook.specs.declared.RejectReason.{RejectReason}
use Rattle.orderbook.specs.declared.RejectReason.TheVariants.{InvalidQuantity}
use Rattle.orderbook.specs.declared.CancelReason.{CancelReason}
use Rattle.orderbook.specs.declared.CancelReason.TheVariants.{NoLiquidity}
use Rattle.protocol.specs.declared.LoginError.{LoginError}
use Rattle.protocol.specs.declared.LoginError.TheVariants.{BadCredentials}
use Rattle.protocol.specs.declared.LogoutReason.{LogoutReason}
use Rattle.protocol.specs.declared.LogoutReason.TheVariants.{Requested}
use Rattle.protocol.specs.declared.RejectCode.{RejectCode}
use Rattle.protocol.specs.declared.RejectCode.TheVariants.{Throttled}
use Rattle.protocol.specs.declared.Outbound.{Outbound}
use Rattle.protocol.specs.declared.Outbound.TheVariants as Out
use Rattle.protocol.specs.declared.ReportKind.{ReportKind}
use Rattle.protocol.specs.declared.ReportKind.TheVariants as Kind
use Rattle.protocol.specs.Codes.{side_of, phase_of, login_error_of, logout_of, reject_of, reject_reason_of, cancel_reason_of}
use Rattle.protocol.proofs.Inverse.{side_there, phase_there, login_error_there, logout_there, reject_there, reject_reason_there, cancel_reason_there}
use Rattle.gateway.specs.Bytes.{price_flag, price_word, price_from}
use Rattle.gateway.specs.Fits.{PriceFits}
use Rattle.gateway.specs.Rest.{Mail, send, close}
use Rattle.gateway.proofs.Money.{word_back}
use Rattle.mailbox.specs.Mailbox.{report_cells, message_cells, mail_row, KindFits, MailFits}

-- ---- fields: the case of a code, or some case for a number that is none's

abbrev side_in : Option Side → Side
side_in (Some a) = a
side_in None = Buy

abbrev phase_in : Option Phase → Phase
phase_in (Some a) = a
phase_in None = Continuous

abbrev login_in : Option LoginError → LoginError
login_in (Some a) = a
login_in None = BadCredentials

abbrev logout_in : Option LogoutReason → LogoutReason
logout_in (Some a) = a
logout_in None = Requested

abbrev reject_in : Option RejectCode → RejectCode
reject_in (Some a) = a
reject_in None = Throttled

abbrev reason_in : Option RejectReason → RejectReason
reason_in (Some a) = a
reason_in None = InvalidQuantity

abbrev cancel_in : Option CancelReason → CancelReason
cancel_in (Some a) = a
cancel_in None = NoLiquidity

-- ---- a report's kind from its cells, and mail from its row

module _ (at : ℕ → ℕ) where
  abbrev int_at : ℕ → ℤ
  int_at k = to_z w64 (at k)

  abbrev side_at : ℕ → Side
  side_at k = side_in (side_of (at k))

  -- cell 5 has a report's kind
  abbrev kind_at : ReportKind
  kind_at =
      cond (eqb (at 5) 0) Kind.Accepted
      (cond (eqb (at 5) 1) (Kind.Rejected (reason_in (reject_reason_of (at 6))))
      (cond (eqb (at 5) 2) (Kind.Fill (at 6) (side_at 7) (int_at 8) (at 9) (at 10))
      (cond (eqb (at 5) 3) (Kind.Rested (side_at 6) (int_at 7) (at 8) (at 9))
      (cond (eqb (at 5) 4) (Kind.Replenished (side_at 6) (int_at 7) (at 8))
      (cond (eqb (at 5) 5) (Kind.Cancelled (at 6) (cancel_in (cancel_reason_of (at 7))))
      (cond (eqb (at 5) 6) (Kind.Modified (int_at 6) (at 7) (at 8))
      (cond (eqb (at 5) 7) (Kind.StopPlaced (side_at 6) (int_at 7) (price_from (at 8) (at 9)) (at 10))
      (cond (eqb (at 5) 8) Kind.Triggered
      (cond (eqb (at 5) 9) (Kind.MassCancelled (at 6)) (Kind.PhaseChanged (phase_in (phase_of (at 6)))))))))))))

  -- cell 1 has a message's kind
  abbrev message_at : Outbound
  message_at =
      cond (eqb (at 1) 1) (Out.LoginAccepted (at 2) (at 3))
      (cond (eqb (at 1) 2) (Out.LoginRejected (login_in (login_error_of (at 2))))
      (cond (eqb (at 1) 3) Out.Heartbeat
      (cond (eqb (at 1) 4) (Out.Logout (logout_in (logout_of (at 2))))
      (cond (eqb (at 1) 5) (Out.Reject (reject_in (reject_of (at 2))) (at 3))
      (cond (eqb (at 1) 6) (Out.Report (record { seq = at 2; order_id = at 3; client_ref = at 4; kind = kind_at }))
      (cond (eqb (at 1) 7) (Out.BookSnapshot (at 2) (at 3))
      (cond (eqb (at 1) 8) (Out.LevelUpdate (record { seq = at 2; side = side_at 3; price = int_at 4; qty = at 5; orders = at 6 }))
      (cond (eqb (at 1) 9) (Out.TradeTick (record { seq = at 2; trade_id = at 3; side = side_at 4; price = int_at 5; qty = at 6 }))
      (Out.Balance (record { cash = int_at 2; position = int_at 3; cash_held = int_at 4; position_held = int_at 5 }))))))))))

abbrev mail_of : List ℕ → Mail
mail_of r = cond (eqb (get_or r 1 0) 0) (close (get_or r 0 0)) (send (get_or r 0 0) (message_at (λ k. get_or r k 0)))

-- ---- what was written is read back

price_back : (l : Option ℤ) → PriceFits l → price_from (price_flag l) (price_word l) ≡ l
price_back None f = refl
price_back (Some p) f = ap Some (word_back p f)

report_back : (s n i ref : ℕ) (k : ReportKind) → KindFits k →
    mail_of (mail_row (send s (Out.Report (record { seq = n; order_id = i; client_ref = ref; kind = k })))) ≡ send s (Out.Report (record { seq = n; order_id = i; client_ref = ref; kind = k }))
report_back s n i ref Kind.Accepted f = refl
report_back s n i ref (Kind.Rejected why) f = rw (reject_reason_there why) refl
report_back s n i ref (Kind.Fill id z p q l) f = rw (side_there z, word_back p f) refl
report_back s n i ref (Kind.Rested z p q v) f = rw (side_there z, word_back p f) refl
report_back s n i ref (Kind.Replenished z p v) f = rw (side_there z, word_back p f) refl
report_back s n i ref (Kind.Cancelled q why) f = rw (cancel_reason_there why) refl
report_back s n i ref (Kind.Modified p q l) f = rw (word_back p f) refl
report_back s n i ref (Kind.StopPlaced z t l q) f = rw (side_there z, word_back t f.0, price_back l f.1) refl
report_back s n i ref Kind.Triggered f = refl
report_back s n i ref (Kind.MassCancelled m) f = refl
report_back s n i ref (Kind.PhaseChanged p) f = rw (phase_there p) refl

mail_back : (m : Mail) → MailFits m → mail_of (mail_row m) ≡ m
mail_back (close s) f = refl
mail_back (send s (Out.LoginAccepted a n)) f = refl
mail_back (send s (Out.LoginRejected why)) f = rw (login_error_there why) refl
mail_back (send s Out.Heartbeat) f = refl
mail_back (send s (Out.Logout why)) f = rw (logout_there why) refl
mail_back (send s (Out.Reject why ref)) f = rw (reject_there why) refl
mail_back (send s (Out.Report r)) f = report_back s r.seq r.order_id r.client_ref r.kind f
mail_back (send s (Out.BookSnapshot n l)) f = refl
mail_back (send s (Out.LevelUpdate u)) f = rw (side_there u.side, word_back u.price f) refl
mail_back (send s (Out.TradeTick t)) f = rw (side_there t.side, word_back t.price f) refl
mail_back (send s (Out.Balance b)) f = rw (word_back b.cash f.0, word_back b.position f.1.0, word_back b.cash_held f.1.1.0, word_back b.position_held f.1.1.1) refl

pub same_mail : (m n : Mail) → MailFits m → MailFits n → mail_row m ≡ mail_row n → m ≡ n
same_mail m n f g e = sym (mail_back m f) ∙ ap mail_of e ∙ mail_back n g
