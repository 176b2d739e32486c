use Rattle.pending.proofs.trade_at.Goals as goal

pub returns : goal.returns
returns c =
    λ i. record { seq = c.get.ensures i; trade_id = c.get-2.ensures i; side = c.get-3.ensures i; price = c.get-4.ensures i; qty = c.get-5.ensures i }
