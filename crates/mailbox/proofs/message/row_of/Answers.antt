use mathlib.Core.Path.{refl}
use Rattle.mailbox.proofs.message.row_of.Goals as goal

pub returns-in-LoginAccepted : goal.returns-in-LoginAccepted
returns-in-LoginAccepted c = rw c.in-LoginAccepted.is refl

pub returns-in-Heartbeat : goal.returns-in-Heartbeat
returns-in-Heartbeat c = rw c.in-Heartbeat.is refl

pub returns-in-Report : goal.returns-in-Report
returns-in-Report c = rw c.in-Report.is c.report.ensures

pub returns-in-BookSnapshot : goal.returns-in-BookSnapshot
returns-in-BookSnapshot c = rw c.in-BookSnapshot.is refl

pub returns-in-LevelUpdate : goal.returns-in-LevelUpdate
returns-in-LevelUpdate c = rw c.in-LevelUpdate.is c.level.ensures

pub returns-in-TradeTick : goal.returns-in-TradeTick
returns-in-TradeTick c = rw c.in-TradeTick.is c.trade.ensures

pub returns-in-Balance : goal.returns-in-Balance
returns-in-Balance c = rw c.in-Balance.is c.balance.ensures
