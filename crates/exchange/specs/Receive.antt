-- A message that is a login, and one that is not.
use Rattle.protocol.specs.declared.Inbound.{Inbound}
use Rattle.protocol.specs.declared.Inbound.TheVariants as In

abbrev pub IsLogin : Inbound → Type 0
IsLogin (In.Login version a token) = Unit {0}
IsLogin In.Logout = ⊥
IsLogin In.Heartbeat = ⊥
IsLogin (In.NewOrder o) = ⊥
IsLogin (In.Cancel i) = ⊥
IsLogin (In.Modify i p q) = ⊥
IsLogin In.MassCancel = ⊥
IsLogin In.Subscribe = ⊥

abbrev pub NoLogin : Inbound → Type 0
NoLogin (In.Login version a token) = ⊥
NoLogin In.Logout = Unit {0}
NoLogin In.Heartbeat = Unit {0}
NoLogin (In.NewOrder o) = Unit {0}
NoLogin (In.Cancel i) = Unit {0}
NoLogin (In.Modify i p q) = Unit {0}
NoLogin In.MassCancel = Unit {0}
NoLogin In.Subscribe = Unit {0}
