-- What the types of a call's arguments say of an event: bytes, and numbers of so many bits.
use Rattle.std.specs.Prelude.{◌<◌}
use Rattle.record_bytes.specs.Fits.{Octets, FitsCall}
use Rattle.history.specs.Events.{Lent, Own, Other, ClientEvent, ServerEvent, Event, Start, ClientTransmit, ClientArrive, ClientTimer, ClientCancel, ServerArrive, ServerTransmit, ServerTimer, Reply, Fault, OfClient, OfServer}

-- The slot buffer lent: a side's own has no argument.
abbrev pub LentFits : Lent → Type 0
LentFits Own = Unit {0}
LentFits (Other bytes) = Octets bytes

-- The client's: a call and a length, a message that is lent and buffers, a datagram, a ticket. The message that a start
-- is for is not handed in, and may be any list.
abbrev pub ClientFits : ClientEvent → Type 0
ClientFits (Start call n message) = FitsCall call × (n < 4294967296)
ClientFits (ClientTransmit message out) = Octets message × Octets out
ClientFits (ClientArrive p lent out) = Octets p.bytes × LentFits lent × Octets out
ClientFits (ClientTimer kind ticket out) = (ticket < 18446744073709551616) × Octets out
ClientFits (ClientCancel out) = Octets out

-- The server's: the same, a reply's length and a fault's status.
abbrev pub ServerFits : ServerEvent → Type 0
ServerFits (ServerArrive p lent out) = Octets p.bytes × LentFits lent × Octets out
ServerFits (ServerTransmit message out) = Octets message × Octets out
ServerFits (ServerTimer ticket out) = (ticket < 18446744073709551616) × Octets out
ServerFits (Reply n message) = n < 4294967296
ServerFits (Fault status out) = (status < 4294967296) × Octets out

abbrev pub EventFits : Event → Type 0
EventFits (OfClient e) = ClientFits e
EventFits (OfServer e) = ServerFits e
