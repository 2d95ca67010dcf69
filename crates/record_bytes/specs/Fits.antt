-- What fits the widths in which the parts of a record are kept as bytes. Definitions are over plain numbers and
-- lists, so what the types of the code's fields say is said here.
use Rattle.std.specs.Prelude.{ℕ, ◌<◌, Bool, true, false, List, [], ◌∷◌, ◌≡◌, length}
use Rattle.words.specs.Sizes.{window_size}
use Rattle.calls.specs.declared.Call.{Call}
use Rattle.incoming.specs.declared.Slot.{Slot}
use Rattle.incoming.specs.Last.{Last, Unknown, At}
use Rattle.incoming.specs.declared.Incoming.{Incoming}
use Rattle.outgoing.specs.declared.Outgoing.{Outgoing}
use Rattle.timers.specs.Timer.{Timer, Off, Armed}
use Rattle.record_bytes.specs.declared.Fields.{Fields}

-- Every element is a byte.
abbrev pub Octets : List ℕ → Type 0
Octets [] = Unit {0}
Octets (b ∷ bs) = (b < 256) × Octets bs

-- 16 bytes.
pub record Uuid (u : List ℕ) : Type 0 where
  pub size : length u ≡ 16
  pub octets : Octets u

-- A call's UUIDs, its version in 4 bytes and its operation in 2.
pub record FitsCall (call : Call) : Type 0 where
  pub object : Uuid call.object
  pub interface : Uuid call.interface
  pub version : call.version < 4294967296
  pub operation : call.operation < 65536

-- The message sent: its length in 4 bytes, its counts and the serial in 2 each.
pub record FitsOutgoing (o : Outgoing) : Type 0 where
  pub length : o.length < 4294967296
  pub count : o.count < 65536
  pub sent : o.sent < 65536
  pub acknowledged : o.acknowledged < 65536
  pub serial : o.serial < 65536

-- A known last that can be read is below 256; 65535 stands for none.
abbrev pub FitsLast : Last → Type 0
FitsLast Unknown = Unit {0}
FitsLast (At n) = n < 256

-- The length of a fragment held is kept in 2 bytes; that of one not held is 0.
abbrev pub FitsSlot : Bool → ℕ → Type 0
FitsSlot true length = length < 65536
FitsSlot false length = length ≡ 0

abbrev pub FitsSlots : List Slot → Type 0
FitsSlots [] = Unit {0}
FitsSlots (s ∷ ss) = FitsSlot s.held s.length × FitsSlots ss

-- The message received has 32 slots.
pub record FitsIncoming (m : Incoming) : Type 0 where
  pub size : length m.slots ≡ window_size
  pub slots : FitsSlots m.slots
  pub last : FitsLast m.last

-- An armed timer's ticket is kept in 8 bytes.
abbrev pub FitsTimer : Timer → Type 0
FitsTimer Off = Unit {0}
FitsTimer (Armed ticket) = ticket < 18446744073709551616

-- All that the bytes of a record hold.
pub record FitsFields (f : Fields) : Type 0 where
  pub state : f.state < 256
  pub count : f.count < 256
  pub extra : f.extra < 256
  pub activity : Uuid f.activity
  pub number : f.number < 4294967296
  pub boot : f.boot < 4294967296
  pub call : FitsCall f.call
  pub outgoing : FitsOutgoing f.outgoing
  pub incoming : FitsIncoming f.incoming
  pub tickets : f.tickets < 18446744073709551616
  pub timer : FitsTimer f.timer
  pub word : f.word < 18446744073709551616
  pub cancel : FitsTimer f.cancel
  pub cancels : f.cancels < 4294967296
