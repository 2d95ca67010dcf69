-- A fragment that is put, and what of an arriving body is stored.
use Rattle.std.specs.Prelude.{ℕ, List}
use Rattle.incoming.specs.declared.Incoming.{Incoming}
use Rattle.incoming.specs.Slots.{contiguous, complete, stored}
use Rattle.fragments.specs.declared.Fragment.{Fragment}
use Rattle.fragments.specs.Stored.{Stored, Nothing, At}
use Rattle.fragments.specs.Fragment.{is_last, wants_fack}
use Rattle.fragments.specs.Slots.{filled}

-- A fragment that is put into what is held, by its PDU's flags, serial, number and body length; what is held then.
unfoldable pub put_of : Incoming → ℕ → ℕ → ℕ → ℕ → Fragment
put_of m flags1 serial f n = record {
  number = f;
  length = n;
  last = is_last flags1;
  serial = serial;
  facked = wants_fack flags1;
  count = contiguous (stored m f n (is_last flags1));
  complete = complete (stored m f n (is_last flags1));
}

-- What is held once such a fragment is put.
abbrev pub put_into : Incoming → Fragment → Incoming
put_into m p = stored m p.number p.length p.last

-- The slot buffer after a plan: only the bytes of the fragment put differ.
unfoldable pub storing : Stored → List ℕ → List ℕ → List ℕ
storing Nothing body slots = slots
storing (At f) body slots = filled f body slots
