-- The server's record as bytes and back is the record again; canonical bytes as a record and back are the bytes again.
use Prim.Native.Nat.{ℕ, ◌/◌, ◌≤◌, ◌<◌}
use mathlib.Core.Bool.{Bool, true, false}
use mathlib.Core.List.{List, ◌++◌}
use mathlib.Core.Path.{◌≡◌, sym, ap, subst, ◌∙◌}
use native.Mathlib.Omega.{arith}
use lib.Dec.{eqb}
use lib.ListN.{length, get_or, take, drop, replicate}
use borrow.Author.Tests.{le-leb, leb-true, eqb-true}
use Rattle.words.specs.Choice.{choose, both, mark_of}
use Rattle.words.specs.Number.{le, digits, part, number}
use Rattle.words.proofs.Number.{value-bytes}
use Rattle.words.proofs.Tests.{both_hold, both_true}
use Rattle.timers.specs.Timer.{Off}
use Rattle.record_bytes.specs.Fits.{Octets, FitsFields}
use Rattle.record_bytes.specs.Canonical.{TicketClear}
use Rattle.record_bytes.specs.Parts.{clear, count_where, timer_where, timer_in, uuid_in}
use Rattle.record_bytes.specs.Layout.{readable as shared_readable, call_in, outgoing_in, incoming_in, fields_in, field_bytes}
use Rattle.record_bytes.proofs.ByteLaws.{number_below}
use Rattle.record_bytes.proofs.FieldsBack.{fields_back, bytes-readable, length_fields, octets_fields}
use Rattle.record_bytes.proofs.FieldsBack.{slots-clear, timer-clear}
use Rattle.record_bytes.proofs.Reading.{clear-part, count_again, count_broken}
use Rattle.record_bytes.proofs.FieldsAgain.{bytes_fit, fields_again}
use Rattle.server.specs.declared.records.Server.{Server}
use Rattle.server.specs.records.Rules.{sound}
use Rattle.server_bytes.specs.Canonical.{Canonical}
use Rattle.server_bytes.specs.Fits.{FitsServer}
use Rattle.server_bytes.specs.Layout.{state_of, state_number, status_of, readable, server_of, server_in, fields_of}
use Rattle.server_bytes.specs.Layout.{bytes_of_server}
use Rattle.server_bytes.proofs.StateLaws.{state_back, state_small, state_again, state_fits}
use Rattle.server_bytes.proofs.StateLaws.{status_small, status_again, no_status}

-- A number of four bytes has four more bytes that are 0, and a timer that is off has a ticket of zeros.
high_clear : (v : ℕ) (rest : List ℕ) → v < 4294967296
    → clear 12 (digits 4 (v / 256 / 256 / 256 / 256) ++ (digits 8 0 ++ rest)) ≡ true
unfolding clear both choose
high_clear v rest small =
    let none : v / 256 / 256 / 256 / 256 ≡ 0 = omega arith in
    ap (λ (n : ℕ). clear 12 (digits 4 n ++ (digits 8 0 ++ rest))) none

module _ (s : Server) (fits : FitsServer s) where
  -- What the bytes hold fits them, and they are readable.
  fields_fit : FitsFields (fields_of s)
  unfolding fields_of
  fields_fit = record {
    state = omega (arith, state_small s.state);
    count = fits.resends;
    extra = omega arith;
    activity = fits.activity;
    number = fits.number;
    boot = fits.boot;
    call = fits.call;
    outgoing = fits.outgoing;
    incoming = fits.incoming;
    tickets = fits.tickets;
    timer = fits.resend;
    word = omega (arith, status_small s.state fits.state);
    cancel = tt;
    cancels = fits.seen;
  }

  pub server-readable : readable (bytes_of_server s) ≡ true
  unfolding readable bytes_of_server field_bytes fields_of both choose mark_of
  server-readable =
      both_hold _ _ (le-leb _ _ (state_small s.state))
      (both_hold _ _ (high_clear (status_of s.state) _ (status_small s.state fits.state))
      (bytes-readable (fields_of s) fields_fit))

  -- The status that the bytes hold is the state's.
  status-back : number 4 true (bytes_of_server s) 48 ≡ status_of s.state
  unfolding number bytes_of_server field_bytes fields_of
  status-back = value-bytes 4 true (status_of s.state) (status_small s.state fits.state)

  same : server_of true (status_of s.state) (fields_of s) ≡ s
  unfolding server_of fields_of count_where choose
  same = λ i. record {
    state = state_back s.state i;
    activity = s.activity;
    boot = s.boot;
    number = s.number;
    call = s.call;
    outgoing = s.outgoing;
    incoming = s.incoming;
    resends = s.resends;
    seen = s.seen;
    tickets = s.tickets;
    resend = s.resend;
  }

  -- A record as bytes and back is the record again.
  pub server-back : server_in (bytes_of_server s) ≡ s
  unfolding server_in bytes_of_server
  server-back =
      ap (λ (r : Bool). server_of r (number 4 true (bytes_of_server s) 48) (fields_in (bytes_of_server s))) server-readable
      ∙ ap (λ (n : ℕ). server_of true n (fields_in (bytes_of_server s))) status-back
      ∙ ap (server_of true (status_of s.state)) (fields_back (fields_of s) fields_fit)
      ∙ same

  -- The bytes of a record are canonical.
  pub server_canonical : Canonical (bytes_of_server s)
  unfolding bytes_of_server fields_of field_bytes
  server_canonical = record {
    size = length_fields (fields_of s) fields_fit;
    octets = octets_fields (fields_of s) fields_fit;
    readable = server-readable;
    resend = timer-clear (fields_of s) fields_fit;
    status = λ (e : eqb (state_number s.state) 7 ≡ false). status-back ∙ no_status s.state e;
    slots = slots-clear (fields_of s) fields_fit;
  }

-- Readable bytes, by their parts.
record Known (b : List ℕ) : Type 0 where
  state : get_or b 0 0 ≤ 7
  extra : get_or b 3 0 ≡ 0
  second : get_or b 65 0 ≡ 0
  third : get_or b 66 0 ≡ 0
  high : part 12 b 52 ≡ replicate 12 0
  shared : shared_readable b ≡ true

known : (b : List ℕ) → readable b ≡ true → Known b
unfolding readable
known b e =
    let state = both_true _ _ e in
    let rest = both_true _ _ state.1 in
    let own = both_true _ _ rest.0 in
    let behind = both_true _ _ own.1 in
    let unarmed = both_true _ _ behind.0 in
    record {
      state = leb-true (get_or b 0 0) 7 state.0;
      extra = eqb-true (get_or b 3 0) 0 own.0;
      second = eqb-true (get_or b 65 0) 0 unarmed.0;
      third = eqb-true (get_or b 66 0) 0 unarmed.1;
      high = clear-part 12 b 52 behind.1;
      shared = rest.1;
    }

-- The record that readable bytes stand for fits them.
pub server_fits : (b : List ℕ) → length b ≡ 272 → Octets b → readable b ≡ true → FitsServer (server_in b)
unfolding server_in server_of
server_fits b size octets allowed =
    let f = bytes_fit b size octets (known b allowed).shared in
    record {
      activity = f.activity;
      boot = f.boot;
      number = f.number;
      call = f.call;
      outgoing = f.outgoing;
      incoming = f.incoming;
      resends = subst (λ (n : ℕ). n < 256) (sym (count_again (readable b) _ allowed)) f.count;
      seen = f.cancels;
      tickets = f.tickets;
      resend = f.timer;
      state = state_fits _ _ (number_below 4 true b 48 octets);
    }

-- Bytes that are not readable stand for a record that breaks its rules, so every event refuses them with 2.
pub unreadable_broken : (b : List ℕ) → readable b ≡ false → sound (server_in b) ≡ false
unfolding server_in server_of sound both choose
unreadable_broken b e = rw (count_broken (readable b) (fields_in b).count e)

module _ (b : List ℕ) (canonical : Canonical b) where
  -- The word at 48 is the status, as its high bytes are 0.
  status_whole : number 4 true b 48 ≡ number 8 true b 48
  unfolding number
  status_whole =
      let whole = ap (λ (l : List ℕ). le (part 4 b 48 ++ take 4 l)) (known b canonical.readable).high in
      omega (arith, whole)

  -- There is no ticket of a third timer.
  no_ticket : TicketClear 66 56 b
  unfolding number
  no_ticket e = ap (λ (l : List ℕ). le (drop 4 l)) (known b canonical.readable).high

  fields-same : fields_of (server_in b) ≡ fields_in b
  unfolding fields_of server_in server_of fields_in timer_where choose
  fields-same =
      let k = known b canonical.readable in
      let status : status_of (state_of (get_or b 0 0) (number 4 true b 48)) ≡ number 8 true b 48 =
      status_again (get_or b 0 0) (number 4 true b 48) k.state canonical.status ∙ status_whole in
      let armed : false ≡ eqb (get_or b 65 0) 1 = sym (ap (λ (n : ℕ). eqb n 1) k.second) in
      let cancel : Off ≡ timer_in b 66 56 =
      sym (ap (λ (n : ℕ). timer_where (eqb n 1) (number 8 true b 56)) k.third) in
      λ i. record {
        state = state_again (get_or b 0 0) (number 4 true b 48) k.state i;
        count = count_again (readable b) (get_or b 2 0) canonical.readable i;
        extra = sym k.extra i;
        activity = uuid_in b 96;
        number = number 4 true b 16;
        boot = number 4 true b 28;
        call = call_in b;
        outgoing = outgoing_in b;
        incoming = incoming_in b;
        tickets = number 8 true b 32;
        timer = timer_in b 64 40;
        armed = armed i;
        word = status i;
        cancel = cancel i;
        cancels = number 4 true b 68;
      }

  -- Canonical bytes as a record and back are the bytes again.
  pub server_again : bytes_of_server (server_in b) ≡ b
  unfolding bytes_of_server
  server_again =
      ap field_bytes fields-same
      ∙ fields_again b canonical.size canonical.octets (known b canonical.readable).shared
      canonical.resend no_ticket canonical.slots
