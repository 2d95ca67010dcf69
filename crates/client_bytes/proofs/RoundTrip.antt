-- The client's record as bytes and back is the record again; canonical bytes as a record and back are the bytes again.
use Prim.Native.Nat.{ℕ, ◌≤◌, ◌<◌}
use mathlib.Core.Bool.{Bool, true, false}
use mathlib.Core.List.{List}
use mathlib.Core.Path.{◌≡◌, refl, sym, ap, subst, ◌∙◌}
use native.Mathlib.Omega.{arith}
use lib.Dec.{eqb}
use lib.ListN.{length, get_or}
use borrow.Author.Tests.{le-leb, leb-true}
use Rattle.words.specs.Choice.{choose, both}
use Rattle.words.specs.Number.{le, number}
use Rattle.words.proofs.Tests.{both_hold, both_true}
use Rattle.record_bytes.specs.Fits.{Octets, FitsFields}
use Rattle.record_bytes.specs.Parts.{clear, count_where, timer_in, uuid_in}
use Rattle.record_bytes.specs.Layout.{readable as shared_readable, call_in, outgoing_in, incoming_in, fields_in, field_bytes}
use Rattle.record_bytes.proofs.PartLaws.{timer-same, ticket_small, ticket-clear}
use Rattle.record_bytes.proofs.FieldsBack.{fields_back, bytes-readable, length_fields, octets_fields}
use Rattle.record_bytes.proofs.FieldsBack.{slots-clear, timer-clear, cancel-clear}
use Rattle.record_bytes.proofs.Reading.{clear-part, armed_again, ticket_again, timer_fits, count_again, count_broken}
use Rattle.record_bytes.proofs.FieldsAgain.{known as shared-known, bytes_fit, fields_again}
use Rattle.client.specs.declared.records.Client.{Client}
use Rattle.client.specs.records.Rules.{counts_sound, sound}
use Rattle.client_bytes.specs.Canonical.{Canonical}
use Rattle.client_bytes.specs.Fits.{FitsClient}
use Rattle.client_bytes.specs.Layout.{readable, client_of, client_in, fields_of, bytes_of_client}
use Rattle.client_bytes.proofs.StateLaws.{state_back, state_small, state_again}

module _ (c : Client) (fits : FitsClient c) where
  -- What the bytes hold fits them, and they are readable.
  fields_fit : FitsFields (fields_of c)
  unfolding fields_of
  fields_fit = record {
    state = omega (arith, state_small c.state);
    count = fits.waits;
    extra = fits.resends;
    activity = fits.activity;
    number = fits.number;
    boot = omega arith;
    call = fits.call;
    outgoing = fits.outgoing;
    incoming = fits.incoming;
    tickets = fits.tickets;
    timer = fits.wait;
    word = ticket_small c.ack fits.ack;
    cancel = fits.cancel;
    cancels = fits.cancels;
  }

  pub client-readable : readable (bytes_of_client c) ≡ true
  unfolding readable bytes_of_client field_bytes fields_of clear both choose
  client-readable =
      both_hold _ _ (le-leb _ _ (state_small c.state))
      (both_hold _ _ refl (bytes-readable (fields_of c) fields_fit))

  same : client_of true (fields_of c) ≡ c
  unfolding client_of fields_of count_where choose
  same = λ i. record {
    state = state_back c.state i;
    activity = c.activity;
    number = c.number;
    call = c.call;
    outgoing = c.outgoing;
    incoming = c.incoming;
    waits = c.waits;
    resends = c.resends;
    cancels = c.cancels;
    tickets = c.tickets;
    wait = c.wait;
    ack = timer-same c.ack i;
    cancel = c.cancel;
  }

  -- A record as bytes and back is the record again.
  pub client-back : client_in (bytes_of_client c) ≡ c
  unfolding client_in bytes_of_client
  client-back =
      ap (λ (r : Bool). client_of r (fields_in (bytes_of_client c))) client-readable
      ∙ ap (client_of true) (fields_back (fields_of c) fields_fit)
      ∙ same

  -- The bytes of a record are canonical.
  pub client_canonical : Canonical (bytes_of_client c)
  unfolding bytes_of_client fields_of field_bytes number
  client_canonical = record {
    size = length_fields (fields_of c) fields_fit;
    octets = octets_fields (fields_of c) fields_fit;
    readable = client-readable;
    wait = timer-clear (fields_of c) fields_fit;
    ack = ticket-clear c.ack;
    cancel = cancel-clear (fields_of c) fields_fit;
    slots = slots-clear (fields_of c) fields_fit;
  }

-- Readable bytes, by their parts.
record Known (b : List ℕ) : Type 0 where
  state : get_or b 0 0 ≤ 6
  boot : number 4 true b 28 ≡ 0
  shared : shared_readable b ≡ true

known : (b : List ℕ) → readable b ≡ true → Known b
unfolding readable number
known b e =
    let state = both_true _ _ e in
    let rest = both_true _ _ state.1 in
    record {
      state = leb-true (get_or b 0 0) 6 state.0;
      boot = ap le (clear-part 4 b 28 rest.0);
      shared = rest.1;
    }

-- The record that readable bytes stand for fits them.
pub client_fits : (b : List ℕ) → length b ≡ 272 → Octets b → readable b ≡ true → FitsClient (client_in b)
unfolding client_in client_of
client_fits b size octets allowed =
    let f = bytes_fit b size octets (known b allowed).shared in
    record {
      activity = f.activity;
      number = f.number;
      call = f.call;
      outgoing = f.outgoing;
      incoming = f.incoming;
      waits = subst (λ (n : ℕ). n < 256) (sym (count_again (readable b) _ allowed)) f.count;
      resends = f.extra;
      cancels = f.cancels;
      tickets = f.tickets;
      wait = f.timer;
      ack = timer_fits _ _ f.word;
      cancel = f.cancel;
    }

-- Bytes that are not readable stand for a record that breaks its rules, so every event refuses them with 2.
pub unreadable_broken : (b : List ℕ) → readable b ≡ false → sound (client_in b) ≡ false
unfolding client_in client_of sound counts_sound both choose
unreadable_broken b e = rw (count_broken (readable b) (fields_in b).count e)

module _ (b : List ℕ) (canonical : Canonical b) where
  fields-same : fields_of (client_in b) ≡ fields_in b
  unfolding fields_of client_in client_of fields_in
  fields-same = λ i. record {
    state = state_again (get_or b 0 0) (known b canonical.readable).state i;
    count = count_again (readable b) (get_or b 2 0) canonical.readable i;
    extra = get_or b 3 0;
    activity = uuid_in b 96;
    number = number 4 true b 16;
    boot = sym (known b canonical.readable).boot i;
    call = call_in b;
    outgoing = outgoing_in b;
    incoming = incoming_in b;
    tickets = number 8 true b 32;
    timer = timer_in b 64 40;
    armed = armed_again (eqb (get_or b 65 0) 1) (number 8 true b 48) i;
    word = ticket_again b 65 48 (shared-known b (known b canonical.readable).shared).second canonical.ack i;
    cancel = timer_in b 66 56;
    cancels = number 4 true b 68;
  }

  -- Canonical bytes as a record and back are the bytes again.
  pub client_again : bytes_of_client (client_in b) ≡ b
  unfolding bytes_of_client
  client_again =
      ap field_bytes fields-same
      ∙ fields_again b canonical.size canonical.octets (known b canonical.readable).shared canonical.wait
      canonical.cancel canonical.slots
