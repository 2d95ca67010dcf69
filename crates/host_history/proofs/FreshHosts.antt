-- What morphelai_client_fresh and morphelai_server_fresh leave stands for fresh records.
use Prim.Native.Nat.{ℕ, ◌<◌}
use mathlib.Core.Bool.{Bool, true, false}
use mathlib.Core.List.{List, []}
use mathlib.Core.Path.{◌≡◌, refl, sym, ap, subst, ◌∙◌}
use native.Mathlib.Omega.{arith}
use lib.Dec.{eqb}
use lib.ListN.{length}
use borrow.Author.Tests.{eqb-true, eq-eqb}
use Rattle.words.specs.Choice.{choose, both}
use Rattle.words.proofs.Tests.{choose_true, both_hold, both_true}
use Rattle.record_bytes.specs.Fits.{Octets, Uuid}
use Rattle.record_bytes.specs.Parts.{uuid_in}
use Rattle.client.specs.records.Record.{fresh as client_record}
use Rattle.client_bytes.specs.Layout.{client_in}
use Rattle.client_bytes.specs.Canonical.{Canonical as ClientCanonical}
use Rattle.server.specs.records.Record.{fresh as server_record}
use Rattle.server_bytes.specs.Layout.{server_in}
use Rattle.server_bytes.specs.Canonical.{Canonical as ServerCanonical}
use Rattle.history.specs.Freshness.{FreshClient, FreshServer, Fresh}
use Rattle.history.proofs.Beginning.{client_record_fresh, server_record_fresh}
use Rattle.morphelai.specs.Export.{Export, sized, refusing}
use Rattle.morphelai.specs.ClientDoor.{client_fresh}
use Rattle.morphelai.specs.ServerDoor.{server_fresh}
use Rattle.host_history.specs.Hosts.{HostWorld, world_of}
use Rattle.host_history.specs.Meaning.{FreshClientBytes, FreshServerBytes, FreshHost, Keeps}
use Rattle.host_history.proofs.ClientFields.{fresh_client_fits}
use Rattle.host_history.proofs.ServerFields.{fresh_server_fits}
use Rattle.host_history.proofs.Shown.{Lies}
use Rattle.host_history.proofs.ClientCalls.{uuid-given, client-placed}
use Rattle.host_history.proofs.ServerCalls.{server-placed}

-- What is answered 0 passed its test, so its bytes are those left there.
passed : (test : Bool) (x : Export) (bytes : List ℕ) → (choose test x (refusing bytes [] [])).result ≡ 0 → test ≡ true
unfolding choose refusing
passed true x bytes e = refl
passed false x bytes e = absurd (omega arith)

left_there : (test : Bool) (x : Export) (bytes : List ℕ) → test ≡ true
    → (choose test x (refusing bytes [] [])).bytes ≡ x.bytes
left_there test x bytes e = ap (λ (y : Export). y.bytes) (choose_true test x (refusing bytes [] []) e)

-- The record lent has 272 bytes, and the activity 16.
record Sized (lent activity : List ℕ) : Type 0 where
  size : length lent ≡ 272
  uuid : Octets activity → Uuid (uuid_in activity 0)

sizes : (lent activity : List ℕ) → both (sized lent) (eqb (length activity) 16) ≡ true → Sized lent activity
unfolding sized
sizes lent activity e =
    let tests = both_true _ _ e in
    record {
      size = eqb-true (length lent) 272 tests.0;
      uuid =
          λ octets.
          subst Uuid (sym (uuid-given activity tests.1))
          (record { size = eqb-true (length activity) 16 tests.1; octets = octets });
    }

module _ (bytes : List ℕ) (f : FreshClientBytes bytes) where
  client_test : both (sized f.lent) (eqb (length f.activity) 16) ≡ true
  unfolding client_fresh
  client_test = passed _ _ f.lent f.answered

  client-uuid : Uuid (uuid_in f.activity 0)
  client-uuid = (sizes f.lent f.activity client_test).uuid f.octets

  -- The bytes stand for the record that client_record::fresh gives,
  fresh_client_lies : Lies client_in ClientCanonical bytes (client_record (uuid_in f.activity 0) f.tickets)
  unfolding client_fresh
  fresh_client_lies =
      let c = client_record (uuid_in f.activity 0) f.tickets in
      subst (λ (b : List ℕ). Lies client_in ClientCanonical b c) (sym (f.left ∙ left_there _ _ f.lent client_test))
      (client-placed f.lent c (sizes f.lent f.activity client_test).size
      (fresh_client_fits (uuid_in f.activity 0) f.tickets client-uuid f.small))

  -- which is fresh.
  pub fresh-client : FreshClient (client_in bytes)
  fresh-client =
      subst FreshClient (sym fresh_client_lies.same)
      (client_record_fresh (uuid_in f.activity 0) f.tickets client-uuid.size)

module _ (bytes : List ℕ) (f : FreshServerBytes bytes) where
  server_test : both (sized f.lent) (eqb (length f.activity) 16) ≡ true
  unfolding server_fresh
  server_test = passed _ _ f.lent f.answered

  server-uuid : Uuid (uuid_in f.activity 0)
  server-uuid = (sizes f.lent f.activity server_test).uuid f.octets

  -- The bytes stand for the record that server_record::fresh gives,
  fresh_server_lies :
      Lies server_in ServerCanonical bytes (server_record (uuid_in f.activity 0) f.boot f.tickets)
  unfolding server_fresh
  fresh_server_lies =
      let s = server_record (uuid_in f.activity 0) f.boot f.tickets in
      subst (λ (b : List ℕ). Lies server_in ServerCanonical b s) (sym (f.left ∙ left_there _ _ f.lent server_test))
      (server-placed f.lent s (sizes f.lent f.activity server_test).size
      (fresh_server_fits (uuid_in f.activity 0) f.boot f.tickets server-uuid f.booted f.small))

  -- which is fresh.
  pub fresh-server : FreshServer (server_in bytes)
  fresh-server =
      subst FreshServer (sym fresh_server_lies.same)
      (server_record_fresh (uuid_in f.activity 0) f.boot f.tickets server-uuid.size f.booted)

-- And any 272 bytes with an activity of 16 are made fresh: there are hosts that begin.
answered_there : (lent activity : List ℕ) (x : Export) → length lent ≡ 272 → length activity ≡ 16
    → x.result ≡ 0 → (choose (both (sized lent) (eqb (length activity) 16)) x (refusing lent [] [])).result ≡ 0
unfolding sized
answered_there lent activity x whole size zero =
    ap (λ (y : Export). y.result)
    (choose_true _ x (refusing lent [] [])
    (both_hold _ _ (eq-eqb (length lent) 272 whole) (eq-eqb (length activity) 16 size)))
    ∙ zero

pub client_begins : (lent activity : List ℕ) (tickets : ℕ) → length lent ≡ 272 → Uuid activity
    → tickets < 18446744073709551616 → FreshClientBytes (client_fresh lent activity tickets).bytes
unfolding client_fresh
client_begins lent activity tickets whole uuid small = record {
  lent = lent;
  activity = activity;
  tickets = tickets;
  octets = uuid.octets;
  small = small;
  answered = answered_there lent activity _ whole uuid.size refl;
  left = refl;
}

pub server_begins : (lent activity : List ℕ) (boot tickets : ℕ) → length lent ≡ 272 → Uuid activity → boot < 4294967296
    → tickets < 18446744073709551616 → FreshServerBytes (server_fresh lent activity boot tickets).bytes
unfolding server_fresh
server_begins lent activity boot tickets whole uuid booted small = record {
  lent = lent;
  activity = activity;
  boot = boot;
  tickets = tickets;
  octets = uuid.octets;
  booted = booted;
  small = small;
  answered = answered_there lent activity _ whole uuid.size refl;
  left = refl;
}

-- Those bytes stand for the records that client_record::fresh and server_record::fresh give.
pub client-begun : (lent activity : List ℕ) (tickets : ℕ) → length lent ≡ 272 → Uuid activity
    → tickets < 18446744073709551616
    → client_in (client_fresh lent activity tickets).bytes ≡ client_record activity tickets
unfolding client_begins
client-begun lent activity tickets whole uuid small =
    (fresh_client_lies _ (client_begins lent activity tickets whole uuid small)).same
    ∙ ap (λ (u : List ℕ). client_record u tickets) (uuid-given activity (eq-eqb _ _ uuid.size))

pub server-begun : (lent activity : List ℕ) (boot tickets : ℕ) → length lent ≡ 272 → Uuid activity → boot < 4294967296
    → tickets < 18446744073709551616
    → server_in (server_fresh lent activity boot tickets).bytes ≡ server_record activity boot tickets
unfolding server_begins
server-begun lent activity boot tickets whole uuid booted small =
    (fresh_server_lies _ (server_begins lent activity boot tickets whole uuid booted small)).same
    ∙ ap (λ (u : List ℕ). server_record u boot tickets) (uuid-given activity (eq-eqb _ _ uuid.size))

-- A host that begins keeps canonical bytes, and its world is a fresh one.
module _ (h : HostWorld) (f : FreshHost h) where
  pub fresh_keeps : Keeps h
  fresh_keeps = record {
    client = (fresh_client_lies h.client.machine f.client).canonical;
    server = (fresh_server_lies h.server.machine f.server).canonical;
  }

  pub fresh_world : Fresh (world_of h)
  fresh_world = record {
    client = fresh-client h.client.machine f.client;
    server = fresh-server h.server.machine f.server;
    client_unsent = f.client_unsent;
    server_unsent = f.server_unsent;
    books = f.books;
  }
