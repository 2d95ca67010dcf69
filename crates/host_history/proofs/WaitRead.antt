-- What arms WAIT afresh does not leave it armed, in the bytes, with the ticket that it had.
use Prim.Native.Nat.{ℕ}
use mathlib.Core.Bool.{true}
use mathlib.Core.List.{List}
use mathlib.Core.Logic.{inl, inr}
use mathlib.Core.Path.{◌≡◌, sym, ap, subst, ◌∙◌}
use native.Mathlib.Omega.{arith}
use lib.ListN.{drop, length-drop}
use Rattle.words.specs.Number.{number}
use Rattle.answers.specs.Answer.{Done}
use Rattle.incoming.specs.declared.Incoming.{Incoming}
use Rattle.reader.specs.Reading.{reading}
use Rattle.timers.specs.Timer.{Armed}
use Rattle.record_bytes.specs.Parts.{last_field}
use Rattle.record_bytes.specs.Held.{slots_bytes, slots_in}
use Rattle.record_bytes.specs.Layout.{fields_in, incoming_in}
use Rattle.record_bytes.proofs.ByteLaws.{octets_drop}
use Rattle.record_bytes.proofs.Reading.{last_again}
use Rattle.record_bytes.proofs.SlotReading.{slots_again}
use Rattle.record_bytes.proofs.FieldsAgain.{known}
use Rattle.client.specs.declared.records.TimerKind.TheVariants.{Wait}
use Rattle.client_bytes.specs.Canonical.{Canonical}
use Rattle.client_bytes.specs.Layout.{client_in, client_of}
use Rattle.history.specs.World.{World}
use Rattle.history.specs.Events.{ClientArrive as ArriveOf, OfClient}
use Rattle.history.specs.Steps.{answer_to, step, run}
use Rattle.history.specs.Timers.{OnClient, timer_in, Renews, ArmedAfresh}
use Rattle.host_history.specs.Hosts.{HostWorld, world_of, ClientArrive, ToClient, host_step}
use Rattle.host_history.specs.Meaning.{meant, Keeps}
use Rattle.host_history.specs.HostReads.{WaitTimer, type_byte}
use Rattle.host_history.specs.HostDemand.{HeldSame, RenewsWait, WaitAfresh}
use Rattle.host_history.proofs.SameRun.{same_step, keeps_step, told}
use Rattle.host_history.proofs.TimersRead.{shared_client, armed_told}
use Rattle.host_history.proofs.Datagrams.{kind_there, client_took}

-- Where the same is held, the bytes that tell it are the same.
slots_there : (b : List ℕ) → Canonical b → slots_bytes (slots_in (drop 144 b)) ≡ drop 144 b
slots_there b canonical =
    slots_again (drop 144 b) (octets_drop 144 b canonical.octets)
    (omega (arith, length-drop 144 b, canonical.size)) (known b (shared_client b canonical)).slots canonical.slots

held_same : (before after : List ℕ) → Canonical before → Canonical after
    → (client_in after).incoming ≡ (client_in before).incoming → HeldSame before after
unfolding client_in client_of fields_in incoming_in
held_same before after known-before known-after same = record {
  last =
      sym (last_again (number 2 true after 10)) ∙ ap (λ (m : Incoming). last_field m.last) same
      ∙ last_again (number 2 true before 10);
  slots =
      sym (slots_there after known-after) ∙ ap (λ (m : Incoming). slots_bytes m.slots) same
      ∙ slots_there before known-before;
}

pub afresh_read : (h : HostWorld) → Keeps h → ArmedAfresh (world_of h) → WaitAfresh h
unfolding ArmedAfresh WaitAfresh run meant
afresh_read h keeps afresh p lent out small done renews ticket armed again =
    let call = ToClient (ClientArrive p lent out) in
    let e = OfClient (ArriveOf p lent out) in
    let answered : answer_to (world_of h) e ≡ Done = sym (told h call keeps small).answer ∙ done in
    let next : world_of (host_step h call) ≡ step (world_of h) e = same_step h call keeps small in
    let kind = kind_there p.bytes (client_took (world_of h) p lent out answered) in
    afresh p lent out answered (by_kind kind next renews) ticket (armed_told h WaitTimer ticket armed)
    (subst (λ (w : World). timer_in w (OnClient Wait) ≡ Armed ticket) next
    (armed_told (host_step h call) WaitTimer ticket again))
  where
    by_kind : (reading p.bytes).header.kind ≡ type_byte p.bytes
        → world_of (host_step h (ToClient (ClientArrive p lent out))) ≡ step (world_of h) (OfClient (ArriveOf p lent out))
        → RenewsWait (type_byte p.bytes) h.client.machine
        (host_step h (ToClient (ClientArrive p lent out))).client.machine
        → Renews (reading p.bytes).header.kind (world_of h).client.machine.incoming
        (step (world_of h) (OfClient (ArriveOf p lent out))).client.machine.incoming
    by_kind kind next (inl four) = inl (kind ∙ four)
    by_kind kind next (inr changed) =
        inr (
          kind ∙ changed.0,
          λ same.
              changed.1
              (held_same h.client.machine (host_step h (ToClient (ClientArrive p lent out))).client.machine
              keeps.client (keeps_step h (ToClient (ClientArrive p lent out)) keeps small).client
              (ap (λ (w : World). w.client.machine.incoming) next ∙ same)),
        )
