-- Every event of the first run has arguments that fit, where its messages and the PDU buffer are bytes.
use Prim.Native.Nat.{ℕ, ◌+◌, ◌<◌}
use mathlib.Core.List.{List, [], ◌∷◌, ◌++◌}
use mathlib.Core.Path.{refl}
use native.Mathlib.Omega.{arith}
use lib.Dec.{eqb}
use Rattle.words.specs.Choice.{choose}
use Rattle.flags.specs.Flags.{with_flag}
use Rattle.pdu.specs.Header.{datagram}
use Rattle.bodies.specs.Fack.{fack_bytes, fack_fields}
use Rattle.calls.specs.Sent.{sent_header}
use Rattle.outgoing.specs.Message.{fragment_of, flags_of}
use Rattle.record_bytes.specs.Fits.{Octets, FitsCall}
use Rattle.record_bytes.proofs.Keeping.{choice_keeps}
use Rattle.client.specs.declared.records.TimerKind.TheVariants.{Wait}
use Rattle.history.specs.Events.{Event, Own, ClientTransmit, ClientTimer, ServerTransmit, OfClient, OfServer}
use Rattle.history.proofs.ListLaws.{All}
use Rattle.host_history.specs.Arguments.{EventFits}
use Rattle.runs.specs.Runs.{Story, events_of, activity, client_gets, server_gets, called, request, ping, ack, response, working, nocall, server_fack, client_fack, asked, asked_again, answered, answered_again, closed, lossy}
use Rattle.host_runs.proofs.PduOctets.{fragment_octets, pdu_octets}

-- Every event of a story fits.
abbrev pub StoryFits : Story → Type 0
StoryFits story = All (λ (t : Event × ℕ). EventFits t.0) story

pub story_joined : (one two : Story) → StoryFits one → StoryFits two → StoryFits (one ++ two)
story_joined [] two first second = second
story_joined (t ∷ ts) two first second = (first.0, story_joined ts two first.1 second)

pub story_events_lem : (story : Story) → StoryFits story → All EventFits (events_of story)
story_events_lem [] fits = tt
story_events_lem (t ∷ ts) fits = (fits.0, story_events_lem ts fits.1)

-- The call's data, and the run's PDUs.
pub called_fits : FitsCall called
called_fits = record {
  object = record { size = refl; octets = omega arith };
  interface = record { size = refl; octets = omega arith };
  version = omega arith;
  operation = omega arith;
}

flags_small : (f : ℕ) → flags_of 3 f < 256
unfolding flags_of with_flag choose
flags_small f = choice_keeps (λ (n : ℕ). n < 256) (eqb (f + 1) 3) 6 4 (omega arith) (omega arith)

empty_octets : (kind serial boot : ℕ) → kind < 256
    → Octets (datagram (sent_header kind 0 serial activity boot 0 called 0) [])
empty_octets kind serial boot named =
    pdu_octets kind 0 serial activity boot 0 called 0 [] named (omega arith) (omega arith) called_fits tt

fack_octets : (serial boot g mask answered : ℕ)
    → Octets (datagram (sent_header 9 0 serial activity boot 0 called g) (fack_bytes (fack_fields answered mask)))
unfolding fack_bytes
fack_octets serial boot g mask answered =
    pdu_octets 9 0 serial activity boot 0 called g (fack_bytes (fack_fields answered mask)) (omega arith) (omega arith)
    (omega arith) called_fits (omega arith)

part_octets : (kind boot : ℕ) (message : List ℕ) (f serial : ℕ) → kind < 256 → Octets message
    → Octets (datagram (sent_header kind (flags_of 3 f) serial activity boot 0 called f) (fragment_of message f))
part_octets kind boot message f serial named octets =
    pdu_octets kind (flags_of 3 f) serial activity boot 0 called f (fragment_of message f) named (flags_small f)
    (omega arith) called_fits (fragment_octets message f octets)

module _ (message reply out : List ℕ) (asks : Octets message) (answers : Octets reply) (room : Octets out) where
  -- A transmit of either side,
  sends : EventFits (OfClient (ClientTransmit message out))
  sends = (asks, room)

  replies : EventFits (OfServer (ServerTransmit reply out))
  replies = (answers, room)

  -- the timer WAIT,
  waits : EventFits (OfClient (ClientTimer Wait 6 out))
  waits = (omega arith, room)

  -- a request, ping or ack that arrives,
  gets : (f serial : ℕ) → EventFits (server_gets (request message f serial) Own out)
  gets f serial = (part_octets 0 0 message f serial (omega arith) asks, tt, room)

  pinged : (serial : ℕ) → EventFits (server_gets (ping serial) Own out)
  pinged serial = (empty_octets 1 serial 0 (omega arith), tt, room)

  acked : (serial : ℕ) → EventFits (server_gets (ack serial) Own out)
  acked serial = (empty_octets 7 serial 0 (omega arith), tt, room)

  -- a fack of either side,
  client_facked : (serial g mask answered : ℕ) → EventFits (server_gets (client_fack serial g mask answered) Own out)
  client_facked serial g mask answered = (fack_octets serial 0 g mask answered, tt, room)

  server_facked : (g mask answered : ℕ) → EventFits (client_gets (server_fack g mask answered) Own out)
  server_facked g mask answered = (fack_octets 0 7 g mask answered, tt, room)

  -- a response, working or nocall,
  comes : (f serial : ℕ) → EventFits (client_gets (response reply f serial) Own out)
  comes f serial = (part_octets 2 7 reply f serial (omega arith) answers, tt, room)

  worked : EventFits (client_gets working Own out)
  worked = (empty_octets 4 0 7 (omega arith), tt, room)

  none : EventFits (client_gets nocall Own out)
  none = (empty_octets 5 0 7 (omega arith), tt, room)

  -- and so each part of the run.
  asked_fits : StoryFits (asked message reply out)
  asked_fits =
      let facked : StoryFits ((client_gets (server_fack 0 2 1) Own out, 0) ∷ (client_gets (server_fack 65535 4 3) Own out, 0) ∷ []) =
      (server_facked 0 2 1, (server_facked 65535 4 3, tt)) in
      ((called_fits, omega arith), (sends, (sends, (sends, (gets 2 3, (gets 0 1, (gets 0 1, facked)))))))

  sent_again : StoryFits (asked_again message reply out)
  sent_again = (waits, (waits, (pinged 4, (none, (sends, (sends, (gets 1 5, (gets 2 6, (worked, tt)))))))))

  answered_fits : StoryFits (answered message reply out)
  answered_fits =
      (omega arith, (replies, (replies, (replies, (comes 1 2, (comes 0 1, (client_facked 6 1 0 1, ((omega arith, room), tt))))))))

  answered_again_lem : StoryFits (answered_again message reply out)
  answered_again_lem =
      (pinged 7, (replies, ((omega arith, room), (client_facked 6 65535 2 2, (comes 0 1, (comes 2 4, (comes 2 4, tt)))))))

  closed_fits : StoryFits (closed message reply out)
  closed_fits = ((omega arith, room), (acked 7, (client_facked 7 2 0 4, (gets 0 1, (comes 1 2, tt)))))

  -- One behind the other, from the end.
  answers_fit : StoryFits (answered message reply out ++ (answered_again message reply out ++ closed message reply out))
  answers_fit =
      story_joined (answered message reply out) (answered_again message reply out ++ closed message reply out)
      answered_fits
      (story_joined (answered_again message reply out) (closed message reply out) answered_again_lem closed_fits)

  pub lossy_fits : All EventFits (events_of (lossy message reply out))
  lossy_fits =
      let rest = answered message reply out ++ (answered_again message reply out ++ closed message reply out) in
      story_events_lem (lossy message reply out)
      (story_joined (asked message reply out) (asked_again message reply out ++ rest) asked_fits
      (story_joined (asked_again message reply out) rest sent_again answers_fit))
