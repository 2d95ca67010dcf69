-- Tickets over lists of events: one that is gone never comes back.
use Prim.Native.Nat.{ℕ, ◌≤◌, ◌<◌}
use mathlib.Core.List.{List, [], ◌∷◌}
use mathlib.Core.Logic.{◌⊎◌, inl, inr}
use mathlib.Core.Path.{◌≡◌, refl}
use native.Mathlib.Omega.{arith}
use Rattle.reader.specs.Reading.{reading}
use Rattle.timers.specs.Timer.{Armed}
use Rattle.timers.proofs.TimerLaws.{Moved, stays_moved}
use Rattle.client.specs.declared.records.Client.{Client}
use Rattle.client.specs.declared.records.TimerKind.TheVariants.{Wait, Ack, Cancel}
use Rattle.client.specs.records.Named.{named_timer}
use Rattle.client.proofs.TicketLaws.{ClientMoved, start_moves, transmit_moves as client-transmit-moves, timer_moves as client-timer-moves, cancel_moves, arrive_moves as client-arrive-moves, timer_spends as client-timer-spends, Renewing, arrive_spends}
use Rattle.server.specs.declared.records.Server.{Server}
use Rattle.server.proofs.TicketLaws.{ServerMoved, reply_moves, transmit_moves as server-transmit-moves, fault_moves, timer_moves as server-timer-moves, arrive_moves as server-arrive-moves, timer_spends as server-timer-spends}
use Rattle.history.specs.World.{Side, World}
use Rattle.history.specs.Events.{ClientEvent, ServerEvent, Event, Start, ClientTransmit, ClientArrive, ClientTimer, ClientCancel, ServerArrive, ServerTransmit, ServerTimer, Reply, Fault, OfClient, OfServer}
use Rattle.history.specs.Steps.{bytes_lent, client_turn, server_turn, happens, answer_to, step, run}
use Rattle.history.specs.Timers.{TimerOf, OnClient, OnServer, timer_in, timer_event, ActsOnce, Renews, ArmedAfresh}

-- The ticket counter of a timer's side.
abbrev pub counter_of : World → TimerOf → ℕ
counter_of w (OnClient kind) = w.client.machine.tickets
counter_of w OnServer = w.server.machine.tickets

-- Every event of a side moves its timers as its ticket counter allows: the client's,
client_turn_moves : (c : Side Client) (e : ClientEvent) → ClientMoved c.machine (client_turn c e).machine
client_turn_moves c (Start call n message) = start_moves c.machine call n
client_turn_moves c (ClientTransmit message out) = client-transmit-moves c.machine message out
client_turn_moves c (ClientArrive p lent out) = client-arrive-moves c.machine p.bytes (bytes_lent lent c.slots) out
client_turn_moves c (ClientTimer kind ticket out) = client-timer-moves c.machine kind ticket out
client_turn_moves c (ClientCancel out) = cancel_moves c.machine out

-- and the server's.
server_turn_moves : (s : Side Server) (e : ServerEvent) → ServerMoved s.machine (server_turn s e).machine
server_turn_moves s (ServerArrive p lent out) = server-arrive-moves s.machine p.bytes (bytes_lent lent s.slots) out
server_turn_moves s (ServerTransmit message out) = server-transmit-moves s.machine message out
server_turn_moves s (ServerTimer ticket out) = server-timer-moves s.machine ticket out
server_turn_moves s (Reply n message) = reply_moves s.machine n
server_turn_moves s (Fault status out) = fault_moves s.machine status out

-- So does every timer at every event; those of the other side stay.
step_moves : (w : World) (e : Event) (timer : TimerOf)
    → Moved (timer_in w timer) (timer_in (step w e) timer) (counter_of w timer) (counter_of (step w e) timer)
unfolding step happens timer_in
step_moves w (OfClient e) (OnClient Wait) = (client_turn_moves w.client e).wait
step_moves w (OfClient e) (OnClient Ack) = (client_turn_moves w.client e).ack
step_moves w (OfClient e) (OnClient Cancel) = (client_turn_moves w.client e).cancel
step_moves w (OfClient e) OnServer = stays_moved w.server.machine.resend w.server.machine.tickets w.server.machine.resend refl
step_moves w (OfServer e) (OnClient Wait) = stays_moved w.client.machine.wait w.client.machine.tickets w.client.machine.wait refl
step_moves w (OfServer e) (OnClient Ack) = stays_moved w.client.machine.ack w.client.machine.tickets w.client.machine.ack refl
step_moves w (OfServer e) (OnClient Cancel) =
    stays_moved w.client.machine.cancel w.client.machine.tickets w.client.machine.cancel refl
step_moves w (OfServer e) OnServer = (server_turn_moves w.server e).resend

-- The counter never falls over a list,
pub run_counts : (w : World) (events : List Event) (timer : TimerOf) → counter_of w timer ≤ counter_of (run w events) timer
unfolding run
run_counts w [] timer = omega arith
run_counts w (e ∷ es) timer =
    let first = (step_moves w e timer).rises in
    let rest = run_counts (step w e) es timer in
    omega arith

-- and a ticket up to the counter that is not armed never is again.
pub run_gone : (w : World) (events : List Event) (timer : TimerOf) (ticket : ℕ) → ticket ≤ counter_of w timer → (timer_in w timer ≡ Armed ticket → ⊥)
    → timer_in (run w events) timer ≡ Armed ticket → ⊥
unfolding run
run_gone w [] timer ticket most gone = gone
run_gone w (e ∷ es) timer ticket most gone =
    run_gone (step w e) es timer ticket (omega (arith, (step_moves w e timer).rises)) still
  where
    by_move : (timer_in w timer ≡ Armed ticket) ⊎ (counter_of w timer < ticket) → ⊥
    by_move (inl armed) = gone armed
    by_move (inr above) = omega arith

    still : timer_in (step w e) timer ≡ Armed ticket → ⊥
    still armed = by_move ((step_moves w e timer).fresh ticket armed)

-- A ticket that acts is no longer armed.
pub acts_once : (w : World) → ActsOnce w
unfolding ActsOnce answer_to happens timer_event timer_in step named_timer
acts_once w (OnClient Wait) ticket out done = client-timer-spends w.client.machine Wait ticket out done
acts_once w (OnClient Ack) ticket out done = client-timer-spends w.client.machine Ack ticket out done
acts_once w (OnClient Cancel) ticket out done = client-timer-spends w.client.machine Cancel ticket out done
acts_once w OnServer ticket out done = server-timer-spends w.server.machine ticket out done

-- What arms afresh does not leave WAIT armed with the ticket that it had.
pub armed_afresh_lem : (w : World) → ArmedAfresh w
unfolding ArmedAfresh answer_to happens step timer_in
armed_afresh_lem w p lent out done known = arrive_spends w.client.machine p.bytes (bytes_lent lent w.client.slots) out done (renewing known)
  where
    renewing : Renews (reading p.bytes).header.kind w.client.machine.incoming
        (step w (OfClient (ClientArrive p lent out))).client.machine.incoming
        → Renewing (reading p.bytes).header.kind
    renewing (inl working) = inr working
    renewing (inr response) = inl response.0
