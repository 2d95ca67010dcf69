-- Bytes that are not readable are refused by every exported event, whatever else it is given: with 1 where a length is
-- wrong, else with 2. And they have no part.
use Prim.Native.Nat.{ℕ}
use mathlib.Core.Bool.{Bool, true, false}
use mathlib.Core.List.{List, []}
use mathlib.Core.Logic.{◌⊎◌, inl, inr}
use mathlib.Core.Path.{◌≡◌, refl, sym, ap, subst, ◌∙◌}
use lib.ListN.{length}
use Rattle.words.specs.Choice.{choose}
use Rattle.words.proofs.Tests.{choose_true, choose_false}
use Rattle.answers.specs.declared.Refusal.TheVariants.{WrongLength, BrokenRecord}
use Rattle.answers.specs.Answer.{Answer, Refused}
use Rattle.fragments.specs.Joined.{part_of}
use Rattle.incoming.specs.declared.Incoming.{Incoming}
use Rattle.record_bytes.proofs.Keeping.{choice_keeps}
use Rattle.client.specs.Machine.{handed_up_of as client_handed_up}
use Rattle.client_bytes.specs.Layout.{readable as client_readable}
use Rattle.client_bytes.proofs.RoundTrip.{unreadable_broken as client-broken}
use Rattle.server.specs.Machine.{handed_up_of as server_handed_up}
use Rattle.server_bytes.specs.Layout.{readable as server_readable}
use Rattle.server_bytes.proofs.RoundTrip.{unreadable_broken as server-broken}
use Rattle.morphelai.specs.Export.{sized}
use Rattle.morphelai.specs.ClientDoor.{client_part}
use Rattle.morphelai.specs.ServerDoor.{server_part}
use Rattle.host_history.specs.Results.{answer_in}
use Rattle.host_history.specs.Hosts.{HostWorld, HostCall, ToClient, ToServer, exported}
use Rattle.host_history.specs.Refusal.{readable_at, sized_at}
use Rattle.host_history.proofs.ClientFirst.{client_so}
use Rattle.host_history.proofs.ServerFirst.{server_so}

-- 2 where 1 has nothing to refuse, else 1, whatever a host keeps and hands in;
pub unreadable_answered : (h : HostWorld) (call : HostCall) → readable_at h call ≡ false
    → answer_in (exported h call).result ≡ choose (sized_at h call) (Refused BrokenRecord) (Refused WrongLength)
unreadable_answered h (ToClient call) e = (client_so h.client call).two (client-broken h.client.machine e)
unreadable_answered h (ToServer call) e = (server_so h.server call).two (server-broken h.server.machine e)

pub unreadable_two : (h : HostWorld) (call : HostCall) → readable_at h call ≡ false → sized_at h call ≡ true
    → answer_in (exported h call).result ≡ Refused BrokenRecord
unreadable_two h call e right = unreadable_answered h call e ∙ choose_true (sized_at h call) _ _ right

-- so it is one of the two,
abbrev pub OneOrTwo : Answer → Type 0
OneOrTwo a = (a ≡ Refused WrongLength) ⊎ (a ≡ Refused BrokenRecord)

pub unreadable_refused : (h : HostWorld) (call : HostCall) → readable_at h call ≡ false
    → OneOrTwo (answer_in (exported h call).result)
unreadable_refused h call e =
    subst OneOrTwo (sym (unreadable_answered h call e))
    (choice_keeps OneOrTwo (sized_at h call) _ _ (inr refl) (inl refl))

-- and no part: a record that breaks its rules has none.
no_part : (kept : Bool) (m : Incoming) (f : ℕ) (slots : List ℕ) → kept ≡ false → length (part_of kept m f slots) ≡ 0
unfolding part_of
no_part kept m f slots broken = ap length (choose_false kept _ [] broken)

pub client_no_part : (bytes : List ℕ) (f : ℕ) (slots : List ℕ) → client_readable bytes ≡ false
    → client_part bytes f slots ≡ 0
unfolding client_part client_handed_up
client_no_part bytes f slots e =
    choice_keeps (λ (n : ℕ). n ≡ 0) (sized bytes) _ 0 (no_part _ _ f slots (client-broken bytes e)) refl

pub server_no_part : (bytes : List ℕ) (f : ℕ) (slots : List ℕ) → server_readable bytes ≡ false
    → server_part bytes f slots ≡ 0
unfolding server_part server_handed_up
server_no_part bytes f slots e =
    choice_keeps (λ (n : ℕ). n ≡ 0) (sized bytes) _ 0 (no_part _ _ f slots (server-broken bytes e)) refl
