-- What the functions that serve a connection make of it.
use Rattle.std.specs.Prelude.{◌≡◌, ◌≢◌, ◌⊎◌, ℕ, ◌+◌, List, [], ◌++◌, true, None, Result, Ok, Err}
use Rattle.std.specs.List.{flat_map}
use Rattle.srch_base.specs.Counts.{Rose}
use Rattle.srch_base.specs.Moves.{Meters, IsCut}
use Rattle.mysql_wire.specs.Packets.{BeginsWith, IsPartial, IsTooLarge, IsOutOfOrder}
use Rattle.mysql_wire.specs.Framing.{Stream}
use Rattle.mysql_wire.specs.Commands.{Quit as asks_quit, command_of}
use Rattle.mysql_wire.specs.Handshake.{Response, IsResponse, IsBadResponse}
use Rattle.serve_line.specs.Machines.{Machine, Answered}
use Rattle.serve_line.specs.Line.{Phase, Turn, Run, Ends, no_room}
use Rattle.serve_line.specs.declared.line.LinkEnd.{LinkEnd}
use Rattle.serve_line.specs.declared.line.LinkEnd.TheVariants as ends
use Rattle.serve_line.specs.declared.packets.Taken.{Taken}
use Rattle.serve_line.specs.declared.packets.Taken.TheVariants as takes
use Rattle.serve_line.specs.declared.packets.Shaken.{Shaken}
use Rattle.serve_line.specs.declared.packets.Shaken.TheVariants as shakes

-- From one phase to another, with bytes held back before and after: what was read and written, and the events.
pub record GoesOn {S E : Type 0} (machine : Machine S E) (old : Phase S) (held read written : List ℕ) (events : List E) (new : Phase S) (kept : List ℕ) : Type 0 where
  pub turns : List (Turn E)
  pub run : Run machine old turns new
  pub is_read : held ++ read ≡ flat_map (λ t. t.read) turns ++ kept
  pub is_written : written ≡ flat_map (λ t. t.written) turns
  pub happened : events ≡ flat_map (λ t. t.events) turns

-- The connection goes on, or has ended.
abbrev pub Goes : {T S E : Type 0} → Machine S E → Meters → Meters → Result T LinkEnd → Phase S → List ℕ → List ℕ → List ℕ → List E → Phase S → List ℕ → Type 0
Goes machine before now (Ok x) old held read written events new kept = GoesOn machine old held read written events new kept
Goes machine before now (Err end) old held read written events new kept = Ends machine before now end old held read written events

-- All the bytes were written, or a prefix of them was and writing failed.
abbrev pub Sends : {T : Type 0} → Result T LinkEnd → List ℕ → Meters → Meters → List ℕ → List ℕ → Type 0
Sends (Ok x) bytes before now read written = (read ≡ []) × (written ≡ bytes)
Sends (Err end) bytes before now read written = (end ≡ ends.WriteFault) × (read ≡ []) × IsCut written bytes × Rose before.write_faults now.write_faults

-- The refusal was written and the connection ends so, or a prefix of it was and writing failed.
abbrev pub RefusesWith : LinkEnd → List ℕ → LinkEnd → Meters → Meters → List ℕ → List ℕ → Type 0
RefusesWith result refusal end before now read written =
    (read ≡ []) × (((result ≡ end) × (written ≡ refusal)) ⊎ ((result ≡ ends.WriteFault) × IsCut written refusal × Rose before.write_faults now.write_faults))

-- ERR 1037 was written, or a prefix of it and writing failed.
abbrev pub SaysNoRoom : ℕ → Meters → Meters → List ℕ → List ℕ → Type 0
SaysNoRoom seq before now read written =
    (read ≡ []) × ((written ≡ no_room seq) ⊎ (Rose before.write_faults now.write_faults × IsCut written (no_room seq)))

-- Bytes were read and held, or there are none and the connection ends so.
abbrev pub Feeds : {T : Type 0} → Result T LinkEnd → List ℕ → List ℕ → Meters → Meters → List ℕ → List ℕ → Type 0
Feeds (Ok x) held kept before now read written = (written ≡ []) × (read ≢ []) × (kept ≡ held ++ read)
Feeds (Err ends.End) held kept before now read written = (written ≡ []) × (read ≡ []) × (held ≡ []) × (now.input_ended ≡ true)
Feeds (Err ends.Truncated) held kept before now read written = (written ≡ []) × (read ≡ []) × (held ≢ []) × (now.input_ended ≡ true)
Feeds (Err ends.ReadFault) held kept before now read written = (written ≡ []) × (read ≡ []) × Rose before.read_faults now.read_faults
Feeds (Err end) held kept before now read written = ⊥

-- Bytes were read and held until a packet was whole or to be refused, or the connection ended before.
abbrev pub Fills : {T : Type 0} → Result T LinkEnd → ℕ → List ℕ → List ℕ → Meters → Meters → List ℕ → List ℕ → Type 0
Fills (Ok x) expect held kept before now read written = (written ≡ []) × (kept ≡ held ++ read)
Fills (Err ends.End) expect held kept before now read written = (written ≡ []) × (held ++ read ≡ []) × (now.input_ended ≡ true)
Fills (Err ends.Truncated) expect held kept before now read written =
    (written ≡ []) × (held ++ read ≢ []) × IsPartial expect (held ++ read) × (now.input_ended ≡ true)
Fills (Err ends.ReadFault) expect held kept before now read written =
    (written ≡ []) × IsPartial expect (held ++ read) × Rose before.read_faults now.read_faults
Fills (Err ends.NoMemory) expect held kept before now read written =
    IsPartial expect (held ++ read)
    × ((written ≡ no_room (expect + 1)) ⊎ (Rose before.write_faults now.write_faults × IsCut written (no_room (expect + 1))))
Fills (Err end) expect held kept before now read written = ⊥

-- A command's packet was taken from the bytes held and answered, or the bytes are refused.
abbrev pub TakesCommand : {S E D : Type 0} → Machine S E → (D → E → D → Type 0) → Taken → List ℕ → Stream → S → S → D → D → List ℕ → Type 0
TakesCommand machine follows takes.Reply held kept old new before after out =
    (payload : List ℕ) × BeginsWith 0 held payload kept.held × (kept.refused ≡ None) × (command_of payload ≢ asks_quit)
    × Answered machine follows old (command_of payload) before after out new
TakesCommand machine follows takes.Quit held kept old new before after out =
    (payload : List ℕ) × BeginsWith 0 held payload kept.held × (command_of payload ≡ asks_quit) × (after ≡ before)
TakesCommand machine follows (takes.TooLarge size seq) held kept old new before after out = IsTooLarge held size seq × (after ≡ before)
TakesCommand machine follows (takes.OutOfOrder seq) held kept old new before after out = IsOutOfOrder 0 held seq × (after ≡ before)

-- The response's packet was taken from the bytes held and accepted, or it is refused, or the bytes are.
abbrev pub TakesResponse : Shaken → List ℕ → Stream → Type 0
TakesResponse shakes.Accepted held kept =
    (payload : List ℕ) × (response : Response) × BeginsWith 1 held payload kept.held × (kept.refused ≡ None) × IsResponse payload response
TakesResponse (shakes.Bad place) held kept = (payload : List ℕ) × BeginsWith 1 held payload kept.held × IsBadResponse payload place
TakesResponse (shakes.TooLarge size seq) held kept = IsTooLarge held size seq
TakesResponse (shakes.OutOfOrder seq) held kept = IsOutOfOrder 1 held seq
