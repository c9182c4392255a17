-- Complete lines: the packets of a client were answered one after another, each whole, and the line ended at the next one.
use Rattle.std.specs.Prelude.{◌≡◌, ⊤, ℕ, ◌+◌, List, [], ◌∷◌, ◌++◌}
use Rattle.std.specs.List.{flat_map}
use Rattle.srch_base.specs.Counts.{Rose}
use Rattle.srch_base.specs.Moves.{Meters}
use Rattle.mysql_wire.specs.Commands.{Quit as asks_quit, command_of}
use Rattle.serve_line.specs.Line.{Opened, Phase, Run, Talking, Turn, expected, most_commands, no_room}
use Rattle.serve_line.specs.Machines.{Machine}
use Rattle.serve_line.specs.declared.line.LinkEnd.{LinkEnd}
use Rattle.serve_line.specs.declared.line.LinkEnd.TheVariants.{End, NoMemory, Quit, Worn}
use Rattle.line_laws.specs.Clients.{bytes_of}

-- Neither reading nor writing failed: neither count rose, and neither stands at its last value.
pub record IsSteady (before now : Meters) : Type 0 where
  pub reads : Rose before.read_faults now.read_faults → ⊥
  pub writes : Rose before.write_faults now.write_faults → ⊥

-- How a line ends in this phase, where its client sends these payloads next: it quits, it sends no more, as many commands were answered
-- as may be, or memory was refused. There is no other end.
abbrev pub EndsAt : {S : Type 0} → LinkEnd → Phase S → List (List ℕ) → Type 0
EndsAt {S} Quit phase next =
    (quit : List ℕ) × (more : List (List ℕ)) × (next ≡ quit ∷ more) × (command_of quit ≡ asks_quit) × (state : S) × (answered : ℕ) × (phase ≡ Talking state answered)
EndsAt End phase next = next ≡ []
EndsAt {S} Worn phase next = (state : S) × (phase ≡ Talking state most_commands)
EndsAt NoMemory phase next = ⊤
EndsAt end phase next = ⊥

-- what is written behind the replies: ERR 1037 where memory was refused
abbrev pub last_words : {S : Type 0} → LinkEnd → Phase S → List ℕ
last_words NoMemory phase = no_room (expected phase + 1)
last_words end phase = []

-- The line of this connection answered its client's payloads, each by the machine, up to those that come next, and ended there.
pub record IsComplete {S E : Type 0} (machine : Machine S E) (connection : ℕ) (start : S) (payloads : List (List ℕ)) (written : List ℕ) (end : LinkEnd) (events : List E) : Type 0 where
  pub answered : List (List ℕ)
  pub next : List (List ℕ)
  pub are : payloads ≡ answered ++ next
  pub turns : List (Turn E)
  pub phase : Phase S
  pub run : Run machine (Opened connection start) turns phase
  pub reads : flat_map (λ t. t.read) turns ≡ bytes_of answered
  pub writes : written ≡ flat_map (λ t. t.written) turns ++ last_words end phase
  pub happened : events ≡ flat_map (λ t. t.events) turns
  pub ends : EndsAt end phase next
