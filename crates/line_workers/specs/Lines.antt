-- Lines: what a worker does with the lines of its door, one after another, whatever holds the documents.
use Rattle.std.specs.Prelude.{◌≡◌, ◌⊎◌, ◌≤◌, ℕ, ◌+◌, ◌-◌, ◌*◌, List, [], ◌∷◌, ◌++◌, true, length, map}
use Rattle.srch_base.specs.Counts.{Rose}
use Rattle.srch_base.specs.Moves.{Moves}
use Rattle.srch_base.specs.declared.door.Door.{Ghosts as DoorWords}
use Rattle.srch_base.specs.declared.link.Link.{Ghosts as LinkWords}
use Rattle.index_conf.specs.declared.conf.IndexConf.{IndexConf}
use Rattle.ql_session.specs.Events.{Event, StoreWords, Follows}
use Rattle.ql_session.specs.LinkEnd.{LinkEnd}
use Rattle.ql_session.specs.Machines.{FollowAll}
use Rattle.ql_session.specs.Session.{IsSession}
use Rattle.line_workers.specs.declared.serving.SeatEnd.{SeatEnd}
use Rattle.line_workers.specs.declared.serving.SeatEnd.TheVariants.{Ready, Done, HostFault}

-- A line as a door gave it and as the door got it back, and the events of the session over it.
pub record Service (K F : Type 0) : Type 0 where
  pub line : K
  pub back : K
  pub events : List (Event F)

-- the number of a worker's line among the lines of so many workers; workers and their lines are counted from 1
abbrev pub connection_of : ℕ → ℕ → ℕ → ℕ
connection_of workers worker line = workers * (line - 1) + worker

-- One whole session of this number went over the line, and its events led the store from one state to the other.
abbrev pub ServesLine : {K D F : Type 0} → LinkWords K → (D → List IndexConf) → StoreWords D F → ℕ → Service K F → D → D → Type 0
ServesLine link confs words connection service old new =
    ((end : LinkEnd) × Moves link service.line service.back (λ before now read written.
    IsSession words.documents connection before now read written end service.events))
    × FollowAll (Follows confs words) old service.events new

-- So were a worker's lines served, the first of which is its line of this number: each begins where the one before left the store.
abbrev pub ServesLines : {K D F : Type 0} → LinkWords K → (D → List IndexConf) → StoreWords D F → ℕ → ℕ → ℕ → List (Service K F) → D → D → Type 0
ServesLines link confs words workers worker line [] old new = new ≡ old
ServesLines {K} {D} link confs words workers worker line (service ∷ services) old new =
    (mid : D) × ServesLine link confs words (connection_of workers worker line) service old mid
    × ServesLines link confs words workers worker (line + 1) services mid new

-- Why a worker ended, which has served so many lines: the door failed; or it didn't, and has ended or given as many as it may.
abbrev pub SaysEnd : {E K : Type 0} → DoorWords E K → ℕ → SeatEnd → ℕ → E → E → Type 0
SaysEnd door sessions Ready served old new = ⊥
SaysEnd door sessions Done served old new = ((door.ended new ≡ true) ⊎ (served ≡ sessions)) × (door.faults new ≡ door.faults old)
SaysEnd door sessions HostFault served old new = Rose (door.faults old) (door.faults new)

-- A worker took at most so many lines from its door, served them in their order and handed each back, and ended so.
pub record ServesDoor {E K D F : Type 0} (door : DoorWords E K) (link : LinkWords K) (confs : D → List IndexConf) (words : StoreWords D F) (workers worker sessions : ℕ) (services : List (Service K F)) (old new : E) (end : SeatEnd) (before after : D) : Type 0 where
  pub given : door.given new ≡ door.given old ++ map (λ service. service.line) services
  pub returned : door.returned new ≡ door.returned old ++ map (λ service. service.back) services
  pub few : length services ≤ sessions
  pub serves : ServesLines link confs words workers worker 1 services before after
  pub ends : SaysEnd door sessions end (length services) old new
