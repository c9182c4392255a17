-- Turns: what came of the next line of a door, and of the lines so far.
use Rattle.std.specs.Prelude.{◌≡◌, ◌≤◌, ℕ, List, [], ◌∷◌, ◌++◌, true, length, map}
use Rattle.srch_base.specs.Counts.{Rose}
use Rattle.srch_base.specs.declared.door.Door.{Ghosts as DoorWords}
use Rattle.srch_base.specs.declared.link.Link.{Ghosts as LinkWords}
use Rattle.index_conf.specs.declared.conf.IndexConf.{IndexConf}
use Rattle.ql_session.specs.Events.{StoreWords}
use Rattle.line_workers.specs.Lines.{Service, ServesLine, ServesLines}
use Rattle.line_workers.specs.declared.serving.Next.{Next}
use Rattle.line_workers.specs.declared.serving.Next.TheVariants as nexts

-- The door gave a line, which was served as this number and handed back. It didn't fail.
pub record TakesLine {E K D F : Type 0} (door : DoorWords E K) (link : LinkWords K) (confs : D → List IndexConf) (words : StoreWords D F) (connection : ℕ) (old new : E) (before after : D) : Type 0 where
  pub service : Service K F
  pub serves : ServesLine link confs words connection service before after
  pub given : door.given new ≡ door.given old ++ service.line ∷ []
  pub returned : door.returned new ≡ door.returned old ++ service.back ∷ []
  pub calm : door.faults new ≡ door.faults old

-- The door gave no line, and nothing was done.
pub record TakesNone {E K D : Type 0} (door : DoorWords E K) (old new : E) (before after : D) : Type 0 where
  pub given : door.given new ≡ door.given old
  pub returned : door.returned new ≡ door.returned old
  pub store : after ≡ before

-- what came of the next line
abbrev pub ServesNext : {E K D F : Type 0} → DoorWords E K → LinkWords K → (D → List IndexConf) → StoreWords D F → ℕ → E → E → D → D → Next → Type 0
ServesNext door link confs words connection old new before after nexts.Served = TakesLine door link confs words connection old new before after
ServesNext door link confs words connection old new before after nexts.Ended = TakesNone door old new before after × (door.ended new ≡ true) × (door.faults new ≡ door.faults old)
ServesNext door link confs words connection old new before after nexts.Failed = TakesNone door old new before after × Rose (door.faults old) (door.faults new)

-- The worker's first lines were served and handed back, so many, and the door didn't fail.
pub record HasServed {E K D F : Type 0} (door : DoorWords E K) (link : LinkWords K) (confs : D → List IndexConf) (words : StoreWords D F) (workers worker count : ℕ) (old now : E) (before after : D) : Type 0 where
  pub services : List (Service K F)
  pub counts : length services ≡ count
  pub given : door.given now ≡ door.given old ++ map (λ service. service.line) services
  pub returned : door.returned now ≡ door.returned old ++ map (λ service. service.back) services
  pub serves : ServesLines link confs words workers worker 1 services before after
  pub calm : door.faults now ≡ door.faults old
  pub within : length (door.returned now) ≤ length (door.given now)
