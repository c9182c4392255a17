-- The requests of a run to its host: for the text of its file, for the stores of indexes, and for doors to clients.
use Rattle.std.specs.Prelude.{ℕ, List, [], ◌∷◌, ◌++◌, Option, Some, None, map}
use Rattle.command_line.specs.Modes.{Mode, session, serve, check}
use Rattle.index_conf.specs.declared.conf.IndexConf.{IndexConf}
use Rattle.program_host.specs.declared.requests.Request.{Request}
use Rattle.program_host.specs.declared.requests.Request.TheVariants.{ReadText, OpenStore, OpenDoors}
use Rattle.searchd_top.specs.Plans.{Plan, listening, one_line}

-- for the text of a run's file, if it has one
abbrev pub text_requests : Option (List ℕ) → List Request
text_requests None = []
text_requests (Some file) = ReadText file ∷ []

-- for the stores of indexes
abbrev pub store_requests : List IndexConf → List Request
store_requests indexes = map (λ index. OpenStore index.path) indexes

-- for the doors of a plan
abbrev pub door_requests : Plan → List Request
door_requests plan = OpenDoors plan.listen plan.workers ∷ []

-- The requests of a mode once its indexes are known, a row for each: the stores in the order of the configuration, and then the doors.
abbrev pub later_requests : Option Mode → List IndexConf → List Request
later_requests (Some (session file)) indexes = store_requests indexes ++ door_requests one_line
later_requests (Some (serve file listen workers sessions)) indexes = store_requests indexes ++ door_requests (listening listen workers sessions)
later_requests (Some (check file)) indexes = store_requests indexes
later_requests mode indexes = []
