-- The requests to a host, where it records them.
use Rattle.std.specs.Prelude.{◌≡◌, ⊤, List, ◌++◌, Option, Some, None}
use Rattle.program_host.specs.declared.requests.Request.{Request}

-- These were the requests between two states of a host, where it records them. A host may stop recording.
abbrev pub Requested : Option (List Request) → Option (List Request) → List Request → Type 0
Requested before None requests = ⊤
Requested None (Some all) requests = ⊥
Requested (Some earlier) (Some all) requests = all ≡ earlier ++ requests
