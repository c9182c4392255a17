-- Endings: what an end answers, by what a keeper holds and what workers were told.
use Rattle.std.specs.Prelude.{◌≡◌, ◌⊎◌, List, [], Option, Some, None, Result, Ok, Err}
use Rattle.std.specs.List.{Contains}
use Rattle.srch_base.specs.declared.faults.Or.{Or}
use Rattle.srch_base.specs.declared.faults.Or.TheVariants as causes
use Rattle.commit_outcomes.specs.declared.strayed.Strayed.{Strayed}

-- Of the contradictions that workers were told, the one that a keeper holds is one: it was told; or it holds none, and none was.
abbrev pub WasTold : List Strayed → Option Strayed → Type 0
WasTold told None = told ≡ []
WasTold told (Some numbers) = Contains told numbers

-- What is answered by the contradiction that a keeper holds, those that workers were told, and the first that a token shows.
abbrev pub EndsBy : Option Strayed → List Strayed → Option Strayed → Result (Unit {0}) (Or Strayed) → Type 0
EndsBy held told stray (Ok done) = (held ≡ None) × (told ≡ []) × (stray ≡ None)
EndsBy held told stray (Err (causes.Fault numbers)) = Contains told numbers ⊎ (stray ≡ Some numbers)
EndsBy held told stray (Err causes.NoMemory) = stray ≡ None
