-- How the line of a status is put together.
use Rattle.std.specs.Prelude.{ℕ, List, codes}
use Rattle.program_host.specs.Statuses.{line_of}
use Rattle.program_host.specs.declared.status.Status.{Status}
use Rattle.program_host.specs.declared.status.Status.TheVariants.{Config, Damaged, Strayed}

-- the line, or what stands before the place of a configuration's fault or before the name of an index
abbrev pub beginning_of : Status → List ℕ
beginning_of (Config number kind) = codes "searchd: config line "
beginning_of (Damaged index file place kind) = codes "searchd: index "
beginning_of (Strayed index strayed) = codes "searchd: index "
beginning_of status = line_of status
