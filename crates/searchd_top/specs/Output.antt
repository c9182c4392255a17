-- What a status says of lines that go to the output.
use Rattle.std.specs.Prelude.{◌≡◌, List, [], ℕ}
use Rattle.std.specs.Io.{StartsWith}
use Rattle.program_host.specs.declared.status.Status.{Status}
use Rattle.program_host.specs.declared.status.Status.TheVariants.{Done, Usage, Config, HostFault, Damaged, NoMemory, Strayed, JobFailed}
use Rattle.searchd_top.specs.Deeds.{Count, HasRisen, IsStill}

-- They were printed; or a prefix of them, and the count of failed prints rose; or there was no memory for them, and none was.
abbrev pub SaysLines : Status → List ℕ → List ℕ → Count → Type 0
SaysLines Done lines output count = (output ≡ lines) × IsStill count
SaysLines HostFault lines output count = StartsWith lines output × HasRisen count
SaysLines NoMemory lines output count = (output ≡ []) × IsStill count
SaysLines Usage lines output count = ⊥
SaysLines (Config number kind) lines output count = ⊥
SaysLines (Damaged index file place kind) lines output count = ⊥
SaysLines (Strayed index strayed) lines output count = ⊥
SaysLines JobFailed lines output count = ⊥
