-- What a selftest does: it prints its lines, and asks the host for nothing.
use Rattle.std.specs.Prelude.{◌≡◌, ⊤, ℕ, List, [], None, Ok, Err, codes}
use Rattle.srch_base.specs.declared.faults.Or.TheVariants as causes
use Rattle.chunk_store.specs.contracts.memory_disk.MemoryDiskDisk.TheImpl as memory
use Rattle.self_test.specs.Documents.{documents_from}
use Rattle.self_test.specs.Ends.{Ends, EndsBy}
use Rattle.self_test.specs.Summaries.{IsSummary, lines_of}
use Rattle.self_test.specs.declared.fault.SelftestFault.TheVariants as faults
use Rattle.self_test.specs.declared.summary.Summary.{Summary}
use Rattle.program_host.specs.declared.status.Status.{Status}
use Rattle.program_host.specs.declared.status.Status.TheVariants.{Done, Usage, Config, HostFault, Damaged, NoMemory, Strayed, JobFailed}
use Rattle.searchd_top.specs.Deeds.{Count, Deeds, IsStill}
use Rattle.searchd_top.specs.Output.{SaysLines}

-- The lines are those of a summary of the documents that the number stands for, and its engine ended with a note of the whole history, by
-- what the conversation left that found the summary.
pub record HasEnded (number docs : ℕ) (lines : List ℕ) : Type 0 where
  pub summary : Summary
  pub is : IsSummary (documents_from number docs) summary
  pub ended : Ends memory.ghosts (documents_from number docs) (Ok summary)
  pub lines_are : lines ≡ lines_of summary

-- It ended without its lines: memory was refused, or the end of its engine, which is over a disk in memory, answered that the history of
-- the index strayed; or its engine ended well, and the conversation about the documents that the number stands for came to a job that failed.
abbrev pub IsUnprinted : ℕ → ℕ → Status → Type 0
IsUnprinted number docs NoMemory = ⊤
IsUnprinted number docs (Strayed name strayed) = (name ≡ codes "t") × EndsBy memory.ghosts None (Err (causes.Fault strayed))
IsUnprinted number docs JobFailed = Ends memory.ghosts (documents_from number docs) (Err faults.JobFailed)
IsUnprinted number docs Done = ⊥
IsUnprinted number docs Usage = ⊥
IsUnprinted number docs (Config line kind) = ⊥
IsUnprinted number docs HostFault = ⊥
IsUnprinted number docs (Damaged index file place kind) = ⊥

-- Its engine has ended, and its lines were printed, as the status says; or memory was refused, or the index strayed as its engine ended, or
-- a job failed, and none was.
abbrev pub SaysSelftest : ℕ → ℕ → Status → List ℕ → Count → Type 0
SaysSelftest number docs (Strayed name strayed) output count = IsUnprinted number docs (Strayed name strayed) × (output ≡ []) × IsStill count
SaysSelftest number docs JobFailed output count = IsUnprinted number docs JobFailed × (output ≡ []) × IsStill count
SaysSelftest number docs NoMemory output count = (output ≡ []) × IsStill count
SaysSelftest number docs status output count = (lines : List ℕ) × HasEnded number docs lines × SaysLines status lines output count

pub record PrintsSelftest {S D : Type 0} (number docs : ℕ) (status : Status) (deeds : Deeds S D) : Type 0 where
  pub requests : deeds.requests ≡ []
  pub stores : deeds.stores ≡ []
  pub doors : deeds.doors ≡ []
  pub faults : IsStill deeds.faults
  pub says : SaysSelftest number docs status deeds.output deeds.print_faults
