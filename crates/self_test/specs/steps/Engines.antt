-- Engines: what is asked of an index and its store, and what the end of its engine says of an answer.
use Rattle.std.specs.Prelude.{◌≡◌, ℕ, Some, None, Result, Ok, Err}
use Rattle.srch_base.specs.declared.faults.Or.{Or}
use Rattle.srch_base.specs.declared.faults.Or.TheVariants as causes
use Rattle.chunk_store.specs.declared.disk.Disk.{Ghosts as DiskWords}
use Rattle.commit_outcomes.specs.declared.strayed.Strayed.{Strayed}
use Rattle.index_conf.specs.declared.conf.IndexConf.{IndexConf}
use Rattle.chunk_store.specs.Images.{Image}
use Rattle.store_keep.specs.Opens.{IsOpened, base_of}
use Rattle.store_keep.specs.declared.opening.Opened.{Opened}
use Rattle.self_test.specs.Own.{IsEmpty, IsOurs}
use Rattle.self_test.specs.steps.Servable.{IsServable}
use Rattle.self_test.specs.declared.fault.Astray.{Astray}
use Rattle.self_test.specs.declared.fault.Astray.TheVariants.{JobFailed, Unexpected}
use Rattle.self_test.specs.declared.fault.SelftestFault.{SelftestFault}
use Rattle.self_test.specs.declared.fault.SelftestFault.TheVariants.{NoMemory, JobFailed as FailsJob, Strayed as HasStrayed}
use Rattle.self_test.specs.declared.summary.Summary.{Summary}

-- The disk tells that it has no files.
pub record HoldsNothing {D : Type 0} (words : DiskWords D) (disk : D) : Type 0 where
  pub image : Image
  pub told : words.told disk ≡ Some image
  pub none : (file : ℕ) → image file ≡ None

-- It is the selftest's own, its store was opened with its columns, and has no documents.
pub record IsReady {D : Type 0} (words : DiskWords D) (index : IndexConf) (store : Opened D) : Type 0 where
  pub servable : IsServable index
  pub ours : IsOurs index
  pub opened : IsOpened words index.schema store
  pub empty : IsEmpty (base_of store)

-- where an engine ended well, the conversation didn't go astray but for a job
abbrev pub IsNeverAstray : Result Summary (Or Astray) → Result (Unit {0}) (Or Strayed) → Type 0
IsNeverAstray found end = end ≡ Ok tt → found ≡ Err (causes.Fault Unexpected) → ⊥

-- what an answer says of what was found and of how the engine ended
abbrev pub IsAnswered : Result Summary (Or Astray) → Result (Unit {0}) (Or Strayed) → Result Summary SelftestFault → Type 0
IsAnswered found end (Ok summary) = (found ≡ Ok summary) × (end ≡ Ok tt)
IsAnswered found end (Err FailsJob) = (found ≡ Err (causes.Fault JobFailed)) × (end ≡ Ok tt)
IsAnswered found end (Err (HasStrayed strayed)) = end ≡ Err (causes.Fault strayed)
IsAnswered found end (Err NoMemory) = Unit {0}
