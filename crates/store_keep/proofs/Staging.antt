-- A commit is entered: its record is staged, and it waits.
use Rattle.std.proofs.Common.{◌≡◌, ℕ, List, Option, Some, None, sym, ◌∙◌, ap, subst}
use Rattle.chunk_store.specs.Images.{Image, Told, Both, Changes}
use Rattle.chunk_store.specs.Calls.{Crashes, IsSynced}
use Rattle.chunk_store.specs.declared.disk.Disk.{Ghosts as DiskWords}
use Rattle.doc_types.specs.declared.schema.Schema.{Schema}
use Rattle.gate_log.specs.Logs.{Stands as LogStands, MayFollow, staging}
use Rattle.gate_log.specs.declared.records.LogRecord.{LogRecord}
use Rattle.gate_log.specs.declared.log.GateLog.{GateLog}
use Rattle.step_history.specs.History.{Base, Step}
use Rattle.step_line.specs.Lines.{LineValue}
use Rattle.store_steps.specs.Kept.{Gives, IsKept, LeavesOnly}
use Rattle.store_steps.specs.declared.files.Files.{Files}
use Rattle.store_steps.proofs.Leaving.{leaves_still}
use Rattle.store_steps.proofs.Keeping.{gives_at_rest, may_follow, not_staged, staging_leaves, stands_at_rest, was_staged}
use Rattle.store_keep.specs.Keepers.{Keeps}
use Rattle.store_keep.specs.steps.Stages.{Enters}

module _ {D : Type 0} (words : DiskWords D) (schema : ℕ → Schema) (base : ℕ → Base) (disk : D) (files : Files) (line : LineValue) (kept : Keeps words schema base disk files line) (none : line.waiting ≡ None) (rests : files.log.staged ≡ None) where
  at_rest : IsKept words (schema line.index) (base line.index) line.history None disk files
  at_rest = subst (λ (w : Option Step). IsKept words (schema line.index) (base line.index) line.history w disk files) none kept

  -- the record may follow the log's last one
  pub follows : (step : Step) (r : LogRecord) → Enters (schema line.index) (base line.index) line.history step r → MayFollow files.log.last r.number
  follows step r enters = may_follow words (schema line.index) (base line.index) line.history disk files at_rest rests r.number (ap (λ (q : LogRecord). q.number) enters.record_is ∙ enters.follows.numbered)

  pub stands : Told (λ image. (records : List LogRecord) × LogStands files.log records None (image files.log.file)) (words.told disk)
  stands = stands_at_rest words (schema line.index) (base line.index) line.history disk files at_rest rests

  abbrev Stays : Option (List ℕ) → Option (List ℕ) → Type 0
  Stays old new = (records : List LogRecord) → LogStands files.log records None old → LogStands files.log records None new

  pub leaves : (new : D) → ((x : Image) → words.may_have_left disk (words.clock disk) x → words.may_leave disk x) → Crashes words disk new (Changes files.log.file Stays) → LeavesOnly words disk new (Gives (schema line.index) (base line.index) line.history)
  leaves new only crashes = staging_leaves words (schema line.index) (base line.index) line.history disk files at_rest rests new only crashes

  -- nothing was written
  pub left_still : ((x : Image) → words.may_have_left disk (words.clock disk) x → words.may_leave disk x) → LeavesOnly words disk disk (Gives (schema line.index) (base line.index) line.history)
  left_still only = leaves_still words disk only (gives_at_rest words (schema line.index) (base line.index) line.history disk files at_rest rests)

  -- the commit waits
  pub entered : (new : D) (after : GateLog) (next : LineValue) (step : Step) (r : LogRecord) → Enters (schema line.index) (base line.index) line.history step r → next ≡ record line { waiting = Some step } → after ≡ staging files.log r
      → Both (Changes files.log.file (λ old new. (records : List LogRecord) → LogStands files.log records None old → LogStands (staging files.log r) records (Some r) new)) (words.told disk) (words.told new)
      → IsSynced files.log.file (words.told new) (words.may_leave new) → ((x : Image) → words.may_leave new x → (image : Image) × (words.told new ≡ Some image)) → Crashes words disk new (Changes files.log.file Stays)
      → Keeps words schema base new (record files { log = after }) next
  entered new after next step r enters is staged told synced tells crashes =
      subst (λ (l : LineValue). Keeps words schema base new (record files { log = after }) l) (sym is)
      (subst (λ (s : Step). IsKept words (schema line.index) (base line.index) line.history (Some s) new (record files { log = after })) (sym enters.is)
      (was_staged words (schema line.index) (base line.index) line.history disk files at_rest rests new after enters.entry enters.snapshot r enters.record_is staged enters.follows enters.of enters.room told synced tells crashes))

  -- nothing was staged
  pub stayed : (new : D) (after : GateLog) → after ≡ files.log → Both (Changes files.log.file Stays) (words.told disk) (words.told new) → Crashes words disk new (Changes files.log.file Stays) → Keeps words schema base new (record files { log = after }) line
  stayed new after is told crashes =
      subst (λ (w : Option Step). IsKept words (schema line.index) (base line.index) line.history w new (record files { log = after })) (sym none)
      (not_staged words (schema line.index) (base line.index) line.history disk files at_rest rests new after is told crashes)
