-- A step that waits is published, or it still waits.
use Rattle.std.proofs.Common.{◌≡◌, ◌≢◌, ◌∙◌, ℕ, List, Option, None, true, Result, Ok, Err, ap, sym, subst}
use Rattle.std.specs.Result.{OnErr, OnOk}
use Rattle.chunk_store.specs.declared.disk.Disk.{Ghosts as DiskWords}
use Rattle.doc_types.specs.declared.schema.Schema.{Schema}
use Rattle.std.specs.Option.{is_some}
use Rattle.gate_log.specs.declared.log.GateLog.{GateLog}
use Rattle.step_history.specs.History.{Base, Step}
use Rattle.step_line.specs.Lines.{LineValue, settled}
use Rattle.store_steps.specs.Batches.{Batch}
use Rattle.store_steps.specs.Kept.{Has, IsKept, IsStaged}
use Rattle.store_steps.specs.declared.files.Files.{Files}
use Rattle.store_steps.proofs.Keeping.{published, some_next}
use Rattle.store_keep.specs.Keepers.{Keeps}

-- where a record is staged, a step waits
pub step_waits : {D : Type 0} (words : DiskWords D) (schema : Schema) (base : Base) (steps : List Step) (waiting : Option Step) (disk : D) (files : Files) → IsKept words schema base steps waiting disk files → is_some files.log.staged ≡ true → {T E : Type 0} (r : Result T E) → OnErr r (waiting ≢ None)
step_waits words schema base steps waiting disk files kept some (Ok value) = tt
step_waits words schema base steps waiting disk files kept some (Err fault) = λ none.
    let next = some_next files.log.staged kept.next kept.staged some in
    let staged : IsStaged schema base kept.start steps waiting files.log kept.dir next.0 = subst (λ (n : Option Batch). Has schema base kept.start steps waiting files.log kept.dir n) next.1 kept.has in
    cc (staged.waits, none)

-- its record is staged still
pub still_staged : (old new : GateLog) → old ≡ new → is_some old.staged ≡ true → {T E : Type 0} (r : Result T E) → OnErr r (new.staged ≢ None)
still_staged old new same some (Ok value) = tt
still_staged old new same some (Err fault) = λ none.
    let gone : old.staged ≡ None = ap (λ (l : GateLog). l.staged) same ∙ none in
    cc (gone, some)

-- it is published then, or still waits
pub published_or_not : {D T E : Type 0} (words : DiskWords D) (schema : ℕ → Schema) (base : ℕ → Base) (disk : D) (files : Files) (old new : LineValue) (r : Result T E) → OnOk r (new ≡ settled old) → OnErr r (new ≡ old) → files.log.staged ≡ None
    → Keeps words schema base disk files old → Keeps words schema base disk files new
published_or_not words schema base disk files old new (Ok value) ok err none kept =
    subst (λ (l : LineValue). Keeps words schema base disk files l) (sym ok) (published words (schema old.index) (base old.index) old.history old.waiting disk files kept none)
published_or_not words schema base disk files old new (Err fault) ok err none kept =
    subst (λ (l : LineValue). Keeps words schema base disk files l) (sym err) kept
