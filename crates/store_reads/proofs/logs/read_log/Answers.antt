use Rattle.std.proofs.Common.{◌∙◌, sym, ap, Some, refl}
use Rattle.gate_log.proofs.Standing.{finds_none, finds_some}
use Rattle.store_reads.specs.steps.Loads.{before_next}
use Rattle.store_reads.proofs.FilesRead.{cause_of, missing_by, reads_by}
use Rattle.store_reads.proofs.logs.read_log.Goals as goal

pub returns-in-Ok-Some-clause-read : goal.returns-in-Ok-Some-clause-read
returns-in-Ok-Some-clause-read g c = λ chunks through front loaded.
    reads_by c.args.schema.now chunks through front c.args.file c.as_slice.result.now _ c.take_log.result c.take_log.new.self
    (λ image is. finds_some c.in-Ok-Some.field-0 c.in-Ok-Some.bytes (image c.args.file) c.in-Ok-Some.field-0-is (c.in-Ok-Some.ensures.found image is) ∙ ap Some (sym c.as_slice.ensures.value))
    (c.take_log.ensures.takes chunks through front loaded)

pub returns-in-Ok-Some-clause-cause : goal.returns-in-Ok-Some-clause-cause
returns-in-Ok-Some-clause-cause g c = cause_of c.take_log.result _ _ c.in-Ok-Some.ensures.cause c.take_log.ensures.bytes

pub returns-in-Ok-None-clause-read : goal.returns-in-Ok-None-clause-read
returns-in-Ok-None-clause-read g c = λ chunks through front loaded.
    (refl, λ image is. missing_by c.args.schema.now (before_next through front) (image c.args.file) (finds_none c.in-Ok-None.field-0 (image c.args.file) c.in-Ok-None.field-0-is (c.in-Ok-None.ensures.found image is)))
