use Rattle.std.proofs.Common.{sym, subst}
use Rattle.std.specs.Arc.{arc_value}
use Rattle.doc_types.specs.Schemas.{IsSchema}
use Rattle.doc_types.specs.Snapshots.{SnapshotValue}
use Rattle.doc_types.specs.declared.schema.Schema.{Schema}
use Rattle.step_history.specs.History.{AreOf}
use Rattle.job_chunks.specs.declared.making.Made.{Made}
use Rattle.job_chunks.specs.steps.Making.{Takes}
use Rattle.job_chunks.proofs.Built.{builds, of_one}
use Rattle.job_chunks.proofs.new_chunk.NewChunk.build.Goals as goal

pub made-requires : goal.made-requires
made-requires c = subst (λ (from : SnapshotValue). (schema : Schema) × IsSchema schema × AreOf schema from) (sym c.deref.ensures) c.requires

pub returns-in-Ok : goal.returns-in-Ok
returns-in-Ok c =
    let from : SnapshotValue = arc_value c.args.snapshot.now in
    let there : Takes c.args.job c.deref.result.now c.in-Ok-Chunk.field-0 = c.in-Ok-Chunk.ensures in
    let takes = subst (λ (made : Made). Takes c.args.job from made) c.in-Ok-Chunk.field-0-is (subst (λ (s : SnapshotValue). Takes c.args.job s c.in-Ok-Chunk.field-0) c.deref.ensures there) in
    builds c.args.job from c.in-Ok-Chunk.chunk c.in-Ok.new (of_one c.requires.0 from c.requires.1 c.requires.2) takes c.in-Ok.ensures
