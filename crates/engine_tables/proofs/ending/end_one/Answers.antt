use Rattle.std.proofs.Common.{◌≡◌, ℕ, ap, sym, subst, ◌∙◌}
use Rattle.step_line.specs.Lines.{new_line}
use Rattle.store_keep.specs.Tellings.{AreTokensOf}
use Rattle.snap_share.specs.Closings.{WorkersDiffer}
use Rattle.snap_share.specs.Engines.{EngineValue}
use Rattle.engine_tables.proofs.Endings.{closed_as}
use Rattle.engine_tables.proofs.ending.end_one.Goals as goal

pub close-disk-requires-clause-of : goal.close-disk-requires-clause-of
close-disk-requires-clause-of g c =
    let index : c.into_engine-engine.result.index ≡ c.args.place = ap (λ (e : EngineValue). e.index) c.into_engine-engine.ensures ∙ c.requires.engine.0 in
    let own : c.into_engine-engine.result.workers ≡ c.args.workers = ap (λ (e : EngineValue). e.workers) c.into_engine-engine.ensures ∙ c.requires.engine.1 in
    subst (AreTokensOf (new_line c.into_engine-engine.result.index c.into_engine-engine.result.workers)) (sym c.as_mut_slice.ensures.value)
    (subst (λ (w : ℕ). AreTokensOf (new_line c.into_engine-engine.result.index w) c.args.column.now.items) (sym own)
    (subst (λ (i : ℕ). AreTokensOf (new_line i c.args.workers) c.args.column.now.items) (sym index) c.requires.tokens))

pub close-disk-requires-clause-differ : goal.close-disk-requires-clause-differ
close-disk-requires-clause-differ g c = subst WorkersDiffer (sym c.as_mut_slice.ensures.value) c.requires.differ

pub returns-clause-ended : goal.returns-clause-ended
returns-clause-ended g c =
    let index : c.into_engine-engine.result.index ≡ c.args.place = ap (λ (e : EngineValue). e.index) c.into_engine-engine.ensures ∙ c.requires.engine.0 in
    let own : c.into_engine-engine.result.workers ≡ c.args.workers = ap (λ (e : EngineValue). e.workers) c.into_engine-engine.ensures ∙ c.requires.engine.1 in
    closed_as g.row.J.Denot g.D.Disk g.J.Naming.schema g.J.Naming.base g.J.Naming.opened c.into_engine-engine.result.index c.args.place c.into_engine-engine.result.workers c.args.workers c.as_slice.result.now c.args.told.now.items c.as_mut_slice.result.now c.args.column.now.items c.close-disk.result.0 c.close-disk.result.1 c.close-disk.result.2 c.close-disk.new.tokens
    index own c.as_slice.ensures.value c.as_mut_slice.ensures.value c.close-disk.ensures
