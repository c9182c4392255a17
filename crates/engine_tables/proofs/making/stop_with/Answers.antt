use Rattle.std.proofs.Common.{[], Some, length, ◌+◌, refl, sym, subst, ◌∙◌, arith}
use Rattle.step_line.specs.Lines.{new_line}
use Rattle.store_keep.specs.Tellings.{AreTokensOf}
use Rattle.snap_share.specs.Closings.{WorkersDiffer}
use Rattle.engine_tables.specs.steps.Makings.{HaveAllEnded}
use Rattle.engine_tables.proofs.Composing.{one_more_ended}
use Rattle.engine_tables.proofs.Numbering.{first_of, tokens_differ}
use Rattle.engine_tables.proofs.making.stop_with.Goals as goal

pub close-disk-requires-clause-of : goal.close-disk-requires-clause-of
close-disk-requires-clause-of g c =
    subst (AreTokensOf (new_line c.args.engine.index c.args.engine.workers)) (sym (c.as_mut_slice.ensures.value ∙ c.requires.tokens))
    (first_of c.args.engine.index c.args.workers c.args.engine.workers (omega (arith, c.requires.engine.1)))

pub close-disk-requires-clause-differ : goal.close-disk-requires-clause-differ
close-disk-requires-clause-differ g c = subst WorkersDiffer (sym (c.as_mut_slice.ensures.value ∙ c.requires.tokens)) (tokens_differ c.args.engine.index c.args.workers)

pub returns-clause-ended : goal.returns-clause-ended
returns-clause-ended g c =
    subst (HaveAllEnded g.D.Disk g.J.Naming.schema g.J.Naming.base g.J.Naming.opened (length c.args.tables.items + 1) c.args.workers) (sym c.push_reserved.ensures.items)
    (one_more_ended g.D.Disk g.J.Naming.schema g.J.Naming.base g.J.Naming.opened (length c.args.tables.items) c.args.workers c.args.engine.index c.args.engine.workers c.stop-ended.result.items (record { disk = c.close-disk.result.0; note = Some c.close-disk.result.1; answer = c.close-disk.result.2 })
    c.close-disk.result.1 [] c.args.tokens.items c.as_mut_slice.result.now c.close-disk.new.tokens c.stop-ended.ensures.ended c.requires.engine.0 c.requires.engine.1 refl c.as_mut_slice.ensures.value c.requires.tokens refl c.close-disk.ensures)
