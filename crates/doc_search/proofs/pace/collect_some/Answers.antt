use Rattle.std.proofs.Common.{◌≡◌, ◌∙◌, ℕ, subst, sym}
use Rattle.doc_types.specs.Snapshots.{living}
use Rattle.doc_search.specs.steps.Gathering.{Gathers}
use Rattle.doc_search.specs.steps.Lacking.{LacksSome}
use Rattle.doc_search.proofs.ManyRows.{at_place, carries_row, row_stops, stopped_as}
use Rattle.doc_search.proofs.pace.collect_some.Goals as goal
use Rattle.doc_search.proofs.pace.collect_some.Goals.{then-is_by_windows+in_ok-to+in-None, else-is_by_windows}

pub returns-in_err-collect_row-clause-lacks : goal.returns-in_err-collect_row-clause-lacks
returns-in_err-collect_row-clause-lacks g c = λ layer start nothing way.
    let docs = g.C.Chunk.content c.args.chunk.now in
    let at = at_place docs c.args.number c.requires.number in
    let end = c.in_err-collect_row.field-0.0 in
    stopped_as ℕ (Unit {0}) (LacksSome c.args.asked.now (living layer)) end c.from_residual-in_err-collect_row.result c.from_residual-in_err-collect_row.ensures.1
    (row_stops g.S.Sink.Took c.args.asked.now docs c.args.dead.now start c.args.sink.now nothing layer c.args.number at.0 at.1 c.requires.lives way end (c.in_err-collect_row.ensures.lacks at.0 at.1))

pub returns-clause-carries : goal.returns-clause-carries
returns-clause-carries g c =
    let docs = g.C.Chunk.content c.args.chunk.now in
    let kept : c.if-is_by_windows.sink ≡ c.args.sink.now = elim c.if-is_by_windows.branch [
      | then-is_by_windows+in_ok-to+in-None w ↦ w.sink-is ∙ (w.in_ok-to.ensures.none w.in-None.is).1
      | else-is_by_windows w ↦ w.sink-is
    ] in
    carries_row g.S.Sink.Took c.args.asked.now docs c.args.dead.now c.args.number c.args.sink.now c.collect_row.new.sink c.requires.number c.requires.lives
    (λ first gathered doc there so. c.in_ok-collect_row.ensures.gathers first gathered doc there (subst (Gathers g.S.Sink.Took c.args.asked.now first gathered) (sym kept) so))
