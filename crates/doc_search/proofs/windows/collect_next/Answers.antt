use Rattle.std.proofs.Common.{◌≡◌, ℕ, ◌+◌, Option, true, false, subst, sym, rules}
use Rattle.std.specs.Prelude.{IfSome}
use Rattle.doc_types.specs.Snapshots.{living}
use Rattle.doc_search.specs.steps.Gathering.{Gathers}
use Rattle.doc_search.specs.steps.Lacking.{LacksSome}
use Rattle.doc_search.specs.steps.Windows.{Carries}
use Rattle.doc_search.proofs.ManyRows.{carries_at, carries_found, carries_past, found_lives, row_stops, stopped_as, told_at}
use Rattle.doc_search.proofs.windows.collect_next.Goals as goal

pub returns-then-not-its-clause-carries : goal.returns-then-not-its-clause-carries
returns-then-not-its-clause-carries g c =
    let docs = g.C.Chunk.content c.args.chunk.now in
    let at = told_at c.args.asked.now docs c.args.dead.now c.args.from c.args.told.now c.requires.told c.args.index c.told_at-its.result c.requires.index c.told_at-its.ensures in
    let not_found : c.told_at-its.result.found ≡ false = search rules in
    carries_at g.S.Sink.Took c.args.asked.now docs c.args.dead.now c.args.from c.args.index c.args.sink.now c.args.sink.now
    (carries_past g.S.Sink.Took c.args.asked.now docs c.args.dead.now (c.args.from + c.args.index) at.0 c.told_at-its.result c.args.sink.now at.1 at.2 not_found)

pub returns-in-Some-clause-carries : goal.returns-in-Some-clause-carries
returns-in-Some-clause-carries g c =
    let docs = g.C.Chunk.content c.args.chunk.now in
    subst (λ (done : Option ℕ). IfSome done (λ next. Carries g.S.Sink.Took c.args.asked.now docs c.args.dead.now (c.args.from + c.args.index) (c.args.from + next) c.args.sink.now c.offer_told.new.sink)) c.in-Some.is
    (c.in_ok-offered.ensures.carries c.args.dead.now c.requires.told)

pub returns-in_err-collect_row-in-None-clause-lacks : goal.returns-in_err-collect_row-in-None-clause-lacks
returns-in_err-collect_row-in-None-clause-lacks g c = λ layer start nothing way.
    let docs = g.C.Chunk.content c.args.chunk.now in
    let at = told_at c.args.asked.now docs c.args.dead.now c.args.from c.args.told.now c.requires.told c.args.index c.told_at-its.result c.requires.index c.told_at-its.ensures in
    let found : c.told_at-its.result.found ≡ true = search rules in
    let end = c.in_err-collect_row-in-None.field-0.0 in
    stopped_as ℕ (Unit {0}) (LacksSome c.args.asked.now (living layer)) end c.from_residual-in_err-collect_row-in-None.result c.from_residual-in_err-collect_row-in-None.ensures.1
    (row_stops g.S.Sink.Took c.args.asked.now docs c.args.dead.now start c.args.sink.now nothing layer (c.args.from + c.args.index) at.0 at.1 (found_lives c.args.asked.now.query c.args.dead.now (c.args.from + c.args.index) at.0 c.told_at-its.result at.2 found) way
    end (c.in_err-collect_row-in-None.ensures.lacks at.0 at.1))

pub returns-in_ok-collect_row-in-None-clause-carries : goal.returns-in_ok-collect_row-in-None-clause-carries
returns-in_ok-collect_row-in-None-clause-carries g c =
    let docs = g.C.Chunk.content c.args.chunk.now in
    let at = told_at c.args.asked.now docs c.args.dead.now c.args.from c.args.told.now c.requires.told c.args.index c.told_at-its.result c.requires.index c.told_at-its.ensures in
    let found : c.told_at-its.result.found ≡ true = search rules in
    let kept : c.offer_told.new.sink ≡ c.args.sink.now = c.in_ok-offered.ensures.kept c.in-None.is in
    carries_at g.S.Sink.Took c.args.asked.now docs c.args.dead.now c.args.from c.args.index c.args.sink.now c.collect_row.new.sink
    (carries_found g.S.Sink.Took c.args.asked.now docs c.args.dead.now (c.args.from + c.args.index) at.0 c.told_at-its.result c.args.sink.now c.collect_row.new.sink at.1 at.2 found
    (λ first gathered so. c.in_ok-collect_row-in-None.ensures.gathers first gathered at.0 at.1 (subst (Gathers g.S.Sink.Took c.args.asked.now first gathered) (sym kept) so)))
