use Rattle.std.proofs.Common.{◌≡◌, ◌∙◌, ℕ, ◌+◌, true, false, Option, subst, sym, rules}
use Rattle.std.specs.Prelude.{IfSome}
use Rattle.doc_search.specs.steps.Gathering.{Gathers}
use Rattle.doc_search.specs.steps.Windows.{Carries}
use Rattle.doc_search.proofs.Gathering.{gathers_past}
use Rattle.doc_search.proofs.ManyRows.{at_place, carries_at, carries_found, told_at}
use Rattle.doc_search.proofs.windows.offer_within.Goals as goal

pub count_run-requires-clause-weighs : goal.count_run-requires-clause-weighs
count_run-requires-clause-weighs g c = λ none doc here. c.requires.weighs doc here

pub returns-in-Some-clause-carries : goal.returns-in-Some-clause-carries
returns-in-Some-clause-carries g c = λ dead told.
    subst (λ (done : Option ℕ). IfSome done (λ next. Carries g.S.Sink.Took c.args.asked.now (g.C.Chunk.content c.args.chunk.now) dead (c.args.from + c.args.index) (c.args.from + next) c.args.sink.now c.count_run.new.sink)) c.in-Some.is
    (c.in_ok-counted.ensures.carries dead told)

pub returns-then-not-passes-clause-carries : goal.returns-then-not-passes-clause-carries
returns-then-not-passes-clause-carries g c = λ dead told.
    let docs = g.C.Chunk.content c.args.chunk.now in
    let there = at_place c.args.told.now c.args.index c.requires.index in
    let at = told_at c.args.asked.now docs dead c.args.from c.args.told.now told c.args.index there.0 c.requires.index there.1 in
    let fails : c.passes.result ≡ false = search rules in
    let kept : c.count_run.new.sink ≡ c.args.sink.now = c.in_ok-counted.ensures.kept c.in-None.is in
    carries_at g.S.Sink.Took c.args.asked.now docs dead c.args.from c.args.index c.args.sink.now c.count_run.new.sink
    (carries_found g.S.Sink.Took c.args.asked.now docs dead (c.args.from + c.args.index) at.0 there.0 c.args.sink.now c.count_run.new.sink at.1 at.2 (c.requires.found there.0 there.1)
    (λ first gathered so. gathers_past g.S.Sink.Took c.args.asked.now first gathered at.0 c.count_run.new.sink (sym (c.passes.ensures at.0 at.1) ∙ fails) (subst (Gathers g.S.Sink.Took c.args.asked.now first gathered) (sym kept) so)))

pub offer_at_most-requires-clause-passes : goal.offer_at_most-requires-clause-passes
offer_at_most-requires-clause-passes g c = λ doc here.
    let holding : c.passes.result ≡ true = search rules in
    sym (c.passes.ensures doc here) ∙ holding

pub returns-then-offered-clause-carries : goal.returns-then-offered-clause-carries
returns-then-offered-clause-carries g c = λ dead told.
    let docs = g.C.Chunk.content c.args.chunk.now in
    let there = at_place c.args.told.now c.args.index c.requires.index in
    let at = told_at c.args.asked.now docs dead c.args.from c.args.told.now told c.args.index there.0 c.requires.index there.1 in
    let kept : c.count_run.new.sink ≡ c.args.sink.now = c.in_ok-counted.ensures.kept c.in-None.is in
    carries_at g.S.Sink.Took c.args.asked.now docs dead c.args.from c.args.index c.args.sink.now c.offer_at_most.new.sink
    (carries_found g.S.Sink.Took c.args.asked.now docs dead (c.args.from + c.args.index) at.0 there.0 c.args.sink.now c.offer_at_most.new.sink at.1 at.2 (c.requires.found there.0 there.1)
    (λ first gathered so. c.in_ok-offered-in-None.ensures.offered first gathered at.0 at.1 (subst (Gathers g.S.Sink.Took c.args.asked.now first gathered) (sym kept) so) c.if-offered.true))
