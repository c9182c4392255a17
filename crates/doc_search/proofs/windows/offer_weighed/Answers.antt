use Rattle.std.proofs.Common.{◌≡◌, ◌∙◌, ℕ, ◌+◌, ◌++◌, ◌∷◌, false, cond, List, [], Option, ap, subst, sym, rules}
use Rattle.std.specs.Prelude.{IfSome}
use Rattle.doc_types.specs.declared.documents.DocRow.{DocRow}
use Rattle.doc_search.specs.steps.Gathering.{Gathers}
use Rattle.doc_search.specs.steps.Windows.{Carries}
use Rattle.doc_search.proofs.Gathering.{gathers_past}
use Rattle.doc_search.proofs.ManyRows.{at_place, carries_at, carries_found, told_at}
use Rattle.doc_search.proofs.ToldWeights.{weighed_up_to}
use Rattle.doc_search.proofs.windows.offer_weighed.Goals as goal

pub count_run-requires-clause-weighs : goal.count_run-requires-clause-weighs
count_run-requires-clause-weighs g c = λ none doc here. weighed_up_to c.args.asked.now doc c.args.weight none (c.requires.weighs doc here)

pub returns-in-Some-clause-carries : goal.returns-in-Some-clause-carries
returns-in-Some-clause-carries g c = λ dead told.
    subst (λ (done : Option ℕ). IfSome done (λ next. Carries g.S.Sink.Took c.args.asked.now (g.C.Chunk.content c.args.chunk.now) dead (c.args.from + c.args.index) (c.args.from + next) c.args.sink.now c.count_run.new.sink)) c.in-Some.is
    (c.in_ok-counted.ensures.carries dead told)

pub returns-then-not-passes-clause-carries : goal.returns-then-not-passes-clause-carries
returns-then-not-passes-clause-carries g c = λ dead told.
    let docs = g.C.Chunk.content c.args.chunk.now in
    let there = at_place c.args.told.now c.args.index c.requires.index in
    let at = told_at c.args.asked.now docs dead c.args.from c.args.told.now told c.args.index there.0 c.requires.index there.1 in
    let fails : c.passes.result ≡ false = search rules in
    let kept : c.count_run.new.sink ≡ c.args.sink.now = c.in_ok-counted.ensures.kept c.in-None.is in
    carries_at g.S.Sink.Took c.args.asked.now docs dead c.args.from c.args.index c.args.sink.now c.count_run.new.sink
    (carries_found g.S.Sink.Took c.args.asked.now docs dead (c.args.from + c.args.index) at.0 there.0 c.args.sink.now c.count_run.new.sink at.1 at.2 (c.requires.found there.0 there.1)
    (λ first gathered so. gathers_past g.S.Sink.Took c.args.asked.now first gathered at.0 c.count_run.new.sink (sym (c.passes.ensures at.0 at.1) ∙ fails) (subst (Gathers g.S.Sink.Took c.args.asked.now first gathered) (sym kept) so)))

pub returns-in_ok-offer-in-None-clause-carries : goal.returns-in_ok-offer-in-None-clause-carries
returns-in_ok-offer-in-None-clause-carries g c = λ dead told.
    let docs = g.C.Chunk.content c.args.chunk.now in
    let there = at_place c.args.told.now c.args.index c.requires.index in
    let at = told_at c.args.asked.now docs dead c.args.from c.args.told.now told c.args.index there.0 c.requires.index there.1 in
    let its : DocRow = at.0 in
    let weighed = c.requires.weighs its at.1 in
    let kept : c.count_run.new.sink ≡ c.args.sink.now = c.in_ok-counted.ensures.kept c.in-None.is in
    carries_at g.S.Sink.Took c.args.asked.now docs dead c.args.from c.args.index c.args.sink.now c.offer.new.sink
    (carries_found g.S.Sink.Took c.args.asked.now docs dead (c.args.from + c.args.index) its there.0 c.args.sink.now c.offer.new.sink at.1 at.2 (c.requires.found there.0 there.1)
    (λ first gathered so.
    subst (λ (found : List DocRow). Gathers g.S.Sink.Took c.args.asked.now first (gathered ++ found) c.offer.new.sink) (sym (ap (λ b. cond b (its ∷ []) []) weighed.0))
    (c.in_ok-offer-in-None.ensures first gathered its at.1 weighed (subst (Gathers g.S.Sink.Took c.args.asked.now first gathered) (sym kept) so))))
