use Rattle.std.proofs.Common.{◌≡◌, ◌∙◌, ℕ, ◌+◌, true, List, ap, length, rules, subst, sym}
use Rattle.query_tree.specs.declared.query.Query.{Query}
use Rattle.op_eval.specs.Fields.{GoesByFields}
use Rattle.op_eval.specs.Streams.{Stream}
use Rattle.row_flags.specs.Windows.{AreFieldsTold}
use Rattle.row_flags.specs.declared.windows.Told.{Told}
use Rattle.doc_search.specs.declared.question.Question.{Question}
use Rattle.doc_search.specs.steps.Windows.{Carries, TellWeights}
use Rattle.doc_search.proofs.ToldWeights.{of_some, tell_weights}
use Rattle.doc_search.proofs.windows.collect_window.Goals as goal

pub returns-in_ok-collect_told-in-Some-clause-carries : goal.returns-in_ok-collect_told-in-Some-clause-carries
returns-in_ok-collect_told-in-Some-clause-carries g c =
    let many : length c.in-Some.told.items ≡ c.min-size.result = search (rules, c.in_ok-told_rows.ensures.long) in
    let long : length c.deref.result.now ≡ c.min-size.result = ap length c.deref.ensures.value ∙ many in
    subst (λ (n : ℕ). Carries g.S.Sink.Took c.args.asked.now (g.C.Chunk.content c.args.chunk.now) c.args.dead.now c.args.from (c.args.from + n) c.args.sink.now c.collect_told.new.sink) long c.in_ok-collect_told-in-Some.ensures.carries

pub collect_told-requires-clause-tells : goal.collect_told-requires-clause-tells
collect_told-requires-clause-tells g c =
    let docs = g.C.Chunk.content c.args.chunk.now in
    let items : List Told = c.in-Some.told.items in
    let asks = c.looks_at_fields-by_fields.result in
    let exact =
    subst (λ (query : Query). asks ≡ true → GoesByFields query → AreFieldsTold query docs c.args.from items) (ap (λ (its : Question). its.query) c.asked.view_is)
    (λ by_fields goes. of_some c.in_ok-told_rows.field-0 c.in-Some.told c.in-Some.is (λ rows. AreFieldsTold c.asked.inside.question.now.query docs c.args.from rows.items) (c.in_ok-told_rows.ensures.exact by_fields goes)) in
    subst (λ (told : List Told). TellWeights c.args.asked.now c.of-weighs.result docs c.args.from told) (sym c.deref.ensures.value)
    (tell_weights c.args.asked.now c.of-weighs.result docs c.args.from items asks (c.of-weighs.ensures (ap (λ (it : Stream). it.query) c.requires.stands)) c.looks_at_fields-by_fields.ensures exact)
