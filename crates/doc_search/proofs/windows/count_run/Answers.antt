use Rattle.std.proofs.Common.{◌≡◌, ◌∙◌, ℕ, ◌+◌, [], Some, ap, subst, sym, rules}
use Rattle.std.specs.Prelude.{All}
use Rattle.std.specs.Option.{option_map}
use Rattle.doc_types.specs.declared.documents.DocRow.{DocRow}
use Rattle.row_select.specs.Sinks.{IsBeyond}
use Rattle.doc_search.specs.declared.question.Question.{Question}
use Rattle.doc_search.proofs.ManyRows.{at_place, carries_run, told_at}
use Rattle.doc_search.proofs.windows.count_run.Goals as goal

pub returns-then-only_counts-clause-carries : goal.returns-then-only_counts-clause-carries
returns-then-only_counts-clause-carries g c = λ dead told.
    let docs = g.C.Chunk.content c.args.chunk.now in
    let there = at_place c.args.told.now c.args.index c.requires.index in
    let at = told_at c.args.asked.now docs dead c.args.from c.args.told.now told c.args.index there.0 c.requires.index there.1 in
    let its : DocRow = at.0 in
    let id : its.doc.id ≡ c.id.result =
    (let some : Some its.doc.id ≡ Some c.id.result = ap (option_map (λ (found : DocRow). found.doc.id)) (sym at.1) ∙ c.id.ensures in cc) in
    let empty : c.asked.inside.question.now.filters ≡ [] = search rules in
    let none : c.args.asked.now.filters ≡ [] = ap (λ (its : Question). its.filters) (sym c.asked.view_is) ∙ empty in
    carries_run g.S.Sink.Took c.args.asked.now docs dead (c.args.from + c.args.index) (c.args.from + c.run_of-next.result.0) c.args.most c.run_of-next.result.1 its c.args.sink.now c.count.new.self at.1 c.requires.rows none
    (c.run_of-next.ensures.run docs dead c.args.from c.requires.asked told (λ doc here. c.requires.weighs none doc here))
    (λ first taken its_rows all long took. c.in_ok-count.ensures c.args.most c.id.result first taken its_rows (c.only_counts.ensures c.if-only_counts.true) (subst (λ (n : ℕ). All (IsBeyond c.args.most n) its_rows) id all) long took)
