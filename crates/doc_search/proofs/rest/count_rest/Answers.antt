use Rattle.std.proofs.Common.{◌≡◌, ◌∙◌, ℕ, Option, Some, IfSome, ap, length, subst, sym}
use Rattle.std.specs.Prelude.{All}
use Rattle.std.specs.Option.{option_map}
use Rattle.doc_types.specs.declared.documents.DocRow.{DocRow}
use Rattle.word_rows.proofs.Opening.{row_there}
use Rattle.op_eval.specs.Streams.{matching_from}
use Rattle.row_select.specs.Sinks.{IsBeyond}
use Rattle.doc_search.specs.declared.question.Question.{Question}
use Rattle.doc_search.specs.steps.Gathering.{WeighNoMore}
use Rattle.doc_search.proofs.LayerRest.{counted_rest}
use Rattle.doc_search.proofs.rest.count_rest.Goals as goal

pub returns-in_ok-count-in-Some-2-clause-counted : goal.returns-in_ok-count-in-Some-2-clause-counted
returns-in_ok-count-in-Some-2-clause-counted g c = λ first before left zip fit so told.
    let docs = g.C.Chunk.content c.args.chunk.now in
    let there = row_there docs c.args.number c.requires.number in
    let its : DocRow = there.0 in
    let id : its.doc.id ≡ c.id.result =
    (let some : Some its.doc.id ≡ Some c.id.result = ap (option_map (λ (found : DocRow). found.doc.id)) (sym there.1) ∙ c.id.ensures in cc) in
    let no_more : WeighNoMore c.args.asked.now docs c.in-Some.limit = subst (λ (o : Option ℕ). IfSome o (WeighNoMore c.args.asked.now docs)) c.in-Some.is c.requires.most in
    let own : c.in-Some-2.rows ≡ length (matching_from c.args.number c.asked.inside.question.now.query docs c.args.dead.now) =
    subst (λ (o : Option ℕ). IfSome o (λ count. count ≡ length (matching_from c.args.number c.asked.inside.question.now.query docs c.args.dead.now))) c.in-Some-2.is c.in_ok-rows-in-Some.ensures in
    let count : c.in-Some-2.rows ≡ length (matching_from c.args.number c.args.asked.now.query docs c.args.dead.now) =
    own ∙ ap (λ (question : Question). length (matching_from c.args.number question.query docs c.args.dead.now)) c.asked.view_is in
    counted_rest g.S.Sink.Took c.args.asked.now first docs c.args.dead.now c.args.number c.in-Some-2.rows c.in-Some.limit its before left c.args.sink.now c.count.new.self there.1 c.requires.rows no_more count zip fit
    (λ rows its_rows all long took.
    c.in_ok-count-in-Some-2.ensures c.in-Some.limit c.id.result first rows its_rows (c.only_counts.ensures c.if-only_counts.true)
    (subst (λ (n : ℕ). All (IsBeyond c.in-Some.limit n) its_rows) id all) long took) so
