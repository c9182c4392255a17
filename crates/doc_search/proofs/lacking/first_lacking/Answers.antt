use Rattle.std.proofs.Common.{◌∙◌, sym}
use Rattle.doc_types.specs.Snapshots.{all_living}
use Rattle.doc_search.proofs.WithoutWeight.{first_of_found, has_least, is_expression}
use Rattle.doc_search.proofs.lacking.first_lacking.Goals as goal

pub unwrap-requires : goal.unwrap-requires
unwrap-requires g c =
    let docs = all_living c.args.layers.now in
    let expr = is_expression c.args.question.now docs c.requires.some in
    let its = c.in-Ok.ensures.found in
    has_least c.args.question.now expr.0 expr.1 docs its.0 c.search_layers-ended.new.sink.id its.1 c.requires.some its.2

pub returns-in-Ok : goal.returns-in-Ok
returns-in-Ok g c =
    let docs = all_living c.args.layers.now in
    let expr = is_expression c.args.question.now docs c.requires.some in
    let its = c.in-Ok.ensures.found in
    first_of_found c.args.question.now expr.0 expr.1 docs its.0 c.unwrap.result its.1 (sym its.2 ∙ c.unwrap.ensures)
