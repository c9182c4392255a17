use Rattle.std.proofs.Common.{Ok, Option, subst}
use Rattle.doc_types.specs.Snapshots.{all_living}
use Rattle.query_tree.specs.declared.query.Query.{Query}
use Rattle.prefix_search.specs.Asking.{Asks}
use Rattle.table_search.proofs.Told.{tables_carried}
use Rattle.table_search.proofs.searching.find_tables.Goals as goal

pub returns-in-Ok-None-clause-found : goal.returns-in-Ok-None-clause-found
returns-in-Ok-None-clause-found g c =
    let select = c.args.asked.now in
    let layers = c.args.snapshot.now.layers in
    let asked = c.requires.asked in
    let at = c.in-Ok-None in
    tables_carried asked.0 select layers select.question.query asked.1 asked.2
    (subst (λ (o : Option Query). Asks select.question.query (all_living layers) (Ok o)) at.field-0-is at.ensures) c.find_plain.result c.told.result c.find_plain.ensures c.told.ensures
