use Rattle.std.proofs.Common.{subst, sym}
use Rattle.doc_types.specs.Snapshots.{all_living}
use Rattle.query_tree.specs.declared.query.Query.{Query}
use Rattle.doc_search.specs.Searches.{IsAskedOf}
use Rattle.prefix_search.proofs.Carried.{asked_by, asked_other}
use Rattle.table_search.specs.steps.Plain.{PlainOr}
use Rattle.table_search.proofs.Told.{tables_carried, with_query}
use Rattle.table_search.proofs.searching.find_by.Goals as goal

pub find_plain-found-requires : goal.find_plain-found-requires
find_plain-found-requires g c =
    let question = c.args.asked.now.question in
    let asked = c.requires.asked in
    record {
      asked = (
        asked.0,
        subst (λ (q : Query). IsAskedOf asked.0 (asked_by question q)) (sym c.replace-own.ensures.after) (asked_other asked.0 question (all_living c.args.snapshot.now.layers) c.args.other asked.1 c.requires.other),
        asked.2,
      );
    }

pub returns-clause-found : goal.returns-clause-found
returns-clause-found g c =
    let select = c.args.asked.now in
    let layers = c.args.snapshot.now.layers in
    let asked = c.requires.asked in
    tables_carried asked.0 select layers c.args.other asked.1 asked.2 c.requires.other c.find_plain-found.result c.told.result
    (subst (λ (q : Query). PlainOr (with_query select q) (all_living layers) c.find_plain-found.result) c.replace-own.ensures.after c.find_plain-found.ensures) c.told.ensures
