use Rattle.std.proofs.Common.{◌≡◌, ◌∙◌, List, IfOk, ap, map, subst}
use Rattle.doc_types.specs.Snapshots.{all_living}
use Rattle.query_tree.specs.declared.key.Key.{Key}
use Rattle.table_search.specs.Keywords.{counted, first_keys}
use Rattle.table_search.specs.declared.keywords.WordDocs.{WordDocs}
use Rattle.table_search.specs.steps.Counting.{lent}
use Rattle.table_search.proofs.keywords.word_docs.Goals as goal

pub returns : goal.returns
returns g c =
    let docs = all_living c.args.snapshot.now.layers in
    subst (λ (keys : List Key). IfOk c.count_keys.result (λ counts. counts ≡ map (counted docs) keys))
    (ap lent c.deref-2.ensures.value ∙ c.in_ok-keys.ensures ∙ ap first_keys (ap lent c.deref.ensures.value ∙ c.in_ok-all.ensures))
    c.count_keys.ensures
