use Rattle.std.proofs.Common.{◌≡◌, ◌∙◌, ℕ, List, IfOk, ap, subst, sym}
use Rattle.std.specs.List.{count_by}
use Rattle.doc_types.specs.Snapshots.{LayerValue, SnapshotValue, all_living}
use Rattle.prefix_terms.specs.Prefixes.{AreWordsWith}
use Rattle.table_search.specs.steps.Counting.{has_some}
use Rattle.table_search.proofs.Taken.{begun_docs}
use Rattle.table_search.proofs.prefix_docs.docs_beginning.Goals as goal

pub returns : goal.returns
returns g c =
    let docs = all_living c.args.snapshot.now.layers in
    let words = c.as_slice.result.now in
    let are : AreWordsWith docs c.args.beginning.now words = subst (AreWordsWith docs c.args.beginning.now) (sym c.as_slice.ensures) c.in_ok-words.ensures in
    subst (λ (n : ℕ). IfOk c.count_docs.result (λ count. count ≡ n))
    (ap (λ (layers : List LayerValue). count_by (has_some words) (all_living layers)) (c.as_slice-2.ensures ∙ ap (λ (its : SnapshotValue). its.layers) c.snapshot.view_is)
    ∙ begun_docs docs c.args.beginning.now words are)
    c.count_docs.ensures
