use Rattle.std.proofs.Common.{◌≡◌, ◌∙◌, ℕ, List, IfOk, ap, subst}
use Rattle.std.specs.List.{count_by, list_any}
use Rattle.doc_types.specs.Snapshots.{LayerValue, SnapshotValue, all_living}
use Rattle.query_tree.specs.Taking.{begins_so}
use Rattle.prefix_finds.specs.Taken.{words_in}
use Rattle.table_search.specs.steps.Counting.{docs_with}
use Rattle.table_search.proofs.Taken.{prefix_docs, whole_docs}
use Rattle.table_search.proofs.keywords.docs_taking.Goals as goal

pub returns-then-key : goal.returns-then-key
returns-then-key g c =
    let key = c.args.key.now in
    let docs = all_living c.args.snapshot.now.layers in
    subst (λ (n : ℕ). IfOk c.docs_beginning.result (λ count. count ≡ n))
    (ap (λ (beginning : List ℕ). count_by (λ doc. list_any (λ word. begins_so word beginning) (words_in doc)) docs) c.as_bytes.ensures ∙ prefix_docs key docs c.if-key.true)
    c.docs_beginning.ensures

pub returns-else-key : goal.returns-else-key
returns-else-key g c =
    let key = c.args.key.now in
    let docs = all_living c.args.snapshot.now.layers in
    subst (λ (n : ℕ). IfOk c.docs_with.result (λ count. count ≡ n))
    (ap (λ (word : List ℕ). docs_with word (all_living c.as_slice.result.now)) c.as_bytes-else-key.ensures
    ∙ ap (λ (layers : List LayerValue). docs_with key.word (all_living layers)) (c.as_slice.ensures ∙ ap (λ (its : SnapshotValue). its.layers) c.snapshot.view_is)
    ∙ whole_docs key docs c.if-key.false)
    c.docs_with.ensures
