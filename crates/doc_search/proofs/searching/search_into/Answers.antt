use Rattle.std.proofs.Common.{◌≡◌, ◌∙◌, List, All, Err, false, ap, sym, subst}
use Rattle.srch_base.specs.declared.faults.Or.{Or}
use Rattle.doc_types.specs.Snapshots.{LayerValue, SnapshotValue, all_living}
use Rattle.doc_search.specs.steps.Gathering.{IsAskedOfDocs}
use Rattle.doc_search.specs.declared.lacking.NoWeight.{NoWeight}
use Rattle.doc_search.specs.steps.Lacking.{IfStopped, LacksSome, sought_question}
use Rattle.doc_search.proofs.WithoutWeight.{asked_alike}
use Rattle.doc_search.proofs.searching.search_into.Goals as goal

pub search_layers-requires-clause-asked : goal.search_layers-requires-clause-asked
search_layers-requires-clause-asked g c =
    let layers : c.as_slice-layers.result.now ≡ c.args.snapshot.now.layers = c.as_slice-layers.ensures ∙ ap (λ (its : SnapshotValue). its.layers) c.snapshot.view_is in
    subst (λ (all : List LayerValue). All (λ layer. IsAskedOfDocs (sought_question false c.args.question.now) layer.rows) all) (sym layers)
    (λ k d within. asked_alike false c.args.question.now _ (record { schema = c.requires.asked.0; asked = c.requires.asked.1; rows = c.requires.asked.2 k d within }))

pub first_lacking-requires : goal.first_lacking-requires
first_lacking-requires g c =
    let layers : c.as_slice-layers.result.now ≡ c.args.snapshot.now.layers = c.as_slice-layers.ensures ∙ ap (λ (its : SnapshotValue). its.layers) c.snapshot.view_is in
    record {
      asked = subst (λ (all : List LayerValue). All (λ layer. IsAskedOfDocs c.args.question.now layer.rows) all) (sym layers)
          (λ k d within. record { schema = c.requires.asked.0; asked = c.requires.asked.1; rows = c.requires.asked.2 k d within });
      some = subst (λ (end : Or NoWeight). IfStopped {A = Unit {0}} (Err end) (LacksSome c.args.question.now (all_living c.as_slice-layers.result.now))) c.in-Err-Fault.field-0-is c.in-Err-Fault.ensures.lacks;
    }
