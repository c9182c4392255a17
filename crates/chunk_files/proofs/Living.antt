-- Ids that live in layers.
use Rattle.std.proofs.Common.{◌≡◌, ℕ, List, ◌==◌, is_some, ◌∙◌, ap, All}
use Rattle.std.specs.List.{list_any}
use Rattle.doc_types.specs.Snapshots.{IsLayer, LayerValue, all_living}
use Rattle.doc_types.specs.declared.documents.DocRow.{DocRow}
use Rattle.layer_commit.specs.steps.Finding.{lives}
use Rattle.layer_commit.proofs.Lives.{some_found, there}
use Rattle.layer_commit.proofs.RowMaps.{get_rows}

pub lives_are : (layers : List LayerValue) (id : ℕ) → All IsLayer layers → lives layers id ≡ list_any (λ row. row.doc.id == id) (all_living layers)
lives_are layers id are = there layers id are ∙ ap is_some (get_rows (all_living layers) id) ∙ some_found (λ (row : DocRow). row.doc.id == id) (all_living layers)
