-- The rows of a rebased snapshot's layers are of the schema.
use Rattle.std.proofs.Common.{List, [], ◌∷◌, ◌++◌, not, map, All, ℕ}
use Rattle.std.specs.List.{filter}
use Rattle.std.proofs.lemmas.List.Elements.{All-append, All-cons, All-filter, All-map, All-nil}
use Rattle.doc_types.specs.declared.documents.DocRow.{DocRow}
use Rattle.doc_types.specs.declared.schema.Schema.{Schema}
use Rattle.doc_types.specs.Documents.{AreRowsOf}
use Rattle.doc_types.specs.Snapshots.{LayerValue, SnapshotValue}
use Rattle.step_history.specs.declared.job.Job.{Job}
use Rattle.step_history.specs.declared.job.Job.TheVariants.{Flush, Optimize}
use Rattle.step_history.specs.History.{AreOf}
use Rattle.step_history.specs.Places.{ram_layers}
use Rattle.reshape_laws.specs.Rebasing.{is_old, layer_with, less, lives, moved, new_layers, rebased, staying}

abbrev IsOf : Schema → LayerValue → Type 0
IsOf schema layer = AreRowsOf schema layer.rows

staying_of : (schema : Schema) (job : Job) (now : SnapshotValue) → AreOf schema now → All (IsOf schema) (staying job now)
staying_of schema Flush now of = All-filter (λ (layer : LayerValue). layer.disk) (IsOf schema) now.layers of
staying_of schema Optimize now of = All-nil (IsOf schema)

new_of : (schema : Schema) (new live : List DocRow) → AreRowsOf schema new → All (IsOf schema) (new_layers new live)
new_of schema [] live of = All-nil (IsOf schema)
new_of schema (row ∷ rows) live of = All-cons (IsOf schema) (layer_with (row ∷ rows) live) [] of (All-nil (IsOf schema))

young_of : (schema : Schema) (front : ℕ) (now : SnapshotValue) → AreOf schema now → All (IsOf schema) (filter lives (map (less (is_old front)) (ram_layers now)))
young_of schema front now of = All-filter lives (IsOf schema) (map (less (is_old front)) (ram_layers now)) (All-map (IsOf schema) (less (is_old front)) (ram_layers now) (All-filter (λ (layer : LayerValue). not layer.disk) (IsOf schema) now.layers of))

pub of_then : (schema : Schema) (job : Job) (front : ℕ) (new : List DocRow) (now : SnapshotValue) → AreOf schema now → AreRowsOf schema new → AreOf schema (rebased job front new now)
of_then schema job front new now of its =
    All-append (IsOf schema) (staying job now ++ new_layers new (moved job front now)) (filter lives (map (less (is_old front)) (ram_layers now)))
    (All-append (IsOf schema) (staying job now) (new_layers new (moved job front now)) (staying_of schema job now of) (new_of schema new (moved job front now) its))
    (young_of schema front now of)
