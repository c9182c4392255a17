-- What is kept where layers are put together: the layers on a disk, and that rows are of a schema.
use Rattle.std.proofs.Common.{◌≡◌, ◌+◌, ◌<◌, List, [], ◌∷◌, ◌++◌, Bool, false, cond, All, length, take, drop, refl, sym, ap, subst, ◌∙◌, arith, length-append}
use Rattle.std.specs.List.{filter}
use Rattle.std.proofs.lemmas.List.{get_or-append-add, take-append-drop}
use Rattle.std.proofs.lemmas.List.Elements.{All-append, All-cons, All-drop, All-head, All-nil, All-tail, All-take, filter-append}
use Rattle.std.proofs.lemmas.List.Sorted.{All-permutation}
use Rattle.doc_types.specs.declared.documents.DocRow.{DocRow}
use Rattle.doc_types.specs.declared.schema.Schema.{Schema}
use Rattle.doc_types.specs.Documents.{AreRowsOf, IsDocOf}
use Rattle.doc_types.specs.Snapshots.{AreLayers, IsLayer, LayerValue, all_living}
use Rattle.layer_commit.specs.Commits.{layers_of}
use Rattle.layer_joins.specs.Joins.{Joins}
use Rattle.layer_joins.proofs.Livings.{docs_of}

abbrev those_on_disk : List LayerValue → List LayerValue
those_on_disk layers = filter (λ layer. layer.disk) layers

none_on_disk : (layers : List LayerValue) → All (λ layer. layer.disk ≡ false) layers → those_on_disk layers ≡ []
none_on_disk [] all = refl
none_on_disk (layer ∷ layers) all =
    ap (λ (b : Bool). cond b (layer ∷ those_on_disk layers) (those_on_disk layers)) (All-head (λ (layer : LayerValue). layer.disk ≡ false) layer layers all)
    ∙ none_on_disk layers (All-tail (λ (layer : LayerValue). layer.disk ≡ false) layer layers all)

new_on_disk : (rows : List DocRow) → those_on_disk (layers_of rows) ≡ []
new_on_disk [] = refl
new_on_disk (row ∷ rows) = refl

-- the layers on a disk are the same
pub disk_joined : (old new : List LayerValue) → Joins old new → those_on_disk new ≡ those_on_disk old
disk_joined old new joins =
    ap those_on_disk joins.layers
    ∙ filter-append (λ (layer : LayerValue). layer.disk) (take joins.start old) (layers_of joins.rows)
    ∙ ap (λ (l : List LayerValue). those_on_disk (take joins.start old) ++ l) (new_on_disk joins.rows ∙ sym (none_on_disk (drop joins.start old) joins.memory))
    ∙ sym (filter-append (λ (layer : LayerValue). layer.disk) (take joins.start old) (drop joins.start old))
    ∙ ap those_on_disk (take-append-drop joins.start old)

all_back : {X : Type 0} (P : X → Type 0) (xs ys : List X) → All P (xs ++ ys) → All P ys
all_back P xs ys all k d h =
    let long : length xs + k < length (xs ++ ys) = omega (arith, length-append xs ys, h) in
    rw (← get_or-append-add xs ys k d) (all (length xs + k) d long)

joined_of : (schema : Schema) (rows : List DocRow) → All IsLayer (layers_of rows) → All (λ row. IsDocOf schema row.doc) rows → All (λ layer. AreRowsOf schema layer.rows) (layers_of rows)
joined_of schema [] are docs = All-nil (λ (layer : LayerValue). AreRowsOf schema layer.rows)
joined_of schema (row ∷ rows) are docs =
    All-cons (λ (layer : LayerValue). AreRowsOf schema layer.rows) (record { rows = row ∷ rows; disk = false; dead = [] }) []
    (record { ids = (All-head IsLayer (record { rows = row ∷ rows; disk = false; dead = [] }) [] are).content.of.ids; docs = docs }) (All-nil (λ (layer : LayerValue). AreRowsOf schema layer.rows))

-- the rows of all layers are of a schema, where they were
pub of_joined : (schema : Schema) (old new : List LayerValue) → All (λ layer. AreRowsOf schema layer.rows) old → AreLayers new → Joins old new → All (λ layer. AreRowsOf schema layer.rows) new
of_joined schema old new of are joins =
    let each : All IsLayer (layers_of joins.rows) = all_back IsLayer (take joins.start old) (layers_of joins.rows) (subst (All IsLayer) joins.layers are.each) in
    let docs : All (λ (row : DocRow). IsDocOf schema row.doc) joins.rows = All-permutation (λ (row : DocRow). IsDocOf schema row.doc) (all_living (drop joins.start old)) joins.rows joins.are (docs_of schema (drop joins.start old) (All-drop (λ (layer : LayerValue). AreRowsOf schema layer.rows) joins.start old of)) in
    subst (All (λ layer. AreRowsOf schema layer.rows)) (sym joins.layers)
    (All-append (λ (layer : LayerValue). AreRowsOf schema layer.rows) (take joins.start old) (layers_of joins.rows) (All-take (λ (layer : LayerValue). AreRowsOf schema layer.rows) joins.start old of) (joined_of schema joins.rows each docs))
