-- What stays where layers are put together.
use Rattle.std.proofs.Common.{◌≡◌, ℕ, ◌<◌, List, [], ◌∷◌, ◌++◌, Option, Some, None, false, All, length, refl, sym, ap, subst, ◌∙◌, take, drop, arith, append-nil}
use Rattle.std.specs.List.Sorted.{IsPermutation}
use Rattle.std.proofs.Math.ListN.{drop_of_length-le}
use Rattle.std.proofs.lemmas.List.{take_all}
use Rattle.std.proofs.lemmas.List.Concat.{flat_map-append}
use Rattle.std.proofs.lemmas.List.Elements.{All-nil}
use Rattle.std.proofs.lemmas.List.Sorted.{IsPermutation-append_right, IsPermutation-refl, All-permutation, length_permutation}
use Rattle.doc_types.specs.declared.documents.DocRow.{DocRow}
use Rattle.doc_types.specs.declared.schema.Schema.{Schema}
use Rattle.doc_types.specs.Documents.{AreRowsOf, IsDocOf}
use Rattle.doc_types.specs.Snapshots.{LayerValue, SnapshotValue, all_living, live, living}
use Rattle.doc_types.proofs.Living.{whole_layer}
use Rattle.layer_commit.specs.Commits.{layers_of}
use Rattle.layer_joins.specs.Joins.{Joins, MayMerge}
use Rattle.layer_joins.specs.Joins.{AreApart}
use Rattle.layer_joins.specs.steps.Layering.{AreInMemory, IsLayerOf, IsMerged, option_list}
use Rattle.layer_joins.proofs.Livings.{all_living_split}
use Rattle.layer_joins.proofs.RowMaps.{rows_of_permutation}

-- nothing was put together
pub not_merged : (old new : SnapshotValue) → new ≡ old → MayMerge old new
not_merged old new same = record {
  number = ap (λ snapshot. snapshot.number) same;
  shape = ap (λ snapshot. snapshot.shape) same;
  joins = record {
    start = length old.layers;
    memory = subst (All (λ layer. layer.disk ≡ false)) (sym (drop_of_length-le old.layers {i = length old.layers} (omega arith))) (All-nil (λ (layer : LayerValue). layer.disk ≡ false));
    rows = [];
    are = subst (λ layers. IsPermutation (all_living layers) []) (sym (drop_of_length-le old.layers {i = length old.layers} (omega arith))) (IsPermutation-refl []);
    layers = ap (λ snapshot. snapshot.layers) same ∙ sym (take_all (length old.layers) old.layers (omega arith)) ∙ sym (append-nil (take (length old.layers) old.layers));
  };
}

some_rows : (layer : LayerValue) (rows : List DocRow) → layer.rows ≡ rows → 0 < length rows → layer.disk ≡ false → layer.dead ≡ [] → layer ∷ [] ≡ layers_of rows
some_rows layer [] is some memory whole = absurd (omega (arith, some))
some_rows layer (row ∷ rows) is some memory whole = λ i. record { rows = is i; disk = memory i; dead = whole i } ∷ []

-- the last layers were put together
pub joined_by : (old : List LayerValue) (start : ℕ) (layer : Option LayerValue) (new : List LayerValue) → AreInMemory start old → IsMerged (all_living (drop start old)) layer → new ≡ take start old ++ option_list layer → Joins old new
joined_by old start None new memory is layers = record { start = start; memory = memory; rows = []; are = subst (λ rows. IsPermutation rows []) (sym is) (IsPermutation-refl []); layers = layers }
joined_by old start (Some layer) new memory is layers =
    let some : 0 < length layer.rows = omega (arith, is.0, length_permutation (all_living (drop start old)) layer.rows is.1.sorted) in
    record { start = start; memory = memory; rows = layer.rows; are = is.1.sorted; layers = layers ∙ ap (λ last. take start old ++ last) (some_rows layer layer.rows refl some is.1.memory is.1.whole) }

pub living_of : (rows : List DocRow) → all_living (layers_of rows) ≡ rows
living_of [] = refl
living_of (row ∷ rows) = whole_layer (record { rows = row ∷ rows; disk = false; dead = [] }) refl

-- the rows that live are the same in another order
pub joined_rows : (old new : List LayerValue) → Joins old new → IsPermutation (all_living old) (all_living new)
joined_rows old new joins =
    let after : all_living new ≡ all_living (take joins.start old) ++ joins.rows =
    ap all_living joins.layers ∙ flat_map-append living (take joins.start old) (layers_of joins.rows) ∙ ap (λ rows. all_living (take joins.start old) ++ rows) (living_of joins.rows) in
    subst (IsPermutation (all_living old)) (sym after)
    (subst (λ rows. IsPermutation rows (all_living (take joins.start old) ++ joins.rows)) (sym (all_living_split old joins.start))
    (IsPermutation-append_right (all_living (take joins.start old)) (all_living (drop joins.start old)) joins.rows joins.are))

-- the documents are the same
pub live_joined : (old new : SnapshotValue) → MayMerge old new → AreApart (all_living old.layers) → live new ≡ live old
live_joined old new may apart = sym (rows_of_permutation (all_living old.layers) (all_living new.layers) (joined_rows old.layers new.layers may.joins) apart)

-- a layer of documents of the schema
pub rows_are : (schema : Schema) (rows : List DocRow) (layer : LayerValue) → All (λ row. IsDocOf schema row.doc) rows → IsLayerOf rows layer → AreRowsOf schema layer.rows
rows_are schema rows layer docs is = record { ids = is.ascend; docs = All-permutation (λ (row : DocRow). IsDocOf schema row.doc) rows layer.rows is.sorted docs }
