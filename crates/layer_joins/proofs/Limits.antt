-- What layers and their rows keep.
use Rattle.std.proofs.Common.{◌≡◌, ℕ, ◌+◌, ◌<◌, ◌^◌, ◌≤◌, List, [], ◌++◌, Bool, Option, Some, None, length, take, drop, refl, sym, subst, arith, All, AllPairs, length-append, length-take}
use Rattle.std.specs.List.{sum_by}
use Rattle.std.specs.List.Sorted.{IsPermutation, IsNonDecreasingBy}
use Rattle.std.proofs.lemmas.List.{get_or-append-add}
use Rattle.std.proofs.lemmas.List.Elements.{All-append, All-cons, All-nil, All-take}
use Rattle.std.proofs.lemmas.List.Sorted.{All-permutation, length_permutation}
use Rattle.doc_types.specs.declared.documents.DocRow.{DocRow}
use Rattle.doc_types.specs.Chunks.{IsContent}
use Rattle.doc_types.specs.Documents.{IsDocOf, word_count}
use Rattle.doc_types.specs.Snapshots.{LayerValue, IsLayer, AreLayers, all_living}
use Rattle.layer_joins.specs.Joins.{AreOfOne}
use Rattle.layer_joins.specs.Joins.{AreApart, AreSorted}
use Rattle.layer_joins.specs.steps.Layering.{AreInMemory, IsMerged, option_list}
use Rattle.layer_joins.proofs.Ids.{ascending, apart_permutation}
use Rattle.layer_joins.proofs.Upkeep.{joined_by, joined_rows}
use Rattle.layer_joins.proofs.Livings.{all_living_split}

-- sorted rows of one schema are a chunk's, where they are few
pub sorted_rows : (rows sorted : List DocRow) → AreOfOne rows → AreApart rows → IsPermutation rows sorted → IsNonDecreasingBy (λ row. row.doc.id) sorted → length rows < 2 ^ 32 → sum_by word_count sorted < 2 ^ 32 → AreSorted rows sorted
sorted_rows rows sorted of apart moved up few_rows few_words =
    let ascend : AllPairs (λ row later. row.doc.id < later.doc.id) sorted = ascending sorted up (apart_permutation rows sorted moved apart) in
    record {
      moved = moved;
      ascend = ascend;
      content = record {
        schema = of.schema;
        limits = of.limits;
        of = record { ids = ascend; docs = All-permutation (λ (row : DocRow). IsDocOf of.schema row.doc) rows sorted moved of.docs };
        small = record { few_rows = omega (arith, length_permutation rows sorted moved, few_rows); few_words = few_words };
      };
    }

-- a layer of such rows
pub layer_is : (rows content : List DocRow) (disk : Bool) (dead : List ℕ) → IsContent rows → content ≡ rows → dead ≡ [] → IsLayer (record { rows = content; disk = disk; dead = dead })
layer_is rows content disk dead is same none = record {
  content = subst IsContent (sym same) is;
  ascend = rw none (λ i j d l h. absurd (omega arith));
  rows = rw none (λ k d h. absurd (omega arith));
}

merged_layers : (rows : List DocRow) (layer : Option LayerValue) → IsMerged rows layer → All IsLayer (option_list layer)
merged_layers rows None is = All-nil IsLayer
merged_layers rows (Some layer) is = All-cons IsLayer layer [] is.1.is (All-nil IsLayer)

few_more : (layer : Option LayerValue) → length (option_list layer) ≤ 1
few_more None = omega arith
few_more (Some layer) = omega arith

-- the last layers put together
pub layers_merged : (layers : List LayerValue) (start : ℕ) (layer : Option LayerValue) → AreLayers layers → AreInMemory start layers → IsMerged (all_living (drop start layers)) layer → start < length layers → AreLayers (take start layers ++ option_list layer)
layers_merged layers start layer are memory merged within =
    let moved : IsPermutation (all_living layers) (all_living (take start layers ++ option_list layer)) = joined_rows layers (take start layers ++ option_list layer) (joined_by layers start layer (take start layers ++ option_list layer) memory merged refl) in
    record {
      each = All-append IsLayer (take start layers) (option_list layer) (All-take IsLayer start layers are.each) (merged_layers (all_living (drop start layers)) layer merged);
      distinct = apart_permutation (all_living layers) (all_living (take start layers ++ option_list layer)) moved are.distinct;
      few_layers = omega (arith, length-append (take start layers) (option_list layer), few_more layer, length-take start layers, within, are.few_layers);
      few_rows = omega (arith, length_permutation (all_living layers) (all_living (take start layers ++ option_list layer)) moved, are.few_rows);
    }

all_back : {X : Type 0} (P : X → Type 0) (xs ys : List X) → All P (xs ++ ys) → All P ys
all_back P xs ys all k d h =
    let long : length xs + k < length (xs ++ ys) = omega (arith, length-append xs ys, h) in
    rw (← get_or-append-add xs ys k d) (all (length xs + k) d long)

-- the last layers' documents are of one schema, where all are
pub of_back : (layers : List LayerValue) (start : ℕ) → AreOfOne (all_living layers) → AreOfOne (all_living (drop start layers))
of_back layers start of = record {
  schema = of.schema;
  limits = of.limits;
  docs =
      all_back (λ (row : DocRow). IsDocOf of.schema row.doc) (all_living (take start layers)) (all_living (drop start layers))
      (subst (All (λ (row : DocRow). IsDocOf of.schema row.doc)) (all_living_split layers start) of.docs);
}
