-- Layers that are put together more than once.
use Rattle.std.proofs.Common.{◌≡◌, ◌<◌, ◌≤◌, List, [], ◌∷◌, ◌++◌, false, All, length, refl, sym, ap, subst, ◌∙◌, take, drop, arith, append-nil, inl, inr, length-append}
use Rattle.std.specs.List.Sorted.{IsPermutation}
use Rattle.std.proofs.Math.ListN.{drop_of_length-le}
use Rattle.std.proofs.Math.Seq.{drop-append_seam, take-append_seam}
use Rattle.std.proofs.lemmas.Bool.{cases_lt}
use Rattle.std.proofs.lemmas.List.{drop-append-le, take-append-drop, take-append-le, take_all}
use Rattle.std.proofs.lemmas.List.Concat.{flat_map-append}
use Rattle.std.proofs.lemmas.List.Elements.{All-append, All-take}
use Rattle.std.proofs.lemmas.List.Sorted.{IsPermutation-append_right, IsPermutation-trans, All-permutation, length_permutation}
use Rattle.doc_types.specs.declared.documents.DocRow.{DocRow}
use Rattle.doc_types.specs.Documents.{IsDocOf}
use Rattle.doc_types.specs.Snapshots.{LayerValue, SnapshotValue, all_living, living}
use Rattle.layer_commit.specs.Commits.{layers_of}
use Rattle.layer_joins.specs.Joins.{AreOfOne, Joins, MayMerge}
use Rattle.layer_joins.proofs.Upkeep.{joined_rows, living_of}

abbrev InMemory : LayerValue → Type 0
InMemory layer = layer.disk ≡ false

all_front : (xs ys : List LayerValue) → All InMemory (xs ++ ys) → All InMemory xs
all_front xs ys all = subst (All InMemory) (take-append_seam xs ys) (All-take InMemory (length xs) (xs ++ ys) all)

few_layers : (rows : List DocRow) → length (layers_of rows) ≤ 1
few_layers [] = omega arith
few_layers (row ∷ rows) = omega arith

no_rows : (rows : List DocRow) → length rows ≡ 0 → layers_of rows ≡ []
no_rows [] none = refl
no_rows (row ∷ rows) none = absurd (omega (arith, none))

-- the rows behind a place are the same where the last layers became one
same_rows : (front rest : List LayerValue) (rows : List DocRow) → IsPermutation (all_living rest) rows → IsPermutation (all_living (front ++ rest)) (all_living (front ++ layers_of rows))
same_rows front rest rows are =
    subst (λ r. IsPermutation r (all_living (front ++ layers_of rows))) (sym (flat_map-append living front rest))
    (subst (IsPermutation (all_living front ++ all_living rest)) (sym (flat_map-append living front (layers_of rows) ∙ ap (λ r. all_living front ++ r) (living_of rows)))
    (IsPermutation-append_right (all_living front) (all_living rest) rows are))

-- a second time from a place before the layer that the first time made
joined_before : (front rest : List LayerValue) (rows : List DocRow) (new : List LayerValue) → All InMemory rest → IsPermutation (all_living rest) rows → (second : Joins (front ++ layers_of rows) new) → second.start ≤ length front → Joins (front ++ rest) new
joined_before front rest rows new memory are second before =
    let start = second.start in
    let last : drop start (front ++ layers_of rows) ≡ drop start front ++ layers_of rows = drop-append-le start front (layers_of rows) before in
    let were : drop start (front ++ rest) ≡ drop start front ++ rest = drop-append-le start front rest before in
    record {
      start = start;
      memory = subst (All InMemory) (sym were) (All-append InMemory (drop start front) rest (all_front (drop start front) (layers_of rows) (subst (All InMemory) last second.memory)) memory);
      rows = second.rows;
      are =
          subst (λ layers. IsPermutation (all_living layers) second.rows) (sym were)
          (IsPermutation-trans (all_living (drop start front ++ rest)) (all_living (drop start front ++ layers_of rows)) second.rows
          (same_rows (drop start front) rest rows are)
          (subst (λ layers. IsPermutation (all_living layers) second.rows) last second.are));
      layers = second.layers ∙ ap (λ layers. layers ++ layers_of second.rows) (take-append-le start front (layers_of rows) before ∙ sym (take-append-le start front rest before));
    }

-- behind that layer there is nothing to put together
joined_behind : (front rest : List LayerValue) (rows : List DocRow) (new : List LayerValue) → All InMemory rest → IsPermutation (all_living rest) rows → (second : Joins (front ++ layers_of rows) new) → length front < second.start → Joins (front ++ rest) new
joined_behind front rest rows new memory are second behind =
    let long : length (front ++ layers_of rows) ≤ second.start = omega (arith, length-append front (layers_of rows), few_layers rows, behind) in
    let none : IsPermutation [] second.rows = subst (λ layers. IsPermutation (all_living layers) second.rows) (drop_of_length-le (front ++ layers_of rows) {i = second.start} long) second.are in
    record {
      start = length front;
      memory = subst (All InMemory) (sym (drop-append_seam front rest)) memory;
      rows = rows;
      are = subst (λ layers. IsPermutation (all_living layers) rows) (sym (drop-append_seam front rest)) are;
      layers =
          second.layers
          ∙ ap (λ layers. take second.start (front ++ layers_of rows) ++ layers) (no_rows second.rows (length_permutation [] second.rows none))
          ∙ append-nil (take second.start (front ++ layers_of rows))
          ∙ take_all second.start (front ++ layers_of rows) long
          ∙ ap (λ layers. layers ++ layers_of rows) (sym (take-append_seam front rest));
    }

-- layers that were put together twice are as if once
joined_again : (old middle new : List LayerValue) → Joins old middle → Joins middle new → Joins old new
joined_again old middle new first second =
    let front = take first.start old in
    let rest = drop first.start old in
    let again : Joins (front ++ layers_of first.rows) new = subst (λ layers. Joins layers new) first.layers second in
    subst (λ layers. Joins layers new) (take-append-drop first.start old)
    (elim (cases_lt (length front) again.start) [
      | inl behind ↦ joined_behind front rest first.rows new first.memory first.are again behind
      | inr before ↦ joined_before front rest first.rows new first.memory first.are again before
    ])

pub merged_again : (old middle new : SnapshotValue) → MayMerge old middle → MayMerge middle new → MayMerge old new
merged_again old middle new first second = record {
  number = second.number ∙ first.number;
  shape = second.shape ∙ first.shape;
  joins = joined_again old.layers middle.layers new.layers first.joins second.joins;
}

-- the documents are of one schema still
pub of_merged : (old new : SnapshotValue) → MayMerge old new → AreOfOne (all_living old.layers) → AreOfOne (all_living new.layers)
of_merged old new may of = record {
  schema = of.schema;
  limits = of.limits;
  docs = All-permutation (λ (row : DocRow). IsDocOf of.schema row.doc) (all_living old.layers) (all_living new.layers) (joined_rows old.layers new.layers may.joins) of.docs;
}
