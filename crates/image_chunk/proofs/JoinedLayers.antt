-- Layers that were put together as an image.
use Rattle.std.proofs.Common.{◌≡◌, ◌∙◌, ◌+◌, ◌<◌, ◌≤◌, ◌++◌, ℕ, List, [], ◌∷◌, Some, All, length, get_or, slice_get, take, sym, ap, subst, append-nil}
use Rattle.std.specs.Option.{option_map}
use Rattle.std.proofs.lemmas.List.{take_all, take_more}
use Rattle.std.proofs.lemmas.List.Concat.{flat_map-append}
use Rattle.std.proofs.lemmas.List.Elements.{All-append}
use Rattle.std.proofs.lemmas.List.Sorted.{All-permutation, IsPermutation-sym}
use Rattle.std.proofs.lemmas.Option.{slice_get-get_or}
use Rattle.doc_types.specs.declared.documents.DocRow.{DocRow}
use Rattle.doc_types.specs.Chunks.{CursorPlace, first_place}
use Rattle.doc_types.specs.Documents.{IsDocOf}
use Rattle.doc_types.specs.Snapshots.{LayerValue, all_living, living}
use Rattle.image_parts.specs.Images.{HasZones, HaveImage}
use Rattle.image_join.specs.JoinedImages.{IsJoinedImage}
use Rattle.layer_joins.proofs.Livings.{all_of}

-- the image of rows that live is one of the rows in their order
pub image_joined : (living_rows : List DocRow) (bytes : List ℕ) → All HasZones living_rows → (is : IsJoinedImage living_rows bytes) → length bytes ≤ 536870912 → (words : List (List ℕ)) × HaveImage is.rows words bytes
image_joined living_rows bytes zones is short =
    let content = is.are.content in
    let docs = All-permutation (λ (row : DocRow). IsDocOf content.schema row.doc) is.rows living_rows (IsPermutation-sym living_rows is.rows is.are.moved) content.of.docs in
    let its = is.is content.schema content.limits docs in (
      its.words,
      ∣ record {
        schema = content.schema;
        limits = content.limits;
        of = content.of;
        small = content.small;
        are = its.are;
        few_words = its.few_words;
        room = its.room;
        zones = All-permutation HasZones living_rows is.rows is.are.moved zones;
        is = its.is;
        short = short;
      } ∣₁,
    )

-- zones of one layer more fit
pub zones_more : (layers : List LayerValue) (i : ℕ) (layer : LayerValue) → i < length layers → layer ≡ get_or layers i layer → All HasZones (all_living (take i layers)) → All HasZones layer.rows → All HasZones (all_living (take (i + 1) layers))
zones_more layers i layer low is all own =
    let one : take (i + 1) layers ≡ take i layers ++ layer ∷ [] = take_more layers i layer low ∙ ap (λ l. take i layers ++ l ∷ []) (sym is) in
    let rows : all_living (take (i + 1) layers) ≡ all_living (take i layers) ++ living layer =
    ap all_living one ∙ flat_map-append living (take i layers) (layer ∷ []) ∙ ap (λ last. all_living (take i layers) ++ last) (append-nil (living layer)) in
    subst (All HasZones) (sym rows) (All-append HasZones (all_living (take i layers)) (living layer) all (all_of HasZones layer own))

pub zones_all : (layers : List LayerValue) (i : ℕ) → length layers ≤ i → All HasZones (all_living (take i layers)) → All HasZones (all_living layers)
zones_all layers i past all = subst (λ ls. All HasZones (all_living ls)) (take_all i layers past) all

-- a cursor before all rows of the word of a number
pub started : (rows : List DocRow) (words : List (List ℕ)) (n : ℕ) (place : CursorPlace) → n < length words → ((word : List ℕ) → slice_get words n ≡ Some word → place ≡ first_place word rows) → option_map (λ word. first_place word rows) (slice_get words n) ≡ Some place
started rows words n place low told =
    let there = slice_get-get_or words n [] low in
    ap (option_map (λ word. first_place word rows)) there ∙ ap Some (sym (told (get_or words n []) there))
