-- Rows in their new order.
use Rattle.std.proofs.Common.{◌≡◌, ℕ, ◌+◌, ◌<◌, List, [], ◌∷◌, ◌++◌, length, map, get_or, take, sym, ap, ◌∙◌}
use Rattle.std.specs.List.{flat_map}
use Rattle.std.proofs.Math.ListN.{get_or-map}
use Rattle.std.proofs.lemmas.List.{get_or_default, length-map, take_more}
use Rattle.std.proofs.lemmas.List.Concat.{flat_map-append}
use Rattle.doc_types.specs.Snapshots.{LayerValue, all_living, living}
use Rattle.image_join.specs.declared.ordering.Living.{Living}
use Rattle.image_join.specs.steps.Numbering.{row_in}
use Rattle.image_join.specs.steps.Parts.{PartValue, blank_part, living_of, row_at}
use Rattle.image_join.proofs.Numbers.{blank}

-- the row at a place of the order, where its part is at hand
-- the row at a place of an order
pub row_there : (parts : List PartValue) (order : List Living) (i : ℕ) (part : PartValue) → i < length order → (get_or order i blank).part < length parts → part ≡ get_or parts (get_or order i blank).part part
    → (row_at part (get_or order i blank).row ≡ row_in parts (get_or order i blank)) × (get_or order i blank ≡ get_or order i (get_or order i blank))
row_there parts order i part low there is =
    let living = get_or order i blank in
    (ap (λ p. row_at p living.row) (is ∙ get_or_default parts living.part part blank_part there), get_or_default order i blank living low)

pub row_told : (parts : List PartValue) (order : List Living) (i : ℕ) (part : PartValue) → i < length order → (get_or order i blank).part < length parts → part ≡ get_or parts (get_or order i blank).part part
    → row_at part (get_or order i blank).row ≡ get_or (map (row_in parts) order) i (row_at part (get_or order i blank).row)
row_told parts order i part low there is =
    let living = get_or order i blank in
    let same : row_at part living.row ≡ row_in parts living = ap (λ p. row_at p living.row) (is ∙ get_or_default parts living.part part blank_part there) in
    same ∙ sym (get_or-map (row_in parts) order i blank)
    ∙ get_or_default (map (row_in parts) order) i (row_in parts blank) (row_at part living.row) (rw (length-map order (row_in parts)) low)

-- the living rows of one layer more
pub living_more : (parts : List PartValue) (part : PartValue) (layers : List LayerValue) (i : ℕ) (layer : LayerValue) (after : List PartValue) → i < length layers → layer ≡ get_or layers i layer → living_of part ≡ living layer → after ≡ parts ++ part ∷ []
    → flat_map living_of parts ≡ all_living (take i layers) → flat_map living_of after ≡ all_living (take (i + 1) layers)
living_more parts part layers i layer after low is same put was =
    ap (flat_map living_of) put ∙ flat_map-append living_of parts (part ∷ []) ∙ ap (λ l. l ++ flat_map living_of (part ∷ [])) was
    ∙ ap (λ rows. all_living (take i layers) ++ (rows ++ [])) same
    ∙ sym (flat_map-append living (take i layers) (layer ∷ [])) ∙ ap all_living (sym (take_more layers i layer low ∙ ap (λ (l : LayerValue). take i layers ++ l ∷ []) (sym is)))
