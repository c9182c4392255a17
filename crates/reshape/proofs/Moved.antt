-- The rows that move, and their ids.
use Rattle.std.proofs.Common.{◌≡◌, ℕ, List, [], ◌∷◌, ◌++◌, Bool, true, false, ◌==◌, ◌||◌, ◌&&◌, not, cond, map, refl, sym, ap, ◌∙◌}
use Rattle.std.specs.List.{filter, list_any, enumerate_from}
use Rattle.std.proofs.lemmas.List.Elements.{filter-append}
use Rattle.std.proofs.lemmas.List.Folds.{list_any-append}
use Rattle.doc_types.specs.declared.documents.DocRow.{DocRow}
use Rattle.doc_types.specs.Snapshots.{LayerValue, SnapshotValue, all_living, is_dead, living}
use Rattle.step_history.specs.declared.job.Job.{Job}
use Rattle.step_history.specs.declared.job.Job.TheVariants.{Flush, Optimize}
use Rattle.reshape_laws.specs.Rebasing.{has_id, is_old, moved}
use Rattle.reshape.specs.steps.Moving.{all_moving_ids, has_moving, moves, moving_ids, takes_disk}

both : {X : Type 0} (q : ℕ → Bool) (p : X → Bool) (es : List (ℕ × X)) → map (λ e. e.1) (filter (λ e. q e.0 && p e.1) es) ≡ filter p (map (λ e. e.1) (filter (λ e. q e.0) es))
both q p [] = refl
both {X} q p (e ∷ es) =
    let more = both q p es in
    elim (q e.0) as (λ (b : Bool). map (λ (e : ℕ × X). e.1) (cond (b && p e.1) (e ∷ filter (λ e. q e.0 && p e.1) es) (filter (λ e. q e.0 && p e.1) es)) ≡ filter p (map (λ (e : ℕ × X). e.1) (cond b (e ∷ filter (λ e. q e.0) es) (filter (λ e. q e.0) es)))) [
      | true ↦ elim (p e.1) as (λ (c : Bool). map (λ (e : ℕ × X). e.1) (cond c (e ∷ filter (λ e. q e.0 && p e.1) es) (filter (λ e. q e.0 && p e.1) es)) ≡ cond c (e.1 ∷ filter p (map (λ (e : ℕ × X). e.1) (filter (λ e. q e.0) es))) (filter p (map (λ (e : ℕ × X). e.1) (filter (λ e. q e.0) es)))) [
        | true ↦ ap (λ xs. e.1 ∷ xs) more
        | false ↦ more
      ]
      | false ↦ more
    ]

all_pass : {X : Type 0} (xs : List X) → filter (λ x. true) xs ≡ xs
all_pass [] = refl
all_pass (x ∷ xs) = ap (λ ys. x ∷ ys) (all_pass xs)

none_pass : {X : Type 0} (xs : List X) → filter (λ x. false) xs ≡ []
none_pass [] = refl
none_pass (x ∷ xs) = none_pass xs

abbrev from_layer : Job → ℕ → Bool → LayerValue → List DocRow
from_layer job front disk layer = filter (λ row. cond disk (takes_disk job) (is_old front row)) (living layer)

-- the ids of some of a layer's rows are those of the rows
among : (id : ℕ) (es : List (ℕ × DocRow)) → list_any (λ other. other == id) (map (λ e. e.1.doc.id) es) ≡ has_id (map (λ e. e.1) es) id
among id [] = refl
among id (e ∷ es) = ap (λ (b : Bool). (e.1.doc.id == id) || b) (among id es)

one_layer : (job : Job) (front : ℕ) (layer : LayerValue) (id : ℕ) → list_any (λ other. other == id) (moving_ids job front layer) ≡ has_id (from_layer job front layer.disk layer) id
one_layer job front layer id =
    among id (filter (moves job front layer) (enumerate_from 0 layer.rows))
    ∙ ap (λ (rows : List DocRow). has_id rows id) (both (λ k. not (is_dead layer k)) (λ row. cond layer.disk (takes_disk job) (is_old front row)) (enumerate_from 0 layer.rows))

or_assoc : (a b c : Bool) → (a || (b || c)) ≡ ((a || b) || c)
or_assoc true b c = refl
or_assoc false b c = refl

or_swap : (a b c : Bool) → (a || (b || c)) ≡ (b || (a || c))
or_swap true true c = refl
or_swap true false c = refl
or_swap false b c = refl

abbrev on : LayerValue → Bool
on layer = layer.disk

abbrev off : LayerValue → Bool
off layer = not layer.disk

memory : (front id : ℕ) (layer : LayerValue) (layers : List LayerValue) → has_id (filter (is_old front) (living layer ++ all_living layers)) id ≡ (has_id (filter (is_old front) (living layer)) id || has_id (filter (is_old front) (all_living layers)) id)
memory front id layer layers =
    ap (λ (rows : List DocRow). has_id rows id) (filter-append (is_old front) (living layer) (all_living layers))
    ∙ list_any-append (λ (row : DocRow). row.doc.id == id) (filter (is_old front) (living layer)) (filter (is_old front) (all_living layers))

abbrev moved_of : Job → ℕ → List LayerValue → List DocRow
moved_of Flush front layers = filter (is_old front) (all_living (filter off layers))
moved_of Optimize front layers = all_living (filter on layers) ++ filter (is_old front) (all_living (filter off layers))

split : (front id : ℕ) (layers : List LayerValue) → has_id (moved_of Optimize front layers) id ≡ (has_id (all_living (filter on layers)) id || has_id (filter (is_old front) (all_living (filter off layers))) id)
split front id layers = list_any-append (λ (row : DocRow). row.doc.id == id) (all_living (filter on layers)) (filter (is_old front) (all_living (filter off layers)))

one_more : (job : Job) (front id : ℕ) (layer : LayerValue) (layers : List LayerValue) → (has_id (from_layer job front layer.disk layer) id || has_id (moved_of job front layers) id) ≡ has_id (moved_of job front (layer ∷ layers)) id
one_more Flush front id layer layers =
    elim layer.disk as (λ (b : Bool). (has_id (from_layer Flush front b layer) id || has_id (moved_of Flush front layers) id) ≡ has_id (filter (is_old front) (all_living (cond (not b) (layer ∷ filter off layers) (filter off layers)))) id) [
      | true ↦ ap (λ (rows : List DocRow). has_id rows id || has_id (moved_of Flush front layers) id) (none_pass (living layer))
      | false ↦ sym (memory front id layer (filter off layers))
    ]
one_more Optimize front id layer layers =
    let D = all_living (filter on layers) in
    let M = filter (is_old front) (all_living (filter off layers)) in
    elim layer.disk as (λ (b : Bool). (has_id (from_layer Optimize front b layer) id || has_id (moved_of Optimize front layers) id) ≡ has_id (all_living (cond b (layer ∷ filter on layers) (filter on layers)) ++ filter (is_old front) (all_living (cond (not b) (layer ∷ filter off layers) (filter off layers)))) id) [
      | true ↦
          ap (λ (rows : List DocRow). has_id rows id || has_id (moved_of Optimize front layers) id) (all_pass (living layer))
          ∙ ap (λ (b : Bool). has_id (living layer) id || b) (split front id layers)
          ∙ or_assoc (has_id (living layer) id) (has_id D id) (has_id M id)
          ∙ ap (λ (b : Bool). b || has_id M id) (sym (list_any-append (λ (row : DocRow). row.doc.id == id) (living layer) D))
          ∙ sym (list_any-append (λ (row : DocRow). row.doc.id == id) (living layer ++ D) M)
      | false ↦
          ap (λ (b : Bool). has_id (filter (is_old front) (living layer)) id || b) (split front id layers)
          ∙ or_swap (has_id (filter (is_old front) (living layer)) id) (has_id D id) (has_id M id)
          ∙ ap (λ (b : Bool). has_id D id || b) (sym (memory front id layer (filter off layers)))
          ∙ sym (list_any-append (λ (row : DocRow). row.doc.id == id) D (filter (is_old front) (living layer ++ all_living (filter off layers))))
    ]

moving : (job : Job) (front : ℕ) (layers : List LayerValue) (id : ℕ) → has_moving job front layers id ≡ has_id (moved_of job front layers) id
moving Flush front [] id = refl
moving Optimize front [] id = refl
moving job front (layer ∷ layers) id =
    list_any-append (λ other. other == id) (moving_ids job front layer) (all_moving_ids job front layers)
    ∙ ap (λ (b : Bool). b || has_moving job front layers id) (one_layer job front layer id)
    ∙ ap (λ (b : Bool). has_id (from_layer job front layer.disk layer) id || b) (moving job front layers id)
    ∙ one_more job front id layer layers

-- a row of the id moves where one of the ids is this
pub has_moving_is : (job : Job) (front : ℕ) (s : SnapshotValue) (id : ℕ) → has_moving job front s.layers id ≡ has_id (moved job front s) id
has_moving_is Flush front s id = moving Flush front s.layers id
has_moving_is Optimize front s id = moving Optimize front s.layers id

-- none moves from a layer on the disk that the job leaves
nothing_passes : (layer : LayerValue) (es : List (ℕ × DocRow)) → filter (λ e. not (is_dead layer e.0) && false) es ≡ []
nothing_passes layer [] = refl
nothing_passes layer (e ∷ es) =
    elim (is_dead layer e.0) as (λ (b : Bool). cond (not b && false) (e ∷ filter (λ e. not (is_dead layer e.0) && false) es) (filter (λ e. not (is_dead layer e.0) && false) es) ≡ []) [ true ↦ nothing_passes layer es | false ↦ nothing_passes layer es ]

pub none_moves : (job : Job) (front : ℕ) (layer : LayerValue) → layer.disk ≡ true → takes_disk job ≡ false → moving_ids job front layer ≡ []
none_moves job front layer on leaves =
    ap (λ (b : Bool). map (λ (e : ℕ × DocRow). e.1.doc.id) (filter (λ e. not (is_dead layer e.0) && cond b (takes_disk job) (is_old front e.1)) (enumerate_from 0 layer.rows))) on
    ∙ ap (λ (b : Bool). map (λ (e : ℕ × DocRow). e.1.doc.id) (filter (λ e. not (is_dead layer e.0) && b) (enumerate_from 0 layer.rows))) leaves
    ∙ ap (map (λ (e : ℕ × DocRow). e.1.doc.id)) (nothing_passes layer (enumerate_from 0 layer.rows))
