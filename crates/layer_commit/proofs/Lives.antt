-- The rows of layers that live, and those that live after some died.
use Rattle.std.proofs.Common.{◌≡◌, ℕ, suc, ◌+◌, ◌<◌, ◌≤◌, List, [], ◌∷◌, ◌++◌, Bool, true, false, cond, ◌==◌, ◌||◌, ◌&&◌, not, Some, None, is_some, map, length, refl, sym, ap, ◌∙◌, arith, All, AllPairs}
use Rattle.std.specs.Prelude.{nat_lt}
use Rattle.std.specs.FinMap as finite
use Rattle.std.specs.List.{filter, find, list_any, position_from, enumerate_from}
use Rattle.std.specs.Option.{option_and_then}
use Rattle.std.proofs.lemmas.Bool.{lt-ltb}
use Rattle.std.proofs.lemmas.Iterator.Adapters.{position_from-zero}
use Rattle.std.proofs.lemmas.List.Concat.{flat_map-append}
use Rattle.std.proofs.lemmas.List.Elements.{All-head, All-tail, filter-append}
use Rattle.std.proofs.lemmas.List.Folds.{list_any-append}
use Rattle.doc_types.specs.declared.documents.DocRow.{DocRow}
use Rattle.doc_types.specs.Rows.{rows_of}
use Rattle.doc_types.specs.Snapshots.{LayerValue, IsLayer, all_living, is_dead, living}
use Rattle.doc_types.proofs.Ids.{apart, same}
use Rattle.doc_types.proofs.Living.{whole_layer}
use Rattle.layer_commit.specs.Commits.{is_kept, layers_of}
use Rattle.layer_commit.specs.steps.Finding.{has_living, layer_with, lives, unless_dead}
use Rattle.layer_commit.proofs.RowMaps.{equal, get_rows, true_false}

-- no number of an enumeration is below its first
low : {X : Type 0} (q : ℕ × X → Bool) (n k : ℕ) (xs : List X) → k < n → list_any (λ d. d == k) (map (λ (e : ℕ × X). e.0) (filter q (enumerate_from n xs))) ≡ false
low q n k [] h = refl
low {X} q n k (x ∷ xs) h =
    elim (q (n, x)) as (λ b. list_any (λ d. d == k) (map (λ (e : ℕ × X). e.0) (cond b ((n, x) ∷ filter q (enumerate_from (n + 1) xs)) (filter q (enumerate_from (n + 1) xs)))) ≡ false) [
      | true ↦ ap (λ b. b || list_any (λ d. d == k) (map (λ (e : ℕ × X). e.0) (filter q (enumerate_from (n + 1) xs)))) (apart n k (omega (arith, h))) ∙ low q (n + 1) k xs (omega (arith, h))
      | false ↦ low q (n + 1) k xs (omega (arith, h))
    ]

-- to leave out the numbers of what passes is to leave out what passes
pub left_out : {X : Type 0} (q : ℕ × X → Bool) (out : ℕ → Bool) (n : ℕ) (xs : List X) → ((k : ℕ) → n ≤ k → out k ≡ list_any (λ d. d == k) (map (λ (e : ℕ × X). e.0) (filter q (enumerate_from n xs))))
    → filter (λ (e : ℕ × X). not (out e.0)) (enumerate_from n xs) ≡ filter (λ e. not (q e)) (enumerate_from n xs)
left_out q out n [] is = refl
left_out {X} q out n (x ∷ xs) is =
    elim (q (n, x)) as (λ b. ((k : ℕ) → n ≤ k → out k ≡ list_any (λ d. d == k) (map (λ (e : ℕ × X). e.0) (cond b ((n, x) ∷ filter q (enumerate_from (n + 1) xs)) (filter q (enumerate_from (n + 1) xs)))))
    → cond (not (out n)) ((n, x) ∷ filter (λ (e : ℕ × X). not (out e.0)) (enumerate_from (n + 1) xs)) (filter (λ (e : ℕ × X). not (out e.0)) (enumerate_from (n + 1) xs)) ≡ cond (not b) ((n, x) ∷ filter (λ e. not (q e)) (enumerate_from (n + 1) xs)) (filter (λ e. not (q e)) (enumerate_from (n + 1) xs))) [
      | true ↦ λ is.
          let here : out n ≡ true = is n (omega arith) ∙ ap (λ b. b || list_any (λ d. d == n) (map (λ (e : ℕ × X). e.0) (filter q (enumerate_from (n + 1) xs)))) (same n n refl) in
          ap (λ b. cond (not b) ((n, x) ∷ filter (λ (e : ℕ × X). not (out e.0)) (enumerate_from (n + 1) xs)) (filter (λ (e : ℕ × X). not (out e.0)) (enumerate_from (n + 1) xs))) here
          ∙ left_out q out (n + 1) xs (λ k h. is k (omega (arith, h)) ∙ ap (λ b. b || list_any (λ d. d == k) (map (λ (e : ℕ × X). e.0) (filter q (enumerate_from (n + 1) xs)))) (apart n k (omega (arith, h))))
      | false ↦ λ is.
          let here : out n ≡ false = is n (omega arith) ∙ low q (n + 1) n xs (omega arith) in
          ap (λ b. cond (not b) ((n, x) ∷ filter (λ (e : ℕ × X). not (out e.0)) (enumerate_from (n + 1) xs)) (filter (λ (e : ℕ × X). not (out e.0)) (enumerate_from (n + 1) xs))) here
          ∙ ap (λ rest. (n, x) ∷ rest) (left_out q out (n + 1) xs (λ k h. is k (omega (arith, h))))
    ] is

-- two filters after each other
both : {X : Type 0} (p q r : X → Bool) → ((x : X) → r x ≡ (p x && q x)) → (xs : List X) → filter r xs ≡ filter q (filter p xs)
both p q r alike [] = refl
both p q r alike (x ∷ xs) =
    ap (λ b. cond b (x ∷ filter r xs) (filter r xs)) (alike x)
    ∙ elim (p x) as (λ b. cond (b && q x) (x ∷ filter r xs) (filter r xs) ≡ filter q (cond b (x ∷ filter p xs) (filter p xs))) [
      | true ↦ ap (λ rest. cond (q x) (x ∷ rest) rest) (both p q r alike xs)
      | false ↦ both p q r alike xs
    ]

-- a filter by what a map gives
seconds : {X : Type 0} (p : X → Bool) (es : List (ℕ × X)) → map (λ (e : ℕ × X). e.1) (filter (λ (e : ℕ × X). p e.1) es) ≡ filter p (map (λ (e : ℕ × X). e.1) es)
seconds p [] = refl
seconds {X} p (e ∷ es) =
    elim (p e.1) as (λ b. map (λ (e : ℕ × X). e.1) (cond b (e ∷ filter (λ (e : ℕ × X). p e.1) es) (filter (λ (e : ℕ × X). p e.1) es)) ≡ cond b (e.1 ∷ filter p (map (λ (e : ℕ × X). e.1) es)) (filter p (map (λ (e : ℕ × X). e.1) es))) [
      | true ↦ ap (λ rest. e.1 ∷ rest) (seconds p es)
      | false ↦ seconds p es
    ]

neither : (a b : Bool) → not (a || b) ≡ (not a && not b)
neither true b = refl
neither false b = refl

-- the rows of a layer that live after those of some ids died
pub living_with : (dies : ℕ → Bool) (layer : LayerValue) → living (layer_with dies layer) ≡ filter (λ row. not (dies row.doc.id)) (living layer)
living_with dies layer =
    ap (map (λ (e : ℕ × DocRow). e.1)) (left_out (λ (e : ℕ × DocRow). is_dead layer e.0 || dies e.1.doc.id) (is_dead (layer_with dies layer)) 0 layer.rows (λ k h. refl))
    ∙ ap (map (λ (e : ℕ × DocRow). e.1)) (both (λ (e : ℕ × DocRow). not (is_dead layer e.0)) (λ (e : ℕ × DocRow). not (dies e.1.doc.id)) (λ (e : ℕ × DocRow). not (is_dead layer e.0 || dies e.1.doc.id)) (λ e. neither (is_dead layer e.0) (dies e.1.doc.id)) (enumerate_from 0 layer.rows))
    ∙ seconds (λ (row : DocRow). not (dies row.doc.id)) (filter (λ (e : ℕ × DocRow). not (is_dead layer e.0)) (enumerate_from 0 layer.rows))

positive : (n : ℕ) → nat_lt 0 (suc n) ≡ true
positive n = lt-ltb 0 (suc n) (omega arith)

none_of : {X : Type 0} (xs : List X) → nat_lt 0 (length xs) ≡ false → xs ≡ []
none_of [] e = refl
none_of (x ∷ xs) e = absurd (true_false (sym (positive (length xs)) ∙ e))

memory_empty : (disk : Bool) (rows : List DocRow) → (disk || nat_lt 0 (length rows)) ≡ false → rows ≡ []
memory_empty true rows e = absurd (true_false e)
memory_empty false rows e = none_of rows e

-- no row of a layer that isn't kept lives
all_kept : (layers : List LayerValue) → all_living (filter is_kept layers) ≡ all_living layers
all_kept [] = refl
all_kept (layer ∷ layers) =
    elim (is_kept layer) as (λ b. is_kept layer ≡ b → all_living (cond b (layer ∷ filter is_kept layers) (filter is_kept layers)) ≡ living layer ++ all_living layers) [
      | true ↦ λ e. ap (λ rows. living layer ++ rows) (all_kept layers)
      | false ↦ λ e. all_kept layers ∙ ap (λ rows. rows ++ all_living layers) (sym (memory_empty layer.disk (living layer) e))
    ] refl

all_with : (dies : ℕ → Bool) (layers : List LayerValue) → all_living (map (layer_with dies) layers) ≡ filter (λ row. not (dies row.doc.id)) (all_living layers)
all_with dies [] = refl
all_with dies (layer ∷ layers) =
    ap (λ rows. rows ++ all_living (map (layer_with dies) layers)) (living_with dies layer)
    ∙ ap (λ rows. filter (λ row. not (dies row.doc.id)) (living layer) ++ rows) (all_with dies layers)
    ∙ sym (filter-append (λ (row : DocRow). not (dies row.doc.id)) (living layer) (all_living layers))

-- the rows of layers that live after those of some ids died
pub living_kept : (dies : ℕ → Bool) (layers : List LayerValue) → all_living (filter is_kept (map (layer_with dies) layers)) ≡ filter (λ row. not (dies row.doc.id)) (all_living layers)
living_kept dies layers = all_kept (map (layer_with dies) layers) ∙ all_with dies layers

living_of : (put : List DocRow) → all_living (layers_of put) ≡ put
living_of [] = refl
living_of (row ∷ rows) = whole_layer (record { rows = row ∷ rows; disk = false; dead = [] }) refl

-- the same, with one more layer
pub living_after : (dies : ℕ → Bool) (layers : List LayerValue) (put : List DocRow)
    → all_living (filter is_kept (map (layer_with dies) layers) ++ layers_of put) ≡ filter (λ row. not (dies row.doc.id)) (all_living layers) ++ put
living_after dies layers put =
    flat_map-append living (filter is_kept (map (layer_with dies) layers)) (layers_of put)
    ∙ ap (λ rows. rows ++ all_living (layers_of put)) (living_kept dies layers)
    ∙ ap (λ rows. filter (λ row. not (dies row.doc.id)) (all_living layers) ++ rows) (living_of put)

-- an element that passes is found
pub some_found : {X : Type 0} (p : X → Bool) (xs : List X) → is_some (find p xs) ≡ list_any p xs
some_found p [] = refl
some_found p (x ∷ xs) = elim (p x) as (λ b. is_some (cond b (Some x) (find p xs)) ≡ (b || list_any p xs)) [ true ↦ refl | false ↦ some_found p xs ]

-- no later row has the id of an earlier one
no_later : (out : ℕ → Bool) (id n : ℕ) (rows : List DocRow) → All (λ row. id < row.doc.id) rows
    → list_any (λ row. row.doc.id == id) (map (λ (e : ℕ × DocRow). e.1) (filter (λ (e : ℕ × DocRow). not (out e.0)) (enumerate_from n rows))) ≡ false
no_later out id n [] above = refl
no_later out id n (row ∷ rows) above =
    let rest = no_later out id (n + 1) rows (All-tail (λ (row : DocRow). id < row.doc.id) row rows above) in
    let here : (row.doc.id == id) ≡ false = apart row.doc.id id (omega (arith, All-head (λ (row : DocRow). id < row.doc.id) row rows above)) in
    elim (out n) as (λ b. list_any (λ row. row.doc.id == id) (map (λ (e : ℕ × DocRow). e.1) (cond (not b) ((n, row) ∷ filter (λ (e : ℕ × DocRow). not (out e.0)) (enumerate_from (n + 1) rows)) (filter (λ (e : ℕ × DocRow). not (out e.0)) (enumerate_from (n + 1) rows)))) ≡ false) [
      | true ↦ rest
      | false ↦ ap (λ b. b || list_any (λ row. row.doc.id == id) (map (λ (e : ℕ × DocRow). e.1) (filter (λ (e : ℕ × DocRow). not (out e.0)) (enumerate_from (n + 1) rows)))) here ∙ rest
    ]

pub first_above : (row : DocRow) (rows : List DocRow) → AllPairs (λ row later. row.doc.id < later.doc.id) (row ∷ rows) → All (λ later. row.doc.id < later.doc.id) rows
first_above row rows up k d h = up 0 (suc k) d (omega arith) (omega (arith, h))

pub rest_up : (row : DocRow) (rows : List DocRow) → AllPairs (λ row later. row.doc.id < later.doc.id) (row ∷ rows) → AllPairs (λ row later. row.doc.id < later.doc.id) rows
rest_up row rows up i j d l h = up (suc i) (suc j) d (omega (arith, l)) (omega (arith, h))

-- the row of an id lives where one of the rows that live has it
found_from : (out : ℕ → Bool) (id n : ℕ) (rows : List DocRow) → AllPairs (λ row later. row.doc.id < later.doc.id) rows
    → is_some (option_and_then (λ row. cond (out row) None (Some row)) (position_from (λ row. row.doc.id == id) n rows)) ≡ list_any (λ row. row.doc.id == id) (map (λ (e : ℕ × DocRow). e.1) (filter (λ (e : ℕ × DocRow). not (out e.0)) (enumerate_from n rows)))
found_from out id n [] up = refl
found_from out id n (row ∷ rows) up =
    let rest = found_from out id (n + 1) rows (rest_up row rows up) in
    elim (row.doc.id == id) as (λ b. (row.doc.id == id) ≡ b → is_some (option_and_then (λ row. cond (out row) None (Some row)) (cond b (Some n) (position_from (λ row. row.doc.id == id) (n + 1) rows)))
    ≡ list_any (λ row. row.doc.id == id) (map (λ (e : ℕ × DocRow). e.1) (cond (not (out n)) ((n, row) ∷ filter (λ (e : ℕ × DocRow). not (out e.0)) (enumerate_from (n + 1) rows)) (filter (λ (e : ℕ × DocRow). not (out e.0)) (enumerate_from (n + 1) rows))))) [
      | true ↦ λ e. elim (out n) as (λ b. is_some (cond b None (Some n)) ≡ list_any (λ row. row.doc.id == id) (map (λ (e : ℕ × DocRow). e.1) (cond (not b) ((n, row) ∷ filter (λ (e : ℕ × DocRow). not (out e.0)) (enumerate_from (n + 1) rows)) (filter (λ (e : ℕ × DocRow). not (out e.0)) (enumerate_from (n + 1) rows))))) [
        | true ↦ sym (no_later out id (n + 1) rows (λ k d h. omega (arith, equal row.doc.id id e, first_above row rows up k d h)))
        | false ↦ sym (ap (λ b. b || list_any (λ row. row.doc.id == id) (map (λ (e : ℕ × DocRow). e.1) (filter (λ (e : ℕ × DocRow). not (out e.0)) (enumerate_from (n + 1) rows)))) e)
      ]
      | false ↦ λ e. rest ∙ elim (out n) as (λ b. list_any (λ row. row.doc.id == id) (map (λ (e : ℕ × DocRow). e.1) (filter (λ (e : ℕ × DocRow). not (out e.0)) (enumerate_from (n + 1) rows))) ≡ list_any (λ row. row.doc.id == id) (map (λ (e : ℕ × DocRow). e.1) (cond (not b) ((n, row) ∷ filter (λ (e : ℕ × DocRow). not (out e.0)) (enumerate_from (n + 1) rows)) (filter (λ (e : ℕ × DocRow). not (out e.0)) (enumerate_from (n + 1) rows))))) [
        | true ↦ refl
        | false ↦ sym (ap (λ b. b || list_any (λ row. row.doc.id == id) (map (λ (e : ℕ × DocRow). e.1) (filter (λ (e : ℕ × DocRow). not (out e.0)) (enumerate_from (n + 1) rows)))) e)
      ]
    ] refl

layer_has : (layer : LayerValue) (id : ℕ) → AllPairs (λ row later. row.doc.id < later.doc.id) layer.rows → has_living layer id ≡ list_any (λ row. row.doc.id == id) (living layer)
layer_has layer id up =
    ap (λ o. is_some (option_and_then (unless_dead layer) o)) (position_from-zero (λ (row : DocRow). row.doc.id == id) layer.rows)
    ∙ found_from (is_dead layer) id 0 layer.rows up

all_have : (layers : List LayerValue) (id : ℕ) → All (λ layer. AllPairs (λ row later. row.doc.id < later.doc.id) layer.rows) layers → lives layers id ≡ list_any (λ row. row.doc.id == id) (all_living layers)
all_have [] id up = refl
all_have (layer ∷ layers) id up =
    ap (λ b. b || lives layers id) (layer_has layer id (All-head (λ (layer : LayerValue). AllPairs (λ row later. row.doc.id < later.doc.id) layer.rows) layer layers up))
    ∙ ap (λ b. list_any (λ row. row.doc.id == id) (living layer) || b) (all_have layers id (All-tail (λ (layer : LayerValue). AllPairs (λ row later. row.doc.id < later.doc.id) layer.rows) layer layers up))
    ∙ sym (list_any-append (λ (row : DocRow). row.doc.id == id) (living layer) (all_living layers))

-- the ids that are there are those of the rows that live
pub there : (layers : List LayerValue) (id : ℕ) → All IsLayer layers → lives layers id ≡ finite.contains_key (rows_of (all_living layers)) id
there layers id are =
    all_have layers id (λ k d h. (are k d h).content.of.ids)
    ∙ sym (some_found (λ (row : DocRow). row.doc.id == id) (all_living layers))
    ∙ ap is_some (sym (get_rows (all_living layers) id))
