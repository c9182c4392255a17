-- The rows of layers that live.
use Rattle.std.proofs.Common.{◌≡◌, ℕ, ◌+◌, ◌<◌, List, [], ◌∷◌, ◌++◌, true, false, cond, ◌==◌, not, All, map, length, get_or, take, drop, refl, sym, ap, ◌∙◌, arith, length-take}
use Rattle.std.specs.List.{filter, list_any, enumerate_from}
use Rattle.std.proofs.lemmas.List.{map-append, take-append-drop, take_more}
use Rattle.std.proofs.lemmas.List.Concat.{flat_map-append}
use Rattle.std.proofs.lemmas.List.Elements.{All-append, All-cons, All-filter, All-head, All-map, All-nil, All-tail, filter-append}
use Rattle.doc_types.specs.declared.documents.DocRow.{DocRow}
use Rattle.doc_types.specs.declared.schema.Schema.{Schema}
use Rattle.doc_types.specs.Documents.{AreRowsOf, IsDocOf}
use Rattle.doc_types.specs.Snapshots.{LayerValue, all_living, is_dead, living}

-- the layers before a place, and those from it on
pub all_living_split : (layers : List LayerValue) (start : ℕ) → all_living layers ≡ all_living (take start layers) ++ all_living (drop start layers)
all_living_split layers start = ap all_living (sym (take-append-drop start layers)) ∙ flat_map-append living (take start layers) (drop start layers)

-- one more element of an enumeration
enumerate_more : {X : Type 0} (n : ℕ) (xs : List X) (x : X) → enumerate_from n (xs ++ x ∷ []) ≡ enumerate_from n xs ++ (n + length xs, x) ∷ []
enumerate_more n [] x = ap (λ k. (k, x) ∷ []) (omega arith)
enumerate_more n (y ∷ xs) x = ap (λ es. (n, y) ∷ es) (enumerate_more (n + 1) xs x ∙ ap (λ k. enumerate_from (n + 1) xs ++ (k, x) ∷ []) (omega arith))

-- the rows of a layer that live, of the first ones
abbrev pub living_of : List ℕ → List DocRow → List DocRow
living_of dead rows = map (λ e. e.1) (filter (λ e. not (list_any (λ d. d == e.0) dead)) (enumerate_from 0 rows))

-- of one more
pub living_more : (dead : List ℕ) (rows : List DocRow) (i : ℕ) (row : DocRow) → i < length rows → row ≡ get_or rows i row
    → living_of dead (take (i + 1) rows) ≡ living_of dead (take i rows) ++ cond (list_any (λ d. d == i) dead) [] (row ∷ [])
living_more dead rows i row h at =
    ap (living_of dead) (take_more rows i row h ∙ ap (λ r. take i rows ++ r ∷ []) (sym at))
    ∙ ap (λ es. map (λ (e : ℕ × DocRow). e.1) (filter (λ (e : ℕ × DocRow). not (list_any (λ d. d == e.0) dead)) es)) (enumerate_more 0 (take i rows) row ∙ ap (λ k. enumerate_from 0 (take i rows) ++ (k, row) ∷ []) (omega (arith, length-take i rows, h)))
    ∙ ap (map (λ (e : ℕ × DocRow). e.1)) (filter-append (λ (e : ℕ × DocRow). not (list_any (λ d. d == e.0) dead)) (enumerate_from 0 (take i rows)) ((i, row) ∷ []))
    ∙ map-append (λ (e : ℕ × DocRow). e.1) (filter (λ (e : ℕ × DocRow). not (list_any (λ d. d == e.0) dead)) (enumerate_from 0 (take i rows))) (filter (λ (e : ℕ × DocRow). not (list_any (λ d. d == e.0) dead)) ((i, row) ∷ []))
    ∙ ap (λ rest. living_of dead (take i rows) ++ rest) (elim (list_any (λ d. d == i) dead) as (λ b. map (λ (e : ℕ × DocRow). e.1) (cond (not b) ((i, row) ∷ []) []) ≡ cond b [] (row ∷ [])) [ true ↦ refl | false ↦ refl ])

all_seconds : (P : DocRow → Type 0) (n : ℕ) (rows : List DocRow) → All P rows → All (λ (e : ℕ × DocRow). P e.1) (enumerate_from n rows)
all_seconds P n [] all = All-nil (λ (e : ℕ × DocRow). P e.1)
all_seconds P n (row ∷ rows) all = All-cons (λ (e : ℕ × DocRow). P e.1) (n, row) (enumerate_from (n + 1) rows) (All-head P row rows all) (all_seconds P (n + 1) rows (All-tail P row rows all))

-- what holds of each row of a layer holds of those that live
pub all_of : (P : DocRow → Type 0) (layer : LayerValue) → All P layer.rows → All P (living layer)
all_of P layer all =
    All-map P (λ (e : ℕ × DocRow). e.1) (filter (λ (e : ℕ × DocRow). not (is_dead layer e.0)) (enumerate_from 0 layer.rows))
    (All-filter (λ (e : ℕ × DocRow). not (is_dead layer e.0)) (λ (e : ℕ × DocRow). P e.1) (enumerate_from 0 layer.rows) (all_seconds P 0 layer.rows all))

-- the documents that live are of the schema
pub docs_of : (schema : Schema) (layers : List LayerValue) → All (λ layer. AreRowsOf schema layer.rows) layers → All (λ row. IsDocOf schema row.doc) (all_living layers)
docs_of schema [] rows = All-nil (λ (row : DocRow). IsDocOf schema row.doc)
docs_of schema (layer ∷ layers) rows =
    All-append (λ (row : DocRow). IsDocOf schema row.doc) (living layer) (all_living layers)
    (all_of (λ (row : DocRow). IsDocOf schema row.doc) layer (All-head (λ (layer : LayerValue). AreRowsOf schema layer.rows) layer layers rows).docs)
    (docs_of schema layers (All-tail (λ (layer : LayerValue). AreRowsOf schema layer.rows) layer layers rows))
