-- The chunks of a job's state, as layers.
use Rattle.std.proofs.Common.{◌≡◌, ℕ, ◌+◌, ◌≤◌, List, [], ◌∷◌, ◌++◌, Bool, true, false, ◌==◌, not, cond, map, refl, sym, ap, ◌∙◌, arith, All}
use Rattle.std.specs.List.{filter, list_any, enumerate_from, AllZip, Contains}
use Rattle.std.proofs.lemmas.List.Elements.{All-append, All-cons, All-contains_itself, All-filter, All-head, All-map, All-nil, All-tail, All-weaker}
use Rattle.doc_types.specs.declared.documents.DocRow.{DocRow}
use Rattle.doc_types.specs.declared.schema.Schema.{Schema}
use Rattle.doc_types.specs.Documents.{AreRowsOf, IsDocOf}
use Rattle.doc_types.specs.Snapshots.{IsLayer, LayerValue, all_living, is_dead, living}
use Rattle.root_slots.specs.declared.state.ChunkEntry.{ChunkEntry}
use Rattle.store_steps.specs.Directory.{IsChunkOf, layers_from}
use Rattle.job_files.specs.Jobs.{IsSameFile}
use Rattle.job_states.specs.States.{with_dead}

abbrev pub rows_in : LayerValue → List DocRow
rows_in layer = layer.rows

-- layers on the disk are what their entries say
pub layers_again : (through : ℕ) (schema : Schema) (entries : List ChunkEntry) (layers : List LayerValue) → AllZip (IsChunkOf schema through) entries (map rows_in layers) → All (λ layer. layer.disk ≡ true) layers → layers_from (with_dead entries layers) (map rows_in layers) ≡ layers
layers_again through schema [] [] are disk = refl
layers_again through schema [] (layer ∷ layers) are disk = absurd are
layers_again through schema (entry ∷ entries) [] are disk = absurd are
layers_again through schema (entry ∷ entries) (layer ∷ layers) are disk =
    let on : layer.disk ≡ true = All-head (λ (l : LayerValue). l.disk ≡ true) layer layers disk in
    let rest = layers_again through schema entries layers are.1 (All-tail (λ (l : LayerValue). l.disk ≡ true) layer layers disk) in
    ap (λ (b : Bool). record { rows = layer.rows; disk = b; dead = layer.dead } ∷ layers_from (with_dead entries layers) (map rows_in layers)) (sym on) ∙ ap (λ (ls : List LayerValue). layer ∷ ls) rest

pub same_files : (through : ℕ) (schema : Schema) (entries : List ChunkEntry) (layers : List LayerValue) → AllZip (IsChunkOf schema through) entries (map rows_in layers) → AllZip IsSameFile entries (with_dead entries layers)
same_files through schema [] [] are = tt
same_files through schema [] (layer ∷ layers) are = absurd are
same_files through schema (entry ∷ entries) [] are = absurd are
same_files through schema (entry ∷ entries) (layer ∷ layers) are = (record { file = refl; size = refl }, same_files through schema entries layers are.1)

pub chunks_of : (through more : ℕ) (schema : Schema) (entries : List ChunkEntry) (layers : List LayerValue) → through ≤ more → AllZip (IsChunkOf schema through) entries (map rows_in layers) → All IsLayer layers → AllZip (IsChunkOf schema more) (with_dead entries layers) (map rows_in layers)
chunks_of through more schema [] [] le are is = tt
chunks_of through more schema [] (layer ∷ layers) le are is = absurd are
chunks_of through more schema (entry ∷ entries) [] le are is = absurd are
chunks_of through more schema (entry ∷ entries) (layer ∷ layers) le are is =
    let here = are.0 in (
      record {
        of = here.of;
        small = here.small;
        zones = here.zones;
        dead = (All-head IsLayer layer layers is).rows;
        born = All-weaker (λ (row : DocRow). row.born ≤ through) (λ (row : DocRow). row.born ≤ more) (λ row born. omega (arith, born, le)) layer.rows here.born;
      },
      chunks_of through more schema entries layers le are.1 (All-tail IsLayer layer layers is),
    )

pub layers_both : (through : ℕ) (schema : Schema) (xs us : List ChunkEntry) (ys vs : List (List DocRow)) → AllZip (IsChunkOf schema through) xs ys → layers_from (xs ++ us) (ys ++ vs) ≡ layers_from xs ys ++ layers_from us vs
layers_both through schema [] us [] vs are = refl
layers_both through schema [] us (y ∷ ys) vs are = absurd are
layers_both through schema (x ∷ xs) us [] vs are = absurd are
layers_both through schema (x ∷ xs) us (y ∷ ys) vs are = ap (λ (ls : List LayerValue). record { rows = y; disk = true; dead = x.dead } ∷ ls) (layers_both through schema xs us ys vs are.1)

pub all_on : (layers : List LayerValue) → All (λ layer. layer.disk ≡ true) (filter (λ layer. layer.disk) layers)
all_on [] = All-nil (λ (layer : LayerValue). layer.disk ≡ true)
all_on (layer ∷ layers) =
    elim layer.disk as (λ (b : Bool). layer.disk ≡ b → All (λ (l : LayerValue). l.disk ≡ true) (cond b (layer ∷ filter (λ l. l.disk) layers) (filter (λ l. l.disk) layers))) [
      | true ↦ λ e. All-cons (λ (l : LayerValue). l.disk ≡ true) layer (filter (λ l. l.disk) layers) e (all_on layers)
      | false ↦ λ e. all_on layers
    ] refl

-- a whole chunk lives
kept_rows : {X : Type 0} (n : ℕ) (xs : List X) → map (λ (e : ℕ × X). e.1) (filter (λ (e : ℕ × X). not (list_any (λ d. d == e.0) [])) (enumerate_from n xs)) ≡ xs
kept_rows n [] = refl
kept_rows n (x ∷ xs) = ap (λ ys. x ∷ ys) (kept_rows (n + 1) xs)

pub whole_living : (rows : List DocRow) → living (record { rows = rows; disk = true; dead = [] }) ≡ rows
whole_living rows = kept_rows 0 rows

-- ---- what holds of the rows of layers holds of those that live

all_seconds : (P : DocRow → Type 0) (n : ℕ) (rows : List DocRow) → All P rows → All (λ (e : ℕ × DocRow). P e.1) (enumerate_from n rows)
all_seconds P n [] all = All-nil (λ (e : ℕ × DocRow). P e.1)
all_seconds P n (row ∷ rows) all = All-cons (λ (e : ℕ × DocRow). P e.1) (n, row) (enumerate_from (n + 1) rows) (All-head P row rows all) (all_seconds P (n + 1) rows (All-tail P row rows all))

pub all_of : (P : DocRow → Type 0) (layer : LayerValue) → All P layer.rows → All P (living layer)
all_of P layer all =
    All-map P (λ (e : ℕ × DocRow). e.1) (filter (λ (e : ℕ × DocRow). not (is_dead layer e.0)) (enumerate_from 0 layer.rows))
    (All-filter (λ (e : ℕ × DocRow). not (is_dead layer e.0)) (λ (e : ℕ × DocRow). P e.1) (enumerate_from 0 layer.rows) (all_seconds P 0 layer.rows all))

pub docs_of : (schema : Schema) (layers : List LayerValue) → All (λ layer. AreRowsOf schema layer.rows) layers → All (λ row. IsDocOf schema row.doc) (all_living layers)
docs_of schema [] rows = All-nil (λ (row : DocRow). IsDocOf schema row.doc)
docs_of schema (layer ∷ layers) rows =
    All-append (λ (row : DocRow). IsDocOf schema row.doc) (living layer) (all_living layers)
    (all_of (λ (row : DocRow). IsDocOf schema row.doc) layer (All-head (λ (layer : LayerValue). AreRowsOf schema layer.rows) layer layers rows).docs)
    (docs_of schema layers (All-tail (λ (layer : LayerValue). AreRowsOf schema layer.rows) layer layers rows))

pub each_row : (P : DocRow → Type 0) (rows : List DocRow) → ((row : DocRow) → Contains rows row → P row) → All P rows
each_row P rows step = All-weaker (Contains rows) P step rows (All-contains_itself rows)
