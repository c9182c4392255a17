-- What stands in order has no row of a later commit than its last one.
use Rattle.std.proofs.Common.{◌≡◌, inl, inr, ℕ, ◌+◌, ◌≤◌, ◌<◌, List, [], ◌∷◌, map, Bool, true, false, not, cond, Some, refl, sym, ◌∙◌, ap, subst, arith, All}
use Rattle.std.specs.FinMap as finite
use Rattle.std.specs.List.{AllZip, enumerate_from, filter, fold, list_any}
use Rattle.std.specs.Map.{lookup}
use Rattle.std.specs.Ordering.{eq_by_cmp, nat_cmp}
use Rattle.std.proofs.lemmas.Bool.{cases_lt}
use Rattle.std.proofs.lemmas.Cmp.{nat_cmp_total}
use Rattle.std.proofs.lemmas.List.Elements.{All-append, All-cons, All-filter, All-head, All-map, All-nil, All-tail}
use Rattle.doc_types.specs.declared.documents.DocRow.{DocRow}
use Rattle.doc_types.specs.declared.schema.Schema.{Schema}
use Rattle.doc_types.specs.Rows.{Rows, rows_of}
use Rattle.doc_types.specs.Snapshots.{LayerValue, all_living, is_dead, living}
use Rattle.root_slots.specs.declared.state.ChunkEntry.{ChunkEntry}
use Rattle.step_history.specs.History.{is_put}
use Rattle.step_history.proofs.Changes.{put_rows, unput}
use Rattle.store_steps.specs.Batches.{AreFrom, Batch, above, after_batch}
use Rattle.store_steps.specs.Directory.{Directory, IsChunkOf, IsInOrder, directory_number, directory_rows, layers_from, layers_of, logged}
use Rattle.store_steps.specs.Grown.{AreBorn}
use Rattle.store_steps.proofs.Growing.{one_above, one_below}

abbrev Old : ℕ → DocRow → Type 0
Old number row = row.born ≤ number

-- ---- the rows of chunks

all_seconds : (P : DocRow → Type 0) (n : ℕ) (rows : List DocRow) → All P rows → All (λ (e : ℕ × DocRow). P e.1) (enumerate_from n rows)
all_seconds P n [] all = All-nil (λ (e : ℕ × DocRow). P e.1)
all_seconds P n (row ∷ rows) all = All-cons (λ (e : ℕ × DocRow). P e.1) (n, row) (enumerate_from (n + 1) rows) (All-head P row rows all) (all_seconds P (n + 1) rows (All-tail P row rows all))

-- what is so of all rows is so of those that live
all_of : (P : DocRow → Type 0) (layer : LayerValue) → All P layer.rows → All P (living layer)
all_of P layer all =
    All-map P (λ (e : ℕ × DocRow). e.1) (filter (λ (e : ℕ × DocRow). not (is_dead layer e.0)) (enumerate_from 0 layer.rows))
    (All-filter (λ (e : ℕ × DocRow). not (is_dead layer e.0)) (λ (e : ℕ × DocRow). P e.1) (enumerate_from 0 layer.rows) (all_seconds P 0 layer.rows all))

chunks_born : (schema : Schema) (through : ℕ) (entries : List ChunkEntry) (chunks : List (List DocRow)) → AllZip (IsChunkOf schema through) entries chunks → All (Old through) (all_living (layers_from entries chunks))
chunks_born schema through [] chunks are = All-nil (Old through)
chunks_born schema through (entry ∷ entries) [] are = All-nil (Old through)
chunks_born schema through (entry ∷ entries) (rows ∷ chunks) are =
    let layer : LayerValue = record { rows = rows; disk = true; dead = entry.dead } in
    All-append (Old through) (living layer) (all_living (layers_from entries chunks)) (all_of (Old through) layer are.0.born) (chunks_born schema through entries chunks are.1)

abbrev entry_of : DocRow → ℕ × DocRow
entry_of row = (row.doc.id, row)

found : (id : ℕ) (entries : List (ℕ × DocRow)) → finite.find nat_cmp id entries ≡ lookup (eq_by_cmp nat_cmp id) entries
found id [] = refl
found id (e ∷ es) = ap (cond (eq_by_cmp nat_cmp id e.0) (Some e.1)) (found id es)

one_of : (P : DocRow → Type 0) (rows : List DocRow) (id : ℕ) (row : DocRow) → All P rows → lookup (eq_by_cmp nat_cmp id) (map entry_of rows) ≡ Some row → P row
one_of P [] id row all e = cc
one_of P (r ∷ rows) id row all e =
    elim (eq_by_cmp nat_cmp id r.doc.id) as (λ b. cond b (Some r) (lookup (eq_by_cmp nat_cmp id) (map entry_of rows)) ≡ Some row → P row) [
      | true ↦ λ (e : Some r ≡ Some row). (let is : r ≡ row = cc e in subst P is (All-head P r rows all))
      | false ↦ λ e. one_of P rows id row (All-tail P r rows all) e
    ] e

rows_born : (number : ℕ) (rows : List DocRow) → All (Old number) rows → AreBorn (rows_of rows) number
rows_born number rows all id row got =
    one_of (Old number) rows id row all (sym (found id (map entry_of rows)) ∙ (sym (finite.get-from_entries nat_cmp_total (map entry_of rows) id) ∙ got))

-- ---- what batches make of them

batch_born : (rows : Rows) (number : ℕ) (b : Batch) → number ≤ b.number → AreBorn rows number → AreBorn (after_batch rows b) b.number
batch_born rows number b le born id row got =
    elim (list_any (is_put id) b.changes) as (λ (put : Bool). list_any (is_put id) b.changes ≡ put → row.born ≤ b.number) [
      | true ↦ λ hit. (let is = put_rows b.number rows b.changes id row hit got in omega (arith, is))
      | false ↦ λ miss. (let was = born id row (unput b.number rows b.changes id row miss got) in omega (arith, was, le))
    ] refl

batches_born : (t k number : ℕ) (rows : Rows) (bs : List Batch) → AreFrom k bs → ((m : ℕ) → k ≤ m → t < m → number ≤ m) → AreBorn rows number → AreBorn (fold after_batch rows (above t bs)) (fold (λ (n : ℕ) (b : Batch). b.number) number (above t bs))
batches_born t k number rows [] from low born = born
batches_born t k number rows (b ∷ bs) from low born = elim (cases_lt t b.number) [
  | inl lt ↦
      subst (λ (l : List Batch). AreBorn (fold after_batch rows l) (fold (λ (n : ℕ) (b : Batch). b.number) number l)) (sym (one_above t b bs lt))
      (batches_born t (k + 1) b.number (after_batch rows b) bs from.1 (λ m le h. omega (arith, from.0, le)) (batch_born rows number b (low b.number (omega (arith, from.0)) lt) born))
  | inr le ↦
      subst (λ (l : List Batch). AreBorn (fold after_batch rows l) (fold (λ (n : ℕ) (b : Batch). b.number) number l)) (sym (one_below t b bs le))
      (batches_born t (k + 1) number rows bs from.1 (λ m more h. low m (omega (arith, more)) h) born)
]

pub directory_born : (schema : Schema) (dir : Directory) → IsInOrder schema dir → AreBorn (directory_rows dir) (directory_number dir)
directory_born schema dir order =
    let rows = all_living (layers_of dir) in
    batches_born dir.state.through order.numbers.0 dir.state.through (rows_of rows) (logged dir) order.numbers.2 (λ m le lt. omega (arith, lt)) (rows_born dir.state.through rows (chunks_born schema dir.state.through dir.state.chunks dir.chunks order.chunks))
