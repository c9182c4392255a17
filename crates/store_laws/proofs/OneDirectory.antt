-- One directory: what files hold that can be read.
use Rattle.std.proofs.Common.{◌≡◌, ℕ, zero, suc, List, [], ◌∷◌, Option, Some, None, length, map, refl, sym, ◌∙◌, ap, subst}
use Rattle.std.specs.Prelude.{All}
use Rattle.std.specs.List.{AllZip}
use Rattle.std.proofs.lemmas.List.{take_at, drop_at}
use Rattle.std.proofs.lemmas.List.Elements.{All-head, All-tail, All-take, All-drop}
use Rattle.doc_types.specs.declared.documents.DocRow.{DocRow}
use Rattle.doc_types.specs.declared.schema.Schema.{Schema}
use Rattle.doc_types.specs.Commits.{Change, Put, Kill, Clear}
use Rattle.doc_types.specs.Rows.{Rows}
use Rattle.doc_types.specs.Schemas.{IsSchema}
use Rattle.doc_bytes.specs.Reading.{txn_at}
use Rattle.chunk_image.specs.ChunkImage.{IsImageOf}
use Rattle.chunk_image.proofs.OneImage.{one_image}
use Rattle.chunk_store.specs.Images.{Image, contents}
use Rattle.gate_log.specs.Logs.{IsLogOf}
use Rattle.gate_log.specs.declared.records.LogRecord.{LogRecord}
use Rattle.gate_log.proofs.OneReading.{one_list}
use Rattle.root_slots.specs.Slots.{Slot}
use Rattle.root_slots.specs.declared.state.ChunkEntry.{ChunkEntry}
use Rattle.root_slots.specs.declared.state.RootState.{RootState}
use Rattle.store_steps.specs.Batches.{Batch, IsBatchOf, op_of, record_of}
use Rattle.store_steps.specs.Damage.{IsRootIn}
use Rattle.store_steps.specs.Directory.{Directory, Holds, HoldsFiles, IsChunkFile, IsChunkOf, IsOlderLog, StandsFor, logged, number_in, rows_in}
use Rattle.store_laws.proofs.OneRoot.{no_root, one_slot, stands_in}

-- ---- the batch of a record

one_change : (a b : Change) → op_of a ≡ op_of b → a ≡ b
one_change (Put a) (Put b) is = cc
one_change (Put a) (Kill b) is = absurd cc
one_change (Put a) Clear is = absurd cc
one_change (Kill a) (Put b) is = absurd cc
one_change (Kill a) (Kill b) is = cc
one_change (Kill a) Clear is = absurd cc
one_change Clear (Put b) is = absurd cc
one_change Clear (Kill b) is = absurd cc
one_change Clear Clear is = refl

changes_are : (xs ys : List Change) → map op_of xs ≡ map op_of ys → xs ≡ ys
changes_are [] [] is = refl
changes_are [] (b ∷ ys) is = absurd cc
changes_are (a ∷ xs) [] is = absurd cc
changes_are (a ∷ xs) (b ∷ ys) is =
    let first : op_of a ≡ op_of b = cc in
    let others : map op_of xs ≡ map op_of ys = cc in
    let head = one_change a b first in
    let tail = changes_are xs ys others in
    λ i. head i ∷ tail i

one_batch : (schema : Schema) (a b : Batch) → IsBatchOf schema a → IsBatchOf schema b → record_of a ≡ record_of b → a ≡ b
one_batch schema a b one two is =
    let number : a.number ≡ b.number = ap (λ (r : LogRecord). r.number) is in
    let first = one.read in
    let second = two.read in
    let same = ap (λ (r : LogRecord). txn_at schema r.payload) is in
    let ops : map op_of a.changes ≡ map op_of b.changes = cc in
    let changes = changes_are a.changes b.changes ops in
    λ i. record { number = number i; changes = changes i }

one_list_of_batches : (schema : Schema) (xs ys : List Batch) → All (IsBatchOf schema) xs → All (IsBatchOf schema) ys → map record_of xs ≡ map record_of ys → xs ≡ ys
one_list_of_batches schema [] [] one two is = refl
one_list_of_batches schema [] (b ∷ ys) one two is = absurd cc
one_list_of_batches schema (a ∷ xs) [] one two is = absurd cc
one_list_of_batches schema (a ∷ xs) (b ∷ ys) one two is =
    let first : record_of a ≡ record_of b = cc in
    let others : map record_of xs ≡ map record_of ys = cc in
    let head = one_batch schema a b (All-head (IsBatchOf schema) a xs one) (All-head (IsBatchOf schema) b ys two) first in
    let tail = one_list_of_batches schema xs ys (All-tail (IsBatchOf schema) a xs one) (All-tail (IsBatchOf schema) b ys two) others in
    λ i. head i ∷ tail i

-- ---- logs and chunks

one_log : (schema : Schema) (bytes : List ℕ) (xs ys : List Batch) → All (IsBatchOf schema) xs → All (IsBatchOf schema) ys → IsLogOf (map record_of xs) bytes → IsLogOf (map record_of ys) bytes → xs ≡ ys
one_log schema bytes xs ys one two log its = one_list_of_batches schema xs ys one two (one_list bytes (map record_of xs) (map record_of ys) log its)

pub one_older : (schema : Schema) (x : Image) (file : ℕ) (xs ys : List Batch) → All (IsBatchOf schema) xs → All (IsBatchOf schema) ys → IsOlderLog x file xs → IsOlderLog x file ys → xs ≡ ys
one_older schema x zero xs ys one two log its = log ∙ sym its
one_older schema x (suc file) xs ys one two log its = one_log schema (contents (x (suc file))) xs ys one two log its

pub one_list_of_chunks : (schema : Schema) (x : Image) (through : ℕ) (entries : List ChunkEntry) (xs ys : List (List DocRow)) → IsSchema schema → AllZip (IsChunkFile schema x) entries xs → AllZip (IsChunkFile schema x) entries ys
    → AllZip (IsChunkOf schema through) entries xs → AllZip (IsChunkOf schema through) entries ys → xs ≡ ys
one_list_of_chunks schema x through [] [] [] limits files its are others = refl
one_list_of_chunks schema x through [] [] (b ∷ ys) limits files its are others = absurd its
one_list_of_chunks schema x through [] (a ∷ xs) ys limits files its are others = absurd files
one_list_of_chunks schema x through (c ∷ entries) [] ys limits files its are others = absurd files
one_list_of_chunks schema x through (c ∷ entries) (a ∷ xs) [] limits files its are others = absurd its
one_list_of_chunks schema x through (c ∷ entries) (a ∷ xs) (b ∷ ys) limits files its are others =
    let there = files.0.is in
    let here = its.0.is in
    let same : its.0.bytes ≡ files.0.bytes = cc in
    let head = one_image schema schema a b files.0.bytes limits limits are.0.of others.0.of are.0.small others.0.small files.0.image (subst (λ (l : List ℕ). IsImageOf schema b l) same its.0.image) in
    let tail = one_list_of_chunks schema x through entries xs ys limits files.1 its.1 are.1 others.1 in
    λ i. head i ∷ tail i

-- ---- directories

-- The root of a directory stands in a slot.
pub record HasRoot (dir : Directory) (x : Image) : Type 0 where
  pub slot : ℕ
  pub root : Slot
  pub stands : IsRootIn slot root x
  pub state : root.state ≡ dir.state

pub root_of : (schema : Schema) (dir : Directory) (x : Image) → HoldsFiles schema dir x → HasRoot dir x
root_of schema dir x holds =
    let at = stands_in (record { number = holds.number; state = dir.state }) x holds.files.root in
    record { slot = at.0; root = record { number = holds.number; state = dir.state }; stands = at.1; state = refl }

pub older_are : (schema : Schema) (dir : Directory) (x : Image) → HoldsFiles schema dir x → All (IsBatchOf schema) dir.older
older_are schema dir x holds = subst (All (IsBatchOf schema)) (take_at dir.older dir.newer (length dir.older) refl) (All-take (IsBatchOf schema) (length dir.older) (logged dir) holds.in_order.batches)

pub newer_are : (schema : Schema) (dir : Directory) (x : Image) → HoldsFiles schema dir x → All (IsBatchOf schema) dir.newer
newer_are schema dir x holds = subst (All (IsBatchOf schema)) (drop_at dir.older dir.newer (length dir.older) refl) (All-drop (IsBatchOf schema) (length dir.older) (logged dir) holds.in_order.batches)

pub same_directory : (schema : Schema) (x : Image) (dir other : Directory) → IsSchema schema → HoldsFiles schema dir x → HoldsFiles schema other x → dir ≡ other
same_directory schema x dir other limits one two =
    let first = root_of schema dir x one in
    let second = root_of schema other x two in
    let roots = one_slot first.slot second.slot first.root second.root x first.stands second.stands in
    let state : dir.state ≡ other.state = sym first.state ∙ ap (λ (s : Slot). s.state) roots.1 ∙ second.state in
    let back : other.state ≡ dir.state = sym state in
    let chunks : dir.chunks ≡ other.chunks = one_list_of_chunks schema x dir.state.through dir.state.chunks dir.chunks other.chunks limits one.files.chunks
    (subst (λ (s : RootState). AllZip (IsChunkFile schema x) s.chunks other.chunks) back two.files.chunks) one.in_order.chunks
    (subst (λ (s : RootState). AllZip (IsChunkOf schema s.through) s.chunks other.chunks) back two.in_order.chunks) in
    let older : dir.older ≡ other.older = one_older schema x dir.state.older dir.older other.older (older_are schema dir x one) (older_are schema other x two) one.files.older
    (subst (λ (s : RootState). IsOlderLog x s.older other.older) back two.files.older) in
    let newer : dir.newer ≡ other.newer = one_log schema (contents (x dir.state.newer)) dir.newer other.newer (newer_are schema dir x one) (newer_are schema other x two) one.newer
    (subst (λ (s : RootState). IsLogOf (map record_of other.newer) (contents (x s.newer))) back two.newer) in
    λ i. record { state = state i; chunks = chunks i; older = older i; newer = newer i }

-- Files hold one directory.
pub one_directory : (schema : Schema) (x : Image) (found other : Option Directory) → IsSchema schema → Holds schema found x → Holds schema other x → found ≡ other
one_directory schema x None None limits one two = refl
one_directory schema x None (Some dir) limits one two = let at = root_of schema dir x two.0 in absurd (no_root at.slot at.root x one at.stands)
one_directory schema x (Some dir) None limits one two = let at = root_of schema dir x one.0 in absurd (no_root at.slot at.root x two at.stands)
one_directory schema x (Some dir) (Some other) limits one two = ap Some (same_directory schema x dir other limits one.0 two.0)

-- They stand for the same rows, by the same number.
pub one_meaning : (schema : Schema) (x : Image) (rows others : Rows) (number its : ℕ) → IsSchema schema → StandsFor schema x rows number → StandsFor schema x others its → (rows ≡ others) × (number ≡ its)
one_meaning schema x rows others number its limits one two =
    let same = one_directory schema x one.found two.found limits one.holds two.holds in
    (sym one.rows_are ∙ ap rows_in same ∙ two.rows_are, sym one.number_is ∙ ap number_in same ∙ two.number_is)
