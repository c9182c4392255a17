-- What the other files of a directory hold doesn't change with the log that grows: it is the newer one of the own state, and the older
-- one of a state in doubt.
use Rattle.std.proofs.Common.{◌≡◌, ◌≢◌, ℕ, zero, suc, ◌≤◌, List, [], ◌∷◌, map, Bool, true, false, ◌==◌, ◌||◌, Option, Some, None, IfSome, refl, sym, ◌∙◌, ap, subst, arith}
use Rattle.std.specs.List.{AllZip, list_any}
use Rattle.std.proofs.lemmas.Bool.{eq-eqb}
use Rattle.std.proofs.lemmas.List.Folds.{list_any-append}
use Rattle.doc_types.specs.declared.documents.DocRow.{DocRow}
use Rattle.doc_types.specs.declared.schema.Schema.{Schema}
use Rattle.chunk_store.specs.Images.{Image, contents}
use Rattle.gate_log.specs.Logs.{IsLogOf, Stands as LogStands}
use Rattle.root_slots.specs.Slots.{Slots, slots_of}
use Rattle.root_slots.specs.States.{AreEntries, IsState, naming}
use Rattle.root_slots.specs.declared.state.ChunkEntry.{ChunkEntry}
use Rattle.store_steps.specs.Batches.{Batch, record_of}
use Rattle.store_steps.specs.Directory.{Directory, IsChunkFile, IsOlderLog}
use Rattle.store_steps.specs.Doubts.{AreOther, Doubted, MayStand, slot_in}
use Rattle.store_steps.specs.Kept.{IsImage}
use Rattle.std.specs.Option.{option_map}
use Rattle.gate_log.specs.declared.log.GateLog.{GateLog}
use Rattle.root_slots.specs.Roots.{Stands as RootStands}
use Rattle.root_slots.specs.declared.root.Root.{Root}

-- a file that isn't named is another one than a file that is
named_apart : (file other : ℕ) (named : List ℕ) → list_any (λ n. n == file) named ≡ false → list_any (λ n. n == other) named ≡ true → file ≢ other
named_apart file other named none some same = absurd (cc (none, some, ap (λ (f : ℕ). list_any (λ n. n == f) named) same))

or_true : (b c : Bool) → c ≡ true → (b || c) ≡ true
or_true true c is = refl
or_true false c is = is

or_left : (b c : Bool) → b ≡ true → (b || c) ≡ true
or_left true c is = refl
or_left false c is = absurd (cc (is))

-- a file that is named is the first of those that are
is_named : (file : ℕ) (named : List ℕ) → list_any (λ n. n == file) (file ∷ named) ≡ true
is_named file named = or_left (file == file) (list_any (λ n. n == file) named) (eq-eqb file file refl)

-- the slots are two other files
slots_same : (newer : ℕ) (d x : Image) → 2 ≤ newer → ((f : ℕ) → f ≢ newer → x f ≡ d f) → slots_of x ≡ slots_of d
slots_same newer d x le same =
    let zeroth : x 0 ≡ d 0 = same 0 (λ (e : 0 ≡ newer). absurd (omega (arith, e, le))) in
    let first : x 1 ≡ d 1 = same 1 (λ (e : 1 ≡ newer). absurd (omega (arith, e, le))) in
    ap (λ (f : Option (List ℕ)). record { zeroth = f; first = x 1 }) zeroth ∙ ap (λ (f : Option (List ℕ)). record { zeroth = d 0; first = f }) first

chunks_kept : (schema : Schema) (d x : Image) (next_file newer : ℕ) (named : List ℕ) → list_any (λ n. n == newer) named ≡ true → ((f : ℕ) → f ≢ newer → x f ≡ d f) → (entries : List ChunkEntry) (chunks : List (List DocRow))
    → AreEntries next_file named entries → AllZip (IsChunkFile schema d) entries chunks → AllZip (IsChunkFile schema x) entries chunks
chunks_kept schema d x next_file newer named there same [] [] are files = tt
chunks_kept schema d x next_file newer named there same [] (rows ∷ chunks) are files = absurd files
chunks_kept schema d x next_file newer named there same (c ∷ entries) [] are files = absurd files
chunks_kept schema d x next_file newer named there same (c ∷ entries) (rows ∷ chunks) are files =
    let file = files.0 in
    let more : list_any (λ n. n == newer) (naming named c) ≡ true =
    list_any-append (λ n. n == newer) named (c.file ∷ []) ∙ or_left (list_any (λ n. n == newer) named) (list_any (λ n. n == newer) (c.file ∷ [])) there in (
      record { bytes = file.bytes; is = same c.file (named_apart c.file newer named are.0.file.apart there) ∙ file.is; size = file.size; image = file.image },
      chunks_kept schema d x next_file newer (naming named c) more same entries chunks are.1 files.1,
    )

pub older_kept : (d x : Image) (file : ℕ) (batches : List Batch) → x file ≡ d file → IsOlderLog d file batches → IsOlderLog x file batches
older_kept d x zero batches same older = older
older_kept d x (suc file) batches same older = subst (λ (f : Option (List ℕ)). IsLogOf (map record_of batches) (contents f)) (sym same) older

-- ---- a call that changes the log that grows alone

pub slots_kept : (dir : Directory) (d x : Image) → IsState dir.state → ((f : ℕ) → f ≢ dir.state.newer → x f ≡ d f) → slots_of x ≡ slots_of d
slots_kept dir d x state same = slots_same dir.state.newer d x state.newer.no_slot same

own_chunks : (schema : Schema) (dir : Directory) (d x : Image) → IsState dir.state → ((f : ℕ) → f ≢ dir.state.newer → x f ≡ d f) → AllZip (IsChunkFile schema d) dir.state.chunks dir.chunks → AllZip (IsChunkFile schema x) dir.state.chunks dir.chunks
own_chunks schema dir d x state same files =
    let newer = dir.state.newer in
    let older = dir.state.older in
    let named : list_any (λ n. n == newer) (older ∷ newer ∷ []) ≡ true = or_true (older == newer) (list_any (λ n. n == newer) (newer ∷ [])) (is_named newer []) in
    chunks_kept schema d x dir.state.next_file newer (older ∷ newer ∷ []) named same dir.state.chunks dir.chunks state.chunks files

own_older : (dir : Directory) (d x : Image) → IsState dir.state → ((f : ℕ) → f ≢ dir.state.newer → x f ≡ d f) → IsOlderLog d dir.state.older dir.older → IsOlderLog x dir.state.older dir.older
own_older dir d x state same older_is =
    let newer = dir.state.newer in
    let older = dir.state.older in
    older_kept d x older dir.older (same older (λ (e : older ≡ newer). named_apart newer older (older ∷ []) state.newer.apart (is_named older []) (sym e))) older_is

-- the state in doubt names that log as its older one
other_kept : (schema : Schema) (file : ℕ) (d : Doubted) (y x : Image) → IsState d.state → d.state.older ≡ file → ((f : ℕ) → f ≢ file → x f ≡ y f) → AreOther schema y d → AreOther schema x d
other_kept schema file d y x state is same other =
    let older = d.state.older in
    let newer = d.state.newer in
    let apart : (f : ℕ) → f ≢ older → x f ≡ y f = subst (λ (g : ℕ). (f : ℕ) → f ≢ g → x f ≡ y f) (sym is) same in
    record {
      chunks = chunks_kept schema y x d.state.next_file older (older ∷ newer ∷ []) (is_named older (newer ∷ [])) apart d.state.chunks d.chunks state.chunks other.chunks;
      newer = subst (λ (f : Option (List ℕ)). IsLogOf [] (contents f)) (sym (apart newer (named_apart newer older (older ∷ []) state.newer.apart (is_named older [])))) other.newer;
    }

others_kept : (schema : Schema) (next_file : ℕ) (dir : Directory) (doubt : Option Doubted) (d x : Image) → IfSome doubt (MayStand schema next_file dir) → ((f : ℕ) → f ≢ dir.state.newer → x f ≡ d f) → IfSome doubt (AreOther schema d) → IfSome doubt (AreOther schema x)
others_kept schema next_file dir None d x may same other = tt
others_kept schema next_file dir (Some doubted) d x may same other = other_kept schema dir.state.newer doubted d x may.state may.older same other

-- Only the log that grows was written: an image of other batches there.
pub with_newer : (schema : Schema) (dir : Directory) (batches : List Batch) (number : ℕ) (doubt : Option Doubted) (next_file : ℕ) (root : Root) (log log2 : GateLog) (next next2 : Option Batch) (d x : Image)
    → IsState dir.state → IfSome doubt (MayStand schema next_file dir) → ((f : ℕ) → f ≢ dir.state.newer → x f ≡ d f) → IsImage schema dir number doubt root log next d → LogStands log2 (map record_of batches) (option_map record_of next2) (x dir.state.newer)
    → IsImage schema (record dir { newer = batches }) number doubt root log2 next2 x
with_newer schema dir batches number doubt next_file root log log2 next next2 d x state may same image stands = record {
  chunks = own_chunks schema dir d x state same image.chunks;
  older = own_older dir d x state same image.older;
  slots = subst (λ (s : Slots). RootStands root (Some (record { number = number; state = dir.state })) (slot_in doubt) s) (sym (slots_kept dir d x state same)) image.slots;
  newer = stands;
  other = others_kept schema next_file dir doubt d x may same image.other;
}
