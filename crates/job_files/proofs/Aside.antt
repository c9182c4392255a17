-- What a directory holds doesn't change with a file that no state names.
use Rattle.std.proofs.Common.{◌≡◌, ◌≢◌, inl, inr, ℕ, ◌<◌, ◌≤◌, List, [], ◌∷◌, map, Bool, true, false, ◌==◌, ◌||◌, Option, Some, None, IfSome, refl, sym, ◌∙◌, ap, subst, arith}
use Rattle.std.specs.List.{AllZip, list_any}
use Rattle.std.proofs.lemmas.Bool.{eq-eqb}
use Rattle.doc_types.specs.declared.documents.DocRow.{DocRow}
use Rattle.doc_types.specs.declared.schema.Schema.{Schema}
use Rattle.chunk_store.specs.Images.{Image, contents}
use Rattle.gate_log.specs.Logs.{IsLogOf, Stands as LogStands}
use Rattle.root_slots.specs.Slots.{Slots, slots_of}
use Rattle.root_slots.specs.States.{AreEntries, IsState, naming}
use Rattle.root_slots.specs.declared.state.ChunkEntry.{ChunkEntry}
use Rattle.store_steps.specs.Batches.{Batch, record_of}
use Rattle.store_steps.specs.Directory.{Directory, IsChunkFile}
use Rattle.store_steps.proofs.Naming.{older_kept}
use Rattle.job_files.specs.Jobs.{names}
use Rattle.store_steps.specs.Doubts.{AreOther, Doubted, MayStand, slot_in}
use Rattle.store_steps.specs.Kept.{IsImage}
use Rattle.std.specs.Option.{option_map}
use Rattle.gate_log.specs.declared.log.GateLog.{GateLog}
use Rattle.root_slots.specs.Roots.{Stands as RootStands}
use Rattle.root_slots.specs.declared.root.Root.{Root}
use Rattle.root_slots.specs.declared.state.RootState.{RootState}

-- the slots are two other files
slots_same : (file : ℕ) (d x : Image) → 2 ≤ file → ((f : ℕ) → f ≢ file → x f ≡ d f) → slots_of x ≡ slots_of d
slots_same file d x le same =
    let zeroth : x 0 ≡ d 0 = same 0 (λ (e : 0 ≡ file). absurd (omega (arith, e, le))) in
    let first : x 1 ≡ d 1 = same 1 (λ (e : 1 ≡ file). absurd (omega (arith, e, le))) in
    ap (λ (f : Option (List ℕ)). record { zeroth = f; first = x 1 }) zeroth ∙ ap (λ (f : Option (List ℕ)). record { zeroth = d 0; first = f }) first

-- ---- a call that changes a file alone that no state names

zip_aside : (schema : Schema) (file next_file : ℕ) (d x : Image) → next_file ≤ file → ((f : ℕ) → f ≢ file → x f ≡ d f) → (named : List ℕ) (entries : List ChunkEntry) (chunks : List (List DocRow))
    → AreEntries next_file named entries → AllZip (IsChunkFile schema d) entries chunks → AllZip (IsChunkFile schema x) entries chunks
zip_aside schema file next_file d x le same named [] [] are files = tt
zip_aside schema file next_file d x le same named [] (rows ∷ chunks) are files = absurd files
zip_aside schema file next_file d x le same named (c ∷ entries) [] are files = absurd files
zip_aside schema file next_file d x le same named (c ∷ entries) (rows ∷ chunks) are files =
    let made : c.file < next_file = are.0.file.made in
    let here = files.0 in (
      record { bytes = here.bytes; is = same c.file (λ (e : c.file ≡ file). absurd (omega (arith, e, made, le))) ∙ here.is; size = here.size; image = here.image },
      zip_aside schema file next_file d x le same (naming named c) entries chunks are.1 files.1,
    )

aside_older : (file : ℕ) (state : RootState) → IsState state → state.next_file ≤ file → 2 ≤ file → state.older ≢ file
aside_older file state is le two e = elim is.older [
  | inl none ↦ absurd (omega (arith, none, e, two))
  | inr may ↦ (let made : state.older < state.next_file = may.made in absurd (omega (arith, made, e, le)))
]

other_aside : (schema : Schema) (file : ℕ) (d : Doubted) (y x : Image) → IsState d.state → d.state.next_file ≤ file → ((f : ℕ) → f ≢ file → x f ≡ y f) → AreOther schema y d → AreOther schema x d
other_aside schema file d y x state le same other =
    let made : d.state.newer < d.state.next_file = state.newer.made in
    record {
      chunks = zip_aside schema file d.state.next_file y x le same (d.state.older ∷ d.state.newer ∷ []) d.state.chunks d.chunks state.chunks other.chunks;
      newer = subst (λ (f : Option (List ℕ)). IsLogOf [] (contents f)) (sym (same d.state.newer (λ (e : d.state.newer ≡ file). absurd (omega (arith, e, made, le))))) other.newer;
    }

others_aside : (schema : Schema) (files file : ℕ) (dir : Directory) (doubt : Option Doubted) (d x : Image) → files ≤ file → IfSome doubt (MayStand schema files dir) → ((f : ℕ) → f ≢ file → x f ≡ d f) → IfSome doubt (AreOther schema d) → IfSome doubt (AreOther schema x)
others_aside schema files file dir None d x le may same other = tt
others_aside schema files file dir (Some doubted) d x le may same other = other_aside schema file doubted d x may.state (omega (arith, may.made, le)) same other

pub image_aside : (schema : Schema) (dir : Directory) (number : ℕ) (doubt : Option Doubted) (files file : ℕ) (root : Root) (log : GateLog) (next : Option Batch) (d x : Image)
    → IsState dir.state → dir.state.next_file ≤ files → IfSome doubt (MayStand schema files dir) → files ≤ file → ((f : ℕ) → f ≢ file → x f ≡ d f) → IsImage schema dir number doubt root log next d → IsImage schema dir number doubt root log next x
image_aside schema dir number doubt files file root log next d x state le may after same image =
    let made : dir.state.newer < dir.state.next_file = state.newer.made in
    let slot : 2 ≤ dir.state.newer = state.newer.no_slot in
    let two : 2 ≤ file = omega (arith, slot, made, le, after) in
    let from : dir.state.next_file ≤ file = omega (arith, le, after) in
    record {
      chunks = zip_aside schema file dir.state.next_file d x from same (dir.state.older ∷ dir.state.newer ∷ []) dir.state.chunks dir.chunks state.chunks image.chunks;
      older = older_kept d x dir.state.older dir.older (same dir.state.older (aside_older file dir.state state from two)) image.older;
      slots = subst (λ (s : Slots). RootStands root (Some (record { number = number; state = dir.state })) (slot_in doubt) s) (sym (slots_same file d x two same)) image.slots;
      newer = subst (λ (f : Option (List ℕ)). LogStands log (map record_of dir.newer) (option_map record_of next) f) (sym (same dir.state.newer (λ (e : dir.state.newer ≡ file). absurd (omega (arith, e, made, from))))) image.newer;
      other = others_aside schema files file dir doubt d x after may same image.other;
    }

-- ---- a call that changes a file alone that the own state doesn't name, where no state is in doubt

or_false : (b c : Bool) → (b || c) ≡ false → (b ≡ false) × (c ≡ false)
or_false true c is = absurd (cc (is))
or_false false c is = (refl, is)

not_file : (named file : ℕ) → (named == file) ≡ false → named ≢ file
not_file named file other is = absurd (cc (other, eq-eqb named file is))

zip_unnamed : (schema : Schema) (file : ℕ) (d x : Image) → ((f : ℕ) → f ≢ file → x f ≡ d f) → (entries : List ChunkEntry) (chunks : List (List DocRow))
    → list_any (λ n. n == file) (map (λ (c : ChunkEntry). c.file) entries) ≡ false → AllZip (IsChunkFile schema d) entries chunks → AllZip (IsChunkFile schema x) entries chunks
zip_unnamed schema file d x same [] [] none files = tt
zip_unnamed schema file d x same [] (rows ∷ chunks) none files = absurd files
zip_unnamed schema file d x same (c ∷ entries) [] none files = absurd files
zip_unnamed schema file d x same (c ∷ entries) (rows ∷ chunks) none files =
    let both = or_false (c.file == file) (list_any (λ n. n == file) (map (λ (e : ChunkEntry). e.file) entries)) none in
    let here = files.0 in (
      record { bytes = here.bytes; is = same c.file (not_file c.file file both.0) ∙ here.is; size = here.size; image = here.image },
      zip_unnamed schema file d x same entries chunks both.1 files.1,
    )

pub image_unnamed : (schema : Schema) (dir : Directory) (number : ℕ) (root : Root) (log : GateLog) (next : Option Batch) (file : ℕ) (d x : Image) → 2 ≤ file → names dir.state file ≡ false → ((f : ℕ) → f ≢ file → x f ≡ d f)
    → IsImage schema dir number None root log next d → IsImage schema dir number None root log next x
image_unnamed schema dir number root log next file d x two none same image =
    let older = or_false (dir.state.older == file) (list_any (λ n. n == file) (dir.state.newer ∷ map (λ (c : ChunkEntry). c.file) dir.state.chunks)) none in
    let newer = or_false (dir.state.newer == file) (list_any (λ n. n == file) (map (λ (c : ChunkEntry). c.file) dir.state.chunks)) older.1 in
    record {
      chunks = zip_unnamed schema file d x same dir.state.chunks dir.chunks newer.1 image.chunks;
      older = older_kept d x dir.state.older dir.older (same dir.state.older (not_file dir.state.older file older.0)) image.older;
      slots = subst (λ (s : Slots). RootStands root (Some (record { number = number; state = dir.state })) None s) (sym (slots_same file d x two same)) image.slots;
      newer = subst (λ (f : Option (List ℕ)). LogStands log (map record_of dir.newer) (option_map record_of next) f) (sym (same dir.state.newer (not_file dir.state.newer file newer.0))) image.newer;
      other = tt;
    }
