-- What is kept once a store was opened: each file was synced and then read, so a crash leaves what was read.
use Rattle.std.proofs.Common.{◌≡◌, inl, inr, ℕ, ◌+◌, ◌≤◌, ◌<◌, List, [], ◌∷◌, map, Bool, cond, false, Option, Some, None, refl, sym, ◌∙◌, ap, subst, arith, length}
use Rattle.std.specs.List.{AllByRecursion, AllZip, fold}
use Rattle.std.specs.Option.{option_map}
use Rattle.std.proofs.lemmas.Bool.{cases_lt, lt-ltb, le-ltb}
use Rattle.doc_types.specs.declared.documents.DocRow.{DocRow}
use Rattle.doc_types.specs.declared.schema.Schema.{Schema}
use Rattle.doc_types.specs.Rows.{Rows}
use Rattle.chunk_store.specs.Images.{Image, Told}
use Rattle.chunk_store.specs.declared.disk.Disk.{Ghosts as DiskWords}
use Rattle.gate_log.specs.declared.log.GateLog.{GateLog}
use Rattle.gate_log.specs.Logs.{Stands as LogStands, last_number}
use Rattle.root_slots.specs.Slots.{Slots, slots_of}
use Rattle.root_slots.specs.Roots.{Stands as RootStands}
use Rattle.root_slots.specs.States.{IsState}
use Rattle.root_slots.specs.declared.root.Root.{Root}
use Rattle.root_slots.specs.declared.state.ChunkEntry.{ChunkEntry}
use Rattle.step_history.specs.History.{Base}
use Rattle.store_steps.specs.Batches.{AreFrom, Batch, above, record_of}
use Rattle.store_steps.specs.Directory.{Directory, IsChunkFile, IsInOrder, Reaches, directory_number, directory_rows, logged}
use Rattle.store_steps.specs.Grown.{AreBorn}
use Rattle.store_steps.specs.Kept.{IsImage, IsKept, Says}
use Rattle.store_steps.specs.declared.files.Files.{Files}
use Rattle.store_steps.proofs.Born.{directory_born}
use Rattle.store_steps.proofs.Naming.{older_kept}
use Rattle.store_steps.proofs.Taking.{number-low}

-- the files that a directory names are the same in two images
pub record Agree (dir : Directory) (d x : Image) : Type 0 where
  pub zeroth : x 0 ≡ d 0
  pub first : x 1 ≡ d 1
  pub chunks : AllByRecursion (λ c. x c.file ≡ d c.file) dir.state.chunks
  pub older : x dir.state.older ≡ d dir.state.older
  pub newer : x dir.state.newer ≡ d dir.state.newer

chunks_agree : (schema : Schema) (d x : Image) (entries : List ChunkEntry) (chunks : List (List DocRow)) → AllByRecursion (λ c. x c.file ≡ d c.file) entries → AllZip (IsChunkFile schema d) entries chunks → AllZip (IsChunkFile schema x) entries chunks
chunks_agree schema d x [] [] all files = tt
chunks_agree schema d x [] (rows ∷ chunks) all files = absurd files
chunks_agree schema d x (c ∷ entries) [] all files = absurd files
chunks_agree schema d x (c ∷ entries) (rows ∷ chunks) all files =
    (record { bytes = files.0.bytes; is = all.0 ∙ files.0.is; size = files.0.size; image = files.0.image }, chunks_agree schema d x entries chunks all.1 files.1)

-- Files that no root names don't matter.
pub image_agrees : (schema : Schema) (dir : Directory) (number : ℕ) (root : Root) (log : GateLog) (next : Option Batch) (d x : Image) → Agree dir d x → IsImage schema dir number None root log next d → IsImage schema dir number None root log next x
image_agrees schema dir number root log next d x agree image =
    let slots : slots_of x ≡ slots_of d = ap (λ (f : Option (List ℕ)). record { zeroth = f; first = x 1 }) agree.zeroth ∙ ap (λ (f : Option (List ℕ)). record { zeroth = d 0; first = f }) agree.first in
    record {
      chunks = chunks_agree schema d x dir.state.chunks dir.chunks agree.chunks image.chunks;
      older = older_kept d x dir.state.older dir.older agree.older image.older;
      slots = subst (λ (s : Slots). RootStands root (Some (record { number = number; state = dir.state })) None s) (sym slots) image.slots;
      newer = subst (λ (f : Option (List ℕ)). LogStands log (map record_of dir.newer) (option_map record_of next) f) (sym agree.newer) image.newer;
      other = tt;
    }

-- A store that was opened keeps what was read, its chunks and its older log too.
pub begins : {D : Type 0} (words : DiskWords D) (schema : Schema) (base : Base) (disk : D) (files : Files) (dir : Directory) (number : ℕ) → IsState dir.state → IsInOrder schema dir → Reaches dir → Says dir base.opening → files.log.end ≡ base.log
    → files.state ≡ dir.state → files.next_file ≡ dir.state.next_file → files.log.file ≡ dir.state.newer → files.log.staged ≡ None → files.log.pending ≡ false → files.log.last ≡ last_number (map record_of dir.newer)
    → Told (IsImage schema dir number None files.root files.log None) (words.told disk) → ((x : Image) → words.may_leave disk x → (i : Image) × (words.told disk ≡ Some i) × Agree dir i x) → IsKept words schema base [] None disk files
begins words schema base disk files dir number state order reaches says end state_is next_file file staged quiet last told agree =
    let born : AreBorn (directory_rows dir) (directory_number dir) = directory_born schema dir order in
    record {
      dir = dir;
      number = number;
      doubt = None;
      next = None;
      start = record { batches = dir.newer; through = dir.state.through };
      start_low = omega (arith, number-low dir, says.number);
      born = subst (λ (rows : Rows). AreBorn rows base.opening.number) says.rows (subst (λ (n : ℕ). AreBorn (directory_rows dir) n) says.number born);
      state_is = state_is;
      state = state;
      made = omega (arith, next_file);
      in_order = order;
      reaches = reaches;
      file = file;
      staged = staged;
      quiet = λ (_ : _). quiet;
      last = last;
      has = record { says = says; end = end; grown_is = refl; through_is = refl };
      may = tt;
      sure = λ (_ : _). refl;
      told = told;
      left = λ x may. let i = agree x may in image_agrees schema dir number files.root files.log None i.0 x i.2 (told i.0 i.1);
    }

-- all of these batches are taken
number_all : (t n k : ℕ) (bs : List Batch) → AreFrom k bs → t < k → n + 1 ≡ k → fold (λ (m : ℕ) (b : Batch). b.number) n (above t bs) + 1 ≡ k + length bs
number_all t n k [] from lt is = omega (arith, is)
number_all t n k (b ∷ bs) from lt is =
    let one : above t (b ∷ bs) ≡ b ∷ above t bs = ap (λ (c : Bool). cond c (b ∷ above t bs) (above t bs)) (lt-ltb t b.number (omega (arith, from.0, lt))) in
    ap (λ (l : List Batch). fold (λ (m : ℕ) (c : Batch). c.number) n l + 1) one ∙ number_all t b.number (k + 1) bs from.1 (omega (arith, lt)) (omega (arith, from.0)) ∙ omega arith

-- those behind the chunks are
pub number_from : (t k : ℕ) (bs : List Batch) → AreFrom k bs → k ≤ t + 1 → t < k + length bs → fold (λ (m : ℕ) (b : Batch). b.number) t (above t bs) + 1 ≡ k + length bs
number_from t k [] from low reach = omega (arith, low, reach)
number_from t k (b ∷ bs) from low reach = elim (cases_lt t b.number) [
  | inl lt ↦ number_all t t k (b ∷ bs) from (omega (arith, from.0, lt)) (omega (arith, from.0, lt, low))
  | inr le ↦
      let passed : above t (b ∷ bs) ≡ above t bs = ap (λ (c : Bool). cond c (b ∷ above t bs) (above t bs)) (le-ltb t b.number le) in
      ap (λ (l : List Batch). fold (λ (m : ℕ) (c : Batch). c.number) t l + 1) passed ∙ number_from t (k + 1) bs from.1 (omega (arith, from.0, le)) (omega (arith, reach)) ∙ omega arith
]

-- Logs that end no earlier than the chunks do have room for the next commit.
pub reached : (dir : Directory) (first : ℕ) → first ≤ dir.state.through + 1 → AreFrom first (logged dir) → dir.state.through < first + length (logged dir) → Reaches dir
reached dir first low from reach = record { first = first; low = low; numbers = from; next = number_from dir.state.through first (logged dir) from low reach }
