-- A store that is opened on a disk without files has no documents.
use Rattle.std.proofs.Common.{◌≡◌, inl, inr, ℕ, List, [], ◌∷◌, ◌++◌, Option, Some, None, Ok, refl, sym, ap, ◌∙◌, arith}
use Rattle.std.specs.Prelude.{reverse}
use Rattle.std.specs.Arc.{arc_value}
use Rattle.chunk_store.specs.Images.{Image, Told, contents}
use Rattle.chunk_store.specs.Memory.{image_of, replayed}
use Rattle.chunk_store.specs.contracts.memory_disk.MemoryDiskDisk.TheImpl as memory
use Rattle.chunk_store.specs.declared.disk.Disk.{Ghosts as DiskWords}
use Rattle.chunk_store.specs.declared.memory_disk.MemoryDisk.{MemoryDisk}
use Rattle.doc_types.specs.declared.schema.Schema.{Schema}
use Rattle.root_slots.specs.Slots.{IsRoot, Slot, slots_of, tail}
use Rattle.store_steps.specs.Directory.{Directory, Holds, number_in, rows_in}
use Rattle.commit_outcomes.specs.declared.strayed.Strayed.{Strayed}
use Rattle.step_book.specs.Fronts.{FrontValue}
use Rattle.step_book.specs.Tellings.{AtOpening}
use Rattle.step_history.specs.History.{Base}
use Rattle.step_tokens.specs.Tokens.{TokenValue}
use Rattle.snap_share.specs.Closings.{Closes}
use Rattle.store_keep.specs.Opens.{BeginsAt, IsFoundIn, base_of}
use Rattle.store_keep.specs.declared.opening.Opened.{Opened}
use Rattle.self_test.specs.Own.{IsEmpty}
use Rattle.self_test.proofs.Ending.{Closed}
use Rattle.self_test.specs.steps.Engines.{HoldsNothing}

no_bytes : (file : Option (List ℕ)) (b : ℕ) (bytes : List ℕ) → contents file ≡ b ∷ bytes → file ≡ None → ⊥
no_bytes file b bytes is none = let empty : [] ≡ b ∷ bytes = sym (ap contents none) ∙ is in cc empty

-- where no file is there, none is a root
no_root : (image : Image) (s : Slot) → ((file : ℕ) → image file ≡ None) → IsRoot (Some s) (slots_of image) → ⊥
no_root image s none (inl (opened, below)) = no_bytes (image 0) 1 (tail s ++ opened.rest) opened.is (none 0)
no_root image s none (inr (opened, below)) = no_bytes (image 1) 1 (tail s ++ opened.rest) opened.is (none 1)

nothing_found : (schema : Schema) (image : Image) (found : Option Directory) → ((file : ℕ) → image file ≡ None) → Holds schema found image → found ≡ None
nothing_found schema image None none holds = refl
nothing_found schema image (Some dir) none (files, reaches) = absurd (no_root image (record { number = files.number; state = dir.state }) none files.files.root)

-- such a store has no documents, and its log no record
pub begun_empty : {D : Type 0} (words : DiskWords D) (schema : Schema) (disk : D) (store : Opened D) → HoldsNothing words disk → Told (IsFoundIn schema (arc_value store.snapshot) store.records) (words.told disk)
    → Told (BeginsAt (base_of store).log) (words.told disk) → IsEmpty (base_of store)
begun_empty words schema disk store nothing found fresh =
    let here = found nothing.image nothing.told in
    let none : here.found ≡ None = nothing_found schema nothing.image here.found nothing.none here.holds in
    let log : (base_of store).log ≡ 0 = fresh nothing.image nothing.told (nothing.none 0) (nothing.none 1) in
    record {
      none = sym here.rows ∙ ap rows_in none;
      number = sym here.number ∙ ap number_in none;
      log = omega (arith, log);
    }

-- What the end of an engine says of its line where all was well.
pub closed_well : {D : Type 0} (words : DiskWords D) (schema : ℕ → Schema) (base : ℕ → Base) (opened : ℕ → AtOpening) (index workers : ℕ) (told : List Strayed) (tokens : List TokenValue) (disk : D) (note : FrontValue) (new : List TokenValue)
    → Closes words schema base opened index workers told tokens disk note (Ok tt) new → Closed told tokens workers
closed_well words schema base opened index workers told tokens disk note new closes = record {
  line = closes.0;
  workers_are = closes.1.left.workers_are;
  by = closes.1.left.is.by;
  untold = closes.2.0;
  new = new;
  seen = closes.2.1;
}

-- A new disk in memory tells that it has no files.
pub new_holds_nothing : (disk : MemoryDisk) → ((file : ℕ) → image_of disk.files file ≡ None) → HoldsNothing memory.ghosts disk
new_holds_nothing disk none = record { image = replayed (image_of disk.start) (reverse disk.calls.items); told = refl; none = λ file. sym (disk.kept file) ∙ none file }
