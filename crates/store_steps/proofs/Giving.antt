-- What an image gives that is as root and log left it.
use Rattle.std.proofs.Common.{◌≡◌, inl, inr, ⊎_elim, ℕ, zero, suc, ◌+◌, ◌≤◌, List, [], ◌∷◌, ◌++◌, map, length, false, Option, Some, None, IfSome, refl, sym, ◌∙◌, ap, subst, arith, append-nil, All}
use Rattle.std.specs.List.{fold, AllZip}
use Rattle.std.proofs.lemmas.List.{map-append}
use Rattle.doc_types.specs.declared.schema.Schema.{Schema}
use Rattle.doc_types.specs.Rows.{rows_of}
use Rattle.doc_types.specs.Snapshots.{SnapshotValue, all_living, live}
use Rattle.chunk_store.specs.Images.{Image, contents}
use Rattle.gate_log.specs.declared.records.LogRecord.{LogRecord}
use Rattle.gate_log.specs.declared.log.GateLog.{GateLog}
use Rattle.gate_log.specs.Logs.{IsLogOf}
use Rattle.gate_log.proofs.Standing.{gives_records, gives_either}
use Rattle.root_slots.specs.Slots.{IsRoot, slots_of}
use Rattle.root_slots.specs.Roots.{Leaves}
use Rattle.root_slots.specs.declared.root.Root.{Root}
use Rattle.root_slots.proofs.Standing.{root_leaves}
use Rattle.step_history.specs.History.{Base, Step, Commit, last_snapshot}
use Rattle.step_history.proofs.Steps.{last_one}
use Rattle.step_line.specs.Lines.{with_waiting}
use Rattle.store_steps.specs.Batches.{AreFrom, Batch, IsBatchOf, above, after_batch, record_of}
use Rattle.store_steps.specs.Grown.{Start}
use Rattle.store_steps.specs.Directory.{Directory, IsChunkFile, IsInOrder, IsOlderLog, Reaches, StandsFor, directory_number, directory_rows, layers_of}
use Rattle.store_steps.specs.Doubts.{AreOther, Doubted, MayStand, face_of, shadow_of, slot_in}
use Rattle.store_steps.specs.Kept.{GivesEither, Has, IsImage, IsStaged, Says}
use Rattle.store_steps.proofs.Taking.{may_more, order_more, reaches_more, says_more, with_batch}

-- ---- the directory of a state in doubt

pub older_log : (x : Image) (file : ℕ) (batches : List Batch) → 2 ≤ file → IsLogOf (map record_of batches) (contents (x file)) → IsOlderLog x file batches
older_log x zero batches two log = absurd (omega (arith, two))
older_log x (suc file) batches two log = log

pub face_order : (schema : Schema) (dir : Directory) (d : Doubted) → IsInOrder schema (shadow_of dir d) → IsInOrder schema (face_of dir d)
face_order schema dir d order = record {
  text = order.text;
  chunks = order.chunks;
  once = order.once;
  numbers = (order.numbers.0, order.numbers.1, subst (λ (l : List Batch). AreFrom order.numbers.0 l) (sym (append-nil dir.newer)) order.numbers.2);
  batches = subst (λ (l : List Batch). All (IsBatchOf schema) l) (sym (append-nil dir.newer)) order.batches;
}

pub face_number : (dir : Directory) (d : Doubted) → directory_number (face_of dir d) ≡ directory_number (shadow_of dir d)
face_number dir d = ap (λ (l : List Batch). fold (λ (n : ℕ) (b : Batch). b.number) d.state.through (above d.state.through l)) (append-nil dir.newer)

pub face_reaches : (dir : Directory) (d : Doubted) → Reaches (shadow_of dir d) → Reaches (face_of dir d)
face_reaches dir d reaches = record {
  first = reaches.first;
  low = reaches.low;
  numbers = subst (λ (l : List Batch). AreFrom reaches.first l) (sym (append-nil dir.newer)) reaches.numbers;
  next = ap (λ (n : ℕ). n + 1) (face_number dir d) ∙ reaches.next ∙ ap (λ (l : List Batch). reaches.first + length l) (sym (append-nil dir.newer));
}

pub face_rows : (dir : Directory) (d : Doubted) → directory_rows (face_of dir d) ≡ directory_rows (shadow_of dir d)
face_rows dir d = ap (λ (l : List Batch). fold after_batch (rows_of (all_living (layers_of (shadow_of dir d)))) (above d.state.through l)) (append-nil dir.newer)

pub face_gives : (schema : Schema) (next_file : ℕ) (dir : Directory) (d : Doubted) (x : Image) → 2 ≤ dir.state.newer → MayStand schema next_file dir d → AreOther schema x d → IsRoot (Some (record { number = d.number; state = d.state })) (slots_of x)
    → IsLogOf (map record_of dir.newer) (contents (x dir.state.newer)) → StandsFor schema x (directory_rows dir) (directory_number dir)
face_gives schema next_file dir d x two may other root log =
    let file : 2 ≤ d.state.older = subst (λ (f : ℕ). 2 ≤ f) (sym may.older) two in
    let here : IsLogOf (map record_of dir.newer) (contents (x d.state.older)) = subst (λ (f : ℕ). IsLogOf (map record_of dir.newer) (contents (x f))) (sym may.older) log in
    record {
      found = Some (face_of dir d);
      holds = (
        record {
          number = d.number;
          files = record { root = root; chunks = other.chunks; older = older_log x d.state.older dir.newer file here };
          newer = other.newer;
          in_order = face_order schema dir d may.in_order;
        },
        face_reaches dir d may.reaches,
      );
      rows_are = face_rows dir d ∙ may.rows;
      number_is = face_number dir d ∙ may.number;
    }

-- ---- either face

pub stands_with : (schema : Schema) (next_file : ℕ) (dir : Directory) (number : ℕ) (doubt : Option Doubted) (x : Image) → 2 ≤ dir.state.newer → IsInOrder schema dir → Reaches dir → IfSome doubt (MayStand schema next_file dir)
    → AllZip (IsChunkFile schema x) dir.state.chunks dir.chunks → IsOlderLog x dir.state.older dir.older → IfSome doubt (AreOther schema x) → Leaves (Some (record { number = number; state = dir.state })) (slot_in doubt) (slots_of x)
    → IsLogOf (map record_of dir.newer) (contents (x dir.state.newer)) → StandsFor schema x (directory_rows dir) (directory_number dir)
stands_with schema next_file dir number None x two order reaches may chunks older other root log = record {
  found = Some dir;
  holds = (record { number = number; files = record { root = root; chunks = chunks; older = older }; newer = log; in_order = order }, reaches);
  rows_are = refl;
  number_is = refl;
}
stands_with schema next_file dir number (Some d) x two order reaches may chunks older other (inl root) log = record {
  found = Some dir;
  holds = (record { number = number; files = record { root = root; chunks = chunks; older = older }; newer = log; in_order = order }, reaches);
  rows_are = refl;
  number_is = refl;
}
stands_with schema next_file dir number (Some d) x two order reaches may chunks older other (inr root) log = face_gives schema next_file dir d x two may other root log

pub says_so : (schema : Schema) (dir : Directory) (snapshot : SnapshotValue) (x : Image) → Says dir snapshot → StandsFor schema x (directory_rows dir) (directory_number dir) → StandsFor schema x (live snapshot) snapshot.number
says_so schema dir snapshot x says stands = record { found = stands.found; holds = stands.holds; rows_are = stands.rows_are ∙ says.rows; number_is = stands.number_is ∙ says.number }

-- the number of the batch that is staged is the next one
pub staged_number : {schema : Schema} {base : Base} {start : Start} {steps : List Step} {waiting : Option Step} {log : GateLog} {dir : Directory} {b : Batch} → IsStaged schema base start steps waiting log dir b → b.number ≡ directory_number dir + 1
staged_number staged = ap (λ (c : Batch). c.number) staged.is ∙ staged.follows.numbered ∙ ap (λ (n : ℕ). n + 1) (sym staged.says.number)

-- with it the directory says what the commit makes
pub staged_says : {schema : Schema} {base : Base} {start : Start} {steps : List Step} {waiting : Option Step} {log : GateLog} {dir : Directory} {b : Batch} → IsStaged schema base start steps waiting log dir b → Says (with_batch dir b) (last_snapshot base (with_waiting steps waiting))
staged_says {schema} {base} {start} {steps} {waiting} {log} {dir} {b} staged =
    let says : Says (with_batch dir b) staged.snapshot = subst (λ (c : Batch). Says (with_batch dir c) staged.snapshot) (sym staged.is) (says_more base steps dir staged.snapshot staged.entry staged.says staged.follows) in
    let all : Says (with_batch dir b) (last_snapshot base (steps ++ Commit staged.entry staged.snapshot ∷ [])) =
    subst (λ (s : SnapshotValue). Says (with_batch dir b) s) (sym (last_one base steps (Commit staged.entry staged.snapshot))) says in
    subst (λ (w : Option Step). Says (with_batch dir b) (last_snapshot base (with_waiting steps w))) (sym staged.waits) all

-- Every such image gives the documents after the steps, or after these and the one that waits.
pub image_gives : (schema : Schema) (base : Base) (start : Start) (steps : List Step) (waiting : Option Step) (next_file : ℕ) (dir : Directory) (number : ℕ) (doubt : Option Doubted) (root : Root) (log : GateLog) (next : Option Batch) (x : Image)
    → 2 ≤ dir.state.newer → IsInOrder schema dir → Reaches dir → IfSome doubt (MayStand schema next_file dir) → (next ≡ None → log.pending ≡ false) → (before : GateLog) → Has schema base start steps waiting before dir next → IsImage schema dir number doubt root log next x → GivesEither schema base steps waiting x
image_gives schema base start steps waiting next_file dir number doubt root log None x two order reaches may quiet before has image =
    inr (says_so schema dir (last_snapshot base (with_waiting steps waiting)) x has.says
    (stands_with schema next_file dir number doubt x two order reaches may image.chunks image.older image.other (root_leaves root (Some (record { number = number; state = dir.state })) (slot_in doubt) (slots_of x) image.slots)
    (gives_records log (map record_of dir.newer) (x dir.state.newer) (quiet refl) image.newer)))
image_gives schema base start steps waiting next_file dir number doubt root log (Some b) x two order reaches may quiet before staged image =
    let leaves : Leaves (Some (record { number = number; state = dir.state })) (slot_in doubt) (slots_of x) = root_leaves root (Some (record { number = number; state = dir.state })) (slot_in doubt) (slots_of x) image.slots in
    ⊎_elim
    (λ log_is. inl (says_so schema dir (last_snapshot base steps) x staged.says (stands_with schema next_file dir number doubt x two order reaches may image.chunks image.older image.other leaves log_is)))
    (λ log_is.
    let more : IsLogOf (map record_of (dir.newer ++ b ∷ [])) (contents (x dir.state.newer)) = subst (λ (l : List LogRecord). IsLogOf l (contents (x dir.state.newer))) (sym (map-append record_of dir.newer (b ∷ []))) log_is in
    inr (says_so schema (with_batch dir b) (last_snapshot base (with_waiting steps waiting)) x (staged_says staged)
    (stands_with schema next_file (with_batch dir b) number doubt x two (order_more schema dir b order reaches (staged_number staged) staged.of) (reaches_more dir b reaches (staged_number staged)) (may_more schema next_file dir doubt b may (staged_number staged) staged.of) image.chunks image.older image.other leaves more)))
    (gives_either log (map record_of dir.newer) (record_of b) (x dir.state.newer) image.newer)
