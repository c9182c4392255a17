-- What the files have once a job has ended.
use Rattle.std.proofs.Common.{◌≡◌, ⊎_elim, ℕ, List, [], ◌∷◌, ◌++◌, true, map, Option, Some, None, Ok, Err, refl, sym, ◌∙◌, ap, subst, arith, length}
use Rattle.std.specs.List.{AllZip}
use Rattle.std.specs.Option.{is_some}
use Rattle.std.proofs.lemmas.List.Sorted.{length_permutation}
use Rattle.chunk_image.specs.ChunkImage.{IsImageOf, image}
use Rattle.chunk_store.specs.Images.{Image}
use Rattle.chunk_store.specs.declared.disk.Disk.{Ghosts as DiskWords}
use Rattle.doc_types.specs.declared.documents.DocRow.{DocRow}
use Rattle.doc_types.specs.declared.schema.Schema.{Schema}
use Rattle.doc_types.specs.Snapshots.{LayerValue, SnapshotValue}
use Rattle.image_chunk.specs.steps.OneWords.{one_words}
use Rattle.job_chunks.specs.Chunks.{IsImaged, IsNewChunk, NewChunkValue}
use Rattle.job_states.proofs.Growing.{through_reshape}
use Rattle.reshape_laws.specs.Rebasing.{rebased, some_chunk, staying, taken}
use Rattle.reshape_laws.proofs.Rebased.{chunks}
use Rattle.root_slots.specs.Slots.{IsRoot, Slot, slots_of}
use Rattle.root_slots.specs.Roots.{Stands as RootStands}
use Rattle.root_slots.specs.declared.state.RootState.{RootState}
use Rattle.root_slots.proofs.Standing.{root_leaves}
use Rattle.step_history.specs.declared.job.Job.{Job}
use Rattle.step_history.specs.declared.job.Job.TheVariants.{Flush, Optimize}
use Rattle.step_history.specs.History.{Base, Step, chunks_for, last_snapshot}
use Rattle.step_history.specs.Places.{disk_chunks}
use Rattle.step_history.proofs.Steps.{last_one}
use Rattle.store_keep.proofs.Publishing.{step_waits}
use Rattle.store_steps.specs.Directory.{IsChunkFile}
use Rattle.store_steps.specs.Doubts.{Doubted, slot_in}
use Rattle.store_steps.specs.Grown.{through_at}
use Rattle.store_steps.specs.Kept.{HasAll, IsKept}
use Rattle.store_steps.specs.declared.files.Files.{Files}
use Rattle.store_steps.proofs.Keeping.{has_all}
use Rattle.step_line.specs.Lines.{LineValue, settled}
use Rattle.store_keep.specs.Installs.{end_of}
use Rattle.job_laws.specs.Endings.{EndsIn, EndsInChunk, HasRoot, WasAnswered, end_behind, left_chunks}

-- ---- no record is staged where nothing waits

none_there : (o : Option (ℕ × ℕ)) → (is_some o ≡ true → ⊥) → o ≡ None
none_there None not_some = refl
none_there (Some m) not_some = absurd (not_some refl)

pub rests : {D : Type 0} (words : DiskWords D) (schema : Schema) (base : Base) (steps : List Step) (disk : D) (files : Files) → IsKept words schema base steps None disk files → files.log.staged ≡ None
rests words schema base steps disk files kept = none_there files.log.staged (λ some. step_waits words schema base steps None disk files kept some {T = Unit {0}} {E = Unit {0}} (Err tt) refl)

-- ---- chunks

one_for : (xs ys : List DocRow) → length xs ≡ length ys → length (some_chunk ys) ≡ chunks_for xs
one_for [] [] same = refl
one_for [] (y ∷ ys) same = absurd (omega (arith, same))
one_for (x ∷ xs) [] same = absurd (omega (arith, same))
one_for (x ∷ xs) (y ∷ ys) same = refl

left_is : (job : Job) (before : SnapshotValue) → map (λ (layer : LayerValue). layer.rows) (staying job before) ≡ left_chunks job before
left_is Flush before = refl
left_is Optimize before = refl

zip_last : {A B : Type 0} (R : A → B → Type 0) (xs : List A) (ys : List B) (y : B) → AllZip R xs (ys ++ y ∷ []) → (front : List A) × (x : A) × (xs ≡ front ++ x ∷ []) × R x y
zip_last R [] [] y zip = absurd zip
zip_last R (x ∷ []) [] y zip = ([], x, refl, zip.0)
zip_last R (x ∷ other ∷ xs) [] y zip = absurd zip.1
zip_last R [] (z ∷ ys) y zip = absurd zip
zip_last R (x ∷ xs) (z ∷ ys) y zip = let last = zip_last R xs ys y zip.1 in (x ∷ last.0, last.1, ap (λ l. x ∷ l) last.2, last.3)

-- rows have one image
same_bytes : (schema : Schema) (rows : List DocRow) (a b : List ℕ) → IsImageOf schema rows a → IsImageOf schema rows b → a ≡ b
same_bytes schema rows a b one two = one.is ∙ ap (image schema rows) (one_words rows one.words two.words one.are two.are) ∙ sym two.is

in_file : (schema : Schema) (state : RootState) (left : List (List DocRow)) (rows : List DocRow) (bytes : Option (List ℕ)) (x : Image) → IsImaged schema rows bytes → AllZip (IsChunkFile schema x) state.chunks (left ++ some_chunk rows) → EndsInChunk state bytes x
in_file schema state left rows None x imaged files = tt
in_file schema state left [] (Some bytes) x imaged files = absurd (omega (arith, imaged.0))
in_file schema state left (row ∷ rows) (Some bytes) x imaged files =
    let last = zip_last (IsChunkFile schema x) state.chunks left (row ∷ rows) files in
    record { front = last.0; entry = last.1; last = last.2; file = last.3.is ∙ ap Some (same_bytes schema (row ∷ rows) last.3.bytes bytes last.3.image imaged.1) }

module _ {D : Type 0} (words : DiskWords D) (schema : Schema) (base : Base) (steps : List Step) (disk : D) (files : Files) (kept : IsKept words schema base steps None disk files) (before : List Step) (new : NewChunkValue) (chunk : IsNewChunk schema new)
    (ends : steps ≡ before ++ end_behind base before new ∷ []) where
  abbrev now : SnapshotValue
  now = last_snapshot base before

  all : HasAll base kept.start steps files.log kept.dir
  all = has_all words schema base steps disk files kept (rests words schema base steps disk files kept)

  rows_are : kept.dir.chunks ≡ left_chunks new.job now ++ some_chunk new.rows
  rows_are =
      all.says.chunks ∙ ap (λ (xs : List Step). disk_chunks (last_snapshot base xs)) ends ∙ ap disk_chunks (last_one base before (end_behind base before new))
      ∙ chunks new.job new.from.number new.rows now ∙ ap (λ (left : List (List DocRow)). left ++ some_chunk new.rows) (left_is new.job now)

  in_files : (x : Image) → words.may_leave disk x → AllZip (IsChunkFile schema x) files.state.chunks (left_chunks new.job now ++ some_chunk new.rows)
  in_files x may =
      subst (λ (s : RootState). AllZip (IsChunkFile schema x) s.chunks (left_chunks new.job now ++ some_chunk new.rows)) (sym kept.state_is)
      (subst (λ (rows : List (List DocRow)). AllZip (IsChunkFile schema x) kept.dir.state.chunks rows) rows_are (kept.left x may).chunks)

  pub has_root : files.sure ≡ true → (x : Image) → words.may_leave disk x → HasRoot files.state x
  has_root sure x may =
      let own : Slot = record { number = kept.number; state = kept.dir.state } in
      let stands : RootStands files.root (Some own) None (slots_of x) = subst (λ (d : Option Doubted). RootStands files.root (Some own) (slot_in d) (slots_of x)) (kept.sure sure) (kept.left x may).slots in
      record { number = kept.number; root = subst (λ (s : RootState). IsRoot (Some (record { number = kept.number; state = s })) (slots_of x)) (sym kept.state_is) (root_leaves files.root (Some own) None (slots_of x) stands) }

  pub ends_in : EndsIn words schema now new files disk
  ends_in = record {
    through = ap (λ (s : RootState). s.through) kept.state_is ∙ all.through_is ∙ ap (through_at kept.start.through) ends ∙ through_reshape kept.start.through before new.job new.from.number (rebased new.job new.from.number new.rows now);
    one = one_for (taken new.job new.from) new.rows (sym (length_permutation (taken new.job new.from) new.rows chunk.moved));
    chunks = in_files;
    bytes = λ x may. in_file schema files.state (left_chunks new.job now) new.rows new.image x chunk.imaged (in_files x may);
  }

-- ---- what a note says

-- What an answer says of the line and of the files.
pub record IsEnd (base : Base) (before : List Step) (new : NewChunkValue) (next : LineValue) (kept : Files) : Type 0 where
  pub history : next.history ≡ before ++ end_behind base before new ∷ []
  pub none : next.waiting ≡ None
  pub sure : kept.sure ≡ true

pub answered : {J : Type 0} (base : Base) (before : List Step) (new : NewChunkValue) (next : LineValue) (kept : Files) → WasAnswered J base before new next kept → IsEnd base before new next kept
answered {J} base before new next kept was =
    ⊎_elim (λ unready. absurd (cc (unready.answer)))
    (λ charged. ⊎_elim (λ stray. absurd (cc (stray.answer)))
    (λ rest. ⊎_elim (λ unsettled. ⊎_elim (λ none. absurd (cc (none))) (λ failed. absurd (cc (failed.0))) unsettled.answer)
    (λ later.
    let line_is : next ≡ settled (record (settled was.line) { waiting = Some (end_of base (settled was.line) new) }) = later.ends.1 in
    record {
      history = ap (λ (l : LineValue). l.history) line_is ∙ ap (λ (xs : List Step). xs ++ end_behind base xs new ∷ []) (sym was.before_is);
      none = ap (λ (l : LineValue). l.waiting) line_is;
      sure = later.ends.5;
    }) rest)
    charged.installs)
    was.answer
