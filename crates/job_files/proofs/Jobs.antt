-- What the new state of a job stands for.
use Rattle.std.proofs.Common.{◌≡◌, ℕ, ◌+◌, ◌≤◌, List, [], ◌∷◌, ◌++◌, map, Option, Some, None, refl, sym, ◌∙◌, ap, subst, arith, length, length-append, All}
use Rattle.std.proofs.lemmas.List.{length-map}
use Rattle.std.specs.Prelude.{IfSome}
use Rattle.std.specs.List.{fold, AllZip}
use Rattle.std.proofs.lemmas.List.Elements.{All-tail}
use Rattle.doc_types.specs.declared.documents.DocRow.{DocRow}
use Rattle.doc_types.specs.declared.schema.Schema.{Schema}
use Rattle.doc_types.specs.Rows.{Rows, rows_of}
use Rattle.doc_types.specs.Snapshots.{all_living, live}
use Rattle.chunk_store.specs.Images.{Image, contents}
use Rattle.chunk_store.specs.declared.disk.Disk.{Ghosts as DiskWords}
use Rattle.gate_log.specs.Logs.{IsLogOf, quiet_log}
use Rattle.gate_log.proofs.Standing.{gives_records}
use Rattle.root_slots.specs.declared.state.ChunkEntry.{ChunkEntry}
use Rattle.root_slots.specs.declared.state.RootState.{RootState}
use Rattle.step_history.specs.declared.job.Job.{Job}
use Rattle.step_history.specs.declared.job.Job.TheVariants.{Flush, Optimize}
use Rattle.step_history.specs.History.{Base, Step, IsGood, commits, last_snapshot}
use Rattle.step_history.specs.Since.{OnlyCommits}
use Rattle.step_history.proofs.Between as between
use Rattle.store_steps.specs.declared.files.Files.{Files}
use Rattle.store_steps.specs.Batches.{AreFrom, Batch, IsBatchOf, above, after_batch, batch_of}
use Rattle.store_steps.specs.Directory.{Directory, IsChunkFile, directory_number, directory_rows, layers_from}
use Rattle.store_steps.specs.Grown.{grown}
use Rattle.job_files.specs.Jobs.{Adds, HasNewFiles, IsJob, IsSameFile, Stay, log_file}
use Rattle.store_steps.specs.Doubts.{AreOther, Doubted, MayStand, shadow_of}
use Rattle.store_steps.specs.Kept.{HasAll, IsKept}
use Rattle.job_files.proofs.Growing.{above_behind, grown_since, last_from, numbers_rise, rows_after}
use Rattle.store_steps.proofs.Keeping.{has_all}
use Rattle.store_steps.proofs.Taking.{from-behind}

all_back : {X : Type 0} (P : X → Type 0) (xs ys : List X) → All P (xs ++ ys) → All P ys
all_back P [] ys all = all
all_back P (x ∷ xs) ys all = all_back P xs ys (All-tail P x (xs ++ ys) all)

-- ---- the files of the new state

pub zip_both : {A B : Type 0} (R : A → B → Type 0) (xs us : List A) (ys vs : List B) → AllZip R xs ys → AllZip R us vs → AllZip R (xs ++ us) (ys ++ vs)
zip_both R [] us [] vs one two = two
zip_both R [] us (y ∷ ys) vs one two = absurd one
zip_both R (x ∷ xs) us [] vs one two = absurd one
zip_both R (x ∷ xs) us (y ∷ ys) vs one two = (one.0, zip_both R xs us ys vs one.1 two)

same_files : (schema : Schema) (x : Image) (old entries : List ChunkEntry) (rows : List (List DocRow)) → AllZip IsSameFile old entries → AllZip (IsChunkFile schema x) old rows → AllZip (IsChunkFile schema x) entries rows
same_files schema x [] [] [] same files = tt
same_files schema x [] [] (r ∷ rows) same files = absurd files
same_files schema x [] (e ∷ entries) rows same files = absurd same
same_files schema x (o ∷ old) [] rows same files = absurd same
same_files schema x (o ∷ old) (e ∷ entries) [] same files = absurd files
same_files schema x (o ∷ old) (e ∷ entries) (r ∷ rows) same files =
    let file = files.0 in (
      record { bytes = file.bytes; is = ap x same.0.file ∙ file.is; size = file.size ∙ sym same.0.size; image = file.image },
      same_files schema x old entries rows same.1 files.1,
    )

stay_files : (schema : Schema) (x : Image) (job : Job) (old entries : List ChunkEntry) (chunks rows : List (List DocRow)) → Stay job old chunks entries rows → AllZip (IsChunkFile schema x) old chunks → AllZip (IsChunkFile schema x) entries rows
stay_files schema x Flush old entries chunks rows stay files = subst (λ (l : List (List DocRow)). AllZip (IsChunkFile schema x) entries l) (sym stay.1) (same_files schema x old entries chunks stay.0 files)
stay_files schema x Optimize old entries chunks rows stay files =
    subst (λ (l : List (List DocRow)). AllZip (IsChunkFile schema x) entries l) (sym stay.1) (subst (λ (l : List ChunkEntry). AllZip (IsChunkFile schema x) l []) (sym stay.0) tt)

add_files : (schema : Schema) (x : Image) (file : ℕ) (chunk : Option (List ℕ)) (entries : List ChunkEntry) (rows : List (List DocRow)) → Adds schema file chunk entries rows → IfSome chunk (λ bytes. x file ≡ Some bytes) → AllZip (IsChunkFile schema x) entries rows
add_files schema x file None entries rows add is =
    subst (λ (l : List (List DocRow)). AllZip (IsChunkFile schema x) entries l) (sym add.1) (subst (λ (l : List ChunkEntry). AllZip (IsChunkFile schema x) l []) (sym add.0) tt)
add_files schema x file (Some bytes) entries rows (one, entries_are, rows_are, image) is =
    subst (λ (l : List (List DocRow)). AllZip (IsChunkFile schema x) entries l) (sym rows_are)
    (subst (λ (l : List ChunkEntry). AllZip (IsChunkFile schema x) l (one ∷ [])) (sym entries_are) (record { bytes = bytes; is = is; size = refl; image = image }, tt))

-- ---- what it says

module _ {D : Type 0} (words : DiskWords D) (schema : Schema) (base : Base) (steps : List Step) (disk : D) (known : Files) (kept : IsKept words schema base steps None disk known) (none : known.log.staged ≡ None)
    (file : ℕ) (chunk : Option (List ℕ)) (new : RootState) (step : Step) (job : IsJob schema base steps known.state file chunk new step) (good : IsGood schema base steps) where
  abbrev pub dir : Directory
  dir = kept.dir

  all : HasAll base kept.start steps known.log dir
  all = has_all words schema base steps disk known kept none

  abbrev pub doubted : Doubted
  doubted = record { number = known.root.number + 1; state = new; chunks = job.chunks }

  abbrev earlier : List Step
  earlier = job.follows.earlier

  abbrev since : List Step
  since = job.follows.since

  abbrev entries : List Batch
  entries = map batch_of (commits since)

  good_both : IsGood schema base (earlier ++ since)
  good_both = subst (IsGood schema base) job.follows.both good

  same_shape : (last_snapshot base (earlier ++ since)).shape ≡ (last_snapshot base earlier).shape
  same_shape = ap (λ (xs : List Step). (last_snapshot base xs).shape) (sym job.follows.both) ∙ sym job.follows.from_shape

  only : OnlyCommits (last_snapshot base earlier) (last_snapshot base (earlier ++ since)) (commits since)
  only = between.since schema base earlier since good_both same_shape

  abbrev before : List Batch
  before = grown kept.start.batches earlier

  newer_is : dir.newer ≡ before ++ entries
  newer_is = all.grown_is ∙ ap (grown kept.start.batches) job.follows.both ∙ grown_since schema base kept.start.batches earlier since good_both same_shape

  through_is : new.through ≡ (last_snapshot base earlier).number
  through_is = sym job.follows.from_number

  abbrev from : ℕ
  from = kept.reaches.first + length dir.older

  numbers : AreFrom from dir.newer
  numbers = from-behind kept.reaches.first dir.older dir.newer kept.reaches.numbers

  cut : from + length before ≡ new.through + 1
  cut =
      let rise : (last_snapshot base steps).number ≡ (last_snapshot base earlier).number + length (commits since) = ap (λ (xs : List Step). (last_snapshot base xs).number) job.follows.both ∙ numbers_rise schema base earlier since good_both in
      let size : length dir.newer ≡ length before + length (commits since) = ap length newer_is ∙ length-append before entries ∙ ap (λ (n : ℕ). length before + n) (length-map (commits since) batch_of) in
      omega (arith, kept.reaches.next, all.says.number, length-append dir.older dir.newer, size, rise, through_is)

  split : AreFrom from (before ++ entries)
  split = subst (AreFrom from) newer_is numbers

  behind : AreFrom (new.through + 1) entries
  behind = subst (λ (n : ℕ). AreFrom n entries) cut (from-behind from before entries split)

  taken_is : above new.through dir.newer ≡ entries
  taken_is = ap (above new.through) newer_is ∙ above_behind new.through from before entries split cut

  same_rows : directory_rows (shadow_of dir doubted) ≡ directory_rows dir
  same_rows =
      ap (λ (l : List Batch). fold after_batch (rows_of (all_living (layers_from new.chunks job.chunks))) l) taken_is
      ∙ ap (λ (rows : Rows). fold after_batch rows entries) job.rows
      ∙ rows_after (live (last_snapshot base earlier)) (commits since)
      ∙ sym only.rows
      ∙ ap (λ (xs : List Step). live (last_snapshot base xs)) (sym job.follows.both)
      ∙ sym all.says.rows

  same_number : directory_number (shadow_of dir doubted) ≡ directory_number dir
  same_number =
      let here : directory_number (shadow_of dir doubted) ≡ new.through + length entries = ap (λ (l : List Batch). fold (λ (n : ℕ) (b : Batch). b.number) new.through l) taken_is ∙ last_from new.through entries behind in
      let rise : (last_snapshot base steps).number ≡ (last_snapshot base earlier).number + length (commits since) = ap (λ (xs : List Step). (last_snapshot base xs).number) job.follows.both ∙ numbers_rise schema base earlier since good_both in
      omega (arith, here, rise, length-map (commits since) batch_of, through_is, all.says.number)

  pub job_may : (files : ℕ) → log_file file chunk + 1 ≤ files → MayStand schema files dir doubted
  job_may files le = record {
    state = job.state;
    older = job.older ∙ ap (λ (s : RootState). s.newer) kept.state_is;
    made = omega (arith, job.next_file, le);
    in_order = record {
      text = job.text;
      chunks = job.of;
      once = job.once;
      numbers = (from, omega (arith, cut), numbers);
      batches = all_back (IsBatchOf schema) dir.older dir.newer kept.in_order.batches;
    };
    reaches = record {
      first = from;
      low = omega (arith, cut);
      numbers = numbers;
      next = omega (arith, same_number, kept.reaches.next, length-append dir.older dir.newer);
    };
    rows = same_rows;
    number = same_number;
  }

  -- its files are there
  pub job_other : (x : Image) → AllZip (IsChunkFile schema x) dir.state.chunks dir.chunks → HasNewFiles chunk file x → AreOther schema x doubted
  job_other x chunks new_files =
      let own_chunks : AllZip (IsChunkFile schema x) known.state.chunks dir.chunks = subst (λ (s : RootState). AllZip (IsChunkFile schema x) s.chunks dir.chunks) (sym kept.state_is) chunks in
      let files = subst (λ (l : List (List DocRow)). AllZip (IsChunkFile schema x) known.state.chunks l) all.says.chunks own_chunks in
      let stay = stay_files schema x job.job known.state.chunks job.kept _ job.kept_rows job.stay files in
      let add = add_files schema x file chunk job.added job.added_rows job.add new_files.chunk_is in
      let both = zip_both (IsChunkFile schema x) job.kept job.added job.kept_rows job.added_rows stay add in
      let log : IsLogOf [] (contents (x (log_file file chunk))) = gives_records (quiet_log (log_file file chunk) 0 None) [] (x (log_file file chunk)) refl new_files.log in
      record {
        chunks = subst (λ (l : List ChunkEntry). AllZip (IsChunkFile schema x) l job.chunks) (sym job.entries) (subst (λ (l : List (List DocRow)). AllZip (IsChunkFile schema x) (job.kept ++ job.added) l) (sym job.chunks_are) both);
        newer = subst (λ (f : ℕ). IsLogOf [] (contents (x f))) (sym job.newer) log;
      }
