-- The end of a job, from what was built.
use Rattle.std.proofs.Common.{◌≡◌, ℕ, ◌<◌, ◌≤◌, List, [], ◌∷◌, ◌++◌, true, Option, Some, None, map, not, length, refl, sym, ap, subst, ◌∙◌, arith, All, append-nil}
use Rattle.std.specs.List.{filter, AllZip, Contains}
use Rattle.std.specs.List.Sorted.{IsPermutation}
use Rattle.std.proofs.lemmas.List.Concat.{flat_map-append}
use Rattle.std.proofs.lemmas.List.Elements.{All-append, All-cons, All-contains, All-map, All-nil, All-filter, Contains-append_right}
use Rattle.std.proofs.lemmas.List.Sorted.{Contains-permutation, IsPermutation-append_right, IsPermutation-sym, IsPermutation-trans}
use Rattle.doc_types.specs.declared.documents.DocRow.{DocRow}
use Rattle.doc_types.specs.declared.schema.Schema.{Schema}
use Rattle.doc_types.specs.Chunks.{IsContent}
use Rattle.doc_types.specs.Documents.{AreRowsOf, IsDocOf}
use Rattle.doc_types.specs.Snapshots.{AreLayers, IsLayer, LayerValue, SnapshotValue, all_living, live, living}
use Rattle.chunk_store.specs.declared.disk.Disk.{Ghosts as DiskWords}
use Rattle.root_slots.specs.States.{IsState}
use Rattle.root_slots.specs.declared.state.ChunkEntry.{ChunkEntry}
use Rattle.root_slots.specs.declared.state.RootState.{RootState}
use Rattle.step_history.specs.declared.job.Job.{Job}
use Rattle.step_history.specs.declared.job.Job.TheVariants.{Flush, Optimize}
use Rattle.step_history.specs.History.{AreOf, Base, Reshape, ReshapeFollows, Reshapes, Step, IsGood, commits, last_snapshot}
use Rattle.step_history.specs.Places.{disk_chunks, disk_layers, ram_layers}
use Rattle.step_history.specs.Since.{OnlyCommits}
use Rattle.step_history.proofs.Between as between
use Rattle.step_history.proofs.Steps.{front as begins, last_one}
use Rattle.image_parts.specs.Images.{HasZones}
use Rattle.layer_joins.specs.Joins.{AreApart}
use Rattle.reshape_laws.specs.Rebasing.{HasMoved, is_old, layer_with, less, lives, moved as moved_rows, new_layers, rebased, some_chunk, staying, taken}
use Rattle.layer_joins.proofs.Ids.{apart_permutation}
use Rattle.reshape_laws.proofs.Jobs.{follows, shapes, taken_apart}
use Rattle.reshape_laws.proofs.Layers.{parts}
use Rattle.reshape_laws.proofs.Rebased.{chunks, moved_taken}
use Rattle.reshape_laws.proofs.RowMaps.{get_of}
use Rattle.layer_joins.proofs.RowMaps.{rows_of_permutation}
use Rattle.store_steps.specs.declared.files.Files.{Files}
use Rattle.store_steps.specs.Directory.{IsChunkOf, layers_from}
use Rattle.store_steps.specs.Grown.{AreBorn, through_at}
use Rattle.job_files.specs.Jobs.{Adds, IsJob, Stay}
use Rattle.store_steps.specs.Kept.{HasAll, IsKept}
use Rattle.job_states.proofs.Growing.{born_low, through_low, through_since}
use Rattle.job_files.proofs.Jobs.{zip_both}
use Rattle.store_steps.proofs.Keeping.{has_all}
use Rattle.job_chunks.specs.Chunks.{IsImaged}
use Rattle.job_states.specs.States.{IsRebased, job_state, kept_entries, new_entries}
use Rattle.job_states.proofs.Chunks.{all_on, chunks_of, docs_of, each_row, layers_again, layers_both, rows_in, same_files, whole_living}

abbrev kept_rows : Job → SnapshotValue → List (List DocRow)
kept_rows job now = map rows_in (staying job now)

-- ---- by cases on the job

stays : (schema : Schema) (through : ℕ) (job : Job) (entries : List ChunkEntry) (from now : SnapshotValue) → disk_chunks now ≡ disk_chunks from → AllZip (IsChunkOf schema through) entries (disk_chunks from) → Stay job entries (disk_chunks now) (kept_entries job entries from) (kept_rows job now)
stays schema through Flush entries from now same are = (same_files through schema entries (disk_layers from) are, refl)
stays schema through Optimize entries from now same are = (refl, refl)

kept_of : (schema : Schema) (through : ℕ) (job : Job) (entries : List ChunkEntry) (from now : SnapshotValue) → disk_chunks now ≡ disk_chunks from → through ≤ from.number → All IsLayer from.layers → AllZip (IsChunkOf schema through) entries (disk_chunks from)
    → AllZip (IsChunkOf schema from.number) (kept_entries job entries from) (kept_rows job now)
kept_of schema through Flush entries from now same le is are =
    subst (λ (rows : List (List DocRow)). AllZip (IsChunkOf schema from.number) (kept_entries Flush entries from) rows) (sym same)
    (chunks_of through from.number schema entries (disk_layers from) le are (All-filter (λ (layer : LayerValue). layer.disk) IsLayer from.layers is))
kept_of schema through Optimize entries from now same le is are = tt

kept_living : (schema : Schema) (through : ℕ) (job : Job) (entries : List ChunkEntry) (from now : SnapshotValue) → disk_chunks now ≡ disk_chunks from → AllZip (IsChunkOf schema through) entries (disk_chunks from)
    → all_living (layers_from (kept_entries job entries from) (kept_rows job now)) ≡ all_living (staying job from)
kept_living schema through Flush entries from now same are =
    ap (λ (rows : List (List DocRow)). all_living (layers_from (kept_entries Flush entries from) rows)) same
    ∙ ap all_living (layers_again through schema entries (disk_layers from) are (all_on from.layers))
kept_living schema through Optimize entries from now same are = refl

-- what stays and what was taken is all that lived
all_parts : (job : Job) (from : SnapshotValue) (new : List DocRow) → IsPermutation (taken job from) new → IsPermutation (all_living from.layers) (all_living (staying job from) ++ new)
all_parts Flush from new p =
    IsPermutation-trans (all_living from.layers) (all_living (disk_layers from) ++ all_living (ram_layers from)) (all_living (disk_layers from) ++ new) (parts from.layers) (IsPermutation-append_right (all_living (disk_layers from)) (all_living (ram_layers from)) new p)
all_parts Optimize from new p = p

-- ---- the new chunk

adds : (schema : Schema) (file : ℕ) (chunk : Option (List ℕ)) (new : List DocRow) → IsImaged schema new chunk → Adds schema file chunk (new_entries file chunk) (some_chunk new)
adds schema file None new none = (refl, ap some_chunk none)
adds schema file (Some bytes) [] imaged = absurd (omega (arith, imaged.0))
adds schema file (Some bytes) (row ∷ rows) imaged = (row ∷ rows, refl, refl, imaged.1)

new_of : (schema : Schema) (number file : ℕ) (chunk : Option (List ℕ)) (new : List DocRow) → IsImaged schema new chunk → IsContent new → All HasZones new → All (λ row. IsDocOf schema row.doc) new → All (λ row. row.born ≤ number) new → AllZip (IsChunkOf schema number) (new_entries file chunk) (some_chunk new)
new_of schema number file None new none content zones docs born = subst (λ (rows : List DocRow). AllZip (IsChunkOf schema number) [] (some_chunk rows)) (sym none) tt
new_of schema number file (Some bytes) [] imaged content zones docs born = absurd (omega (arith, imaged.0))
new_of schema number file (Some bytes) (row ∷ rows) imaged content zones docs born =
    (record { of = record { ids = content.of.ids; docs = docs }; small = content.small; zones = zones; dead = All-nil (λ (k : ℕ). k < length (row ∷ rows)); born = born }, tt)

new_living : (schema : Schema) (file : ℕ) (chunk : Option (List ℕ)) (new : List DocRow) → IsImaged schema new chunk → all_living (layers_from (new_entries file chunk) (some_chunk new)) ≡ new
new_living schema file None new none = sym none
new_living schema file (Some bytes) [] imaged = absurd (omega (arith, imaged.0))
new_living schema file (Some bytes) (row ∷ rows) imaged = append-nil (living (record { rows = row ∷ rows; disk = true; dead = [] })) ∙ whole_living (row ∷ rows)

-- a row that was taken lived
was_there : (job : Job) (from : SnapshotValue) (new : List DocRow) (row : DocRow) → IsPermutation (taken job from) new → Contains new row → Contains (all_living from.layers) row
was_there job from new row p has =
    Contains-permutation (all_living (staying job from) ++ new) (all_living from.layers) row (IsPermutation-sym (all_living from.layers) (all_living (staying job from) ++ new) (all_parts job from new p))
    (Contains-append_right (all_living (staying job from)) new row has)

staying_of : (schema : Schema) (job : Job) (now : SnapshotValue) → AreOf schema now → All (λ (layer : LayerValue). AreRowsOf schema layer.rows) (staying job now)
staying_of schema Flush now of = All-filter (λ (layer : LayerValue). layer.disk) (λ (layer : LayerValue). AreRowsOf schema layer.rows) now.layers of
staying_of schema Optimize now of = All-nil (λ (layer : LayerValue). AreRowsOf schema layer.rows)

new_layer_of : (schema : Schema) (rows moved : List DocRow) → AreRowsOf schema rows → All (λ (layer : LayerValue). AreRowsOf schema layer.rows) (new_layers rows moved)
new_layer_of schema [] moved of = All-nil (λ (layer : LayerValue). AreRowsOf schema layer.rows)
new_layer_of schema (row ∷ rows) moved of = All-cons (λ (layer : LayerValue). AreRowsOf schema layer.rows) (layer_with (row ∷ rows) moved) [] of (All-nil (λ (layer : LayerValue). AreRowsOf schema layer.rows))

-- the rows of the last snapshot are of the schema
last_cut : (step : Step) (steps : List Step) → (front : List Step) × (last : Step) × (step ∷ steps ≡ front ++ last ∷ [])
last_cut step [] = ([], step, refl)
last_cut step (s ∷ steps) = let cut = last_cut s steps in (step ∷ cut.0, cut.1, ap (λ (xs : List Step). step ∷ xs) cut.2)

of_last : (schema : Schema) (base : Base) (steps : List Step) → IsGood schema base steps → AreOf schema (last_snapshot base steps)
of_last schema base [] good = good.base_of
of_last schema base (step ∷ steps) good =
    let cut = last_cut step steps in
    let of = (good.each cut.0 cut.1 [] cut.2).1 in
    subst (λ (s : SnapshotValue). AreOf schema s) (sym (ap (last_snapshot base) cut.2 ∙ last_one base cut.0 cut.1)) of

module _ {D : Type 0} (words : DiskWords D) (schema : Schema) (base : Base) (steps : List Step) (disk : D) (known : Files) (kept : IsKept words schema base steps None disk known) (none : known.log.staged ≡ None) (good : IsGood schema base steps)
    (earlier since : List Step) (both : steps ≡ earlier ++ since) (same : (last_snapshot base steps).shape ≡ (last_snapshot base earlier).shape)
    (is_layers : All IsLayer (last_snapshot base earlier).layers) (from_apart : AreApart (all_living (last_snapshot base earlier).layers)) (now_apart : AreApart (all_living (last_snapshot base steps).layers))
    (job : Job) (new : List DocRow) (moved : IsPermutation (taken job (last_snapshot base earlier)) new) (content : IsContent new) (zones : All HasZones new) (file : ℕ) (chunk : Option (List ℕ)) (imaged : IsImaged schema new chunk) where
  abbrev from : SnapshotValue
  from = last_snapshot base earlier

  abbrev now : SnapshotValue
  now = last_snapshot base steps

  abbrev state : RootState
  state = job_state known.state job from file chunk

  abbrev next : SnapshotValue
  next = rebased job from.number new now

  all : HasAll base kept.start steps known.log kept.dir
  all = has_all words schema base steps disk known kept none

  good_both : IsGood schema base (earlier ++ since)
  good_both = subst (IsGood schema base) both good

  good_from : IsGood schema base earlier
  good_from = begins schema base earlier since good_both

  last_both : last_snapshot base (earlier ++ since) ≡ now
  last_both = ap (last_snapshot base) (sym both)

  same_both : (last_snapshot base (earlier ++ since)).shape ≡ from.shape
  same_both = ap (λ (s : SnapshotValue). s.shape) last_both ∙ same

  only : OnlyCommits from now (commits since)
  only = subst (λ (s : SnapshotValue). OnlyCommits from s (commits since)) last_both (between.since schema base earlier since good_both same_both)

  step_follows : ReshapeFollows base steps job from.number next
  step_follows =
      let apart : AreApart (all_living (last_snapshot base (earlier ++ since)).layers) = subst (λ (s : SnapshotValue). AreApart (all_living s.layers)) (sym last_both) now_apart in
      let f = follows schema base earlier since job new good_both same_both from_apart apart moved in
      subst (λ (xs : List Step). ReshapeFollows base xs job from.number (rebased job from.number new (last_snapshot base xs))) (sym both) f

  reshapes_from : Reshapes job from now next
  reshapes_from =
      let was : HasMoved job from.number (taken job from) now = moved_taken job from now (commits since) only from_apart now_apart in
      let has : HasMoved job from.number new now = λ row h. Contains-permutation (taken job from) new row moved (was row h) in
      shapes job from now new now_apart (apart_permutation (taken job from) new moved (taken_apart job from from_apart)) has moved

  -- what the chunks have is no later
  through_le : kept.dir.state.through ≤ from.number
  through_le =
      let is : kept.dir.state.through ≡ through_at kept.start.through earlier = all.through_is ∙ ap (through_at kept.start.through) both ∙ through_since schema base kept.start.through earlier since good_both same_both in
      let low = through_low schema base kept.start.through earlier good_from kept.start_low in
      omega (arith, is, low)

  own_chunks : AllZip (IsChunkOf schema kept.dir.state.through) known.state.chunks (disk_chunks from)
  own_chunks =
      subst (λ (rows : List (List DocRow)). AllZip (IsChunkOf schema kept.dir.state.through) known.state.chunks rows) (all.says.chunks ∙ only.chunks)
      (subst (λ (s : RootState). AllZip (IsChunkOf schema kept.dir.state.through) s.chunks kept.dir.chunks) (sym kept.state_is) kept.in_order.chunks)

  born : AreBorn (live from) from.number
  born = born_low schema base earlier good_from kept.born

  new_born : All (λ (row : DocRow). row.born ≤ from.number) new
  new_born = each_row (λ (row : DocRow). row.born ≤ from.number) new (λ row has. born row.doc.id row (get_of (all_living from.layers) from_apart row (was_there job from new row moved has)))

  of_from : AreOf schema from
  of_from = of_last schema base earlier good_from

  new_docs : All (λ (row : DocRow). IsDocOf schema row.doc) new
  new_docs =
      let docs = docs_of schema from.layers of_from in
      let every : (row : DocRow) → Contains (all_living from.layers) row → IsDocOf schema row.doc = λ row has. All-contains (λ (row : DocRow). IsDocOf schema row.doc) (all_living from.layers) row docs has in
      each_row (λ (row : DocRow). IsDocOf schema row.doc) new (λ row has. every row (was_there job from new row moved has))

  -- the rows of all layers are of the schema
  of_now : AreOf schema now
  of_now = of_last schema base steps good

  pub of_next : AreOf schema next
  of_next =
      let passes : LayerValue → Type 0 = λ layer. AreRowsOf schema layer.rows in
      All-append passes (staying job now ++ new_layers new (moved_rows job from.number now)) (filter lives (map (less (is_old from.number)) (ram_layers now)))
      (All-append passes (staying job now) (new_layers new (moved_rows job from.number now)) (staying_of schema job now of_now) (new_layer_of schema new (moved_rows job from.number now) (record { ids = content.of.ids; docs = new_docs })))
      (All-filter lives passes (map (less (is_old from.number)) (ram_layers now)) (All-map passes (less (is_old from.number)) (ram_layers now) (All-filter (λ (layer : LayerValue). not layer.disk) passes now.layers of_now)))

  pub follows_next : ReshapeFollows base steps job from.number next
  follows_next = step_follows

  kept_part : AllZip (IsChunkOf schema from.number) (kept_entries job known.state.chunks from) (kept_rows job now)
  kept_part = kept_of schema kept.dir.state.through job known.state.chunks from now only.chunks through_le is_layers own_chunks

  new_part : AllZip (IsChunkOf schema from.number) (new_entries file chunk) (some_chunk new)
  new_part = new_of schema from.number file chunk new imaged content zones new_docs new_born

  state_living : all_living (layers_from state.chunks (kept_rows job now ++ some_chunk new)) ≡ all_living (staying job from) ++ new
  state_living =
      ap all_living (layers_both from.number schema (kept_entries job known.state.chunks from) (new_entries file chunk) (kept_rows job now) (some_chunk new) kept_part)
      ∙ flat_map-append living (layers_from (kept_entries job known.state.chunks from) (kept_rows job now)) (layers_from (new_entries file chunk) (some_chunk new))
      ∙ ap (λ (rows : List DocRow). rows ++ all_living (layers_from (new_entries file chunk) (some_chunk new))) (kept_living schema kept.dir.state.through job known.state.chunks from now only.chunks own_chunks)
      ∙ ap (λ (rows : List DocRow). all_living (staying job from) ++ rows) (new_living schema file chunk new imaged)

  every_part : IsPermutation (all_living from.layers) (all_living (layers_from state.chunks (kept_rows job now ++ some_chunk new)))
  every_part = subst (IsPermutation (all_living from.layers)) (sym state_living) (all_parts job from new moved)

  -- The end of the job is one that may be written.
  pub is_job : IsState state → IsJob schema base steps known.state file chunk state (Reshape job from.number next)
  is_job is_state = record {
    job = job;
    next = next;
    is = refl;
    follows = record { number = step_follows.number; rows = step_follows.rows; shape = step_follows.shape; earlier = earlier; since = since; both = both; from_number = refl; from_shape = sym same; reshapes = reshapes_from };
    state = is_state;
    text = ap (λ (s : RootState). s.schema_text) kept.state_is ∙ kept.in_order.text;
    older = refl;
    newer = refl;
    next_file = refl;
    chunks = kept_rows job now ++ some_chunk new;
    kept = kept_entries job known.state.chunks from;
    kept_rows = kept_rows job now;
    added = new_entries file chunk;
    added_rows = some_chunk new;
    entries = refl;
    chunks_are = refl;
    stay = stays schema kept.dir.state.through job known.state.chunks from now only.chunks own_chunks;
    add = adds schema file chunk new imaged;
    of = zip_both (IsChunkOf schema from.number) (kept_entries job known.state.chunks from) (new_entries file chunk) (kept_rows job now) (some_chunk new) kept_part new_part;
    once = apart_permutation (all_living from.layers) (all_living (layers_from state.chunks (kept_rows job now ++ some_chunk new))) every_part from_apart;
    rows = sym (rows_of_permutation (all_living from.layers) (all_living (layers_from state.chunks (kept_rows job now ++ some_chunk new))) every_part from_apart);
    disk = sym (chunks job from.number new now);
  }

-- the same, whatever snapshots these are
module _ {D : Type 0} (words : DiskWords D) (schema : Schema) (base : Base) (steps : List Step) (disk : D) (known : Files) (kept : IsKept words schema base steps None disk known) (none : known.log.staged ≡ None) (good : IsGood schema base steps)
    (job : Job) (file : ℕ) (chunk : Option (List ℕ)) (earlier since : List Step) (both : steps ≡ earlier ++ since) where
  abbrev Ends : SnapshotValue → SnapshotValue → SnapshotValue → Type 0
  Ends from now next = now.shape ≡ from.shape → AreLayers from.layers → AreLayers now.layers → IsRebased schema job from now chunk next → IsState (job_state known.state job from file chunk) → IsJob schema base steps known.state file chunk (job_state known.state job from file chunk) (Reshape job from.number next)

  here : (next : SnapshotValue) → Ends (last_snapshot base earlier) (last_snapshot base steps) next
  here next same from_is now_is built is_state =
      subst (λ (s : SnapshotValue). IsJob schema base steps known.state file chunk (job_state known.state job (last_snapshot base earlier) file chunk) (Reshape job (last_snapshot base earlier).number s)) (sym built.is)
      (is_job words schema base steps disk known kept none good earlier since both same from_is.each from_is.distinct now_is.distinct job built.rows built.moved built.content built.zones file chunk built.imaged is_state)

  pub ends : (from now next : SnapshotValue) → last_snapshot base earlier ≡ from → now ≡ last_snapshot base steps → Ends from now next
  ends from now next seen is = subst (λ (f : SnapshotValue). Ends f now next) seen (subst (λ (n : SnapshotValue). Ends (last_snapshot base earlier) n next) (sym is) (here next))

  abbrev Goes : SnapshotValue → SnapshotValue → SnapshotValue → Type 0
  Goes from now next = now.shape ≡ from.shape → AreLayers from.layers → AreLayers now.layers → IsRebased schema job from now chunk next → ReshapeFollows base steps job from.number next × AreOf schema next

  goes_here : (next : SnapshotValue) → Goes (last_snapshot base earlier) (last_snapshot base steps) next
  goes_here after same from_is now_is built =
      subst (λ (s : SnapshotValue). ReshapeFollows base steps job (last_snapshot base earlier).number s × AreOf schema s) (sym built.is) (
        follows_next words schema base steps disk known kept none good earlier since both same from_is.each from_is.distinct now_is.distinct job built.rows built.moved built.content built.zones file chunk built.imaged,
        of_next words schema base steps disk known kept none good earlier since both same from_is.each from_is.distinct now_is.distinct job built.rows built.moved built.content built.zones file chunk built.imaged,
      )

  -- the step may follow
  pub goes : (from now next : SnapshotValue) → last_snapshot base earlier ≡ from → now ≡ last_snapshot base steps → Goes from now next
  goes from now after seen is = subst (λ (f : SnapshotValue). Goes f now after) seen (subst (λ (n : SnapshotValue). Goes (last_snapshot base earlier) n after) (sym is) (goes_here after))

  abbrev Moves : SnapshotValue → SnapshotValue → Type 0
  Moves from now = now.shape ≡ from.shape → AreLayers from.layers → AreLayers now.layers → (rows : List DocRow) → IsPermutation (taken job from) rows → HasMoved job from.number rows now

  moves_here : Moves (last_snapshot base earlier) (last_snapshot base steps)
  moves_here same from_is now_is rows p row has =
      let last : last_snapshot base (earlier ++ since) ≡ last_snapshot base steps = ap (last_snapshot base) (sym both) in
      let only : OnlyCommits (last_snapshot base earlier) (last_snapshot base steps) (commits since) =
      subst (λ (s : SnapshotValue). OnlyCommits (last_snapshot base earlier) s (commits since)) last (between.since schema base earlier since (subst (IsGood schema base) both good) (ap (λ (s : SnapshotValue). s.shape) last ∙ same)) in
      Contains-permutation (taken job (last_snapshot base earlier)) rows row p (moved_taken job (last_snapshot base earlier) (last_snapshot base steps) (commits since) only from_is.distinct now_is.distinct row has)

  -- each row that moves was taken
  pub moves : (from now : SnapshotValue) → last_snapshot base earlier ≡ from → now ≡ last_snapshot base steps → Moves from now
  moves from now seen is = subst (λ (f : SnapshotValue). Moves f now) seen (subst (λ (n : SnapshotValue). Moves (last_snapshot base earlier) n) (sym is) moves_here)
