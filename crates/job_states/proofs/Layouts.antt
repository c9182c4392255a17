-- The state keeps the layout.
use Rattle.std.proofs.Common.{◌≡◌, ◌≢◌, inr, ℕ, suc, ◌+◌, ◌<◌, ◌≤◌, ◌^◌, List, [], ◌∷◌, ◌++◌, Bool, true, false, ◌==◌, ◌||◌, Option, Some, None, length, refl, sym, ◌∙◌, arith, All, AllPairs}
use Rattle.std.specs.Prelude.{IfSome}
use Rattle.std.specs.List.{list_any}
use Rattle.std.proofs.lemmas.Bool.Decides.{nat_tests}
use Rattle.std.proofs.lemmas.List.Elements.{All-filter, All-head, All-tail}
use Rattle.std.proofs.lemmas.List.Folds.{list_any-append}
use Rattle.doc_types.specs.Snapshots.{IsLayer, LayerValue, SnapshotValue}
use Rattle.doc_types.proofs.Living.{all_rows}
use Rattle.reshape_laws.specs.Rebasing.{staying}
use Rattle.root_slots.specs.States.{AreEntries, AreRows, IsEntry, IsState, most_chunks, naming}
use Rattle.root_slots.specs.declared.state.ChunkEntry.{ChunkEntry}
use Rattle.root_slots.specs.declared.state.RootState.{RootState}
use Rattle.step_history.specs.declared.job.Job.{Job}
use Rattle.step_history.specs.declared.job.Job.TheVariants.{Flush, Optimize}
use Rattle.step_history.specs.Places.{disk_layers}
use Rattle.job_chunks.specs.Chunks.{HasFewRows}
use Rattle.job_files.specs.Jobs.{log_file}
use Rattle.job_files.proofs.Writing.{log_low}
use Rattle.job_states.proofs.Lengths.{few_dead_rows, few_entries, state_short}
use Rattle.job_states.specs.States.{job_state, kept_entries, new_entries, with_dead}

abbrev no_file : List ℕ → ℕ → Type 0
no_file named file = list_any (λ other. other == file) named ≡ false

differ : (a b : ℕ) → a ≢ b → (a == b) ≡ false
differ a b h = grind (arith, nat_tests)

or_both : (a b : Bool) → a ≡ false → b ≡ false → (a || b) ≡ false
or_both false b one two = two
or_both true b one two = absurd (cc (one))

-- ---- dead rows

rows_up : (low : ℕ) (dead : List ℕ) → All (λ row. low ≤ row) dead → AllPairs (λ row later. row < later) dead → All (λ row. row < 2 ^ 32) dead → AreRows low dead
rows_up low [] above up few = tt
rows_up low (row ∷ dead) above up few = (
  record { later = All-head (λ r. low ≤ r) row dead above; fits = All-head (λ r. r < 2 ^ 32) row dead few },
  rows_up (row + 1) dead (λ k d h. (let lt : row < _ = up 0 (suc k) d (omega arith) (omega (arith, h)) in omega (arith, lt))) (λ i j d l h. up (suc i) (suc j) d (omega (arith, l)) (omega (arith, h))) (All-tail (λ r. r < 2 ^ 32) row dead few),
)

layer_rows : (layer : LayerValue) → IsLayer layer → AreRows 0 layer.dead
layer_rows layer is = rows_up 0 layer.dead (λ k d h. omega arith) is.ascend (λ k d h. (let lt = is.rows k d h in omega (arith, lt, is.content.small.few_rows)))

few_dead : (layer : LayerValue) → IsLayer layer → length layer.dead < 2 ^ 32
few_dead layer is = omega (arith, all_rows layer is, is.content.small.few_rows)

-- ---- entries

entry_may : (next_file more : ℕ) (named other : List ℕ) (c : ChunkEntry) (layer : LayerValue) → next_file ≤ more → IsEntry next_file named c → no_file other c.file → IsLayer layer → IsEntry more other (record { file = c.file; length = c.length; dead = layer.dead })
entry_may next_file more named other c layer le is apart layer_is = record {
  file = record { no_slot = is.file.no_slot; made = omega (arith, is.file.made, le); apart = apart };
  size = is.size;
  few = few_dead layer layer_is;
  dead = layer_rows layer layer_is;
}

-- those that stay, and then others, whatever is named by then but this file
entries_then : (next_file more file : ℕ) (added : List ChunkEntry) → next_file ≤ more → next_file ≤ file → ((named : List ℕ) → no_file named file → AreEntries more named added)
    → (named other : List ℕ) → ((f : ℕ) → f < next_file → no_file named f → no_file other f) → no_file other file → (entries : List ChunkEntry) (layers : List LayerValue) → AreEntries next_file named entries → All IsLayer layers → AreEntries more other (with_dead entries layers ++ added)
entries_then next_file more file added le low last named other step free [] layers are is = last other free
entries_then next_file more file added le low last named other step free (c ∷ entries) [] are is = last other free
entries_then next_file more file added le low last named other step free (c ∷ entries) (layer ∷ layers) are is =
    let entry = are.0 in
    let apart : no_file other c.file = step c.file entry.file.made entry.file.apart in
    let one : ChunkEntry = record { file = c.file; length = c.length; dead = layer.dead } in
    let made : c.file < next_file = entry.file.made in
    let free' : no_file (naming other one) file =
    list_any-append (λ n. n == file) other (c.file ∷ []) ∙ or_both (list_any (λ n. n == file) other) (list_any (λ n. n == file) (c.file ∷ [])) free (or_both (c.file == file) false (differ c.file file (λ (e : c.file ≡ file). absurd (omega (arith, e, made, low)))) refl) in
    let step' : (f : ℕ) → f < next_file → no_file (naming named c) f → no_file (naming other one) f =
    λ f lt none.
    let split : (list_any (λ n. n == f) named || list_any (λ n. n == f) (c.file ∷ [])) ≡ false = sym (list_any-append (λ n. n == f) named (c.file ∷ [])) ∙ none in
    list_any-append (λ n. n == f) other (c.file ∷ []) ∙ or_both (list_any (λ n. n == f) other) (list_any (λ n. n == f) (c.file ∷ [])) (step f lt (or_left (list_any (λ n. n == f) named) (list_any (λ n. n == f) (c.file ∷ [])) split)) (or_right (list_any (λ n. n == f) named) (list_any (λ n. n == f) (c.file ∷ [])) split) in (
      entry_may next_file more named other c layer le entry apart (All-head IsLayer layer layers is),
      entries_then next_file more file added le low last (naming named c) (naming other one) step' free' entries layers are.1 (All-tail IsLayer layer layers is),
    )
  where
    or_left : (a b : Bool) → (a || b) ≡ false → a ≡ false
    or_left false b e = refl
    or_left true b e = absurd (cc (e))

    or_right : (a b : Bool) → (a || b) ≡ false → b ≡ false
    or_right false b e = e
    or_right true b e = absurd (cc (e))

-- a file that isn't named once the new log is: that of the chunk, where there is one
abbrev spare : ℕ → Option (List ℕ) → ℕ
spare file None = file + 1
spare file (Some bytes) = file

spare_low : (next_file file : ℕ) (chunk : Option (List ℕ)) → next_file ≤ file → next_file ≤ spare file chunk
spare_low next_file file None low = let up : next_file ≤ file + 1 = omega (arith, low) in up
spare_low next_file file (Some bytes) low = low

spare_apart : (file : ℕ) (chunk : Option (List ℕ)) → log_file file chunk ≢ spare file chunk
spare_apart file None same = let is : file ≡ file + 1 = same in absurd (omega (arith, is))
spare_apart file (Some bytes) same = let is : file + 1 ≡ file = same in absurd (omega (arith, is))

pub log_high : (file : ℕ) (chunk : Option (List ℕ)) → log_file file chunk ≤ file + 1
log_high file None = omega arith
log_high file (Some bytes) = omega arith

added_may : (file : ℕ) (chunk : Option (List ℕ)) → 2 ≤ file → IfSome chunk (λ bytes. length bytes < 2 ^ 32) → (named : List ℕ) → no_file named (spare file chunk) → AreEntries (log_file file chunk + 1) named (new_entries file chunk)
added_may file None two small named free = tt
added_may file (Some bytes) two small named free = (record { file = record { no_slot = two; made = omega arith; apart = free }; size = small; few = omega arith; dead = tt }, tt)

module _ (own : RootState) (job : Job) (from : SnapshotValue) (file : ℕ) (chunk : Option (List ℕ)) (is : IsState own) (low : own.next_file ≤ file) (layers : All IsLayer from.layers) (small : IfSome chunk (λ bytes. length bytes < 2 ^ 32)) where
  made : own.newer < own.next_file
  made = is.newer.made

  two : 2 ≤ own.newer
  two = is.newer.no_slot

  abbrev log : ℕ
  log = log_file file chunk

  log_up : own.next_file ≤ log
  log_up = omega (arith, low, log_low file chunk)

  named_low : own.newer ≢ log
  named_low same = absurd (omega (arith, same, made, log_up))

  free : no_file (own.newer ∷ log ∷ []) (spare file chunk)
  free =
      let up = spare_low own.next_file file chunk low in
      or_both (own.newer == spare file chunk) (list_any (λ n. n == spare file chunk) (log ∷ [])) (differ own.newer (spare file chunk) (λ (e : own.newer ≡ spare file chunk). absurd (omega (arith, e, made, up))))
      (or_both (log == spare file chunk) false (differ log (spare file chunk) (spare_apart file chunk)) refl)

  -- a file that was made isn't the new log, nor the one so far
  step : (f : ℕ) → f < own.next_file → no_file (own.older ∷ own.newer ∷ []) f → no_file (own.newer ∷ log ∷ []) f
  step f lt none =
      let newer : (own.newer == f) ≡ false = second (own.older == f) (own.newer == f) none in
      or_both (own.newer == f) (list_any (λ n. n == f) (log ∷ [])) newer (or_both (log == f) false (differ log f (λ (e : log ≡ f). absurd (omega (arith, e, lt, log_up)))) refl)
    where
      second : (a b : Bool) → (a || (b || false)) ≡ false → b ≡ false
      second a false e = refl
      second false true e = absurd (cc (e))
      second true true e = absurd (cc (e))

  entries : (job : Job) → AreEntries (log + 1) (own.newer ∷ log ∷ []) (kept_entries job own.chunks from ++ new_entries file chunk)
  entries Flush =
      entries_then own.next_file (log + 1) (spare file chunk) (new_entries file chunk) (omega (arith, log_up)) (spare_low own.next_file file chunk low) (added_may file chunk (omega (arith, two, made, low)) small) (own.older ∷ own.newer ∷ []) (own.newer ∷ log ∷ []) step free own.chunks (disk_layers from) is.chunks
      (All-filter (λ (layer : LayerValue). layer.disk) IsLayer from.layers layers)
  entries Optimize = added_may file chunk (omega (arith, two, made, low)) small (own.newer ∷ log ∷ []) free

  pub state_is : file + 2 < 2 ^ 32 → from.number < 2 ^ 63 → length (staying job from) + length (new_entries file chunk) ≤ most_chunks → All (λ layer. HasFewRows layer.rows) from.layers → IsState (job_state own job from file chunk)
  state_is room number few short = record {
    text = is.text;
    through = number;
    next_file = omega (arith, room, log_high file chunk);
    older = inr (record { no_slot = two; made = omega (arith, made, log_up); apart = refl });
    newer = record { no_slot = omega (arith, two, made, log_up); made = omega arith; apart = or_both (own.newer == log) false (differ own.newer log named_low) refl };
    few = few_entries job own.chunks from file chunk few;
    chunks = entries job;
    fits = state_short (job_state own job from file chunk) is.text (few_entries job own.chunks from file chunk few) (few_dead_rows job own.chunks from file chunk layers short);
  }
