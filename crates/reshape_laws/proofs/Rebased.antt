-- A rebased snapshot: its live rows, its chunks on the disk, and what stands in them.
use Rattle.std.proofs.Common.{◌≡◌, ℕ, ◌≤◌, List, [], ◌∷◌, ◌++◌, Bool, true, false, not, map, refl, sym, ap, subst, ◌∙◌, arith, append_assoc, append-nil, Some, ⊎_elim}
use Rattle.std.specs.FinMap as finite
use Rattle.std.specs.List.{filter, Contains}
use Rattle.std.specs.List.Sorted.{IsPermutation}
use Rattle.std.proofs.lemmas.Bool.Decides.{nat_tests}
use Rattle.std.proofs.lemmas.Grind.{flat_map-append}
use Rattle.std.proofs.lemmas.List.{map-append}
use Rattle.std.proofs.lemmas.List.Elements.{filter-append, Contains-append_left, Contains-append_right, Contains-append_cases}
use Rattle.std.proofs.lemmas.List.Sorted.{IsPermutation-sym, IsPermutation-trans, IsPermutation-append_right, IsPermutation-append_left, IsPermutation-filter_both, Contains-permutation}
use Rattle.doc_types.specs.declared.documents.DocRow.{DocRow}
use Rattle.doc_types.specs.Commits.{Entry}
use Rattle.doc_types.specs.Snapshots.{LayerValue, SnapshotValue, all_living, living, live}
use Rattle.step_history.specs.declared.job.Job.{Job}
use Rattle.step_history.specs.declared.job.Job.TheVariants.{Flush, Optimize}
use Rattle.step_history.specs.Places.{disk_layers, ram_layers, disk_chunks, on_disk, LivesOnDisk}
use Rattle.step_history.specs.Since.{OnlyCommits}
use Rattle.layer_joins.specs.Joins.{AreApart}
use Rattle.reshape_laws.specs.Rebasing.{HasMoved, is_old, has_id, lives, moved, taken, staying, new_layers, rebased, less, some_chunk}
use Rattle.reshape_laws.proofs.Ids.{apart_permutation, apart_front, apart_back}
use Rattle.reshape_laws.proofs.RowMaps.{rows_of_permutation, get_of, has_got}
use Rattle.reshape_laws.proofs.Members.{across, chosen, id_there, there_id, passed}
use Rattle.reshape_laws.proofs.Layers.{parts, on, all_less, all_lives, still_none, new_living, on_again, none_on, new_on}

abbrev young : ℕ → DocRow → Bool
young front row = not (is_old front row)

-- the parts of what lives: what stays on the disk, what moves, and what stays in memory
abbrev rest_of : ℕ → SnapshotValue → List DocRow
rest_of front now = filter (young front) (all_living (ram_layers now))

pub three_parts : (job : Job) (front : ℕ) (now : SnapshotValue) → IsPermutation (all_living now.layers) ((all_living (staying job now) ++ moved job front now) ++ rest_of front now)
three_parts Flush front now =
    let D = all_living (disk_layers now) in
    let M = all_living (ram_layers now) in
    let O = filter (is_old front) M in
    let Y = rest_of front now in
    let cut : IsPermutation (D ++ M) (D ++ (O ++ Y)) = IsPermutation-append_right D M (O ++ Y) (IsPermutation-filter_both (is_old front) (young front) (λ x. refl) M) in
    subst (IsPermutation (all_living now.layers)) (sym (append_assoc D O Y)) (IsPermutation-trans (all_living now.layers) (D ++ M) (D ++ (O ++ Y)) (parts now.layers) cut)
three_parts Optimize front now =
    let D = all_living (disk_layers now) in
    let M = all_living (ram_layers now) in
    let O = filter (is_old front) M in
    let Y = rest_of front now in
    let cut : IsPermutation (D ++ M) (D ++ (O ++ Y)) = IsPermutation-append_right D M (O ++ Y) (IsPermutation-filter_both (is_old front) (young front) (λ x. refl) M) in
    subst (IsPermutation (all_living now.layers)) (sym (append_assoc D O Y)) (IsPermutation-trans (all_living now.layers) (D ++ M) (D ++ (O ++ Y)) (parts now.layers) cut)

pub rebased_living : (job : Job) (front : ℕ) (new : List DocRow) (now : SnapshotValue)
    → all_living (rebased job front new now).layers ≡ (all_living (staying job now) ++ filter (λ row. has_id (moved job front now) row.doc.id) new) ++ rest_of front now
rebased_living job front new now =
    flat_map-append living (staying job now ++ new_layers new (moved job front now)) (filter lives (map (less (is_old front)) (ram_layers now)))
    ∙ ap (λ xs. all_living (staying job now ++ new_layers new (moved job front now)) ++ xs) (all_lives (map (less (is_old front)) (ram_layers now)))
    ∙ ap (λ xs. xs ++ all_living (map (less (is_old front)) (ram_layers now))) (flat_map-append living (staying job now) (new_layers new (moved job front now)))
    ∙ ap (λ xs. (all_living (staying job now) ++ xs) ++ all_living (map (less (is_old front)) (ram_layers now))) (new_living new (moved job front now))
    ∙ ap (λ xs. (all_living (staying job now) ++ filter (λ (row : DocRow). has_id (moved job front now) row.doc.id) new) ++ xs) (all_less (is_old front) (ram_layers now))

pub moved_apart : (job : Job) (front : ℕ) (now : SnapshotValue) → AreApart (all_living now.layers) → AreApart (moved job front now)
moved_apart job front now apart =
    let A = all_living (staying job now) in
    let all : AreApart ((A ++ moved job front now) ++ rest_of front now) = apart_permutation (all_living now.layers) ((A ++ moved job front now) ++ rest_of front now) (three_parts job front now) apart in
    apart_back A (moved job front now) (apart_front (A ++ moved job front now) (rest_of front now) all)

-- what lives afterwards is what lived, in another order
pub same_rows : (job : Job) (front : ℕ) (new : List DocRow) (now : SnapshotValue) → AreApart (all_living now.layers) → AreApart new → HasMoved job front new now → IsPermutation (all_living now.layers) (all_living (rebased job front new now).layers)
same_rows job front new now apart new_apart has =
    let A = all_living (staying job now) in
    let V = moved job front now in
    let N = filter (λ (row : DocRow). has_id V row.doc.id) new in
    let R = rest_of front now in
    let pick : IsPermutation V N = chosen new V new_apart (moved_apart job front now apart) has in
    let swap : IsPermutation ((A ++ V) ++ R) ((A ++ N) ++ R) = IsPermutation-append_left R (A ++ V) (A ++ N) (IsPermutation-append_right A V N pick) in
    subst (IsPermutation (all_living now.layers)) (sym (rebased_living job front new now)) (IsPermutation-trans (all_living now.layers) ((A ++ V) ++ R) ((A ++ N) ++ R) (three_parts job front now) swap)

pub live_same : (job : Job) (front : ℕ) (new : List DocRow) (now : SnapshotValue) → AreApart (all_living now.layers) → AreApart new → HasMoved job front new now → live (rebased job front new now) ≡ live now
live_same job front new now apart new_apart has = sym (rows_of_permutation (all_living now.layers) (all_living (rebased job front new now).layers) (same_rows job front new now apart new_apart has) apart)

pub apart_then : (job : Job) (front : ℕ) (new : List DocRow) (now : SnapshotValue) → AreApart (all_living now.layers) → AreApart new → HasMoved job front new now → AreApart (all_living (rebased job front new now).layers)
apart_then job front new now apart new_apart has = apart_permutation (all_living now.layers) (all_living (rebased job front new now).layers) (same_rows job front new now apart new_apart has) apart

staying_on : (job : Job) (now : SnapshotValue) → filter on (staying job now) ≡ staying job now
staying_on Flush now = on_again now.layers
staying_on Optimize now = refl

pub disk_is : (job : Job) (front : ℕ) (new : List DocRow) (now : SnapshotValue) → disk_layers (rebased job front new now) ≡ staying job now ++ new_layers new (moved job front now)
disk_is job front new now =
    let S = staying job now in
    let N = new_layers new (moved job front now) in
    let R = filter lives (map (less (is_old front)) (ram_layers now)) in
    filter-append on (S ++ N) R
    ∙ ap (λ xs. xs ++ filter on R) (filter-append on S N)
    ∙ ap (λ xs. (filter on S ++ filter on N) ++ xs) (still_none on lives (map (less (is_old front)) (ram_layers now)) (none_on (is_old front) now.layers))
    ∙ append-nil (filter on S ++ filter on N)
    ∙ ap (λ xs. xs ++ filter on N) (staying_on job now)
    ∙ ap (λ xs. S ++ xs) (new_on new (moved job front now))

new_chunks : (new live : List DocRow) → map (λ (layer : LayerValue). layer.rows) (new_layers new live) ≡ some_chunk new
new_chunks [] live = refl
new_chunks (row ∷ rows) live = refl

pub chunks : (job : Job) (front : ℕ) (new : List DocRow) (now : SnapshotValue) → disk_chunks (rebased job front new now) ≡ map (λ layer. layer.rows) (staying job now) ++ some_chunk new
chunks job front new now =
    ap (map (λ (layer : LayerValue). layer.rows)) (disk_is job front new now)
    ∙ map-append (λ (layer : LayerValue). layer.rows) (staying job now) (new_layers new (moved job front now))
    ∙ ap (λ xs. map (λ (layer : LayerValue). layer.rows) (staying job now) ++ xs) (new_chunks new (moved job front now))

young_old : (b : Bool) → not b ≡ true → b ≡ true → ⊥
young_old true n e = cc
young_old false n e = cc

pub old_on_disk : (job : Job) (front : ℕ) (new : List DocRow) (now : SnapshotValue) (row : DocRow) → Contains (all_living (rebased job front new now).layers) row → is_old front row ≡ true → LivesOnDisk (rebased job front new now) row
old_on_disk job front new now row has old =
    let S = staying job now in
    let N = new_layers new (moved job front now) in
    let has' : Contains (all_living (S ++ N) ++ all_living (map (less (is_old front)) (ram_layers now))) row = subst (λ xs. Contains xs row) (flat_map-append living (S ++ N) (filter lives (map (less (is_old front)) (ram_layers now))) ∙ ap (λ xs. all_living (S ++ N) ++ xs) (all_lives (map (less (is_old front)) (ram_layers now)))) has in
    ⊎_elim
    (λ h. subst (λ ls. Contains (all_living ls) row) (sym (disk_is job front new now)) h)
    (λ h.
    let h' : Contains (rest_of front now) row = subst (λ xs. Contains xs row) (all_less (is_old front) (ram_layers now)) h in
    absurd (young_old (is_old front row) (passed (young front) (all_living (ram_layers now)) row h').1 old))
    (Contains-append_cases (all_living (S ++ N)) (all_living (map (less (is_old front)) (ram_layers now))) row has')

born_of : (front : ℕ) (row : DocRow) → is_old front row ≡ true → row.born ≤ front
born_of front row e = grind (arith, nat_tests)

-- a live row, by its map and by its list
lived : (from now : SnapshotValue) (entries : List Entry) (row : DocRow) → OnlyCommits from now entries → AreApart (all_living now.layers) → Contains (all_living now.layers) row → is_old from.number row ≡ true → finite.get (live from) row.doc.id ≡ Some row
lived from now entries row only apart has old = only.old row.doc.id row (get_of (all_living now.layers) apart row has) (born_of from.number row old)

in_layers : (s : SnapshotValue) (row : DocRow) → Contains (all_living (disk_layers s) ++ all_living (ram_layers s)) row → Contains (all_living s.layers) row
in_layers s row has = Contains-permutation (all_living (disk_layers s) ++ all_living (ram_layers s)) (all_living s.layers) row (IsPermutation-sym (all_living s.layers) (all_living (disk_layers s) ++ all_living (ram_layers s)) (parts s.layers)) has

-- each row that moves is one that the job took
pub moved_taken : (job : Job) (from now : SnapshotValue) (entries : List Entry) → OnlyCommits from now entries → AreApart (all_living from.layers) → AreApart (all_living now.layers) → HasMoved job from.number (taken job from) now
moved_taken Optimize from now entries only from_apart now_apart row has =
    let D = all_living (disk_layers now) in
    let M = all_living (ram_layers now) in
    ⊎_elim
    (λ h.
    let all : Contains (all_living now.layers) row = in_layers now row (Contains-append_left D M row h) in
    has_got (all_living from.layers) row.doc.id row (only.old_disk row.doc.id row (get_of (all_living now.layers) now_apart row all) (id_there D row h)).0)
    (λ h.
    let p = passed (is_old from.number) M row h in
    let all : Contains (all_living now.layers) row = in_layers now row (Contains-append_right D M row p.0) in
    has_got (all_living from.layers) row.doc.id row (lived from now entries row only now_apart all p.1))
    (Contains-append_cases D (filter (is_old from.number) M) row has)
moved_taken Flush from now entries only from_apart now_apart row has =
    let D = all_living (disk_layers now) in
    let M = all_living (ram_layers now) in
    let p = passed (is_old from.number) M row has in
    let all : Contains (all_living now.layers) row = in_layers now row (Contains-append_right D M row p.0) in
    let got = lived from now entries row only now_apart all p.1 in
    let before : Contains (all_living from.layers) row = has_got (all_living from.layers) row.doc.id row got in
    ⊎_elim
    (λ h.
    let there : on_disk now row.doc.id ≡ true = only.old_ram row.doc.id row (get_of (all_living now.layers) now_apart row all) (born_of from.number row p.1) (id_there (all_living (disk_layers from)) row h) in
    let other = there_id D row.doc.id there in
    let both : AreApart (D ++ M) = apart_permutation (all_living now.layers) (D ++ M) (parts now.layers) now_apart in
    absurd (across D M other.0 row both other.1 p.0 other.2))
    (λ h. h)
    (Contains-append_cases (all_living (disk_layers from)) (all_living (ram_layers from)) row (Contains-permutation (all_living from.layers) (all_living (disk_layers from) ++ all_living (ram_layers from)) row (parts from.layers) before))
