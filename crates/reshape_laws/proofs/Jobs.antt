-- A job's step.
use Rattle.std.proofs.Common.{◌≡◌, ℕ, ◌<◌, ◌≤◌, List, [], ◌∷◌, ◌++◌, true, length, zero, suc, refl, sym, ap, subst, ◌∙◌, arith, All, get_or}
use Rattle.std.specs.List.{Contains}
use Rattle.std.specs.List.Sorted.{IsPermutation}
use Rattle.std.proofs.lemmas.Bool.Decides.{nat_tests}
use Rattle.std.proofs.lemmas.List.Sorted.{IsPermutation-sym, Contains-permutation}
use Rattle.doc_types.specs.declared.documents.DocRow.{DocRow}
use Rattle.doc_types.specs.declared.schema.Schema.{Schema}
use Rattle.doc_types.specs.Snapshots.{SnapshotValue, all_living}
use Rattle.step_history.specs.declared.job.Job.{Job}
use Rattle.step_history.specs.declared.job.Job.TheVariants.{Flush, Optimize}
use Rattle.step_history.specs.Places.{disk_layers, ram_layers}
use Rattle.step_history.specs.History.{Base, Step, last_snapshot, commits, chunks_for, Reshapes, ReshapeFollows, IsGood}
use Rattle.layer_joins.specs.Joins.{AreApart}
use Rattle.reshape_laws.specs.Rebasing.{HasMoved, is_old, taken, rebased, some_chunk}
use Rattle.reshape_laws.proofs.Ids.{apart_permutation, apart_back}
use Rattle.reshape_laws.proofs.RowMaps.{has_got}
use Rattle.reshape_laws.proofs.Members.{here, nothing}
use Rattle.reshape_laws.proofs.Layers.{parts}
use Rattle.step_history.proofs.Between.{since}
use Rattle.reshape_laws.proofs.Rebased.{chunks, live_same, moved_taken, old_on_disk}

one_chunk : (new : List DocRow) → length (some_chunk new) ≡ chunks_for new
one_chunk [] = refl
one_chunk (row ∷ rows) = refl

-- in another order there is a row, or none
same_count : (from new : List DocRow) → IsPermutation from new → chunks_for new ≡ chunks_for from
same_count [] [] p = refl
same_count [] (row ∷ rows) p = absurd (nothing row (Contains-permutation (row ∷ rows) [] row (IsPermutation-sym [] (row ∷ rows) p) (here row rows)))
same_count (row ∷ rows) [] p = absurd (nothing row (Contains-permutation (row ∷ rows) [] row p (here row rows)))
same_count (row ∷ rows) (r ∷ rs) p = refl

in_all : (new : List DocRow) (row : DocRow) → Contains new row → All (λ rows. Contains rows row) (some_chunk new)
in_all [] row has = λ k d h. absurd (omega (arith, h))
in_all (r ∷ rows) row has = λ k d h. elim k as (λ k. k < 1 → Contains (get_or ((r ∷ rows) ∷ []) k d) row) [ zero ↦ λ h. has | suc k ↦ λ h. absurd (omega (arith, h)) ] h

is_old_of : (front : ℕ) (row : DocRow) → row.born ≤ front → is_old front row ≡ true
is_old_of front row h = grind (arith, nat_tests)

pub shapes : (job : Job) (from now : SnapshotValue) (new : List DocRow) → AreApart (all_living now.layers) → AreApart new → HasMoved job from.number new now → IsPermutation (taken job from) new → Reshapes job from now (rebased job from.number new now)
shapes Flush from now new apart new_apart has p = record {
  more = some_chunk new;
  chunks = chunks Flush from.number new now;
  one = one_chunk new ∙ same_count (all_living (ram_layers from)) new p;
  rows = λ id row e born.
      let after = rebased Flush from.number new now in
      old_on_disk Flush from.number new now row (has_got (all_living after.layers) id row e) (is_old_of from.number row born);
}
shapes Optimize from now new apart new_apart has p = record {
  one = ap length (chunks Optimize from.number new now) ∙ one_chunk new ∙ same_count (all_living from.layers) new p;
  rows = λ id row e. subst (All (λ rows. Contains rows row)) (sym (chunks Optimize from.number new now)) (in_all new row (Contains-permutation (all_living from.layers) new row p (has_got (all_living from.layers) id row e)));
}

pub taken_apart : (job : Job) (from : SnapshotValue) → AreApart (all_living from.layers) → AreApart (taken job from)
taken_apart Optimize from apart = apart
taken_apart Flush from apart =
    let D = all_living (disk_layers from) in
    let M = all_living (ram_layers from) in
    apart_back D M (apart_permutation (all_living from.layers) (D ++ M) (parts from.layers) apart)

pub follows : (schema : Schema) (base : Base) (steps more : List Step) (job : Job) (new : List DocRow) → IsGood schema base (steps ++ more) → (last_snapshot base (steps ++ more)).shape ≡ (last_snapshot base steps).shape → AreApart (all_living (last_snapshot base steps).layers) → AreApart (all_living (last_snapshot base (steps ++ more)).layers) → IsPermutation (taken job (last_snapshot base steps)) new → ReshapeFollows base (steps ++ more) job (last_snapshot base steps).number (rebased job (last_snapshot base steps).number new (last_snapshot base (steps ++ more)))
follows schema base steps more job new good same from_apart now_apart p =
    let from = last_snapshot base steps in
    let now = last_snapshot base (steps ++ more) in
    let only = since schema base steps more good same in
    let was : HasMoved job from.number (taken job from) now = moved_taken job from now (commits more) only from_apart now_apart in
    let has : HasMoved job from.number new now = λ row h. Contains-permutation (taken job from) new row p (was row h) in
    let new_apart : AreApart new = apart_permutation (taken job from) new p (taken_apart job from from_apart) in
    record {
      number = refl;
      rows = live_same job from.number new now now_apart new_apart has;
      shape = refl;
      earlier = steps;
      since = more;
      both = refl;
      from_number = refl;
      from_shape = sym same;
      reshapes = shapes job from now new now_apart new_apart has p;
    }
