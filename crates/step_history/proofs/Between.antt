-- What lies between two snapshots of one shape.
use Rattle.std.proofs.Common.{◌≡◌, ℕ, ◌+◌, ◌≤◌, ◌<◌, zero, suc, List, [], ◌∷◌, ◌++◌, Bool, true, false, ◌&&◌, not, Some, refl, sym, ap, subst, ◌∙◌, arith, append_assoc, append-nil, get_or}
use Rattle.std.specs.FinMap as finite
use Rattle.std.specs.Option.{is_some}
use Rattle.std.proofs.lemmas.List.Elements.{All-append}
use Rattle.std.proofs.lemmas.List.Sums.{fold-append}
use Rattle.doc_types.specs.declared.documents.DocRow.{DocRow}
use Rattle.doc_types.specs.declared.schema.Schema.{Schema}
use Rattle.doc_types.specs.Commits.{Entry, after_entry, after}
use Rattle.doc_types.specs.Snapshots.{SnapshotValue, live}
use Rattle.step_history.specs.Places.{on_disk, IsLive}
use Rattle.step_history.specs.History.{Step, Commit, Reshape, Base, last_snapshot, commits, puts, CommitFollows, ReshapeFollows, IsGood}
use Rattle.step_history.specs.Since.{OnlyCommits}
use Rattle.step_history.proofs.Changes.{unput, put_rows}
use Rattle.step_history.proofs.Steps.{last_one, shape_up}

live_of : (s : SnapshotValue) (id : ℕ) (row : DocRow) → finite.get (live s) id ≡ Some row → IsLive s id
live_of s id row e = ap is_some e

and_left : (a b : Bool) → (a && b) ≡ true → a ≡ true
and_left true b e = refl
and_left false b e = e

and_not : (a b : Bool) → (a && not b) ≡ true → b ≡ false
and_not true true e = sym e
and_not true false e = refl
and_not false b e = cc e

unput_of : (from : SnapshotValue) (entry : Entry) (id : ℕ) (row : DocRow) → entry.number ≡ from.number + 1 → finite.get (after_entry (live from) entry) id ≡ Some row → row.born ≤ from.number → puts entry id ≡ false
unput_of from entry id row is e old =
    elim (puts entry id) as (λ b. puts entry id ≡ b → b ≡ false) [
      | true ↦ λ hit. let born = put_rows entry.number (live from) entry.changes id row hit e in absurd (omega (arith, born, is, old))
      | false ↦ λ miss. refl
    ] refl

one_commit : (base : Base) (steps : List Step) (entry : Entry) (next : SnapshotValue) → CommitFollows base steps entry next → OnlyCommits (last_snapshot base steps) next (entry ∷ [])
one_commit base steps entry next f =
    let from = last_snapshot base steps in
    let rows = f.rows in
    record {
      shape = f.shape;
      number = (let n = f.number in omega (arith, n));
      chunks = f.chunks;
      rows = rows;
      newer = λ k d h. (elim k as (λ k. k < 1 → from.number < (get_or (entry ∷ []) k d).number) [ zero ↦ λ h. (let n = f.numbered in omega (arith, n)) | suc k ↦ λ h. absurd (omega (arith, h)) ] h);
      old = λ id row e born.
          let e' : finite.get (after_entry (live from) entry) id ≡ Some row = subst (λ m. finite.get m id ≡ Some row) rows e in
          unput entry.number (live from) entry.changes id row (unput_of from entry id row f.numbered e' born) e';
      old_disk = λ id row e there.
          let e' : finite.get (after_entry (live from) entry) id ≡ Some row = subst (λ m. finite.get m id ≡ Some row) rows e in
          let both : (on_disk from id && not (puts entry id)) ≡ true = sym (f.disk id (live_of next id row e)) ∙ there in
          (unput entry.number (live from) entry.changes id row (and_not (on_disk from id) (puts entry id) both) e', and_left (on_disk from id) (not (puts entry id)) both);
      old_ram = λ id row e born there.
          let e' : finite.get (after_entry (live from) entry) id ≡ Some row = subst (λ m. finite.get m id ≡ Some row) rows e in
          let miss = unput_of from entry id row f.numbered e' born in
          f.disk id (live_of next id row e) ∙ rw (there, miss) refl;
    }

join : (a b c : SnapshotValue) (xs ys : List Entry) → OnlyCommits a b xs → OnlyCommits b c ys → OnlyCommits a c (xs ++ ys)
join a b c xs ys ab bc =
    record {
      shape = bc.shape ∙ ab.shape;
      number = (let m = ab.number in let n = bc.number in omega (arith, m, n));
      chunks = bc.chunks ∙ ab.chunks;
      rows = bc.rows ∙ ap (λ rows. after rows ys) ab.rows ∙ sym (fold-append after_entry (live a) xs ys);
      newer = All-append (λ (entry : Entry). a.number < entry.number) xs ys ab.newer (λ k d h. let l = bc.newer k d h in let m = ab.number in omega (arith, l, m));
      old = λ id row e born. ab.old id row (bc.old id row e (let m = ab.number in omega (arith, m, born))) born;
      old_disk = λ id row e there. let r = bc.old_disk id row e there in ab.old_disk id row r.0 r.1;
      old_ram = λ id row e born there. let born' : row.born ≤ b.number = (let m = ab.number in omega (arith, m, born)) in bc.old_ram id row e born' (ab.old_ram id row (bc.old id row e born') born there);
    }

none : (s : SnapshotValue) → OnlyCommits s s []
none s = record {
  shape = refl;
  number = omega arith;
  chunks = refl;
  rows = refl;
  newer = λ k d h. absurd (omega (arith, h));
  old = λ id row e born. e;
  old_disk = λ id row e there. (e, there);
  old_ram = λ id row e born there. there;
}

pub since : (schema : Schema) (base : Base) (steps more : List Step) → IsGood schema base (steps ++ more) → (last_snapshot base (steps ++ more)).shape ≡ (last_snapshot base steps).shape → OnlyCommits (last_snapshot base steps) (last_snapshot base (steps ++ more)) (commits more)
since schema base steps [] good same = subst (λ xs. OnlyCommits (last_snapshot base steps) (last_snapshot base xs) []) (sym (append-nil steps)) (none (last_snapshot base steps))
since schema base steps (Reshape job through next ∷ more) good same =
    let step : Step = Reshape job through next in
    let assoc : (steps ++ step ∷ []) ++ more ≡ steps ++ step ∷ more = append_assoc steps (step ∷ []) more in
    let f : ReshapeFollows base steps job through next = (good.each steps step more refl).0 in
    let up : (last_snapshot base (steps ++ step ∷ [])).shape ≤ (last_snapshot base ((steps ++ step ∷ []) ++ more)).shape = shape_up schema base (steps ++ step ∷ []) more (subst (IsGood schema base) (sym assoc) good) in
    let up' : next.shape ≤ (last_snapshot base (steps ++ step ∷ more)).shape = rw (last_one base steps step, assoc) at up in
    let more_one = f.shape in
    absurd (omega (arith, up', same, more_one))
since schema base steps (Commit entry next ∷ more) good same =
    let step : Step = Commit entry next in
    let assoc : (steps ++ step ∷ []) ++ more ≡ steps ++ step ∷ more = append_assoc steps (step ∷ []) more in
    let f : CommitFollows base steps entry next = (good.each steps step more refl).0 in
    let end : last_snapshot base (steps ++ step ∷ []) ≡ next = last_one base steps step in
    let good' = subst (IsGood schema base) (sym assoc) good in
    let same' : (last_snapshot base ((steps ++ step ∷ []) ++ more)).shape ≡ (last_snapshot base (steps ++ step ∷ [])).shape = ap (λ xs. (last_snapshot base xs).shape) assoc ∙ same ∙ sym f.shape ∙ ap (λ (s : SnapshotValue). s.shape) (sym end) in
    let rest : OnlyCommits next (last_snapshot base (steps ++ step ∷ more)) (commits more) = rw (end, assoc) at (since schema base (steps ++ step ∷ []) more good' same') in
    join (last_snapshot base steps) next (last_snapshot base (steps ++ step ∷ more)) (entry ∷ []) (commits more) (one_commit base steps entry next f) rest
