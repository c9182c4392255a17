-- Where a job begins: what the token has seen has the snapshot last, whose rows are of the columns.
use Rattle.std.proofs.Common.{◌≡◌, ℕ, List, [], sym, subst}
use Rattle.std.proofs.lemmas.List.{append-nil}
use Rattle.doc_types.specs.declared.schema.Schema.{Schema}
use Rattle.doc_types.specs.Snapshots.{SnapshotValue}
use Rattle.job_states.specs.States.{HasSeen}
use Rattle.step_history.specs.History.{AreOf, Base, IsGood, Step, last_snapshot}
use Rattle.store_keep.proofs.Following.{last_of}

pub of_columns : (schema : ℕ → Schema) (base : ℕ → Base) (index : ℕ) (seen : List Step) (found : SnapshotValue) → index ≡ 0 → IsGood (schema index) (base index) seen → found ≡ last_snapshot (base index) seen → AreOf (schema 0) found
of_columns schema base index seen found zeroth good is =
    subst (λ (i : ℕ). AreOf (schema i) found) zeroth (subst (AreOf (schema index)) (sym is) (last_of (schema index) (base index) seen good))

pub seen_now : (base : ℕ → Base) (index : ℕ) (seen : List Step) (found from : SnapshotValue) → index ≡ 0 → found ≡ last_snapshot (base index) seen → from ≡ found → HasSeen (base 0) seen from
seen_now base index seen found from zeroth is same = record {
  earlier = seen;
  since = [];
  both = sym (append-nil seen);
  last_one = subst (λ (i : ℕ). last_snapshot (base i) seen ≡ from) zeroth (subst (λ (s : SnapshotValue). last_snapshot (base index) seen ≡ s) (sym same) (sym is));
}
