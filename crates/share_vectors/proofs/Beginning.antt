-- Where a job begins: what the token has seen has the snapshot last, whose rows are of the columns; and it still has once more was seen.
use Rattle.std.proofs.Common.{rules, ◌≡◌, ◌++◌, ℕ, List, [], sym, subst, ◌∙◌, ap, append_assoc}
use Rattle.std.proofs.lemmas.List.{append-nil}
use mathlib.Core.List.{IsPrefix}
use Rattle.doc_types.specs.declared.schema.Schema.{Schema}
use Rattle.doc_types.specs.Schemas.{IsSchema}
use Rattle.doc_types.specs.Snapshots.{SnapshotValue}
use Rattle.job_chunks.specs.Chunks.{NewChunkValue}
use Rattle.job_states.specs.States.{HasSeen}
use Rattle.step_history.specs.History.{AreOf, Base, IsGood, Step, last_snapshot}
use Rattle.step_tokens.specs.Tokens.{TokenValue}
use Rattle.store_keep.proofs.Following.{last_of}
use Rattle.share_vectors.specs.Users.{IsJobOf, plain}

pub of_plain : (schema : ℕ → Schema) (base : ℕ → Base) (index own : ℕ) (seen : List Step) (found : SnapshotValue) → schema index ≡ plain → own ≡ index → IsGood (schema own) (base own) seen → found ≡ last_snapshot (base own) seen → AreOf plain found
of_plain schema base index own seen found columns same good is =
    subst (λ (s : Schema). AreOf s found) columns
    (subst (λ (i : ℕ). AreOf (schema i) found) same (subst (AreOf (schema own)) (sym is) (last_of (schema own) (base own) seen good)))

pub seen_now : (base : ℕ → Base) (index own : ℕ) (seen : List Step) (found from : SnapshotValue) → own ≡ index → found ≡ last_snapshot (base own) seen → from ≡ found → HasSeen (base index) seen from
seen_now base index own seen found from same is again = record {
  earlier = seen;
  since = [];
  both = sym (append-nil seen);
  last_one = subst (λ (i : ℕ). last_snapshot (base i) seen ≡ from) same (subst (λ (s : SnapshotValue). last_snapshot (base own) seen ≡ s) (sym again) (sym is));
}

pub plain_is : IsSchema plain
plain_is = search rules

pub still : (base : Base) (old new : TokenValue) (chunk : NewChunkValue) → IsPrefix old.seen new.seen → IsJobOf base old chunk → IsJobOf base new chunk
still base old new chunk more job = record {
  seen = record {
    earlier = job.seen.earlier;
    since = job.seen.since ++ more.0;
    both = sym more.1 ∙ ap (λ (xs : List Step). xs ++ more.0) job.seen.both ∙ append_assoc job.seen.earlier job.seen.since more.0;
    last_one = job.seen.last_one;
  };
  chunk = job.chunk;
}
