-- Steps of an index without documents.
use Rattle.std.proofs.Common.{◌≡◌, ◌<◌, ◌^◌, ◌+◌, ℕ, List, [], Some, refl, sym, ap, subst, length, append-nil, nat_cmp}
use Rattle.std.specs.FinMap as finite
use Rattle.std.proofs.lemmas.List.Elements.{All-nil}
use Rattle.doc_types.specs.declared.schema.Schema.{Schema}
use Rattle.doc_types.specs.Documents.{AreRowsOf}
use Rattle.doc_types.specs.Snapshots.{LayerValue, SnapshotValue, all_living}
use Rattle.doc_types.specs.Rows.{rows_of}
use Rattle.step_history.specs.declared.job.Job.{Job}
use Rattle.step_history.specs.declared.job.Job.TheVariants.{Flush, Optimize}
use Rattle.step_history.specs.History.{Base, Step, Commit, Reshape, Reshapes, last_snapshot, made_by}
use Rattle.step_book.specs.Tellings.{entry_of}
use Rattle.step_line.specs.Lines.{MayFollow}

-- a snapshot without documents
abbrev pub bare : ℕ → ℕ → SnapshotValue
bare number shape = record { number = number; shape = shape; layers = [] }

-- a commit of nothing
pub bare_commit : (schema : Schema) (base : Base) (steps : List Step) (worker : ℕ) (last : SnapshotValue) → last ≡ last_snapshot base steps → last.layers ≡ [] → length steps + 1 < 2 ^ 63
    → MayFollow schema base steps (Commit (entry_of worker (made_by worker steps + 1) (last.number + 1) (record { ops = [] })) (bare (last.number + 1) last.shape))
bare_commit schema base steps worker last is none room = record {
  room = room;
  follows = record {
    numbered = ap (λ s. s.number + 1) is;
    number = ap (λ s. s.number + 1) is;
    shape = ap (λ s. s.shape) is;
    chunks = rw (sym is, none) refl;
    rows = rw (sym is, none) refl;
    disk = λ id lives. rw (sym is, none) refl;
    seq = refl;
  };
  of = All-nil (λ (layer : LayerValue). AreRowsOf schema layer.rows);
}

-- a job over nothing leaves nothing
reshaped : (job : Job) (last next : SnapshotValue) → last.layers ≡ [] → next.layers ≡ [] → Reshapes job last last next
reshaped Flush last next none empty = record {
  more = [];
  chunks = rw (none, empty) refl;
  one = rw none refl;
  rows = λ id row found old. absurd (cc (finite.get-empty nat_cmp id, subst (λ layers. finite.get (rows_of (all_living layers)) id ≡ Some row) empty found));
}
reshaped Optimize last next none empty = record {
  one = rw (none, empty) refl;
  rows = λ id row found. absurd (cc (finite.get-empty nat_cmp id, subst (λ layers. finite.get (rows_of (all_living layers)) id ≡ Some row) none found));
}

-- the end of a job that began over the last snapshot
bare_job : (schema : Schema) (base : Base) (steps : List Step) (job : Job) (last : SnapshotValue) → last ≡ last_snapshot base steps → last.layers ≡ [] → length steps + 1 < 2 ^ 63
    → MayFollow schema base steps (Reshape job last.number (bare last.number (last.shape + 1)))
bare_job schema base steps job last is none room = record {
  room = room;
  follows = record {
    number = ap (λ s. s.number) is;
    rows = rw (sym is, none) refl;
    shape = ap (λ s. s.shape + 1) is;
    earlier = steps;
    since = [];
    both = sym (append-nil steps);
    from_number = sym (ap (λ s. s.number) is);
    from_shape = refl;
    reshapes = rw (sym is) (reshaped job last (bare last.number (last.shape + 1)) none refl);
  };
  of = All-nil (λ (layer : LayerValue). AreRowsOf schema layer.rows);
}

-- the same, where the step is told by an equation
pub job_follows : (schema : Schema) (base : Base) (steps : List Step) (job : Job) (through : ℕ) (last next : SnapshotValue) (made : Step) → made ≡ Reshape job through next → last ≡ last_snapshot base steps → last.layers ≡ [] → through ≡ last.number → next ≡ bare last.number (last.shape + 1) → length steps + 1 < 2 ^ 63
    → MayFollow schema base steps made
job_follows schema base steps job through last next made step is none number after room = rw (step, number, after) (bare_job schema base steps job last is none room)
