-- Shows: what is published of an index.
use Rattle.std.specs.Prelude.{◌≡◌, ℕ, List}
use Rattle.logbook.specs.Pages.{Book}
use Rattle.doc_types.specs.declared.schema.Schema.{Schema}
use Rattle.doc_types.specs.Snapshots.{SnapshotValue}
use Rattle.step_history.specs.History.{Base, Step, IsGood, last_snapshot}

-- What is published: a snapshot, and steps of the line of some book, under an index's number.
pub record ShownValue : Type 0 where
  pub index : ℕ
  pub snapshot : SnapshotValue
  pub book : Book
  pub steps : List Step

-- the rule of what is published: the steps are a good history of the index, and the snapshot is the last one of it
pub record IsShown (book : ℕ → Book) (schema : ℕ → Schema) (base : ℕ → Base) (shown : ShownValue) : Type 0 where
  pub of : shown.book ≡ book shown.index
  pub good : IsGood (schema shown.index) (base shown.index) shown.steps
  pub last : shown.snapshot ≡ last_snapshot (base shown.index) shown.steps
