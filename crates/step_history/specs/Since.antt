-- Since: what lies between two snapshots of one shape.
use Rattle.std.specs.Prelude.{◌≡◌, ◌<◌, ◌≤◌, ℕ, List, true, All, Some}
use Rattle.std.specs.FinMap as finite
use Rattle.doc_types.specs.declared.documents.DocRow.{DocRow}
use Rattle.doc_types.specs.Commits.{Entry, after}
use Rattle.doc_types.specs.Snapshots.{SnapshotValue, live}
use Rattle.step_history.specs.Places.{disk_chunks, on_disk}

-- Only these commits came: the chunks on the disk are the same, and the rows are those after the entries. A row that isn't newer
-- than the earlier snapshot and lives now lived then, and one that lives on the disk now lived there then; so an old row lives on
-- the disk now exactly where it did then.
pub record OnlyCommits (from now : SnapshotValue) (entries : List Entry) : Type 0 where
  pub shape : now.shape ≡ from.shape
  pub number : from.number ≤ now.number
  pub chunks : disk_chunks now ≡ disk_chunks from
  pub rows : live now ≡ after (live from) entries
  pub newer : All (λ entry. from.number < entry.number) entries
  pub old : (id : ℕ) (row : DocRow) → finite.get (live now) id ≡ Some row → row.born ≤ from.number → finite.get (live from) id ≡ Some row
  pub old_disk : (id : ℕ) (row : DocRow) → finite.get (live now) id ≡ Some row → on_disk now id ≡ true → (finite.get (live from) id ≡ Some row) × (on_disk from id ≡ true)
  pub old_ram : (id : ℕ) (row : DocRow) → finite.get (live now) id ≡ Some row → row.born ≤ from.number → on_disk from id ≡ true → on_disk now id ≡ true
