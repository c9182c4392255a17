-- What the marks of rows leave: where places begin, which are taken by boundaries, and which row is the first that has one misplaced.
use Rattle.std.specs.Prelude.{◌≡◌, ◌⊎◌, ℕ, ◌+◌, ◌-◌, ◌*◌, ◌<◌, ◌≤◌, List, [], ◌∷◌, length, slice_index, if◌then◌else◌}
use Rattle.std.specs.List.{AllByRecursion}
use Rattle.doc_types.specs.declared.tokens.TheConstants.{MAX_POSITION}
use Rattle.chunk_damage.specs.RowMarks.{FieldMarks, RowMarks, is_taken}
use Rattle.chunk_damage.specs.Cover.{AreBetween}
use Rattle.image_cover.specs.Layouts.{AreLaid}
use Rattle.image_cover.specs.Places.{Seen}

-- a field whose places begin at the start of this number: boundaries have taken theirs
pub record IsFieldMarked (starts : List ℕ) (j : ℕ) (s : Seen) (m : FieldMarks) : Type 0 where
  pub end : slice_index starts (j + 1) ≡ slice_index starts j + m.last
  pub each : (p : ℕ) → 1 ≤ p → p ≤ m.last → slice_index s.0 (slice_index starts j + p - 1) ≡ (if is_taken m.gaps p then 1 else 0)

abbrev pub FieldsMarked : List ℕ → ℕ → Seen → List FieldMarks → Type 0
FieldsMarked starts j s [] = Unit {0}
FieldsMarked starts j s (m ∷ ms) = IsFieldMarked starts j s m × FieldsMarked starts (j + 1) s ms

-- boundaries lie between words
abbrev pub AllBetween : List FieldMarks → Type 0
AllBetween ms = AllByRecursion (λ (m : FieldMarks). AreBetween 2 m.last m.gaps) ms

-- a row: its own place is taken, and it is noted where it is the first that has a boundary misplaced
pub record IsRowMarked (starts : List ℕ) (width : ℕ) (s : Seen) (row : ℕ) (ms : List FieldMarks) : Type 0 where
  pub wide : length ms + 1 ≡ width
  pub own : slice_index s.0 (slice_index starts (row * width)) ≡ 1
  pub begin : slice_index starts (row * width + 1) ≡ slice_index starts (row * width) + 1
  pub fields : FieldsMarked starts (row * width + 1) s ms
  pub good : row < s.1 → AllBetween ms
  pub bad : s.1 ≡ row → AllBetween ms → ⊥

abbrev pub RowsMarked : List ℕ → ℕ → Seen → ℕ → List RowMarks → Type 0
RowsMarked starts width s row [] = Unit {0}
RowsMarked starts width s row (m ∷ marks) = IsRowMarked starts width s row m.fields × RowsMarked starts width s (row + 1) marks

-- all rows
pub record AreMarked (starts : List ℕ) (width : ℕ) (s : Seen) (marks : List RowMarks) : Type 0 where
  pub laid : AreLaid starts width (length marks) (length s.0)
  pub from : slice_index starts 0 ≡ 0
  pub bits : (k : ℕ) → slice_index s.0 k ≤ 1
  pub rows : RowsMarked starts width s 0 marks

-- last positions are within the limit
abbrev pub AllShort : List RowMarks → Type 0
AllShort marks = AllByRecursion (λ (m : RowMarks). AllByRecursion (λ (f : FieldMarks). f.last ≤ MAX_POSITION) m.fields) marks

-- ---- what is seen once all hits have taken their places

-- the rows before this one aren't noted, and all their places are taken
abbrev pub ArePassed : List ℕ → ℕ → Seen → ℕ → Type 0
ArePassed starts width s rows = (row : ℕ) → row < rows → (s.1 ≡ row → ⊥) × ((k : ℕ) → k < slice_index starts ((row + 1) * width) → slice_index s.0 k ≡ 1)

-- this is the first row that is noted or has a place that isn't taken
pub record IsStopped (starts : List ℕ) (width : ℕ) (s : Seen) (rows row : ℕ) : Type 0 where
  pub low : row < rows
  pub before : ArePassed starts width s row
  pub here : (s.1 ≡ row) ⊎ ((k : ℕ) × (slice_index starts (row * width) ≤ k) × (k < slice_index starts ((row + 1) * width)) × (slice_index s.0 k ≡ 0))
