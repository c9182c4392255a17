-- The words of a layer that begin so.
use Rattle.std.specs.Prelude.{◌≡◌, ◌<◌, ◌≤◌, ℕ, ◌+◌, ◌^◌, List, Bool, true, false, ◌==◌, ◌&&◌, ◌||◌, not, length, take, drop, All, AllPairs, Contains}
use Rattle.std.specs.List.{list_any}
use Rattle.std.specs.Cmp.Lexicographic.{slice_cmp}
use Rattle.std.specs.Ordering.{is_lt, nat_cmp}
use Rattle.std.specs.declared.cmp.Ordering.TheVariants.{Less}
use Rattle.doc_types.specs.declared.documents.DocRow.{DocRow}
use Rattle.doc_types.specs.Chunks.{AreWordsOf, rows_with}
use Rattle.doc_types.specs.Snapshots.{LayerValue, living}
use Rattle.query_tree.specs.Taking.{begins_so}

-- a part: the rows of a layer, its words that begin so, and the numbers of its dead rows
pub record PartValue : Type 0 where
  pub rows : List DocRow
  pub words : List (List ℕ)
  pub dead : List ℕ

-- a word stands before another one
abbrev pub less : List ℕ → List ℕ → Bool
less word other = is_lt (slice_cmp nat_cmp word other)

-- words that ascend by their bytes
abbrev pub Ascend : List (List ℕ) → Type 0
Ascend words = AllPairs (λ word later. slice_cmp nat_cmp word later ≡ Less) words

-- a word stands before those that begin so, or is one of these where they count too
abbrev pub stands_before : List ℕ → Bool → List ℕ → Bool
stands_before beginning with word = less word beginning || (with && begins_so word beginning)

-- the row isn't dead
abbrev pub is_alive : List ℕ → ℕ → Bool
is_alive dead row = not (list_any (λ d. d == row) dead)

-- the rows of a part that live
abbrev pub living_of : PartValue → List DocRow
living_of part = living (record { rows = part.rows; disk = false; dead = part.dead })

-- so many words from this number on are those of the rows that begin so
pub record IsRunWith (beginning : List ℕ) (rows : List DocRow) (words : List (List ℕ)) (first count : ℕ) : Type 0 where
  pub within : first + count ≤ length words
  pub few : length words < 2 ^ 32
  pub ascend : Ascend (take count (drop first words))
  pub begin : All (λ word. begins_so word beginning ≡ true) (take count (drop first words))
  pub all : (word : List ℕ) → begins_so word beginning ≡ true → 0 < length (rows_with word rows) → Contains (take count (drop first words)) word

-- so many words from one number on, of those of some rows, and dead rows that ascend
pub record IsRunOf (rows : List DocRow) (words : List (List ℕ)) (dead : List ℕ) (first count : ℕ) : Type 0 where
  pub dictionary : AreWordsOf rows words
  pub within : first + count ≤ length words
  pub few : length words < 2 ^ 32
  pub ascend : AllPairs (λ row later. row < later) dead

-- the part is that of the layer: its words are those of its rows that begin so
pub record IsPartOf (beginning : List ℕ) (layer : LayerValue) (part : PartValue) : Type 0 where
  pub rows : part.rows ≡ layer.rows
  pub dead : part.dead ≡ layer.dead
  pub ascend : Ascend part.words
  pub begin : All (λ word. begins_so word beginning ≡ true) part.words
  pub all : (word : List ℕ) → begins_so word beginning ≡ true → 0 < length (rows_with word part.rows) → Contains part.words word
  pub few : length part.words < 2 ^ 32
