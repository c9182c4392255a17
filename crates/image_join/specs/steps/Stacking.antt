-- Posting lists of a word put one behind the other, where the rows of the parts keep their order.
use Rattle.std.specs.Prelude.{◌≡◌, ◌<◌, ℕ, ◌+◌, List, [], ◌∷◌, ◌++◌, length, map, slice_index}
use Rattle.doc_types.specs.declared.cursor.TheConstants.{NO_ROW}
use Rattle.chunk_image.specs.AlikeRows.{postings}
use Rattle.posting_codec.specs.HitLists.{hit_list}
use Rattle.image_join.specs.declared.stacking.Reached.{Reached}
use Rattle.image_join.specs.steps.Entries.{Entry, Rising, spelled_list}
use Rattle.image_join.specs.steps.Parts.{PartValue}

-- a row with the places of a word in it
abbrev pub Posting : Type 0
Posting = ℕ × List (ℕ × ℕ)

-- each row's number is its place among all rows
pub record AreInOrder (numbers : List ℕ) : Type 0 where
  pub few : length numbers < NO_ROW
  pub each : (k : ℕ) → k < length numbers → slice_index numbers k ≡ k

-- postings of rows so many rows further on
abbrev pub moved : ℕ → List Posting → List Posting
moved by entries = map (λ e. (by + e.0, e.1)) entries

-- the row behind the last of these, or this one where there is none
abbrev pub behind : ℕ → List ℕ → ℕ
behind least [] = least
behind least (row ∷ rows) = behind (row + 1) rows

-- the entries of a part's rows that have the word, each with its row's place among all rows
abbrev pub stacked_in : List ℕ → PartValue → List Entry
stacked_in word part = map (λ e. (e.0, hit_list e.1)) (postings word part.first part.rows)

-- the entries were appended to a posting list
pub record ArePosted (entries : List Entry) (old new : List ℕ) (before after : Reached) : Type 0 where
  pub bytes : new ≡ old ++ spelled_list before.least entries
  pub rising : Rising before.least entries
  pub least : after.least ≡ behind before.least (map (λ entry. entry.0) entries)
  pub count : after.count ≡ before.count + length entries

-- no entry was appended yet
abbrev pub at_front : Reached
at_front = record { least = 0; count = 0 }
