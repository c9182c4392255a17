-- The words that were gone over, and what was written of them.
use Rattle.std.proofs.Common.{◌≡◌, ℕ, List, [], Option, Some, None, sym, subst, All}
use Rattle.std.specs.List.{flat_map}
use Rattle.doc_types.specs.declared.documents.DocRow.{DocRow}
use Rattle.doc_types.specs.Chunks.{AreWordsOf}
use Rattle.image_join.specs.declared.nexts.Next.{Next}
use Rattle.image_write.specs.declared.words.Tables.{Tables}
use Rattle.image_join.specs.steps.Entries.{AreEntriesOf, Entry, entries_in}
use Rattle.image_join.specs.steps.Merging.{AreTables, AreWordsUpTo, IsDone, IsLeast, StandAt, added}
use Rattle.image_join.specs.steps.Numbering.{AreNumbered}
use Rattle.image_join.specs.steps.Parts.{PartValue}
use Rattle.image_join.proofs.Collected.{collected}
use Rattle.image_join.proofs.Worded.{words_all, words_more, words_none}

pub record AreMerged (parts : List PartValue) (numbers : List ℕ) (nexts : List Next) (tables : Tables) : Type 0 where
  pub last : Option (List ℕ)
  pub words : List (List ℕ)
  pub stand : StandAt last parts nexts
  pub all : (rows : List DocRow) → AreNumbered parts numbers rows → AreTables rows words tables × AreWordsUpTo rows last words

-- before the first word
pub merged_none : (parts : List PartValue) (numbers : List ℕ) (nexts : List Next) (tables : Tables) → StandAt None parts nexts → ((rows : List DocRow) → AreTables rows [] tables) → AreMerged parts numbers nexts tables
merged_none parts numbers nexts tables stand none = record {
  last = None;
  words = [];
  stand = stand;
  all = λ rows is. (none rows, words_none rows);
}

-- one word more
pub merged_more : (parts : List PartValue) (numbers : List ℕ) (nexts after : List Next) (tables next : Tables) (word : List ℕ) (found : List Entry) (was : AreMerged parts numbers nexts tables) → All (λ part. AreWordsOf part.rows part.words) parts
    → IsLeast was.last parts word → StandAt (Some word) parts after → found ≡ flat_map (entries_in word numbers) parts
    → ((rows : List DocRow) (words : List (List ℕ)) → AreTables rows words tables → AreEntriesOf word rows found → AreTables rows (added found words word) next)
    → AreMerged parts numbers after next
merged_more parts numbers nexts after tables next word found was are least stand is put = record {
  last = Some word;
  words = added found was.words word;
  stand = stand;
  all = λ rows numbered.
      let its = was.all rows numbered in
      let entries : AreEntriesOf word rows found = subst (AreEntriesOf word rows) (sym is) (collected word numbers rows parts numbered) in
      (put rows was.words its.0 entries, words_more rows was.last was.words word numbers parts numbered are least its.1 found entries);
}

-- all words
pub merged_all : (parts : List PartValue) (numbers : List ℕ) (nexts : List Next) (tables : Tables) (was : AreMerged parts numbers nexts tables) → All (λ part. AreWordsOf part.rows part.words) parts → All (IsDone was.last) parts
    → (rows : List DocRow) → AreNumbered parts numbers rows → (words : List (List ℕ)) × AreWordsOf rows words × AreTables rows words tables
merged_all parts numbers nexts tables was are done rows numbered =
    let its = was.all rows numbered in
    (was.words, words_all rows was.last was.words numbers parts numbered are done its.1, its.0)
