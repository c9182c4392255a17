-- Rows of which a chunk answers alike.
use Rattle.std.specs.Prelude.{◌≡◌, ℕ, List, map}
use Rattle.std.specs.List.{AllZip, filter, enumerate_from}
use Rattle.doc_types.specs.declared.documents.DocRow.{DocRow}
use Rattle.doc_types.specs.Chunks.{gaps_of, has_word, hits_of, spans_of}

-- two rows with the same answers, their words aside
pub record AreAlike (row other : DocRow) : Type 0 where
  pub ids : row.doc.id ≡ other.doc.id
  pub born : row.born ≡ other.born
  pub values : row.doc.values ≡ other.doc.values
  pub gaps : map gaps_of row.doc.fields ≡ map gaps_of other.doc.fields
  pub spans : spans_of row ≡ spans_of other

-- the rows that have the word, ascending, each with the word's places in it; the first row has this number
abbrev pub postings : List ℕ → ℕ → List DocRow → List (ℕ × List (ℕ × ℕ))
postings word n rows = map (λ e. (e.0, hits_of word e.1)) (filter (λ e. has_word word e.1) (enumerate_from n rows))

-- two lists of rows with the same answers, row by row and word by word
pub record AnswerAlike (rows other : List DocRow) : Type 0 where
  pub each : AllZip AreAlike rows other
  pub words : (word : List ℕ) → postings word 0 rows ≡ postings word 0 other
