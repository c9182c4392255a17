-- The keywords of a query, one after the other, and the rows of a word that live.
use Rattle.std.specs.Prelude.{ℕ, List, [], ◌∷◌, ◌++◌, ◌==◌, ◌&&◌, Bool, false, not, get_or, map, if◌then◌else◌}
use Rattle.std.specs.List.{count_by, list_any, enumerate_from}
use Rattle.std.specs.Borrow.{Bor}
use Rattle.doc_types.specs.declared.documents.DocRow.{DocRow}
use Rattle.doc_types.specs.Chunks.{has_word}
use Rattle.query_tree.specs.declared.key.Key.{Key}
use Rattle.table_search.specs.Keywords.{are_one}

-- the row is none of these
abbrev pub lives_among : List ℕ → ℕ → Bool
lives_among dead row = not (list_any (λ d. d == row) dead)

-- how many of the documents have the word
abbrev pub docs_with : List ℕ → List DocRow → ℕ
docs_with word docs = count_by (has_word word) docs

-- keywords with one more, if it isn't there
abbrev pub with_key : List Key → Key → List Key
with_key keys key = if list_any (λ seen. are_one seen key) keys then keys else keys ++ key ∷ []

-- keywords that are lent
abbrev pub lent : List (Bor Key) → List Key
lent keys = map (λ key. key.now) keys

-- ---- rows that are marked

-- the row is marked
abbrev pub is_marked : List Bool → ℕ → Bool
is_marked marks row = get_or marks row false

-- the row is one of these
abbrev pub is_row_of : List ℕ → ℕ → Bool
is_row_of rows row = list_any (λ r. r == row) rows

-- the document has one of the words
abbrev pub has_some : List (List ℕ) → DocRow → Bool
has_some words doc = list_any (λ word. has_word word doc) words

-- how many rows are marked and live
abbrev pub living_marks : List ℕ → List Bool → ℕ
living_marks dead marks = count_by (λ e. e.1 && lives_among dead e.0) (enumerate_from 0 marks)
