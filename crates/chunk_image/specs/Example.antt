-- An example of an image: the document 7 of an index with the field `title`, put by the first commit, with the text `hello world`.
use Rattle.std.specs.Prelude.{ℕ, List, [], ◌∷◌, false, codes}
use Rattle.doc_types.specs.declared.documents.DocRow.{DocRow}
use Rattle.doc_types.specs.declared.schema.Schema.{Schema}
use Rattle.doc_types.specs.declared.tokens.FieldTokens.{FieldTokens}
use Rattle.doc_types.specs.declared.tokens.Gap.TheVariants as gaps
use Rattle.doc_types.specs.declared.tokens.TokenWord.{TokenWord}

abbrev pub example_schema : Schema
example_schema = record { name = codes "one"; fields = codes "title" ∷ []; attrs = []; zones = []; sp = false; min_prefix = 0 }

abbrev pub example_words : List (List ℕ)
example_words = codes "hello" ∷ codes "world" ∷ []

abbrev pub token : List ℕ → ℕ → TokenWord
token word position = record { word = word; position = position; gap = gaps.None }

abbrev pub title : FieldTokens
title = record { words = token (codes "hello") 1 ∷ token (codes "world") 2 ∷ []; spans = [] }

abbrev pub example_rows : List DocRow
example_rows = record { doc = record { id = 7; fields = title ∷ []; values = [] }; born = 1 } ∷ []

abbrev pub example_bytes : List ℕ
example_bytes =
    -- the magic, 1 row, 1 field, no attribute, 2 words; 3 bytes of marks, 12 of the dictionary, 8 of postings
    83 ∷ 82 ∷ 67 ∷ 72 ∷ 85 ∷ 78 ∷ 75 ∷ 49 ∷ 1 ∷ 0 ∷ 0 ∷ 0 ∷ 1 ∷ 0 ∷ 0 ∷ 0 ∷ 2 ∷ 0 ∷ 0 ∷ 0 ∷ 3 ∷ 0 ∷ 0 ∷ 0 ∷ 12 ∷ 0 ∷ 0 ∷ 0 ∷ 8 ∷ 0 ∷ 0 ∷ 0
    -- id 7, commit 1, marks at 0
    ∷ 7 ∷ 0 ∷ 0 ∷ 0 ∷ 0 ∷ 0 ∷ 0 ∷ 0 ∷ 1 ∷ 0 ∷ 0 ∷ 0 ∷ 0 ∷ 0 ∷ 0 ∷ 0 ∷ 0 ∷ 0 ∷ 0 ∷ 0
    -- marks: last position 2, no boundary, no span
    ∷ 2 ∷ 0 ∷ 0
    -- word table: `hello` at 0, in 1 row, postings at 0; `world` at 6, in 1 row, postings at 4
    ∷ 0 ∷ 0 ∷ 0 ∷ 0 ∷ 1 ∷ 0 ∷ 0 ∷ 0 ∷ 0 ∷ 0 ∷ 0 ∷ 0 ∷ 6 ∷ 0 ∷ 0 ∷ 0 ∷ 1 ∷ 0 ∷ 0 ∷ 0 ∷ 4 ∷ 0 ∷ 0 ∷ 0
    -- dictionary
    ∷ 5 ∷ 104 ∷ 101 ∷ 108 ∷ 108 ∷ 111 ∷ 5 ∷ 119 ∷ 111 ∷ 114 ∷ 108 ∷ 100
    -- postings: 1 behind none, 2 bytes, 1 hit, field 0 position 1; the same with position 2
    ∷ 1 ∷ 2 ∷ 1 ∷ 1 ∷ 1 ∷ 2 ∷ 1 ∷ 2
    ∷ []
