-- Occurrences of words in documents: what each tells, how they are ordered, and what those of one word are.
use Rattle.std.specs.Prelude.{◌≡◌, ◌<◌, ◌≤◌, ◌+◌, ◌*◌, ◌/◌, ◌%◌, ◌^◌, ℕ, List, [], ◌∷◌, ◌++◌, Bool, Option, length, map, slice_get, All, if◌then◌else◌}
use Rattle.std.specs.List.{filter}
use Rattle.std.specs.List.Sorted.{IsSortedBy}
use Rattle.std.specs.Option.{option_and_then, option_map_or}
use Rattle.std.specs.Str.{bytes_eq}
use Rattle.std.specs.Cmp.Lexicographic.{slice_cmp}
use Rattle.std.specs.Ordering.{is_lt, nat_cmp, ordering_then}
use Rattle.std.specs.declared.cmp.Ordering.{Ordering}
use Rattle.doc_types.specs.declared.documents.Doc.{Doc}
use Rattle.doc_types.specs.declared.tokens.FieldTokens.{FieldTokens}
use Rattle.doc_types.specs.declared.tokens.TokenWord.{TokenWord}
use Rattle.chunk_image.specs.AlikeRows.{postings}
use Rattle.image_write.specs.declared.gathering.Occurrence.{Occurrence}
use Rattle.image_write.specs.Written.{row_of}
use Rattle.image_write.specs.steps.Gathering.{Place, WordPlaces, places_of}
use Rattle.image_write.specs.Heads.{IsRead, head, tells}

-- the token at these numbers, that which an occurrence tells, its word, and its place
abbrev pub token_in : List Doc → ℕ → ℕ → ℕ → Option TokenWord
token_in docs row field number = option_and_then (λ doc. option_and_then (λ tokens. slice_get tokens.words number) (slice_get doc.fields field)) (slice_get docs row)

abbrev pub token_at : List Doc → Occurrence → Option TokenWord
token_at docs o = token_in docs (o.stand / 32) (o.stand % 32) o.token

unfoldable pub word_at : List Doc → Occurrence → List ℕ
word_at docs o = option_map_or (λ token. token.word) (token_at docs o) []

abbrev pub place_at : Occurrence → Place
place_at o = (o.stand / 32, (o.stand % 32, o.position))

-- an occurrence has the head of its word, whose first bytes are bytes
pub record HasHead (docs : List Doc) (o : Occurrence) : Type 0 where
  pub is : o.head ≡ head (word_at docs o)
  pub read : IsRead (word_at docs o)

-- the occurrence is one of this word
abbrev pub is_at : List Doc → List ℕ → Occurrence → Bool
is_at docs word o = bytes_eq (word_at docs o) word

-- the word of an occurrence, where its head doesn't tell it
abbrev pub rest_at : List Doc → Occurrence → List ℕ
rest_at docs o = if tells o.head then [] else word_at docs o

-- the order of occurrences: by the heads of their words, then by the words themselves
abbrev pub order : List Doc → Occurrence → Occurrence → Ordering
order docs a b = ordering_then (nat_cmp a.head b.head) (slice_cmp nat_cmp (rest_at docs a) (rest_at docs b))

-- all occurrences of a field's words, of which the first is this one of them, of a document's fields, and of documents
abbrev pub occurrence_of : ℕ → ℕ → ℕ → TokenWord → Occurrence
occurrence_of row field number token = record { head = head token.word; stand = row * 32 + field; token = number; position = token.position }

abbrev pub field_places : ℕ → ℕ → ℕ → List TokenWord → List Occurrence
field_places row field number [] = []
field_places row field number (token ∷ tokens) = occurrence_of row field number token ∷ field_places row field (number + 1) tokens

abbrev pub doc_places : ℕ → ℕ → List FieldTokens → List Occurrence
doc_places row field [] = []
doc_places row field (tokens ∷ fields) = field_places row field 0 tokens.words ++ doc_places row (field + 1) fields

abbrev pub docs_places : ℕ → List Doc → List Occurrence
docs_places row [] = []
docs_places row (doc ∷ docs) = doc_places row 0 doc.fields ++ docs_places (row + 1) docs

-- an occurrence before words with their places: it is one of the first word, where that is its word
abbrev pub with_place : List ℕ → Place → List WordPlaces → List WordPlaces
with_place word place [] = record { word = word; places = place ∷ [] } ∷ []
with_place word place (entry ∷ entries) = if bytes_eq word entry.word then record { word = word; places = place ∷ entry.places } ∷ entries else record { word = word; places = place ∷ [] } ∷ entry ∷ entries

-- occurrences by their words
abbrev pub by_word : List Doc → List Occurrence → List WordPlaces
by_word docs [] = []
by_word docs (o ∷ os) = with_place (word_at docs o) (place_at o) (by_word docs os)

-- occurrences sorted by their words: those of each word are its places, in their order, and each tells its word's head
pub record AreInOrder (docs : List Doc) (places : List Occurrence) : Type 0 where
  pub ascend : IsSortedBy (λ a b. is_lt (slice_cmp nat_cmp (word_at docs a) (word_at docs b))) places
  pub each : (word : List ℕ) → map place_at (filter (is_at docs word) places) ≡ places_of (postings word 0 (map (λ doc. row_of doc 0) docs))
  pub heads : All (HasHead docs) places

-- fields, words and positions that an occurrence can tell
pub record HasFewWords (tokens : FieldTokens) : Type 0 where
  pub few : length tokens.words < 2 ^ 16
  pub within : All (λ word. word.position < 2 ^ 16) tokens.words

pub record AreFew (doc : Doc) : Type 0 where
  pub few : length doc.fields ≤ 32
  pub words : All HasFewWords doc.fields
