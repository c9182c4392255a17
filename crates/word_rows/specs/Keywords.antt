-- Where a keyword stands in a row: at the places of its word that its limits and marks allow.
use Rattle.std.specs.Prelude.{ℕ, ◌/◌, ◌%◌, ◌^◌, List, [], ◌∷◌, map, Bool, true, false, ◌&&◌, ◌||◌, ◌==◌, not, nat_le, slice_get}
use Rattle.std.specs.List.{filter, list_any, count_by}
use Rattle.std.specs.Option.{option_map_or}
use Rattle.std.specs.Str.{bytes_eq}
use Rattle.doc_types.specs.declared.documents.DocRow.{DocRow}
use Rattle.doc_types.specs.declared.tokens.FieldTokens.{FieldTokens}
use Rattle.doc_types.specs.declared.tokens.ZoneSpan.{ZoneSpan}
use Rattle.doc_types.specs.declared.tokens.Gap.{Gap}
use Rattle.doc_types.specs.declared.tokens.Gap.TheVariants as gaps
use Rattle.doc_types.specs.Chunks.{has_word, hits_of, spans_of, gaps_of, by_field, last_position}
use Rattle.query_tree.specs.declared.key.Key.{Key}
use Rattle.occ_lists.specs.Places.{is_within, within_all}

-- the field is one of those whose bits are set, the first field's being the lowest
abbrev pub has_field : ℕ → ℕ → Bool
has_field fields field = ((fields / (2 ^ field)) % 2) == 1

-- the position of the field's first word, or 0 where it has no word
abbrev pub first_position : FieldTokens → ℕ
first_position field = option_map_or (λ token. token.position) (slice_get field.words 0) 0

-- the place is that of its field's first word, or of its last one
abbrev pub is_first : DocRow → ℕ × ℕ → Bool
is_first row place = option_map_or (λ field. first_position field == place.1) (slice_get row.doc.fields place.0) false

abbrev pub is_last : DocRow → ℕ × ℕ → Bool
is_last row place = option_map_or (λ field. last_position field == place.1) (slice_get row.doc.fields place.0) false

-- the zone is one of these
abbrev pub is_among : List ℕ → ℕ → Bool
is_among zones zone = list_any (λ z. z == zone) zones

-- The place lies in some span of one of the zones; without zones there is no such limit.
abbrev pub in_zones : DocRow → List ℕ → ℕ × ℕ → Bool
in_zones row [] place = true
in_zones row (zone ∷ zones) place = list_any (λ span. is_among (zone ∷ zones) span.1.zone && is_within span place) (spans_of row)

-- the keyword's limits and marks allow the place
abbrev pub allows : DocRow → Key → ℕ × ℕ → Bool
allows row key place =
    has_field key.limit.fields place.0
    && (nat_le place.1 key.limit.positions
    && (in_zones row key.limit.zones place
    && ((not key.start || is_first row place)
    && (not key.end || is_last row place))))

-- the places of the keyword in the row
abbrev pub key_places : DocRow → Key → List (ℕ × ℕ)
key_places row key = filter (allows row key) (hits_of key.word row)

-- spans of zones, each with its field's number
abbrev pub Spans : Type 0
Spans = List (ℕ × ZoneSpan)

-- those of them that lie inside each of the spans
abbrev pub places_within : DocRow → Spans → Key → List (ℕ × ℕ)
places_within row spans key = filter (within_all spans) (key_places row key)

-- the ends of sentences in the row, by field and the position that they take; the end of a paragraph is also that of a sentence
abbrev pub sentence_ends : DocRow → List (ℕ × ℕ)
sentence_ends row = map (λ e. (e.0, e.1.0)) (by_field gaps_of row)

abbrev pub is_paragraph : Gap → Bool
is_paragraph gaps.Paragraph = true
is_paragraph _ = false

-- the ends of paragraphs alone
abbrev pub paragraph_ends : DocRow → List (ℕ × ℕ)
paragraph_ends row = map (λ e. (e.0, e.1.0)) (filter (λ e. is_paragraph e.1.1) (by_field gaps_of row))

-- each word once, in the order of first use
abbrev pub first_uses : List (List ℕ) → List (List ℕ)
first_uses [] = []
first_uses (word ∷ words) = word ∷ filter (λ other. not (bytes_eq other word)) (first_uses words)

-- how many of the keywords have their word in the row
abbrev pub present_in : DocRow → List Key → ℕ
present_in row keys = count_by (λ key. has_word key.word row) keys
