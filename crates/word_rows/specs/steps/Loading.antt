-- reading what a query asks of a row
use Rattle.std.specs.Prelude.{◌≡◌, ◌<◌, ◌≤◌, All, AllPairs, length, ℕ, List, map, Bool, ◌&&◌, ◌||◌, ◌==◌, false, not, nat_le, slice_get}
use Rattle.std.specs.List.{filter, list_any}
use Rattle.std.specs.Option.{option_map_or}
use Rattle.doc_types.specs.declared.documents.DocRow.{DocRow}
use Rattle.doc_types.specs.declared.tokens.FieldTokens.{FieldTokens}
use Rattle.doc_types.specs.declared.tokens.TheConstants.{MAX_POSITION}
use Rattle.doc_types.specs.declared.tokens.Gap.{Gap}
use Rattle.doc_types.specs.declared.tokens.ZoneSpan.{ZoneSpan}
use Rattle.query_tree.specs.declared.key.Key.{Key}
use Rattle.occ_lists.specs.declared.occ.Occ.{Occ}
use Rattle.occ_lists.specs.Places.{occ, holds, is_within}
use Rattle.word_rows.specs.Keywords.{Spans, first_position, has_field, is_among, is_paragraph}
use Rattle.word_rows.specs.RowMarks.{has_zones}

-- the ends of boundaries, each of which has its field; and those of paragraphs
abbrev pub ends_in : List (ℕ × (ℕ × Gap)) → List (ℕ × ℕ)
ends_in gaps = map (λ gap. (gap.0, gap.1.0)) gaps

abbrev pub paragraphs_in : List (ℕ × (ℕ × Gap)) → List (ℕ × ℕ)
paragraphs_in gaps = ends_in (filter (λ gap. is_paragraph gap.1.1) gaps)

-- the place lies in one of the spans that is of one of the zones
abbrev pub in_some : List ℕ → Spans → ℕ × ℕ → Bool
in_some zones spans place = list_any (λ span. is_among zones span.1.zone && is_within span place) spans

-- the occurrences hold the places in the spans of the zones
pub record Covers (zones : List ℕ) (spans : Spans) (cover : List Occ) : Type 0 where
  pub holds : (place : ℕ × ℕ) → list_any (λ o. holds o place) cover ≡ in_some zones spans place

-- the spans of the zones, as occurrences
abbrev pub occ_of : ℕ × ZoneSpan → Occ
occ_of span = occ span.0 span.1.first span.1.last

abbrev pub listed_in : List ℕ → Spans → List Occ
listed_in zones spans = map occ_of (filter (λ span. is_among zones span.1.zone) spans)

-- The keyword's limits allow the place, as the zones' cover tells.
abbrev pub is_in_limits : Key → List Occ → ℕ × ℕ → Bool
is_in_limits key cover place =
    has_field key.limit.fields place.0
    && (nat_le place.1 key.limit.positions
    && (not (has_zones key) || list_any (λ o. holds o place) cover))

-- the place is that of its field's last word, by the last positions of the fields
abbrev pub is_last_of : List ℕ → ℕ × ℕ → Bool
is_last_of lasts place = option_map_or (λ last. last == place.1) (slice_get lasts place.0) false

-- The keyword's marks allow a place of its word: the first word of a field has position 1.
abbrev pub is_at_ends : List ℕ → Key → ℕ × ℕ → Bool
is_at_ends lasts key place = (not key.start || (place.1 == 1)) && (not key.end || is_last_of lasts place)

abbrev pub is_allowed : List ℕ → Key → List Occ → ℕ × ℕ → Bool
is_allowed lasts key cover place = is_in_limits key cover place && is_at_ends lasts key place

-- a field's words stand in order, the first at 1
pub record IsPlacedField (tokens : FieldTokens) : Type 0 where
  pub bounds : All (λ word. (1 ≤ word.position) × (word.position ≤ MAX_POSITION)) tokens.words
  pub ascend : AllPairs (λ word later. word.position < later.position) tokens.words
  pub first : 0 < length tokens.words → first_position tokens ≡ 1

abbrev pub IsPlacedRow : DocRow → Type 0
IsPlacedRow row = All IsPlacedField row.doc.fields
