-- Places and occurrences of a document. A place is a field and a position; an occurrence is a field with the positions from a
-- first to a last one.
use Rattle.std.specs.Prelude.{ℕ, List, Bool, ◌&&◌, ◌||◌, ◌==◌, nat_lt, nat_le, IsTrue, AllPairs}
use Rattle.std.specs.List.{list_any, list_all}
use Rattle.doc_types.specs.declared.tokens.ZoneSpan.{ZoneSpan}
use Rattle.occ_lists.specs.declared.occ.Occ.{Occ}

-- the occurrence of a field from a position to another
abbrev pub occ : ℕ → ℕ → ℕ → Occ
occ field first last = record { field = field; first = first; last = last }

-- the occurrence at one place
abbrev pub at_place : ℕ × ℕ → Occ
at_place place = occ place.0 place.1 place.1

-- the place lies inside the occurrence
abbrev pub holds : Occ → ℕ × ℕ → Bool
holds o place = (o.field == place.0) && (nat_le o.first place.1 && nat_le place.1 o.last)

-- the place lies inside the span of a zone, which has its field's number beside it
abbrev pub is_within : ℕ × ZoneSpan → ℕ × ℕ → Bool
is_within span place = (span.0 == place.0) && (nat_le span.1.first place.1 && nat_le place.1 span.1.last)

-- the place lies inside each of the spans
abbrev pub within_all : List (ℕ × ZoneSpan) → ℕ × ℕ → Bool
within_all spans place = list_all (λ span. is_within span place) spans

-- one of the places is this one
abbrev pub has_place : List (ℕ × ℕ) → ℕ × ℕ → Bool
has_place places place = list_any (λ p. (p.0 == place.0) && (p.1 == place.1)) places

-- the places ascend, each once: by field, then by position
abbrev pub is_before : ℕ × ℕ → ℕ × ℕ → Bool
is_before place later = nat_lt place.0 later.0 || ((place.0 == later.0) && nat_lt place.1 later.1)

abbrev pub ArePlaces : List (ℕ × ℕ) → Type 0
ArePlaces places = AllPairs (λ place later. IsTrue (is_before place later)) places
