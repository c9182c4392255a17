-- Spans of a row as items one behind the other, each looked at by the places of the row.
use Rattle.std.specs.Prelude.{◌≡◌, ℕ, ◌+◌, ◌-◌, ◌<◌, ◌≤◌, ◌^◌, List, ◌++◌, Bool, true, ◌==◌, ◌&&◌, not, nat_lt, nat_le, if◌then◌else◌, Option, Some, None, length, drop, slice_index}
use Rattle.posting_codec.specs.Numbers.{number}
use Rattle.doc_bytes.specs.Reading.{FieldSpan, is_behind}
use Rattle.item_lists.specs.Items.{AllFit, spelled}

-- where the places of a field end
abbrev pub stop_of : List ℕ → List ℕ → ℕ → ℕ
stop_of own bits field = if nat_lt (field + 2) (length own) then slice_index own (field + 2) else length bits

-- a word stands at the position of the field: the position has a place, which no boundary takes
abbrev pub stands : List ℕ → List ℕ → ℕ → ℕ → Bool
stands own bits field position =
    nat_lt 0 position && (nat_le (slice_index own (field + 1) + position) (stop_of own bits field) && (nat_le (slice_index own (field + 1) + position) (length bits) && not (slice_index bits (slice_index own (field + 1) + position - 1) == 1)))

abbrev pub span_bytes : Option FieldSpan → FieldSpan → List ℕ
span_bytes before span = number span.0 ++ (number span.1.zone ++ (number span.1.first ++ number (span.1.last - span.1.first)))

abbrev pub and_span : Option FieldSpan → FieldSpan → Option FieldSpan
and_span before span = Some span

pub record IsSpan (own bits : List ℕ) (before : Option FieldSpan) (span : FieldSpan) : Type 0 where
  pub field : span.0 + 1 < length own
  pub small : span.0 < 2 ^ 32
  pub zone : span.1.zone < 2 ^ 16
  pub first : span.1.first < 2 ^ 32
  pub order : span.1.first ≤ span.1.last
  pub size : span.1.last - span.1.first < 2 ^ 32
  pub begins : stands own bits span.0 span.1.first ≡ true
  pub ends : stands own bits span.0 span.1.last ≡ true
  pub behind : is_behind before span ≡ true

abbrev pub spans_bytes : List FieldSpan → List ℕ
spans_bytes spans = spelled span_bytes and_span None spans

-- four short numbers
abbrev pub four_bytes : ℕ → ℕ → ℕ → ℕ → List ℕ
four_bytes a b c d = number a ++ (number b ++ (number c ++ number d))

pub record AreFour (bytes : List ℕ) (at a b c d : ℕ) (rest : List ℕ) : Type 0 where
  pub fit : (a < 2 ^ 32) × (b < 2 ^ 32) × (c < 2 ^ 32) × (d < 2 ^ 32)
  pub here : drop at bytes ≡ four_bytes a b c d ++ rest

-- the number of spans, and these
abbrev pub counted_spans : List FieldSpan → List ℕ
counted_spans spans = number (length spans) ++ spans_bytes spans

pub record AreCountedSpans (own bits bytes : List ℕ) (at : ℕ) (spans : List FieldSpan) (rest : List ℕ) : Type 0 where
  pub few : length spans < 2 ^ 32
  pub fit : AllFit and_span (IsSpan own bits) None spans
  pub here : drop at bytes ≡ counted_spans spans ++ rest
