-- Zones of a row that is made of its parts have room in 16 bits.
use Rattle.std.proofs.Common.{ℕ, zero, suc, ◌+◌, ◌<◌, ◌^◌, List, [], ◌∷◌, map, take, drop, Option, Some, None, All}
use Rattle.std.specs.List.{AllByRecursion}
use Rattle.std.proofs.lemmas.List.Elements.{All-from_recursion}
use Rattle.doc_types.specs.declared.tokens.FieldTokens.{FieldTokens}
use Rattle.doc_types.specs.declared.tokens.TokenWord.{TokenWord}
use Rattle.doc_types.specs.declared.tokens.ZoneSpan.{ZoneSpan}
use Rattle.byte_fields.specs.Fields.{AllFrom}
use Rattle.doc_bytes.specs.Reading.{FieldSpan, later_spans, own_count, with_spans}
use Rattle.doc_bytes.proofs.Spans.{SpanFits}
use Rattle.image_parts.specs.Images.{HasZones}
use Rattle.chunk_damage.specs.WordLists.{Entry}
use Rattle.chunk_damage.specs.RowMarks.{RowMarks}
use Rattle.image_rows.specs.steps.Owned.{row_words, word_at}
use Rattle.image_rows.specs.steps.Contents.{RowColumns, rows_made}
use Rattle.image_rows.specs.steps.ContentsOf.{GoodRows}

abbrev IsShort : FieldSpan → Type 0
IsShort span = span.1.zone < 2 ^ 16

front : (n : ℕ) (spans : List FieldSpan) → AllByRecursion IsShort spans
    → AllByRecursion (λ (span : ZoneSpan). span.zone < 2 ^ 16) (map (λ (span : FieldSpan). span.1) (take n spans))
front zero spans short = tt
front (suc n) [] short = tt
front (suc n) (s ∷ spans) short = (short.0, front n spans short.1)

back : (n : ℕ) (spans : List FieldSpan) → AllByRecursion IsShort spans → AllByRecursion IsShort (drop n spans)
back zero spans short = short
back (suc n) [] short = tt
back (suc n) (s ∷ spans) short = back n spans short.1

fields_short : (n : ℕ) (fields : List (List TokenWord)) (spans : List FieldSpan) → AllByRecursion IsShort spans
    → AllByRecursion (λ (tokens : FieldTokens). All (λ (span : ZoneSpan). span.zone < 2 ^ 16) tokens.spans) (with_spans n fields spans)
fields_short n [] spans short = tt
fields_short n (words ∷ fields) spans short = (
  All-from_recursion (λ (span : ZoneSpan). span.zone < 2 ^ 16) (map (λ (span : FieldSpan). span.1) (take (own_count n spans) spans)) (front (own_count n spans) spans short),
  fields_short (n + 1) fields (later_spans n spans) (back (own_count n spans) spans short),
)

spans_short : (fields : List (List TokenWord)) (before : Option FieldSpan) (spans : List FieldSpan) → AllFrom (SpanFits fields) Some before spans
    → AllByRecursion IsShort spans
spans_short fields before [] fit = tt
spans_short fields before (s ∷ spans) fit = (fit.0.0.zone, spans_short fields (Some s) spans fit.1)

pub rows_short : (fields : ℕ) (words : List (List ℕ)) (lists : List (List Entry)) (n : ℕ) (columns : List RowColumns) (marks : List RowMarks)
    → GoodRows fields words lists n marks → AllByRecursion HasZones (rows_made words lists n columns marks)
rows_short fields words lists n [] marks good = tt
rows_short fields words lists n (first ∷ columns) [] good = tt
rows_short fields words lists n (first ∷ columns) (m ∷ marks) good =
    let its = row_words (word_at words lists n) 0 m.fields in
    let short = fields_short 0 its m.spans (spans_short its None m.spans good.0.spans) in (
      record { fit = All-from_recursion (λ (tokens : FieldTokens). All (λ (span : ZoneSpan). span.zone < 2 ^ 16) tokens.spans) (with_spans 0 its m.spans) short },
      rows_short fields words lists (n + 1) columns marks good.1,
    )
