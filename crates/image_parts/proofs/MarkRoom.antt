-- The numbers of a row's marks have room, and its boundaries and spans are in order.
use Rattle.std.proofs.Common.{◌≡◌, ℕ, zero, suc, ◌+◌, ◌-◌, ◌*◌, ◌<◌, ◌≤◌, ◌^◌, Bool, true, false, cond, List, [], ◌∷◌, Some, None, Option, length, slice_get, get_or, map, refl, sym, ap, ◌∙◌, arith, All, length-append}
use Rattle.std.specs.Prelude.{sum_by}
use Rattle.std.specs.Coded.{codes, le_prop}
use Rattle.std.specs.List.{filter, flat_map}
use Rattle.std.specs.Option.{option_map_or}
use Rattle.std.proofs.Props.{props}
use Rattle.std.proofs.Math.Logic.{∥∥₁_elim}
use Rattle.std.proofs.lemmas.List.{length-map}
use Rattle.std.proofs.lemmas.List.Elements.{All-append, All-cons, All-map, All-nil}
use Rattle.std.proofs.lemmas.List.Sums.{sum_by-cons}
use Rattle.doc_types.specs.declared.documents.DocRow.{DocRow}
use Rattle.doc_types.specs.declared.schema.Schema.{Schema}
use Rattle.doc_types.specs.declared.tokens.FieldTokens.{FieldTokens}
use Rattle.doc_types.specs.declared.tokens.Gap.{Gap}
use Rattle.doc_types.specs.declared.tokens.Gap.TheVariants as gaps
use Rattle.doc_types.specs.declared.tokens.TheConstants.{MAX_POSITION}
use Rattle.doc_types.specs.declared.tokens.TokenWord.{TokenWord}
use Rattle.doc_types.specs.declared.tokens.ZoneSpan.{ZoneSpan}
use Rattle.doc_types.specs.Chunks.{gaps_of, is_boundary, last_position, spans_of}
use Rattle.doc_types.specs.Documents.{Follow, IsDocOf, IsField, IsSpanOver, step}
use Rattle.doc_types.specs.Schemas.{IsSchema}
use Rattle.doc_types.proofs.FieldParts.{parts}
use Rattle.doc_types.proofs.Numbers.{All-tail, few_words}
use Rattle.chunk_image.specs.Marks.{field_numbers, gap_numbers, kind_bit, mark_numbers, span_numbers}
use Rattle.image_parts.specs.Images.{HasZones, HaveImage, IsWhole}
use Rattle.image_parts.specs.steps.Reading.{GoOn, IsRoomy}
use Rattle.image_parts.proofs.RowPlaces.{at_element}

abbrev pub Small : ℕ → Type 0
Small n = n < 2 ^ 32

pub record IsMarked (row : DocRow) : Type 0 where
  pub gaps : All (λ tokens. GoOn 0 (gaps_of tokens)) row.doc.fields
  pub spans : All IsRoomy (spans_of row)
  pub fit : All Small (mark_numbers row)

-- boundaries
abbrev marks_in : List TokenWord → List (ℕ × Gap)
marks_in words = map (λ token. (token.position - 1, token.gap)) (filter (λ token. is_boundary token.gap) words)

go_on : (low before : ℕ) (words : List TokenWord) → low ≤ before → Follow before words → All (λ word. word.position ≤ MAX_POSITION) words → GoOn low (marks_in words)
go_on low before [] at follow within = tt
go_on low before (t ∷ ts) at follow within =
    let here : t.position ≤ MAX_POSITION = within zero t (omega arith) in
    let others = All-tail (λ (word : TokenWord). word.position ≤ MAX_POSITION) t ts within in
    elim t.gap as (λ g. t.gap ≡ g → GoOn low (map (λ (token : TokenWord). (token.position - 1, token.gap)) (cond (is_boundary g) (t ∷ filter (λ token. is_boundary token.gap) ts) (filter (λ token. is_boundary token.gap) ts)))) [
      | gaps.None ↦ λ kind. go_on low t.position ts (omega (arith, at, follow.0)) follow.1 others
      | gaps.Sentence ↦ λ kind. let size : step t.gap ≡ 2 = ap step kind in (omega (arith, at, follow.0, size), omega (arith, here), ap is_boundary kind, go_on (t.position - 1) t.position ts (omega arith) follow.1 others)
      | gaps.Paragraph ↦ λ kind. let size : step t.gap ≡ 2 = ap step kind in (omega (arith, at, follow.0, size), omega (arith, here), ap is_boundary kind, go_on (t.position - 1) t.position ts (omega arith) follow.1 others)
    ] refl

kind_small : (gap : Gap) → kind_bit gap ≤ 1
kind_small gaps.None = omega arith
kind_small gaps.Sentence = omega arith
kind_small gaps.Paragraph = omega arith

gaps_fit : (before : ℕ) (gs : List (ℕ × Gap)) → GoOn before gs → All Small (gap_numbers before gs)
gaps_fit before [] on = All-nil Small
gaps_fit before (g ∷ gs) on = All-cons Small (2 * (g.0 - before) + kind_bit g.1) (gap_numbers g.0 gs) (omega (arith, on.1, kind_small g.1)) (gaps_fit g.0 gs on.3)

-- fields
last_small : (words : List TokenWord) (n : ℕ) → All (λ word. word.position ≤ MAX_POSITION) words → option_map_or (λ (token : TokenWord). token.position) (slice_get words n) 0 ≤ MAX_POSITION
last_small words n within = go (slice_get words n) refl where
  go : (found : Option TokenWord) → slice_get words n ≡ found → option_map_or (λ (token : TokenWord). token.position) found 0 ≤ MAX_POSITION
  go None e = omega arith
  go (Some token) e = at_element (λ (word : TokenWord). word.position ≤ MAX_POSITION) words n token e within

kept : {X : Type 0} (p : X → Bool) (xs : List X) → length (filter p xs) ≤ length xs
kept p [] = omega arith
kept p (x ∷ xs) =
    let rest = kept p xs in
    elim (p x) as (λ b. length (cond b (x ∷ filter p xs) (filter p xs)) ≤ suc (length xs)) [ true ↦ omega (arith, rest) | false ↦ omega (arith, rest) ]

gap_count : (tokens : FieldTokens) → IsField tokens → Small (length (gaps_of tokens))
gap_count tokens is =
    let kept_words : List TokenWord = filter (λ token. is_boundary token.gap) tokens.words in
    omega (arith, few_words tokens is, kept (λ (token : TokenWord). is_boundary token.gap) tokens.words, length-map {B = ℕ × Gap} kept_words (λ token. (token.position - 1, token.gap)))

field_fits : (tokens : FieldTokens) → IsField tokens → All Small (field_numbers tokens)
field_fits tokens is =
    let last : last_position tokens ≤ MAX_POSITION = last_small tokens.words (length tokens.words - 1) is.within in
    All-cons Small (last_position tokens) (length (gaps_of tokens) ∷ gap_numbers 0 (gaps_of tokens)) (omega (arith, last))
    (All-cons Small (length (gaps_of tokens)) (gap_numbers 0 (gaps_of tokens)) (gap_count tokens is) (gaps_fit 0 (gaps_of tokens) (go_on 0 0 tokens.words (omega arith) is.placed.follow is.within)))

fields_fit : (fields : List FieldTokens) → All IsField fields → All Small (flat_map field_numbers fields)
fields_fit [] are = All-nil Small
fields_fit (f ∷ fs) are = All-append Small (field_numbers f) (flat_map field_numbers fs) (field_fits f (are zero f (omega arith))) (fields_fit fs (All-tail IsField f fs are))

-- spans
span_last : (tokens : FieldTokens) → IsField tokens → (span : ZoneSpan) → IsSpanOver tokens.words span → span.last ≤ MAX_POSITION
span_last tokens is span over =
    let ends = over.ends in
    let at : (get_or tokens.words ends.0 ends.1).position ≡ span.last = ap (λ (word : TokenWord). word.position) ends.3 ∙ ends.4 in
    omega (arith, at, is.within ends.0 ends.1 ends.2)

abbrev Zoned : FieldTokens → Type 0
Zoned tokens = All (λ span. span.zone < 2 ^ 16) tokens.spans

rooms : (n : ℕ) (fields : List FieldTokens) → n + length fields ≤ 65535 → All IsField fields → All Zoned fields → All IsRoomy (parts n (λ (f : FieldTokens). f.spans) fields)
rooms n [] few are zoned = All-nil IsRoomy
rooms n (f ∷ fs) few are zoned =
    let is : IsField f = are zero f (omega arith) in
    let zones : Zoned f = zoned zero f (omega arith) in
    let own : All (λ (span : ZoneSpan). IsRoomy (n, span)) f.spans = λ k d low.
    let last = span_last f is (get_or f.spans k d) (is.spans k d low) in
    record { field = omega (arith, few); zone = zones k d low; order = (is.spans k d low).order; last = omega (arith, last) } in
    All-append IsRoomy (map (λ span. (n, span)) f.spans) (parts (n + 1) (λ (f : FieldTokens). f.spans) fs) (All-map IsRoomy (λ (span : ZoneSpan). (n, span)) f.spans own)
    (rooms (n + 1) fs (omega (arith, few)) (All-tail IsField f fs are) (All-tail Zoned f fs zoned))

span_fits : (span : ℕ × ZoneSpan) → IsRoomy span → All Small (span_numbers span)
span_fits span is =
    All-cons Small span.0 (span.1.zone ∷ span.1.first ∷ (span.1.last - span.1.first) ∷ []) (omega (arith, is.field))
    (All-cons Small span.1.zone (span.1.first ∷ (span.1.last - span.1.first) ∷ []) (omega (arith, is.zone))
    (All-cons Small span.1.first ((span.1.last - span.1.first) ∷ []) (omega (arith, is.order, is.last))
    (All-cons Small (span.1.last - span.1.first) [] (omega (arith, is.last)) (All-nil Small))))

spans_fit : (spans : List (ℕ × ZoneSpan)) → All IsRoomy spans → All Small (flat_map span_numbers spans)
spans_fit [] are = All-nil Small
spans_fit (s ∷ ss) are = All-append Small (span_numbers s) (flat_map span_numbers ss) (span_fits s (are zero s (omega arith))) (spans_fit ss (All-tail IsRoomy s ss are))

spans_counted : (n : ℕ) (fields : List FieldTokens) → length (parts n (λ (f : FieldTokens). f.spans) fields) ≡ sum_by (λ (f : FieldTokens). length f.spans) fields
spans_counted n [] = refl
spans_counted n (f ∷ fs) =
    let own : List (ℕ × ZoneSpan) = map (λ s. (n, s)) f.spans in
    length-append own (parts (n + 1) (λ (f : FieldTokens). f.spans) fs) ∙ ap (λ k. k + length (parts (n + 1) (λ (f : FieldTokens). f.spans) fs)) (length-map {B = ℕ × ZoneSpan} f.spans (λ s. (n, s))) ∙ ap (λ k. length f.spans + k) (spans_counted (n + 1) fs)
    ∙ sym (sum_by-cons (λ (f : FieldTokens). length f.spans) f fs)

marked_of : (schema : Schema) (row : DocRow) → IsSchema schema → IsDocOf schema row.doc → HasZones row → IsMarked row
marked_of schema row limits is zones =
    let spans : All IsRoomy (spans_of row) = rooms 0 row.doc.fields (omega (arith, is.fields, limits.few_fields)) is.tokens zones.fit in
    record {
      gaps = λ k d low. let own = is.tokens k d low in go_on 0 0 (get_or row.doc.fields k d).words (omega arith) own.placed.follow own.within;
      spans = spans;
      fit = All-append Small (flat_map field_numbers row.doc.fields) (length (spans_of row) ∷ flat_map span_numbers (spans_of row)) (fields_fit row.doc.fields is.tokens)
          (All-cons Small (length (spans_of row)) (flat_map span_numbers (spans_of row)) (omega (arith, spans_counted 0 row.doc.fields, is.few_spans)) (spans_fit (spans_of row) spans));
    }

go_on_prop : (before : ℕ) (gs : List (ℕ × Gap)) → IsProp (GoOn before gs)
go_on_prop before [] = hlevel props
go_on_prop before (g ∷ gs) = hlevel (props, le_prop, go_on_prop g.0 gs)

pub marked : (rows : List DocRow) (words : List (List ℕ)) (bytes : List ℕ) → HaveImage rows words bytes → (i : ℕ) (row : DocRow) → slice_get rows i ≡ Some row → IsMarked row
marked rows words bytes have i row e =
    ∥∥₁_elim have (hlevel (codes, le_prop, props, go_on_prop)) (λ (is : IsWhole rows words bytes).
    marked_of is.schema row is.limits (at_element (λ (row : DocRow). IsDocOf is.schema row.doc) rows i row e is.of.docs) (at_element HasZones rows i row e is.zones))
