-- Spans: what is read of them is what was written, and the other way round.
use Rattle.std.proofs.Common.{◌≡◌, ℕ, ◌^◌, ◌<◌, true, List, ◌++◌, length, Ok, None, Some, Option, refl, ap, subst, ◌∙◌, append_assoc}
use Rattle.std.specs.List.{flat_map}
use Rattle.std.specs.Int.{w16, w32, to_le_bytes}
use Rattle.doc_types.specs.declared.tokens.TokenWord.{TokenWord}
use Rattle.byte_fields.specs.Fields.{◌>>=◌, AllFrom, as_one, many, number_at}
use Rattle.byte_fields.proofs.Taking.{Inverse, IsBytes, Takes, Takes-then, bind_ok, checked_inverse, inverse16, inverse32, ok_is, one_inverse, wide32}
use Rattle.byte_fields.proofs.Rows.{counted_inverse}
use Rattle.doc_bytes.specs.Payload.{span_bytes}
use Rattle.doc_bytes.specs.Reading.{FieldSpan, may_follow, numbers_at, span_at}

-- a span as it is written
abbrev pub tagged_bytes : FieldSpan → List ℕ
tagged_bytes span = span_bytes span.0 span.1

-- the numbers of a span fit
pub record HasSize (span : FieldSpan) : Type 0 where
  pub field : span.0 < 2 ^ 16
  pub zone : span.1.zone < 2 ^ 16
  pub first : span.1.first < 2 ^ 32
  pub last : span.1.last < 2 ^ 32

numbers_take : (bytes : List ℕ) (x : FieldSpan × List ℕ) → IsBytes bytes → numbers_at bytes ≡ Ok x → Takes bytes (tagged_bytes x.0) x.1 × HasSize x.0
unfolding numbers_at
numbers_take bytes x fits e =
    let a = bind_ok (number_at w16 bytes) _ x e in
    let b = bind_ok (number_at w16 a.0.1) _ x a.2 in
    let c = bind_ok (number_at w32 b.0.1) _ x b.2 in
    let d = bind_ok (number_at w32 c.0.1) (λ last. Ok ((a.0.0, record { zone = b.0.0; first = c.0.0; last = last.0 }), last.1)) x c.2 in
    let field = inverse16.takes bytes a.0 fits a.1 in
    let zone = inverse16.takes a.0.1 b.0 field.0.rest_fits b.1 in
    let first = inverse32.takes b.0.1 c.0 zone.0.rest_fits c.1 in
    let last = inverse32.takes c.0.1 d.0 first.0.rest_fits d.1 in
    let two = Takes-then bytes (to_le_bytes w16 a.0.0) a.0.1 (to_le_bytes w16 b.0.0) b.0.1 field.0 zone.0 in
    let three = Takes-then bytes (to_le_bytes w16 a.0.0 ++ to_le_bytes w16 b.0.0) b.0.1 (to_le_bytes w32 c.0.0) c.0.1 two first.0 in
    let four = Takes-then bytes (to_le_bytes w16 a.0.0 ++ to_le_bytes w16 b.0.0 ++ to_le_bytes w32 c.0.0) c.0.1 (to_le_bytes w32 d.0.0) d.0.1 three last.0 in
    let made : FieldSpan × List ℕ = ((a.0.0, record { zone = b.0.0; first = c.0.0; last = d.0.0 }), d.0.1) in
    subst (λ (y : FieldSpan × List ℕ). Takes bytes (tagged_bytes y.0) y.1 × HasSize y.0) (ok_is made x d.2) (four, record { field = field.1; zone = zone.1; first = first.1; last = last.1 })

numbers_again : (span : FieldSpan) (rest : List ℕ) → HasSize span → numbers_at (tagged_bytes span ++ rest) ≡ Ok (span, rest)
unfolding numbers_at
numbers_again span rest fits =
    let field = to_le_bytes w16 span.0 in
    let zone = to_le_bytes w16 span.1.zone in
    let first = to_le_bytes w32 span.1.first in
    let last = to_le_bytes w32 span.1.last in
    let regrouped : (field ++ zone ++ first ++ last) ++ rest ≡ field ++ (zone ++ (first ++ (last ++ rest))) =
    append_assoc (field ++ zone ++ first) last rest ∙ append_assoc (field ++ zone) first (last ++ rest) ∙ append_assoc field zone (first ++ (last ++ rest)) in
    ap numbers_at regrouped ∙ rw (
      inverse16.again span.0 (zone ++ (first ++ (last ++ rest))) fits.field,
      inverse16.again span.1.zone (first ++ (last ++ rest)) fits.zone,
      inverse32.again span.1.first (last ++ rest) fits.first,
      inverse32.again span.1.last rest fits.last,
    ) refl

numbers_inverse : Inverse numbers_at tagged_bytes HasSize
numbers_inverse = record { takes = numbers_take; again = numbers_again }

-- a span that may follow another one
abbrev pub SpanFits : List (List TokenWord) → Option FieldSpan → FieldSpan → Type 0
SpanFits fields before span = HasSize span × (may_follow fields before span ≡ true)

pub span_inverse : (fields : List (List TokenWord)) (before : Option FieldSpan) → Inverse (span_at fields before) tagged_bytes (SpanFits fields before)
span_inverse fields before = checked_inverse (may_follow fields before) (as_one numbers_at) tagged_bytes HasSize (one_inverse numbers_at tagged_bytes HasSize numbers_inverse)

-- spans of some fields, one after the other
abbrev pub AreSpans : List (List TokenWord) → List FieldSpan → Type 0
AreSpans fields spans = (length spans < 2 ^ 32) × AllFrom (SpanFits fields) Some None spans

-- their number, and these
abbrev pub counted_bytes : List FieldSpan → List ℕ
counted_bytes spans = to_le_bytes w32 (length spans) ++ flat_map tagged_bytes spans

pub spans_inverse : (fields : List (List TokenWord)) → Inverse (λ bytes. number_at w32 bytes >>= λ count. many (span_at fields) Some count.0 None count.1) counted_bytes (AreSpans fields)
spans_inverse fields = counted_inverse (span_at fields) Some tagged_bytes (SpanFits fields) w32 (2 ^ 32) wide32 (span_inverse fields) None
