-- The spans of a row, one at a time.
use Rattle.std.proofs.Common.{◌≡◌, ℕ, ◌+◌, ◌-◌, ◌<◌, ◌≤◌, List, [], ◌∷◌, ◌++◌, length, take, drop, sym, ap, subst, ◌∙◌, arith, append-nil, append_assoc, All}
use Rattle.std.specs.List.{flat_map}
use Rattle.std.proofs.lemmas.List.{take_all}
use Rattle.doc_types.specs.declared.tokens.ZoneSpan.{ZoneSpan}
use Rattle.chunk_image.specs.Marks.{span_numbers}
use Rattle.image_parts.specs.steps.Reading.{AreNumbersAt, IsRoomy}
use Rattle.image_parts.proofs.FieldSteps.{Ahead, ahead}

pub record SpansLeft (bytes : List ℕ) (all start list : List (ℕ × ZoneSpan)) (place count i : ℕ) : Type 0 where
  pub counted : count ≡ length all
  pub numbers : AreNumbersAt bytes place (flat_map span_numbers (drop i all))
  pub grown : list ≡ start ++ take i all

pub spans_none : (bytes : List ℕ) (all start : List (ℕ × ZoneSpan)) (place count : ℕ) → (count ≡ length all) × AreNumbersAt bytes place (flat_map span_numbers all) → SpansLeft bytes all start start place count 0
spans_none bytes all start place count its = record { counted = its.0; numbers = its.1; grown = sym (append-nil start) }

pub record SpanStep (bytes : List ℕ) (all : List (ℕ × ZoneSpan)) (place i : ℕ) : Type 0 where
  pub span : Ahead all i
  pub numbers : AreNumbersAt bytes place (span_numbers span.one ++ flat_map span_numbers (drop (i + 1) all))
  pub roomy : IsRoomy span.one

pub span_step : (bytes : List ℕ) (all start list : List (ℕ × ZoneSpan)) (place count i : ℕ) → SpansLeft bytes all start list place count i → All IsRoomy all → i < count → SpanStep bytes all place i
span_step bytes all start list place count i left roomy low =
    let in_all : i < length all = omega (arith, low, left.counted) in
    let a = ahead all i in_all in
    record {
      span = a;
      numbers = subst (λ ss. AreNumbersAt bytes place (flat_map span_numbers ss)) a.drops left.numbers;
      roomy = subst IsRoomy (sym a.is) (roomy i a.one in_all);
    }

pub spans_more : (bytes : List ℕ) (all start list after : List (ℕ × ZoneSpan)) (place next count i : ℕ) (made : ℕ × ZoneSpan) → SpansLeft bytes all start list place count i → (s : SpanStep bytes all place i)
    → (made ≡ s.span.one) × AreNumbersAt bytes next (flat_map span_numbers (drop (i + 1) all)) → after ≡ list ++ made ∷ [] → SpansLeft bytes all start after next count (i + 1)
spans_more bytes all start list after place next count i made left s its put = record {
  counted = left.counted;
  numbers = its.1;
  grown = put ∙ ap (λ l. l ++ made ∷ []) left.grown ∙ append_assoc start (take i all) (made ∷ []) ∙ ap (λ l. start ++ l) (ap (λ m. take i all ++ m ∷ []) its.0 ∙ sym s.span.takes);
}

pub spans_all : (bytes : List ℕ) (all start list : List (ℕ × ZoneSpan)) (place count i : ℕ) → SpansLeft bytes all start list place count i → count ≤ i → list ≡ start ++ all
spans_all bytes all start list place count i left past = left.grown ∙ ap (λ l. start ++ l) (take_all i all (omega (arith, past, left.counted)))

-- what the four numbers of a span tell
pub span_told : (span : ℕ × ZoneSpan) (field zone first size last : ℕ) → IsRoomy span → field ≡ span.0 → zone ≡ span.1.zone → first ≡ span.1.first → size ≡ span.1.last - span.1.first → last ≡ first + size
    → (field, record { zone = zone; first = first; last = last }) ≡ span
span_told span field zone first size last roomy f z s l e =
    let end : last ≡ span.1.last = omega (arith, e, s, l, roomy.order) in
    λ i. (f i, record { zone = z i; first = s i; last = end i })
