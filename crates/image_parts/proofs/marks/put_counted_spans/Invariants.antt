use Rattle.std.proofs.Common.{ℕ, List, ◌∷◌, length, All}
use Rattle.std.specs.List.{flat_map}
use Rattle.doc_types.specs.declared.tokens.ZoneSpan.{ZoneSpan}
use Rattle.chunk_image.specs.Marks.{span_numbers}
use Rattle.image_parts.specs.steps.Reading.{AreNumbersAt, IsRoomy}
use Rattle.image_parts.proofs.SpanSteps.{SpansLeft}
use Rattle.image_parts.proofs.marks.put_counted_spans.Given as goal

abbrev pub invariant-spans : goal.invariant-spans
invariant-spans l = (all : List (ℕ × ZoneSpan)) → AreNumbersAt l.bytes l.at (length all ∷ flat_map span_numbers all) → All IsRoomy all → SpansLeft l.bytes all l.fn.into.items l.into.items l.place l.count l.counter
