use Rattle.std.proofs.Common.{ℕ, List, ◌∷◌, ◌++◌, length}
use Rattle.doc_types.specs.declared.tokens.Gap.{Gap}
use Rattle.chunk_image.specs.Marks.{gap_numbers}
use Rattle.image_parts.specs.steps.Reading.{AreNumbersAt, GoOn}
use Rattle.image_parts.proofs.GapSteps.{GapsLeft}
use Rattle.image_parts.proofs.marks.put_field_gaps.Given as goal

abbrev pub invariant-gaps : goal.invariant-gaps
invariant-gaps l =
    (all : List (ℕ × Gap)) (others : List ℕ) → AreNumbersAt l.bytes l.at (length all ∷ (gap_numbers 0 all ++ others)) → GoOn 0 all → GapsLeft l.bytes all others l.field l.fn.into.items l.into.items l.place l.position l.count l.counter
