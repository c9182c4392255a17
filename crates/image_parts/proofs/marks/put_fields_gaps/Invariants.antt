use Rattle.std.proofs.Common.{◌≡◌, ◌++◌, ℕ, List, length, drop, take, All}
use Rattle.std.specs.List.{flat_map}
use Rattle.doc_types.specs.declared.tokens.FieldTokens.{FieldTokens}
use Rattle.doc_types.specs.Chunks.{gaps_of}
use Rattle.doc_types.proofs.FieldParts.{parts}
use Rattle.chunk_image.specs.Marks.{field_numbers}
use Rattle.image_parts.specs.steps.Reading.{AreNumbersAt, GoOn}
use Rattle.image_parts.proofs.marks.put_fields_gaps.Given as goal

abbrev pub invariant-fields : goal.invariant-fields
invariant-fields l =
    (fields : List FieldTokens) (others : List ℕ) → AreNumbersAt l.bytes l.at (flat_map field_numbers fields ++ others) → length fields ≡ l.count → All (λ tokens. GoOn 0 (gaps_of tokens)) fields →
    AreNumbersAt l.bytes l.place (flat_map field_numbers (drop l.field fields) ++ others) × (l.into.items ≡ l.fn.into.items ++ parts 0 gaps_of (take l.field fields))
