use Rattle.std.proofs.Common.{◌≡◌, ◌++◌, ℕ, List, length, drop}
use Rattle.std.specs.List.{flat_map}
use Rattle.doc_types.specs.declared.tokens.FieldTokens.{FieldTokens}
use Rattle.chunk_image.specs.Marks.{field_numbers}
use Rattle.image_parts.specs.steps.Reading.{AreNumbersAt}
use Rattle.image_parts.proofs.marks.behind_fields.Given as goal

abbrev pub invariant-fields : goal.invariant-fields
invariant-fields l =
    (fields : List FieldTokens) (others : List ℕ) → AreNumbersAt l.bytes l.at (flat_map field_numbers fields ++ others) → length fields ≡ l.count → AreNumbersAt l.bytes l.place (flat_map field_numbers (drop l.counter fields) ++ others)
