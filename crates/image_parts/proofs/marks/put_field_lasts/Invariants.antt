use Rattle.std.proofs.Common.{◌≡◌, ◌++◌, ℕ, List, length, drop, map, take}
use Rattle.std.specs.List.{flat_map}
use Rattle.doc_types.specs.declared.tokens.FieldTokens.{FieldTokens}
use Rattle.doc_types.specs.Chunks.{last_position}
use Rattle.chunk_image.specs.Marks.{field_numbers}
use Rattle.image_parts.specs.steps.Reading.{AreNumbersAt}
use Rattle.image_parts.proofs.marks.put_field_lasts.Given as goal

abbrev pub invariant-fields : goal.invariant-fields
invariant-fields l =
    (fields : List FieldTokens) (others : List ℕ) → AreNumbersAt l.bytes l.at (flat_map field_numbers fields ++ others) → length fields ≡ l.count →
    AreNumbersAt l.bytes l.place (flat_map field_numbers (drop l.counter fields) ++ others) × (l.into.items ≡ l.fn.into.items ++ map last_position (take l.counter fields))
