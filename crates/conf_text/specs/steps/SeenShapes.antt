-- What a shape is without where its texts lie in memory.
use Rattle.std.specs.Prelude.{ℕ, length}
use Rattle.conf_text.specs.declared.shape.Shape.{Shape as CodeShape}
use Rattle.conf_text.specs.declared.shape.Shape.TheVariants as shapes
use Rattle.conf_text.specs.Shapes.{Shape, blank, index_head, other_head, unknown_head, opening, closing, entry, misformed, small}

abbrev pub seen : CodeShape → Shape
seen shapes.Blank = blank
seen (shapes.IndexHead name opens) = index_head (small name.now) opens
seen (shapes.OtherHead opens) = other_head opens
seen shapes.UnknownHead = unknown_head
seen shapes.Opening = opening
seen shapes.Closing = closing
seen (shapes.Entry key value) = entry key value.now
seen shapes.Misformed = misformed

-- the length of an entry's value
abbrev pub value_length : Shape → ℕ
value_length (entry key value) = length value
value_length _ = 0
