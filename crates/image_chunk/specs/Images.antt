-- Whose image some bytes are. They are of one list of rows at most, so a chunk that keeps the bytes keeps the rows.
use Rattle.std.specs.Prelude.{ℕ, List}
use Rattle.doc_types.specs.declared.documents.DocRow.{DocRow}
use Rattle.image_parts.specs.Images.{HaveImage}

-- the rows, and their words, whose image the bytes are
abbrev pub Image : List ℕ → Type 0
Image bytes = (kept : List DocRow × List (List ℕ)) × HaveImage kept.0 kept.1 bytes
