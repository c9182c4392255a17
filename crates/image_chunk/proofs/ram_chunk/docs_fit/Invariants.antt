use Rattle.std.proofs.Common.{All, map, take}
use Rattle.image_parts.specs.Images.{HasZones}
use Rattle.image_write.specs.Written.{row_of}
use Rattle.image_chunk.proofs.ram_chunk.docs_fit.Given as goal

abbrev pub invariant-loop-doc : goal.invariant-loop-doc
invariant-loop-doc l = All HasZones (take l.doc-index (map (λ doc. row_of doc.now l.number) l.docs))
