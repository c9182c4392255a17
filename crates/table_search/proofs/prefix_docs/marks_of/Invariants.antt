use Rattle.std.proofs.Common.{take}
use Rattle.table_search.proofs.Marks.{AreMarked}
use Rattle.table_search.proofs.prefix_docs.marks_of.Given as goal

abbrev pub invariant-words : goal.invariant-words
invariant-words g l = AreMarked (g.C.Chunk.content l.chunk) (take l.word-index l.words) l.marks.items
