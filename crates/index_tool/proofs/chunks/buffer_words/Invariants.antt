use Rattle.std.proofs.Common.{Ok, take}
use Rattle.std.specs.List.{flat_map}
use Rattle.index_tool.specs.ToolLines.{word_line}
use Rattle.index_tool.specs.steps.Sides.{BuffersLines}
use Rattle.index_tool.proofs.chunks.buffer_words.Given as goal

abbrev pub invariant-numbers : goal.invariant-numbers
invariant-numbers g l = BuffersLines {T = Unit {0}} g.H.ToolHost (Ok tt) (flat_map (word_line l.entry (g.C.Chunk.content l.chunk)) (take l.number (g.C.Chunk.words_of l.chunk))) (l.initial.line.items, l.initial.host) (l.line.items, l.host)
