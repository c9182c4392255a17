use Rattle.std.proofs.Common.{take}
use Rattle.doc_search.specs.steps.Gathering.{Gathers, matching_in}
use Rattle.doc_search.specs.steps.Lacking.{sought_question}
use Rattle.doc_search.proofs.searching.search_layers.Given as goal

abbrev pub invariant-loop-layer : goal.invariant-loop-layer
invariant-loop-layer g l = Gathers g.S.Sink.Took (sought_question l.lacking l.question) l.fn.sink (matching_in (sought_question l.lacking l.question) (take l.layer-index l.layers)) l.sink
