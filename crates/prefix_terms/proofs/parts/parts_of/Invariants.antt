use Rattle.std.proofs.Common.{take}
use Rattle.std.specs.List.{AllZip}
use Rattle.prefix_terms.specs.steps.Parts.{IsPartOf}
use Rattle.prefix_terms.proofs.parts.parts_of.Given as goal

abbrev pub invariant-loop-layer : goal.invariant-loop-layer
invariant-loop-layer g l = AllZip (IsPartOf l.beginning) (take l.layer-index l.layers) l.parts.items
