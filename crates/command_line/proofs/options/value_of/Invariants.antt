use Rattle.std.proofs.Common.{◌≡◌, map, string_bytes, length}
use Rattle.command_line.specs.steps.Words.{value_in}
use Rattle.command_line.proofs.options.value_of.Given as goal

abbrev pub invariant-options : goal.invariant-options
invariant-options l = value_in l.name (map string_bytes l.words) ≡ value_in l.name (map string_bytes l.rest)

abbrev pub decreases-options : goal.decreases-options
decreases-options l = length l.rest
