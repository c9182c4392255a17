use Rattle.std.proofs.Common.{◌≡◌, map, string_bytes, length}
use Rattle.command_line.specs.steps.Words.{has_option_in}
use Rattle.command_line.proofs.options.has_option.Given as goal

abbrev pub invariant-options : goal.invariant-options
invariant-options l = has_option_in l.name (map string_bytes l.words) ≡ has_option_in l.name (map string_bytes l.rest)

abbrev pub decreases-options : goal.decreases-options
decreases-options l = length l.rest
