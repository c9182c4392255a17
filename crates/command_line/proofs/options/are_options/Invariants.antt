use Rattle.std.proofs.Common.{◌≡◌, map, string_bytes, length}
use Rattle.command_line.specs.steps.Words.{are_options_in}
use Rattle.command_line.proofs.options.are_options.Given as goal

abbrev pub invariant-options : goal.invariant-options
invariant-options l = are_options_in (map (λ name. name.now) l.names) (map string_bytes l.words) ≡ are_options_in (map (λ name. name.now) l.names) (map string_bytes l.rest)

abbrev pub decreases-options : goal.decreases-options
decreases-options l = length l.rest
