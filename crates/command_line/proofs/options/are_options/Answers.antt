use Rattle.std.proofs.Common.{◌∙◌, sym, string_bytes, map}
use Rattle.command_line.proofs.Lists.{all_in_less}
use Rattle.command_line.proofs.options.are_options.Goals as goal

pub returns : goal.returns
returns c =
    c.is_empty.ensures ∙ all_in_less string_bytes (map (λ name. name.now) c.args.names.now) c.options.rest.now c.in_default.ensures.first ∙ sym c.options.invariant
