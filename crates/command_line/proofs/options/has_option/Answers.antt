use Rattle.std.proofs.Common.{◌∙◌, sym, string_bytes}
use Rattle.command_line.proofs.Lists.{none_in_less}
use Rattle.command_line.proofs.options.has_option.Goals as goal

pub returns : goal.returns
returns c = sym (c.options.invariant ∙ none_in_less string_bytes c.args.name.now c.options.rest.now c.in_default.ensures.first)
