use Rattle.std.proofs.Common.{◌∙◌, ap₂, rules}
use Rattle.clap.specs.Words.{with_rule}
use Rattle.command_line.proofs.commands.serve_command.Goals as goal

pub returns : goal.returns
returns c =
    c.in_ok-serve.ensures.shape (search rules)
    ∙ ap₂ with_rule (c.in_ok-arg-3.ensures.shape (search rules)
    ∙ ap₂ with_rule (c.in_ok-arg-2.ensures.shape (search rules)
    ∙ ap₂ with_rule (c.in_ok-arg.ensures.shape (search rules)
    ∙ ap₂ with_rule c.command.ensures c.text.ensures.rule) c.text-2.ensures.rule) c.defaulted.ensures.rule) c.defaulted-2.ensures.rule
