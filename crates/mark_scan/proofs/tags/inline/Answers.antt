use Rattle.std.proofs.Common.{◌∙◌}
use Rattle.mark_scan.specs.Tags.{inline_tags}
use Rattle.mark_scan.proofs.Among.{among_found}
use Rattle.mark_scan.proofs.tags.inline.Goals as goal

pub returns : goal.returns
returns c = c.is_some.ensures ∙ among_found c.inline_table.result inline_tags c.args.name.now c.find.result c.inline_table.ensures.words c.find.ensures
