use Rattle.std.proofs.Common.{◌∙◌}
use Rattle.mark_scan.specs.Tags.{block_tags}
use Rattle.mark_scan.proofs.Among.{among_found}
use Rattle.mark_scan.proofs.tags.block.Goals as goal

pub returns : goal.returns
returns c = c.is_some.ensures ∙ among_found c.block_table.result block_tags c.args.name.now c.find.result c.block_table.ensures.words c.find.ensures
