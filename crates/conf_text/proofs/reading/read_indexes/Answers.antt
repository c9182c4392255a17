use Rattle.std.proofs.Common.{subst, sym}
use Rattle.conf_text.specs.Confs.{shapes_back}
use Rattle.conf_text.specs.Lines.{lines_of}
use Rattle.conf_text.specs.Sections.{indexes_in}
use Rattle.conf_text.specs.steps.Drafts.{AreIndexes}
use Rattle.conf_text.proofs.reading.read_indexes.Goals as goal

pub returns-in-Ok : goal.returns-in-Ok
returns-in-Ok c = (
  c.in-Ok.ensures.0,
  subst (AreIndexes (indexes_in (shapes_back (lines_of c.args.text.now)))) (sym c.new.ensures) c.in-Ok.ensures.1,
)

pub returns-in-Err : goal.returns-in-Err
returns-in-Err c = c.in-Err.ensures
