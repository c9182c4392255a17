use Rattle.line_workers.proofs.Standing.{asked_for}
use Rattle.line_workers.proofs.laws.each_entry_was_asked_for.Goals as goal

pub returns : goal.returns
returns c = λ schema base index history events k entry one at. asked_for schema base index history events one k entry at
