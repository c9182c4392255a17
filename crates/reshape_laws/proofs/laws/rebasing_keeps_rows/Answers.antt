use Rattle.reshape_laws.proofs.Rebased.{live_same, apart_then, chunks, old_on_disk, same_rows}
use Rattle.reshape_laws.proofs.laws.rebasing_keeps_rows.Goals as goal

pub returns-clause-same : goal.returns-clause-same
returns-clause-same c = same_rows

pub returns-clause-rows : goal.returns-clause-rows
returns-clause-rows c = live_same

pub returns-clause-apart : goal.returns-clause-apart
returns-clause-apart c = apart_then

pub returns-clause-chunks : goal.returns-clause-chunks
returns-clause-chunks c = chunks

pub returns-clause-disk : goal.returns-clause-disk
returns-clause-disk c = old_on_disk
