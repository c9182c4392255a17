use Rattle.query_marks.proofs.RunSteps.{spells_next}
use Rattle.query_marks.proofs.keys.all_keys.Goals as goal

pub runs-preserved : goal.runs-preserved
runs-preserved c = spells_next _ _ _ _ _ _ _ c.run_len-len.ensures.len c.after_run-rest.ensures.rest c.in_ok-put_key.ensures c.runs.invariant
