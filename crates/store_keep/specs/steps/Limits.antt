-- Limits: that of the log alone.
use Rattle.std.specs.Prelude.{◌+◌, List, Option, Some, None, nat_lt, if◌then◌else◌}
use Rattle.doc_types.specs.Commits.{Change}
use Rattle.commit_outcomes.specs.declared.outcome.Full.{Full}
use Rattle.commit_outcomes.specs.declared.outcome.FullKind.TheVariants as limits
use Rattle.step_history.specs.History.{Base, Step}
use Rattle.step_history.specs.Logs.{log_at}
use Rattle.store_steps.specs.Refusals.{batch_length, most_log}

-- the log has no room for a record of these changes
abbrev pub full_log : Base → List Step → List Change → Option Full
full_log base steps changes = if nat_lt (most_log changes) (log_at base steps + batch_length changes) then Some (record { what = limits.Log; at = log_at base steps; need = batch_length changes }) else None
