-- The last one of what is shown, and of steps.
use Rattle.std.proofs.Common.{◌≡◌, List, [], ◌∷◌, ◌++◌}
use Rattle.std.proofs.lemmas.List.Sums.{fold-append}
use Rattle.step_history.specs.History.{Base, Step, last_snapshot, snapshot_of}
use Rattle.step_history.proofs.Steps.{steps_then}
use Rattle.step_tokens.specs.Shows.{ShownValue}
use Rattle.step_line.specs.steps.Queues.{queued}

pub last_one : (base : Base) (xs : List Step) (x : Step) → last_snapshot base (xs ++ x ∷ []) ≡ snapshot_of x
last_one base xs x = steps_then base.opening xs (x ∷ [])

pub queued_one : (shown : ShownValue) (operations : List ShownValue) (next : ShownValue) → queued shown (operations ++ next ∷ []) ≡ next
queued_one shown operations next = fold-append (λ s o. o) shown operations (next ∷ [])
