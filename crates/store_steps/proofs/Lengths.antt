-- How long a record is.
use Rattle.std.proofs.Common.{◌≡◌, ◌+◌, List, [], ◌∷◌, map, refl, ◌∙◌, ap, arith, length}
use Rattle.doc_types.specs.Commits.{Change, Put, Kill, Clear, Entry, change_of}
use Rattle.doc_bytes.proofs.Lengths.{payload_size}
use Rattle.step_history.specs.Logs.{record_length}
use Rattle.step_history.proofs.LogEnds as ends
use Rattle.store_steps.specs.Batches.{batch_of, op_of, record_of, txn_of}

change_again : (change : Change) → change ≡ change_of (op_of change)
change_again (Put doc) = refl
change_again (Kill id) = refl
change_again Clear = refl

changes_again : (changes : List Change) → changes ≡ map change_of (map op_of changes)
changes_again [] = refl
changes_again (change ∷ changes) = ap (λ (c : Change). c ∷ changes) (change_again change) ∙ ap (λ (l : List Change). change_of (op_of change) ∷ l) (changes_again changes)

-- with its gate it takes as many bytes as are counted
pub record_size : (entry : Entry) → 13 + length (record_of (batch_of entry)).payload ≡ record_length entry
record_size entry = omega (arith, payload_size (txn_of entry.changes), ends.payload entry (txn_of entry.changes) (changes_again entry.changes))
