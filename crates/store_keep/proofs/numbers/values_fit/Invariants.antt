use Rattle.std.proofs.Common.{ℕ, ◌<◌, get_or}
use Rattle.doc_types.specs.declared.schema.Value.{Value}
use Rattle.doc_bytes.specs.RoundTrip.{IsNumber}
use Rattle.store_keep.proofs.numbers.values_fit.Given as goal

abbrev pub invariant-loop-value : goal.invariant-loop-value
invariant-loop-value l = (d : Value) (k : ℕ) → k < l.value-index → IsNumber (get_or l.values k d)
