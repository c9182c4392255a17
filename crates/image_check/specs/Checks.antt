-- What a check of bytes answers: no part is damaged, or this is the first damage. Want of memory alone is a free answer.
use Rattle.std.specs.Prelude.{ℕ, List, Result, Ok, Err}
use Rattle.srch_base.specs.declared.faults.Or.{Or}
use Rattle.srch_base.specs.declared.faults.Or.TheVariants.{NoMemory, Fault}
use Rattle.doc_types.specs.declared.schema.Schema.{Schema}
use Rattle.chunk_damage.specs.declared.fault.BadChunk.{BadChunk}
use Rattle.chunk_damage.specs.Damage.{IsBadChunk, IsUndamaged}

abbrev pub Checks : Schema → List ℕ → Result (Unit {0}) (Or BadChunk) → Type 0
Checks schema bytes (Ok u) = IsUndamaged schema bytes
Checks schema bytes (Err NoMemory) = Unit {0}
Checks schema bytes (Err (Fault bad)) = IsBadChunk schema bytes bad
