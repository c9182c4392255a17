-- What some bytes are: an image, or damaged.
use Rattle.std.specs.Prelude.{ℕ, List}
use Rattle.doc_types.specs.declared.schema.Schema.{Schema}
use Rattle.chunk_damage.specs.declared.fault.BadChunk.{BadChunk}
use Rattle.chunk_damage.specs.Damage.{IsBadChunk}

-- the bytes have a first damage
abbrev pub IsDamaged : Schema → List ℕ → Type 0
IsDamaged schema bytes = (bad : BadChunk) × IsBadChunk schema bytes bad

-- one of two facts holds: it can't be that neither does, nor that both do
pub record IsEither (this that : Type 0) : Type 0 where
  pub some : (this → ⊥) → (that → ⊥) → ⊥
  pub one : this → that → ⊥
