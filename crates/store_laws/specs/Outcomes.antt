-- What the files of an index are: those of a directory, or damaged.
use Rattle.std.specs.Prelude.{ℕ, ◌<◌, Option, All}
use Rattle.chunk_store.specs.Images.{Image, contents}
use Rattle.doc_types.specs.declared.schema.Schema.{Schema}
use Rattle.store_steps.specs.Damage.{IsDamaged}
use Rattle.store_steps.specs.Directory.{Directory, Holds}
use Rattle.store_steps.specs.declared.damage.Damage.{Damage}

-- what stands in the files are bytes
abbrev pub HaveBytes : Image → Type 0
HaveBytes x = (file : ℕ) → All (λ byte. byte < 256) (contents (x file))

-- the files are those of a directory, or no slot is open
abbrev pub CanBeRead : Schema → Image → Type 0
CanBeRead schema x = (found : Option Directory) × Holds schema found x

-- the files have a first damage
abbrev pub AreDamaged : Schema → Image → Type 0
AreDamaged schema x = (damage : Damage) × IsDamaged schema x damage
