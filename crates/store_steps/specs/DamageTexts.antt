-- What the kinds of damage print.
use Rattle.std.specs.Prelude.{ℕ, List, codes}
use Rattle.chunk_damage.specs.declared.fault.ChunkKind.{ChunkKind}
use Rattle.chunk_damage.specs.declared.fault.ChunkKind.TheVariants as images
use Rattle.store_steps.specs.declared.damage.DamageKind.{DamageKind}
use Rattle.store_steps.specs.declared.damage.DamageKind.TheVariants as kinds

-- those of an image
abbrev pub image_text : ChunkKind → List ℕ
image_text images.Magic = codes "magic"
image_text images.Sizes = codes "sizes"
image_text images.RowOrder = codes "row order"
image_text images.Marks = codes "marks"
image_text images.WordTable = codes "word table"
image_text images.WordOrder = codes "word order"
image_text images.Postings = codes "postings"
image_text images.Cover = codes "cover"

abbrev pub damage_text : DamageKind → List ℕ
damage_text kinds.RootLength = codes "root length"
damage_text kinds.RootState = codes "root state"
damage_text kinds.RootSchema = codes "root schema"
damage_text kinds.ChunkMissing = codes "chunk missing"
damage_text kinds.ChunkLength = codes "chunk length"
damage_text (kinds.Image kind) = image_text kind
damage_text kinds.DeadRows = codes "dead rows"
damage_text kinds.Born = codes "born"
damage_text kinds.IdTwice = codes "id twice"
damage_text kinds.LogMissing = codes "log missing"
damage_text kinds.RecordLength = codes "record length"
damage_text kinds.RecordNumber = codes "record number"
damage_text kinds.RecordPayload = codes "record payload"
