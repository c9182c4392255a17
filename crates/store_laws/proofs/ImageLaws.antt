-- The laws of images, as chunks want them.
use Rattle.doc_types.specs.declared.schema.Schema.{Schema}
use Rattle.doc_types.specs.Schemas.{IsSchema}
use Rattle.damage_laws.proofs.NoDamage.{no_damage}
use Rattle.damage_laws.proofs.OneDamage.{one_damage}
use Rattle.store_laws.proofs.OneChunk.{ImageLaws}

pub image_laws : (schema : Schema) → IsSchema schema → ImageLaws schema
image_laws schema limits = record { never = λ rows bytes bad of zones image short. no_damage schema rows bytes bad limits of zones image short; one = λ bytes bad other one two. one_damage schema bytes bad other one two }
