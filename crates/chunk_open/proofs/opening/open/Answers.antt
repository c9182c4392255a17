use Rattle.std.proofs.Common.{ℕ, List, rules, subst}
use Rattle.image_rows.specs.Images.{IsImage}
use Rattle.chunk_open.proofs.Kept.{its_rows, kept}
use Rattle.chunk_open.proofs.opening.open.Goals as goal

pub over-requires : goal.over-requires
over-requires c =
    let is : IsImage c.args.schema.now c.args.image.items = subst (λ (bytes : List ℕ). IsImage c.args.schema.now bytes) c.as_slice.ensures.value c.in-Ok.ensures in
    kept c.args.schema.now c.args.image.items c.requires (search rules) is

pub returns-in-Ok-over : goal.returns-in-Ok-over
returns-in-Ok-over c =
    let is : IsImage c.args.schema.now c.args.image.items = subst (λ (bytes : List ℕ). IsImage c.args.schema.now bytes) c.as_slice.ensures.value c.in-Ok.ensures in
    let its = its_rows c.args.schema.now c.args.image.items c.in-Ok-over.chunk.image.0.0 c.requires (search rules) is c.in-Ok-over.ensures.content in
    record { kept = c.in-Ok-over.ensures.bytes; of = its.0; small = its.1; are = its.2 }
