-- What is made of the rows that a job takes is what the job makes.
use Rattle.std.proofs.Common.{◌≡◌, ◌∙◌, ◌+◌, ◌<◌, ◌≤◌, ◌∷◌, [], ℕ, List, All, not, length, refl, sym, ap, subst, arith}
use Rattle.std.specs.Prelude.{Option, Some, None, Result, Ok, Err, IfOk}
use Rattle.std.specs.List.{filter}
use Rattle.std.specs.List.Sorted.{IsPermutation}
use Rattle.std.proofs.lemmas.List.Elements.{All-filter, All-nil}
use Rattle.std.proofs.lemmas.List.Sorted.{IsPermutation-refl, length_permutation}
use Rattle.doc_types.specs.declared.documents.DocRow.{DocRow}
use Rattle.doc_types.specs.declared.schema.Schema.{Schema}
use Rattle.doc_types.specs.Chunks.{IsContent}
use Rattle.doc_types.specs.Documents.{AreRowsOf, IsDocOf}
use Rattle.doc_types.specs.Schemas.{IsSchema}
use Rattle.doc_types.specs.Snapshots.{LayerValue, SnapshotValue, all_living}
use Rattle.chunk_image.specs.ChunkImage.{IsImageOf}
use Rattle.image_chunk.specs.declared.image_chunk.ImageChunk.{ImageChunk}
use Rattle.image_join.specs.JoinedImages.{HasJoinedLength, IsJoinedImage}
use Rattle.image_join.proofs.Lengths.{one_length}
use Rattle.image_parts.specs.Images.{HasZones}
use Rattle.layer_joins.specs.Joins.{AreOfOne}
use Rattle.layer_joins.proofs.Livings.{docs_of}
use Rattle.reshape.proofs.Taking.{taken_of}
use Rattle.reshape_laws.specs.Rebasing.{some_chunk, staying, taken, taken_layers}
use Rattle.root_slots.specs.States.{most_chunks}
use Rattle.step_history.specs.declared.job.Job.{Job}
use Rattle.step_history.specs.declared.job.Job.TheVariants.{Flush, Optimize}
use Rattle.step_history.specs.History.{AreOf}
use Rattle.step_history.specs.Places.{ram_layers}
use Rattle.job_chunks.specs.Chunks.{NewChunkValue}
use Rattle.job_chunks.specs.Limits.{Builds, HasBytes, HasRoom}
use Rattle.job_chunks.specs.declared.limits.Staying.{Staying}
use Rattle.job_chunks.specs.declared.making.Made.{Made}
use Rattle.job_chunks.specs.declared.making.Made.TheVariants as mades
use Rattle.job_chunks.specs.steps.Making.{AreStaying, Makes, Takes, chunk_by, stays}
use Rattle.job_chunks.proofs.Staying.{staying_is}

has_some : (rows : List DocRow) (bytes : ℕ) → 0 < length rows → HasJoinedLength rows bytes → HasBytes rows bytes
has_some [] bytes some has = absurd (omega (arith, some))
has_some (row ∷ rows) bytes some has = has

-- the length of an image
pub whole_bytes : (rows : List DocRow) (image : List ℕ) → AreOfOne rows → 0 < length rows → IsJoinedImage rows image → HasBytes rows (length image)
whole_bytes rows image of some joined =
    let its = joined.is of.schema of.limits of.docs in
    has_some rows (length image) some (record {
      rows = joined.rows;
      moved = joined.are.moved;
      ascend = joined.are.ascend;
      long = record { words = its.words; are = its.are; is = λ schema. ap length its.is ∙ one_length of.schema schema joined.rows its.words };
    })

one_chunk : (rows : List DocRow) → 0 < length rows → length (some_chunk rows) ≡ 1
one_chunk [] some = absurd (omega (arith, some))
one_chunk (row ∷ rows) some = refl

-- the rows of a snapshot are of one schema
pub of_one : (schema : Schema) (from : SnapshotValue) → IsSchema schema → AreOf schema from → AreOfOne (all_living from.layers)
of_one schema from limits are = record { schema = schema; limits = limits; docs = docs_of schema from.layers are }

docs_taken : (job : Job) (schema : Schema) (from : SnapshotValue) → IsSchema schema → AreOf schema from → All (λ row. IsDocOf schema row.doc) (taken job from)
docs_taken Flush schema from limits are = docs_of schema (ram_layers from) (All-filter (λ (layer : LayerValue). not layer.disk) (λ (layer : LayerValue). AreRowsOf schema layer.rows) from.layers are)
docs_taken Optimize schema from limits are = docs_of schema from.layers are

-- what a job takes, beside what it leaves
pub takes : {E : Type 0} (job : Job) (from : SnapshotValue) (layers : List LayerValue) (s : Staying) (r : Result Made E) → layers ≡ taken_layers job from → AreStaying (filter (stays job) from.layers) s
    → IfOk r (Makes (all_living layers) s) → IfOk r (Takes job from)
takes job from layers s (Ok made) is stay makes = record {
  s = s;
  stays = subst (λ (ls : List LayerValue). AreStaying ls s) (staying_is job from) stay;
  makes = subst (λ (ls : List LayerValue). Makes (all_living ls) s made) is makes;
}
takes job from layers s (Err e) is stay makes = tt

no_content : (schema : Schema) → IsSchema schema → IsContent []
no_content schema limits = record {
  schema = schema;
  limits = limits;
  of = record { ids = λ i j d le low. absurd (omega (arith, low)); docs = All-nil (λ (row : DocRow). IsDocOf schema row.doc) };
  small = record { few_rows = omega arith; few_words = omega arith };
}

none : (job : Job) (from : SnapshotValue) → Takes job from (mades.Chunk None) → Builds job from (Ok (chunk_by job from None))
none job from is =
    let few : length (staying job from) + length (some_chunk (taken job from)) ≤ most_chunks = omega (arith, is.stays.chunks, is.makes.1) in
    let room : HasRoom job from = record {
      few = few;
      at = is.s.bytes;
      need = 0;
      stay = is.stays.bytes;
      new = subst (λ (rows : List DocRow). HasBytes rows 0) (sym is.makes.0) refl;
      small = omega (arith, is.makes.2);
    } in (
      refl,
      refl,
      room,
      λ schema limits are. record {
        moved = subst (λ (rows : List DocRow). IsPermutation rows []) (sym is.makes.0) (IsPermutation-refl []);
        content = no_content schema limits;
        zones = All-nil HasZones;
        imaged = refl;
        small = tt;
        few = omega (arith, few);
      },
    )

some : (job : Job) (from : SnapshotValue) (chunk : ImageChunk) → AreOfOne (all_living from.layers) → Takes job from (mades.Chunk (Some chunk)) → Builds job from (Ok (chunk_by job from (Some chunk)))
some job from chunk of is =
    let here = is.makes.0 in
    let made = is.makes.2 in
    let joined = made.joined in
    let few : length (staying job from) + length (some_chunk (taken job from)) ≤ most_chunks = omega (arith, is.stays.chunks, is.makes.1) in
    let room : HasRoom job from = record {
      few = few;
      at = is.s.bytes;
      need = length made.image;
      stay = is.stays.bytes;
      new = whole_bytes (taken job from) made.image (taken_of job from of) here joined;
      small = made.room;
    } in
    let moved : IsPermutation (taken job from) chunk.image.0.0 = subst (IsPermutation (taken job from)) (sym made.rows_are) joined.are.moved in
    let long : 0 < length chunk.image.0.0 = omega (arith, here, length_permutation (taken job from) chunk.image.0.0 moved) in (
      refl,
      refl,
      room,
      λ schema limits are. record {
        moved = moved;
        content = subst IsContent (sym made.rows_are) joined.are.content;
        zones = made.zones;
        imaged = (long, subst (IsImageOf schema chunk.image.0.0) (sym made.bytes_are) (subst (λ (rows : List DocRow). IsImageOf schema rows made.image) (sym made.rows_are) (joined.is schema limits (docs_taken job schema from limits are))));
        small = omega (arith, made.small, ap length made.bytes_are);
        few = omega (arith, few, one_chunk chunk.image.0.0 long, one_chunk (taken job from) here);
      },
    )

pub builds : (job : Job) (from : SnapshotValue) (chunk : Option ImageChunk) (new : NewChunkValue) → AreOfOne (all_living from.layers) → Takes job from (mades.Chunk chunk) → new ≡ chunk_by job from chunk → Builds job from (Ok new)
builds job from None new of is made = subst (λ (n : NewChunkValue). Builds job from (Ok n)) (sym made) (none job from is)
builds job from (Some chunk) new of is made = subst (λ (n : NewChunkValue). Builds job from (Ok n)) (sym made) (some job from chunk of is)
