-- What rows in order become is what the rows that live do.
use Rattle.std.proofs.Common.{◌≡◌, ◌<◌, ◌≤◌, List, ℕ, length, subst, arith, AllPairs}
use Rattle.std.specs.Prelude.{Result, Ok, Err, IfOk}
use Rattle.std.specs.List.Sorted.{IsPermutation}
use Rattle.doc_types.specs.declared.documents.DocRow.{DocRow}
use Rattle.doc_types.specs.declared.schema.Schema.{Schema}
use Rattle.doc_types.specs.Documents.{AreRowsOf}
use Rattle.doc_types.specs.Schemas.{IsSchema}
use Rattle.chunk_image.specs.ChunkImage.{IsImageOf}
use Rattle.image_join.specs.JoinedImages.{IsJoined, IsJoinedImage}
use Rattle.image_join.specs.declared.joining.JoinedImage.{JoinedImage}
use Rattle.image_join.specs.declared.joining.JoinedImage.TheVariants.{TooLong, Whole}
use Rattle.image_join.specs.steps.OrderedRows.{IsOrdered}
use Rattle.layer_joins.specs.Joins.{AreOfOne}
use Rattle.image_join.proofs.Few.{few_words}
use Rattle.image_join.proofs.Joined.{rows_of}

whole : (living joined : List DocRow) (bytes : List ℕ) → AreOfOne living → IsPermutation living joined → AllPairs (λ row later. row.doc.id < later.doc.id) joined
    → ((schema : Schema) → IsSchema schema → AreRowsOf schema joined → IsImageOf schema joined bytes) → length bytes ≤ 536870912 → length joined ≤ 536870912 → IsJoinedImage living bytes
whole living joined bytes of moved up its short few =
    let are : AreRowsOf of.schema joined = rows_of of.schema living joined of.docs moved up in
    let words = few_words of.schema joined bytes (its of.schema of.limits are) in
    record {
      rows = joined;
      are = record {
        moved = moved;
        ascend = up;
        content = record { schema = of.schema; limits = of.limits; of = are; small = record { few_rows = omega (arith, few); few_words = omega (arith, words, short) } };
      };
      is = λ schema limits docs. its schema limits (rows_of schema living joined docs moved up);
    }

of_joined : (living joined : List DocRow) → AreOfOne living → IsPermutation living joined → AllPairs (λ row later. row.doc.id < later.doc.id) joined → (image : JoinedImage) → IsOrdered joined image → IsJoined living image
of_joined living joined of moved up (Whole bytes) is = (whole living joined bytes.items of moved up is.0 is.1 is.2, is.1)
of_joined living joined of moved up (TooLong bytes) is = (record { rows = joined; moved = moved; ascend = up; long = is.0 }, is.1)

pub told : {E : Type 0} (living rows joined : List DocRow) → AreOfOne living → IsPermutation living joined → AllPairs (λ row later. row.doc.id < later.doc.id) joined → rows ≡ joined
    → (r : Result JoinedImage E) → IfOk r (IsOrdered rows) → IfOk r (IsJoined living)
told living rows joined of moved up same (Ok image) is = of_joined living joined of moved up image (subst (λ (rs : List DocRow). IsOrdered rs image) same is)
told living rows joined of moved up same (Err e) is = tt
