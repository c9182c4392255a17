use Rattle.std.proofs.Common.{◌≡◌, ℕ, Bool, IfOk, IfSome, length, subst}
use Rattle.doc_types.specs.declared.documents.DocRow.{DocRow}
use Rattle.op_eval.specs.steps.Wanted.{numbers_from}
use Rattle.op_eval.proofs.NextMatches.{tree_matches}
use Rattle.row_flags.proofs.counting.count_from.Goals as goal

pub returns-in-Some : goal.returns-in-Some
returns-in-Some g c =
    subst (λ (passes : ℕ × DocRow → Bool). IfOk c.count_rows.result (λ told. IfSome told (λ count. count ≡ length (numbers_from passes c.args.from (g.C.Chunk.content c.args.chunk.now)))))
    (tree_matches c.args.query.now c.in-Some.root c.args.dead.now c.in-Some.is) c.count_rows.ensures
