use Rattle.std.proofs.Common.{subst}
use Rattle.doc_types.specs.declared.documents.DocRow.{DocRow}
use Rattle.op_eval.specs.Fields.{AreFieldsOf}
use Rattle.op_eval.specs.Finding.{Found}
use Rattle.op_eval.proofs.NextMatches.{tree_finds, tree_of}
use Rattle.op_eval.proofs.wanted.row_fields.Goals as goal

pub returns-in-Some-clause-fields : goal.returns-in-Some-clause-fields
returns-in-Some-clause-fields g c = λ its here.
    let is = tree_of (g.C.Chunk.belongs c.args.chunk.now) (g.C.Chunk.place c.args.chunk.now) (g.C.Chunk.content c.args.chunk.now) c.args.query.now c.args.row c.args.search.now c.in-Some.search c.in-Some.is c.requires.stands in
    subst (λ (finds : DocRow → Found). AreFieldsOf (finds its) c.fields.result) (tree_finds c.args.query.now c.in-Some.search.root.now is) (c.fields.ensures.fields its here)
