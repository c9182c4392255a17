use Rattle.std.proofs.Common.{arith, map, sym}
use Rattle.image_write.specs.Written.{row_of}
use Rattle.image_chunk.proofs.Building.{first_fits, first_mapped, first_tells, none_mapped, none_tells}
use Rattle.image_chunk.proofs.ram_chunk.counts_of_docs.Goals as goal

pub overflow_cast-result : goal.overflow_cast-result
overflow_cast-result c = omega (arith, c.len.ensures, (first_fits _ (row_of c.in-Some.doc.now.now c.args.number) c.requires (first_mapped (λ doc. row_of doc.now c.args.number) c.args.docs.now c.in-Some.doc.now (sym c.in-Some.ensures.value))).0)

pub overflow_cast-result-in-Some : goal.overflow_cast-result-in-Some
overflow_cast-result-in-Some c = omega (arith, c.len-in-Some.ensures, (first_fits _ (row_of c.in-Some.doc.now.now c.args.number) c.requires (first_mapped (λ doc. row_of doc.now c.args.number) c.args.docs.now c.in-Some.doc.now (sym c.in-Some.ensures.value))).1)

pub returns-in-Some : goal.returns-in-Some
returns-in-Some c =
    let rows = map (λ doc. row_of doc.now c.args.number) c.args.docs.now in
    (c.requires.schema, first_tells rows (row_of c.in-Some.doc.now.now c.args.number) c.len.result c.len-in-Some.result c.requires (first_mapped (λ doc. row_of doc.now c.args.number) c.args.docs.now c.in-Some.doc.now (sym c.in-Some.ensures.value)) c.len.ensures c.len-in-Some.ensures)

pub returns-in-None : goal.returns-in-None
returns-in-None c = none_tells _ (none_mapped (λ doc. row_of doc.now c.args.number) c.args.docs.now (sym c.in-None.ensures.value))
