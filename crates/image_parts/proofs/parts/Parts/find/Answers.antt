use Rattle.std.proofs.Common.{arith}
use Rattle.std.specs.Ordering.{nat_cmp}
use Rattle.doc_types.specs.declared.documents.DocRow.{DocRow}
use Rattle.image_parts.proofs.Halving.{halved_all}
use Rattle.image_parts.proofs.RowFinding.{greater, here, nowhere, smaller}
use Rattle.image_parts.proofs.parts.Parts.find.Goals as goal

pub halves-init : goal.halves-init
halves-init c = (omega arith, omega arith, λ rows words have are. halved_all nat_cmp (λ (row : DocRow). row.doc.id) c.args.id rows c.args.self.rows are.rows_n)

pub id-found-requires : goal.id-found-requires
id-found-requires c =
    let r = c.requires in
    (r.0, r.1, r.2, r.3, omega (arith, (c.halves.invariant.2 r.0 r.1 r.2 r.3).within, c.halves-test.true))

pub returns-then-found-id : goal.returns-then-found-id
returns-then-found-id c = λ rows words have are.
    here rows words c.args.image.now have c.args.id c.halves.low c.halves.high (c.halves.invariant.2 rows words have are) _ c.id-found.result (omega (arith, c.halves-test.true)) (c.id-found.ensures rows words have are) c.if-found-id.true

pub halves-preserved-then-found-id-2 : goal.halves-preserved-then-found-id-2
halves-preserved-then-found-id-2 c = (
  omega (arith, c.halves-test.true),
  omega (arith, c.halves.invariant.1),
  λ rows words have are.
      smaller rows words c.args.image.now have c.args.id c.halves.low c.halves.high (c.halves.invariant.2 rows words have are) _ c.id-found.result (omega (arith, c.halves-test.true)) (c.id-found.ensures rows words have are) c.if-found-id-2.true,
)

pub halves-preserved : goal.halves-preserved
halves-preserved c = (
  omega arith,
  omega (arith, c.halves.invariant.1, c.halves-test.true),
  λ rows words have are.
      greater rows words c.args.image.now have c.args.id c.halves.low c.halves.high (c.halves.invariant.2 rows words have are) _ c.id-found.result (omega (arith, c.halves-test.true)) (c.id-found.ensures rows words have are) c.if-found-id-2.false c.if-found-id.false,
)

pub returns : goal.returns
returns c = λ rows words have are.
    nowhere rows words c.args.image.now have c.args.id c.halves.low c.halves.high (c.halves.invariant.2 rows words have are) c.halves-test.false c.halves.invariant.0
