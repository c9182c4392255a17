use Rattle.std.proofs.Common.{arith, ap, length, sym, subst}
use Rattle.doc_vectors.specs.steps.Columns.{AreListed}
use Rattle.doc_vectors.proofs.Rows.{no_rows, content}
use Rattle.doc_vectors.proofs.documents.rows_of.Goals as goal

pub loop-line-init : goal.loop-line-init
loop-line-init c = subst (AreListed c.args.count c.args.attrs) (sym c.new-rows.ensures.items) (no_rows c.args.count c.args.attrs)

pub returns : goal.returns
returns c =
    let shape = c.has_schema.ensures c.if-not-has_schema.false in
    record { listed = c.loop-line.invariant; content = content shape.0 c.args.count c.args.attrs c.loop-line.rows.items shape.1 c.loop-line.invariant (omega (arith, ap length c.as_slice.ensures.value, c.if-as_slice-gt-MOST_ROWS.false)) }
