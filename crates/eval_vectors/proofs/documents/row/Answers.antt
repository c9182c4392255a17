use Rattle.std.proofs.Common.{◌≡◌, ◌∙◌, All, length, ap, sym, subst, arith}
use Rattle.eval_vectors.specs.steps.Reading.{IsShortField}
use Rattle.eval_vectors.proofs.HeldRows.{short_row}
use Rattle.eval_vectors.proofs.documents.row.Goals as goal

pub returns : goal.returns
returns c =
    let fields : length c.new.result ≡ length c.args.index.now.schema.fields = omega (arith, ap length c.new.ensures, c.len.ensures, c.len-2.ensures, c.if-len.false) in
    let values : length c.new-3.result ≡ length c.args.index.now.schema.attrs = omega (arith, ap length (c.new-3.ensures ∙ c.new-2.ensures.items), c.len-else-len.ensures, c.if-len-ne0.false) in
    short_row c.args.index.now.schema _ c.requires.schema (subst (All IsShortField) (sym c.new.ensures) c.in_ok-fields.ensures) fields values
