use Rattle.std.proofs.Common.{sym, subst}
use Rattle.doc_types.specs.declared.documents.Doc.{Doc}
use Rattle.ql_insert.specs.contracts.documents.Draft.{the_view}
use Rattle.ql_insert.specs.steps.Documents.{IsShaped}
use Rattle.ql_insert.proofs.Filling.{IsShaped-set}
use Rattle.ql_insert.proofs.documents.Draft.set_field.Goals as goal

pub returns-then-field-len-clause-shaped : goal.returns-then-field-len-clause-shaped
returns-then-field-len-clause-shaped c schema shaped =
    let P : Doc → Type 0 = λ d. IsShaped schema d in
    IsShaped-set schema (the_view c.self.inside) c.args.field c.args.tokens (subst P (sym c.self.view_is) shaped) c.requires
