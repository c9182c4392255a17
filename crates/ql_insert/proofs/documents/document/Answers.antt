use Rattle.std.proofs.Common.{arith, sym, ◌≡◌, ◌<◌, length, take, subst}
use Rattle.std.proofs.lemmas.List.{take_all}
use Rattle.std.proofs.lemmas.Grind.{common_steps}
use Rattle.doc_types.specs.declared.documents.Doc.{Doc}
use Rattle.ql_insert.specs.Insertions.{blank, Fills}
use Rattle.ql_insert.specs.steps.Documents.{IsShaped}
use Rattle.ql_columns.specs.declared.columns.IndexColumn.TheVariants.{Id}
use Rattle.ql_insert.proofs.Filling.{Fills-more, good_rest}
use Rattle.ql_insert.proofs.documents.document.Goals as goal

pub values-preserved : goal.values-preserved
values-preserved c =
    let within : c.values.place < length c.args.row.now = omega arith in
    let below : c.values.place < length c.args.targets.now = omega arith in
    record {
      fills = Fills-more c.args.conf.now c.args.targets.now c.args.row.now (blank c.args.conf.now.schema) c.values.draft c.put.new.self Id c.index-row-place.result c.values.place
          below within (sym c.index-row-place.is) c.values.invariant.fills c.in_ok-put.ensures.0;
      shaped = c.in_ok-put.ensures.1;
      good = good_rest c.args.conf.now.schema c.args.targets.now c.args.row.now Id c.index-row-place.result c.values.place below within c.values.invariant.good;
    }

pub returns : goal.returns
returns c =
    let F : Doc → Type 0 = λ d. Fills c.args.conf.now c.args.targets.now c.args.row.now (blank c.args.conf.now.schema) d in
    let S : Doc → Type 0 = λ d. IsShaped c.args.conf.now.schema d in
    let all_columns : take c.values.place c.args.targets.now ≡ c.args.targets.now = take_all c.values.place c.args.targets.now (omega arith) in
    let all_row : take c.values.place c.args.row.now ≡ c.args.row.now = take_all c.values.place c.args.row.now (omega arith) in
    let fills : F c.values.draft = rw (all_columns, all_row) at c.values.invariant.fills in
    let shaped : S c.into_doc-doc.result = subst S (sym c.into_doc-doc.ensures) c.values.invariant.shaped in (
      subst F (sym c.into_doc-doc.ensures) fills,
      record { fields = shaped.fields; values = shaped.values; tokens = shaped.tokens; few_spans = grind (arith, common_steps) },
    )
