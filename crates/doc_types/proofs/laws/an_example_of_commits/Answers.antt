use Rattle.std.proofs.Common.{◌∙◌, map}
use Rattle.std.specs.FinMap as finite
use Rattle.std.proofs.lemmas.Cmp.{nat_cmp_total}
use Rattle.doc_types.specs.declared.documents.DocRow.{DocRow}
use Rattle.doc_types.specs.Examples.{three_rows, insertions, exchanges}
use Rattle.doc_types.proofs.Changes.{tried_over}
use Rattle.doc_types.proofs.laws.an_example_of_commits.Goals as goal

pub returns : goal.returns
returns c = record {
  refused = λ has. tried_over (three_rows has) (insertions has);
  accepted = λ has. tried_over (three_rows has) (exchanges has);
  first = λ has.
      finite.get-insert nat_cmp_total _ _ _ 1
      ∙ finite.get-remove nat_cmp_total _ 2 1
      ∙ finite.get-from_entries nat_cmp_total (map (λ (row : DocRow). (row.doc.id, row)) (three_rows has)) 1;
  second = λ has. finite.get-insert nat_cmp_total _ _ _ 2 ∙ finite.get-remove nat_cmp_total _ 2 2;
  eighth = λ has. finite.get-insert nat_cmp_total _ _ _ 8;
}
