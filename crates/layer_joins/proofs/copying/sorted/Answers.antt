use Rattle.std.proofs.Common.{◌<◌, ◌^◌, arith, length, refl, rules, subst}
use Rattle.std.specs.List.{sum_by}
use Rattle.std.specs.List.Sorted.{IsNonDecreasingBy}
use Rattle.std.proofs.lemmas.List.Sorted.{IsNonDecreasingBy-from_sort_by_key}
use Rattle.doc_types.specs.declared.documents.DocRow.{DocRow}
use Rattle.doc_types.specs.Documents.{word_count}
use Rattle.layer_joins.proofs.Limits.{sorted_rows}
use Rattle.layer_joins.proofs.copying.sorted.Goals as goal

pub returns : goal.returns
returns c =
    let up : IsNonDecreasingBy (λ (row : DocRow). row.doc.id) c.sort_unstable_by_key.new.self.items =
    IsNonDecreasingBy-from_sort_by_key (λ (row : DocRow). row.doc.id) _ c.sort_unstable_by_key.ensures.sorted (λ a r q k. search rules) in
    let few : length c.args.rows.items < 2 ^ 32 = omega arith in
    let words : sum_by word_count c.sort_unstable_by_key.new.self.items < 2 ^ 32 =
    subst (λ rows. sum_by word_count rows < 2 ^ 32) c.as_slice.ensures.value (c.if-not-has_few_words.ensures refl) in
    sorted_rows _ _ c.requires.of c.requires.apart c.sort_unstable_by_key.ensures.permutation up few words
