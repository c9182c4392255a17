use Rattle.std.proofs.Common.{rules, of_calls, ◌∙◌}
use Rattle.std.proofs.Common.{◌∙◌, rules}
use Rattle.std.proofs.lemmas.Cmp.{nat_list_cmp_total}
use Rattle.std.specs.Cmp.Lexicographic.{slice_cmp, texts_ties}
use Rattle.std.specs.Ordering.{nat_cmp}
use Rattle.std.specs.Str.{bytes_eq}
use Rattle.std.proofs.lemmas.Fn.{always_returns_same}
use Rattle.doc_types.specs.declared.plain_index.WordRows.{WordRows}
use Rattle.doc_types.proofs.BinarySearches.{found_place}
use Rattle.doc_types.proofs.plain_index.entry_of.Goals as goal

pub returns : goal.returns
returns c =
    c.ok.ensures.value
    ∙ found_place nat_list_cmp_total (λ (entry : WordRows). entry.word) c.args.word.now (λ entry. bytes_eq entry.word c.args.word.now) (λ entry. texts_ties entry.word c.args.word.now) c.args.index.now c.requires c.binary_search_by.result c.binary_search_by.ensures.bound
    (c.binary_search_by.ensures.position (λ entry. slice_cmp nat_cmp entry.word c.args.word.now) (always_returns_same _ _ _ (λ a r f k. search (rules, of_calls))))
