use Rattle.std.proofs.Common.{rules, of_calls, ◌∙◌}
use Rattle.std.specs.Ordering.{nat_cmp}
use Rattle.std.proofs.lemmas.Fn.{always_returns_same}
use Rattle.doc_types.specs.declared.tokens.TokenWord.{TokenWord}
use Rattle.doc_bytes.proofs.Searching.{found_there}
use Rattle.doc_bytes.proofs.span_reading.stands_at.Goals as goal

pub returns : goal.returns
returns c =
    c.is_ok.ensures.value
    ∙ found_there c.args.words.now c.args.position c.requires c.binary_search_by.result c.binary_search_by.ensures.bound
    (c.binary_search_by.ensures.position (λ (word : TokenWord). nat_cmp word.position c.args.position) (always_returns_same _ _ _ (λ a r f k. search (rules, of_calls))))
