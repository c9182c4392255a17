use Rattle.std.proofs.Common.{◌≡◌, true, length, rules, sym, tests, ◌∙◌}
use Rattle.std.proofs.lemmas.List.{nil_from_length}
use Rattle.prefix_terms.proofs.Rewritten.{as_empty}
use Rattle.prefix_terms.proofs.rewriting.word.Goals as goal

pub returns-then-is_empty : goal.returns-then-is_empty
returns-then-is_empty c =
    let words = c.list_of-words.result.now in
    let zero : length words ≡ 0 = search (rules, tests) in
    let is : c.args.key.now.prefix ≡ true = search rules in
    as_empty c.args.expansion.now.keys c.args.key.now c.in_ok-empty.empty is (sym c.list_of-words.ensures ∙ nil_from_length words zero) c.in_ok-empty.ensures
