use Rattle.std.proofs.Common.{◌≡◌, ◌∙◌, ℕ, List, [], ◌∷◌, ◌++◌, OnOk, ap, append_assoc, subst, sym}
use Rattle.mysql_wire.specs.declared.rows.Cell.{Cell}
use Rattle.table_search.specs.declared.keywords.WordDocs.{WordDocs}
use Rattle.ql_answers.specs.Showing.{docs_row, keyword_row, word_rows}
use Rattle.ql_answers.proofs.showing.+put_words.Goals as goal

pub returns-in_ok-next-in-Some : goal.returns-in_ok-next-in-Some
returns-in_ok-next-in-Some t c =
    let rows = c.args.rows.now.items in
    let word = c.in-Some.first.now in
    let rest = c.in-Some.rest.now in
    let next = c.in_ok-next-in-Some.next in
    subst (λ (all : List (List Cell)). OnOk c.put_words.result (c.put_words.new.rows.items ≡ all))
    (ap (λ (l : List (List Cell)). l ++ word_rows next rest) c.in_ok-put_word-in-Some.ensures
    ∙ append_assoc (rows ++ keyword_row c.args.from word ∷ []) (docs_row c.args.from word ∷ []) (word_rows next rest)
    ∙ append_assoc rows (keyword_row c.args.from word ∷ []) (docs_row c.args.from word ∷ word_rows next rest)
    ∙ ap (λ (n : ℕ). rows ++ keyword_row c.args.from word ∷ docs_row c.args.from word ∷ word_rows n rest) c.in_ok-next-in-Some.ensures
    ∙ ap (λ (words : List WordDocs). rows ++ word_rows c.args.from words) (sym c.in-Some.ensures.cases.0))
    c.put_words.ensures
