use Rattle.std.proofs.Common.{◌≡◌, ◌∙◌, ℕ, List, [], ◌∷◌, ◌++◌, ap, codes, subst, rules}
use Rattle.std.specs.Prelude.{OnOk, decimal}
use Rattle.mysql_wire.specs.declared.rows.Cell.{Cell}
use Rattle.ql_answers.specs.Replies.{pair}
use Rattle.ql_answers.specs.Showing.{keyword_row, numbered}
use Rattle.ql_answers.proofs.showing.put_word.Goals as goal

pub returns : goal.returns
returns c =
    let rows = c.args.rows.now.items in
    let number = c.args.number in
    let word = c.args.word.now in
    let digits : c.as_bytes-counted.result.now ≡ decimal word.docs = search rules in
    let first : c.put_numbered.new.rows.items ≡ rows ++ keyword_row number word ∷ [] =
    c.in_ok-put_numbered.ensures ∙ ap (λ (t : List ℕ). rows ++ pair (numbered (codes "keyword[") number) t ∷ []) c.as_bytes.ensures in
    let all : List (List Cell) → List ℕ → List (List Cell) = λ l t. l ++ pair (numbered (codes "docs[") number) t ∷ [] in
    subst (λ (l : List (List Cell)). OnOk c.put_numbered-2.result (c.put_numbered-2.new.rows.items ≡ l))
    (ap (λ (l : List (List Cell)). all l c.as_bytes-counted.result.now) first ∙ ap (all (rows ++ keyword_row number word ∷ [])) digits)
    c.put_numbered-2.ensures
