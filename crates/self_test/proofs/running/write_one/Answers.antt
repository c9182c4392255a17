use Rattle.std.proofs.Common.{◌≡◌, [], ◌∷◌, ℕ, List, sym, subst, ◌∙◌, rules}
use Rattle.ql_session.specs.Statements.{States}
use Rattle.ql_write.specs.Canonical.{canonical_text}
use Rattle.self_test.specs.Texts.{insert_statement}
use Rattle.self_test.proofs.Letters.{insert_is}
use Rattle.self_test.proofs.running.write_one.Goals as goal

pub returns-in-Ok-clause-told : goal.returns-in-Ok-clause-told
returns-in-Ok-clause-told g c =
    let statement = insert_statement c.args.id c.args.document.now in
    let is : c.as_str.result.now ≡ canonical_text statement =
    c.as_str.ensures.value ∙ c.in-Ok.ensures.letters ∙ insert_is c.args.id c.args.document.now c.in-Ok.ensures.small in
    c.tell.ensures.told statement is (subst (λ (text : List ℕ). States text (statement ∷ [])) (sym is) (c.inserts_are_read.ensures c.args.id c.args.document.now (search rules) c.in-Ok.ensures.small))
