use Rattle.std.proofs.Common.{◌≡◌, [], ◌∷◌, ℕ, List, sym, subst, ◌∙◌, rules}
use Rattle.ql_session.specs.Statements.{States}
use Rattle.ql_write.specs.Canonical.{canonical_text}
use Rattle.self_test.specs.Texts.{count_statement}
use Rattle.self_test.specs.steps.Letters.{count_letters}
use Rattle.self_test.proofs.Letters.{count_is}
use Rattle.self_test.proofs.running.count_one.Goals as goal

pub returns-in-Ok-clause-rows : goal.returns-in-Ok-clause-rows
returns-in-Ok-clause-rows g c =
    let letters : c.as_str.result.now ≡ count_letters c.args.count c.args.number = search rules in
    let is : c.as_str.result.now ≡ canonical_text (count_statement c.args.count c.args.number) = letters ∙ count_is c.args.count c.args.number c.requires.below in
    c.count_rows.ensures.rows c.args.count c.args.number is
    (subst (λ (text : List ℕ). States text (count_statement c.args.count c.args.number ∷ [])) (sym is) (c.texts_are_read_as_statements.ensures.counts c.args.count c.args.number c.requires.below))
