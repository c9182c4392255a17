use Rattle.std.proofs.Common.{◌≡◌, ◌/◌, ◌∷◌, [], ℕ, List, refl, rules, length, sym, subst, take, drop}
use Rattle.std.specs.Prelude.{codes}
use Rattle.ql_session.specs.Statements.{States}
use Rattle.ql_tree.specs.declared.statement.Statement.TheVariants as statements
use Rattle.self_test.proofs.Conversing.{loaded, loaded_first}
use Rattle.self_test.proofs.Letters.{flush_is, optimize_is}
use Rattle.self_test.proofs.running.load.Goals as goal

pub returns-in-Ok-clause-told : goal.returns-in-Ok-clause-told
returns-in-Ok-clause-told g c =
    let front : c.split_at.result.0.now ≡ take (length c.args.documents.now / 2) c.args.documents.now = search rules in
    let back : c.split_at.result.1.now ≡ drop (length c.args.documents.now / 2) c.args.documents.now = search rules in
    let flush = statements.FlushRamchunk (codes "t") in
    let optimize = statements.OptimizeIndex (codes "t") in
    loaded g.T.Catalog.confs g.T.TableStore.words c.write_half-in-Ok.result c.args.documents.now c.split_at.result.0.now c.split_at.result.1.now (length c.args.documents.now / 2)
    c.args.client.now.session c.write_half.new.client.session c.write_half-in-Ok.new.client.session c.args.tables.now c.write_half.new.tables c.write_half-in-Ok.new.tables
    refl front back
    (c.in-Ok.ensures.told flush flush_is (subst (λ (text : List ℕ). States text (flush ∷ [])) (sym flush_is) c.texts_are_read_as_statements.ensures.flushes))
    (c.write_half-in-Ok.ensures.told optimize optimize_is (subst (λ (text : List ℕ). States text (optimize ∷ [])) (sym optimize_is) c.texts_are_read_as_statements.ensures.optimizes))

pub returns-in-Err-clause-told : goal.returns-in-Err-clause-told
returns-in-Err-clause-told g c =
    let front : c.split_at.result.0.now ≡ take (length c.args.documents.now / 2) c.args.documents.now = search rules in
    let back : c.split_at.result.1.now ≡ drop (length c.args.documents.now / 2) c.args.documents.now = search rules in
    let flush = statements.FlushRamchunk (codes "t") in
    loaded_first g.T.Catalog.confs g.T.TableStore.words c.in-Err.fault c.args.documents.now c.split_at.result.0.now c.split_at.result.1.now (length c.args.documents.now / 2)
    c.args.client.now.session c.write_half.new.client.session c.args.tables.now c.write_half.new.tables
    refl front back
    (c.in-Err.ensures.told flush flush_is (subst (λ (text : List ℕ). States text (flush ∷ [])) (sym flush_is) c.texts_are_read_as_statements.ensures.flushes))
