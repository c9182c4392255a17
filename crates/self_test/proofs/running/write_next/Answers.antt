use Rattle.std.proofs.Common.{◌+◌, [], ◌∷◌}
use Rattle.self_test.specs.Conversations.{before_document, behind_document, insert}
use Rattle.self_test.proofs.Conversing.{told_then}
use Rattle.self_test.proofs.Leading.{leads_then}
use Rattle.self_test.proofs.running.write_next.Goals as goal

pub returns-in-Ok-write_one-clause-told : goal.returns-in-Ok-write_one-clause-told
returns-in-Ok-write_one-clause-told g c =
    let confs = g.T.Catalog.confs in
    let words = g.T.TableStore.words in
    let put = insert (c.args.before + (c.args.number + 1)) c.args.document.now in
    let behind = behind_document c.args.last (c.args.number + 1) in
    told_then confs words c.commit.result (before_document c.args.number) (put ∷ behind) c.args.client.now.session c.begin.new.client.session c.commit.new.client.session
    c.args.tables.now c.begin.new.tables c.commit.new.tables c.in-Ok.ensures.told
    (told_then confs words c.commit.result (put ∷ []) behind c.begin.new.client.session c.write_one.new.client.session c.commit.new.client.session
    c.begin.new.tables c.write_one.new.tables c.commit.new.tables c.in-Ok-write_one.ensures.told c.commit.ensures.told)

pub returns-in-Ok-write_one-clause-leads : goal.returns-in-Ok-write_one-clause-leads
returns-in-Ok-write_one-clause-leads g c =
    let confs = g.T.Catalog.confs in
    let words = g.T.TableStore.words in
    let put = leads_then confs words c.args.tables.now c.begin.new.tables c.write_one.new.tables c.begin.ensures.leads c.write_one.ensures.leads in
    leads_then confs words c.args.tables.now c.write_one.new.tables c.commit.new.tables put c.commit.ensures.leads
