use Rattle.self_test.proofs.Leading.{none_leads, read_leads}
use Rattle.self_test.proofs.running.chunks.Goals as goal

pub returns-in_err-snapshot-clause-leads : goal.returns-in_err-snapshot-clause-leads
returns-in_err-snapshot-clause-leads g c = none_leads g.T.Catalog.confs g.T.TableStore.words c.args.tables.now c.front.new.self c.in_err-snapshot.ensures.failed

pub returns-clause-leads : goal.returns-clause-leads
returns-clause-leads g c =
    let read = c.in_ok-snapshot.ensures.reads in
    read_leads g.T.Catalog.confs g.T.TableStore.words 0 read.0 c.args.tables.now c.front.new.self read.2
