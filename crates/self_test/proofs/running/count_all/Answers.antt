use Rattle.std.proofs.Common.{refl}
use Rattle.self_test.specs.declared.summary.Summary.{Summary}
use Rattle.self_test.proofs.Conversing.{checked_so, lost_groups, lost_pairs, lost_words}
use Rattle.self_test.proofs.Leading.{leads_then}
use Rattle.self_test.proofs.running.count_all.Goals as goal

pub returns-in-Ok-chunks-clause-sums : goal.returns-in-Ok-chunks-clause-sums
returns-in-Ok-chunks-clause-sums g c =
    let summary : Summary = record { documents = c.args.documents; words = c.in-Ok.words; pairs = c.in-Ok-count.pairs; groups = c.in-Ok-count-2.groups; chunks = c.in-Ok-chunks.chunks } in
    checked_so g.T.Catalog.confs g.T.TableStore.words c.args.documents c.checked.result summary c.args.client.now.session c.args.tables.now c.chunks.new.tables
    (record {
      many = refl;
      state = c.count-in-Ok-count.new.client.session;
      between = c.count-in-Ok-count.new.tables;
      counts = (
        c.count.new.client.session,
        c.count.new.tables,
        c.in-Ok.ensures.counts,
        (c.count-in-Ok.new.client.session, c.count-in-Ok.new.tables, c.in-Ok-count.ensures.counts, c.in-Ok-count-2.ensures.counts),
      );
      sees = c.in-Ok-chunks.ensures.chunks;
    })
    c.checked.ensures

pub returns-in-Ok-chunks-clause-leads : goal.returns-in-Ok-chunks-clause-leads
returns-in-Ok-chunks-clause-leads g c =
    let confs = g.T.Catalog.confs in
    let words = g.T.TableStore.words in
    let begun = c.args.tables.now in
    let again = leads_then confs words begun c.count.new.tables c.count-in-Ok.new.tables c.count.ensures.leads c.count-in-Ok.ensures.leads in
    let grouped = leads_then confs words begun c.count-in-Ok.new.tables c.count-in-Ok-count.new.tables again c.count-in-Ok-count.ensures.leads in
    leads_then confs words begun c.count-in-Ok-count.new.tables c.chunks.new.tables grouped c.chunks.ensures.leads

pub returns-in-Err-chunks-clause-leads : goal.returns-in-Err-chunks-clause-leads
returns-in-Err-chunks-clause-leads g c =
    let confs = g.T.Catalog.confs in
    let words = g.T.TableStore.words in
    let begun = c.args.tables.now in
    let again = leads_then confs words begun c.count.new.tables c.count-in-Ok.new.tables c.count.ensures.leads c.count-in-Ok.ensures.leads in
    let grouped = leads_then confs words begun c.count-in-Ok.new.tables c.count-in-Ok-count.new.tables again c.count-in-Ok-count.ensures.leads in
    leads_then confs words begun c.count-in-Ok-count.new.tables c.chunks.new.tables grouped c.chunks.ensures.leads

pub returns-in-Err-count-clause-leads : goal.returns-in-Err-count-clause-leads
returns-in-Err-count-clause-leads g c = leads_then g.T.Catalog.confs g.T.TableStore.words c.args.tables.now c.count.new.tables c.count-in-Ok.new.tables c.count.ensures.leads c.count-in-Ok.ensures.leads

pub returns-in-Err-count-2-clause-leads : goal.returns-in-Err-count-2-clause-leads
returns-in-Err-count-2-clause-leads g c =
    let confs = g.T.Catalog.confs in
    let words = g.T.TableStore.words in
    let begun = c.args.tables.now in
    let again = leads_then confs words begun c.count.new.tables c.count-in-Ok.new.tables c.count.ensures.leads c.count-in-Ok.ensures.leads in
    leads_then confs words begun c.count-in-Ok.new.tables c.count-in-Ok-count.new.tables again c.count-in-Ok-count.ensures.leads

pub returns-in-Err-count-2-clause-sums : goal.returns-in-Err-count-2-clause-sums
returns-in-Err-count-2-clause-sums g c =
    lost_groups g.T.Catalog.confs g.T.TableStore.words c.args.documents c.in-Err-count-2.fault c.in-Ok.words c.in-Ok-count.pairs c.args.client.now.session c.count-in-Ok.new.client.session
    c.args.tables.now c.count-in-Ok.new.tables c.count-in-Ok-count.new.tables
    (c.count.new.client.session, c.count.new.tables, c.in-Ok.ensures.counts, c.in-Ok-count.ensures.counts) c.in-Err-count-2.ensures.counts

pub returns-in-Err-count-clause-sums : goal.returns-in-Err-count-clause-sums
returns-in-Err-count-clause-sums g c =
    lost_pairs g.T.Catalog.confs g.T.TableStore.words c.args.documents c.in-Err-count.fault c.in-Ok.words c.args.client.now.session c.count.new.client.session c.args.tables.now c.count.new.tables c.count-in-Ok.new.tables
    c.in-Ok.ensures.counts c.in-Err-count.ensures.counts

pub returns-in-Err-clause-sums : goal.returns-in-Err-clause-sums
returns-in-Err-clause-sums g c = lost_words g.T.Catalog.confs g.T.TableStore.words c.args.documents c.in-Err.fault c.args.client.now.session c.args.tables.now c.count.new.tables c.in-Err.ensures.counts
