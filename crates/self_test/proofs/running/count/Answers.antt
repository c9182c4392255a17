use Rattle.std.proofs.Common.{◌≡◌, ℕ, ◌<◌, rules, sym, ◌∙◌}
use Rattle.self_test.specs.Summaries.{many}
use Rattle.self_test.specs.Texts.{count_select}
use Rattle.self_test.proofs.Conversing.{lost_one, one_more_counted}
use Rattle.self_test.proofs.Leading.{leads_then}
use Rattle.self_test.proofs.running.count.Goals as goal

pub returns-in-Err-clause-counts : goal.returns-in-Err-clause-counts
returns-in-Err-clause-counts g c =
    let below : c.numbers.number < many c.args.count = search rules in
    lost_one g.T.Catalog.confs g.T.TableStore.words c.in-Err.fault c.args.count c.numbers.number c.numbers.sum c.args.client.now.session c.numbers.client.session c.count_one.new.client.session
    c.args.tables.now c.numbers.tables c.count_one.new.tables below c.numbers.invariant.counted c.in-Err.ensures.rows

pub returns-in-Err-clause-leads : goal.returns-in-Err-clause-leads
returns-in-Err-clause-leads g c =
    leads_then g.T.Catalog.confs g.T.TableStore.words c.args.tables.now c.numbers.tables c.count_one.new.tables c.numbers.invariant.leads c.count_one.ensures.leads

pub numbers-preserved : goal.numbers-preserved
numbers-preserved g c =
    let confs = g.T.Catalog.confs in
    let words = g.T.TableStore.words in
    let same : c.in-Ok.rows ≡ c.from-sum.result = search rules in
    record {
      fits = c.count_one.ensures.fits;
      confs = c.count_one.ensures.confs ∙ c.numbers.invariant.confs;
      leads = leads_then confs words c.args.tables.now c.numbers.tables c.count_one.new.tables c.numbers.invariant.leads c.count_one.ensures.leads;
      counted = one_more_counted confs words (count_select c.args.count) c.numbers.number c.numbers.sum c.from-sum.result c.args.client.now.session c.numbers.client.session c.count_one.new.client.session
          c.args.tables.now c.numbers.tables c.count_one.new.tables c.numbers.invariant.counted (rw (sym same) c.in-Ok.ensures.rows);
      most = search rules;
    }
