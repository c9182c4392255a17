use Rattle.std.proofs.Common.{Err, inl, rules, subst}
use Rattle.srch_base.specs.declared.faults.Or.{Or}
use Rattle.query_read.specs.QueryFault.{QueryFault}
use Rattle.query_read.specs.Queries.{ReadsQuery}
use Rattle.ql_select.specs.Selections.{setting}
use Rattle.ql_select.proofs.Meaning.{no_text, reads_text, refuses_text}
use Rattle.ql_select.proofs.selecting.query_of.Goals as goal

pub returns-in-Err : goal.returns-in-Err
returns-in-Err c = inl (no_text c.args.text.now c.in-Err.ensures.cases.0, c.wrong_kind.ensures)

pub returns-in-Ok-read_query : goal.returns-in-Ok-read_query
returns-in-Ok-read_query c =
    reads_text c.args.conf.now c.args.text.now c.in-Ok.text.now c.in-Ok-read_query.query (search rules) c.in-Ok.ensures.cases.1 c.in-Ok-read_query.ensures

pub returns-in-Err-Fault : goal.returns-in-Err-Fault
returns-in-Err-Fault c =
    let at = c.in-Err-Fault in
    let reads = subst (λ (end : Or QueryFault). ReadsQuery (setting c.args.conf.now) c.in-Ok.text.now (Err end)) at.field-0-is at.ensures in
    refuses_text c.args.conf.now c.args.text.now c.in-Ok.text.now at.fault c.bad_query.result (search rules) c.in-Ok.ensures.cases.1 reads c.bad_query.ensures
