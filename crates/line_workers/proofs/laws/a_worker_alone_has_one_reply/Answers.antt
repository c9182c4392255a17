use Rattle.std.proofs.Common.{[], true, false, map, refl}
use Rattle.serve_line.specs.Line.{Opened}
use Rattle.ql_answers.specs.States.{new_state}
use Rattle.engine_tables.specs.Workers.{documents_of}
use Rattle.line_workers.proofs.Plainly.{line_over, over}
use Rattle.line_workers.proofs.Quiet.{line_quiet, loud, over_quietly}
use Rattle.line_workers.proofs.Repeated.{same_sessions}
use Rattle.line_workers.proofs.Rows.{open_alike, opened, run_rows}
use Rattle.line_workers.proofs.laws.a_worker_alone_has_one_reply.Goals as goal

pub returns-clause-plain : goal.returns-clause-plain
returns-clause-plain c = λ schema base other confs connection chunks counts read written replies same one two still stiller.
    let rows = run_rows schema base confs connection chunks read written one in
    let others = run_rows schema other confs connection counts read replies two in
    same_sessions confs true
    c.a_statement_has_one_plan.ensures.plan c.a_statement_has_one_plan.ensures.refusal c.a_statement_has_one_plan.ensures.not_both c.a_plan_has_one_reply.ensures.reply c.a_plan_has_one_reply.ensures.state
    c.a_text_is_read_in_one_way.ensures.statements c.a_text_is_read_in_one_way.ensures.refusal c.a_text_is_read_in_one_way.ensures.not_both
    c.bytes_begin_in_one_way.ensures.only c.payload_is_one_response_or_bad.ensures.not_both c.payload_is_one_response_or_bad.ensures.place
    connection one.before one.now two.before two.now one.end two.end read written replies (map (over (documents_of base)) one.events) (map (over (documents_of other)) two.events) (opened base chunks) (opened other counts) rows.0 others.0
    (line_quiet true _ one.before one.now one.end (Opened connection new_state) [] read written (map (over (documents_of base)) one.events) one.client
    (line_over (documents_of base) one.before one.now one.end (Opened connection new_state) [] read written one.events one.client one.session)
    (over_quietly (documents_of base) one.before one.now one.end (Opened connection new_state) [] read written one.events one.client one.session still))
    (line_quiet true _ two.before two.now two.end (Opened connection new_state) [] read replies (map (over (documents_of other)) two.events) two.client
    (line_over (documents_of other) two.before two.now two.end (Opened connection new_state) [] read replies two.events two.client two.session)
    (over_quietly (documents_of other) two.before two.now two.end (Opened connection new_state) [] read replies two.events two.client two.session stiller))
    one.client two.client (λ p below. open_alike base other p (same p below), tt) rows.1 others.1

pub returns-clause-counted : goal.returns-clause-counted
returns-clause-counted c = λ schema base other confs connection chunks read written replies same one two.
    let rows = run_rows schema base confs connection chunks read written one in
    let others = run_rows schema other confs connection chunks read replies two in
    same_sessions confs false
    c.a_statement_has_one_plan.ensures.plan c.a_statement_has_one_plan.ensures.refusal c.a_statement_has_one_plan.ensures.not_both c.a_plan_has_one_reply.ensures.reply c.a_plan_has_one_reply.ensures.state
    c.a_text_is_read_in_one_way.ensures.statements c.a_text_is_read_in_one_way.ensures.refusal c.a_text_is_read_in_one_way.ensures.not_both
    c.bytes_begin_in_one_way.ensures.only c.payload_is_one_response_or_bad.ensures.not_both c.payload_is_one_response_or_bad.ensures.place
    connection one.before one.now two.before two.now one.end two.end read written replies (map (over (documents_of base)) one.events) (map (over (documents_of other)) two.events) (opened base chunks) (opened other chunks) rows.0 others.0
    (line_quiet false _ one.before one.now one.end (Opened connection new_state) [] read written (map (over (documents_of base)) one.events) one.client
    (line_over (documents_of base) one.before one.now one.end (Opened connection new_state) [] read written one.events one.client one.session) (loud _))
    (line_quiet false _ two.before two.now two.end (Opened connection new_state) [] read replies (map (over (documents_of other)) two.events) two.client
    (line_over (documents_of other) two.before two.now two.end (Opened connection new_state) [] read replies two.events two.client two.session) (loud _))
    one.client two.client (λ p below. open_alike base other p (same p below), refl) rows.1 others.1
