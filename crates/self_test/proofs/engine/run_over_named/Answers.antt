use Rattle.std.proofs.Common.{◌≡◌, Result, ap, length, sym, subst, ◌∙◌}
use Rattle.commit_outcomes.specs.declared.strayed.Strayed.{Strayed}
use Rattle.srch_base.specs.declared.faults.Or.{Or}
use Rattle.engine_tables.specs.Tokens.{SitsAt, TokensValue}
use Rattle.self_test.specs.Documents.{documents_from}
use Rattle.self_test.specs.Ends.{LeadsTo, Works, first_tokens}
use Rattle.self_test.specs.Summaries.{IsSummary}
use Rattle.self_test.specs.steps.Engines.{IsAnswered, IsNeverAstray}
use Rattle.self_test.proofs.Engines.{answered_so, can_end, ended_one, ends_so, first_last, found_well, never_so, put_one}
use Rattle.self_test.proofs.engine.run_over_named.Goals as goal

pub work-found-requires-clause-one : goal.work-found-requires-clause-one
work-found-requires-clause-one g c = ap length c.requires.over.is

pub work-found-requires-clause-sits : goal.work-found-requires-clause-sits
work-found-requires-clause-sits g c =
    subst (λ (t : TokensValue). SitsAt c.args.named.engines t)
    (sym (first_last c.args.named.seats.items c.take_last.new.self.items c.take_last.result first_tokens c.take_last.ensures.items c.requires.seats)) c.requires.sit

pub close-requires : goal.close-requires
close-requires g c =
    can_end c.args.named.engines c.args.named.ending c.put.new.self c.work-found.result.1 (ap length c.requires.over.is) c.requires.room c.work-found.ensures.sits c.put.ensures

pub answer-requires : goal.answer-requires
answer-requires g c =
    let schema = g.J.Naming.schema in
    let base = g.J.Naming.base in
    let opened = g.J.Naming.opened in
    let engines = c.args.named.engines in
    let left : TokensValue = c.work-found.result.1 in
    let seated : c.take_last.result ≡ first_tokens = first_last c.args.named.seats.items c.take_last.new.self.items c.take_last.result first_tokens c.take_last.ensures.items c.requires.seats in
    subst (λ (end : Result (Unit {0}) (Or Strayed)). IsNeverAstray c.work-found.result.0 end) (sym c.end_of.ensures.2)
    (never_so g.D.Disk
    (record { each_has = c.each_text_has_pieces.ensures; no_fault = c.a_query_has_no_fault.ensures; one_query = c.a_text_is_one_query.ensures; one_table = c.a_text_is_read_in_one_way.ensures.values })
    schema base opened engines.confs c.args.number c.args.docs left c.close.result.items c.end_of.ensures.0 c.work-found.result.0 c.requires.over c.requires.few
    (subst (λ (t : TokensValue). Works schema base engines.confs t left) seated c.work-found.ensures.works)
    (subst (λ (t : TokensValue). LeadsTo schema base engines.confs (documents_from c.args.number c.args.docs) c.work-found.result.0 t left) seated c.work-found.ensures.finds)
    (ended_one g.D.Disk schema base opened _ engines.workers c.put.new.self.seats left c.close.result.items (ap length c.requires.over.is) c.requires.alone
    (put_one engines c.args.named.ending c.put.new.self left c.requires.room c.put.ensures) c.close.ensures)
    c.end_of.ensures.1)

pub returns-clause-summary : goal.returns-clause-summary
returns-clause-summary g c =
    let schema = g.J.Naming.schema in
    let base = g.J.Naming.base in
    let opened = g.J.Naming.opened in
    let engines = c.args.named.engines in
    let left : TokensValue = c.work-found.result.1 in
    let seated : c.take_last.result ≡ first_tokens = first_last c.args.named.seats.items c.take_last.new.self.items c.take_last.result first_tokens c.take_last.ensures.items c.requires.seats in
    answered_so (IsSummary (documents_from c.args.number c.args.docs)) c.work-found.result.0 c.end_of.result c.answer.result c.answer.ensures
    (λ well. found_well g.D.Disk
    (record { each_has = c.each_text_has_pieces.ensures; no_fault = c.a_query_has_no_fault.ensures; one_query = c.a_text_is_one_query.ensures; one_table = c.a_text_is_read_in_one_way.ensures.values })
    schema base opened engines.confs c.args.number c.args.docs left c.close.result.items c.end_of.ensures.0 c.work-found.result.0 c.requires.over c.requires.few
    (subst (λ (t : TokensValue). Works schema base engines.confs t left) seated c.work-found.ensures.works)
    (subst (λ (t : TokensValue). LeadsTo schema base engines.confs (documents_from c.args.number c.args.docs) c.work-found.result.0 t left) seated c.work-found.ensures.finds)
    (ended_one g.D.Disk schema base opened _ engines.workers c.put.new.self.seats left c.close.result.items (ap length c.requires.over.is) c.requires.alone
    (put_one engines c.args.named.ending c.put.new.self left c.requires.room c.put.ensures) c.close.ensures)
    c.end_of.ensures.1 (sym c.end_of.ensures.2 ∙ well))

pub returns-clause-ends : goal.returns-clause-ends
returns-clause-ends g c =
    let schema = g.J.Naming.schema in
    let base = g.J.Naming.base in
    let opened = g.J.Naming.opened in
    let engines = c.args.named.engines in
    let left : TokensValue = c.work-found.result.1 in
    let seated : c.take_last.result ≡ first_tokens = first_last c.args.named.seats.items c.take_last.new.self.items c.take_last.result first_tokens c.take_last.ensures.items c.requires.seats in
    ends_so g.D.Disk
    (record { each_has = c.each_text_has_pieces.ensures; no_fault = c.a_query_has_no_fault.ensures; one_query = c.a_text_is_one_query.ensures; one_table = c.a_text_is_read_in_one_way.ensures.values })
    schema base opened engines.confs c.args.number c.args.docs left c.close.result.items c.end_of.ensures.0 c.work-found.result.0 c.requires.over c.requires.few
    (subst (λ (t : TokensValue). Works schema base engines.confs t left) seated c.work-found.ensures.works)
    (subst (λ (t : TokensValue). LeadsTo schema base engines.confs (documents_from c.args.number c.args.docs) c.work-found.result.0 t left) seated c.work-found.ensures.finds)
    (ended_one g.D.Disk schema base opened _ engines.workers c.put.new.self.seats left c.close.result.items (ap length c.requires.over.is) c.requires.alone
    (put_one engines c.args.named.ending c.put.new.self left c.requires.room c.put.ensures) c.close.ensures)
    c.end_of.ensures.1 c.answer.result
    (subst (λ (end : Result (Unit {0}) (Or Strayed)). IsAnswered c.work-found.result.0 end c.answer.result) c.end_of.ensures.2 c.answer.ensures)
