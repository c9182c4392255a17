use Rattle.ql_answers.proofs.OneReply.{one_reply, one_state}
use Rattle.ql_answers.proofs.laws.a_plan_has_one_reply.Goals as goal

pub returns-clause-reply : goal.returns-clause-reply
returns-clause-reply c =
    let searches = c.a_search_finds_the_same.ensures in
    let many = c.too_many_words_are_so_many.ensures in
    one_reply c.a_select_finds_the_same.ensures.tables c.a_select_finds_the_same.ensures.words searches.first searches.apart many.count many.none many.nobody

pub returns-clause-state : goal.returns-clause-state
returns-clause-state c = one_state
