use Rattle.std.specs.Str.{str_to_ascii_lowercase}
use Rattle.name_table.proofs.NamedLemmas.{value_found, value_not_found}
use Rattle.ql_grammar.specs.Keywords.{keyword_words, keyword_values, keyword_named}
use Rattle.ql_grammar.proofs.keyword.keyword_named.Goals as goal

pub returns-in-Some : goal.returns-in-Some
unfolding keyword_named
returns-in-Some c = value_found c.keyword_table.result keyword_words keyword_values (str_to_ascii_lowercase c.args.name.now) c.in-Some.place c.keyword_at.result c.keyword_table.ensures.words c.keyword_table.ensures.order c.in-Some.ensures c.keyword_at.ensures

pub returns-in-None : goal.returns-in-None
unfolding keyword_named
returns-in-None c = value_not_found c.keyword_table.result keyword_words keyword_values (str_to_ascii_lowercase c.args.name.now) c.keyword_table.ensures.words c.in-None.ensures
