use Rattle.name_table.proofs.NamedLemmas.{value_found, value_not_found}
use Rattle.std.specs.Str.{str_to_ascii_lowercase}
use Rattle.conf_text.specs.Keys.{key_named, key_values, key_words}
use Rattle.conf_text.proofs.keys.Key.named.Goals as goal

pub returns-in-Some : goal.returns-in-Some
unfolding key_named
returns-in-Some c = value_found c.key_table.result key_words key_values (str_to_ascii_lowercase c.args.word.now) c.in-Some.place c.key_at.result c.key_table.ensures.words c.key_table.ensures.order c.in-Some.ensures c.key_at.ensures

pub returns-in-None : goal.returns-in-None
unfolding key_named
returns-in-None c = value_not_found c.key_table.result key_words key_values (str_to_ascii_lowercase c.args.word.now) c.key_table.ensures.words c.in-None.ensures
