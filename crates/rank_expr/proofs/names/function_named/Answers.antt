use Rattle.std.specs.Str.{str_to_ascii_lowercase}
use Rattle.name_table.proofs.NamedLemmas.{value_found, value_not_found}
use Rattle.rank_expr.specs.Pieces.{function_words, function_values}
use Rattle.rank_expr.proofs.names.function_named.Goals as goal

pub returns-in-Some : goal.returns-in-Some
returns-in-Some c =
    value_found c.function_table.result function_words function_values (str_to_ascii_lowercase c.args.name.now) c.in-Some.place c.function_at.result c.function_table.ensures.words c.function_table.ensures.order c.in-Some.ensures c.function_at.ensures

pub returns-in-None : goal.returns-in-None
returns-in-None c = value_not_found c.function_table.result function_words function_values (str_to_ascii_lowercase c.args.name.now) c.function_table.ensures.words c.in-None.ensures
