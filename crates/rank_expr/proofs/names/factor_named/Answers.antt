use Rattle.std.specs.Str.{str_to_ascii_lowercase}
use Rattle.name_table.proofs.NamedLemmas.{value_found, value_not_found}
use Rattle.rank_expr.specs.Pieces.{factor_words, factor_leaves}
use Rattle.rank_expr.proofs.names.factor_named.Goals as goal

pub returns-in-Some : goal.returns-in-Some
returns-in-Some c =
    value_found c.factor_table.result factor_words factor_leaves (str_to_ascii_lowercase c.args.name.now) c.in-Some.place c.factor_at.result c.factor_table.ensures.words c.factor_table.ensures.order c.in-Some.ensures c.factor_at.ensures

pub returns-in-None : goal.returns-in-None
returns-in-None c = value_not_found c.factor_table.result factor_words factor_leaves (str_to_ascii_lowercase c.args.name.now) c.factor_table.ensures.words c.in-None.ensures
