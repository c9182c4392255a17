use Rattle.std.proofs.Common.{◌≤◌, sym, arith}
use Rattle.std.proofs.lemmas.Option.{slice_get_past}
use Rattle.ql_grammar.specs.Keywords.{keyword_values}
use Rattle.ql_grammar.proofs.keyword.keyword_at.Goals as goal

pub returns : goal.returns
returns c =
    let past : 58 ≤ c.args.place = omega arith in
    sym (slice_get_past keyword_values c.args.place past)
