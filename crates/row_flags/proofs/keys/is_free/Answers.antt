use Rattle.std.proofs.Common.{rules, tests, sym, ◌∙◌, arith}
use Rattle.std.proofs.lemmas.Iterator.{YieldsList-from_range}
use Rattle.std.proofs.lemmas.Iterator.Search.{all_from_yields_List}
use Rattle.word_rows.specs.Keywords.{has_field}
use Rattle.word_rows.proofs.Zipped.{each_in_range}
use Rattle.row_flags.proofs.keys.is_free.Goals as goal

pub returns : goal.returns
returns c = λ free.
    each_in_range (has_field c.args.key.now.limit.fields) c.args.fields
    (sym (all_from_yields_List (has_field c.args.key.now.limit.fields) _ _ c.all.result c.all.ensures.ran (YieldsList-from_range 0 c.args.fields c.args.fields (search rules) (omega arith)) (λ x b q k. search (rules, tests))) ∙ free)
