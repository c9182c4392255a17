use Rattle.std.proofs.Common.{◌∙◌, ap}
use Rattle.std.proofs.lemmas.List.{take_all}
use Rattle.table_search.specs.Keywords.{first_keys}
use Rattle.table_search.specs.steps.Counting.{lent}
use Rattle.table_search.proofs.OnceKeys.{first_more}
use Rattle.table_search.proofs.keywords.first_keys.Goals as goal

pub loop-key-preserved : goal.loop-key-preserved
loop-key-preserved c =
    first_more c.args.all.now c.loop-key.key-index c.key-item.result c.loop-key.keys.items c.put_first.new.keys.items c.loop-key-test.true c.key-item.is c.loop-key.invariant c.in_ok-put_first.ensures

pub returns : goal.returns
returns c = c.loop-key.invariant ∙ ap first_keys (ap lent (take_all c.loop-key.key-index c.args.all.now c.loop-key-test.false))
