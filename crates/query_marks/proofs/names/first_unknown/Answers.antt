use Rattle.std.proofs.Common.{rules}
use Rattle.std.proofs.lemmas.Iterator.Search.{find_from_yields_List}
use Rattle.std.proofs.lemmas.Iterator.Splits.{YieldsList-from_slice_split}
use Rattle.std.specs.Prelude.{◌==◌}
use borrow.Author.Tests.{tests}
use Rattle.query_marks.specs.LimitNames.{is_unknown}
use Rattle.query_marks.proofs.names.first_unknown.Goals as goal

pub returns : goal.returns
returns c = find_from_yields_List (is_unknown c.args.list.now) _ _ _ c.find.ensures.ran
    (YieldsList-from_slice_split _ (λ b. b == 44) c.args.names.now c.split.ensures.rest c.split.ensures.done c.split.ensures.closure (λ x b q k. search (rules, tests)))
    (λ x b q k. search (rules, tests))
